-- After each event of a run argument 5 of a CONNECT_ME_TO tells the phone that is kept for it.
use Rattle.std.proofs.Common.{◌≡◌, ◌+◌, ◌*◌, ◌-◌, inr, List, length, Option, None, Some, refl, ap, sym, subst, ◌∙◌, []}
use Rattle.std.specs.Prelude.{slice_index, IsSome}
use Rattle.std.proofs.lemmas.Option.{none-some, same_Some}
use Rattle.ipc_ids.specs.declared.numbers.Label.{Label}
use Rattle.ipc_ids.specs.declared.methods.MethodKind.{MethodKind}
use Rattle.ipc_ids.specs.declared.methods.MethodKind.TheVariants.{ConnectMeTo}
use Rattle.ipc_ids.specs.declared.message.Event.{Event}
use Rattle.ipc_ids.specs.declared.message.Request.TheVariants as request
use Rattle.ipc_ids.specs.declared.entry.Entry.{Entry}
use Rattle.ipc_ids.specs.Methods.{kind_of}
use Rattle.ipc_ids.specs.Holdings.{newest_first}
use Rattle.script_lines.specs.Plan.{Plan}
use Rattle.script_lines.specs.Sound.{IsSound}
use Rattle.script_reader.specs.Schedule.{MayAllCome}
use Rattle.call_slab.specs.declared.call.Place.{Place}
use Rattle.switchboard.specs.Board.{IsPendingAt}
use Rattle.switchboard.specs.Kept.{keeper_of, kept_phone}
use Rattle.switchboard.specs.Sound.{NeedsPhone}
use Rattle.kernel_laws.specs.Connecting.{TellPhones}
use Rattle.kernel_laws.proofs.ArgumentFive.{serve_tells, kill_tells, spawn_tells}
use Rattle.kernel_determined.proofs.SettleSo.{kept_is}
use Rattle.task_system.specs.Any.{wanted}
use Rattle.task_system.specs.Run.{RunState, RunTransition, start, run, state_after, turn}
use Rattle.route_laws.specs.Leads.{Beginning}
use Rattle.run_laws.specs.RunHistory.{beginning, RunFits}
use Rattle.run_laws.proofs.RunHistories.{start_told, run_told}
use Rattle.run_determined.specs.PhoneCauses.{asked_for}
use Rattle.run_determined.specs.ToldPhones.{TellKeptPhones, ConnectCallsTellTheirPhone}
use Rattle.program_examples.specs.FiveArguments.{ScriptGivesFive}
use Rattle.run_determined.proofs.ByEvent as happens
use Rattle.run_determined.proofs.ByEvent.{Happens, what_happens, states_keep, may_part}
use Rattle.run_determined.proofs.AskedMessages.{IsOfFiveNow, asks_with_five, turn_of_five, start_of_five, has_five}
use Rattle.run_determined.proofs.CauseSteps.{IsKeptAs}
use Rattle.run_determined.proofs.CauseEvents.{CausesKept}
use Rattle.run_determined.proofs.CauseRuns.{run_causes}

-- ---- each event keeps what argument 5 tells

-- argument 5 tells the phones, and what is asked has five arguments
record TellsNow (now : RunState) : Type 0 where
  pub tells : TellPhones now.kernel.calls
  pub five : IsOfFiveNow now

turned : (now : RunState) (e : Event) (next : RunTransition) → Happens now e next → TellsNow now
    → TellPhones next.state.kernel.calls
turned now e next (happens.served t p _ at) it =
    serve_tells now.kernel t (wanted p) it.tells
    (has_five (wanted p) (asks_with_five p (it.five.programs (t.0 - 1) p at)))
turned now e next (happens.killed t _) it = kill_tells now.kernel t it.tells
turned now e next (happens.hung_up t phone _) it = serve_tells now.kernel t (request.Hangup phone) it.tells tt
turned now e next (happens.spawned place template _ _) it = spawn_tells now.kernel template.limit now.names it.tells
turned now e next _ it = it.tells

turn_tells : (now : RunState) (e : Event) → TellsNow now → TellsNow (turn now e).state
turn_tells now e it = record {
  tells = turned now e (turn now e) (what_happens now e) it;
  five = turn_of_five now e it.five;
}

-- ---- and the entries say which phone that is

told_phones : (b : Beginning) (h : List Entry) (now : RunState) → RunFits b h now → CausesKept b h now.kernel
    → TellPhones now.kernel.calls → TellKeptPhones (newest_first h) now.kernel.calls
told_phones b h now told causes tells n c t l is at asks kept = by_phone c.reserved refl has where
  kind : kind_of c.request.method ≡ ConnectMeTo
  kind = ap kind_of asks

  keeps : kept_phone c ≡ c.reserved
  keeps =
      (kept_is now.kernel now.kernel.tasks refl n c (told.kernel.sound.calls.each n c is)
      (subst IsPendingAt (sym at) tt)).connect (inr asks)

  has : IsSome c.reserved
  has =
      (told.kernel.sound.calls.each n c is).reserved.needed
      (subst (λ (x : MethodKind). NeedsPhone (keeper_of x) c.place c.reply.code) (sym kind)
      (subst (λ (place : Place). NeedsPhone (keeper_of ConnectMeTo) place c.reply.code) (sym at) tt))

  by_phone : (o : Option Label) → c.reserved ≡ o → IsSome o → slice_index c.msg.args 4 ≡ 64 * l.task.0 + l.phone.0
  by_phone None e some = absurd (cc some)
  by_phone (Some m) e some =
      let own : asked_for n (newest_first h) ≡ Some m =
      subst (λ (x : MethodKind). IsKeptAs x n m (newest_first h)) kind (causes.fit.kept n c m is (keeps ∙ e)) in
      let same : m ≡ l = same_Some m l (sym own ∙ kept) in
      subst (λ (x : Label). slice_index c.msg.args 4 ≡ 64 * x.task.0 + x.phone.0) same ((tells n c is).me_to m asks e)

pub calls_tell_their_phone : (plan : Plan) (events : List Event) → IsSound plan → ScriptGivesFive plan
    → MayAllCome (length plan.tasks) (length plan.templates) events → ConnectCallsTellTheirPhone plan events
calls_tell_their_phone plan events sound five may done later is =
    let first = may_part plan events done later is may in
    let begun : RunFits (beginning plan) [] (start plan) = start_told plan sound in
    told_phones (beginning plan) (run plan done) (state_after (start plan) done) (run_told plan done sound first)
    (run_causes plan done sound first)
    (states_keep TellsNow turn_tells (start plan) done (record {
      tells = λ n c at. absurd (none-some _ (begun.kernel.areas.calls n c at).made);
      five = start_of_five plan five;
    })).tells
