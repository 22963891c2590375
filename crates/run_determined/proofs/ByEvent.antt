-- What an event of a run comes to, case by case; and what each event keeps, all events keep.
use Rattle.std.proofs.Common.{◌≡◌, ℕ, ◌-◌, Bool, true, false, List, [], ◌∷◌, ◌++◌, length, Option, None, Some, refl, sym, subst, append_assoc}
use Rattle.std.specs.Prelude.{if◌then◌else◌, slice_get, All}
use Rattle.std.proofs.lemmas.List.{append-nil}
use Rattle.std.proofs.lemmas.Option.{get_or_from_slice_get, slice_get_within}
use Rattle.ipc_ids.specs.declared.numbers.TaskNo.{TaskNo}
use Rattle.ipc_ids.specs.declared.message.Request.TheVariants as request
use Rattle.ipc_ids.specs.declared.message.Event.{Event}
use Rattle.ipc_ids.specs.declared.message.Event.TheVariants.{Step, Kill, Hangup, Spawn}
use Rattle.ipc_ids.specs.declared.entry.Entry.{Entry}
use Rattle.script_lines.specs.declared.plan.TaskPlan.{TaskPlan}
use Rattle.script_lines.specs.Plan.{Plan}
use Rattle.script_lines.specs.Sound.{IsSound}
use Rattle.script_reader.specs.Schedule.{MayAllCome}
use Rattle.switchboard.specs.State.{is_alive}
use Rattle.kernel_core.specs.Kernel.{serve, kill_event}
use Rattle.task_system.specs.declared.any.AnyProgram.{AnyProgram}
use Rattle.task_system.specs.Any.{wanted}
use Rattle.task_system.specs.Run.{RunState, RunTransition, start, run, run_from, state_after, turn, MayAllHappen}
use Rattle.task_system.specs.Run as runs
use Rattle.route_laws.specs.Leads.{Beginning}
use Rattle.run_laws.specs.RunHistory.{beginning, RunFits}
use Rattle.run_laws.proofs.RunHistories.{turn_fits, start_told, later_may, may_from, may_first}

-- ---- one event

-- what this event comes to in this state of a run
pub data Happens (now : RunState) (e : Event) : RunTransition → Type 0 where
  gone : (t : TaskNo) → Happens now e (runs.gone now t)
  served : (t : TaskNo) (p : AnyProgram) → is_alive now.kernel t ≡ true → slice_get now.programs (t.0 - 1) ≡ Some p
      → Happens now e (runs.step_served now t p (serve now.kernel t (wanted p)))
  killed : (t : TaskNo) → is_alive now.kernel t ≡ true → Happens now e (runs.killed now t (kill_event now.kernel t))
  hung_up : (t : TaskNo) (phone : ℕ) → is_alive now.kernel t ≡ true
      → Happens now e (runs.request_served now t (request.Hangup phone) (serve now.kernel t (request.Hangup phone)))
  nothing : (place : ℕ) → e ≡ Spawn place → Happens now e (runs.spawn_by now None)
  spawned : (place : ℕ) (template : TaskPlan) → e ≡ Spawn place → slice_get now.templates place ≡ Some template
      → Happens now e (runs.spawn_by now (Some template))

module _ (now : RunState) where
  stepped : (t : TaskNo) (x : Bool) (o : Option AnyProgram) → is_alive now.kernel t ≡ x
      → slice_get now.programs (t.0 - 1) ≡ o → Happens now (Step t) (runs.step_by now t (if x then o else None))
  stepped t true None alive at = gone t
  stepped t true (Some p) alive at = served t p alive at
  stepped t false o alive at = gone t

  ended : (t : TaskNo) (x : Bool) → is_alive now.kernel t ≡ x
      → Happens now (Kill t) (if x then runs.killed now t (kill_event now.kernel t) else runs.gone now t)
  ended t true alive = killed t alive
  ended t false alive = gone t

  asked_for : (t : TaskNo) (phone : ℕ) (x : Bool) → is_alive now.kernel t ≡ x
      → Happens now (Hangup t phone)
      (if x then runs.request_served now t (request.Hangup phone)
      (serve now.kernel t (request.Hangup phone)) else runs.gone now t)
  asked_for t phone true alive = hung_up t phone alive
  asked_for t phone false alive = gone t

  made : (place : ℕ) (o : Option TaskPlan) → slice_get now.templates place ≡ o
      → Happens now (Spawn place) (runs.spawn_by now o)
  made place None at = nothing place refl
  made place (Some template) at = spawned place template refl at

  pub what_happens : (e : Event) → Happens now e (turn now e)
  what_happens (Step t) = stepped t (is_alive now.kernel t) (slice_get now.programs (t.0 - 1)) refl refl
  what_happens (Kill t) = ended t (is_alive now.kernel t) refl
  what_happens (Hangup t phone) = asked_for t phone (is_alive now.kernel t) refl
  what_happens (Spawn place) = made place (slice_get now.templates place) refl

-- ---- all events

-- what each event keeps of the states, all events keep
pub states_keep : (K : RunState → Type 0) → ((now : RunState) (e : Event) → K now → K (turn now e).state)
    → (now : RunState) (events : List Event) → K now → K (state_after now events)
states_keep K keep now [] it = it
states_keep K keep now (e ∷ events) it = states_keep K keep (turn now e).state events (keep now e it)

-- what each event keeps of what is told so far and of the state, where they fit each other, all events keep
module _ (b : Beginning) (K : List Entry → RunState → Type 0)
    (keep : (h : List Entry) (now : RunState) (e : Event) → RunFits b h now
    → RunFits b (h ++ (turn now e).entries) (turn now e).state → K h now
    → K (h ++ (turn now e).entries) (turn now e).state) where
  pub events_keep : (h : List Entry) (now : RunState) (events : List Event) → RunFits b h now
      → MayAllHappen now events → K h now → K (h ++ run_from now events) (state_after now events)
  events_keep h now [] told may it = subst (λ (es : List Entry). K es now) (sym (append-nil h)) it
  events_keep h now (e ∷ events) told may it =
      let next : RunTransition = turn now e in
      let after : RunFits b (h ++ next.entries) next.state = turn_fits b h now told e may.0 in
      subst (λ (es : List Entry). K es (state_after next.state events))
      (append_assoc h next.entries (run_from next.state events))
      (events_keep (h ++ next.entries) next.state events after (later_may now e events may) (keep h now e told after it))

-- so a run keeps it that had it at first
pub run_keeps : (plan : Plan) (events : List Event) → IsSound plan
    → MayAllCome (length plan.tasks) (length plan.templates) events → (K : List Entry → RunState → Type 0)
    → ((h : List Entry) (now : RunState) (e : Event) → RunFits (beginning plan) h now
    → RunFits (beginning plan) (h ++ (turn now e).entries) (turn now e).state → K h now
    → K (h ++ (turn now e).entries) (turn now e).state)
    → K [] (start plan) → K (run plan events) (state_after (start plan) events)
run_keeps plan events sound may K keep first =
    events_keep (beginning plan) K keep [] (start plan) events (start_told plan sound)
    (may_from plan events (start plan) refl may) first

-- ---- a first part of a schedule

-- what a schedule may ask, so may a first part of it
pub may_part : (plan : Plan) (events done later : List Event) → events ≡ done ++ later
    → MayAllCome (length plan.tasks) (length plan.templates) events
    → MayAllCome (length plan.tasks) (length plan.templates) done
may_part plan events done later is may =
    may_first (length plan.tasks) (length plan.templates) done later
    (subst (MayAllCome (length plan.tasks) (length plan.templates)) is may)

-- what holds of each element of a list holds of the one at a place
pub all_at : {A : Type 0} (P : A → Type 0) (xs : List A) (i : ℕ) (x : A) → All P xs → slice_get xs i ≡ Some x → P x
all_at P xs i x all at = subst P (get_or_from_slice_get xs i x x at) (all i x (slice_get_within xs i x at))
