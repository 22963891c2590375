-- The run of a sound script keeps the laws, under every schedule.
use Rattle.std.proofs.Common.{◌≡◌, List, subst, length}
use Rattle.ipc_ids.specs.declared.message.Event.{Event}
use Rattle.ipc_ids.specs.declared.entry.Entry.{Entry}
use Rattle.ipc_ids.proofs.LawfulReplies.{replies_reach_their_fibril}
use Rattle.ipc_ids.proofs.LawfulExchanges.{exchanges_are_lawful}
use Rattle.script_lines.specs.Plan.{Plan}
use Rattle.script_lines.specs.Sound.{IsSound}
use Rattle.script_reader.specs.Schedule.{MayAllCome}
use Rattle.kernel_core.proofs.WholeHistories.{laws_of_history, area_law_of_history}
use Rattle.task_system.specs.Run.{RunState, start, run, state_after}
use Rattle.route_laws.proofs.PhoneEvents.{calls_go_where_phones_lead}
use Rattle.run_laws.specs.RunHistory.{beginning, RunFits}
use Rattle.run_laws.specs.LawfulRun.{KeepsLaws, LosesNoWake, IsLawfulRun}
use Rattle.run_laws.proofs.RunHistories.{run_told, part_told, fitting_keeps_wakes, facts_are_lawful}
use Rattle.run_laws.proofs.ServiceRuns.{ends_are_told, blocks_are_kept}

laws_kept : (plan : Plan) (events : List Event) → RunFits (beginning plan) (run plan events) (state_after (start plan) events) → KeepsLaws plan (run plan events)
laws_kept plan events told =
    let h : List Entry = run plan events in
    let now : RunState = state_after (start plan) events in
    let laws = laws_of_history h now.kernel told.kernel in
    let facts = facts_are_lawful (beginning plan) h now told in
    record {
      lives = laws.0;
      answers = laws.1;
      kills = laws.2;
      phones = calls_go_where_phones_lead (beginning plan) h now.kernel told.kernel told.routes;
      areas = area_law_of_history h now.kernel told.kernel;
      replies = replies_reach_their_fibril h (λ t. (facts t).0) (λ t. (facts t).1);
      exchanges = exchanges_are_lawful h (λ t. (facts t).2);
      ends = ends_are_told plan events told;
      blocks = λ i is. blocks_are_kept plan events i told is;
    }

wakes_kept : (plan : Plan) (events : List Event) → IsSound plan → MayAllCome (length plan.tasks) (length plan.templates) events → LosesNoWake plan events
wakes_kept plan events sound may done rest is =
    fitting_keeps_wakes (beginning plan) (run plan done) (state_after (start plan) done)
    (part_told plan done rest sound (subst (λ (es : List Event). MayAllCome (length plan.tasks) (length plan.templates) es) is may))

-- the run of a sound script
pub run_is_lawful : (plan : Plan) (events : List Event) → IsSound plan → MayAllCome (length plan.tasks) (length plan.templates) events → IsLawfulRun plan events
run_is_lawful plan events sound may = record {
  laws = laws_kept plan events (run_told plan events sound may);
  wakes = wakes_kept plan events sound may;
}

-- the same of a script that is known by an equation
pub lawful_of_script : (plan script : Plan) (events : List Event) → plan ≡ script → IsSound plan → MayAllCome (length script.tasks) (length script.templates) events → IsLawfulRun script events
lawful_of_script plan script events same sound may = run_is_lawful script events (subst IsSound same sound) may
