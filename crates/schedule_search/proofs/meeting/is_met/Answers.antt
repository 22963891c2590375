use Rattle.std.proofs.Common.{◌∙◌, List, sym, subst}
use Rattle.ipc_ids.specs.declared.message.Event.{Event}
use Rattle.task_system.specs.Run.{RunState}
use Rattle.run_words.specs.Reached.{IsReached, spawns_of}
use Rattle.schedule_search.specs.Search.{state_behind}
use Rattle.schedule_search.specs.Problem.{search_of}
use Rattle.schedule_search.proofs.Behind.{reached_by_all}
use Rattle.schedule_search.proofs.meeting.is_met.Goals as goal

pub all_hold-requires : goal.all_hold-requires
all_hold-requires c =
    record {
      reached =
          subst (λ (z : RunState). IsReached c.args.problem.now.script.now (spawns_of c.as_slice-in-When.result.now) z)
          (sym (c.system.ensures ∙ c.requires.here))
          (subst (λ (z : List Event). IsReached c.args.problem.now.script.now (spawns_of z)
          (state_behind (search_of c.args.problem.now) c.args.events.now))
          (sym (c.as_slice-in-When.ensures.value ∙ c.in_ok-all-in-When.ensures))
          (reached_by_all (search_of c.args.problem.now) c.requires.can.sound c.args.events.now c.requires.can.tried));
    }
