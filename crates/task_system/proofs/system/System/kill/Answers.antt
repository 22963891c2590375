use Rattle.std.proofs.Common.{◌≡◌, true, rules, subst, List}
use Rattle.std.specs.Prelude.{OnErr}
use Rattle.ipc_ids.specs.declared.entry.Entry.{Entry}
use Rattle.switchboard.specs.State.{is_alive}
use Rattle.task_system.specs.Run.{TellsPart}
use Rattle.task_system.proofs.Stepping.{kill_told}
use Rattle.task_system.proofs.Taking.{took_more}
use Rattle.task_system.proofs.system.System.kill.Goals as goal

pub invariant_of-self : goal.invariant_of-self
invariant_of-self c = (took_more c.self.inside.kernel.events c.kill_task.new.kernel.events c.self.inside.programs.items c.kill_task.ensures.rises c.self.invariant.0, c.self.invariant.1)

pub returns-clause-part : goal.returns-clause-part
returns-clause-part c =
    let alive : is_alive c.self.inside.kernel c.args.task ≡ true = search rules in
    subst
    (λ (es : List Entry). OnErr c.kill_task.result (TellsPart c.args.out.now c.kill_task.new.out es))
    (kill_told (record { kernel = c.self.inside.kernel; programs = c.self.inside.programs.items; templates = c.self.inside.templates; names = c.self.inside.names }) c.args.self.now c.args.task c.self.view_is alive)
    c.kill_task.ensures.part
