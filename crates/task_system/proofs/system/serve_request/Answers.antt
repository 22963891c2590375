use Rattle.ipc_ids.specs.declared.entry.Entry.TheVariants.{Head, Outcome}
use Rattle.kernel_core.specs.Kernel.{serve}
use Rattle.task_system.proofs.Stepping.{told_whole}
use Rattle.task_system.proofs.system.serve_request.Goals as goal

pub returns-clause-entries : goal.returns-clause-entries
returns-clause-entries c =
    let served = serve c.args.kernel.now c.args.task c.args.request.now in
    told_whole c.args.out.now.entries c.reserve.new.self.entries c.tell_request.new.out.entries c.serve.new.out.entries
    c.reserve-2.new.self.entries c.tell_outcome.new.out.entries served.entries (Head c.args.task c.args.request.now)
    (Outcome served.outcome) c.reserve.ensures.entries c.tell_request.ensures.entries c.in_ok-outcome.ensures.entries c.reserve-2.ensures.entries
    (rw c.in_ok-outcome.ensures.outcome at c.tell_outcome.ensures.entries)
