use Rattle.task_system.proofs.Taking.{took_more}
use Rattle.task_system.proofs.system.System.hang_up.Goals as goal

pub invariant_of-self : goal.invariant_of-self
invariant_of-self c = (took_more c.self.inside.kernel.events c.serve_request.new.kernel.events c.self.inside.programs.items c.serve_request.ensures.rises c.self.invariant.0, c.self.invariant.1)
