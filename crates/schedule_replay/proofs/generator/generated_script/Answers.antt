use Rattle.schedule_replay.proofs.GeneratedScript.{plan_is, parts_are_sound}
use Rattle.schedule_replay.proofs.generator.generated_script.Goals as goal

pub invariant_of-result : goal.invariant_of-result
invariant_of-result c = parts_are_sound c.in_ok-tasks.tasks c.in_ok-wires.wires c.new.result c.in_ok-tasks.ensures c.in_ok-wires.ensures c.new.ensures

pub returns : goal.returns
returns c = plan_is c.in_ok-tasks.tasks c.in_ok-wires.wires c.new.result c.in_ok-tasks.ensures c.in_ok-wires.ensures c.new.ensures
