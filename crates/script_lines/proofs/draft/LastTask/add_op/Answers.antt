use Rattle.script_lines.specs.Draft.{last_plan}
use Rattle.script_lines.proofs.DraftSteps.{task_follows, no_op_follows, op_whole}
use Rattle.script_lines.proofs.draft.LastTask.add_op.Goals as goal

pub returns-in-None-clause-value : goal.returns-in-None-clause-value
returns-in-None-clause-value c = no_op_follows c.args.self.now c.args.op c.in-None.is c.requires.sound.1

pub returns-in-Some-clause-value : goal.returns-in-Some-clause-value
returns-in-Some-clause-value c = rw c.in-Some.is (task_follows (last_plan c.args.self.now) c.args.self.now.bodies c.in-Some.body c.add_op_to.new.body c.args.op c.add_op_to.result c.add_op_to.ensures.value)

pub returns-in-Some-clause-sound : goal.returns-in-Some-clause-sound
returns-in-Some-clause-sound c = op_whole c.args.self.now c.in-Some.body c.add_op_to.new.body c.args.op c.add_op_to.result c.in-Some.is c.requires.sound.0 c.requires.of_kind c.add_op_to.ensures.value
