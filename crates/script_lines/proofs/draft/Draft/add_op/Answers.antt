use Rattle.std.proofs.Common.{Option, subst}
use Rattle.script_lines.specs.declared.draft.LastTask.{LastTask}
use Rattle.script_lines.specs.Draft.{last_plan, IsWhole}
use Rattle.script_lines.proofs.DraftSteps.{op_follows, last_whole}
use Rattle.script_lines.proofs.draft.Draft.add_op.Goals as goal

pub returns-in-Some-clause-value : goal.returns-in-Some-clause-value
returns-in-Some-clause-value c = rw c.in-Some.is (op_follows c.args.self.now.done c.args.self.now.wires (last_plan c.in-Some.last) (last_plan c.add_op.new.self) c.args.op c.add_op.result c.add_op.ensures.value)

pub returns-in-Some-clause-whole : goal.returns-in-Some-clause-whole
returns-in-Some-clause-whole c =
    let d = c.args.self.now in
    let whole = subst (λ (last : Option LastTask). IsWhole (record { done = d.done; last = last; wires = d.wires; names = d.names })) c.in-Some.is c.requires.whole in
    last_whole d.done d.wires d.names c.in-Some.last c.add_op.new.self c.add_op.result whole c.add_op.ensures.head c.add_op.ensures.sound
