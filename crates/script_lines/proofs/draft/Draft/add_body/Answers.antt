use Rattle.std.proofs.Common.{Option, subst}
use Rattle.script_lines.specs.declared.draft.LastTask.{LastTask}
use Rattle.script_lines.specs.Draft.{last_plan, IsWhole}
use Rattle.script_lines.proofs.DraftSteps.{body_follows, last_whole}
use Rattle.script_lines.proofs.draft.Draft.add_body.Goals as goal

pub returns-in-Some-clause-value : goal.returns-in-Some-clause-value
returns-in-Some-clause-value c = rw c.in-Some.is (body_follows c.args.self.now.done c.args.self.now.wires (last_plan c.in-Some.last) (last_plan c.add_body.new.self) c.args.connection c.add_body.result c.add_body.ensures.value)

pub returns-in-Some-clause-whole : goal.returns-in-Some-clause-whole
returns-in-Some-clause-whole c =
    let d = c.args.self.now in
    let whole = subst (λ (last : Option LastTask). IsWhole (record { done = d.done; last = last; wires = d.wires; names = d.names })) c.in-Some.is c.requires.whole in
    last_whole d.done d.wires d.names c.in-Some.last c.add_body.new.self c.add_body.result whole c.add_body.ensures.head c.add_body.ensures.sound
