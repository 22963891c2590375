use Rattle.std.proofs.Common.{rules}
use Rattle.script_lines.proofs.DraftSteps.{wire_whole}
use Rattle.script_lines.proofs.draft.Draft.add_wire.Goals as goal

pub returns-clause-whole : goal.returns-clause-whole
returns-clause-whole c = wire_whole c.args.self.now c.push.new.self c.in-Some.from c.args.phone c.in-Some-place_of.to c.requires.whole c.in_ok-push.ensures.ok (search rules) (search rules) (search rules) (search rules) (search rules)
