use Rattle.std.proofs.Common.{◌∙◌, sym}
use Rattle.script_lines.proofs.DraftSteps.{takes_bodies_is}
use Rattle.script_lines.proofs.draft.Draft.takes_bodies.Goals as goal

pub returns-clause-value : goal.returns-clause-value
returns-clause-value c = c.last_is_async.ensures ∙ sym (takes_bodies_is c.args.self.now c.requires)
