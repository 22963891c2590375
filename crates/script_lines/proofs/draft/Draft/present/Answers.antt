use Rattle.std.proofs.Common.{◌∙◌, sym}
use Rattle.script_lines.proofs.DraftSteps.{present_is}
use Rattle.script_lines.proofs.draft.Draft.present.Goals as goal

pub returns-clause-value : goal.returns-clause-value
returns-clause-value c = c.taker.ensures ∙ sym (present_is c.args.self.now c.requires)
