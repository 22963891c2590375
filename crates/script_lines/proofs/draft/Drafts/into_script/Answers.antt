use Rattle.std.proofs.Common.{ap}
use Rattle.script_lines.specs.Plan.{Plan}
use Rattle.script_lines.proofs.Parts.{script_is_sound}
use Rattle.script_lines.proofs.draft.Drafts.into_script.Goals as goal

pub into_ended-requires : goal.into_ended-requires
into_ended-requires c =
    let ended = c.in-Ok.ensures in
    script_is_sound c.args.self.tasks c.args.self.templates c.args.self.on_template _ _ _ c.requires.whole.0 c.requires.whole.1 c.requires.fit
    (ap (λ (p : Plan). p.tasks) ended) (ap (λ (p : Plan). p.wires) ended) (ap (λ (p : Plan). p.templates) ended)
