use Rattle.std.proofs.Common.{◌∙◌, sym, ap}
use Rattle.script_lines.specs.Draft.{is_full}
use Rattle.script_lines.proofs.DraftSteps.{new_body_whole}
use Rattle.script_lines.proofs.draft.LastTask.add_body.Goals as goal

pub returns-clause-sound : goal.returns-clause-sound
returns-clause-sound c =
    let room = ap (is_full c.args.connection) (sym c.as_slice.ensures) ∙ sym c.if-is_full.ensures in
    new_body_whole c.args.self.now c.end_body.new.self c.args.connection c.new.result c.requires.sound c.requires.async_task c.in_ok-end_body.ensures.head c.in_ok-end_body.ensures.bodies c.new.ensures room
