use Rattle.std.proofs.Common.{ℕ, List, Option, drop, length}
use Rattle.std.specs.Borrow.{Bor}
use Rattle.std.proofs.lemmas.List.{take_rest}
use Rattle.script_lines.specs.Text.{first_line}
use Rattle.script_lines.specs.Line.{after_line}
use Rattle.script_lines.specs.ScriptParts.{parts_of}
use Rattle.script_lines.proofs.LastLines.{same_line, same_behind, fault_follows}
use Rattle.script_lines.proofs.line.add_line.Goals as goal

pub returns-in-Ok-clause-value : goal.returns-in-Ok-clause-value
returns-in-Ok-clause-value c =
    let line = c.in-Some.line.now in
    let text = c.args.text.now in
    let front = c.begins_with.ensures.front c.if-begins_with.true in
    rw c.in-Ok.is at (same_line c.args.drafts.now c.repeat_op.new.drafts line text (drop (length line) text) c.repeat_op.result c.requires.whole (rw c.in-Some.is at c.requires.kept) front c.repeat_op.ensures.value)

pub returns-in-Ok-clause-behind : goal.returns-in-Ok-clause-behind
returns-in-Ok-clause-behind c =
    let line = c.in-Some.line.now in
    let text = c.args.text.now in
    let front = c.begins_with.ensures.front c.if-begins_with.true in
    rw take_rest (same_behind c.args.drafts.now line text (drop (length line) text) (rw c.in-Some.is at c.requires.kept) front)

pub returns-in-Err-clause-value : goal.returns-in-Err-clause-value
returns-in-Err-clause-value c =
    let line = c.in-Some.line.now in
    let text = c.args.text.now in
    let front = c.begins_with.ensures.front c.if-begins_with.true in
    fault_follows (Option (Bor (List ℕ))) c.repeat_op.result c.in-Err.fault (parts_of c.repeat_op.new.drafts) (after_line (parts_of c.args.drafts.now) (first_line text)) c.in-Err.is
    (same_line c.args.drafts.now c.repeat_op.new.drafts line text (drop (length line) text) c.repeat_op.result c.requires.whole (rw c.in-Some.is at c.requires.kept) front c.repeat_op.ensures.value)
