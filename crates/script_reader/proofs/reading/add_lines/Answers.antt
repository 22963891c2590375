use Rattle.std.proofs.Common.{◌+◌, sym, ◌∙◌, arith}
use Rattle.script_lines.specs.Line.{after_line}
use Rattle.script_lines.specs.ScriptParts.{parts_of}
use Rattle.script_lines.proofs.Lines.{here, less_left}
use Rattle.script_reader.proofs.LineByLine.{next_line, faulty_line}
use Rattle.script_reader.proofs.reading.add_lines.Goals as goal

pub loop-left-smaller : goal.loop-left-smaller
loop-left-smaller c = rw c.in-Some.is (omega (arith, less_left c.in-Some.text.now (here c.in-Ok.others) c.in-Ok.ensures.behind))

pub loop-left-preserved : goal.loop-left-preserved
loop-left-preserved c =
    let text = c.in-Some.text.now in
    let told = rw c.in-Some.is at c.loop-left.invariant.told in
    let few = rw c.in-Some.is at c.loop-left.invariant.few in
    record {
      told = sym (next_line after_line (c.loop-left.line + 1) (parts_of c.loop-left.drafts) (parts_of c.add_line.new.drafts) text (here c.in-Ok.others) c.in-Ok.ensures.behind c.in-Ok.ensures.value) ∙ told;
      few = omega (arith, few, less_left text (here c.in-Ok.others) c.in-Ok.ensures.behind);
      whole = c.in-Ok.ensures.whole;
      kept = c.in-Ok.ensures.kept;
    }

pub returns-in-Err-Bad-clause-value : goal.returns-in-Err-Bad-clause-value
returns-in-Err-Bad-clause-value c =
    let told = rw c.in-Some.is at c.loop-left.invariant.told in
    rw c.in-Err-Bad.field-0-is (sym told ∙ faulty_line after_line (c.loop-left.line + 1) (parts_of c.loop-left.drafts) c.in-Some.text.now c.in-Err-Bad.reason (rw c.in-Err-Bad.field-0-is at c.in-Err-Bad.ensures.value))
