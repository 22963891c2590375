use Rattle.std.proofs.Common.{◌+◌, refl, sym, ◌∙◌, arith}
use Rattle.script_reader.specs.EventLine.{after_event_line}
use Rattle.script_lines.proofs.Lines.{here, less_left}
use Rattle.script_reader.proofs.LineByLine.{next_line, faulty_line}
use Rattle.script_reader.proofs.schedule.add_lines.Goals as goal

pub loop-left-init : goal.loop-left-init
loop-left-init c = record {
  told = refl;
  known = c.new-recent.ensures c.args.names.now;
  few = omega arith;
}

pub loop-left-smaller : goal.loop-left-smaller
loop-left-smaller c = rw c.in-Some.is (omega (arith, less_left c.in-Some.text.now (here c.in-Ok.others) c.in-Ok.ensures.behind))

pub loop-left-preserved : goal.loop-left-preserved
loop-left-preserved c =
    let text = c.in-Some.text.now in
    let told = rw c.in-Some.is at c.loop-left.invariant.told in
    let few = rw c.in-Some.is at c.loop-left.invariant.few in
    record {
      told = sym (next_line (after_event_line c.args.templates.now) (c.loop-left.line + 1) (record { events = c.loop-left.events; names = c.loop-left.names }) (record { events = c.add_line.new.events; names = c.add_line.new.names }) text (here c.in-Ok.others) c.in-Ok.ensures.behind c.in-Ok.ensures.value) ∙ told;
      known = c.in-Ok.ensures.known;
      few = omega (arith, few, less_left text (here c.in-Ok.others) c.in-Ok.ensures.behind);
    }

pub returns-in-Err-Bad : goal.returns-in-Err-Bad
returns-in-Err-Bad c =
    let told = rw c.in-Some.is at c.loop-left.invariant.told in
    rw c.in-Err-Bad.field-0-is (sym told ∙ faulty_line (after_event_line c.args.templates.now) (c.loop-left.line + 1) (record { events = c.loop-left.events; names = c.loop-left.names }) c.in-Some.text.now c.in-Err-Bad.reason (rw c.in-Err-Bad.field-0-is at c.in-Err-Bad.ensures.value))
