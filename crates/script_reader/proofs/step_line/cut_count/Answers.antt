use Rattle.script_reader.proofs.SpelledCounts.{counts}
use Rattle.script_reader.proofs.step_line.cut_count.Goals as goal

pub returns-then-count-le65536 : goal.returns-then-count-le65536
returns-then-count-le65536 c =
    counts c.args.text.now c.in_ok-behind_times.field-0.now c.in_ok-count.rest.now c.in_ok-others.others.now c.in_ok-count.count
    c.in_ok-behind_times.ensures c.in_ok-count.ensures c.in_ok-others.ensures c.if-count-ge1.true c.if-count-le65536.true
