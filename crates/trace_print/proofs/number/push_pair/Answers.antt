use Rattle.std.proofs.Common.{append_assoc}
use Rattle.trace_print.proofs.Pairs.{pair_at}
use Rattle.trace_print.proofs.number.push_pair.Goals as goal

pub returns-clause-text : goal.returns-clause-text
returns-clause-text g c =
    let digits = pair_at c.args.number c.requires.few in
    rw (← digits.0, ← digits.1, c.push-2.ensures.text, c.push.ensures.text) (simp (append_assoc))
