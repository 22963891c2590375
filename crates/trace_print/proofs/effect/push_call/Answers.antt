use Rattle.std.proofs.Common.{codes, decimal}
use Rattle.trace_print.specs.Text.{call_text}
use Rattle.trace_print.proofs.Parts.{three}
use Rattle.trace_print.proofs.effect.push_call.Goals as goal

pub returns-clause-text : goal.returns-clause-text
unfolding call_text
returns-clause-text g c =
    let a = c.args in
    three g.P.Pen.mark _ (codes "  call ") (decimal a.call.0) a.what.now c.word.ensures.text c.number.ensures.text c.word-2.ensures.text
