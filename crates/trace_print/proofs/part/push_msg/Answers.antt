use Rattle.std.proofs.Common.{decimal}
use Rattle.trace_print.specs.Text.{args_text}
use Rattle.trace_print.proofs.Parts.{two}
use Rattle.trace_print.proofs.part.push_msg.Goals as goal

pub returns-clause-text : goal.returns-clause-text
returns-clause-text g c =
    let a = c.args in
    two g.P.Pen.mark _ (decimal a.msg.now.method) (args_text a.msg.now.args) c.number.ensures.text c.push_args.ensures.text
