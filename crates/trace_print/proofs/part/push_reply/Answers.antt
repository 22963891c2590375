use Rattle.trace_print.specs.Text.{args_text, code_text}
use Rattle.trace_print.proofs.Parts.{two}
use Rattle.trace_print.proofs.part.push_reply.Goals as goal

pub returns-clause-text : goal.returns-clause-text
returns-clause-text g c =
    let a = c.args in
    two g.P.Pen.mark _ (code_text a.reply.now.code) (args_text a.reply.now.args) c.push_code.ensures.text c.push_args.ensures.text
