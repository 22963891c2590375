use Rattle.std.proofs.Common.{List, ℕ, ◌++◌, ap, ◌∙◌}
use Rattle.trace_print.proofs.Pairs.{rest_of}
use Rattle.trace_print.proofs.number.push_all.Goals as goal

pub returns-clause-text : goal.returns-clause-text
returns-clause-text g c =
    let d = c.digits_of-at in
    c.extend.ensures.text
    ∙ ap (λ (s : List ℕ). g.T.Text.bytes c.args.text.now ++ s) (rest_of d.result.0 d.result.1 d.ensures.whole ∙ d.ensures.text)
