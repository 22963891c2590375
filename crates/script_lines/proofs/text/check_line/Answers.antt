use Rattle.std.proofs.Common.{sym, ◌∙◌}
use Rattle.std.proofs.lemmas.List.{take_rest}
use Rattle.script_lines.proofs.Lines.{feed_found, no_feed}
use Rattle.script_lines.proofs.text.check_line.Goals as goal

pub returns-in-Some-clause-behind : goal.returns-in-Some-clause-behind
returns-in-Some-clause-behind c =
    rw take_rest (sym (feed_found c.args.text.now c.in-Some.at (sym c.line_feed.ensures ∙ c.in-Some.is)))

pub returns-in-None-clause-behind : goal.returns-in-None-clause-behind
returns-in-None-clause-behind c = sym (no_feed c.args.text.now (sym c.line_feed.ensures ∙ c.in-None.is))
