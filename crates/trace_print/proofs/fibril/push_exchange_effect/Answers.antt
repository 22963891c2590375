use Rattle.std.proofs.Common.{◌++◌, codes}
use Rattle.trace_print.specs.Text.{exchange_text, fibril_text, terms_text}
use Rattle.trace_print.proofs.Parts.{two, three}
use Rattle.trace_print.proofs.fibril.push_exchange_effect.Goals as goal

pub returns-in-Begins-clause-text : goal.returns-in-Begins-clause-text
returns-in-Begins-clause-text g c =
    let a = c.in-Begins in
    rw (a.is)
    (three g.P.Pen.mark _ (fibril_text a.task a.fibril ++ codes " begins") (exchange_text a.exchange) (terms_text a.mode a.session a.phone)
    c.push_fibril.ensures.text c.push_exchange.ensures.text c.push_terms.ensures.text)

pub returns-in-ExchangeEnds-clause-text : goal.returns-in-ExchangeEnds-clause-text
returns-in-ExchangeEnds-clause-text g c =
    let a = c.in-ExchangeEnds in
    rw (a.is)
    (two g.P.Pen.mark _ (fibril_text a.task a.fibril ++ codes " ends") (exchange_text a.exchange)
    c.push_fibril-in-ExchangeEnds.ensures.text c.push_exchange-in-ExchangeEnds.ensures.text)

pub returns-in-Drops-clause-text : goal.returns-in-Drops-clause-text
returns-in-Drops-clause-text g c =
    let a = c.in-Drops in
    rw (a.is)
    (two g.P.Pen.mark _ (fibril_text a.task a.fibril ++ codes " drops") (exchange_text a.exchange)
    c.push_fibril-in-Drops.ensures.text c.push_exchange-in-Drops.ensures.text)
