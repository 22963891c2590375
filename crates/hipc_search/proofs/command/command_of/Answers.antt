use Rattle.std.proofs.Common.{◌-◌, length, take, drop, sym, ap, ◌∙◌}
use Rattle.command_line.specs.Command.{texts}
use Rattle.hipc_search.specs.Command.{goals_in, said_asks, command_of}
use Rattle.hipc_search.proofs.Behind.{one_word, command_is}
use Rattle.hipc_search.proofs.command.command_of.Goals as goal

pub returns-clause-command : goal.returns-clause-command
returns-clause-command c =
    let words = c.args.words.now in
    let behind = c.first_and_others.result in
    command_is c.as_str-script.result.now (texts (take (length words - 1) (drop 1 words))) (behind.0.now, texts behind.1.now)
    (goals_in (texts c.in_ok-later.later.now)) (said_asks c.in_ok-asks.asks) _
    (sym c.is_option.ensures ∙ c.if-is_option.false) c.first_and_others.ensures c.in_ok-later.ensures c.in_ok-asks.ensures
    c.command_for.ensures.command
    ∙ ap command_of
    (sym (one_word words c.script-item.result c.as_str-script.result.now c.in-len1-up.len_at_least c.script-item.is
    c.as_str-script.ensures.value))
