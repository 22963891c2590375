use Rattle.command_line.specs.Command.{texts}
use Rattle.hipc_search.specs.Command.{said_asks}
use Rattle.hipc_search.proofs.Behind.{options_read}
use Rattle.hipc_search.proofs.command.command_for.Goals as goal

pub returns-clause-command : goal.returns-clause-command
returns-clause-command c =
    options_read c.args.script.now (said_asks c.args.asks) (texts c.args.words.now) c.in_ok-kills.kills c.in_ok-events.events
    c.in_ok-states.states _ _ _ _ c.value_of.ensures c.value_of-2.ensures c.value_of-3.ensures c.value_of-4.ensures
    c.in_ok-kills.ensures c.in_ok-events.ensures.value c.in_ok-states.ensures.value
