use Rattle.std.proofs.Common.{sym}
use Rattle.ipc_ids.proofs.Common.{then_on_ok}
use Rattle.script_lines.specs.Text.{texts}
use Rattle.hipc_search.proofs.Knowing.{names_grow}
use Rattle.hipc_search.proofs.known.push_made.Goals as goal

pub returns-in-Some : goal.returns-in-Some
returns-in-Some c =
    then_on_ok c.push_name.result c.push_name.ensures
    (λ pushed templates before after same e.
    names_grow templates before after (texts c.args.words.now) c.args.names.now c.push_name.new.names c.in-Some.name.now
    (sym c.in-Some.ensures) same pushed e)
