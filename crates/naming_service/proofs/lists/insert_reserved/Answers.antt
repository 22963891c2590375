use Rattle.std.proofs.Common.{◌∙◌}
use Rattle.indexmap.proofs.CallerLemmas.{insert_entry-new}
use Rattle.naming_service.proofs.Results.{on_ok}
use Rattle.naming_service.proofs.lists.insert_reserved.Goals as goal

pub returns : goal.returns
returns c =
    on_ok c.insert.result _ (c.insert.ensures.succeeds c.requires.room) c.insert.ensures.entries
    ∙ insert_entry-new _ c.args.registry.now c.args.service c.args.phone c.requires.new
