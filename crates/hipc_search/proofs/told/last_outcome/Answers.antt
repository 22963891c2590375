use Rattle.std.proofs.Common.{[], refl}
use Rattle.hipc_search.specs.Told.{entry_of}
use Rattle.hipc_search.proofs.LastOutcomes.{one_more, all_told}
use Rattle.hipc_search.proofs.told.last_outcome.Goals as goal

pub loop-entry-init : goal.loop-entry-init
loop-entry-init c = record { past = []; parts = refl; own_is = refl; last_is = refl }

pub loop-entry-preserved : goal.loop-entry-preserved
loop-entry-preserved c =
    one_more c.args.task c.args.entries.now c.loop-entry.entry-index c.entry-item.result c.loop-entry.own _
    (entry_of c.loop-entry.last) _ c.loop-entry-test.true c.entry-item.is c.loop-entry.invariant c.own_with-own.ensures
    c.last_with-last.ensures

pub returns : goal.returns
returns c =
    all_told c.args.task c.args.entries.now c.loop-entry.entry-index c.loop-entry.own (entry_of c.loop-entry.last)
    c.loop-entry-test.false c.loop-entry.invariant
