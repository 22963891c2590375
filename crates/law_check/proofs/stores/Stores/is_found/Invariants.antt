use Rattle.std.proofs.Common.{◌≡◌}
use Rattle.std.specs.List.{All, list_any}
use Rattle.std.specs.BTreeMap.Range.{IsEntryInRange}
use Rattle.std.specs.declared.ops.Bound.TheVariants.{Included}
use Rattle.law_check.specs.Stores.{triple_cmp}
use Rattle.law_check.proofs.Pairs.{reaching}
use Rattle.law_check.proofs.stores.Stores.is_found.Given as goal

-- what is left is found, and has an area that may be written where all have one
abbrev pub invariant-loop-key : goal.invariant-loop-key
invariant-loop-key l = record {
  any : list_any (reaching l.at l.count) l.key-iterator.iter ≡ list_any (reaching l.at l.count) l.initial.key-iterator.iter;
  found : All (IsEntryInRange triple_cmp (Included (l.task, l.store, 0)) (Included (l.task, l.store, l.at)) l.self.areas)
      l.key-iterator.iter;
}
