use Rattle.std.proofs.Common.{◌≡◌, ◌≤◌, ℕ}
use Rattle.std.specs.List.{All, list_any}
use Rattle.std.specs.BTreeMap.Range.{IsEntryInRange}
use Rattle.std.specs.declared.ops.Bound.TheVariants.{Included}
use Rattle.law_check.specs.Stores.{triple_cmp, IsTight}
use Rattle.law_check.proofs.Pairs.{exceeds}
use Rattle.law_check.proofs.stores.Stores.greatest.Given as goal

-- what is left reaches beyond the most where all does, and the most is reached
abbrev pub invariant-loop-key : goal.invariant-loop-key
invariant-loop-key l = record {
  any : (k : ℕ) → l.most ≤ k → list_any (exceeds k) l.key-iterator.iter ≡ list_any (exceeds k) l.initial.key-iterator.iter;
  found : All (IsEntryInRange triple_cmp (Included (l.task, l.store, l.first)) (Included (l.task, l.store, l.last)) l.self.areas)
      l.key-iterator.iter;
  tight : IsTight l.self.areas l.task l.store l.last l.most;
}
