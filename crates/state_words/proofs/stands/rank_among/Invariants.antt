use Rattle.std.proofs.Common.{◌≡◌, ◌≤◌, ◌+◌, drop, length}
use Rattle.state_words.specs.Order.{rank_among}
use Rattle.state_words.proofs.stands.rank_among.Given as goal

-- what is counted and what is left give all, and there are no more than there were
abbrev pub invariant-loop-one : goal.invariant-loop-one
invariant-loop-one l = record {
  counted : l.rank + rank_among (drop l.one-index l.stands) l.stand ≡ rank_among l.stands l.stand;
  few : l.rank + length (drop l.one-index l.stands) ≤ length l.stands;
}
