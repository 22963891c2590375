use Rattle.std.proofs.Common.{ℕ, ◌<◌}
use Rattle.schedule_search.specs.Lost.{IsLost}
use Rattle.schedule_search.proofs.lost_calls.has_lost_call.Given as goal

-- none of the calls before this one is lost
abbrev pub invariant-loop-n : goal.invariant-loop-n
invariant-loop-n l = (k : ℕ) → k < l.n → IsLost l.replay.state k → ⊥
