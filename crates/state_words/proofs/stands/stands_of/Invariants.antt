use Rattle.std.proofs.Common.{◌≡◌, ◌++◌, ◌-◌}
use Rattle.state_words.specs.Order.{stands, stands_from}
use Rattle.state_words.proofs.stands.stands_of.Given as goal

abbrev pub invariant-loop-n : goal.invariant-loop-n
invariant-loop-n l = l.found.items ++ stands_from l.boxes.calls l.n (l.next - l.n) ≡ stands l.boxes.calls
