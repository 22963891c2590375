use Rattle.std.proofs.Common.{◌≡◌, ◌+◌, ◌≤◌, ◌++◌, drop, length}
use Rattle.std.specs.VecDeque.{deque_len, deque_capacity}
use Rattle.naming_service.specs.Naming.{forwarding_all}
use Rattle.naming_service.proofs.lists.forward_pending.Given as goal

-- the work so far, and that for the calls that are left
abbrev pub invariant-loop-received : goal.invariant-loop-received
invariant-loop-received l = record {
  work : l.work.items ++ forwarding_all l.service l.phone (drop l.received-index l.pending) ≡ l.fn.work.items ++ forwarding_all l.service l.phone l.pending;
  room : deque_len l.work + length (drop l.received-index l.pending) ≤ deque_capacity l.work;
}
