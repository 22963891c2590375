use Rattle.std.proofs.Common.{◌≡◌, ◌+◌, ◌-◌, ◌≤◌, ◌++◌, take, length}
use Rattle.std.specs.VecDeque.{deque_capacity, deque_len}
use Rattle.async_task.proofs.connections.add_work.Given as goal

-- those that the loop saw are added, and there is room for the others
abbrev pub invariant-loop-item : goal.invariant-loop-item
invariant-loop-item l =
    record {
      items : l.work.items ≡ l.fn.work.items ++ take l.item-index l.owed;
      room : length l.owed ≤ deque_capacity l.work - deque_len l.work + l.item-index;
    }
