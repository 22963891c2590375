use Rattle.std.proofs.Common.{◌≡◌, ◌+◌, ◌-◌, length}
use Rattle.std.specs.List.{list_all, range_with_len}
use Rattle.schedule_search.specs.Meeting.{changes_nothing, is_at_rest}
use Rattle.schedule_search.proofs.rest.is_at_rest.Given as goal

-- what the tasks that are left come to is what all come to
abbrev pub invariant-loop-t : goal.invariant-loop-t
invariant-loop-t l =
    list_all (changes_nothing l.replay.state) (range_with_len (l.t + 1) (length l.replay.state.kernel.tasks.alive - l.t))
    ≡ is_at_rest l.replay.state
