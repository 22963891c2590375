use Rattle.std.proofs.Common.{◌≡◌, ◌-◌}
use Rattle.std.specs.List.{list_any, range_with_len}
use Rattle.answerbox.specs.Calls.{call_at}
use Rattle.schedule_search.specs.OpenCalls.{is_open, has_open_call}
use Rattle.schedule_search.proofs.open_calls.has_open_call.Given as goal

-- what the numbers that are left come to is what all come to
abbrev pub invariant-loop-n : goal.invariant-loop-n
invariant-loop-n l =
    list_any (λ n. is_open l.asked (call_at l.boxes.calls n)) (range_with_len l.n (l.boxes.calls.next_number - l.n))
    ≡ has_open_call l.asked l.boxes.calls
