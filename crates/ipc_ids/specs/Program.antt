-- Which outcomes a request may have.
use Rattle.std.specs.Prelude.{ℕ, Bool, true, false, length, ◌==◌}
use Rattle.ipc_ids.specs.declared.message.Request.{Request}
use Rattle.ipc_ids.specs.declared.message.Request.TheVariants as request
use Rattle.ipc_ids.specs.declared.message.Outcome.{Outcome}
use Rattle.ipc_ids.specs.declared.message.Outcome.TheVariants as outcome

-- of a call
abbrev pub is_call_outcome : Outcome → Bool
is_call_outcome (outcome.Accepted n) = true
is_call_outcome (outcome.Refused c) = true
is_call_outcome _ = false

-- of a receive
abbrev pub is_receive_outcome : Outcome → Bool
is_receive_outcome (outcome.Received n msg label) = true
is_receive_outcome (outcome.Answered n reply) = true
is_receive_outcome outcome.Empty = true
is_receive_outcome _ = false

-- of a peek of so many bytes
abbrev pub is_peek_outcome : ℕ → Outcome → Bool
is_peek_outcome count (outcome.Bytes bytes) = length bytes == count
is_peek_outcome count (outcome.Refused c) = true
is_peek_outcome count _ = false

-- of a request for nothing
abbrev pub is_done : Outcome → Bool
is_done outcome.Done = true
is_done _ = false

-- of every other request
abbrev pub is_done_or_refused : Outcome → Bool
is_done_or_refused outcome.Done = true
is_done_or_refused (outcome.Refused c) = true
is_done_or_refused _ = false

-- the request may have this outcome
abbrev pub fits : Request → Outcome → Bool
fits (request.Call phone msg) o = is_call_outcome o
fits request.Receive o = is_receive_outcome o
fits (request.Peek at count) o = is_peek_outcome count o
fits request.Nothing o = is_done o
fits _ o = is_done_or_refused o
