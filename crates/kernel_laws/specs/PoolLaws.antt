-- What each event does to the pool, in the words of calls and entries. The pool is the bytes that the live calls carry.
use Rattle.std.specs.Prelude.{◌≡◌, ℕ, ◌+◌, ◌<◌, ◌⊎◌, nat_lt, if◌then◌else◌, List, [], ◌∷◌, length, slice_index, Option, None, Some}
use Rattle.std.specs.FinMap.{entries}
use Rattle.ipc_ids.specs.declared.numbers.Code.{Code}
use Rattle.ipc_ids.specs.declared.numbers.CallNo.{CallNo}
use Rattle.ipc_ids.specs.declared.entry.Entry.{Entry}
use Rattle.ipc_ids.specs.declared.entry.Entry.TheVariants as entry
use Rattle.ipc_ids.specs.Tables.{most_data, most_buffered}
use Rattle.call_slab.specs.declared.call.Call.{Call}
use Rattle.answerbox.specs.Calls.{CallTable, call_at}
use Rattle.switchboard.specs.State.{KernelState}

-- how many bytes these calls carry together
abbrev pub bytes_of_calls : List (ℕ × Call) → ℕ
bytes_of_calls [] = 0
bytes_of_calls (e ∷ es) = length e.1.buffer + bytes_of_calls es

-- how many bytes the live calls carry together
abbrev pub pool : KernelState → ℕ
pool k = bytes_of_calls (entries k.calls.records)

-- how many bytes the call carries, where there is one
abbrev pub bytes_of : Option Call → ℕ
bytes_of None = 0
bytes_of (Some c) = length c.buffer

-- how many bytes call n carries among these live calls; one that is not live carries none
abbrev pub carried : CallTable → CallNo → ℕ
carried calls n = bytes_of (call_at calls n.0)

-- how many bytes the call carries that the entry says to be over
abbrev pub ended_by : CallTable → Entry → ℕ
ended_by calls (entry.Vanished n) = carried calls n
ended_by calls (entry.Delivered n t) = carried calls n
ended_by calls (entry.Dropped n t) = carried calls n
ended_by calls _ = 0

-- how many bytes the call carries that the entry says to be accepted
abbrev pub accepted_by : CallTable → Entry → ℕ
accepted_by calls (entry.Accepted n from method to) = carried calls n
accepted_by calls _ = 0

-- how many bytes the call carries that the entry says to be answered
abbrev pub answered_by : CallTable → Entry → ℕ
answered_by calls (entry.Answered n reply by) = carried calls n
answered_by calls _ = 0

-- the sum over these entries
abbrev pub total : (Entry → ℕ) → List Entry → ℕ
total bytes [] = 0
total bytes (e ∷ es) = bytes e + total bytes es

-- The pool after these entries of a request is the pool before, with what the calls carry that were accepted or
-- answered, and without what calls carried that are over, or that were answered, before.
abbrev pub IsBalanced : KernelState → List Entry → KernelState → Type 0
IsBalanced before es after =
    pool after + (total (ended_by before.calls) es + total (answered_by before.calls) es) ≡ pool before + (total (accepted_by after.calls) es + total (answered_by after.calls) es)

-- The pool after these entries of a kill is the pool before, without what calls carried that are over.
abbrev pub IsGivenBack : KernelState → List Entry → KernelState → Type 0
IsGivenBack before es after = pool after + total (ended_by before.calls) es ≡ pool before

-- the entry says that a call is answered with this code
abbrev pub Answers : Code → Entry → Type 0
Answers code (entry.Answered n reply by) = reply.code ≡ code
Answers code _ = ⊥

-- one of these entries does
abbrev pub HasAnswer : Code → List Entry → Type 0
HasAnswer code [] = ⊥
HasAnswer code (e ∷ es) = Answers code e ⊎ HasAnswer code es

-- the second of these arguments, and the most that a transfer takes where it is more
abbrev pub bytes_asked : List ℕ → ℕ
bytes_asked args = if nat_lt most_data (slice_index args 1) then most_data else slice_index args 1

-- there is no room in the pool for so many bytes more
abbrev pub IsFullFor : KernelState → ℕ → Type 0
IsFullFor k count = most_buffered < pool k + count
