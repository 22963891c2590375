-- What the words of a line are read as. It counts only where the text of that entry is the line.
use Rattle.std.specs.Prelude.{ℕ, zero, suc, ◌≡◌, ◌+◌, map, nat_eq, unwrap_or, slice_get, Bool, if◌then◌else◌, codes, List, [], ◌∷◌, Option, None, Some}
use Rattle.std.specs.Borrow.{Bor}
use Rattle.std.specs.Cmp.Lexicographic.{pointwise}
use Rattle.ipc_ids.specs.declared.numbers.TaskNo.{TaskNo}
use Rattle.ipc_ids.specs.declared.message.Msg.{Msg}
use Rattle.ipc_ids.specs.declared.message.Reply.{Reply}
use Rattle.ipc_ids.specs.declared.message.Mode.{Mode}
use Rattle.ipc_ids.specs.declared.message.Mode.TheVariants.{Plain, Route}
use Rattle.ipc_ids.specs.declared.message.ExchangeMode.{ExchangeMode}
use Rattle.ipc_ids.specs.declared.message.ExchangeMode.TheVariants.{Atomic, Serialize, Parallel}
use Rattle.ipc_ids.specs.declared.message.Why.{Why}
use Rattle.ipc_ids.specs.declared.message.Why.TheVariants as why
use Rattle.ipc_ids.specs.declared.message.PhoneState.{PhoneState}
use Rattle.ipc_ids.specs.declared.message.PhoneState.TheVariants as phone
use Rattle.ipc_ids.specs.declared.message.Request.{Request}
use Rattle.ipc_ids.specs.declared.message.Request.TheVariants as ask
use Rattle.ipc_ids.specs.declared.message.Outcome.{Outcome}
use Rattle.ipc_ids.specs.declared.message.Outcome.TheVariants as got
use Rattle.ipc_ids.specs.declared.entry.Entry.{Entry}
use Rattle.ipc_ids.specs.declared.entry.Entry.TheVariants as entry
use Rattle.ipc_ids.specs.Codes.{eok}
use Rattle.trace_reader.specs.Words.{part, number_of, small_of, task_of, label_of, code_of, bytes_of, owner_of, fibril_of}

-- the two words are the same
abbrev pub is : List ℕ → List ℕ → Bool
is v w = pointwise nat_eq v w

-- five arguments, from this word on
abbrev pub args_in : (ℕ → List ℕ) → ℕ → List ℕ
args_in w i =
    number_of (w i) ∷ number_of (w (i + 1)) ∷ number_of (w (i + 2)) ∷ number_of (w (i + 3)) ∷ number_of (w (i + 4)) ∷ []

-- a message, from this word on
abbrev pub msg_in : (ℕ → List ℕ) → ℕ → Msg
msg_in w i = record { method = number_of (w i); args = args_in w (i + 1) }

-- a reply, from this word on
abbrev pub reply_in : (ℕ → List ℕ) → ℕ → Reply
reply_in w i = record { code = code_of (w i); args = args_in w (i + 1) }

-- where an accepted call goes
abbrev pub way_in : List ℕ → List ℕ → Option TaskNo
way_in word task = if is word (codes "to") then Some (task_of task) else None

-- who answers
abbrev pub answerer_in : List ℕ → Option TaskNo
answerer_in word = if is word (codes "kernel") then None else Some (task_of word)

-- the slot that a call was sent from
abbrev pub slot_in : List ℕ → List ℕ → Option ℕ
slot_in word slot = if is word (codes "slot") then Some (small_of slot) else None

-- how a call is forwarded
abbrev pub mode_in : List ℕ → Mode
mode_in word = if is word (codes "route") then Route else Plain

-- how an exchange is begun
abbrev pub exchange_mode_in : List ℕ → ExchangeMode
exchange_mode_in word = if is word (codes "atomic") then Atomic else if is word (codes "serialize") then Serialize else Parallel

-- where a phone leads
abbrev pub state_in : (ℕ → List ℕ) → PhoneState
state_in w =
    if is (w 4) (codes "free") then phone.Free
    else if is (w 4) (codes "connecting") then phone.Connecting
    else if is (w 4) (codes "hungup") then phone.HungUp
    else if is (w 4) (codes "slammed") then phone.Slammed
    else phone.Connected (task_of (w 5))

-- what a fibril waits for
abbrev pub why_in : (ℕ → List ℕ) → Why
why_in w =
    if is (w 4) (codes "answer") then why.Answer (record { 0 = number_of (w 5) })
    else if is (w 4) (codes "mutex") then why.Mutex (small_of (w 5))
    else if is (w 4) (codes "phone") then why.Phone
    else why.Message

-- the change of a forwarded message, if there is one
abbrev pub change_in : (ℕ → List ℕ) → Option Msg
change_in w = if is (w 5) [] then None else Some (msg_in w 5)

-- what a task asks of its memory, or nothing
abbrev pub memory_request_in : (ℕ → List ℕ) → Request
memory_request_in w =
    if is (w 1) (codes "area") then ask.AreaMake (number_of (w 2)) (number_of (w 3)) (number_of (w 4))
    else if is (w 1) (codes "unarea") then ask.AreaDrop (number_of (w 2))
    else if is (w 1) (codes "poke") then ask.Poke (number_of (w 2)) (bytes_of (w 3))
    else if is (w 1) (codes "peek") then ask.Peek (number_of (w 2)) (number_of (w 3))
    else ask.Nothing

-- what a task asks for
abbrev pub request_in : (ℕ → List ℕ) → Request
request_in w =
    if is (w 1) (codes "call") then ask.Call (number_of (w 2)) (msg_in w 3)
    else if is (w 1) (codes "receive") then ask.Receive
    else if is (w 1) (codes "answer") then ask.Answer (number_of (w 2)) (reply_in w 3)
    else if is (w 1) (codes "forward") then ask.Forward (number_of (w 2)) (number_of (w 3)) (mode_in (w 4)) (change_in w)
    else if is (w 1) (codes "hangup") then ask.Hangup (number_of (w 2))
    else memory_request_in w

-- a code, but for EOK, which is read as done
abbrev pub outcome_in : (ℕ → List ℕ) → Outcome
outcome_in w =
    if is (w 3) (codes "EOK") then got.Done
    else if is (w 3) (codes "EMPTY") then got.Empty
    else if is (w 3) (codes "call") then got.Accepted (record { 0 = number_of (w 4) })
    else if is (w 3) (codes "received") then got.Received (record { 0 = number_of (w 4) }) (msg_in w 5) (label_of (w 12))
    else if is (w 3) (codes "answer") then got.Answered (record { 0 = number_of (w 4) }) (reply_in w 5)
    else if is (w 3) (codes "bytes") then got.Bytes (bytes_of (w 4))
    else got.Refused (code_of (w 3))

-- how a call ends, or that it is forgotten
abbrev pub call_end_in : (ℕ → List ℕ) → Entry
call_end_in w =
    if is (w 4) (codes "vanished") then entry.Vanished (record { 0 = number_of (w 3) })
    else if is (w 4) (codes "delivered") then entry.Delivered (record { 0 = number_of (w 3) }) (task_of (w 5))
    else if is (w 4) (codes "dropped") then entry.Dropped (record { 0 = number_of (w 3) }) (task_of (w 5))
    else entry.Forgotten (record { 0 = number_of (w 3) })

-- what happened to a call
abbrev pub call_effect_in : (ℕ → List ℕ) → Entry
call_effect_in w =
    if is (w 4) (codes "accepted") then
    entry.Accepted (record { 0 = number_of (w 3) }) (label_of (w 5)) (number_of (w 7)) (way_in (w 8) (w 9))
    else if is (w 4) (codes "received") then entry.Received (record { 0 = number_of (w 3) }) (task_of (w 5))
    else if is (w 4) (codes "forwarded") then
    entry.Forwarded (record { 0 = number_of (w 3) }) (task_of (w 5)) (task_of (w 7)) (label_of (w 9))
    else if is (w 4) (codes "answered") then entry.Answered (record { 0 = number_of (w 3) }) (reply_in w 5) (answerer_in (w 12))
    else call_end_in w

-- the reply that a fibril gets, behind a slot or a begin
abbrev pub gets_in : (ℕ → List ℕ) → Reply
gets_in w = if is (w 5) (codes "slot") then reply_in w 7 else reply_in w 6

-- the end of a fibril or of an exchange
abbrev pub ends_in : (ℕ → List ℕ) → Entry
ends_in w =
    if is (w 4) [] then entry.Ends (owner_of (w 2)) (fibril_of (w 2))
    else entry.ExchangeEnds (owner_of (w 2)) (fibril_of (w 2)) (record { 0 = number_of (w 5) })

-- the end of a fibril, what a program says of an exchange, or that it refuses
abbrev pub exchange_effect_in : (ℕ → List ℕ) → Entry
exchange_effect_in w =
    if is (w 3) (codes "ends") then ends_in w
    else if is (w 3) (codes "begins") then
    entry.Begins (owner_of (w 2)) (fibril_of (w 2)) (record { 0 = number_of (w 5) }) (exchange_mode_in (w 6)) (small_of (w 8)) (number_of (w 10))
    else if is (w 3) (codes "drops") then entry.Drops (owner_of (w 2)) (fibril_of (w 2)) (record { 0 = number_of (w 5) })
    else entry.RefusedOp (owner_of (w 2)) (fibril_of (w 2)) (code_of (w 4))

-- what a program says of a fibril or of an exchange
abbrev pub fibril_effect_in : (ℕ → List ℕ) → Entry
fibril_effect_in w =
    if is (w 3) (codes "sent") then
    entry.Sent (owner_of (w 2)) (fibril_of (w 2)) (record { 0 = number_of (w 4) }) (slot_in (w 5) (w 6))
    else if is (w 3) (codes "gets") then
    entry.Gets (owner_of (w 2)) (fibril_of (w 2)) (record { 0 = number_of (w 4) }) (slot_in (w 5) (w 6)) (gets_in w)
    else if is (w 3) (codes "blocks") then entry.Blocks (owner_of (w 2)) (fibril_of (w 2)) (why_in w)
    else if is (w 3) (codes "starts") then entry.Starts (owner_of (w 2)) (fibril_of (w 2)) (label_of (w 4))
    else exchange_effect_in w

-- an outcome or an effect
abbrev pub effect_in : (ℕ → List ℕ) → Entry
effect_in w =
    if is (w 2) (codes "=") then entry.Outcome (outcome_in w)
    else if is (w 2) (codes "call") then call_effect_in w
    else if is (w 2) (codes "phone") then entry.PhoneIs (label_of (w 3)) (state_in w)
    else if is (w 2) (codes "area") then
    entry.AreaMade (task_of (w 3)) (number_of (w 4)) (number_of (w 5)) (number_of (w 6)) (record { 0 = number_of (w 8) })
    else if is (w 2) (codes "unarea") then entry.AreaGone (task_of (w 3)) (number_of (w 4))
    else if is (w 2) (codes "write") then
    entry.Wrote (task_of (w 3)) (number_of (w 4)) (number_of (w 5)) (record { 0 = number_of (w 7) })
    else fibril_effect_in w

-- the head of an event
abbrev pub head_in : (ℕ → List ℕ) → Entry
head_in w =
    if is (w 0) (codes "kill") then entry.Kill (task_of (w 1))
    else if is (w 0) (codes "spawn") then entry.Spawn (task_of (w 1))
    else if is (w 1) (codes "ended") then entry.Gone (task_of (w 0))
    else entry.Head (task_of (w 0)) (request_in w)

-- an entry: an outcome or effect where the line begins with a space, else a head
abbrev pub entry_in : (ℕ → List ℕ) → Entry
entry_in w = if is (w 0) [] then effect_in w else head_in w

-- so many parts of a line, from this one on
abbrev pub parts : ℕ → ℕ → List ℕ → List (List ℕ)
parts zero i line = []
parts (suc k) i line = part 32 i line ∷ parts k (suc i) line

-- the words that are referred to
abbrev pub texts : List (Bor (List ℕ)) → List (List ℕ)
texts words = map (λ w. w.now) words

-- the word with this index; no bytes where there is none
abbrev pub nth : List (List ℕ) → ℕ → List ℕ
nth ws i = unwrap_or (slice_get ws i) []

-- these are the first words of the line
abbrev pub HasWords : List (List ℕ) → List ℕ → Type 0
HasWords ws line = (i : ℕ) → nth ws i ≡ nth (parts 13 0 line) i

-- what a line is read as
abbrev pub read : List ℕ → Entry
read line = entry_in (nth (parts 13 0 line))

-- EOK is an outcome that is done, and no refusal
abbrev pub IsPlain : Entry → Type 0
IsPlain e = e ≡ entry.Outcome (got.Refused eok) → ⊥
