-- The block server: what it asks, and what an outcome makes of it. It does its first work, or
-- receives; what becomes of a received call is one equation for each thing that it may ask.
use Rattle.std.specs.Prelude.{ℕ, ◌+◌, ◌*◌, ◌/◌, ◌%◌, ◌==◌, ◌&&◌, Bool, true, false, not, nat_lt, if◌then◌else◌, List, [], ◌∷◌, ◌++◌, drop, length, Option, None, Some, is_none, replicate, slice_get, slice_set, slice_index, position, get_or}
use Rattle.ipc_ids.specs.declared.numbers.CallNo.{CallNo}
use Rattle.ipc_ids.specs.declared.numbers.Code.{Code}
use Rattle.ipc_ids.specs.declared.numbers.Label.{Label}
use Rattle.ipc_ids.specs.Labels.{same_label}
use Rattle.ipc_ids.specs.declared.message.Request.{Request}
use Rattle.ipc_ids.specs.declared.message.Request.TheVariants as request
use Rattle.ipc_ids.specs.declared.message.Outcome.{Outcome}
use Rattle.ipc_ids.specs.declared.message.Outcome.TheVariants as outcome
use Rattle.ipc_ids.specs.declared.entry.Entry.{Entry}
use Rattle.ipc_ids.specs.Codes.{eok, enoent, einval, elimit, ehangup}
use Rattle.ipc_ids.specs.Methods.{phone_hungup, connect_to_me, connect_me_to, share_out}
use Rattle.block_server.specs.declared.received.ReceivedCall.{ReceivedCall}
use Rattle.block_server.specs.declared.received.Work.{Work}
use Rattle.block_server.specs.declared.received.Work.TheVariants.{Offer, Drop, Answer, Show, Fetch}
use Rattle.block_server.specs.declared.received.Asked.{Asked}
use Rattle.block_server.specs.declared.received.Asked.TheVariants.{Share, Read, Write, HungUp, Other}

-- the blocks; of each window, the client that has it; what is to be done, the first first; and how
-- many outcomes came
pub record BlockState : Type 0 where
  pub blocks : List (List ℕ)
  pub slots : List (Option Label)
  pub work : List Work
  pub taken : ℕ

-- methods of users: to read a block, and to write one
abbrev pub read_block : ℕ
read_block = 512

abbrev pub write_block : ℕ
write_block = 513

-- the bytes of a block before it is written
abbrev pub no_bytes : List ℕ
no_bytes = replicate 64 0

-- the server becomes a service where it has a number for it
abbrev pub first_offer : Option ℕ → List Work
first_offer None = []
first_offer (Some service) = Offer service ∷ []

-- so many blocks, before the first outcome
abbrev pub started : ℕ → Option ℕ → BlockState
started blocks service =
    record {
      blocks = replicate blocks no_bytes;
      slots = replicate 16 None;
      work = first_offer service;
      taken = 0;
    }

-- what is to be done next
abbrev pub first_work : BlockState → Option Work
first_work s = slice_get s.work 0

-- the bytes of a block
abbrev pub block_at : BlockState → ℕ → List ℕ
block_at s block = get_or s.blocks block no_bytes

-- the request of a piece of work
abbrev pub request_of : BlockState → Option Work → Request
request_of s None = request.Receive
request_of s (Some (Offer service)) =
    request.Call 0 (record { method = connect_to_me; args = service ∷ 0 ∷ 0 ∷ 0 ∷ 0 ∷ [] })
request_of s (Some (Drop base)) = request.AreaDrop base
request_of s (Some (Answer call reply)) = request.Answer call.0 reply
request_of s (Some (Show call at block)) = request.Poke at (block_at s block)
request_of s (Some (Fetch call at block)) = request.Peek at 64

-- what the server asks next
abbrev pub wanted : BlockState → Request
wanted s = request_of s (first_work s)

-- what a call with this method asks, of a client
abbrev pub asked_by : ℕ → Asked
asked_by method =
    if method == phone_hungup then HungUp
    else if method == share_out then Share
    else if method == read_block then Read
    else if method == write_block then Write
    else Other

-- an argument of the call, by its place from 0 on
abbrev pub argument : ReceivedCall → ℕ → ℕ
argument received i = slice_index received.msg.args i

-- the call gets an answer without arguments
abbrev pub answering : CallNo → Code → Work
answering call code = Answer call (record { code = code; args = replicate 5 0 })

-- the window that the call shares is taken at this base
abbrev pub sharing : CallNo → ℕ → Work
sharing call base = Answer call (record { code = eok; args = base ∷ 0 ∷ 0 ∷ 0 ∷ 0 ∷ [] })

-- this is to be done after all else
abbrev pub with_work : BlockState → List Work → BlockState
with_work s more = record s { work = s.work ++ more }

-- the call is to be answered with this code
abbrev pub answered : BlockState → CallNo → Code → BlockState
answered s call code = with_work s (answering call code ∷ [])

-- where the window of a slot begins
abbrev pub window : ℕ → ℕ
window slot = 4096 * (slot + 1)

-- whether the slot has this label
abbrev pub has_label : Label → Option Label → Bool
has_label label None = false
has_label label (Some other) = same_label other label

-- the slot of a label, and the first that is free
abbrev pub slot_of : List (Option Label) → Label → Option ℕ
slot_of slots label = position (has_label label) slots

abbrev pub free_slot : List (Option Label) → Option ℕ
free_slot slots = position is_none slots

-- the label of a client that connects: the phone that it is given
abbrev pub label_given : ReceivedCall → Label
label_given received =
    record {
      task = record { 0 = argument received 4 / 64 };
      phone = record { 0 = argument received 4 % 64 };
    }

-- the slot has this label from now on, or none
abbrev pub with_slot : BlockState → ℕ → Option Label → BlockState
with_slot s slot label = record s { slots = slice_set s.slots slot label }

-- the least free slot, where there is one
abbrev pub enter_by : BlockState → ReceivedCall → Option ℕ → BlockState
enter_by s received None = answered s received.number elimit
enter_by s received (Some slot) =
    answered (with_slot s slot (Some (label_given received))) received.number eok

-- the slot that the label has already
abbrev pub connect_by : BlockState → ReceivedCall → Option ℕ → BlockState
connect_by s received (Some slot) =
    with_work s (Drop (window slot) ∷ answering received.number eok ∷ [])
connect_by s received None = enter_by s received (free_slot s.slots)

-- a client connects
abbrev pub connect : BlockState → ReceivedCall → BlockState
connect s received = connect_by s received (slot_of s.slots (label_given received))

-- whether the client shares one page that may be read and written
abbrev pub is_window : ReceivedCall → Bool
is_window received = (argument received 1 == 1) && (argument received 2 == 3)

-- a client shares its window
abbrev pub share_by : BlockState → ReceivedCall → ℕ → Bool → BlockState
share_by s received slot true =
    with_work s (sharing received.number (window slot) ∷ [])
share_by s received slot false = answered s received.number einval

-- whether the offset is that of a block in a window
abbrev pub is_offset : ℕ → Bool
is_offset offset = (offset % 64 == 0) && not (nat_lt 4032 offset)

-- whether there is such a block, and such an offset
abbrev pub transfer_by : BlockState → ReceivedCall → Work → Bool → Bool → BlockState
transfer_by s received work false right = answered s received.number enoent
transfer_by s received work true false = answered s received.number einval
transfer_by s received work true true = with_work s (work ∷ [])

-- a block goes to or comes from a window
abbrev pub transfer : BlockState → ReceivedCall → Work → BlockState
transfer s received work =
    transfer_by s received work (nat_lt (argument received 0) (length s.blocks))
    (is_offset (argument received 1))

-- where in the client's window the block stands
abbrev pub place_in : ReceivedCall → ℕ → ℕ
place_in received slot = window slot + argument received 1

-- the client of this slot asks this
abbrev pub handled_by : BlockState → ReceivedCall → ℕ → Asked → BlockState
handled_by s received slot Share = share_by s received slot (is_window received)
handled_by s received slot Read =
    transfer s received (Show received.number (place_in received slot) (argument received 0))
handled_by s received slot Write =
    transfer s received (Fetch received.number (place_in received slot) (argument received 0))
handled_by s received slot HungUp =
    with_work (with_slot s slot None)
    (Drop (window slot) ∷ answering received.number eok ∷ [])
handled_by s received slot Other = answered s received.number enoent

-- a call of a client, or of nobody known
abbrev pub handled_for : BlockState → ReceivedCall → Option ℕ → BlockState
handled_for s received None = answered s received.number ehangup
handled_for s received (Some slot) = handled_by s received slot (asked_by received.msg.method)

-- whether somebody connects
abbrev pub handled_if : BlockState → ReceivedCall → Bool → BlockState
handled_if s received true = connect s received
handled_if s received false = handled_for s received (slot_of s.slots received.label)

-- what becomes of a received call
abbrev pub handled : BlockState → ReceivedCall → BlockState
handled s received = handled_if s received (received.msg.method == connect_me_to)

-- what a receive makes of the server
abbrev pub after_receive : BlockState → Outcome → BlockState
after_receive s (outcome.Received call msg label) =
    handled s (record { number = call; msg = msg; label = label })
after_receive s _ = s

-- the code of a refusal, or success
abbrev pub code_of : Outcome → Code
code_of (outcome.Refused code) = code
code_of _ = eok

-- the first work is done
abbrev pub worked : BlockState → BlockState
worked s = record s { work = drop 1 s.work }

-- the first work is done, and the call is answered by what came of it
abbrev pub done : BlockState → CallNo → Outcome → BlockState
done s call o = record s { work = answering call (code_of o) ∷ drop 1 s.work }

-- the bytes that were peeked become the block
abbrev pub set_bytes : List (List ℕ) → ℕ → Outcome → List (List ℕ)
set_bytes blocks block (outcome.Bytes bytes) = slice_set blocks block bytes
set_bytes blocks block _ = blocks

abbrev pub with_block : BlockState → ℕ → Outcome → BlockState
with_block s block o = record s { blocks = set_bytes s.blocks block o }

-- an outcome of work, or of a receive
abbrev pub after_outcome_by : BlockState → Outcome → Option Work → BlockState
after_outcome_by s o None = after_receive s o
after_outcome_by s o (Some (Offer service)) = worked s
after_outcome_by s o (Some (Drop base)) = worked s
after_outcome_by s o (Some (Answer call reply)) = worked s
after_outcome_by s o (Some (Show call at block)) = done s call o
after_outcome_by s o (Some (Fetch call at block)) = done (with_block s block o) call o

abbrev pub after_outcome : BlockState → Outcome → BlockState
after_outcome s o = after_outcome_by s o (first_work s)

-- what an outcome makes of the server, which counts it
abbrev pub after : BlockState → Outcome → BlockState
after s o = let next = after_outcome s o in record next { taken = s.taken + 1 }

-- it makes no entries of its own
abbrev pub entries : BlockState → Outcome → List Entry
entries s o = []
