-- The naming service and the block server do the same after however many outcomes.
use Rattle.std.proofs.Common.{◌≡◌, ℕ, Bool, true, false, refl, ap, Option, None, Some}
use Rattle.ipc_ids.specs.declared.message.Outcome.{Outcome}
use Rattle.ipc_ids.specs.declared.message.Outcome.TheVariants.{Done, Refused, Accepted, Received, Answered, Empty, Bytes}
use Rattle.task_ends.specs.declared.ends.Waited.{Waited}
use Rattle.task_ends.specs.declared.ends.Waited.TheVariants as waited
use Rattle.naming_service.specs.declared.received.ReceivedCall.{ReceivedCall}
use Rattle.naming_service.specs.declared.received.Work.{Work}
use Rattle.naming_service.specs.declared.received.Asked.{Asked}
use Rattle.naming_service.specs.declared.received.Asked.TheVariants as asked
use Rattle.naming_service.specs.Naming as naming
use Rattle.naming_service.specs.Naming.{NamingState}
use Rattle.block_server.specs.declared.received.ReceivedCall as block_call
use Rattle.block_server.specs.declared.received.Work as block_work
use Rattle.block_server.specs.declared.received.Work.TheVariants as block_todo
use Rattle.block_server.specs.declared.received.Asked as block_asked
use Rattle.block_server.specs.declared.received.Asked.TheVariants as request
use Rattle.block_server.specs.Blocks as block
use Rattle.block_server.specs.Blocks.{BlockState}
use Rattle.run_words.specs.AlikeStates.{uncounted_naming, uncounted_block}

-- ---- the naming service
registered_at : (s : NamingState) (r : ReceivedCall) (none : Bool) (known : Option ℕ)
    → naming.registered_by (uncounted_naming s) r none known ≡ uncounted_naming (naming.registered_by s r none known)
registered_at s r true known = refl
registered_at s r false (Some other) = refl
registered_at s r false None = refl

wait_or_refuse_at : (s : NamingState) (r : ReceivedCall) (b : Bool)
    → naming.wait_or_refuse_by (uncounted_naming s) r b ≡ uncounted_naming (naming.wait_or_refuse_by s r b)
wait_or_refuse_at s r true = refl
wait_or_refuse_at s r false = refl

connect_at : (s : NamingState) (r : ReceivedCall) (o : Option ℕ)
    → naming.connect_by (uncounted_naming s) r o ≡ uncounted_naming (naming.connect_by s r o)
connect_at s r (Some phone) = refl
connect_at s r None = wait_or_refuse_at s r (naming.is_blocking r)

introduced_at : (s : NamingState) (r : ReceivedCall) (b : Bool)
    → naming.introduced_by (uncounted_naming s) r b ≡ uncounted_naming (naming.introduced_by s r b)
introduced_at s r true = refl
introduced_at s r false = refl

waited_at : (s : NamingState) (r : ReceivedCall) (w : Waited)
    → naming.waited_for_by (uncounted_naming s) r w ≡ uncounted_naming (naming.waited_for_by s r w)
waited_at s r (waited.Ended end) = refl
waited_at s r waited.Pending = refl
waited_at s r waited.Unknown = refl

handled_at : (s : NamingState) (r : ReceivedCall) (a : Asked)
    → naming.handled_by (uncounted_naming s) r a ≡ uncounted_naming (naming.handled_by s r a)
handled_at s r asked.Register = registered_at (naming.without_phone s (naming.phone_given r)) r _ _
handled_at s r asked.Connect = connect_at s r _
handled_at s r asked.Introduce = introduced_at s r _
handled_at s r asked.Leave = refl
handled_at s r asked.Wait = waited_at s r _
handled_at s r asked.HungUp = refl
handled_at s r asked.Other = refl

receive_at : (s : NamingState) (o : Outcome)
    → naming.after_receive (uncounted_naming s) o ≡ uncounted_naming (naming.after_receive s o)
receive_at s Done = refl
receive_at s (Refused code) = refl
receive_at s (Accepted call) = refl
receive_at s (Received call msg label) =
    handled_at s (record { number = call; msg = msg; label = label }) (naming.asked_by msg.method)
receive_at s (Answered call reply) = refl
receive_at s Empty = refl
receive_at s (Bytes b) = refl

naming_at : (s : NamingState) (o : Outcome) (w : Option Work)
    → naming.after_outcome_by (uncounted_naming s) o w ≡ uncounted_naming (naming.after_outcome_by s o w)
naming_at s o None = receive_at s o
naming_at s o (Some w) = refl

pub naming_after : (s : NamingState) (o : Outcome)
    → uncounted_naming (naming.after (uncounted_naming s) o) ≡ uncounted_naming (naming.after s o)
naming_after s o = ap uncounted_naming (naming_at s o (naming.first_work s))

-- ---- the block server
entered_at : (s : BlockState) (r : block_call.ReceivedCall) (o : Option ℕ)
    → block.enter_by (uncounted_block s) r o ≡ uncounted_block (block.enter_by s r o)
entered_at s r None = refl
entered_at s r (Some slot) = refl

client_at : (s : BlockState) (r : block_call.ReceivedCall) (o : Option ℕ)
    → block.connect_by (uncounted_block s) r o ≡ uncounted_block (block.connect_by s r o)
client_at s r (Some slot) = refl
client_at s r None = entered_at s r (block.free_slot s.slots)

shared_at : (s : BlockState) (r : block_call.ReceivedCall) (slot : ℕ) (b : Bool)
    → block.share_by (uncounted_block s) r slot b ≡ uncounted_block (block.share_by s r slot b)
shared_at s r slot true = refl
shared_at s r slot false = refl

transfer_at : (s : BlockState) (r : block_call.ReceivedCall) (w : block_work.Work) (b c : Bool)
    → block.transfer_by (uncounted_block s) r w b c ≡ uncounted_block (block.transfer_by s r w b c)
transfer_at s r w false c = refl
transfer_at s r w true false = refl
transfer_at s r w true true = refl

asked_at : (s : BlockState) (r : block_call.ReceivedCall) (slot : ℕ) (a : block_asked.Asked)
    → block.handled_by (uncounted_block s) r slot a ≡ uncounted_block (block.handled_by s r slot a)
asked_at s r slot request.Share = shared_at s r slot _
asked_at s r slot request.Read = transfer_at s r _ _ _
asked_at s r slot request.Write = transfer_at s r _ _ _
asked_at s r slot request.HungUp = refl
asked_at s r slot request.Other = refl

client_asked_at : (s : BlockState) (r : block_call.ReceivedCall) (o : Option ℕ)
    → block.handled_for (uncounted_block s) r o ≡ uncounted_block (block.handled_for s r o)
client_asked_at s r None = refl
client_asked_at s r (Some slot) = asked_at s r slot (block.asked_by r.msg.method)

call_at : (s : BlockState) (r : block_call.ReceivedCall) (b : Bool)
    → block.handled_if (uncounted_block s) r b ≡ uncounted_block (block.handled_if s r b)
call_at s r true = client_at s r _
call_at s r false = client_asked_at s r _

block_receive_at : (s : BlockState) (o : Outcome)
    → block.after_receive (uncounted_block s) o ≡ uncounted_block (block.after_receive s o)
block_receive_at s Done = refl
block_receive_at s (Refused code) = refl
block_receive_at s (Accepted call) = refl
block_receive_at s (Received call msg label) = call_at s (record { number = call; msg = msg; label = label }) _
block_receive_at s (Answered call reply) = refl
block_receive_at s Empty = refl
block_receive_at s (Bytes b) = refl

block_at : (s : BlockState) (o : Outcome) (w : Option block_work.Work)
    → block.after_outcome_by (uncounted_block s) o w ≡ uncounted_block (block.after_outcome_by s o w)
block_at s o None = block_receive_at s o
block_at s o (Some (block_todo.Offer service)) = refl
block_at s o (Some (block_todo.Drop base)) = refl
block_at s o (Some (block_todo.Answer call reply)) = refl
block_at s o (Some (block_todo.Show call at b)) = refl
block_at s o (Some (block_todo.Fetch call at b)) = refl

pub block_after : (s : BlockState) (o : Outcome)
    → uncounted_block (block.after (uncounted_block s) o) ≡ uncounted_block (block.after s o)
block_after s o = ap uncounted_block (block_at s o (block.first_work s))

request_at : (s : BlockState) (w : Option block_work.Work)
    → block.request_of (uncounted_block s) w ≡ block.request_of s w
request_at s None = refl
request_at s (Some (block_todo.Offer service)) = refl
request_at s (Some (block_todo.Drop base)) = refl
request_at s (Some (block_todo.Answer call reply)) = refl
request_at s (Some (block_todo.Show call at b)) = refl
request_at s (Some (block_todo.Fetch call at b)) = refl

pub block_wanted : (s : BlockState) → block.wanted (uncounted_block s) ≡ block.wanted s
block_wanted s = request_at s (block.first_work s)
