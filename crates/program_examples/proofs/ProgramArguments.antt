-- Programs ask with five arguments.
use Rattle.std.proofs.Common.{◌≡◌, ℕ, Bool, true, false, List, [], ◌∷◌, ◌++◌, length, drop, Option, None, Some, refl, subst, ◌∙◌}
use Rattle.std.specs.Prelude.{⊤, All, slice_get, if◌then◌else◌}
use Rattle.std.proofs.lemmas.List.{length-map}
use Rattle.std.proofs.lemmas.List.Elements.{All-nil, All-cons, All-append, All-drop}
use Rattle.std.proofs.lemmas.Option.{get_or_from_slice_get, slice_get_within}
use Rattle.ipc_ids.specs.declared.numbers.FibrilNo.{FibrilNo}
use Rattle.ipc_ids.specs.declared.numbers.CallNo.{CallNo}
use Rattle.ipc_ids.specs.declared.numbers.Code.{Code}
use Rattle.ipc_ids.specs.declared.message.Outcome.{Outcome}
use Rattle.ipc_ids.specs.declared.message.Outcome.TheVariants as got
use Rattle.ipc_ids.specs.declared.op.Op.{Op}
use Rattle.ipc_ids.specs.declared.op.Op.TheVariants as op
use Rattle.ipc_ids.specs.declared.op.Body.{Body}
use Rattle.ipc_ids.specs.declared.op.Value.{Value}
use Rattle.ipc_ids.specs.declared.op.Value.TheVariants.{Number}
use Rattle.registers.specs.Registers.{value_in, request_in}
use Rattle.raw_program.specs.Raw.{RawState}
use Rattle.raw_program.specs.Raw as raw
use Rattle.async_task.specs.declared.context.Context.{Context}
use Rattle.async_task.specs.declared.context.Slot.{Slot}
use Rattle.async_task.specs.declared.context.Slot.TheVariants as slot
use Rattle.async_task.specs.Contexts.{slot_at, handle_at}
use Rattle.async_task.specs.AsyncState.{AsyncState, context_at, op_in, present_op}
use Rattle.async_task.specs.Turns.{Turn, turn_of, fibril_turn, work_turn}
use Rattle.async_task.specs.Turns as turn
use Rattle.async_task.specs.Wanted as fibrils
use Rattle.async_sessions.specs.declared.sessions.Begin.{Begin}
use Rattle.async_sessions.specs.declared.sessions.Begin.TheVariants as begin
use Rattle.async_sessions.specs.declared.sessions.Close.{Close}
use Rattle.async_sessions.specs.declared.sessions.Close.TheVariants as close
use Rattle.fibril_core.specs.Fibrils.{current}
use Rattle.task_ends.specs.declared.introduced.End.{End}
use Rattle.task_ends.specs.declared.ends.Waited.{Waited}
use Rattle.task_ends.specs.declared.ends.Waited.TheVariants as waited
use Rattle.naming_service.specs.declared.received.ReceivedCall.{ReceivedCall}
use Rattle.naming_service.specs.declared.received.Work.{Work}
use Rattle.naming_service.specs.declared.received.Work.TheVariants.{Answer, Forward}
use Rattle.naming_service.specs.declared.received.Asked.{Asked}
use Rattle.naming_service.specs.declared.received.Asked.TheVariants.{Register, Connect, Introduce, Leave, Wait, HungUp, Other}
use Rattle.naming_service.specs.Naming as naming
use Rattle.block_server.specs.declared.received.ReceivedCall.{ReceivedCall as BlockCall}
use Rattle.block_server.specs.declared.received.Work.{Work as BlockWork}
use Rattle.block_server.specs.declared.received.Work.TheVariants as work
use Rattle.block_server.specs.declared.received.Asked.{Asked as BlockAsked}
use Rattle.block_server.specs.declared.received.Asked.TheVariants as asked
use Rattle.block_server.specs.Blocks as block
use Rattle.program_examples.specs.FiveArguments.{GivesFive, GiveFive, CarriesFive, naming_after, server_after}

-- an element that stands at a place keeps what all do
module _ {A : Type 0} (P : A → Type 0) where
  at : (xs : List A) (i : ℕ) (x : A) → All P xs → slice_get xs i ≡ Some x → P x
  at xs i x all is = subst P (get_or_from_slice_get xs i x x is) (all i x (slice_get_within xs i x is))

-- ---- requests that bodies of every kind make

asks_by : (registers : List ℕ) (x : Op) → GivesFive x → CarriesFive (request_in registers x)
asks_by registers (op.Answer call code args) five = length-map args (value_in registers) ∙ five
asks_by registers (op.Forward call phone mode) five = tt
asks_by registers (op.ForwardWith call phone mode method args) five = length-map args (value_in registers) ∙ five
asks_by registers (op.Area base pages rights) five = tt
asks_by registers (op.Unarea base) five = tt
asks_by registers (op.Poke address bytes) five = tt
asks_by registers (op.Peek address count) five = tt
asks_by registers _ five = tt

-- ---- raw programs

raw_asks_by : (p : RawState) (x : Op) → GivesFive x → CarriesFive (raw.request_of p.registers x)
raw_asks_by p (op.Call phone method args) five = length-map args (value_in p.registers) ∙ five
raw_asks_by p op.Receive five = tt
raw_asks_by p (op.Hangup phone) five = tt
raw_asks_by p x five = asks_by p.registers x five

pub raw_asks : (p : RawState) → All GivesFive p.ops → CarriesFive (raw.wanted p)
raw_asks p five = by (raw.operation p) refl where
  by : (o : Option Op) → raw.operation p ≡ o → CarriesFive (raw.wanted_at p.registers o)
  by None is = tt
  by (Some x) is = raw_asks_by p x (at GivesFive p.ops p.place x five is)

-- ---- fibrils

begins : (b : Begin) → CarriesFive (fibrils.wanted_begin b)
begins (begin.Connect phone) = refl
begins (begin.HangIdle e phone) = tt
begins _ = tt

closes : (c : Close) → CarriesFive (fibrils.wanted_close c)
closes (close.HangIdle e phone) = tt
closes (close.Last phone) = tt
closes (close.Refused c) = tt

calls : (t : Context) (phone method : Value) (args : List Value) → length args ≡ 5 → (s : Slot)
    → CarriesFive (fibrils.wanted_call t phone method args s)
calls t phone method args five slot.Closed = length-map args (value_in t.registers) ∙ five
calls t phone method args five (slot.Sent n) = tt
calls t phone method args five (slot.Answered n r) = tt

sends : (t : Context) (method : Value) (args : List Value) → length args ≡ 5 → (s : Slot) (o : Option ℕ)
    → CarriesFive (fibrils.wanted_send t method args s o)
sends t method args five s None = tt
sends t method args five s (Some phone) = calls t (Number phone) method args five s

module _ (a : AsyncState) where
  does : (f : FibrilNo) (t : Context) (x : Op) → GivesFive x → CarriesFive (fibrils.wanted_op a f t x)
  does f t (op.CallSlot k phone method args) five = calls t phone method args five (slot_at t k)
  does f t (op.Send k x method args) five =
      sends t method args five (slot_at t k) (fibrils.phone_by a.pool f (handle_at t x))
  does f t (op.Begin x s) five = begins (fibrils.plan_begin a f t x s)
  does f t (op.Close s) five = closes (fibrils.plan_close a s)
  does f t x five = asks_by t.registers x five

  module _ (five : GiveFive a.bodies) where
    present : (t : Context) (x : Op) → present_op a t ≡ Some x → GivesFive x
    present t x = by (slice_get a.bodies t.body) refl where
      by : (o : Option Body) → slice_get a.bodies t.body ≡ o → op_in o t.place ≡ Some x → GivesFive x
      by None is has = absurd (cc has)
      by (Some body) is has =
          at GivesFive body.ops t.place x (at (λ (b : Body). All GivesFive b.ops) a.bodies t.body body five is) has

    runs : (f : FibrilNo) (t : Context) (o : Option Op) → present_op a t ≡ o
        → CarriesFive (fibrils.wanted_in a (turn.Run f t o))
    runs f t None is = tt
    runs f t (Some x) is = does f t x (present t x is)

    by_fibril : (f : FibrilNo) (o : Option Context) → CarriesFive (fibrils.wanted_in a (turn_of a f o))
    by_fibril f None = tt
    by_fibril f (Some t) = runs f t (present_op a t) refl

    by_turn : (o : Option FibrilNo) → CarriesFive (fibrils.wanted_in a (fibril_turn a o))
    by_turn None = tt
    by_turn (Some f) = by_fibril f (context_at a f)

    by_work : (ws : List (CallNo × Code)) → CarriesFive (fibrils.wanted_in a (work_turn a ws))
    by_work [] = by_turn (current a.order)
    by_work (w ∷ ws) = refl

pub fibrils_ask : (a : AsyncState) → GiveFive a.bodies → CarriesFive (fibrils.wanted a)
fibrils_ask a five = by_work a five a.work

-- ---- the naming service

abbrev OwesFive : Work → Type 0
OwesFive (Answer call reply) = length reply.args ≡ 5
OwesFive (Forward call phone msg) = length msg.args ≡ 5

abbrev Owes : naming.NamingState → Type 0
Owes s = All OwesFive s.work

module _ (s : naming.NamingState) (owes : Owes s) where
  more : (ws : List Work) → All OwesFive ws → All OwesFive (s.work ++ ws)
  more ws five = All-append OwesFive s.work ws owes five

  one_more : (w : Work) → OwesFive w → All OwesFive (s.work ++ w ∷ [])
  one_more w five = more (w ∷ []) (All-cons OwesFive w [] five (All-nil OwesFive))

goes_on : (phone : ℕ) (r : ReceivedCall) (b : Bool)
    → All OwesFive (if b then naming.forwarding phone r ∷ [] else [])
goes_on phone r true = All-cons OwesFive (naming.forwarding phone r) [] refl (All-nil OwesFive)
goes_on phone r false = All-nil OwesFive

go_on : (service phone : ℕ) (rs : List ReceivedCall) → All OwesFive (naming.forwarding_all service phone rs)
go_on service phone [] = All-nil OwesFive
go_on service phone (r ∷ rs) = All-append OwesFive _ _ (goes_on phone r _) (go_on service phone rs)

are_told : (end : End) (calls : List CallNo) → All OwesFive (naming.telling_all end calls)
are_told end [] = All-nil OwesFive
are_told end (call ∷ calls) =
    All-cons OwesFive (naming.telling end call) (naming.telling_all end calls) refl (are_told end calls)

module _ (s : naming.NamingState) (r : ReceivedCall) (owes : Owes s) where
  registers : (full : Bool) (o : Option ℕ) → Owes (naming.registered_by s r full o)
  registers true o = one_more s owes _ refl
  registers false (Some other) = one_more s owes _ refl
  registers false None = All-append OwesFive _ _ (one_more s owes _ refl) (go_on _ _ s.pending)

  waits : (b : Bool) → Owes (naming.wait_or_refuse_by s r b)
  waits true = owes
  waits false = one_more s owes _ refl

  connects : (o : Option ℕ) → Owes (naming.connect_by s r o)
  connects (Some phone) = one_more s owes _ refl
  connects None = waits (naming.is_blocking r)

  introduces : (b : Bool) → Owes (naming.introduced_by s r b)
  introduces true = one_more s owes _ refl
  introduces false = one_more s owes _ refl

  waits_for : (w : Waited) → Owes (naming.waited_for_by s r w)
  waits_for (waited.Ended end) = one_more s owes _ refl
  waits_for waited.Pending = owes
  waits_for waited.Unknown = one_more s owes _ refl

handles : (s : naming.NamingState) (r : ReceivedCall) → Owes s → (a : Asked) → Owes (naming.handled_by s r a)
handles s r owes Register = registers (naming.without_phone s (naming.phone_given r)) r owes _ _
handles s r owes Connect = connects s r owes _
handles s r owes Introduce = introduces s r owes _
handles s r owes Leave = one_more s owes _ refl
handles s r owes Wait = waits_for s r owes _
handles s r owes HungUp = All-append OwesFive _ _ (one_more s owes _ refl) (are_told _ _)
handles s r owes Other = one_more s owes _ refl

receives : (s : naming.NamingState) (o : Outcome) → Owes s → Owes (naming.after_receive s o)
receives s (got.Received call msg label) owes =
    let r : ReceivedCall = record { number = call; msg = msg; label = label } in
    handles s r owes (naming.asked_by msg.method)
receives s _ owes = owes

goes : (s : naming.NamingState) (o : Outcome) → Owes s → Owes (naming.after s o)
goes s o owes = by (naming.first_work s) where
  by : (w : Option Work) → Owes (naming.after_outcome_by s o w)
  by None = receives s o owes
  by (Some w) = All-drop OwesFive 1 s.work owes

naming_owes : (told : List Outcome) → Owes (naming_after told)
naming_owes [] = All-nil OwesFive
naming_owes (o ∷ told) = goes (naming_after told) o (naming_owes told)

pub naming_asks : (told : List Outcome) → CarriesFive (naming.wanted (naming_after told))
naming_asks told = by (naming.first_work (naming_after told)) refl where
  by : (w : Option Work) → naming.first_work (naming_after told) ≡ w → CarriesFive (naming.request_of w)
  by None is = tt
  by (Some (Answer call reply)) is = at OwesFive _ 0 (Answer call reply) (naming_owes told) is
  by (Some (Forward call phone msg)) is = at OwesFive _ 0 (Forward call phone msg) (naming_owes told) is

-- ---- a block server

abbrev ServesFive : BlockWork → Type 0
ServesFive (work.Answer call reply) = length reply.args ≡ 5
ServesFive _ = ⊤

abbrev Serves : block.BlockState → Type 0
Serves s = All ServesFive s.work

module _ (s : block.BlockState) (owes : Serves s) where
  serves_more : (w : BlockWork) → ServesFive w → All ServesFive (s.work ++ w ∷ [])
  serves_more w five = All-append ServesFive s.work (w ∷ []) owes (All-cons ServesFive w [] five (All-nil ServesFive))

  serves_both : (v w : BlockWork) → ServesFive v → ServesFive w → All ServesFive (s.work ++ v ∷ w ∷ [])
  serves_both v w one two =
      All-append ServesFive s.work (v ∷ w ∷ []) owes
      (All-cons ServesFive v (w ∷ []) one (All-cons ServesFive w [] two (All-nil ServesFive)))

  worked : Serves (block.worked s)
  worked = All-drop ServesFive 1 s.work owes

module _ (s : block.BlockState) (r : BlockCall) (owes : Serves s) where
  enters : (o : Option ℕ) → Serves (block.enter_by s r o)
  enters None = serves_more s owes _ refl
  enters (Some slot) = serves_more s owes _ refl

  attaches : (o : Option ℕ) → Serves (block.connect_by s r o)
  attaches (Some slot) = serves_both s owes _ _ tt refl
  attaches None = enters (block.free_slot s.slots)

  shares : (slot : ℕ) (b : Bool) → Serves (block.share_by s r slot b)
  shares slot true = serves_more s owes _ refl
  shares slot false = serves_more s owes _ refl

  moves : (w : BlockWork) → ServesFive w → (there right : Bool) → Serves (block.transfer_by s r w there right)
  moves w five false right = serves_more s owes _ refl
  moves w five true false = serves_more s owes _ refl
  moves w five true true = serves_more s owes w five

  asked_of : (slot : ℕ) (a : BlockAsked) → Serves (block.handled_by s r slot a)
  asked_of slot asked.Share = shares slot (block.is_window r)
  asked_of slot asked.Read = moves _ tt _ _
  asked_of slot asked.Write = moves _ tt _ _
  asked_of slot asked.HungUp = serves_both s owes _ _ tt refl
  asked_of slot asked.Other = serves_more s owes _ refl

  asked_by : (o : Option ℕ) → Serves (block.handled_for s r o)
  asked_by None = serves_more s owes _ refl
  asked_by (Some slot) = asked_of slot (block.asked_by r.msg.method)

  handled : (b : Bool) → Serves (block.handled_if s r b)
  handled true = attaches (block.slot_of s.slots (block.label_given r))
  handled false = asked_by (block.slot_of s.slots r.label)

hears : (s : block.BlockState) (o : Outcome) → Serves s → Serves (block.after_receive s o)
hears s (got.Received call msg label) owes =
    let r : BlockCall = record { number = call; msg = msg; label = label } in handled s r owes _
hears s _ owes = owes

done : (s : block.BlockState) (call : CallNo) (o : Outcome) → Serves s → Serves (block.done s call o)
done s call o owes = All-cons ServesFive (block.answering call (block.code_of o)) (drop 1 s.work) refl (worked s owes)

serves_on : (s : block.BlockState) (o : Outcome) → Serves s → Serves (block.after s o)
serves_on s o owes = by (block.first_work s) where
  by : (w : Option BlockWork) → Serves (block.after_outcome_by s o w)
  by None = hears s o owes
  by (Some (work.Show call place b)) = done s call o owes
  by (Some (work.Fetch call place b)) = done (block.with_block s b o) call o owes
  by _ = worked s owes

first : (service : Option ℕ) → All ServesFive (block.first_offer service)
first None = All-nil ServesFive
first (Some service) = All-cons ServesFive (work.Offer service) [] tt (All-nil ServesFive)

server_owes : (blocks : ℕ) (service : Option ℕ) (told : List Outcome) → Serves (server_after blocks service told)
server_owes blocks service [] = first service
server_owes blocks service (o ∷ told) = serves_on (server_after blocks service told) o (server_owes blocks service told)

pub server_asks : (blocks : ℕ) (service : Option ℕ) (told : List Outcome)
    → CarriesFive (block.wanted (server_after blocks service told))
server_asks blocks service told = by (block.first_work (server_after blocks service told)) refl where
  by : (w : Option BlockWork) → block.first_work (server_after blocks service told) ≡ w
      → CarriesFive (block.request_of (server_after blocks service told) w)
  by (Some (work.Offer n)) is = refl
  by (Some (work.Answer call reply)) is =
      at ServesFive _ 0 (work.Answer call reply) (server_owes blocks service told) is
  by _ is = tt
