-- What a fibril asks, what it is refused, and how long a begin keeps in mind that it met the limit, in the words of its
-- operation, its registers and its exchanges; codes are numbers.
use Rattle.std.specs.Prelude.{◌≡◌, ℕ, ◌+◌, ◌-◌, ◌^◌, ◌<◌, ◌≤◌, ◌⊎◌, ⊤, false, List, [], ◌∷◌, None, Some, slice_get, slice_set}
use Rattle.std.specs.List.{find}
use Rattle.ipc_ids.specs.declared.numbers.CallNo.{CallNo}
use Rattle.ipc_ids.specs.declared.numbers.FibrilNo.{FibrilNo}
use Rattle.ipc_ids.specs.declared.numbers.ExchangeNo.{ExchangeNo}
use Rattle.ipc_ids.specs.declared.numbers.Code.{Code}
use Rattle.ipc_ids.specs.declared.message.ExchangeMode.{ExchangeMode}
use Rattle.ipc_ids.specs.declared.message.Mode.{Mode}
use Rattle.ipc_ids.specs.declared.message.Msg.{Msg}
use Rattle.ipc_ids.specs.declared.message.Reply.{Reply}
use Rattle.ipc_ids.specs.declared.message.Why.{Why}
use Rattle.ipc_ids.specs.declared.message.Request.TheVariants as ask
use Rattle.ipc_ids.specs.declared.message.Outcome.{Outcome}
use Rattle.ipc_ids.specs.declared.message.Outcome.TheVariants as got
use Rattle.ipc_ids.specs.declared.entry.Entry.TheVariants as entry
use Rattle.ipc_ids.specs.declared.op.Value.{Value}
use Rattle.ipc_ids.specs.declared.op.Value.TheVariants.{Number, Register}
use Rattle.ipc_ids.specs.declared.op.Op.{Op}
use Rattle.ipc_ids.specs.declared.op.Op.TheVariants as op
use Rattle.fibril_core.specs.declared.conn.Conn.{Conn}
use Rattle.fibril_core.specs.Fibrils.{why_of}
use Rattle.async_sessions.specs.declared.sessions.Session.{Session}
use Rattle.async_sessions.specs.declared.sessions.Held.TheVariants.{By}
use Rattle.async_sessions.specs.declared.sessions.Exchange.{Exchange}
use Rattle.async_sessions.specs.Sessions.{session_at, exchange_at}
use Rattle.async_sessions.specs.SessionLaws.{HasOneBegun, HasNoneBegun}
use Rattle.async_task.specs.declared.context.Slot.TheVariants as slot
use Rattle.async_task.specs.declared.context.Context.{Context}
use Rattle.async_task.specs.Turns as turn
use Rattle.async_task.specs.Turns.{turn_now}
use Rattle.async_task.specs.AsyncState.{AsyncState, context_at, present_op}
use Rattle.async_task.specs.Answers.{is_of_call}
use Rattle.async_task.specs.Wanted.{wanted}
use Rattle.async_task.specs.Steps.{step}
use Rattle.raw_program.specs.Raw as raw
use Rattle.raw_program.specs.Raw.{RawState}
use Rattle.program_examples.specs.Apart.{five, code}

-- ---- values

-- a value of an operation is this number: the number itself, or what its register holds
abbrev pub Is : List ℕ → Value → ℕ → Type 0
Is registers (Number m) n = m ≡ n
Is registers (Register k) n = slice_get registers k ≡ Some n

-- so each of them
abbrev pub Are : List ℕ → List Value → List ℕ → Type 0
Are registers [] [] = ⊤
Are registers [] (n ∷ ns) = ⊥
Are registers (v ∷ vs) [] = ⊥
Are registers (v ∷ vs) (n ∷ ns) = Is registers v n × Are registers vs ns

-- the message has this method and these arguments
pub record IsMessage (registers : List ℕ) (method : Value) (args : List Value) (msg : Msg) : Type 0 where
  pub method_is : Is registers method msg.method
  pub args_are : Are registers args msg.args

-- the reply has this code and these arguments
pub record IsReply (registers : List ℕ) (coded : Value) (args : List Value) (said : Reply) : Type 0 where
  pub code_is : Is registers coded said.code.0
  pub args_are : Are registers args said.args

-- ---- whose turn it is

-- it is the turn of fibril f, which keeps t, and this is its operation
abbrev pub Does : FibrilNo → Context → Op → AsyncState → Type 0
Does f t o a = turn_now a ≡ turn.Run f t (Some o)

-- ---- requests on held calls and on memory

-- a fibril asks the request of its operation, with what its values are
pub record FibrilsAskAsGiven : Type 0 where
  pub answer : (a : AsyncState) (f : FibrilNo) (t : Context) (call coded : Value) (args : List Value) (n : ℕ)
      (said : Reply) → Does f t (op.Answer call coded args) a → Is t.registers call n →
      IsReply t.registers coded args said → wanted a ≡ ask.Answer n said
  pub forward : (a : AsyncState) (f : FibrilNo) (t : Context) (call phone : Value) (mode : Mode) (n p : ℕ) →
      Does f t (op.Forward call phone mode) a → Is t.registers call n → Is t.registers phone p →
      wanted a ≡ ask.Forward n p mode None
  pub forward_with : (a : AsyncState) (f : FibrilNo) (t : Context) (call phone method : Value) (mode : Mode)
      (args : List Value) (n p : ℕ) (msg : Msg) → Does f t (op.ForwardWith call phone mode method args) a →
      Is t.registers call n → Is t.registers phone p → IsMessage t.registers method args msg →
      wanted a ≡ ask.Forward n p mode (Some msg)
  pub area : (a : AsyncState) (f : FibrilNo) (t : Context) (base pages rights : Value) (b p r : ℕ) →
      Does f t (op.Area base pages rights) a → Is t.registers base b → Is t.registers pages p →
      Is t.registers rights r → wanted a ≡ ask.AreaMake b p r
  pub unarea : (a : AsyncState) (f : FibrilNo) (t : Context) (base : Value) (b : ℕ) → Does f t (op.Unarea base) a →
      Is t.registers base b → wanted a ≡ ask.AreaDrop b
  pub poke : (a : AsyncState) (f : FibrilNo) (t : Context) (address : Value) (bytes : List ℕ) (n : ℕ) →
      Does f t (op.Poke address bytes) a → Is t.registers address n → wanted a ≡ ask.Poke n bytes
  pub peek : (a : AsyncState) (f : FibrilNo) (t : Context) (address count : Value) (n m : ℕ) →
      Does f t (op.Peek address count) a → Is t.registers address n → Is t.registers count m →
      wanted a ≡ ask.Peek n m

-- ---- refusals

-- nothing is asked; the fibril is told the code in r0 and goes on behind its operation, and an entry tells of it
pub record IsRefused (n : ℕ) (f : FibrilNo) (t : Context) (a : AsyncState) : Type 0 where
  pub nothing : wanted a ≡ ask.Nothing
  pub told : (o : Outcome) → (step a o).entries ≡ entry.RefusedOp a.me f (code n) ∷ []
  pub after : Context
  pub keeps : (o : Outcome) → slice_get (step a o).state.contexts (f.0 - 1) ≡ Some (Some after)
  pub registers : after.registers ≡ slice_set t.registers 0 n
  pub place : t.place < 2 ^ 62 → after.place ≡ t.place + 1
  pub slots : after.slots ≡ t.slots
  pub handles : after.handles ≡ t.handles

-- ---- calls from slots, and over the phones of exchanges

-- the slot holds a call, whose answer has come or not
abbrev pub IsInUse : Context → ℕ → Type 0
IsInUse t k =
    ((n : CallNo) × (slice_get t.slots k ≡ Some (slot.Sent n)))
    ⊎ ((n : CallNo) × (said : Reply) × (slice_get t.slots k ≡ Some (slot.Answered n said)))

abbrev pub IsFree : Context → ℕ → Type 0
IsFree t k = slice_get t.slots k ≡ Some slot.Closed

-- handle x of fibril f, which keeps t, names an exchange that f has begun over this phone
pub record HasBegun (f : FibrilNo) (t : Context) (x phone : ℕ) (a : AsyncState) : Type 0 where
  pub number : ExchangeNo
  pub exchange : Exchange
  pub named : slice_get t.handles x ≡ Some (Some number)
  pub there : exchange_at number a.pool.exchanges ≡ Some exchange
  pub held : exchange.held ≡ By f
  pub over : exchange.phone ≡ phone

-- it names none, one that is over, or one that another fibril has begun
pub record HasNotBegun (f : FibrilNo) (t : Context) (x : ℕ) (a : AsyncState) : Type 0 where
  pub none : (e : ExchangeNo) (y : Exchange) → slice_get t.handles x ≡ Some (Some e) →
      exchange_at e a.pool.exchanges ≡ Some y → y.held ≡ By f → ⊥

-- a call goes over the phone that it names; from a slot in use it is refused with EBUSY
pub record CallsGoAsGiven : Type 0 where
  pub asked : (a : AsyncState) (f : FibrilNo) (t : Context) (k : ℕ) (phone method : Value) (args : List Value) (p : ℕ)
      (msg : Msg) → Does f t (op.CallSlot k phone method args) a → IsFree t k → Is t.registers phone p →
      IsMessage t.registers method args msg → wanted a ≡ ask.Call p msg
  pub busy : (a : AsyncState) (f : FibrilNo) (t : Context) (k : ℕ) (phone method : Value) (args : List Value) →
      Does f t (op.CallSlot k phone method args) a → IsInUse t k → IsRefused 8 f t a

-- a send goes over the phone of the exchange; ENOENT where the fibril has begun none under the handle, then EBUSY
pub record SendsGoOverTheExchange : Type 0 where
  pub asked : (a : AsyncState) (f : FibrilNo) (t : Context) (k x phone : ℕ) (method : Value) (args : List Value)
      (msg : Msg) → Does f t (op.Send k x method args) a → HasBegun f t x phone a → IsFree t k →
      IsMessage t.registers method args msg → wanted a ≡ ask.Call phone msg
  pub none : (a : AsyncState) (f : FibrilNo) (t : Context) (k x : ℕ) (method : Value) (args : List Value) →
      Does f t (op.Send k x method args) a → HasNotBegun f t x a → IsRefused 1 f t a
  pub busy : (a : AsyncState) (f : FibrilNo) (t : Context) (k x phone : ℕ) (method : Value) (args : List Value) →
      Does f t (op.Send k x method args) a → HasBegun f t x phone a → IsInUse t k → IsRefused 8 f t a

-- ---- closes

-- some fibril is blocked in a begin of session s
pub record WaitsInABegin (s : ℕ) (a : AsyncState) : Type 0 where
  pub fibril : FibrilNo
  pub numbered : 1 ≤ fibril.0
  pub on : Why
  pub blocked : why_of a.order fibril ≡ Some on
  pub kept : Context
  pub keeps : context_at a fibril ≡ Some kept
  pub handle : ℕ
  pub begins : present_op a kept ≡ Some (op.Begin handle s)

-- ENOENT where the session is not in use; EBUSY where an exchange of it is begun or a fibril waits in a begin of it; in
-- no other case
pub record ClosesMindWhoWaits : Type 0 where
  pub none : (a : AsyncState) (f : FibrilNo) (t : Context) (s : ℕ) → Does f t (op.Close s) a →
      session_at a.pool s ≡ None → IsRefused 1 f t a
  pub waiting : (a : AsyncState) (f : FibrilNo) (t : Context) (s : ℕ) (x : Session) → Does f t (op.Close s) a →
      session_at a.pool s ≡ Some x → WaitsInABegin s a → IsRefused 8 f t a
  pub begun : (a : AsyncState) (f : FibrilNo) (t : Context) (s : ℕ) (x : Session) → Does f t (op.Close s) a →
      session_at a.pool s ≡ Some x → HasOneBegun s a.pool.exchanges → IsRefused 8 f t a
  pub goes : (a : AsyncState) (f : FibrilNo) (t : Context) (s : ℕ) (x : Session) → Does f t (op.Close s) a →
      session_at a.pool s ≡ Some x → (WaitsInABegin s a → ⊥) → HasNoneBegun s a.pool.exchanges →
      (phone : ℕ) × (wanted a ≡ ask.Hangup phone)

-- ---- begins

-- ENOENT where the session is not in use, then EBUSY where the fibril has begun an exchange under the handle
pub record BeginsAreRefused : Type 0 where
  pub none : (a : AsyncState) (f : FibrilNo) (t : Context) (x s : ℕ) → Does f t (op.Begin x s) a →
      session_at a.pool s ≡ None → IsRefused 1 f t a
  pub busy : (a : AsyncState) (f : FibrilNo) (t : Context) (x s phone : ℕ) (u : Session) →
      Does f t (op.Begin x s) a → session_at a.pool s ≡ Some u → HasBegun f t x phone a → IsRefused 8 f t a

-- no connection is that of fibril f
abbrev pub ServesNone : FibrilNo → AsyncState → Type 0
ServesNone f a = (i : ℕ) (c : Conn) → slice_get a.conns i ≡ Some c → c.fibril.0 ≡ f.0 → ⊥

-- to make a session is refused with EBUSY where its number is in use; ENOENT is told of a wait where the slot holds no
-- call, of `next` where the fibril has no connection, and of an end where it has begun none under the handle
pub record OthersAreRefused : Type 0 where
  pub open_session : (a : AsyncState) (f : FibrilNo) (t : Context) (s : ℕ) (phone : Value) (mode : ExchangeMode)
      (u : Session) → Does f t (op.OpenSession s phone mode) a → session_at a.pool s ≡ Some u → IsRefused 8 f t a
  pub wait : (a : AsyncState) (f : FibrilNo) (t : Context) (k : ℕ) → Does f t (op.Wait k) a → IsFree t k →
      IsRefused 1 f t a
  pub next : (a : AsyncState) (f : FibrilNo) (t : Context) → Does f t op.Next a → ServesNone f a →
      IsRefused 1 f t a
  pub end_exchange : (a : AsyncState) (f : FibrilNo) (t : Context) (x : ℕ) → Does f t (op.End x) a →
      HasNotBegun f t x a → IsRefused 1 f t a

-- ---- what a task owes

-- the first answer that is owed is made before all else, the others stay in their order, and nothing is told
pub record OwedAnswersComeFirst (a : AsyncState) (n : CallNo) (c : Code) (rest : List (CallNo × Code)) : Type 0 where
  pub asked : wanted a ≡ ask.Answer n.0 (record { code = c; args = five 0 0 0 0 0 })
  pub stays : (o : Outcome) → step a o ≡ record { state = record a { work = rest }; entries = [] }

-- so it is in each state in which an answer is owed
abbrev pub TasksAnswerWhatTheyOwe : Type 0
TasksAnswerWhatTheyOwe =
    (a : AsyncState) (n : CallNo) (c : Code) (rest : List (CallNo × Code)) → a.work ≡ (n, c) ∷ rest →
    OwedAnswersComeFirst a n c rest

-- the answer of call n is awaited for the begin of fibril f
pub record AwaitsForItsBegin (f : FibrilNo) (t : Context) (n : CallNo) (a : AsyncState) : Type 0 where
  pub receives : turn_now a ≡ turn.Receive
  pub awaited : find (is_of_call n) a.awaited ≡ Some (record { call = n; fibril = f; slot = None })
  pub keeps : context_at a f ≡ Some t
  pub handle : ℕ
  pub session : ℕ
  pub begins : present_op a t ≡ Some (op.Begin handle session)

-- where a begin has ended, with its exchange or refused, the fibril keeps no more in mind that it met the limit
pub record ShortEndsWithItsBegin : Type 0 where
  pub own : (a : AsyncState) (f : FibrilNo) (t u : Context) (x s : ℕ) (o : Outcome) → Does f t (op.Begin x s) a →
      context_at (step a o).state f ≡ Some u → (u.place ≡ t.place → ⊥) → u.short ≡ false
  pub answered : (a : AsyncState) (f : FibrilNo) (t u : Context) (n : CallNo) (said : Reply) →
      AwaitsForItsBegin f t n a → context_at (step a (got.Answered n said)).state f ≡ Some u →
      (u.place ≡ t.place → ⊥) → u.short ≡ false

-- ---- raw programs

-- the next operation of a raw program is this
abbrev pub RawDoes : Op → RawState → Type 0
RawDoes o r = slice_get r.ops r.place ≡ Some o

-- a raw program asks the request of its operation, with what its values are
pub record RawProgramsAskAsGiven : Type 0 where
  pub call : (r : RawState) (phone method : Value) (args : List Value) (p : ℕ) (msg : Msg) →
      RawDoes (op.Call phone method args) r → Is r.registers phone p → IsMessage r.registers method args msg →
      raw.wanted r ≡ ask.Call p msg
  pub receive : (r : RawState) → RawDoes op.Receive r → raw.wanted r ≡ ask.Receive
  pub answer : (r : RawState) (call coded : Value) (args : List Value) (n : ℕ) (said : Reply) →
      RawDoes (op.Answer call coded args) r → Is r.registers call n → IsReply r.registers coded args said →
      raw.wanted r ≡ ask.Answer n said
  pub forward : (r : RawState) (call phone : Value) (mode : Mode) (n p : ℕ) → RawDoes (op.Forward call phone mode) r →
      Is r.registers call n → Is r.registers phone p → raw.wanted r ≡ ask.Forward n p mode None
  pub forward_with : (r : RawState) (call phone method : Value) (mode : Mode) (args : List Value) (n p : ℕ)
      (msg : Msg) → RawDoes (op.ForwardWith call phone mode method args) r → Is r.registers call n →
      Is r.registers phone p → IsMessage r.registers method args msg →
      raw.wanted r ≡ ask.Forward n p mode (Some msg)
  pub hangup : (r : RawState) (phone : Value) (p : ℕ) → RawDoes (op.Hangup phone) r → Is r.registers phone p →
      raw.wanted r ≡ ask.Hangup p
  pub area : (r : RawState) (base pages rights : Value) (b p i : ℕ) → RawDoes (op.Area base pages rights) r →
      Is r.registers base b → Is r.registers pages p → Is r.registers rights i → raw.wanted r ≡ ask.AreaMake b p i
  pub unarea : (r : RawState) (base : Value) (b : ℕ) → RawDoes (op.Unarea base) r → Is r.registers base b →
      raw.wanted r ≡ ask.AreaDrop b
  pub poke : (r : RawState) (address : Value) (bytes : List ℕ) (n : ℕ) → RawDoes (op.Poke address bytes) r →
      Is r.registers address n → raw.wanted r ≡ ask.Poke n bytes
  pub peek : (r : RawState) (address count : Value) (n m : ℕ) → RawDoes (op.Peek address count) r →
      Is r.registers address n → Is r.registers count m → raw.wanted r ≡ ask.Peek n m
