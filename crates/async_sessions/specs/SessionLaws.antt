-- What the calls on sessions come to, in the words of exchanges, their numbers and stamps.
use Rattle.std.specs.Prelude.{⊤, ℕ, ◌≡◌, ◌≢◌, ◌≤◌, ◌<◌, ◌⊎◌, Bool, false, true}
use Rattle.std.specs.Prelude.{List, [], ◌∷◌, Option, None, Some}
use Rattle.ipc_ids.specs.declared.numbers.FibrilNo.{FibrilNo}
use Rattle.ipc_ids.specs.declared.numbers.ExchangeNo.{ExchangeNo}
use Rattle.ipc_ids.specs.declared.message.ExchangeMode.{ExchangeMode}
use Rattle.ipc_ids.specs.declared.message.ExchangeMode.TheVariants.{Atomic, Serialize, Parallel}
use Rattle.ipc_ids.specs.Codes.{enoent}
use Rattle.async_sessions.specs.declared.sessions.Session.{Session}
use Rattle.async_sessions.specs.declared.sessions.Held.{Held}
use Rattle.async_sessions.specs.declared.sessions.Held.TheVariants.{By, Idle}
use Rattle.async_sessions.specs.declared.sessions.Exchange.{Exchange}
use Rattle.async_sessions.specs.declared.sessions.Begin.{Begin}
use Rattle.async_sessions.specs.declared.sessions.Begin.TheVariants as begin
use Rattle.async_sessions.specs.declared.sessions.Close.{Close}
use Rattle.async_sessions.specs.declared.sessions.Close.TheVariants as close
use Rattle.async_sessions.specs.Sessions.{Open, session_at, mode_answer, exchange_at, in_session}
use Rattle.async_sessions.specs.Sessions.{next_exchange}
use Rattle.ipc_ids.specs.Codes.{ebusy}

-- x is one of these exchanges
abbrev pub IsAmong : Exchange → List Exchange → Type 0
IsAmong x [] = ⊥
IsAmong x (y ∷ ys) = (y ≡ x) ⊎ IsAmong x ys

-- some fibril has begun the exchange
abbrev pub IsBegun : Held → Type 0
IsBegun (By f) = ⊤
IsBegun Idle = ⊥

-- x is an idle exchange of this session, or of any where none is given
pub record IsIdleOf (s : Option ℕ) (xs : List Exchange) (x : Exchange) : Type 0 where
  pub among : IsAmong x xs
  pub idle : x.held ≡ Idle
  pub session : in_session s x ≡ true

-- none is idle, of this session or of any
abbrev pub HasNoIdle : Option ℕ → List Exchange → Type 0
HasNoIdle s xs = (x : Exchange) → IsIdleOf s xs x → ⊥

-- an exchange with this number and phone is idle, of this session or of any, and none of these
-- that is idle has a smaller stamp: it has been idle longest
pub record IsLongestIdle (s : Option ℕ) (xs : List Exchange) (e : ExchangeNo) (phone : ℕ)
    : Type 0 where
  pub exchange : Exchange
  pub is_idle : IsIdleOf s xs exchange
  pub least : (y : Exchange) → IsIdleOf s xs y → exchange.stamp ≤ y.stamp
  pub named : exchange.number ≡ e
  pub over : exchange.phone ≡ phone

-- x is a begun exchange of this session
pub record IsBegunOf (s : ℕ) (xs : List Exchange) (x : Exchange) : Type 0 where
  pub among : IsAmong x xs
  pub session : x.session ≡ s
  pub begun : IsBegun x.held

-- no exchange of this session is begun
abbrev pub HasNoneBegun : ℕ → List Exchange → Type 0
HasNoneBegun s xs = (x : Exchange) → IsBegunOf s xs x → ⊥

-- an exchange of this session is begun
abbrev pub HasOneBegun : ℕ → List Exchange → Type 0
HasOneBegun s xs = (x : Exchange) × IsBegunOf s xs x

-- the answer of a begin that makes a new exchange over the session's phone
abbrev pub IsFresh : Open → Session → Begin → Type 0
IsFresh o x a = a ≡ begin.Begun (next_exchange o) x.phone

-- what a begin of a serialized session answers, and exactly where
abbrev pub AnswersSerial : Open → ℕ → Session → Begin → Type 0
AnswersSerial o s x (begin.Begun e phone) =
    HasNoneBegun s o.exchanges × IsFresh o x (begin.Begun e phone)
AnswersSerial o s x begin.WaitMutex = HasOneBegun s o.exchanges
AnswersSerial o s x _ = ⊥

-- what a begin of a parallel session answers, and exactly where
abbrev pub AnswersParallel : Open → ℕ → Bool → Session → Begin → Type 0
AnswersParallel o s short x (begin.Begun e phone) = IsLongestIdle (Some s) o.exchanges e phone
AnswersParallel o s short x (begin.Connect phone) =
    HasNoIdle (Some s) o.exchanges × (short ≡ false) × (phone ≡ x.phone)
AnswersParallel o s short x (begin.HangIdle e phone) =
    HasNoIdle (Some s) o.exchanges × (short ≡ true) × IsLongestIdle None o.exchanges e phone
AnswersParallel o s short x begin.WaitPhone = (short ≡ true) × HasNoIdle None o.exchanges
AnswersParallel o s short x _ = ⊥

-- what a begin of a session in use answers, by its mode
abbrev pub AnswersIn : Open → ℕ → Bool → Session → Begin → ExchangeMode → Type 0
AnswersIn o s short x a Atomic = IsFresh o x a
AnswersIn o s short x a Serialize = AnswersSerial o s x a
AnswersIn o s short x a Parallel = AnswersParallel o s short x a

-- what a begin answers, and exactly where
abbrev pub AnswersBegin : Open → ℕ → Bool → Begin → Option Session → Type 0
AnswersBegin o s short a None = a ≡ begin.Refused enoent
AnswersBegin o s short a (Some x) = AnswersIn o s short x a x.mode

-- what a close of a session in use answers, and exactly where
abbrev pub ClosesIn : Open → ℕ → Bool → Session → Close → Type 0
ClosesIn o s waiting x (close.HangIdle e phone) =
    (waiting ≡ false) × HasNoneBegun s o.exchanges × IsLongestIdle (Some s) o.exchanges e phone
ClosesIn o s waiting x (close.Last phone) =
    (waiting ≡ false) × HasNoneBegun s o.exchanges × HasNoIdle (Some s) o.exchanges
    × (phone ≡ x.phone)
ClosesIn o s waiting x (close.Refused c) =
    (c ≡ ebusy) × ((waiting ≡ true) ⊎ HasOneBegun s o.exchanges)

-- what a close answers, and exactly where
abbrev pub AnswersClose : Open → ℕ → Bool → Close → Option Session → Type 0
AnswersClose o s waiting a None = a ≡ close.Refused enoent
AnswersClose o s waiting a (Some x) = ClosesIn o s waiting x a

-- the exchange with this number that f has begun, and none exactly where it has begun none
abbrev pub FindsHeld : FibrilNo → ExchangeNo → List Exchange → Option Exchange → Type 0
FindsHeld f e xs (Some x) = (exchange_at e xs ≡ Some x) × (x.held ≡ By f)
FindsHeld f e xs None = (x : Exchange) → exchange_at e xs ≡ Some x → x.held ≢ By f

-- exchanges with other numbers than e, and all sessions, are as they were
pub record LeavesOthers (o after : Open) (e : ExchangeNo) : Type 0 where
  pub others : (d : ExchangeNo) → d.0 ≢ e.0
      → exchange_at d after.exchanges ≡ exchange_at d o.exchanges
  pub sessions : after.sessions ≡ o.sessions

-- the exchange e is gone
pub record Loses (o after : Open) (e : ExchangeNo) : Type 0 where
  pub gone : exchange_at e after.exchanges ≡ None
  pub rest : LeavesOthers o after e

-- the exchange e, which was x, has ended: a parallel one is idle, behind all others, any other gone
pub record EndsOne (o after : Open) (e : ExchangeNo) (x : Exchange) : Type 0 where
  pub parallel : x.mode ≡ Parallel
      → exchange_at e after.exchanges ≡ Some (record x { held = Idle; stamp = o.next_stamp })
  pub gone : x.mode ≢ Parallel → exchange_at e after.exchanges ≡ None
  pub rest : LeavesOthers o after e

-- the session s is gone, and all else is as it was
pub record LosesSession (o after : Open) (s : ℕ) : Type 0 where
  pub gone : session_at after s ≡ None
  pub others : (r : ℕ) → r ≢ s → session_at after r ≡ session_at o r
  pub exchanges : after.exchanges ≡ o.exchanges

-- no two have one number
abbrev pub AreApart : List Exchange → Type 0
AreApart [] = ⊤
AreApart (x ∷ xs) = (exchange_at x.number xs ≡ None) × AreApart xs

-- no two exchanges have one number, and each number is below the next one; an exchange is of a
-- session in use and has its mode; an idle one is parallel; a serialized session has one begun
-- exchange at most; an idle one has a stamp of its own, below the next one
pub record IsSound (o : Open) : Type 0 where
  pub apart : AreApart o.exchanges
  pub numbered : (e : ExchangeNo) (x : Exchange) → exchange_at e o.exchanges ≡ Some x
      → e.0 < o.next_number
  pub modes : (e : ExchangeNo) (x : Exchange) → exchange_at e o.exchanges ≡ Some x
      → mode_answer (session_at o x.session) ≡ Some x.mode
  pub parallel : (e : ExchangeNo) (x : Exchange) → exchange_at e o.exchanges ≡ Some x
      → x.held ≡ Idle → x.mode ≡ Parallel
  pub serial : (d e : ExchangeNo) (x y : Exchange) → exchange_at d o.exchanges ≡ Some x
      → exchange_at e o.exchanges ≡ Some y → IsBegun x.held → IsBegun y.held
      → x.session ≡ y.session → x.mode ≡ Serialize → d.0 ≡ e.0
  pub stamped : (e : ExchangeNo) (x : Exchange) → exchange_at e o.exchanges ≡ Some x
      → x.held ≡ Idle → x.stamp < o.next_stamp
  pub stamps : (d e : ExchangeNo) (x y : Exchange) → exchange_at d o.exchanges ≡ Some x
      → exchange_at e o.exchanges ≡ Some y → x.held ≡ Idle → y.held ≡ Idle
      → x.stamp ≡ y.stamp → d.0 ≡ e.0
