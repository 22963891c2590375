-- Sessions by number and their exchanges: what a begin, an end and a close come to.
use Rattle.std.specs.Prelude.{⊤, ℕ, ◌+◌, ◌^◌, ◌<◌, ◌==◌, Bool, false, true, not, ◌&&◌, ◌||◌}
use Rattle.std.specs.Prelude.{List, [], ◌∷◌, ◌++◌, map, replicate, slice_get, slice_set, nat_lt}
use Rattle.std.specs.Prelude.{Option, None, Some, Result, Ok, Err, if◌then◌else◌}
use Rattle.std.specs.List.{fold, find, filter, list_any}
use Rattle.ipc_ids.specs.declared.numbers.FibrilNo.{FibrilNo}
use Rattle.ipc_ids.specs.declared.numbers.ExchangeNo.{ExchangeNo}
use Rattle.ipc_ids.specs.declared.numbers.Code.{Code}
use Rattle.ipc_ids.specs.declared.message.ExchangeMode.{ExchangeMode}
use Rattle.ipc_ids.specs.declared.message.ExchangeMode.TheVariants.{Atomic, Serialize, Parallel}
use Rattle.ipc_ids.specs.Codes.{enoent, ebusy}
use Rattle.async_sessions.specs.declared.sessions.Session.{Session}
use Rattle.async_sessions.specs.declared.sessions.Held.{Held}
use Rattle.async_sessions.specs.declared.sessions.Held.TheVariants.{By, Idle}
use Rattle.async_sessions.specs.declared.sessions.Exchange.{Exchange}
use Rattle.async_sessions.specs.declared.sessions.Ended.{Ended}
use Rattle.async_sessions.specs.declared.sessions.Begin.{Begin}
use Rattle.async_sessions.specs.declared.sessions.Begin.TheVariants as begin
use Rattle.async_sessions.specs.declared.sessions.Close.{Close}
use Rattle.async_sessions.specs.declared.sessions.Close.TheVariants as close

-- the sessions by number, the exchanges, and the number and the stamp that come next
pub record Open : Type 0 where
  pub sessions : List (Option Session)
  pub exchanges : List Exchange
  pub next_number : ℕ
  pub next_stamp : ℕ

-- sessions and exchanges, and how many more exchanges there is room for
pub record SessionsState : Type 0 where
  pub now : Open
  pub spare : ℕ

-- there is a number and a stamp for whatever comes next
pub record IsWithinBounds (o : Open) : Type 0 where
  pub numbers : o.next_number < 2 ^ 62
  pub stamps : o.next_stamp < 2 ^ 62

-- no sessions; numbers and stamps begin with 1
abbrev pub no_sessions : Open
no_sessions =
    record { sessions = replicate 16 None; exchanges = []; next_number = 1; next_stamp = 1 }

-- the session at a place, if there is that place
abbrev pub session_in : Option (Option Session) → Option Session
session_in None = None
session_in (Some o) = o

-- the session under this number, if it is in use
abbrev pub session_at : Open → ℕ → Option Session
session_at o s = session_in (slice_get o.sessions s)

-- what a make answers
abbrev pub made : Option Session → Result ⊤ Code
made None = Ok tt
made (Some x) = Err ebusy

-- another session stands under this number, or none
abbrev pub with_session : Open → ℕ → Option Session → Open
with_session o s x =
    record o { sessions = if nat_lt s 16 then slice_set o.sessions s x else o.sessions }

-- after a make
abbrev pub make_after : Open → ℕ → ℕ → ExchangeMode → Option Session → Open
make_after o s phone mode None = with_session o s (Some (record { phone = phone; mode = mode }))
make_after o s phone mode (Some x) = o

-- the mode of a session in use
abbrev pub mode_answer : Option Session → Option ExchangeMode
mode_answer None = None
mode_answer (Some x) = Some x.mode

-- whether two ways to hold an exchange are one
abbrev pub same_held : Held → Held → Bool
same_held (By f) (By g) = f.0 == g.0
same_held Idle Idle = true
same_held _ _ = false

-- whether the exchange is of this session; any is where none is given
abbrev pub in_session : Option ℕ → Exchange → Bool
in_session None x = true
in_session (Some s) x = x.session == s

-- of two exchanges the one with the smaller stamp
abbrev pub sooner : Option Exchange → Exchange → Option Exchange
sooner None x = Some x
sooner (Some best) x = if nat_lt x.stamp best.stamp then Some x else Some best

-- the best so far, or this exchange
abbrev pub sooner_idle : Option ℕ → Option Exchange → Exchange → Option Exchange
sooner_idle s best x = if same_held x.held Idle && in_session s x then sooner best x else best

-- the exchange that has been idle longest, of this session or of any
abbrev pub first_idle : Option ℕ → List Exchange → Option Exchange
first_idle s xs = fold (sooner_idle s) None xs

-- whether the exchange is of this session and begun
abbrev pub is_begun_in : ℕ → Exchange → Bool
is_begun_in s x = (x.session == s) && not (same_held x.held Idle)

-- whether an exchange of this session is begun
abbrev pub any_begun : ℕ → List Exchange → Bool
any_begun s xs = list_any (is_begun_in s) xs

-- the number of the next new exchange
abbrev pub next_exchange : Open → ExchangeNo
next_exchange o = record { 0 = o.next_number }

-- a new exchange over the session's phone
abbrev pub fresh : Open → Session → Begin
fresh o session = begin.Begun (next_exchange o) session.phone

-- serialized: waits exactly where an exchange of the session is begun
abbrev pub serial_of : Open → Session → Bool → Begin
serial_of o session false = fresh o session
serial_of o session true = begin.WaitMutex

-- parallel, none of the session is idle, after `ELIMIT`: with the one idle longest in the task
abbrev pub short_of : Option Exchange → Begin
short_of (Some x) = begin.HangIdle x.number x.phone
short_of None = begin.WaitPhone

-- parallel, none of the session is idle: whether after `ELIMIT`
abbrev pub unless_idle : Open → Session → Bool → Begin
unless_idle o session false = begin.Connect session.phone
unless_idle o session true = short_of (first_idle None o.exchanges)

-- parallel: with the one of the session that has been idle longest
abbrev pub idle_of : Open → Bool → Session → Option Exchange → Begin
idle_of o short session (Some x) = begin.Begun x.number x.phone
idle_of o short session None = unless_idle o session short

-- what a begin of a session in use comes to, by its mode
abbrev pub begin_in : Open → ℕ → Bool → Session → ExchangeMode → Begin
begin_in o s short session Atomic = fresh o session
begin_in o s short session Serialize = serial_of o session (any_begun s o.exchanges)
begin_in o s short session Parallel = idle_of o short session (first_idle (Some s) o.exchanges)

-- what a begin comes to
abbrev pub begin_answer : Open → ℕ → Bool → Option Session → Begin
begin_answer o s short None = begin.Refused enoent
begin_answer o s short (Some session) = begin_in o s short session session.mode

-- the next new exchange, begun by f
abbrev pub new_exchange : Open → FibrilNo → ℕ → ℕ → ExchangeMode → Exchange
new_exchange o f s phone mode =
    record {
      number = next_exchange o;
      session = s;
      phone = phone;
      mode = mode;
      held = By f;
      stamp = 0;
    }

-- there is a new exchange, begun by f
abbrev pub added : Open → FibrilNo → ℕ → ℕ → ExchangeMode → Open
added o f s phone mode =
    record {
      sessions = o.sessions;
      exchanges = o.exchanges ++ new_exchange o f s phone mode ∷ [];
      next_number = o.next_number + 1;
      next_stamp = o.next_stamp;
    }

-- an exchange, held so from now on if it has the number e
abbrev pub changed_one : ExchangeNo → Held → ℕ → Exchange → Exchange
changed_one e held stamp x =
    if x.number.0 == e.0 then record x { held = held; stamp = stamp } else x

-- the exchange e is held so from now on
abbrev pub changed : ExchangeNo → Held → ℕ → List Exchange → List Exchange
changed e held stamp xs = map (changed_one e held stamp) xs

-- whether the exchange has another number
abbrev pub is_other : ExchangeNo → Exchange → Bool
is_other e x = not (x.number.0 == e.0)

-- the exchange e is gone
abbrev pub dropped : Open → ExchangeNo → Open
dropped o e = record o { exchanges = filter (is_other e) o.exchanges }

-- the exchange e, which was idle, is begun by f
abbrev pub begun_again : Open → FibrilNo → ExchangeNo → Open
begun_again o f e = record o { exchanges = changed e (By f) 0 o.exchanges }

-- the exchange e is begun: a new one, or one that was idle
abbrev pub begun_after : Open → FibrilNo → ℕ → ExchangeNo → ℕ → ExchangeMode → Open
begun_after o f s e phone mode =
    if e.0 == o.next_number then added o f s phone mode else begun_again o f e

-- so in a session of this mode, if it is in use
abbrev pub begun_in : Open → FibrilNo → ℕ → ExchangeNo → ℕ → Option ExchangeMode → Open
begun_in o f s e phone None = o
begun_in o f s e phone (Some mode) = begun_after o f s e phone mode

-- after a begin, by what it came to
abbrev pub begin_after : Open → FibrilNo → ℕ → Option ExchangeMode → Begin → Open
begin_after o f s mode (begin.Begun e phone) = begun_in o f s e phone mode
begin_after o f s mode (begin.Connect phone) = o
begin_after o f s mode (begin.HangIdle e phone) = dropped o e
begin_after o f s mode begin.WaitMutex = o
begin_after o f s mode begin.WaitPhone = o
begin_after o f s mode (begin.Refused c) = o
begin_after o f s mode begin.NoMemory = o

-- the exchange, if f has begun it
abbrev pub held_in : FibrilNo → Option Exchange → Option Exchange
held_in f None = None
held_in f (Some x) = if same_held x.held (By f) then Some x else None

-- the exchange with this number
abbrev pub exchange_at : ExchangeNo → List Exchange → Option Exchange
exchange_at e xs = find (λ x. x.number.0 == e.0) xs

-- the exchange with this number, by recursion
abbrev pub exchange_of : ℕ → List Exchange → Option Exchange
exchange_of e [] = None
exchange_of e (x ∷ xs) = if x.number.0 == e then Some x else exchange_of e xs

-- the exchange with this number, if f has begun it
abbrev pub held_by : FibrilNo → ExchangeNo → List Exchange → Option Exchange
held_by f e xs = held_in f (exchange_at e xs)

-- the phone of an exchange
abbrev pub phone_answer : Option Exchange → Option ℕ
phone_answer None = None
phone_answer (Some x) = Some x.phone

-- what the end of an exchange answers
abbrev pub end_answer : Option Exchange → Result Ended Code
end_answer None = Err enoent
end_answer (Some x) = Ok (record { session = x.session; mode = x.mode })

-- the exchange e, of this mode, has ended
abbrev pub ended : Open → ExchangeNo → ExchangeMode → Open
ended o e Parallel =
    record {
      sessions = o.sessions;
      exchanges = changed e Idle o.next_stamp o.exchanges;
      next_number = o.next_number;
      next_stamp = o.next_stamp + 1;
    }
ended o e Atomic = dropped o e
ended o e Serialize = dropped o e

-- after the end of the exchange e, if the fibril has begun it
abbrev pub end_after : Open → ExchangeNo → Option Exchange → Open
end_after o e None = o
end_after o e (Some x) = ended o e x.mode

-- what a close of a session comes to that isn't busy: with the one that has been idle longest
abbrev pub close_idle : Session → Option Exchange → Close
close_idle session None = close.Last session.phone
close_idle session (Some x) = close.HangIdle x.number x.phone

-- what a close of a session in use comes to
abbrev pub close_in : Open → ℕ → Bool → Session → Close
close_in o s waiting session =
    if waiting || any_begun s o.exchanges
    then close.Refused ebusy
    else close_idle session (first_idle (Some s) o.exchanges)

-- what a close comes to
abbrev pub close_answer : Open → ℕ → Bool → Option Session → Close
close_answer o s waiting None = close.Refused enoent
close_answer o s waiting (Some session) = close_in o s waiting session

-- after a close, by what it came to
abbrev pub close_after : Open → ℕ → Close → Open
close_after o s (close.HangIdle e phone) = dropped o e
close_after o s (close.Last phone) = with_session o s None
close_after o s (close.Refused c) = o
