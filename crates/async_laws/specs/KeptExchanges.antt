-- What the sessions and exchanges of a task say of the facts so far, the newest first.
use Rattle.std.specs.Prelude.{ℕ, ◌≡◌, ◌≤◌, Option, Some, None, List, [], ◌∷◌}
use Rattle.std.specs.Prelude.{⊤}
use Rattle.ipc_ids.specs.declared.message.ExchangeMode.TheVariants.{Serialize, Parallel}
use Rattle.ipc_ids.specs.Facts.{Terms, Fact}
use Rattle.ipc_ids.specs.Exchanges.{Stage, Unused, Begun, Ended, Dropped, stage}
use Rattle.ipc_ids.specs.Exchanges.{ExchangesWereLawful}
use Rattle.async_sessions.specs.declared.sessions.Exchange.{Exchange}
use Rattle.async_sessions.specs.declared.sessions.Held.{Held}
use Rattle.async_sessions.specs.declared.sessions.Held.TheVariants.{By, Idle}
use Rattle.async_sessions.specs.Sessions.{Open, session_at, mode_answer, exchange_of}

-- no two exchanges have one number
abbrev pub AreApart : List Exchange → Type 0
AreApart [] = ⊤
AreApart (x ∷ xs) = (exchange_of x.number.0 xs ≡ None) × AreApart xs

-- how, of which session and over which phone it is begun
abbrev pub terms : Exchange → Terms
terms x = record { mode = x.mode; session = x.session; phone = x.phone }

-- a fibril has begun it
abbrev pub IsBegun : Held → Type 0
IsBegun (By f) = ⊤
IsBegun Idle = ⊥

-- the exchange that is there, or is not, agrees with its stage: those that are begun are there, and
-- of those that have ended just the parallel ones, idle
abbrev pub Agrees : Stage → Option Exchange → Type 0
Agrees Unused None = ⊤
Agrees Unused (Some x) = ⊥
Agrees (Begun of) None = ⊥
Agrees (Begun of) (Some x) = IsBegun x.held × (terms x ≡ of)
Agrees (Ended of) None = of.mode ≡ Parallel → ⊥
Agrees (Ended of) (Some x) = (x.held ≡ Idle) × (terms x ≡ of) × (of.mode ≡ Parallel)
Agrees Dropped None = ⊤
Agrees Dropped (Some x) = ⊥

-- the sessions and exchanges fit these facts
pub record KeptExchanges (p : List Fact) (o : Open) : Type 0 where
  -- the law of exchanges
  pub lawful : ExchangesWereLawful p
  -- no two exchanges have one number, and each agrees with its stage
  pub apart : AreApart o.exchanges
  pub agree : (e : ℕ) → Agrees (stage e p) (exchange_of e o.exchanges)
  -- the session of an exchange is in use with its mode
  pub modes : (e : ℕ) (x : Exchange) → exchange_of e o.exchanges ≡ Some x →
      mode_answer (session_at o x.session) ≡ Some x.mode
  -- no exchange has a number from the next one on
  pub fresh : (e : ℕ) → o.next_number ≤ e → stage e p ≡ Unused
  -- a serialized session has one begun exchange at most
  pub one : (d e : ℕ) (x y : Exchange) → exchange_of d o.exchanges ≡ Some x →
      exchange_of e o.exchanges ≡ Some y → IsBegun x.held → IsBegun y.held → x.session ≡ y.session →
      x.mode ≡ Serialize → d ≡ e
