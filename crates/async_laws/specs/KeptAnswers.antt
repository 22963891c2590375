-- What the calls that a task awaits say of the facts so far, the newest first.
use Rattle.std.specs.Prelude.{ℕ, ◌≡◌, ◌==◌, ◌&&◌, Bool, true, false, if◌then◌else◌, Option, Some}
use Rattle.std.specs.Prelude.{None}
use Rattle.std.specs.Prelude.{List, [], ◌∷◌, ⊤}
use Rattle.ipc_ids.specs.Facts.{Fact, Accepts, Answer}
use Rattle.ipc_ids.specs.Replies.{Waiter, is_mine, sent, got, has_ended, IsPassedOn}
use Rattle.ipc_ids.specs.Replies.{RepliesWereLawful}
use Rattle.async_task.specs.declared.awaited.Awaited.{Awaited}

-- call n was accepted, of whatever task
abbrev pub accepted : ℕ → List Fact → Bool
accepted n [] = false
accepted n (Accepts m ∷ p) = if m == n then true else accepted n p
accepted n (e ∷ p) = accepted n p

-- an event of the task had the answer of call n as its outcome
abbrev pub given : ℕ → List Fact → Bool
given n [] = false
given n (Answer m reply ∷ p) = if (m == n) && is_mine p then true else given n p
given n (e ∷ p) = given n p

-- who awaits, and where
abbrev pub waiter : Awaited → Waiter
waiter w = record { fibril = w.fibril.0; slot = w.slot }

-- who awaits the answer of call n
abbrev pub waiting : ℕ → List Awaited → Option Waiter
waiting n [] = None
waiting n (w ∷ ws) = if w.call.0 == n then Some (waiter w) else waiting n ws

-- no two await the answer of one call
abbrev pub IsApart : List Awaited → Type 0
IsApart [] = ⊤
IsApart (w ∷ ws) = (waiting w.call.0 ws ≡ None) × IsApart ws

-- the calls that are awaited fit these facts
pub record KeptAnswers (p : List Fact) (ws : List Awaited) : Type 0 where
  -- the law of replies
  pub lawful : RepliesWereLawful p
  pub passed_on : IsPassedOn p
  -- no two await one call; what is awaited was sent, from there, and its answer was not given yet
  pub apart : IsApart ws
  pub was_sent : (n : ℕ) (d : Waiter) → waiting n ws ≡ Some d → sent n p ≡ Some d
  pub not_given : (n : ℕ) (d : Waiter) → waiting n ws ≡ Some d → given n p ≡ false
  -- what a fibril sent that has not ended is awaited until its answer is given
  pub waits : (n : ℕ) (d : Waiter) → sent n p ≡ Some d → given n p ≡ false →
      has_ended d.fibril p ≡ false → waiting n ws ≡ Some d
  -- a fibril got only what was given, and sent only what was accepted
  pub got_given : (n : ℕ) → got n p ≡ true → given n p ≡ true
  pub sent_accepted : (n : ℕ) (d : Waiter) → sent n p ≡ Some d → accepted n p ≡ true
