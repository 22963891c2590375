-- The law of replies, over what a list says of one task, the newest fact first; and the form of it
-- that is proved of a list entry by entry.
use Rattle.std.specs.Prelude.{ℕ, ◌≡◌, ◌==◌, ◌⊎◌, ◌++◌, Bool, true, false, if◌then◌else◌, Option, Some, None, List, [], ◌∷◌, ⊤}
use Rattle.ipc_ids.specs.declared.message.Reply.{Reply}
use Rattle.ipc_ids.specs.declared.entry.Entry.{Entry}
use Rattle.ipc_ids.specs.Facts.{Fact, Head, Accepts, Answer, Sent, Gets, Ends, facts}

-- the fact stands somewhere in the list
abbrev pub Stands : Fact → List Fact → Type 0
Stands x [] = ⊥
Stands x (e ∷ p) = (e ≡ x) ⊎ Stands x p

-- no event begins among these facts
abbrev pub IsInOneEvent : List Fact → Type 0
IsInOneEvent [] = ⊤
IsInOneEvent (Head b ∷ p) = ⊥
IsInOneEvent (e ∷ p) = IsInOneEvent p

abbrev pub IsAHead : Fact → Type 0
IsAHead (Head b) = ⊤
IsAHead _ = ⊥

-- of a fact and those before it, the oldest begins an event
abbrev pub OldestIsAHead : Fact → List Fact → Type 0
OldestIsAHead e [] = IsAHead e
OldestIsAHead e (x ∷ p) = OldestIsAHead x p

-- there are no facts, or the oldest begins an event
abbrev pub BeginsWithAHead : List Fact → Type 0
BeginsWithAHead [] = ⊤
BeginsWithAHead (e ∷ p) = OldestIsAHead e p

-- the last event is one of the task, and the fact stands in it
pub record StandsInOwnEvent (x : Fact) (p : List Fact) : Type 0 where
  pub event : List Fact
  pub before : List Fact
  pub split : p ≡ event ++ (Head true ∷ before)
  pub one_event : IsInOneEvent event
  pub stands : Stands x event

-- the law for one task, whose facts stand here, the newest first
pub record EachReplyReachesItsFibril (p : List Fact) : Type 0 where
  -- where a fibril gets a reply, this event is one of its task, and had that reply to that call as
  -- its outcome
  pub outcome : (later earlier : List Fact) (f n : ℕ) (slot : Option ℕ) (reply : Reply) →
      p ≡ later ++ (Gets f n slot reply ∷ earlier) → StandsInOwnEvent (Answer n reply) earlier
  -- the same fibril sent the call earlier, from the same slot
  pub sent : (later earlier : List Fact) (f n : ℕ) (slot : Option ℕ) (reply : Reply) →
      p ≡ later ++ (Gets f n slot reply ∷ earlier) → Stands (Sent f n slot) earlier
  -- nowhere else does a fibril of the task get a reply to that call
  pub once : (later earlier : List Fact) (f n : ℕ) (slot : Option ℕ) (reply : Reply) →
      p ≡ later ++ (Gets f n slot reply ∷ earlier) → (g : ℕ) (from : Option ℕ) (other : Reply) →
      Stands (Gets g n from other) (later ++ earlier) → ⊥
  -- where the outcome of an event of the task replies to a call that a fibril sent, the fibril gets
  -- that reply in this event, unless it ended before the event
  pub passed_on : (later event before : List Fact) (f n : ℕ) (slot : Option ℕ) (reply : Reply) →
      p ≡ later ++ (event ++ (Head true ∷ before)) → IsInOneEvent event → BeginsWithAHead later →
      Stands (Answer n reply) event → Stands (Sent f n slot) (event ++ (Head true ∷ before)) →
      (Stands (Ends f) before → ⊥) → Stands (Gets f n slot reply) event

-- the law of replies, for each task by itself
abbrev pub RepliesReachTheirFibril : List Entry → Type 0
RepliesReachTheirFibril h = (t : ℕ) → EachReplyReachesItsFibril (facts t h)

-- a fibril, and the slot from which it sent a call
pub record Waiter : Type 0 where
  pub fibril : ℕ
  pub slot : Option ℕ

-- a call, and the reply to it
pub record AnsweredCall : Type 0 where
  pub call : ℕ
  pub reply : Reply

-- who got a reply, and which
pub record Got : Type 0 where
  pub by : Waiter
  pub reply : Reply

-- the present event is one of the task
abbrev pub is_mine : List Fact → Bool
is_mine [] = false
is_mine (Head b ∷ p) = b
is_mine (e ∷ p) = is_mine p

-- the reply that the outcome of the present event gives
abbrev pub answer : List Fact → Option AnsweredCall
answer [] = None
answer (Head b ∷ p) = None
answer (Answer n reply ∷ p) = Some (record { call = n; reply = reply })
answer (e ∷ p) = answer p

-- who sent call n
abbrev pub sent : ℕ → List Fact → Option Waiter
sent n [] = None
sent n (Sent f m slot ∷ p) = if m == n then Some (record { fibril = f; slot = slot }) else sent n p
sent n (e ∷ p) = sent n p

-- a fibril got the reply to call n
abbrev pub got : ℕ → List Fact → Bool
got n [] = false
got n (Gets f m slot reply ∷ p) = if m == n then true else got n p
got n (e ∷ p) = got n p

-- who got the reply to call n in the present event, and which
abbrev pub got_now : ℕ → List Fact → Option Got
got_now n [] = None
got_now n (Head b ∷ p) = None
got_now n (Gets f m slot reply ∷ p) =
    if m == n then Some (record { by = record { fibril = f; slot = slot }; reply = reply })
    else got_now n p
got_now n (e ∷ p) = got_now n p

-- the fibril has ended
abbrev pub has_ended : ℕ → List Fact → Bool
has_ended f [] = false
has_ended f (Ends g ∷ p) = if g == f then true else has_ended f p
has_ended f (e ∷ p) = has_ended f p

-- the fibril had ended before the present event
abbrev pub had_ended : ℕ → List Fact → Bool
had_ended f [] = false
had_ended f (Head b ∷ p) = has_ended f p
had_ended f (e ∷ p) = had_ended f p

-- call n was accepted in the present event
abbrev pub accepted_now : ℕ → List Fact → Bool
accepted_now n [] = false
accepted_now n (Head b ∷ p) = false
accepted_now n (Accepts m ∷ p) = if m == n then true else accepted_now n p
accepted_now n (e ∷ p) = accepted_now n p

-- the reply that is the outcome of an event of the task has gone to the fibril that sent the call,
-- from its slot, unless that fibril had ended before
abbrev pub IsPassedOn : List Fact → Type 0
IsPassedOn p =
    (n : ℕ) (reply : Reply) (d : Waiter) → is_mine p ≡ true →
    answer p ≡ Some (record { call = n; reply = reply }) → sent n p ≡ Some d →
    had_ended d.fibril p ≡ false → got_now n p ≡ Some (record { by = d; reply = reply })

-- after these facts this one is lawful: an event begins once the reply in the last one is passed
-- on; an event of the task has one reply at most; a call is sent once, in an event of the task that
-- accepts it; and the reply that is the outcome goes, once, to the fibril that sent the call
abbrev pub IsLawfulFact : List Fact → Fact → Type 0
IsLawfulFact p (Head b) = IsPassedOn p
IsLawfulFact p (Answer n reply) = is_mine p ≡ true → answer p ≡ None
IsLawfulFact p (Sent f n slot) = (is_mine p ≡ true) × (accepted_now n p ≡ true) × (sent n p ≡ None)
IsLawfulFact p (Gets f n slot reply) =
    (is_mine p ≡ true) × (answer p ≡ Some (record { call = n; reply = reply }))
    × (sent n p ≡ Some (record { fibril = f; slot = slot })) × (got n p ≡ false)
IsLawfulFact p _ = ⊤

-- each fact was lawful as it came
abbrev pub RepliesWereLawful : List Fact → Type 0
RepliesWereLawful [] = ⊤
RepliesWereLawful (e ∷ p) = RepliesWereLawful p × IsLawfulFact p e
