-- What is kept of a past to tell the life of each call.
use Rattle.std.specs.Prelude.{ℕ, ◌≡◌, ◌-◌, ◌<◌, ◌≤◌, ◌==◌, ◌++◌, Bool, true, false, if◌then◌else◌, Option, Some, None, List, [], ◌∷◌, length, slice_get, slice_set, is_some, unwrap_or, nat_lt, ◌&&◌, Result, OnOk}
use Rattle.std.specs.Ordering.{nat_cmp}
use Rattle.std.specs.BTreeMap.{BTreeMap, get}
use Rattle.ipc_ids.specs.Tales.{Receive, Answer, Forward, Other_request, Event, Step, Kill, Gone, Spawn, Way, To, At_once, Note, Accepted, Tale, On}
use Rattle.ipc_ids.specs.Life as life
use Rattle.ipc_ids.specs.Life.{Life, Nowhere, event, is_killed, has_head, last_number}
use Rattle.ipc_ids.specs.Laws.{IsAllowed}
use Rattle.ipc_ids.specs.Lawful.{Follows}
use Rattle.law_check.specs.Kills.{heads, kill_of, earlier_kill_of}
use Rattle.law_check.specs.declared.lives.Place.{Place}
use Rattle.law_check.specs.declared.lives.Place.TheVariants as place
use Rattle.law_check.specs.declared.lives.KnownCall.{KnownCall}
use Rattle.law_check.specs.declared.lives.PresentEvent.{PresentEvent}
use Rattle.law_check.specs.declared.lives.PresentEvent.TheVariants as now
use Rattle.law_check.specs.declared.lives.Lives.{Lives}

-- the life of a call of this task at this place
abbrev pub at : ℕ → Place → Life
at u place.Back = life.Back u
at u (place.Incoming t) = life.Incoming u t
at u (place.Dispatched t) = life.Dispatched u t
at u place.Answers = life.Answers u
at u place.Over = life.Over

-- the life of a call of which this is known
abbrev pub known : Option KnownCall → Life
known None = Nowhere
known (Some k) = at k.caller k.place

-- what is kept of call n, at n - 1
abbrev pub kept_at : {X : Type 0} → List X → ℕ → Option X
kept_at xs n = if n == 0 then None else slice_get xs (n - 1)

-- the life of call n
abbrev pub life_at : List KnownCall → ℕ → Life
life_at calls n = known (kept_at calls n)

-- the event as the laws speak of it
abbrev pub event_of : PresentEvent → Option Event
event_of now.Nothing = None
event_of (now.Receive t) = Some (Step t Receive)
event_of (now.Answer t n) = Some (Step t (Answer n))
event_of (now.Forward t n) = Some (Step t (Forward n))
event_of (now.Other t) = Some (Step t Other_request)
event_of (now.Kill t) = Some (Kill t)
event_of (now.Gone t) = Some (Gone t)
event_of (now.Spawn t) = Some (Spawn t)

-- the event is one of task u
abbrev pub IsOfTask : ℕ → Option Event → Type 0
IsOfTask = life.IsOf

-- the call that the last entry accepted and sent back, if it did
abbrev pub back_of : List Tale → Option ℕ
back_of (On n (Accepted u phone method At_once) ∷ p) = Some n
back_of _ = None

-- no entry stands before
abbrev pub is_first : List Tale → Bool
is_first [] = true
is_first (e ∷ p) = false

-- no event has begun
abbrev pub is_nothing : Option Event → Bool
is_nothing None = true
is_nothing (Some e) = false

-- a head names task u
abbrev pub is_named_in : BTreeMap ℕ ℕ → ℕ → Bool
is_named_in tasks u = is_some (get nat_cmp tasks u)

-- the number of the last event that killed task u, as it is kept; 0 where none did
abbrev pub kill_at : BTreeMap ℕ ℕ → ℕ → ℕ
kill_at tasks u = unwrap_or (get nat_cmp tasks u) 0

-- an event killed task u
abbrev pub is_killed_in : BTreeMap ℕ ℕ → ℕ → Bool
is_killed_in tasks u = nat_lt 0 (kill_at tasks u)

-- the event kills a task
abbrev pub kills : PresentEvent → Bool
kills (now.Kill t) = true
kills _ = false

-- the event kills task u
abbrev pub is_kill : ℕ → PresentEvent → Bool
is_kill u (now.Kill t) = t == u
is_kill u _ = false

-- the number of the last event before the present one that killed task u
abbrev pub earlier_kill_at : Lives → ℕ → ℕ
earlier_kill_at s u = if is_kill u s.event then s.earlier else kill_at s.tasks u

-- what is kept is what the past says
pub record Knows (p : List Tale) (s : Lives) : Type 0 where
  pub count : length s.calls.items ≡ last_number p
  pub lives : (n : ℕ) → life.life n p ≡ life_at s.calls.items n
  pub events : s.events ≡ heads p
  pub last_kill : (u : ℕ) → kill_of u p ≡ kill_at s.tasks u
  pub earlier_kill : (u : ℕ) → earlier_kill_of u p ≡ earlier_kill_at s u
  pub killed : (u : ℕ) → is_killed u p ≡ is_killed_in s.tasks u
  pub named : (u : ℕ) → has_head u p ≡ is_named_in s.tasks u
  pub event : event p ≡ event_of s.event
  pub back : back_of p ≡ (if s.back then Some (last_number p) else None)
  pub first : is_nothing (event_of s.event) ≡ is_first p

-- call n is one of those that are kept
abbrev pub IsLive : {X : Type 0} → ℕ → List X → Type 0
IsLive n calls = (0 < n) × (n ≤ length calls)

-- of the call with this number another thing is known, and else nothing has changed
pub record Puts (n : ℕ) (k : KnownCall) (old new : Lives) : Type 0 where
  pub calls : new.calls.items ≡ slice_set old.calls.items (n - 1) k
  pub tasks : new.tasks ≡ old.tasks
  pub event : new.event ≡ old.event
  pub events : new.events ≡ old.events
  pub earlier : new.earlier ≡ old.earlier
  pub back : new.back ≡ false

-- a note on a call that is accepted brings it from its life to this place
abbrev pub BringsTo : Note → Place → Life → Type 0
BringsTo (Accepted u phone method way) x l = ⊥
BringsTo w x Nowhere = ⊥
BringsTo w x life.Over = ⊥
BringsTo w x l = life.after w l ≡ at (life.caller_of l) x

-- the call goes back to its caller at once
abbrev pub goes_back : Way → Bool
goes_back At_once = true
goes_back (To t) = false

-- one more call is known, and else nothing has changed
pub record Pushes (k : KnownCall) (goes : Bool) (old new : Lives) : Type 0 where
  pub calls : new.calls.items ≡ old.calls.items ++ k ∷ []
  pub tasks : new.tasks ≡ old.tasks
  pub event : new.event ≡ old.event
  pub events : new.events ≡ old.events
  pub earlier : new.earlier ≡ old.earlier
  pub back : new.back ≡ goes

-- one more head named task t, and killed it or not
pub record Names (t : ℕ) (kill : Bool) (old new : Lives) : Type 0 where
  pub named : (u : ℕ) → is_named_in new.tasks u ≡ (if t == u then true else is_named_in old.tasks u)
  pub last_kill : (u : ℕ) → kill_at new.tasks u ≡ (if (t == u) && kill then new.events else kill_at old.tasks u)
  pub earlier : kill ≡ true → new.earlier ≡ kill_at old.tasks t
  pub calls : new.calls ≡ old.calls

-- what was known before an entry that is allowed is known after it, unless memory ran out
abbrev pub KnowsNext : {X E : Type 0} → Lives → Tale → Result X E → Lives → Type 0
KnowsNext old e result new =
    (p : List Tale) → Knows p old → Follows p e → IsAllowed p e → OnOk result (Knows (e ∷ p) new)
