-- What is kept of entries that are taken one by one to tell whether they satisfy the laws.
use Rattle.std.specs.Prelude.{ℕ, ◌≡◌, ◌≤◌, Bool, true, false, Option, List, drop}
use Rattle.ipc_ids.specs.declared.entry.Entry.{Entry}
use Rattle.ipc_ids.specs.Tales.{tales}
use Rattle.ipc_ids.specs.Holdings.{present}
use Rattle.ipc_ids.specs.Laws.{LivesAreLawful}
use Rattle.law_check.specs.declared.verdict.Laws.{Laws}
use Rattle.law_check.specs.Allowed.{WasAllowed}
use Rattle.law_check.specs.AreaState.{newest}
use Rattle.law_check.specs.Passing.{in_order, LivesLeft, KillsStand, AreasStand}

-- so many events were counted
abbrev pub events_of : Laws → ℕ
events_of s = s.kills.lives.events

-- after a past that was allowed, what is kept of the laws
pub record Stands (p : List Entry) (s : Laws) : Type 0 where
  pub was : WasAllowed (tales p)
  pub left : LivesLeft p
  pub kills : KillsStand p s.kills_hold s.kills
  pub areas : AreasStand p s.areas_hold s.areas

-- the law of a call's life may still hold, or is broken whatever comes
abbrev pub MayStand : List Entry → Bool → Laws → Type 0
MayStand p true s = Stands p s
MayStand p false s = (es : List Entry) → LivesAreLawful (in_order p es) → ⊥

-- what is kept is what a past says, which has the newest first
abbrev pub Judges : List Entry → Laws → Type 0
Judges p s = MayStand p s.lives_hold s

-- the first entries of a list, so many, were taken; the head of the present event and the last entry
pub record PassedTo (h : List Entry) (i : ℕ) (s : Laws) (now last : Option Entry) : Type 0 where
  pub before : List Entry
  pub judges : Judges before s
  pub whole : in_order before (drop i h) ≡ h
  pub now_is : now ≡ present before
  pub last_is : last ≡ newest before
  pub few : events_of s ≤ i
