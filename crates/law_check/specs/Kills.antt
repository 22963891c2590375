-- The law of a kill, read entry by entry: what a past says at the end of an event that kills, and
-- at each note. And the same found later: of a call that a kill should have ended, at the next note
-- on it, or else at the end.
use Rattle.std.specs.Prelude.{ℕ, suc, ◌≡◌, ◌≤◌, ◌<◌, ◌==◌, ◌⊎◌, if◌then◌else◌, Option, Some, List, [], ◌∷◌, ⊤}
use Rattle.ipc_ids.specs.Tales.{Event, Kill, Note, Forgotten, Tale, Head, On, Other}
use Rattle.ipc_ids.specs.Life.{Answers, life, event, is_kill_of, last_number}
use Rattle.ipc_ids.specs.Lawful.{StandsAt}
use Rattle.ipc_ids.specs.Laws.{IsHeldBy}

-- so many events
abbrev pub heads : List Tale → ℕ
heads [] = 0
heads (Head e ∷ p) = suc (heads p)
heads (On n w ∷ p) = heads p
heads (Other ∷ p) = heads p

-- the number of the last event that kills task t, 0 where there is none
abbrev pub kill_of : ℕ → List Tale → ℕ
kill_of t [] = 0
kill_of t (Head e ∷ p) = if is_kill_of t e then suc (heads p) else kill_of t p
kill_of t (On n w ∷ p) = kill_of t p
kill_of t (Other ∷ p) = kill_of t p

-- likewise of the last one before the present event
abbrev pub earlier_kill_of : ℕ → List Tale → ℕ
earlier_kill_of t [] = 0
earlier_kill_of t (Head e ∷ p) = kill_of t p
earlier_kill_of t (On n w ∷ p) = earlier_kill_of t p
earlier_kill_of t (Other ∷ p) = earlier_kill_of t p

-- the number of the last call that was accepted before the present event
abbrev pub earlier_number : List Tale → ℕ
earlier_number [] = 0
earlier_number (Head e ∷ p) = last_number p
earlier_number (On n w ∷ p) = earlier_number p
earlier_number (Other ∷ p) = earlier_number p

-- since when the call is at its place, after a note in this event
abbrev pub since_after : Note → ℕ → ℕ → ℕ
since_after Forgotten now before = before
since_after _ now before = now

-- the number of the event in which call n came to its place
abbrev pub since : ℕ → List Tale → ℕ
since n [] = 0
since n (Head e ∷ p) = since n p
since n (On m w ∷ p) = if m == n then since_after w (heads p) (since n p) else since n p
since n (Other ∷ p) = since n p

-- an event that killed t leaves no call with it, and no answer that waited for it as the event began
abbrev pub Ends : Option Event → List Tale → Type 0
Ends (Some (Kill t)) p =
    ((n : ℕ) → IsHeldBy t (life n p) → ⊥)
    × ((n : ℕ) → n ≤ earlier_number p → life n p ≡ Answers t → ⊥)
Ends _ p = ⊤

-- the present event may end here
abbrev pub EndsWell : List Tale → Type 0
EndsWell p = Ends (event p) p

-- the note places no call at a task that an earlier event killed
abbrev pub MayPlace : List Tale → ℕ → Note → Type 0
MayPlace p n w = (t : ℕ) → StandsAt t (life n (On n w ∷ p)) → earlier_kill_of t p ≡ 0

-- the law of a kill, for these entries after that past
abbrev pub KillsFrom : List Tale → List Tale → Type 0
KillsFrom p [] = EndsWell p
KillsFrom p (Head e ∷ es) = EndsWell p × KillsFrom (Head e ∷ p) es
KillsFrom p (On n w ∷ es) = MayPlace p n w × KillsFrom (On n w ∷ p) es
KillsFrom p (Other ∷ es) = KillsFrom (Other ∷ p) es

-- an event that killed task t, before the present one, should have taken call n from its place
abbrev pub IsDue : List Tale → ℕ → ℕ → ℕ → Type 0
IsDue p n t kill =
    (IsHeldBy t (life n p) × (since n p ≤ kill)) ⊎ ((life n p ≡ Answers t) × (since n p < kill))

-- an earlier event that killed task t should have taken call n from its place
abbrev pub IsLate : List Tale → ℕ → ℕ → Type 0
IsLate p n t = IsDue p n t (earlier_kill_of t p)

-- nothing is late, with the present event at its end
abbrev pub NoneIsLate : List Tale → Type 0
NoneIsLate p = (n t : ℕ) → IsDue p n t (kill_of t p) → ⊥

-- the same law, where what is late is found at the next note on the call, or at the end
abbrev pub KillsFoundLate : List Tale → List Tale → Type 0
KillsFoundLate p [] = NoneIsLate p
KillsFoundLate p (Head e ∷ es) = KillsFoundLate (Head e ∷ p) es
KillsFoundLate p (On n w ∷ es) =
    MayPlace p n w × ((t : ℕ) → IsLate p n t → ⊥) × KillsFoundLate (On n w ∷ p) es
KillsFoundLate p (Other ∷ es) = KillsFoundLate (Other ∷ p) es
