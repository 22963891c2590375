-- What is kept of a past to tell whether kills are lawful.
use Rattle.std.specs.Prelude.{ℕ, ◌≡◌, ◌-◌, Bool, true, false, not, nat_lt, ◌&&◌, ◌++◌, slice_set, unwrap_or, if◌then◌else◌, List, [], ◌∷◌, length}
use Rattle.ipc_ids.specs.Tales.{Accepted, Forgotten, Tale, On}
use Rattle.ipc_ids.specs.Life.{Life, Incoming, Dispatched, Answers, last_number}
use Rattle.law_check.specs.declared.kills.Kind.{Kind}
use Rattle.law_check.specs.declared.kills.Kind.TheVariants as of
use Rattle.law_check.specs.declared.kills.Kills.{Kills}
use Rattle.law_check.specs.Lives.{Knows, kept_at}
use Rattle.law_check.specs.Kills.{since, MayPlace, IsLate}

-- the number that is kept for call n; 0 where none is
abbrev pub number_at : List ℕ → ℕ → ℕ
number_at numbers n = unwrap_or (kept_at numbers n) 0

-- a kill after it came there should have taken the call from its place
abbrev pub is_late : Life → ℕ → (ℕ → ℕ) → Bool
is_late (Incoming u t) since kill = not (nat_lt (kill t) since)
is_late (Dispatched u t) since kill = not (nat_lt (kill t) since)
is_late (Answers u) since kill = nat_lt since (kill u)
is_late _ since kill = false

-- the call stands at a task that was killed
abbrev pub is_dead : Life → (ℕ → ℕ) → Bool
is_dead (Incoming u t) kill = nat_lt 0 (kill t)
is_dead (Dispatched u t) kill = nat_lt 0 (kill t)
is_dead (Answers u) kill = nat_lt 0 (kill u)
is_dead _ kill = false

-- what an entry is: one on a call, or another
abbrev pub kind : Tale → Kind
kind (On n w) = of.On n
kind _ = of.Other

-- since when each call is at its place, after an entry on this call in the event with this number
abbrev pub since_put : Tale → ℕ → ℕ → List ℕ → List ℕ
since_put (On n (Accepted u phone method to)) call now since = since ++ now ∷ []
since_put (On n Forgotten) call now since = since
since_put e call now since =
    if nat_lt 0 call && not (nat_lt (length since) call) then slice_set since (call - 1) now else since

-- what is kept is what the past says
pub record KnowsKills (p : List Tale) (s : Kills) : Type 0 where
  pub lives : Knows p s.lives
  pub count : length s.since.items ≡ last_number p
  pub since_when : (n : ℕ) → since n p ≡ number_at s.since.items n

-- the entry was taken, or it breaks the law
abbrev pub TakesKill : List Tale → Tale → Kills → Bool → Type 0
TakesKill p (On n w) s true = MayPlace p n w × ((t : ℕ) → IsLate p n t → ⊥) × KnowsKills (On n w ∷ p) s
TakesKill p (On n w) s false = MayPlace p n w → ((t : ℕ) → IsLate p n t → ⊥) → ⊥
TakesKill p e s true = KnowsKills (e ∷ p) s
TakesKill p e s false = ⊥
