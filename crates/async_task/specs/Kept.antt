-- What the fibrils keep, by the places that their numbers give them.
use Rattle.std.specs.Prelude.{ℕ, ◌≡◌, ◌≤◌, zero, suc, List, [], ◌∷◌, ◌++◌}
use Rattle.std.specs.Prelude.{Option, None, Some, nat_eq, slice_get, slice_set}
use Rattle.std.specs.Map.{lookup}
use Rattle.async_task.specs.declared.context.Context.{Context}

-- what stands at each place, and for how many more there is room
pub record ContextsState : Type 0 where
  pub kept : List (Option Context)
  pub spare : ℕ

-- what stands at a place that may not be there
abbrev pub kept_in : Option (Option Context) → Option Context
kept_in None = None
kept_in (Some t) = t

-- what stands at this place; nothing where there is no such place
abbrev pub kept_at : List (Option Context) → ℕ → Option Context
kept_at ts i = kept_in (slice_get ts i)

-- this context stands at the place
abbrev pub with_kept : ContextsState → ℕ → Context → ContextsState
with_kept s i t = record s { kept = slice_set s.kept i (Some t) }

-- what entries by place give at each of the first n places
unfoldable pub listed : ℕ → List (ℕ × Context) → List (Option Context)
listed zero es = []
listed (suc n) es = listed n es ++ lookup (nat_eq n) es ∷ []

-- no entry has a place from n on
pub record AreBelow (n : ℕ) (es : List (ℕ × Context)) : Type 0 where
  pub none : (i : ℕ) → n ≤ i → lookup (nat_eq i) es ≡ None

-- the entry of this place stands at that position, or there is none
abbrev pub StandsAt : List (ℕ × Context) → ℕ → Option ℕ → Type 0
StandsAt es i None = lookup (nat_eq i) es ≡ None
StandsAt es i (Some k) = (t : Context) × (slice_get es k ≡ Some (i, t))
