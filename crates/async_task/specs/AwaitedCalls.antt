-- The calls whose answers a task awaits, and where one of them stands.
use Rattle.std.specs.Prelude.{ℕ, ◌≡◌, ◌≢◌, ◌<◌, List, Option, None, Some, length}
use Rattle.std.specs.List.{All, AllPairs, HoldsAt}
use Rattle.ipc_ids.specs.declared.numbers.CallNo.{CallNo}
use Rattle.async_task.specs.declared.awaited.Awaited.{Awaited}

-- the calls in the order in which they were sent, and for how many more there is room
pub record AwaitedState : Type 0 where
  pub calls : List Awaited
  pub spare : ℕ

-- each call has a smaller number than all later ones
abbrev pub DoRise : List Awaited → Type 0
DoRise = AllPairs (λ v w. v.call.0 < w.call.0)

-- call n stands at that place, or nowhere
abbrev pub IsPlaceOf : CallNo → List Awaited → Option ℕ → Type 0
IsPlaceOf n ws None = All (λ w. w.call.0 ≢ n.0) ws
IsPlaceOf n ws (Some i) = (i < length ws) × HoldsAt (λ w. w.call.0 ≡ n.0) ws i
