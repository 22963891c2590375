-- What a change of a phone asks of its state.
use Rattle.std.specs.Prelude.{ℕ, ⊤, Bool, false, Option, None, Some, slice_get, slice_index}
use Rattle.std.specs.Option.{option_map_or}
use Rattle.ipc_ids.specs.declared.message.PhoneState.{PhoneState}
use Rattle.ipc_ids.specs.declared.message.PhoneState.TheVariants.{Free, Connecting, Connected, HungUp, Slammed}
use Rattle.phone_table.specs.Phones.{Row, is_usable}

-- whether the row has phone p and it is usable
abbrev pub usable_at : Row → ℕ → Bool
usable_at row p = option_map_or (λ state. is_usable state (slice_index row.counts p)) (slice_get row.states p) false

-- a phone that leads to some task
abbrev pub IsConnected : Option PhoneState → Type 0
IsConnected None = ⊥
IsConnected (Some Free) = ⊥
IsConnected (Some Connecting) = ⊥
IsConnected (Some (Connected _)) = ⊤
IsConnected (Some HungUp) = ⊥
IsConnected (Some Slammed) = ⊥
