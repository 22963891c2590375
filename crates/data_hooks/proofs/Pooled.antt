-- Bytes that may be read, and those for which there is no room.
use Rattle.std.proofs.Common.{◌≡◌, ℕ, ◌≤◌, ◌<◌, ◌+◌, List, Result, Ok, Err, refl}
use Rattle.std.proofs.lemmas.Bool.{lt-ltb, le-ltb}
use Rattle.ipc_ids.specs.declared.numbers.Code.{Code}
use Rattle.ipc_ids.specs.Codes.{enomem}
use Rattle.ipc_ids.specs.Tables.{most_buffered}
use Rattle.address_space.specs.Memory.{tested}
use Rattle.data_hooks.specs.DataMoments.{pooled}

-- where there is no room, bytes that may be read are refused so
pub full_pooled : (used count : ℕ) (told : Result (List ℕ) Code) → most_buffered < used + count → tested told ≡ Ok tt → pooled used count told ≡ Err enomem
full_pooled used count (Ok bytes) full may = rw (lt-ltb most_buffered (used + count) full) refl
full_pooled used count (Err code) full may = absurd (cc may)

-- bytes that may not be read are refused as ever
pub refused_pooled : (used count : ℕ) (told : Result (List ℕ) Code) (code : Code) → tested told ≡ Err code → pooled used count told ≡ Err code
refused_pooled used count (Ok bytes) code may = absurd (cc may)
refused_pooled used count (Err other) code may = let same : other ≡ code = cc in rw same refl

-- where there is room, it is as ever
pub room_pooled : (used count : ℕ) (told : Result (List ℕ) Code) → used + count ≤ most_buffered → pooled used count told ≡ told
room_pooled used count (Ok bytes) room = rw (le-ltb most_buffered (used + count) room) refl
room_pooled used count (Err code) room = refl
