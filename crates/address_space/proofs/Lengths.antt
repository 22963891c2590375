-- What is read has as many bytes as were asked for.
use Rattle.std.proofs.Common.{◌≡◌, ℕ, ◌+◌, ◌-◌, ◌≤◌, ◌==◌, Bool, true, false, List, [], length, Option, Some, None, refl, arith}
use Rattle.std.specs.Prelude.{Ok}
use Rattle.std.specs.Option.{unwrap_or}
use Rattle.std.specs.FinMap.{get}
use Rattle.std.proofs.lemmas.Grind.{common_steps}
use Rattle.std.proofs.lemmas.Bool.Decides.{nat_tests}
use Rattle.ipc_ids.specs.declared.numbers.TaskNo.{TaskNo}
use Rattle.address_space.specs.declared.area.Right.TheVariants.{Read}
use Rattle.address_space.specs.Areas.{Area, holder}
use Rattle.address_space.specs.Stores.{HasBytes, bytes_from}
use Rattle.address_space.specs.Memory.{Memory, areas_of, spot_in, read_at, read}
use Rattle.address_space.specs.Sound.{IsSound, IsOver}
use Rattle.address_space.proofs.Keeping.{in_holder, within, room}
use Rattle.address_space.proofs.Soundness.{over_of}

part_length : (bytes : List ℕ) (at count : ℕ) → at + count ≤ length bytes → length (bytes_from bytes at count) ≡ count
part_length bytes at count h = grind (arith, common_steps)

found_length : (found : Option (List ℕ)) (at count : ℕ) → HasBytes found (at + count) → length (bytes_from (unwrap_or found []) at count) ≡ count
found_length None at count h = absurd h
found_length (Some bytes) at count h = part_length bytes at count h

length_at : (m : Memory) (t : TaskNo) (at count : ℕ) (bytes : List ℕ) (found : Option Area) → holder at count Read (areas_of m t) ≡ found → IsSound m → read_at m count (spot_in at found) ≡ Ok bytes → length bytes ≡ count
length_at m t at count bytes None is s e = absurd (cc e)
length_at m t at count bytes (Some a) is s e =
    let held = in_holder (IsOver m.stores m.next_store) at count Read (areas_of m t) a (over_of m t s) is in
    let there = room m.stores m.next_store a at count held.0 (within at count Read a held.1) in
    let n = found_length (get m.stores a.store) (at - a.base) count there in
    let same : bytes_from (unwrap_or (get m.stores a.store) []) (at - a.base) count ≡ bytes = cc in
    rw same at n

length_if : (m : Memory) (t : TaskNo) (at count : ℕ) (bytes : List ℕ) (none : Bool) → (count == 0) ≡ none → IsSound m → read m t at count ≡ Ok bytes → length bytes ≡ count
length_if m t at count bytes true is s e =
    let zero_of : count ≡ 0 = grind (arith, nat_tests) in
    let nil : [] ≡ bytes = let f = rw is at e in cc in
    rw (← nil, zero_of) refl
length_if m t at count bytes false is s e = length_at m t at count bytes (holder at count Read (areas_of m t)) refl s (rw is at e)

pub length_read : (m : Memory) (t : TaskNo) (at count : ℕ) (bytes : List ℕ) → IsSound m → read m t at count ≡ Ok bytes → length bytes ≡ count
length_read m t at count bytes s e = length_if m t at count bytes (count == 0) refl s e
