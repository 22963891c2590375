-- What a task reads lies in one area of it that may be read.
use Rattle.std.proofs.Common.{◌≡◌, ℕ, ◌+◌, ◌-◌, ◌<◌, ◌≤◌, ◌==◌, Bool, true, false, List, [], Option, Some, None, refl, sym, ◌∙◌, ap, subst, arith, nat_lt}
use Rattle.std.specs.Prelude.{if◌then◌else◌, Ok, Err, slice_get, drop, unwrap_or}
use Rattle.std.specs.FinMap.{get}
use Rattle.std.proofs.lemmas.Bool.Decides.{nat_tests}
use Rattle.std.proofs.lemmas.Grind.{common_steps}
use Rattle.ipc_ids.specs.Codes.{einval}
use Rattle.ipc_ids.specs.declared.numbers.TaskNo.{TaskNo}
use Rattle.address_space.specs.declared.area.Right.TheVariants.{Read}
use Rattle.address_space.specs.Areas.{Area, holder}
use Rattle.address_space.specs.Stores.{HasBytes, bytes_from}
use Rattle.address_space.specs.Memory.{Memory, areas_of, spot_in, read_at, read, peek}
use Rattle.address_space.specs.Sound.{IsSound, IsOver}
use Rattle.address_space.proofs.Keeping.{all_got, room}
use Rattle.address_space.proofs.Soundness.{over_of}
use Rattle.kernel_laws.specs.MemoryLaws.{Has, Spans, IsReadable, byte_in, AreBytesOf, TellsBytesOf, IsLawfulRead, IsLawfulPeek}
use Rattle.kernel_laws.proofs.OneArea.{one_span, found_readable, none_readable}
use Rattle.kernel_laws.proofs.Lists.{get_take, get_drop}

-- those of the area's store

place_in : (a : Area) (at i n k : ℕ) → a.base ≤ at → a.base + n ≡ at + i → k ≡ at - a.base → n ≡ k + i
place_in a at i n k from e is = omega arith

pub over_area : (m : Memory) (t : TaskNo) (a : Area) → IsSound m → Has m t a → IsOver m.stores m.next_store a
over_area m t a sound has = all_got (IsOver m.stores m.next_store) (areas_of m t) has.0 a has.1 (over_of m t sound)

pub room_of : (m : Memory) (t : TaskNo) (at count : ℕ) (a : Area) → IsSound m → Has m t a → Spans a at count → HasBytes (get m.stores a.store) (at - a.base + count)
room_of m t at count a sound has s = room m.stores m.next_store a at count (over_area m t a sound has) (record { from = s.from; to = s.to })

bytes_in : (m : Memory) (at count : ℕ) (a : Area) (o : Option (List ℕ)) → get m.stores a.store ≡ o → HasBytes o (at - a.base + count) → a.base ≤ at → AreBytesOf m a at count (bytes_from (unwrap_or o []) (at - a.base) count)
bytes_in m at count a None is room from = absurd room
bytes_in m at count a (Some xs) is room from =
    record {
      many = grind (arith, common_steps);
      each = λ i n few e. get_take (drop (at - a.base) xs) count i few ∙ get_drop xs (at - a.base) i ∙ ap (slice_get xs) (sym (place_in a at i n (at - a.base) from e refl)) ∙ ap (λ (b : Option (List ℕ)). byte_in b n) (sym is);
    }

-- ---- a read

module _ (m : Memory) (t : TaskNo) (at count : ℕ) (sound : IsSound m) where
  told_of : (h a : Area) → 1 ≤ count → IsReadable m t at count h → IsReadable m t at count a → TellsBytesOf m a at count (read_at m count (spot_in at (Some h)))
  told_of h a some r q =
      subst (λ x. TellsBytesOf m x at count (read_at m count (spot_in at (Some h)))) (one_span m t at count h a sound some r.has q.has r.spans q.spans) (bytes_in m at count h (get m.stores h.store) refl (room_of m t at count h sound r.has r.spans) r.spans.from)

  by_holder : (o : Option Area) → 1 ≤ count → holder at count Read (areas_of m t) ≡ o → IsLawfulRead m t at count (read_at m count (spot_in at o))
  by_holder None some e = record { none = λ z. absurd (omega arith); bytes = λ a _ r. absurd (none_readable m t at count a e r); refused = λ _ _. refl }
  by_holder (Some h) some e =
      record {
        none = λ z. absurd (omega arith);
        bytes = λ a _ r. told_of h a some (found_readable m t at count h e) r;
        refused = λ _ no. absurd (no h (found_readable m t at count h e));
      }

  by_count : (b : Bool) → (count == 0) ≡ b → IsLawfulRead m t at count (if b then Ok [] else read_at m count (spot_in at (holder at count Read (areas_of m t))))
  by_count true is = let z : count ≡ 0 = grind (arith, nat_tests, is) in record { none = λ _. refl; bytes = λ a some r. absurd (omega (arith, z, some)); refused = λ some no. absurd (omega (arith, z, some)) }
  by_count false is = by_holder (holder at count Read (areas_of m t)) (grind (arith, nat_tests, is)) refl

  pub read_is_lawful : IsLawfulRead m t at count (read m t at count)
  read_is_lawful = by_count (count == 0) refl

  by_most : (b : Bool) → nat_lt 64 count ≡ b → IsLawfulPeek m t at count (if b then Err einval else read m t at count)
  by_most true is = let many : 64 < count = grind (arith, nat_tests, is) in record { many = λ _. refl; few = λ few. absurd (omega (arith, many, few)) }
  by_most false is = let few : count ≤ 64 = grind (arith, nat_tests, is) in record { many = λ many. absurd (omega (arith, many, few)); few = λ _. read_is_lawful }

  pub peek_is_lawful : IsLawfulPeek m t at count (peek m t at count)
  peek_is_lawful = by_most (nat_lt 64 count) refl
