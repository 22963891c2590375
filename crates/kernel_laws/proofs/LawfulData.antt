-- The data methods move the bytes that their calls and answers name, or are refused by the first cause.
use Rattle.std.proofs.Common.{◌≡◌, ℕ, zero, suc, ◌+◌, ◌<◌, ◌≤◌, ◌==◌, ◌⊎◌, inl, inr, Bool, true, false, List, [], ◌∷◌, length, Option, Some, None, refl, sym, subst, arith, nat_lt}
use Rattle.std.specs.Prelude.{if◌then◌else◌, Result, Ok, Err, slice_index, take, ◌↔◌}
use Rattle.std.proofs.lemmas.Bool.Decides.{nat_tests}
use Rattle.std.proofs.lemmas.Grind.{common_steps}
use Rattle.ipc_ids.specs.Codes.{eperm, elimit, enomem}
use Rattle.ipc_ids.specs.Tables.{most_data, most_buffered}
use Rattle.ipc_ids.specs.declared.numbers.Code.{Code}
use Rattle.ipc_ids.specs.declared.numbers.TaskNo.{TaskNo}
use Rattle.ipc_ids.specs.declared.message.Reply.{Reply}
use Rattle.address_space.specs.declared.area.Right.TheVariants.{Read}
use Rattle.address_space.specs.Areas.{Area, holder}
use Rattle.address_space.specs.Memory.{Memory, areas_of, spot_in, read_at, read}
use Rattle.address_space.specs.Sound.{IsSound}
use Rattle.data_hooks.specs.DataMoments.{count_of, kept_count, cut_args, pooled, write_kept, write_before_send, read_before_send, read_accept}
use Rattle.kernel_laws.specs.MemoryLaws.{IsLawfulRead}
use Rattle.kernel_laws.specs.DataLaws.{first, second, third, IsTooLarge, asked, IsUnreadable, AreTold, IsLawfulCopy, IsLawfulAsking, AreCutDown, IsLawfulTaking, IsFull}
use Rattle.kernel_laws.proofs.OneArea.{found_readable, none_readable}
use Rattle.kernel_laws.proofs.LawfulReads.{read_is_lawful}
use Rattle.kernel_laws.proofs.Told.{differ, never, always}

-- ---- the tests, decided

-- bytes cannot be read, or they are
pub decided_read : (m : Memory) (t : TaskNo) (at count : ℕ) → (IsUnreadable m t at count × (read m t at count ≡ Err eperm)) ⊎ ((IsUnreadable m t at count → ⊥) × AreTold (read m t at count))
decided_read m t at count = by_count (count == 0) refl where
  by_holder : (o : Option Area) → 1 ≤ count → holder at count Read (areas_of m t) ≡ o → (IsUnreadable m t at count × (read_at m count (spot_in at o) ≡ Err eperm)) ⊎ ((IsUnreadable m t at count → ⊥) × AreTold (read_at m count (spot_in at o)))
  by_holder None some e = inl (record { some = some; none = λ a r. none_readable m t at count a e r }, refl)
  by_holder (Some h) some e = inr ((λ u. u.none h (found_readable m t at count h e)), (_, refl))

  by_count : (b : Bool) → (count == 0) ≡ b → (IsUnreadable m t at count × ((if b then Ok [] else read_at m count (spot_in at (holder at count Read (areas_of m t)))) ≡ Err eperm)) ⊎ ((IsUnreadable m t at count → ⊥) × AreTold (if b then Ok [] else read_at m count (spot_in at (holder at count Read (areas_of m t)))))
  by_count true is = let z : count ≡ 0 = grind (arith, nat_tests, is) in inr ((λ u. let some = u.some in omega (arith, z, some)), ([], refl))
  by_count false is = by_holder (holder at count Read (areas_of m t)) (grind (arith, nat_tests, is)) refl

abbrev count_told : ℕ → Result ℕ Code
count_told n = Ok n

-- a data call is too large, or it asks for so many bytes
pub decided_count : (args : List ℕ) → (IsTooLarge args × (kept_count args ≡ Err elimit)) ⊎ ((IsTooLarge args → ⊥) × (kept_count args ≡ Ok (asked args)))
decided_count args = by (nat_lt 65536 (second args)) (third args == 1) refl refl where
  by : (large restricted : Bool) → nat_lt 65536 (second args) ≡ large → (third args == 1) ≡ restricted → (IsTooLarge args × ((if large then (if restricted then count_told most_data else Err elimit) else Ok (count_of args)) ≡ Err elimit)) ⊎ ((IsTooLarge args → ⊥) × ((if large then (if restricted then count_told most_data else Err elimit) else Ok (count_of args)) ≡ Ok (if large then 65536 else second args)))
  by true true is re = let one : third args ≡ 1 = grind (arith, nat_tests, re) in inr ((λ l. l.whole one), refl)
  by true false is re = inl (record { large = grind (arith, nat_tests, is); whole = λ one. absurd (grind (arith, nat_tests, re, one)) }, refl)
  by false restricted is re = inr ((λ l. let large = l.large in absurd (grind (arith, nat_tests, is, large))), refl)

-- ---- bytes that are taken into the pool

-- what is told of so many bytes, where a number of them is too large or small enough
record IsTaken (Large Small : Type 0) (m : Memory) (t : TaskNo) (at count used : ℕ) (told : Result (List ℕ) Code) : Type 0 where
  pub large : told ≡ Err elimit ↔ Large
  pub closed : told ≡ Err eperm ↔ Small × IsUnreadable m t at count
  pub full : told ≡ Err enomem ↔ Small × (IsUnreadable m t at count → ⊥) × IsFull used count
  pub given : AreTold told ↔ Small × (IsUnreadable m t at count → ⊥) × (IsFull used count → ⊥)
  pub bytes : (bytes : List ℕ) → told ≡ Ok bytes → IsLawfulRead m t at count (Ok bytes)

module _ (Large Small : Type 0) (apart : Large → Small → ⊥) (m : Memory) (t : TaskNo) (at count used : ℕ) where
  abbrev Taken : Result (List ℕ) Code → Type 0
  Taken = IsTaken Large Small m t at count used

  too_large : Large → Taken (Err elimit)
  too_large large = record {
    large = always large;
    closed = never (λ z. omega arith) (λ h. apart large h.0);
    full = never (λ z. omega arith) (λ h. apart large h.0);
    given = (λ t. absurd (differ (λ z. omega arith) t.1), λ h. absurd (apart large h.0));
    bytes = λ other e. absurd (differ (λ z. omega arith) e);
  }

  closed_to : Small → IsUnreadable m t at count → Taken (Err eperm)
  closed_to small shut = record {
    large = never (λ z. omega arith) (λ l. apart l small);
    closed = always (small, shut);
    full = never (λ z. omega arith) (λ h. h.1 shut);
    given = (λ t. absurd (differ (λ z. omega arith) t.1), λ h. absurd (h.1 shut));
    bytes = λ other e. absurd (differ (λ z. omega arith) e);
  }

  by_room : (bytes : List ℕ) → Small → (IsUnreadable m t at count → ⊥) → IsLawfulRead m t at count (Ok bytes)
      → (b : Bool) → nat_lt most_buffered (used + count) ≡ b → Taken (if b then Err enomem else Ok bytes)
  by_room bytes small can lawful true is =
      let over : 67108864 < used + count = grind (arith, nat_tests, is) in
      record {
        large = never (λ z. omega arith) (λ l. apart l small);
        closed = never (λ z. omega arith) (λ h. can h.1);
        full = always (small, can, over);
        given = (λ t. absurd (differ (λ z. omega arith) t.1), λ h. absurd (h.2 over));
        bytes = λ other e. absurd (differ (λ z. omega arith) e);
      }
  by_room bytes small can lawful false is =
      let fits : used + count ≤ 67108864 = grind (arith, nat_tests, is) in
      record {
        large = never (λ z. omega arith) (λ l. apart l small);
        closed = never (λ z. omega arith) (λ h. can h.1);
        full = never (λ z. omega arith) (λ h. let over = h.2 in omega (arith, fits, over));
        given = (λ _. (small, can, (λ over. omega (arith, fits, over))), λ _. (bytes, refl));
        bytes = λ other e. subst (IsLawfulRead m t at count) e lawful;
      }

  small_enough : IsSound m → Small → Taken (pooled used count (read m t at count))
  small_enough sound small = elim (decided_read m t at count) [
    | inl h ↦ subst (λ r. Taken (pooled used count r)) (sym h.1) (closed_to small h.0)
    | inr h ↦
        subst (λ r. Taken (pooled used count r)) (sym h.1.1)
        (by_room h.1.0 small h.0 (subst (IsLawfulRead m t at count) h.1.1 (read_is_lawful m t at count sound))
        (nat_lt most_buffered (used + count)) refl)
  ]

-- ---- a DATA_WRITE

module _ (m : Memory) (caller : TaskNo) (args : List ℕ) (used : ℕ) (sound : IsSound m) where
  abbrev Copied : Result (List ℕ) Code → Type 0
  Copied = IsTaken (IsTooLarge args) (IsTooLarge args → ⊥) m caller (first args) (asked args) used

  copied : Copied (write_before_send m caller args used)
  copied = elim (decided_count args) [
    | inl d ↦
        subst (λ r. Copied (write_kept m caller args used r)) (sym d.1)
        (too_large _ _ (λ l s. s l) m caller (first args) (asked args) used d.0)
    | inr d ↦
        subst (λ r. Copied (write_kept m caller args used r)) (sym d.1)
        (small_enough _ _ (λ l s. s l) m caller (first args) (asked args) used sound d.0)
  ]

  pub copy_is_lawful : IsLawfulCopy m caller args used (write_before_send m caller args used)
  copy_is_lawful =
      let h = copied in record { large = h.large; closed = h.closed; full = h.full; sent = h.given; bytes = h.bytes }

pub length_taken : (bytes : List ℕ) (n : ℕ) → n ≤ length bytes → length (take n bytes) ≡ n
length_taken bytes n few = grind (arith, common_steps)

-- ---- a DATA_READ

pub asking_is_lawful : (args : List ℕ) → IsLawfulAsking args (read_before_send args)
asking_is_lawful args = elim (decided_count args) [
  | inl h ↦
      subst (IsLawfulAsking args) (sym h.1)
      (record { large = always h.0; sent = never (λ z. omega arith) (λ small. small h.0) })
  | inr h ↦
      subst (IsLawfulAsking args) (sym h.1)
      (record { large = never (λ z. omega arith) (λ l. h.0 l); sent = always h.0 })
]

module _ (m : Memory) (answerer : TaskNo) (args : List ℕ) (reply : Reply) (used : ℕ) (sound : IsSound m) where
  abbrev b1 : ℕ
  b1 = first reply.args

  abbrev b2 : ℕ
  b2 = second reply.args

  abbrev Taking : Result (List ℕ) Code → Type 0
  Taking = IsTaken (second args < b2) (b2 ≤ second args) m answerer b1 b2 used

  apart : second args < b2 → b2 ≤ second args → ⊥
  apart many few = omega (arith, few, many)

  by_most : (b : Bool) → nat_lt (second args) b2 ≡ b
      → Taking (if b then Err elimit else pooled used b2 (read m answerer b1 b2))
  by_most true is = too_large _ _ apart m answerer b1 b2 used (grind (arith, nat_tests, is))
  by_most false is = small_enough _ _ apart m answerer b1 b2 used sound (grind (arith, nat_tests, is))

  pub taking_is_lawful : IsLawfulTaking m answerer args reply used (read_accept m answerer args reply used)
  taking_is_lawful =
      let h = by_most (nat_lt (second args) b2) refl in
      record { more = h.large; closed = h.closed; full = h.full; taken = h.given; bytes = h.bytes }

-- ---- what is asked for is what is sent

cut_others : (args : List ℕ) (x i : ℕ) → i < 5 → (i ≡ 1 → ⊥) → slice_index (first args ∷ x ∷ third args ∷ slice_index args 3 ∷ slice_index args 4 ∷ []) i ≡ slice_index args i
cut_others args x zero few other = refl
cut_others args x (suc zero) few other = absurd (other refl)
cut_others args x (suc (suc zero)) few other = refl
cut_others args x (suc (suc (suc zero))) few other = refl
cut_others args x (suc (suc (suc (suc zero)))) few other = refl
cut_others args x (suc (suc (suc (suc (suc i))))) few other = absurd (omega (arith, few))

pub cut_is_lawful : (args : List ℕ) → AreCutDown args (cut_args args)
cut_is_lawful args = by (nat_lt 65536 (second args)) refl where
  by : (large : Bool) → nat_lt 65536 (second args) ≡ large → AreCutDown args (if large then first args ∷ most_data ∷ third args ∷ slice_index args 3 ∷ slice_index args 4 ∷ [] else args)
  by true is = record { few = λ le. absurd (grind (arith, nat_tests, is, le)); five = λ _. refl; second = rw is refl; others = cut_others args most_data }
  by false is = record { few = λ _. refl; five = λ large. absurd (grind (arith, nat_tests, is, large)); second = rw is refl; others = λ i few other. refl }
