-- A share call is sent just where an area can be shared.
use Rattle.std.proofs.Common.{◌≡◌, ℕ, ◌≤◌, ◌==◌, Bool, true, false, ◌&&◌, List, Option, Some, None, refl, subst, arith, nat_le}
use Rattle.std.specs.Prelude.{if◌then◌else◌, Ok, Err}
use Rattle.std.proofs.lemmas.Bool.Decides.{nat_tests}
use Rattle.ipc_ids.specs.Codes.{eperm}
use Rattle.ipc_ids.specs.declared.numbers.TaskNo.{TaskNo}
use Rattle.address_space.specs.Areas.{Area, is_subset}
use Rattle.address_space.specs.Memory.{Memory, area_at}
use Rattle.address_space.specs.Sound.{IsSound}
use Rattle.address_space.proofs.Keeping.{both_true}
use Rattle.share_hooks.specs.ShareMoments.{is_between, offer, out_before_send, in_before_send}
use Rattle.kernel_laws.specs.MemoryLaws.{HasAt, AreAmong}
use Rattle.kernel_laws.specs.DataLaws.{first, second, third, IsOffered, IsLawfulOffer, IsAreaAsked, IsLawfulWish}
use Rattle.kernel_laws.proofs.LawfulAreas.{range_of, found_at, none_at, one_base, rights_among, not_among}
use Rattle.std.proofs.lemmas.Bool.{eqb-true, eq-eqb, both_ways, true_from_ne_false}
use Rattle.kernel_laws.proofs.Told.{never, always}

from_low : (low high n : ℕ) → is_between low high n ≡ true → low ≤ n
from_low low high n h = let b = (both_true (nat_le low n) (nat_le n high) h).0 in grind (arith, nat_tests, b)

to_high : (low high n : ℕ) → is_between low high n ≡ true → n ≤ high
to_high low high n h = let b = (both_true (nat_le low n) (nat_le n high) h).1 in grind (arith, nat_tests, b)

between : (low high n : ℕ) → low ≤ n → n ≤ high → is_between low high n ≡ true
between low high n from to = grind (arith, nat_tests, from, to)

among_test : (r all : ℕ) → 1 ≤ all → all ≤ 3 → AreAmong r all → is_subset r all ≡ true
among_test r all some few a = true_from_ne_false (is_subset r all) (λ is. not_among r all some few is a)

module _ (m : Memory) (caller : TaskNo) (args : List ℕ) (sound : IsSound m) where
  abbrev test : Area → Bool
  test a = (a.pages == second args) && (is_between 1 3 (third args) && is_subset (third args) a.rights)

  offered : (a : Area) → HasAt m caller (first args) a → test a ≡ true → IsOffered m caller args a
  offered a has h =
      let one = both_true (a.pages == second args) (is_between 1 3 (third args) && is_subset (third args) a.rights) h in
      let two = both_true (is_between 1 3 (third args)) (is_subset (third args) a.rights) one.1 in
      let range = range_of m caller a sound has.has in
      record {
        has = has;
        pages = eqb-true a.pages (second args) one.0;
        lowest = from_low 1 3 (third args) two.0;
        highest = to_high 1 3 (third args) two.0;
        rights = rights_among (third args) a.rights range.lawful.0 range.lawful.1 two.1;
      }

  not_offered : (a b : Area) → HasAt m caller (first args) a → test a ≡ false → IsOffered m caller args b → ⊥
  not_offered a b has h o =
      let same : b ≡ a = one_base m caller (first args) b a sound o.has has in
      let p : IsOffered m caller args a = subst (IsOffered m caller args) same o in
      let range = range_of m caller a sound has.has in
      let pages = eq-eqb a.pages (second args) p.pages in
      let rights = between 1 3 (third args) p.lowest p.highest in
      let among = among_test (third args) a.rights range.lawful.0 range.lawful.1 p.rights in
      both_ways (test a) h (rw (pages, rights, among) refl)

  by_test : (a : Area) → HasAt m caller (first args) a → (b : Bool) → test a ≡ b → IsLawfulOffer m caller args (if b then Ok tt else Err eperm)
  by_test a has true is =
      let can = offered a has is in
      record {
        gone = never (λ z. omega arith) (λ none. none a has);
        unlike = never (λ z. omega arith) (λ h. h.1 a can);
        sent = always (a, can);
      }
  by_test a has false is =
      record {
        gone = never (λ z. omega arith) (λ none. none a has);
        unlike = always ((a, has), λ b o. not_offered a b has is o);
        sent = never (λ z. omega arith) (λ h. not_offered a h.0 has is h.1);
      }

  by_found : (o : Option Area) → area_at m caller (first args) ≡ o → IsLawfulOffer m caller args (offer args o)
  by_found None is =
      let none = none_at m caller (first args) is in
      record {
        gone = always none;
        unlike = never (λ z. omega arith) (λ h. none h.0.0 h.0.1);
        sent = never (λ z. omega arith) (λ h. none h.0 h.1.has);
      }
  by_found (Some a) is = by_test a (found_at m caller (first args) a is) (test a) refl

  pub offer_is_lawful : IsLawfulOffer m caller args (out_before_send m caller args)
  offer_is_lawful = by_found (area_at m caller (first args)) refl

module _ (args : List ℕ) where
  abbrev wish : Bool
  wish = is_between 1 16 (second args) && is_between 1 3 (third args)

  wished : wish ≡ true → IsAreaAsked args
  wished h =
      let both = both_true (is_between 1 16 (second args)) (is_between 1 3 (third args)) h in
      record { some = from_low 1 16 (second args) both.0; few = to_high 1 16 (second args) both.0; lowest = from_low 1 3 (third args) both.1; highest = to_high 1 3 (third args) both.1 }

  not_wished : wish ≡ false → IsAreaAsked args → ⊥
  not_wished h a =
      both_ways wish h
      (rw (between 1 16 (second args) a.some a.few, between 1 3 (third args) a.lowest a.highest) refl)

  by_wish : (b : Bool) → wish ≡ b → IsLawfulWish args (if b then Ok tt else Err eperm)
  by_wish true is = record { refused = never (λ z. omega arith) (λ none. none (wished is)); sent = always (wished is) }
  by_wish false is = record { refused = (λ _ a. not_wished is a, λ _. refl); sent = never (λ z. omega arith) (λ a. not_wished is a) }

  pub wish_is_lawful : IsLawfulWish args (in_before_send args)
  wish_is_lawful = by_wish wish refl
