-- The laws of block servers, over the definitions.
use Rattle.std.proofs.Common.{◌≡◌, ◌/◌, ◌%◌, ◌<◌, ℕ, zero, suc, ◌==◌, Bool, true, false, List, [], ◌∷◌, length, Option, Some, None, refl, ap, ◌∙◌, arith}
use Rattle.std.specs.Prelude.{◌&&◌, not, nat_lt, is_none, slice_get, slice_set, position}
use Rattle.std.proofs.Math.Nat.{div-add-mod}
use Rattle.std.proofs.lemmas.Bool.{eq-eqb, eqb-true, and_parts, not-true, false_from_ne_true, lt-ltb, le-ltb}
use Rattle.std.proofs.lemmas.Option.{get_or_from_slice_get, same_Some, slice_get_within}
use Rattle.ipc_ids.specs.declared.numbers.Label.{Label}
use Rattle.ipc_ids.specs.Labels.{same_label}
use Rattle.ipc_ids.proofs.Common.{set_other, own_label}
use Rattle.block_server.specs.Blocks.{BlockState, has_label, slot_of, free_slot, is_offset}
use Rattle.block_server.proofs.Windows.{position_step, none_at}
use Rattle.program_examples.specs.BlockLaws.{Has, HasNone, IsAtRest, IsPlace, RefusesTransfers, ReadsGoToTheOwnWindow, WritesComeFromTheOwnWindow, PlacesAreWithin, SharesAreTaken, IsClient, IsFirstFree, HasNoFree, ClientsConnect, TransfersAreAnswered, OwedWorkStays}
use Rattle.task_ends.proofs.LawfulEnds.{label_is}

-- ---- searches

-- where what stands at a place passes the test, and nothing at an earlier place does, that is the place
first_at : {A : Type 0} (test : A → Bool) (xs : List A) (i : ℕ) (x : A) → slice_get xs i ≡ Some x → test x ≡ true
    → ((j : ℕ) (y : A) → j < i → slice_get xs j ≡ Some y → test y ≡ false) → position test xs ≡ Some i
first_at test [] i x at is before = absurd (none_at i x at)
first_at test (y ∷ ys) zero x at is before = position_step test y ys ∙ rw (same_Some y x at, is) refl
first_at test (y ∷ ys) (suc i) x at is before =
    position_step test y ys
    ∙ rw (
      before 0 y (omega arith) refl,
      first_at test ys i x at is (λ j z less there. before (suc j) z (omega (arith, less)) there),
    ) refl

-- where nothing passes there is none
pub none_at_all : {A : Type 0} (test : A → Bool) (xs : List A)
    → ((j : ℕ) (y : A) → slice_get xs j ≡ Some y → test y ≡ false) → position test xs ≡ None
none_at_all test [] none = refl
none_at_all test (y ∷ ys) none =
    position_step test y ys
    ∙ rw (none 0 y refl, none_at_all test ys (λ j z there. none (suc j) z there)) refl

-- a slot that has not this label
other_label : (s : BlockState) (client : Label) (j : ℕ) (held : Option Label) → (Has s j client → ⊥)
    → slice_get s.slots j ≡ Some held → has_label client held ≡ false
other_label s client j None not at = refl
other_label s client j (Some l) not at = false_from_ne_true (same_label l client)
    (λ is. not (at ∙ ap (λ (x : Label). Some (Some x)) (label_is l client is)))

known : (s : BlockState) (k : ℕ) (client : Label) → IsAtRest s → Has s k client → slot_of s.slots client ≡ Some k
known s k client rest has =
    first_at (has_label client) s.slots k (Some client) has (own_label client)
    (λ j y less at. other_label s client j y
    (λ there. absurd (less_not j less (rest.apart j k client there has))) at) where
      less_not : (j : ℕ) → j < k → j ≡ k → ⊥
      less_not j less same = omega (arith, less, same)

unknown : (s : BlockState) (client : Label) → HasNone s client → slot_of s.slots client ≡ None
unknown s client none = none_at_all (has_label client) s.slots (λ j y at. other_label s client j y (none j) at)

-- ---- transfers

place_is_offset : (offset : ℕ) → IsPlace offset → is_offset offset ≡ true
place_is_offset offset p = rw (even, le-ltb 4032 offset (omega (arith, p.whole))) refl where
  even : (offset % 64 == 0) ≡ true
  even = eq-eqb (offset % 64) 0 (omega (arith, p.there))

offset_is_place : (offset : ℕ) → is_offset offset ≡ true → IsPlace offset
offset_is_place offset is =
    let both = and_parts (offset % 64 == 0) (not (nat_lt 4032 offset)) is in
    let small = not-true (nat_lt 4032 offset) both.1 in
    record {
      number = offset / 64;
      there = omega (arith, eqb-true _ _ both.0, div-add-mod offset 64);
      whole = grind (arith, small);
    }

no_offset : (offset : ℕ) → (IsPlace offset → ⊥) → is_offset offset ≡ false
no_offset offset none = false_from_ne_true (is_offset offset) (λ is. none (offset_is_place offset is))

pub read_refusals : RefusesTransfers 512
read_refusals = record {
  nobody = λ s now c none. rw (c.made, c.rest.idle, unknown s c.client none)
      (record { asked = refl; blocks = refl; slots = refl });
  no_block = λ s now c k has h.
      rw (c.made, c.rest.idle, known s k c.client c.rest has, le-ltb c.first (length s.blocks) h)
      (record { asked = refl; blocks = refl; slots = refl });
  no_place = λ s now c k has h none. rw (
    c.made,
    c.rest.idle,
    known s k c.client c.rest has,
    lt-ltb c.first (length s.blocks) h,
    no_offset c.second none,
  ) (record { asked = refl; blocks = refl; slots = refl });
}

pub write_refusals : RefusesTransfers 513
write_refusals = record {
  nobody = λ s now c none. rw (c.made, c.rest.idle, unknown s c.client none)
      (record { asked = refl; blocks = refl; slots = refl });
  no_block = λ s now c k has h.
      rw (c.made, c.rest.idle, known s k c.client c.rest has, le-ltb c.first (length s.blocks) h)
      (record { asked = refl; blocks = refl; slots = refl });
  no_place = λ s now c k has h none. rw (
    c.made,
    c.rest.idle,
    known s k c.client c.rest has,
    lt-ltb c.first (length s.blocks) h,
    no_offset c.second none,
  ) (record { asked = refl; blocks = refl; slots = refl });
}

pub reads : ReadsGoToTheOwnWindow
reads s now c k bytes has at place =
    rw (
      c.made,
      c.rest.idle,
      known s k c.client c.rest has,
      lt-ltb c.first (length s.blocks) (slice_get_within s.blocks c.first bytes at),
      place_is_offset c.second place,
    )
    (record { asked = rw (get_or_from_slice_get s.blocks c.first bytes _ at) refl; blocks = refl; slots = refl })

pub writes : WritesComeFromTheOwnWindow
writes s now c k has h place =
    rw (
      c.made,
      c.rest.idle,
      known s k c.client c.rest has,
      lt-ltb c.first (length s.blocks) h,
      place_is_offset c.second place,
    )
    (record { asked = refl; blocks = refl; slots = refl })

pub places : PlacesAreWithin
places k offset p = record { from = omega arith; to = omega (arith, p.whole) }

-- ---- shares

page_to_share : (a b : ℕ) → a ≡ 1 → b ≡ 3 → ((a == 1) && (b == 3)) ≡ true
page_to_share a b one three = rw (one, three) refl

no_page_to_share : (a b : ℕ) → (a ≡ 1 → b ≡ 3 → ⊥) → ((a == 1) && (b == 3)) ≡ false
no_page_to_share a b none = false_from_ne_true ((a == 1) && (b == 3)) (λ is.
    let both = and_parts (a == 1) (b == 3) is in none (eqb-true _ _ both.0) (eqb-true _ _ both.1))

pub shares : SharesAreTaken
shares = record {
  nobody = λ s now c none. rw (c.made, c.rest.idle, unknown s c.client none)
      (record { asked = refl; blocks = refl; slots = refl });
  taken = λ s now c k has one three.
      rw (c.made, c.rest.idle, known s k c.client c.rest has, page_to_share c.second c.third one three)
      (record { asked = refl; blocks = refl; slots = refl });
  other = λ s now c k has none.
      rw (c.made, c.rest.idle, known s k c.client c.rest has, no_page_to_share c.second c.third none)
      (record { asked = refl; blocks = refl; slots = refl });
}

-- ---- clients that connect

-- the parts of a phone's number
given : (client : Label) (n : ℕ) → IsClient client n
    → record { task = record { 0 = n / 64 }; phone = record { 0 = n % 64 } } ≡ client
given client n is = rw (task, phone) refl where
  task : n / 64 ≡ client.task.0
  task = omega (arith, is.number, is.small)

  phone : n % 64 ≡ client.phone.0
  phone = omega (arith, is.number, is.small)

first_free : (s : BlockState) (k : ℕ) → IsFirstFree s k → free_slot s.slots ≡ Some k
first_free s k f = first_at is_none s.slots k None f.free refl before where
  before : (j : ℕ) (y : Option Label) → j < k → slice_get s.slots j ≡ Some y → is_none y ≡ false
  before j None less at = absurd (f.before j less at)
  before j (Some l) less at = refl

none_free : (s : BlockState) → HasNoFree s → free_slot s.slots ≡ None
none_free s none = none_at_all is_none s.slots taken where
  taken : (j : ℕ) (y : Option Label) → slice_get s.slots j ≡ Some y → is_none y ≡ false
  taken j None at = absurd (none j at)
  taken j (Some l) at = refl

pub set_here : {A : Type 0} (xs : List A) (i : ℕ) (x y : A) → slice_get xs i ≡ Some x
    → slice_get (slice_set xs i y) i ≡ Some y
set_here [] i x y at = absurd (none_at i x at)
set_here (z ∷ zs) zero x y at = refl
set_here (z ∷ zs) (suc i) x y at = set_here zs i x y at

pub connects : ClientsConnect
connects = record {
  again = λ s now c client k is has. rw (c.made, c.rest.idle, given client c.fifth is, known s k client c.rest has)
      (record { asked = refl; blocks = refl; slots = refl });
  answered = λ s now c client k o is has. rw (c.made, c.rest.idle, given client c.fifth is, known s k client c.rest has)
      (record { asked = refl; blocks = refl; slots = refl });
  enters = λ s now c client k is none free.
      let gave : Label = record { task = record { 0 = c.fifth / 64 }; phone = record { 0 = c.fifth % 64 } } in
      rw (c.made, c.rest.idle, given client c.fifth is, unknown s client none, first_free s k free)
      (record {
        has = set_here s.slots k None (Some gave) free.free
            ∙ ap (λ (l : Label). Some (Some l)) (given client c.fifth is);
        others = λ j apart. set_other s.slots k j (Some gave) apart;
        blocks = refl;
      });
  welcomed = λ s now c client k is none free.
      rw (c.made, c.rest.idle, given client c.fifth is, unknown s client none, first_free s k free) refl;
  full = λ s now c client is none free.
      rw (c.made, c.rest.idle, given client c.fifth is, unknown s client none, none_free s free)
      (record { asked = refl; blocks = refl; slots = refl });
}

-- ---- what is owed

pub answered_transfers : TransfersAreAnswered
answered_transfers = record {
  shown = λ s call address block rest is. rw is refl;
  not_shown = λ s call address block n rest is. rw is refl;
  fetched = λ s call address block rest bytes is. rw is refl;
  not_fetched = λ s call address block n rest is. rw is refl;
}

pub owed : OwedWorkStays
owed = record {
  offered = λ s service rest o is. rw is refl;
  dropped = λ s base rest o is. rw is refl;
  answered = λ s call said rest o is. rw is refl;
}
