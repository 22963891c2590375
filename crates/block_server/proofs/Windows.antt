-- The laws of windows and slots, over the definitions of the server.
use Rattle.std.proofs.Common.{◌≡◌, ◌⊎◌, inl, inr, ◌+◌, ℕ, zero, suc, ◌==◌, Bool, true, false, List, [], ◌∷◌, length, Option, Some, None, refl, sym, ap, ◌∙◌, subst, arith}
use Rattle.std.specs.Prelude.{nat_lt, option_map, slice_get, slice_set, position, cond, if◌then◌else◌, replicate}
use Rattle.std.specs.List.{position_or_len}
use Rattle.std.proofs.lemmas.Option.{same_Some}
use Rattle.ipc_ids.specs.declared.numbers.Label.{Label}
use Rattle.ipc_ids.specs.declared.message.Outcome.{Outcome}
use Rattle.ipc_ids.specs.declared.message.Outcome.TheVariants as outcome
use Rattle.ipc_ids.specs.Methods.{connect_me_to}
use Rattle.ipc_ids.proofs.Common.{own_label}
use Rattle.block_server.specs.declared.received.ReceivedCall.{ReceivedCall}
use Rattle.block_server.specs.declared.received.Work.{Work}
use Rattle.block_server.specs.declared.received.Work.TheVariants.{Offer, Drop, Answer, Show, Fetch}
use Rattle.block_server.specs.declared.received.Asked.{Asked}
use Rattle.block_server.specs.declared.received.Asked.TheVariants.{Share, Read, Write, HungUp, Other}
use Rattle.block_server.specs.Blocks.{BlockState, argument, has_label, slot_of, free_slot, label_given, is_window, is_offset, share_by, transfer_by, place_in, connect_by, enter_by, handled_by, handled_for, handled_if, asked_by, after_receive, first_work, after_outcome_by, after, started}
use Rattle.block_server.specs.WindowLaws.{IsSlotOf, SlotsDiffer}

pub none_at : {A : Type 0} (i : ℕ) (x : A) → slice_get {X = A} [] i ≡ Some x → ⊥
none_at zero x at = absurd (cc at)
none_at (suc i) x at = absurd (cc at)

-- the first place of a list, and the places behind it
pub position_step : {A : Type 0} (test : A → Bool) (x : A) (xs : List A) → position test (x ∷ xs) ≡ (if test x then Some 0 else option_map suc (position test xs))
position_step test x xs = by_test (test x) refl where
  k : ℕ
  k = position_or_len test xs

  by_place : (b : Bool) → nat_lt k (length xs) ≡ b → cond (nat_lt (1 + k) (length (x ∷ xs))) (Some (1 + k)) None ≡ option_map suc (cond (nat_lt k (length xs)) (Some k) None)
  by_place b is = grind (arith, is)

  by_test : (b : Bool) → test x ≡ b → position test (x ∷ xs) ≡ (if b then Some 0 else option_map suc (position test xs))
  by_test true is = grind (arith, is)
  by_test false is = rw is (by_place (nat_lt k (length xs)) refl)

none_later : (o : Option ℕ) → option_map suc o ≡ None → o ≡ None
none_later None h = refl
none_later (Some m) h = absurd (cc h)

none_found : {A : Type 0} (test : A → Bool) (xs : List A) → position test xs ≡ None → (i : ℕ) (x : A) → slice_get xs i ≡ Some x → test x ≡ true → ⊥
none_found test [] h i x at is = none_at i x at
none_found test (y ∷ xs) h i x at is = by_test (test y) refl (sym (position_step test y xs) ∙ h) i at (λ none k here. none_found test xs none k x here is) where
  by_test : (b : Bool) → test y ≡ b → (if b then Some 0 else option_map suc (position test xs)) ≡ None → (k : ℕ) → slice_get (y ∷ xs) k ≡ Some x
      → (position test xs ≡ None → (m : ℕ) → slice_get xs m ≡ Some x → ⊥) → ⊥
  by_test true first none k here later = absurd (cc none)
  by_test false first none zero here later = absurd (cc (first, ap test (same_Some y x here), is))
  by_test false first none (suc k) here later = later (none_later (position test xs) none) k here

no_slot : (slots : List (Option Label)) (label : Label) → slot_of slots label ≡ None → (i : ℕ) → IsSlotOf slots i label → ⊥
no_slot slots label h i at = none_found (has_label label) slots h i (Some label) at (own_label label)

-- no two slots have one label

-- a slot that has changed, and any other
at_slot : (slots : List (Option Label)) (slot k : ℕ) (new : Option Label) (label : Label) → IsSlotOf (slice_set slots slot new) k label
    → ((k ≡ slot) × (new ≡ Some label)) ⊎ ((k ≡ slot → ⊥) × IsSlotOf slots k label)
at_slot [] slot k new label at = absurd (none_at k (Some label) at)
at_slot (x ∷ slots) zero zero new label at = inl (refl, same_Some new (Some label) at)
at_slot (x ∷ slots) zero (suc k) new label at = inr (λ same. cc same, at)
at_slot (x ∷ slots) (suc slot) zero new label at = inr (λ same. cc same, at)
at_slot (x ∷ slots) (suc slot) (suc k) new label at = elim (at_slot slots slot k new label at) [
  | inl e ↦ inl (ap suc e.0, e.1)
  | inr e ↦ inr (λ same. e.0 (omega (arith, same)), e.1)
]

differ_left : (slots : List (Option Label)) (slot : ℕ) → SlotsDiffer slots → SlotsDiffer (slice_set slots slot None)
differ_left slots slot d i j label first second = elim (at_slot slots slot i None label first) [
  | inl e ↦ absurd (cc e.1)
  | inr e ↦ elim (at_slot slots slot j None label second) [
    | inl g ↦ absurd (cc g.1)
    | inr g ↦ d i j label e.1 g.1
  ]
]

differ_entered : (slots : List (Option Label)) (slot : ℕ) (new : Label) → ((i : ℕ) → IsSlotOf slots i new → ⊥) → SlotsDiffer slots → SlotsDiffer (slice_set slots slot (Some new))
differ_entered slots slot new none d i j label first second = elim (at_slot slots slot i (Some new) label first) [
  | inl e ↦ elim (at_slot slots slot j (Some new) label second) [
    | inl g ↦ e.0 ∙ sym g.0
    | inr g ↦ absurd (none j (subst (λ (l : Label). IsSlotOf slots j l) (sym (same_Some new label e.1)) g.1))
  ]
  | inr e ↦ elim (at_slot slots slot j (Some new) label second) [
    | inl g ↦ absurd (none i (subst (λ (l : Label). IsSlotOf slots i l) (sym (same_Some new label g.1)) e.1))
    | inr g ↦ d i j label e.1 g.1
  ]
]

differ_enter : (s : BlockState) (r : ReceivedCall) (free : Option ℕ) → slot_of s.slots (label_given r) ≡ None → SlotsDiffer s.slots → SlotsDiffer (enter_by s r free).slots
differ_enter s r None new d = d
differ_enter s r (Some slot) new d = differ_entered s.slots slot (label_given r) (no_slot s.slots (label_given r) new) d

differ_connect : (s : BlockState) (r : ReceivedCall) (known : Option ℕ) → slot_of s.slots (label_given r) ≡ known → SlotsDiffer s.slots → SlotsDiffer (connect_by s r known).slots
differ_connect s r (Some slot) is d = d
differ_connect s r None is d = differ_enter s r (free_slot s.slots) is d

differ_share : (s : BlockState) (r : ReceivedCall) (slot : ℕ) (b : Bool) → SlotsDiffer s.slots → SlotsDiffer (share_by s r slot b).slots
differ_share s r slot true d = d
differ_share s r slot false d = d

differ_transfer : (s : BlockState) (r : ReceivedCall) (work : Work) (there right : Bool) → SlotsDiffer s.slots → SlotsDiffer (transfer_by s r work there right).slots
differ_transfer s r work false right d = d
differ_transfer s r work true false d = d
differ_transfer s r work true true d = d

differ_asked : (s : BlockState) (r : ReceivedCall) (slot : ℕ) (asked : Asked) → SlotsDiffer s.slots → SlotsDiffer (handled_by s r slot asked).slots
differ_asked s r slot Share d = differ_share s r slot (is_window r) d
differ_asked s r slot Read d = differ_transfer s r (Show r.number (place_in r slot) (argument r 0)) (nat_lt (argument r 0) (length s.blocks)) (is_offset (argument r 1)) d
differ_asked s r slot Write d = differ_transfer s r (Fetch r.number (place_in r slot) (argument r 0)) (nat_lt (argument r 0) (length s.blocks)) (is_offset (argument r 1)) d
differ_asked s r slot HungUp d = differ_left s.slots slot d
differ_asked s r slot Other d = d

differ_for : (s : BlockState) (r : ReceivedCall) (known : Option ℕ) → SlotsDiffer s.slots → SlotsDiffer (handled_for s r known).slots
differ_for s r None d = d
differ_for s r (Some slot) d = differ_asked s r slot (asked_by r.msg.method) d

differ_handled : (s : BlockState) (r : ReceivedCall) (connects : Bool) → SlotsDiffer s.slots → SlotsDiffer (handled_if s r connects).slots
differ_handled s r true d = differ_connect s r (slot_of s.slots (label_given r)) refl d
differ_handled s r false d = differ_for s r (slot_of s.slots r.label) d

differ_received : (s : BlockState) (o : Outcome) → SlotsDiffer s.slots → SlotsDiffer (after_receive s o).slots
differ_received s (outcome.Received call msg label) d =
    let r : ReceivedCall = record { number = call; msg = msg; label = label } in
    differ_handled s r (msg.method == connect_me_to) d
differ_received s _ d = d

differ_worked : (s : BlockState) (o : Outcome) (work : Option Work) → SlotsDiffer s.slots → SlotsDiffer (after_outcome_by s o work).slots
differ_worked s o None d = differ_received s o d
differ_worked s o (Some (Offer service)) d = d
differ_worked s o (Some (Drop base)) d = d
differ_worked s o (Some (Answer call reply)) d = d
differ_worked s o (Some (Show call at block)) d = d
differ_worked s o (Some (Fetch call at block)) d = d

pub slots_differ : (s : BlockState) (o : Outcome) → SlotsDiffer s.slots → SlotsDiffer (after s o).slots
slots_differ s o d = differ_worked s o (first_work s) d

pub slots_differ_at_first : (blocks : ℕ) (service : Option ℕ) → SlotsDiffer (started blocks service).slots
slots_differ_at_first blocks service i j label first second = absurd (all_free 16 i first) where
  all_free : (n k : ℕ) → IsSlotOf (replicate n None) k label → ⊥
  all_free zero k at = none_at k (Some label) at
  all_free (suc n) zero at = absurd (cc at)
  all_free (suc n) (suc k) at = all_free n k at
