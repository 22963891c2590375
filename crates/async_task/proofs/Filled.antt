-- What all 8 slots hold, where only the first of them take memory.
use Rattle.std.proofs.Common.{ℕ, zero, suc, ◌≡◌, ◌+◌, ◌-◌, ◌<◌, ◌≤◌, Bool, true, false, List}
use Rattle.std.proofs.Common.{[], ◌∷◌, ◌++◌, length, refl, sym, ap, ◌∙◌, arith}
use Rattle.std.specs.Prelude.{if◌then◌else◌, nat_lt, replicate, slice_get, slice_set, take}
use Rattle.std.proofs.lemmas.Bool.Decides.{nat_tests}
use Rattle.std.proofs.lemmas.List.{append_assoc, length-append, length-replicate, length-set}
use Rattle.std.proofs.lemmas.List.{replicate-append-replicate, set-append_left, take_all}
use Rattle.async_task.specs.declared.context.Slot.{Slot}
use Rattle.async_task.specs.declared.context.Slot.TheVariants as slot
use Rattle.async_task.specs.Contexts.{slot_in}
use Rattle.async_task.specs.Slots.{filled, with_held}

-- what a slot holds

pub closed_at : (n k : ℕ) → slot_in (slice_get (replicate n slot.Closed) k) ≡ slot.Closed
closed_at zero k = refl
closed_at (suc n) zero = refl
closed_at (suc n) (suc k) = closed_at n k

append_at : (used : List Slot) (n k : ℕ) →
    slot_in (slice_get (used ++ replicate n slot.Closed) k) ≡ slot_in (slice_get used k)
append_at [] n k = closed_at n k
append_at (s ∷ used) n zero = refl
append_at (s ∷ used) n (suc k) = append_at used n k

pub filled_at : (used : List Slot) (k : ℕ) →
    slot_in (slice_get (filled used) k) ≡ slot_in (slice_get used k)
filled_at used k = append_at used (8 - length used) k

-- there are those that take memory and the others

pub length_filled : (used : List Slot) → length (filled used) ≡ length used + (8 - length used)
length_filled used =
    let all = length-append used (replicate (8 - length used) slot.Closed) in
    let closed = length-replicate (8 - length used) slot.Closed in omega (arith, all, closed)

-- a slot that takes memory holds something else

held_there : (slots : List Slot) (k : ℕ) (s : Slot) → k < 8 →
    with_held slots k s ≡ slice_set slots k s
held_there slots k s less =
    let there : nat_lt k 8 ≡ true = grind (arith, nat_tests, less) in rw there refl

pub filled_set : (used : List Slot) (k : ℕ) (s : Slot) → length used ≤ 8 → k < length used →
    filled (slice_set used k s) ≡ with_held (filled used) k s
filled_set used k s few less =
    ap (λ (n : ℕ). slice_set used k s ++ replicate (8 - n) slot.Closed) (length-set used k s)
    ∙ sym (set-append_left used (replicate (8 - length used) slot.Closed) k s less)
    ∙ sym (held_there (filled used) k s (omega (arith, few, less)))

-- one that takes no memory is closed

closed_set : (n k : ℕ) →
    slice_set (replicate n slot.Closed) k slot.Closed ≡ replicate n slot.Closed
closed_set zero k = refl
closed_set (suc n) zero = refl
closed_set (suc n) (suc k) = ap (λ (slots : List Slot). slot.Closed ∷ slots) (closed_set n k)

append_set : (used : List Slot) (n k : ℕ) → length used ≤ k →
    slice_set (used ++ replicate n slot.Closed) k slot.Closed ≡ used ++ replicate n slot.Closed
append_set [] n k past = closed_set n k
append_set (s ∷ used) n zero past = absurd (omega (arith, past))
append_set (s ∷ used) n (suc k) past =
    ap (λ (slots : List Slot). s ∷ slots) (append_set used n k (omega (arith, past)))

pub filled_past : (used : List Slot) (k : ℕ) → length used ≤ k →
    with_held (filled used) k slot.Closed ≡ filled used
filled_past used k past = by (nat_lt k 8)
  where
    by : (b : Bool) →
        (if b then slice_set (filled used) k slot.Closed else filled used) ≡ filled used
    by true = append_set used (8 - length used) k past
    by false = refl

-- more slots take memory

filled_more : (used : List Slot) (n : ℕ) → length used + n ≤ 8 →
    filled (used ++ replicate n slot.Closed) ≡ filled used
filled_more used n few =
    append_assoc used (replicate n slot.Closed) (replicate (8 - count) slot.Closed)
    ∙ ap (λ (slots : List Slot). used ++ slots)
    (replicate-append-replicate n (8 - count) slot.Closed
    ∙ ap (λ (m : ℕ). replicate m slot.Closed) rest)
  where
    count : ℕ
    count = length (used ++ replicate n slot.Closed)

    counted : count ≡ length used + n
    counted =
        length-append used (replicate n slot.Closed)
        ∙ ap (λ (m : ℕ). length used + m) (length-replicate n slot.Closed)

    rest : n + (8 - count) ≡ 8 - length used
    rest = omega (arith, counted, few)

pub filled_longer : (used : List Slot) (n : ℕ) → length used ≤ n → n ≤ 8 →
    filled (take n used ++ replicate (n - length used) slot.Closed) ≡ filled used
filled_longer used n past few =
    ap (λ (slots : List Slot). filled (slots ++ replicate (n - length used) slot.Closed))
    (take_all n used past)
    ∙ filled_more used (n - length used) (omega (arith, past, few))
