-- Each change of the kernel keeps the counts at the phones right.
use Rattle.std.proofs.Common.{◌≡◌, ℕ, zero, suc, ◌+◌, ◌-◌, ◌≤◌, Bool, true, false, cond, ◌⊎◌, inl, inr, None, Some, List, [], ◌∷◌, ◌++◌, replicate, refl, sym, ◌∙◌, arith}
use Rattle.std.specs.Prelude.{slice_get}
use Rattle.std.proofs.lemmas.Bool.{cases_eq, eq-eqb, ne_eqb}
use Rattle.std.specs.FinMap.{len}
use Rattle.ipc_ids.specs.declared.numbers.Label.{Label}
use Rattle.call_slab.specs.declared.call.Call.{Call}
use Rattle.call_slab.specs.declared.call.Place.{Place}
use Rattle.answerbox.specs.Calls.{CallTable, call_at, enqueue, put_at, without_call, no_calls, is_active_on, is_caller, active_calls}
use Rattle.ipc_ids.specs.Labels.{same_label}
use Rattle.answerbox.proofs.Counts.{active-enqueue, active-without_call, active-put_at, active-len, count-positive}
use Rattle.phone_table.specs.Phones.{count_at}
use Rattle.switchboard.specs.Counts.{label_at, recount, counts_without, IsCounted}
use Rattle.switchboard.proofs.Rows.{recount_at, some_of}

-- at the phone that it was made over, a call is active unless its caller has ended
here : (c : Call) (t p : ℕ) → t ≡ c.from.task.0 → p ≡ c.from.phone.0 → is_active_on (label_at t p) c ≡ is_caller c.from.task c.caller
here c t p e f = rw (e, f, eq-eqb c.from.task.0 c.from.task.0 refl, eq-eqb c.from.phone.0 c.from.phone.0 refl)

apart_label : (a b t p : ℕ) → ((t ≡ a) × (p ≡ b) → ⊥) → same_label (label_at a b) (label_at t p) ≡ false
apart_label a b t p ne = elim (cases_eq a t) [
  | inl e ↦ elim (cases_eq b p) [ inl f ↦ absurd (ne (sym e, sym f)) | inr nf ↦ rw (eq-eqb a t e, ne_eqb b p nf) ]
  | inr nt ↦ rw (ne_eqb a t nt)
]

-- and at no other
pub elsewhere : (c : Call) (t p : ℕ) → ((t ≡ c.from.task.0) × (p ≡ c.from.phone.0) → ⊥) → is_active_on (label_at t p) c ≡ false
elsewhere c t p ne = let h : same_label c.from (label_at t p) ≡ false = apart_label c.from.task.0 c.from.phone.0 t p ne in rw h

its_caller : (c : Call) → c.caller ≡ Some c.from.task → is_caller c.from.task c.caller ≡ true
its_caller c h = rw (h, eq-eqb c.from.task.0 c.from.task.0 refl)

one_more : (b : Bool) (x y : ℕ) → x ≡ cond b 1 0 + y → b ≡ true → x ≡ 1 + y
one_more true x y h e = h
one_more false x y h e = cc

no_more : (b : Bool) (x y : ℕ) → x ≡ cond b 1 0 + y → b ≡ false → x ≡ y
no_more true x y h e = cc
no_more false x y h e = omega arith

pub counted_enqueue : (counts : List (List ℕ)) (q : CallTable) (c : Call) → IsCounted counts q → call_at q c.number.0 ≡ None → c.caller ≡ Some c.from.task → IsCounted (recount (λ n. n + 1) counts c.from.task.0 c.from.phone.0) (enqueue q c)
counted_enqueue counts q c s free caller t p n h =
    let more = active-enqueue q c (label_at t p) free in
    elim (recount_at (λ n. n + 1) counts c.from.task.0 c.from.phone.0 t p n h) [
      | inl e ↦
          let m = s t p e.2.0 e.2.1 in
          let count = e.2.2 in
          let sum = one_more (is_active_on (label_at t p) c) _ _ more (here c t p e.0 e.1 ∙ its_caller c caller) in
          omega arith
      | inr e ↦
          let m = s t p n e.1 in
          let sum = no_more (is_active_on (label_at t p) c) _ _ more (elsewhere c t p e.0) in
          omega arith
    ]

not_here : (c : Call) (t p : ℕ) → (t ≡ c.from.task.0) ⊎ (t ≡ c.from.task.0 → ⊥) → (p ≡ c.from.phone.0) ⊎ (p ≡ c.from.phone.0 → ⊥) → is_caller c.from.task c.caller ≡ false → is_active_on (label_at t p) c ≡ false
not_here c t p (inl e) (inl f) is = here c t p e f ∙ is
not_here c t p (inr ne) f is = elsewhere c t p (λ x. ne x.0)
not_here c t p (inl e) (inr nf) is = elsewhere c t p (λ x. nf x.1)

pub counted_without : (counts : List (List ℕ)) (q : CallTable) (n : ℕ) (c : Call) → IsCounted counts q → call_at q n ≡ Some c → IsCounted (counts_without counts c.caller c.from) (without_call q n)
counted_without counts q n c s is = by_caller (is_caller c.from.task c.caller) refl where
  by_caller : (b : Bool) → is_caller c.from.task c.caller ≡ b → (t p m : ℕ) → count_at (cond b (recount (λ i. i - 1) counts c.from.task.0 c.from.phone.0) counts) t p ≡ Some m → m ≡ active_calls (without_call q n) (label_at t p)
  by_caller true own t p m h =
      let less = active-without_call q n c (label_at t p) is in
      elim (recount_at (λ i. i - 1) counts c.from.task.0 c.from.phone.0 t p m h) [
        | inl e ↦
            let was = s t p e.2.0 e.2.1 in
            let count = e.2.2 in
            let sum = one_more (is_active_on (label_at t p) c) _ _ less (here c t p e.0 e.1 ∙ own) in
            omega arith
        | inr e ↦
            let was = s t p m e.1 in
            let sum = no_more (is_active_on (label_at t p) c) _ _ less (elsewhere c t p e.0) in
            omega arith
      ]
  by_caller false own t p m h =
      let less = active-without_call q n c (label_at t p) is in
      let was = s t p m h in
      let sum = no_more (is_active_on (label_at t p) c) _ _ less (not_here c t p (cases_eq t c.from.task.0) (cases_eq p c.from.phone.0) own) in
      omega arith

-- a call that keeps its caller and phone
pub counted_put : (counts : List (List ℕ)) (q : CallTable) (c d : Call) (place : Place) → IsCounted counts q → call_at q d.number.0 ≡ Some c → ((l : Label) → is_active_on l d ≡ is_active_on l c) → IsCounted counts (put_at q d place)
counted_put counts q c d place s is same t p n h = s t p n h ∙ sym (active-put_at q c d place (label_at t p) is (same (label_at t p)))

-- a live call is counted at its phone unless its caller has ended
pub count_positive : (counts : List (List ℕ)) (q : CallTable) (m n : ℕ) (c : Call) → IsCounted counts q → call_at q m ≡ Some c → count_at counts c.from.task.0 c.from.phone.0 ≡ Some n → is_caller c.from.task c.caller ≡ true → 1 ≤ n
count_positive counts q m n c s is count own =
    let l = label_at c.from.task.0 c.from.phone.0 in
    let some = count-positive (is_active_on l) q m c is (here c c.from.task.0 c.from.phone.0 refl refl ∙ own) in
    let sum = s c.from.task.0 c.from.phone.0 n count in
    omega arith

row_last : (xs : List (List ℕ)) (i : ℕ) (r w : List ℕ) → slice_get (xs ++ r ∷ []) i ≡ Some w → (slice_get xs i ≡ Some w) ⊎ (r ≡ w)
row_last [] zero r w h = inr cc
row_last [] (suc i) r w h = absurd (cc h)
row_last (x ∷ xs) zero r w h = inl h
row_last (x ∷ xs) (suc i) r w h = row_last xs i r w h

pub zeros : (k p n : ℕ) → slice_get (replicate k 0) p ≡ Some n → n ≡ 0
zeros zero p n h = absurd (cc h)
zeros (suc k) zero n h = cc
zeros (suc k) (suc p) n h = zeros k p n h

-- one task more, before the first call
pub counted_task : (counts : List (List ℕ)) (q : CallTable) (limit : ℕ) → IsCounted counts q → len q.records ≡ 0 → IsCounted (counts ++ replicate limit 0 ∷ []) q
counted_task counts q limit s none t p n h = let l = active-len q (label_at t p) in let z : n ≡ 0 = all_zero t p n h in omega arith where
  old_zero : (t p n : ℕ) → count_at counts t p ≡ Some n → n ≡ 0
  old_zero t p n h = let m = s t p n h in let l = active-len q (label_at t p) in omega arith

  all_zero : (t p n : ℕ) → count_at (counts ++ replicate limit 0 ∷ []) t p ≡ Some n → n ≡ 0
  all_zero t p n h =
      elim (cases_eq t 0) [
        | inl e ↦ absurd (let g = rw (eq-eqb t 0 e) at h in cc)
        | inr ne ↦
            let g = rw (ne_eqb t 0 ne) at h in
            let found = some_of (slice_get (counts ++ replicate limit 0 ∷ []) (t - 1)) (λ r. slice_get r p) n g in
            elim (row_last counts (t - 1) (replicate limit 0) found.0 found.1) [
              | inl e ↦ old_zero t p n (rw (ne_eqb t 0 ne, e) found.2)
              | inr e ↦ zeros limit p n (rw e found.2)
            ]
      ]

pub counted_none : IsCounted [] no_calls
counted_none t p n h = absurd (elim (cases_eq t 0) [ inl e ↦ let g = rw (eq-eqb t 0 e) at h in cc | inr ne ↦ let g = rw (ne_eqb t 0 ne) at h in cc ])
