-- The law of a kill, read entry by entry and found late, is one law.
use Rattle.std.proofs.Common.{ℕ, ◌≡◌, ◌≤◌, ◌<◌, ◌⊎◌, Option, Some, List, [], ◌∷◌, arith, refl, inl, inr, sym, subst, true}
use Rattle.std.proofs.lemmas.Bool.{eq-eqb, ne_eqb, cases_eq}
use Rattle.ipc_ids.specs.Tales.{Event, Kill, Note, Tale, Head, On, Other}
use Rattle.ipc_ids.specs.Life.{Life, Nowhere, Answers, HasJustGoneBack, Allowed, after, life, event, is_killed, last_number}
use Rattle.ipc_ids.specs.Laws.{AllAllowed}
use Rattle.law_check.specs.Kills.{heads, kill_of, earlier_kill_of, earlier_number, since, Ends, EndsWell, KillsFrom, IsDue, IsLate, NoneIsLate, KillsFoundLate}
use Rattle.ipc_ids.proofs.Pasts.{event_is_killed}
use Rattle.law_check.specs.Allowed.{WasAllowed}
use Rattle.law_check.proofs.AtMostOnce.{above}
use Rattle.law_check.proofs.Blocks.{le_or_lt}

-- the numbers of kills
kill_is_past : (t : ℕ) (p : List Tale) → kill_of t p ≤ heads p
kill_is_past t [] = omega arith
kill_is_past t (e ∷ p) = grind (arith, kill_is_past t p)

earlier_is_before : (t : ℕ) (p : List Tale) → 0 < heads p → earlier_kill_of t p < heads p
earlier_is_before t [] h = absurd (omega arith)
earlier_is_before t (e ∷ p) h = grind (arith, earlier_is_before t p, kill_is_past t p)

pub earlier_first : (t : ℕ) (p : List Tale) → earlier_kill_of t p ≤ kill_of t p
earlier_first t [] = omega arith
earlier_first t (e ∷ p) = grind (arith, earlier_first t p, kill_is_past t p)

-- the last kill of t is in the present event, or earlier
pub present_kill : (t : ℕ) (p : List Tale) → (event p ≡ Some (Kill t)) ⊎ (kill_of t p ≡ earlier_kill_of t p)
present_kill t [] = inr refl
present_kill t (e ∷ p) = grind (arith, eq-eqb, ne_eqb, present_kill t p)

-- a call that was accepted in the present event came to its place in it
came_now : (n : ℕ) (p : List Tale) → WasAllowed p → earlier_number p < n → (life n p ≡ Nowhere → ⊥) → since n p ≡ heads p
came_now n [] l h there = absurd (there refl)
came_now n (e ∷ p) l h there = grind (arith, eq-eqb, ne_eqb, came_now n p l.0, above p l.0 n)

came_by_now : (n : ℕ) (p : List Tale) → since n p ≤ heads p
came_by_now n [] = omega arith
came_by_now n (e ∷ p) = grind (arith, eq-eqb, ne_eqb, came_by_now n p)

pub kill_now : (t : ℕ) (p : List Tale) → event p ≡ Some (Kill t) → kill_of t p ≡ heads p
kill_now t [] h = cc
kill_now t (e ∷ p) h = grind (arith, eq-eqb, kill_now t p)

numbers_rise : (p : List Tale) → WasAllowed p → earlier_number p ≤ last_number p
numbers_rise [] l = omega arith
numbers_rise (e ∷ p) l = grind (arith, numbers_rise p l.0)

-- a call of t that goes back, with its number
pub back_is_new : (n u : ℕ) (p : List Tale) → WasAllowed p → HasJustGoneBack n u p → earlier_number p < n
back_is_new n u [] l b = absurd b
back_is_new n u (e ∷ p) l b = grind (arith, numbers_rise p l.0, l)

pub lt_not_le : {a b : ℕ} → a < b → b ≤ a → ⊥
lt_not_le h k = omega (arith, h, k)

-- in an event that kills t a note brings no call to its answers, but for one that goes back
pub no_answer :
    (p : List Tale) (n t : ℕ) (w : Note) (l : Life) → Allowed p n w l → event p ≡ Some (Kill t) →
    after w l ≡ Answers t → is_killed t p ≡ true → (HasJustGoneBack n t p → ⊥) → ⊥
no_answer p n t w l a now there killed new = grind arith

at_same : (p : List Tale) (m n : ℕ) (w : Note) {l : Life} → m ≡ n → life n (On m w ∷ p) ≡ l → after w (life n p) ≡ l
at_same p m n w e h = rw (eq-eqb m n e) at h

at_other : (p : List Tale) (m n : ℕ) (w : Note) (l : Life) → (m ≡ n → ⊥) → life n (On m w ∷ p) ≡ l → life n p ≡ l
at_other p m n w l apart h = rw (ne_eqb m n apart) at h

-- no earlier answer came to t in the event that kills it
came_before :
    (n t : ℕ) (p : List Tale) → WasAllowed p → n ≤ earlier_number p → event p ≡ Some (Kill t) → life n p ≡ Answers t →
    since n p < heads p
came_before n t [] l h now there = cc
came_before n t (Head e ∷ p) l h now there = omega (arith, came_by_now n p)
came_before n t (Other ∷ p) l h now there = came_before n t p l.0 h now there
came_before n t (On m w ∷ p) l h now there =
    elim (cases_eq m n) [
      | inl e ↦
          let a : Allowed p n w (life n p) = subst (λ (i : ℕ). Allowed p i w (life i p)) e l.2 in
          absurd (no_answer p n t w (life n p) a now (at_same p m n w e there) (event_is_killed t p now)
          (λ b. lt_not_le (back_is_new n t p l.0 b) h))
      | inr apart ↦ rw (ne_eqb m n apart) (came_before n t p l.0 h now (at_other p m n w (Answers t) apart there))
    ]

-- what is late stays so
due_later : (p : List Tale) (n t k l : ℕ) → k ≤ l → IsDue p n t k → IsDue p n t l
due_later p n t k l h (inl due) = inl (due.0, omega (arith, due.1, h))
due_later p n t k l h (inr due) = inr (due.0, omega (arith, due.1, h))

due_over : (p : List Tale) (m n t k : ℕ) (w : Note) → (m ≡ n → ⊥) → IsDue p n t k → IsDue (On m w ∷ p) n t k
due_over p m n t k w apart due = rw (ne_eqb m n apart) due

never_late : (es p : List Tale) (n t : ℕ) → IsLate p n t → KillsFoundLate p es → ⊥
never_late [] p n t late told = told n t (due_later p n t (earlier_kill_of t p) (kill_of t p) (earlier_first t p) late)
never_late (Head e ∷ es) p n t late told =
    never_late es (Head e ∷ p) n t (due_later p n t (earlier_kill_of t p) (kill_of t p) (earlier_first t p) late) told
never_late (Other ∷ es) p n t late told = never_late es (Other ∷ p) n t late told
never_late (On m w ∷ es) p n t late told =
    elim (cases_eq m n) [
      | inl e ↦ told.1 t (subst (λ (i : ℕ). IsLate p i t) (sym e) late)
      | inr apart ↦ never_late es (On m w ∷ p) n t (due_over p m n t (earlier_kill_of t p) w apart late) told.2
    ]

-- an event that kills t ends well where nothing is late after it
ends_well : (p : List Tale) → WasAllowed p → NoneIsLate p → EndsWell p
ends_well p l none = ends (event p) refl where
  ends : (e : Option Event) → event p ≡ e → Ends e p
  ends (Some (Kill t)) now = (
    λ n held. none n t (inl (held, omega (arith, came_by_now n p, kill_now t p now))),
    λ n before there. none n t (inr (there, omega (arith, came_before n t p l before now there, kill_now t p now))),
  )
  ends _ now = tt

head_is_not_late : (p : List Tale) (e : Event) (es : List Tale) → KillsFoundLate (Head e ∷ p) es → NoneIsLate p
head_is_not_late p e es told n t due = never_late es (Head e ∷ p) n t due told

pub kills_of_late : (es p : List Tale) → WasAllowed p → AllAllowed p es → KillsFoundLate p es → KillsFrom p es
kills_of_late [] p l a told = ends_well p l told
kills_of_late (Head e ∷ es) p l a told =
    (ends_well p l (head_is_not_late p e es told), kills_of_late es (Head e ∷ p) (l, a.0, a.1) a.2 told)
kills_of_late (On n w ∷ es) p l a told = (told.0, kills_of_late es (On n w ∷ p) (l, a.0, a.1) a.2 told.2)
kills_of_late (Other ∷ es) p l a told = kills_of_late es (Other ∷ p) (l, a.0, a.1) a.2 told

-- the first entry is a head
begun : (e : Tale) (p : List Tale) → WasAllowed (e ∷ p) → 0 < heads (e ∷ p)
begun (Head e) p l = omega arith
begun (On n w) [] l = absurd l.1
begun (On n w) (e ∷ p) l = begun e p l.0
begun Other [] l = absurd l.1
begun Other (e ∷ p) l = begun e p l.0

pub ends_of : (t : ℕ) (p : List Tale) → event p ≡ Some (Kill t) → EndsWell p → Ends (Some (Kill t)) p
ends_of t p now ends = subst (λ (e : Option Event). Ends e p) now ends

pub somewhere : (t : ℕ) (l : Life) → l ≡ Answers t → l ≡ Nowhere → ⊥
somewhere t l h k = cc

answer_not_due :
    (p : List Tale) (n t : ℕ) → WasAllowed p → event p ≡ Some (Kill t) → Ends (Some (Kill t)) p → life n p ≡ Answers t →
    since n p < kill_of t p → ⊥
answer_not_due p n t l now ends there h =
    elim (le_or_lt n (earlier_number p)) [
      | inl before ↦ ends.1 n before there
      | inr new ↦ absurd (omega (arith, h, kill_now t p now, came_now n p l new (λ nowhere. somewhere t (life n p) there nowhere)))
    ]

-- where nothing was late before, nothing is at the end of an event that ends well
none_is_late : (p : List Tale) → WasAllowed p → ((n t : ℕ) → IsLate p n t → ⊥) → EndsWell p → NoneIsLate p
none_is_late p l fine ends n t due =
    elim (present_kill t p) [
      | inl now ↦ elim due [
        | inl held ↦ (ends_of t p now ends).0 n held.0
        | inr there ↦ answer_not_due p n t l now (ends_of t p now ends) there.0 there.1
      ]
      | inr same ↦ fine n t (subst (λ (k : ℕ). IsDue p n t k) same due)
    ]

-- nor after a note
placed_now : (p : List Tale) (n t : ℕ) (w : Note) → 0 < heads p → IsLate (On n w ∷ p) n t → IsLate p n t
placed_now p n t w h late = grind (arith, eq-eqb, earlier_is_before t p h)

none_after_note :
    (p : List Tale) (m : ℕ) (w : Note) → 0 < heads p → ((n t : ℕ) → IsLate p n t → ⊥) → (n t : ℕ) →
    IsLate (On m w ∷ p) n t → ⊥
none_after_note p m w h fine n t late =
    elim (cases_eq m n) [
      | inl e ↦ fine m t (placed_now p m t w h (subst (λ (i : ℕ). IsLate (On m w ∷ p) i t) (sym e) late))
      | inr apart ↦ fine n t (rw (ne_eqb m n apart) at late)
    ]

pub late_of_kills :
    (es p : List Tale) → WasAllowed p → AllAllowed p es → ((n t : ℕ) → IsLate p n t → ⊥) → KillsFrom p es →
    KillsFoundLate p es
late_of_kills [] p l a fine kills = none_is_late p l fine kills
late_of_kills (Head e ∷ es) p l a fine kills =
    late_of_kills es (Head e ∷ p) (l, a.0, a.1) a.2 (none_is_late p l fine kills.0) kills.1
late_of_kills (On n w ∷ es) p l a fine kills =
    let more : WasAllowed (On n w ∷ p) = (l, a.0, a.1) in (
      kills.0,
      fine n,
      late_of_kills es (On n w ∷ p) more a.2 (none_after_note p n w (begun (On n w) p more) fine) kills.1,
    )
late_of_kills (Other ∷ es) p l a fine kills = late_of_kills es (Other ∷ p) (l, a.0, a.1) a.2 fine kills
