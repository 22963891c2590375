-- Where the part at the front of a text is cut.
use Rattle.std.proofs.Common.{◌≡◌, ℕ, suc, ◌≤◌, Bool, true, false, not, List, [], ◌∷◌, length, take, drop, Some, None, refl, sym, ap, subst, ◌∙◌, inl, inr, arith, ne_eqb}
use Rattle.std.specs.Prelude.{position, ◌==◌, ◌&&◌}
use Rattle.std.specs.List.{list_all, position_or_len}
use Rattle.std.proofs.lemmas.Bool.{cases_Bool}
use Rattle.std.proofs.lemmas.List.{take_all, drop_all}
use Rattle.script_reader.proofs.StepLines.{no_end}
use Rattle.search_goals.specs.declared.stops.Stop.{Stop}
use Rattle.search_goals.specs.declared.stops.Stop.TheVariants as stops
use Rattle.search_goals.specs.Stops.{stops_at, len_until}
use Rattle.search_goals.proofs.GoalWords.{found_at}

until_is : (stop : Stop) (text : List ℕ) → position_or_len (stops_at stop) text ≡ len_until stop text
until_is stops.Gap text = refl
until_is stops.Word text = refl
until_is stops.NameEnd text = refl
until_is stops.NumberEnd text = refl
until_is stops.LineEnd text = refl
until_is (stops.Mark mark) text = refl

-- a part that ends within the text
pub cut_found : (stop : Stop) (text : List ℕ) (at : ℕ) → position (stops_at stop) text ≡ Some at →
    (at ≡ len_until stop text) × (at ≤ length text)
cut_found stop text at e = let found = found_at (stops_at stop) text at e in (found.0 ∙ until_is stop text, found.1)

-- one that is all of it
pub cut_none : (stop : Stop) (text : List ℕ) → position (stops_at stop) text ≡ None →
    (text ≡ take (len_until stop text) text) × ([] ≡ drop (len_until stop text) text)
cut_none stop text e =
    let all : length text ≡ len_until stop text = no_end (stops_at stop) text e ∙ until_is stop text in
    let whole : length text ≤ len_until stop text = omega (arith, all) in
    (sym (take_all (len_until stop text) text whole), sym (drop_all (len_until stop text) text whole))

-- ---- nothing is left where each byte has it
goes_on : (p : ℕ → Bool) (x : ℕ) (xs : List ℕ) → p x ≡ true
    → position_or_len (λ b. not (p b)) (x ∷ xs) ≡ suc (position_or_len (λ b. not (p b)) xs)
goes_on p x xs e = rw e (omega arith)

ends_here : (p : ℕ → Bool) (x : ℕ) (xs : List ℕ) → p x ≡ false → position_or_len (λ b. not (p b)) (x ∷ xs) ≡ 0
ends_here p x xs e = rw e refl

none_over : (p : ℕ → Bool) (xs : List ℕ) → (length (drop (position_or_len (λ b. not (p b)) xs) xs) == 0) ≡ list_all p xs
none_over p [] = refl
none_over p (x ∷ xs) = elim (cases_Bool (p x)) [
  | inl has ↦ subst (λ (n : ℕ). (length (drop n (x ∷ xs)) == 0) ≡ list_all p (x ∷ xs)) (sym (goes_on p x xs has))
      (none_over p xs ∙ ap (λ (b : Bool). b && list_all p xs) (sym has))
  | inr lacks ↦ subst (λ (n : ℕ). (length (drop n (x ∷ xs)) == 0) ≡ list_all p (x ∷ xs)) (sym (ends_here p x xs lacks))
      (ne_eqb (length (x ∷ xs)) 0 (λ e. omega (arith, e)) ∙ ap (λ (b : Bool). b && list_all p xs) (sym lacks))
]

pub none_left : (p : ℕ → Bool) (xs rest : List ℕ) → rest ≡ drop (position_or_len (λ b. not (p b)) xs) xs
    → (length rest == 0) ≡ list_all p xs
none_left p xs rest e = ap (λ (r : List ℕ). length r == 0) e ∙ none_over p xs
