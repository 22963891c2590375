-- A map whose keys are below a number is read again from the words of what stands under each.
use Rattle.std.proofs.Common.{Option, None, Some, ℕ, zero, suc, ◌≡◌, ◌<◌, ◌≤◌, ◌+◌, ◌-◌, ◌⊎◌, inl, inr, List, ◌++◌, refl, sym, ◌∙◌, ap, subst, arith, append_assoc}
use Rattle.std.proofs.lemmas.Bool.{cases_order, cases_lt}
use Rattle.std.specs.Prelude.{IsSome}
use Rattle.std.specs.Cmp.{nat_cmp_total}
use Rattle.std.specs.Ordering.{nat_cmp}
use Rattle.std.specs.FinMap.{FinMap, get, same_map, nat_cmp-IsAntisymmetric}
use Rattle.state_words.specs.Words.{option_words}
use Rattle.state_words.specs.MemoryWords.{map_from}
use Rattle.state_words.specs.Apart.{AreUnder}
use Rattle.state_words.proofs.Splits.{Splits, option_splits}

pub left_map : {A : Type 0} (words : A → List ℕ) (map : FinMap nat_cmp A) (n m : ℕ) → n < m → map_from words map n (m - n) ≡ option_words words (get map n) ++ map_from words map (n + 1) (m - (n + 1))
left_map words map n m l =
    let a : m - n ≡ suc (m - (n + 1)) = omega arith in
    ap (λ (z : ℕ). map_from words map n z) a

one_of : {A : Type 0} (a b : FinMap nat_cmp A) (n k : ℕ) → get a n ≡ get b n → ((j : ℕ) → n + 1 ≤ j → j < n + 1 + k → get a j ≡ get b j) → (j : ℕ) → n ≤ j → j < n + suc k → (j ≡ n) ⊎ ((j < n) ⊎ (n < j)) → get a j ≡ get b j
one_of a b n k e r j l h (inl s) = subst (λ (z : ℕ). get a z ≡ get b z) (sym s) e
one_of a b n k e r j l h (inr (inl s)) = absurd (omega arith)
one_of a b n k e r j l h (inr (inr s)) = r j (omega arith) (omega arith)

from_split : {A : Type 0} (words : A → List ℕ) → Splits words → (a b : FinMap nat_cmp A) (n k : ℕ) (s t : List ℕ) → map_from words a n k ++ s ≡ map_from words b n k ++ t → ((j : ℕ) → n ≤ j → j < n + k → get a j ≡ get b j) × (s ≡ t)
from_split words w a b n zero s t e = (λ j l h. absurd (omega arith), e)
from_split {A} words w a b n (suc k) s t e =
    let now : FinMap nat_cmp A → List ℕ = λ (c : FinMap nat_cmp A). option_words words (get c n) in
    let rest : FinMap nat_cmp A → List ℕ = λ (c : FinMap nat_cmp A). map_from words c (n + 1) k in
    let f : now a ++ (rest a ++ s) ≡ now b ++ (rest b ++ t) = sym (append_assoc (now a) (rest a) s) ∙ e ∙ append_assoc (now b) (rest b) t in
    let h = (option_splits words w).split (get a n) (get b n) (rest a ++ s) (rest b ++ t) f in
    let r = from_split words w a b (n + 1) k s t h.1 in
    (λ j l g. one_of a b n k h.0 r.0 j l g (cases_order j n), r.1)

none_there : {A : Type 0} (o : Option A) → (IsSome o → ⊥) → o ≡ None
none_there None h = refl
none_there (Some x) h = absurd (h refl)

past : {A : Type 0} (a : FinMap nat_cmp A) (m q : ℕ) → AreUnder a m → m ≤ q → get a q ≡ None
past a m q h l = none_there (get a q) (λ (e : IsSome (get a q)). (let b : q < m = h q e in omega arith))

each_same : {A : Type 0} (a b : FinMap nat_cmp A) (m : ℕ) → AreUnder a m → AreUnder b m → ((j : ℕ) → 0 ≤ j → j < 0 + m → get a j ≡ get b j) → (q : ℕ) → (q < m) ⊎ (m ≤ q) → get a q ≡ get b q
each_same a b m h k r q (inl l) = r q (omega arith) (omega arith)
each_same a b m h k r q (inr l) = past a m q h l ∙ sym (past b m q k l)

pub map_split : {A : Type 0} (words : A → List ℕ) → Splits words → (a b : FinMap nat_cmp A) (m : ℕ) (s t : List ℕ) → AreUnder a m → AreUnder b m → map_from words a 0 m ++ s ≡ map_from words b 0 m ++ t → (a ≡ b) × (s ≡ t)
map_split words w a b m s t h k e =
    let r = from_split words w a b 0 m s t e in
    (same_map nat_cmp_total nat_cmp-IsAntisymmetric a b (λ (q : ℕ). each_same a b m h k r.0 q (cases_lt q m)), r.1)
