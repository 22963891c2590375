-- Which names were lost.
use Rattle.std.proofs.Common.{◌≡◌, ◌<◌, ◌+◌, ◌++◌, [], ◌∷◌, List, ℕ, Bool, true, false, refl, ap, sym, ◌∙◌, arith, cond}
use Rattle.std.proofs.lemmas.Bool.{lt-ltb, le-ltb, ltb-true}
use Rattle.std.proofs.lemmas.Slice.Eq.{bytes_eq-Decides}
use Rattle.std.proofs.lemmas.Grind.{common_steps}
use Rattle.std.specs.Str.{bytes_eq}
use Rattle.io_edge.specs.Edge.{times}
use Rattle.command_line.specs.Due.{lost}

-- how often a name stands in a list with one more
pub times_more : (w n : List ℕ) (xs : List (List ℕ))
    → times w (xs ++ n ∷ []) ≡ times w xs + cond (bytes_eq n w) 1 0
times_more w n [] = grind (arith, common_steps)
times_more w n (x ∷ xs) = grind (arith, common_steps, times_more w n xs)

-- the name that was added is lost
pub lost_it : (n : List ℕ) (xs ys : List (List ℕ)) → ys ≡ xs ++ n ∷ [] → lost xs ys n ≡ true
lost_it n xs ys e = let same : bytes_eq n n ≡ true = (bytes_eq-Decides n n).1 refl in
    let more : times n ys ≡ times n xs + 1 =
    ap (times n) e ∙ times_more n n xs ∙ ap (λ b. times n xs + cond b 1 0) same in
    lt-ltb (times n xs) (times n ys) (omega arith)

-- no other name is
only : (b : Bool) (w n : List ℕ) (m k : ℕ) → bytes_eq n w ≡ b → m ≡ k + cond b 1 0 → k < m → n ≡ w
only true w n m k e h l = (bytes_eq-Decides n w).0 e
only false w n m k e h l = absurd (omega arith)

pub lost_only : (w n : List ℕ) (xs ys : List (List ℕ))
    → ys ≡ xs ++ n ∷ [] → lost xs ys w ≡ true → w ≡ n
lost_only w n xs ys e h =
    let more = ap (times w) e ∙ times_more w n xs in
    sym (only (bytes_eq n w) w n (times w ys) (times w xs) refl more (ltb-true (times w xs) (times w ys) h))

-- no name is where the list is as before
pub lost_none : (w : List ℕ) (xs ys : List (List ℕ)) → ys ≡ xs → lost xs ys w ≡ false
lost_none w xs ys e =
    let same : times w ys ≡ times w xs = ap (times w) e in
    le-ltb (times w xs) (times w ys) (omega arith)
