-- A line that is compared with a text.
use Rattle.std.proofs.Common.{◌≡◌, ℕ, ◌+◌, ◌↔◌, Bool, true, List, [], ◌∷◌, ◌++◌, length, take, drop, refl, sym, ap, ◌∙◌, append_assoc, arith}
use Rattle.std.specs.Prelude.{IsTrue, nat_eq, ◌==◌}
use Rattle.std.proofs.lemmas.Bool.{eqb-true}
use Rattle.std.specs.Cmp.Lexicographic.{pointwise}
use Rattle.std.proofs.lemmas.List.{take-append-drop, append_cancel_left, append-nil}
use Rattle.std.proofs.Math.Seq.{take-add, take-append_seam}
use Rattle.trace_print.specs.Comparison.{compared}
use Rattle.trace_print.proofs.Lasts.{is_line, same_but_last, tail_same}

-- what comes where the line goes on with it
pub same_more :
    (line other w : List ℕ) (same count : ℕ) → other ≡ [] → take count (drop same line) ≡ w →
    compared line (same + count) other ≡ compared line same other ++ w
same_more line other w same count none goes =
    rw (none, take-add same count line, goes, append-nil (take same line ++ w), append-nil (take same line))
    (ap (λ (l : List ℕ). length line ∷ l) (sym (append_assoc line (take same line) w)))

pub no_items : (xs : List ℕ) → (length xs == 0) ≡ true → xs ≡ []
no_items [] h = refl
no_items (x ∷ xs) h = absurd (grind arith)

-- two lines that are compared are one, and so is what was written
pub apart : (a b x y : List ℕ) → length a ∷ a ++ x ≡ (length b ∷ b) ++ y → (a ≡ b) × (x ≡ y)
apart a b x y h =
    let long : length a ≡ length b = head_of (length a) (length b) (a ++ x) (b ++ y) h in
    let rest : a ++ x ≡ b ++ y = tail_same (length a) (length b) (a ++ x) (b ++ y) h in
    let same : a ≡ b = sym (take-append_seam a x) ∙ ap (λ l. take (length a) l) rest ∙ ap (λ n. take n (b ++ y)) long ∙ take-append_seam b y in
    (same, append_cancel_left b x y (ap (λ l. l ++ x) (sym same) ∙ rest))
  where
    head_of : (m n : ℕ) (xs ys : List ℕ) → m ∷ xs ≡ n ∷ ys → m ≡ n
    head_of m n xs ys h = cc

-- ---- the end

pub whole :
    (line other text : List ℕ) (same last : ℕ) (b : Bool) → other ≡ text ++ last ∷ [] → last ≡ 10 →
    b ≡ pointwise nat_eq text (drop same line) → IsTrue b ↔ (take same line ++ other ≡ line ++ 10 ∷ [])
whole line other text same last b is feed test =
    let ends = is_line other (drop same line) text last b is feed test in
    let cut : take same line ++ (drop same line ++ 10 ∷ []) ≡ line ++ 10 ∷ [] =
    sym (append_assoc (take same line) (drop same line) (10 ∷ [])) ∙ ap (λ l. l ++ 10 ∷ []) (take-append-drop same line) in (
      λ yes. ap (λ l. take same line ++ l) (ends.0 yes) ∙ cut,
      λ e. ends.1 (append_cancel_left (take same line) other (drop same line ++ 10 ∷ []) (e ∙ sym cut)),
    )

pub no_feed :
    (line other text : List ℕ) (same last : ℕ) → other ≡ text ++ last ∷ [] → (last ≡ 10 → ⊥) →
    IsTrue (nat_eq last 10) ↔ (take same line ++ other ≡ line ++ 10 ∷ [])
no_feed line other text same last is apart = (
  λ h. absurd (apart (eqb-true last 10 h)),
  λ e. absurd (apart (same_but_last (take same line ++ text) line last 10 (append_assoc (take same line) text (last ∷ []) ∙ ap (λ l. take same line ++ l) (sym is) ∙ e)).1),
)
