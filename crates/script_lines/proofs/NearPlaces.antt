-- A name that stands at a place is found there.
use Rattle.std.proofs.Common.{◌≡◌, ℕ, ◌<◌, Bool, true, false, ◌&&◌, List, [], ◌∷◌, length, get_or, Some, refl, sym, ap, subst, ◌∙◌, inl, inr, arith}
use Rattle.std.specs.Prelude.{position, nat_eq}
use Rattle.std.specs.Global.{Vec}
use Rattle.std.specs.List.{position_or_len, IsDistinct}
use Rattle.std.specs.Str.{bytes_eq}
use Rattle.std.proofs.lemmas.Bool.{lt-ltb, cases_eq, ne_eqb}
use Rattle.std.proofs.lemmas.List.Sums.{position_or_len_is}
use Rattle.std.proofs.lemmas.Map.Keys.{apart_from_distinct}
use Rattle.std.proofs.lemmas.Slice.Eq.{bytes_eq-Decides}

-- bytes are compared either way round
pub flip : (a b : List ℕ) → bytes_eq a b ≡ bytes_eq b a
flip [] [] = refl
flip [] (y ∷ ys) = refl
flip (x ∷ xs) [] = refl
flip (x ∷ xs) (y ∷ ys) = elim (cases_eq x y) [
  | inl e ↦ rw e (ap (λ (b : Bool). nat_eq y y && b) (flip xs ys))
  | inr ne ↦ rw (ne_eqb x y ne, ne_eqb y x (λ e. ne (sym e))) refl
]

abbrev pub same_bytes : Vec ℕ → Vec ℕ → Bool
same_bytes v w = bytes_eq v.items w.items

-- where no two keys have the same bytes, the one at a place is found there
pub first_at : (keys : List (Vec ℕ)) (i : ℕ) (d : Vec ℕ) (name : List ℕ) → IsDistinct same_bytes keys → i < length keys
    → bytes_eq (get_or keys i d).items name ≡ true → position (λ (v : Vec ℕ). bytes_eq name v.items) keys ≡ Some i
first_at keys i d name apart lt here =
    let same : (get_or keys i d).items ≡ name = (bytes_eq-Decides (get_or keys i d).items name).0 here in
    let others : (k : ℕ) → k < i → bytes_eq name (get_or keys k d).items ≡ false =
    λ k below. subst (λ (n : List ℕ). bytes_eq n (get_or keys k d).items ≡ false) same (flip (get_or keys i d).items (get_or keys k d).items ∙ apart_from_distinct same_bytes keys k i d apart below lt) in
    let place : position_or_len (λ (v : Vec ℕ). bytes_eq name v.items) keys ≡ i = position_or_len_is (λ (v : Vec ℕ). bytes_eq name v.items) keys i d (omega (arith, lt)) others (λ _. flip name (get_or keys i d).items ∙ here) in
    rw place (rw (lt-ltb i (length keys) lt) refl)
