-- Lists that begin alike, or end alike.
use Rattle.std.proofs.Common.{◌≡◌, List, [], ◌∷◌, ◌++◌, length, length-append, refl, ◌∙◌, ap, arith}

pub same_front : {A : Type 0} (a b v w : List A) → length a ≡ length b → a ++ v ≡ b ++ w → (a ≡ b) × (v ≡ w)
same_front [] [] v w l e = (refl, e)
same_front [] (y ∷ b) v w l e = absurd (omega (arith, l))
same_front (x ∷ a) [] v w l e = absurd (omega (arith, l))
same_front {A} (x ∷ a) (y ∷ b) v w l e =
    let first : x ≡ y = cc e in
    let later = same_front a b v w (omega (arith, l)) (cc e) in
    (ap (λ (z : A). z ∷ a) first ∙ ap (λ (z : List A). y ∷ z) later.0, later.1)

-- behind two fronts of one list as much is left: it is the same
pub same_end : {A : Type 0} (a b v w : List A) → a ++ v ≡ b ++ w → length v ≡ length w → v ≡ w
same_end a b v w e l =
    let one = length-append a v in
    let other = length-append b w in
    let whole = ap length e in
    (same_front a b v w (omega (arith, one, other, whole, l)) e).1
