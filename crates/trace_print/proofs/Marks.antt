-- What pens keep of a text.
use Rattle.std.proofs.Common.{◌≡◌, ℕ, List, [], ◌∷◌, ◌++◌, map, ap, refl}

pub map_append : (f : ℕ → ℕ) (s t : List ℕ) → map f (s ++ t) ≡ map f s ++ map f t
map_append f [] t = refl
map_append f (x ∷ s) t = ap (λ l. f x ∷ l) (map_append f s t)

-- a text whose bytes are kept as they are
pub map_same : (s : List ℕ) → map (λ b. b) s ≡ s
map_same [] = refl
map_same (x ∷ s) = ap (λ l. x ∷ l) (map_same s)
