-- Words that begin with those that are asked for, as a loop tests them.
use Rattle.std.proofs.Common.{◌≡◌, ℕ, ◌+◌, ◌≤◌, ◌<◌, Bool, true, false, List, [], ◌∷◌, length, get_or, drop, sym, ap, ◌∙◌}
use Rattle.std.specs.Prelude.{◌&&◌, ◌||◌}
use Rattle.std.specs.List.{list_any}
use Rattle.std.specs.Global.{Vec}
use Rattle.std.proofs.lemmas.List.{drop_more, drop_all}
use Rattle.search_goals.specs.Goals.{fits, begins, listed}
use Rattle.search_goals.specs.LineShapes.{may_be, begins_as}

module _ (asked : List (Vec ℕ)) (i : ℕ) (word : Vec ℕ) (found : List ℕ) (others words : List (List ℕ)) (whole : Bool)
    (within : i < length asked) (at : word ≡ get_or asked i word) (parts : words ≡ found ∷ others) where
  left : drop i asked ≡ word ∷ drop (i + 1) asked
  left = drop_more asked i word within ∙ ap (λ (w : Vec ℕ). w ∷ drop (i + 1) asked) (sym at)

  -- a word that fits leaves it to the words behind it
  pub begins_on : fits word.items found ≡ true → begins (listed (drop i asked)) words ≡ whole
      → begins (listed (drop (i + 1) asked)) others ≡ whole
  begins_on fit told =
      ap (λ (b : Bool). b && begins (listed (drop (i + 1) asked)) others) (sym fit)
      ∙ ap (begins (listed (word ∷ drop (i + 1) asked))) (sym parts)
      ∙ ap (λ (ws : List (Vec ℕ)). begins (listed ws) words) (sym left) ∙ told

  -- likewise one that may be of the kind
  pub begins_as_on : may_be word.items found ≡ true → begins_as (listed (drop i asked)) words ≡ whole
      → begins_as (listed (drop (i + 1) asked)) others ≡ whole
  begins_as_on fit told =
      ap (λ (b : Bool). b && begins_as (listed (drop (i + 1) asked)) others) (sym fit)
      ∙ ap (begins_as (listed (word ∷ drop (i + 1) asked))) (sym parts)
      ∙ ap (λ (ws : List (Vec ℕ)). begins_as (listed ws) words) (sym left) ∙ told

  -- a word that does not fit ends it
  pub begins_not : fits word.items found ≡ false → begins (listed (drop i asked)) words ≡ whole → false ≡ whole
  begins_not unfit told =
      ap (λ (b : Bool). b && begins (listed (drop (i + 1) asked)) others) (sym unfit)
      ∙ ap (begins (listed (word ∷ drop (i + 1) asked))) (sym parts)
      ∙ ap (λ (ws : List (Vec ℕ)). begins (listed ws) words) (sym left) ∙ told

  pub begins_as_not : may_be word.items found ≡ false → begins_as (listed (drop i asked)) words ≡ whole → false ≡ whole
  begins_as_not unfit told =
      ap (λ (b : Bool). b && begins_as (listed (drop (i + 1) asked)) others) (sym unfit)
      ∙ ap (begins_as (listed (word ∷ drop (i + 1) asked))) (sym parts)
      ∙ ap (λ (ws : List (Vec ℕ)). begins_as (listed ws) words) (sym left) ∙ told

-- so does the end of the text
module _ (asked : List (Vec ℕ)) (i : ℕ) (word : Vec ℕ) (words : List (List ℕ)) (whole : Bool) (within : i < length asked)
    (none : words ≡ []) where
  pub begins_short : begins (listed (drop i asked)) words ≡ whole → false ≡ whole
  begins_short told =
      ap (begins (listed (get_or asked i word ∷ drop (i + 1) asked))) (sym none)
      ∙ ap (λ (ws : List (Vec ℕ)). begins (listed ws) words) (sym (drop_more asked i word within)) ∙ told

  pub begins_as_short : begins_as (listed (drop i asked)) words ≡ whole → false ≡ whole
  begins_as_short told =
      ap (begins_as (listed (get_or asked i word ∷ drop (i + 1) asked))) (sym none)
      ∙ ap (λ (ws : List (Vec ℕ)). begins_as (listed ws) words) (sym (drop_more asked i word within)) ∙ told

-- all were there
module _ (asked : List (Vec ℕ)) (i : ℕ) (words : List (List ℕ)) (whole : Bool) (over : length asked ≤ i) where
  pub begins_all : begins (listed (drop i asked)) words ≡ whole → true ≡ whole
  begins_all told = ap (λ (ws : List (Vec ℕ)). begins (listed ws) words) (sym (drop_all i asked over)) ∙ told

  pub begins_as_all : begins_as (listed (drop i asked)) words ≡ whole → true ≡ whole
  begins_as_all told = ap (λ (ws : List (Vec ℕ)). begins_as (listed ws) words) (sym (drop_all i asked over)) ∙ told

-- ---- some element has it
module _ {A : Type 0} (f : A → Bool) (xs : List A) (i : ℕ) (x : A) (within : i < length xs) (at : x ≡ get_or xs i x) where
  from_here : drop i xs ≡ x ∷ drop (i + 1) xs
  from_here = drop_more xs i x within ∙ ap (λ (y : A). y ∷ drop (i + 1) xs) (sym at)

  pub any_on : f x ≡ false → list_any f (drop i xs) ≡ list_any f xs → list_any f (drop (i + 1) xs) ≡ list_any f xs
  any_on fails told =
      ap (λ (b : Bool). b || list_any f (drop (i + 1) xs)) (sym fails) ∙ ap (list_any f) (sym from_here) ∙ told

  pub any_here : f x ≡ true → list_any f (drop i xs) ≡ list_any f xs → true ≡ list_any f xs
  any_here has told =
      ap (λ (b : Bool). b || list_any f (drop (i + 1) xs)) (sym has) ∙ ap (list_any f) (sym from_here) ∙ told

pub any_over : {A : Type 0} (f : A → Bool) (xs : List A) (i : ℕ) → length xs ≤ i
    → list_any f (drop i xs) ≡ list_any f xs → false ≡ list_any f xs
any_over f xs i over told = ap (list_any f) (sym (drop_all i xs over)) ∙ told
