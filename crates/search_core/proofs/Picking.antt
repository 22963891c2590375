-- Which of the places that were seen are picked, one after the other.
use Rattle.std.proofs.Common.{ℕ, ◌≡◌, ◌<◌, ◌≤◌, ◌+◌, ◌⊎◌, List, [], ◌∷◌, ◌++◌, length, Option, None, Some, slice_get, sym, ◌∙◌, ap, subst, inl, inr, arith}
use Rattle.std.specs.Prelude.{IsSome, is_some}
use Rattle.std.proofs.lemmas.Bool.{cases_order, false≢true}
use Rattle.std.proofs.lemmas.Option.{none-some, same_Some, slice_get_within}
use Rattle.search_core.specs.Moves.{IsBefore, AreRising}
use Rattle.search_core.specs.Survey.{IsListed}
use Rattle.search_core.specs.Picked.{IsPicked, ArePicked}
use Rattle.search_core.proofs.Pushed.{kept_at, last_at, pushed_at}

module _ (label : List ℕ → Option (List ℕ)) (trails : List (List ℕ)) where
  pub none_picked : ArePicked label trails 0 []
  none_picked =
      record {
        each = λ (k : ℕ) (p : List ℕ) (e : slice_get [] k ≡ Some p). absurd (none-some p e);
        rising = λ (j k : ℕ) (a b : List ℕ) (e : slice_get [] j ≡ Some a) (f : slice_get [] k ≡ Some b) (l : j < k).
            absurd (none-some a e);
        all = λ (j : ℕ) (p : List ℕ) (e : slice_get trails j ≡ Some p) (l : j < 0) (h : IsSome (label p)).
            absurd (omega arith);
      }

  one_on : (n : ℕ) (p : List ℕ) → IsPicked label trails n p → IsPicked label trails (n + 1) p
  one_on n p h =
      record {
        at = h.at;
        below = (let l : h.at < n = h.below in omega arith);
        there = h.there;
        has_label = h.has_label;
        new = h.new;
      }

  -- ---- a place that adds nothing: it has no label, or one that is listed
  skip_by : (n : ℕ) (listed : List (List ℕ)) → ArePicked label trails n listed
      → ((p : List ℕ) → slice_get trails n ≡ Some p → IsSome (label p) → IsListed label listed (label p))
      → (j : ℕ) (p : List ℕ) → slice_get trails j ≡ Some p → j < n + 1 → IsSome (label p)
      → (j ≡ n) ⊎ ((j < n) ⊎ (n < j)) → IsListed label listed (label p)
  skip_by n listed u s j p e l c (inl h) = s p (subst (λ (z : ℕ). slice_get trails z ≡ Some p) h e) c
  skip_by n listed u s j p e l c (inr (inl h)) = u.all j p e h c
  skip_by n listed u s j p e l c (inr (inr h)) = absurd (omega arith)

  skip : (n : ℕ) (listed : List (List ℕ)) → ArePicked label trails n listed
      → ((p : List ℕ) → slice_get trails n ≡ Some p → IsSome (label p) → IsListed label listed (label p))
      → ArePicked label trails (n + 1) listed
  skip n listed u s =
      record {
        each = λ (k : ℕ) (p : List ℕ) (e : slice_get listed k ≡ Some p). one_on n p (u.each k p e);
        rising = u.rising;
        all = λ (j : ℕ) (p : List ℕ) (e : slice_get trails j ≡ Some p) (l : j < n + 1) (h : IsSome (label p)).
            skip_by n listed u s j p e l h (cases_order j n);
      }

  pub unlabelled : (n : ℕ) (listed : List (List ℕ)) (p : List ℕ) → ArePicked label trails n listed
      → slice_get trails n ≡ Some p → label p ≡ None → ArePicked label trails (n + 1) listed
  unlabelled n listed p u e f =
      skip n listed u (λ (q : List ℕ) (d : slice_get trails n ≡ Some q) (h : IsSome (label q)).
      (let s : label p ≡ label q = ap label (same_Some p q (sym e ∙ d)) in
      absurd (false≢true (ap is_some (sym f ∙ s) ∙ h))))

  pub known : (n : ℕ) (listed : List (List ℕ)) (p : List ℕ) → ArePicked label trails n listed
      → slice_get trails n ≡ Some p → IsListed label listed (label p) → ArePicked label trails (n + 1) listed
  known n listed p u e s =
      skip n listed u (λ (q : List ℕ) (d : slice_get trails n ≡ Some q) (h : IsSome (label q)).
      subst (λ (z : List ℕ). IsListed label listed (label z)) (same_Some p q (sym e ∙ d)) s)

  -- ---- a place that is listed
  added_each : (n : ℕ) (listed : List (List ℕ)) (p : List ℕ) → ArePicked label trails n listed
      → IsPicked label trails (n + 1) p → (k : ℕ) (q : List ℕ)
      → (slice_get listed k ≡ Some q) ⊎ ((k ≡ length listed) × (p ≡ q)) → IsPicked label trails (n + 1) q
  added_each n listed p u i k q (inl f) = one_on n q (u.each k q f)
  added_each n listed p u i k q (inr f) = subst (λ (z : List ℕ). IsPicked label trails (n + 1) z) f.1 i

  added_rising : (n : ℕ) (listed : List (List ℕ)) (p : List ℕ) → ArePicked label trails n listed
      → AreRising trails → slice_get trails n ≡ Some p → (j k : ℕ) (a b : List ℕ)
      → (slice_get listed j ≡ Some a) ⊎ ((j ≡ length listed) × (p ≡ a))
      → (slice_get listed k ≡ Some b) ⊎ ((k ≡ length listed) × (p ≡ b)) → j < k → IsBefore a b
  added_rising n listed p u r e j k a b (inl f) (inl g) l = u.rising j k a b f g l
  added_rising n listed p u r e j k a b (inl f) (inr g) l =
      let i : IsPicked label trails n a = u.each j a f in
      subst (λ (z : List ℕ). IsBefore a z) g.1 (r i.at n a p i.there e i.below)
  added_rising n listed p u r e j k a b (inr f) (inl g) l =
      let h : k < length listed = slice_get_within listed k b g in
      let s : j ≡ length listed = f.0 in
      absurd (omega arith)
  added_rising n listed p u r e j k a b (inr f) (inr g) l =
      let s : j ≡ length listed = f.0 in
      let t : k ≡ length listed = g.0 in
      absurd (omega arith)

  kept_listed : (listed : List (List ℕ)) (p : List ℕ) (words : Option (List ℕ)) → IsListed label listed words
      → IsListed label (listed ++ p ∷ []) words
  kept_listed listed p words s = (s.0, s.1, kept_at listed p s.0 s.1 s.2, s.3)

  added_all : (n : ℕ) (listed : List (List ℕ)) (p : List ℕ) → ArePicked label trails n listed
      → slice_get trails n ≡ Some p → (j : ℕ) (q : List ℕ) → slice_get trails j ≡ Some q → j < n + 1
      → IsSome (label q) → (j ≡ n) ⊎ ((j < n) ⊎ (n < j)) → IsListed label (listed ++ p ∷ []) (label q)
  added_all n listed p u e j q f l c (inl h) =
      let d : slice_get trails n ≡ Some q = subst (λ (z : ℕ). slice_get trails z ≡ Some q) h f in
      (length listed, p, last_at listed p, ap label (same_Some p q (sym e ∙ d)))
  added_all n listed p u e j q f l c (inr (inl h)) = kept_listed listed p (label q) (u.all j q f h c)
  added_all n listed p u e j q f l c (inr (inr h)) = absurd (omega arith)

  new_label : (n : ℕ) (listed : List (List ℕ)) (p : List ℕ) → ArePicked label trails n listed → IsSome (label p)
      → ((k : ℕ) (a : List ℕ) → slice_get listed k ≡ Some a → label a ≡ label p → ⊥)
      → (j : ℕ) (a : List ℕ) → slice_get trails j ≡ Some a → j < n → label a ≡ label p → ⊥
  new_label n listed p u c fresh j a f l h =
      let b : IsSome (label a) = subst (λ (z : Option (List ℕ)). IsSome z) (sym h) c in
      let s : IsListed label listed (label a) = u.all j a f l b in
      fresh s.0 s.1 s.2 (s.3 ∙ h)

  pub added : AreRising trails → (n : ℕ) (listed : List (List ℕ)) (p : List ℕ) → ArePicked label trails n listed
      → slice_get trails n ≡ Some p → IsSome (label p)
      → ((k : ℕ) (a : List ℕ) → slice_get listed k ≡ Some a → label a ≡ label p → ⊥)
      → ArePicked label trails (n + 1) (listed ++ p ∷ [])
  added r n listed p u e c fresh =
      let i : IsPicked label trails (n + 1) p =
      record { at = n; below = omega arith; there = e; has_label = c; new = new_label n listed p u c fresh } in
      record {
        each = λ (k : ℕ) (q : List ℕ) (f : slice_get (listed ++ p ∷ []) k ≡ Some q).
            added_each n listed p u i k q (pushed_at listed p k q f);
        rising = λ (j k : ℕ) (a b : List ℕ) (f : slice_get (listed ++ p ∷ []) j ≡ Some a)
            (g : slice_get (listed ++ p ∷ []) k ≡ Some b) (l : j < k).
            added_rising n listed p u r e j k a b (pushed_at listed p j a f) (pushed_at listed p k b g) l;
        all = λ (j : ℕ) (q : List ℕ) (f : slice_get trails j ≡ Some q) (l : j < n + 1) (h : IsSome (label q)).
            added_all n listed p u e j q f l h (cases_order j n);
      }

  -- ---- behind the last place
  pub all_picked : (n : ℕ) (listed : List (List ℕ)) → ArePicked label trails n listed → length trails ≤ n
      → ArePicked label trails (length trails) listed
  all_picked n listed u l =
      record {
        each = λ (k : ℕ) (p : List ℕ) (e : slice_get listed k ≡ Some p).
            (let h : IsPicked label trails n p = u.each k p e in
            record {
              at = h.at;
              below = slice_get_within trails h.at p h.there;
              there = h.there;
              has_label = h.has_label;
              new = h.new;
            });
        rising = u.rising;
        all = λ (j : ℕ) (p : List ℕ) (e : slice_get trails j ≡ Some p) (b : j < length trails) (h : IsSome (label p)).
            u.all j p e (omega arith) h;
      }
