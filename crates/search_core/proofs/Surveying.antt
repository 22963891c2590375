-- What is picked among the places that were seen is the whole survey.
use Rattle.std.proofs.Common.{ℕ, ◌≡◌, ◌<◌, ◌≤◌, ◌⊎◌, ◌^◌, List, length, Option, Some, slice_get, sym, ◌∙◌, subst, inl, inr, arith}
use Rattle.std.specs.Prelude.{IsSome}
use Rattle.std.proofs.lemmas.Bool.{cases_order}
use Rattle.std.proofs.lemmas.Option.{same_Some, slice_get_within}
use Rattle.search_core.specs.Moves.{AreMoves, IsBefore, AreRising}
use Rattle.search_core.specs.Node.{ArePlaces, IsCovered}
use Rattle.search_core.specs.Ended.{HasCovered}
use Rattle.search_core.specs.Survey.{IsFirstOf, IsListed, Lists}
use Rattle.search_core.specs.Picked.{IsPicked, ArePicked}
use Rattle.search_core.proofs.Order.{before_trans, not_itself, not_after_before, no_shorter, no_longer}

-- what is before a list of so many moves is of so many
pub counts_before : (most : ℕ) (p q : List ℕ) → IsBefore q p → length p ≤ most → length q ≤ most
counts_before most p q b l =
    let s : length q ≤ length p = no_longer q p b in
    omega arith

-- a place whose moves are before another's was seen before it
pub at_by : (trails : List (List ℕ)) → AreRising trails → (j k : ℕ) (a p : List ℕ) → slice_get trails j ≡ Some a
    → slice_get trails k ≡ Some p → IsBefore a p → (j ≡ k) ⊎ ((j < k) ⊎ (k < j)) → j < k
at_by trails r j k a p e f b (inl s) =
    let g : slice_get trails k ≡ Some a = subst (λ (z : ℕ). slice_get trails z ≡ Some a) s e in
    let t : a ≡ p = same_Some a p (sym g ∙ f) in
    absurd (not_itself p (subst (λ (z : List ℕ). IsBefore z p) t b))
at_by trails r j k a p e f b (inr (inl l)) = l
at_by trails r j k a p e f b (inr (inr l)) = absurd (not_itself a (before_trans a p a b (r k j p a f e l)))

module _ (moves most : ℕ) (code : List ℕ → List ℕ) (trails : List (List ℕ)) (counts : List ℕ → Type 0)
    (covered : HasCovered moves most (λ p. ⊥) code trails counts) where
  pub few_places : most < 2 ^ 20 → ArePlaces moves trails
  few_places f =
      record {
        each = λ (k : ℕ) (p : List ℕ) (e : slice_get trails k ≡ Some p).
            (let s : length p ≤ most = covered.short k p e in
            (covered.each k p e, omega arith));
        rising = covered.rising;
      }

  module _ (label : List ℕ → Option (List ℕ))
      (alike : (p q : List ℕ) → AreMoves moves p → AreMoves moves q → code p ≡ code q → label p ≡ label q)
      (before : (p q : List ℕ) → IsBefore q p → counts p → counts q)
      (trails_count : (k : ℕ) (p : List ℕ) → slice_get trails k ≡ Some p → counts p) where
    same_label : (q : List ℕ) → AreMoves moves q → (c : IsCovered (λ p. ⊥) code trails q) → label c.trail ≡ label q
    same_label q h c = alike c.trail q (covered.each c.at c.trail c.there) h c.same

    none_before : (n : ℕ) (p : List ℕ) → IsPicked label trails n p → (q : List ℕ) → AreMoves moves q
        → label q ≡ label p → IsBefore q p → ⊥
    none_before n p i q h e b =
        let c : IsCovered (λ p. ⊥) code trails q =
        covered.covered q h (before p q b (trails_count i.at p i.there)) in
        let d : IsBefore c.trail p = not_after_before c.trail q p c.no_later b in
        let l : c.at < i.at =
        at_by trails covered.rising c.at i.at c.trail p c.there i.there d (cases_order c.at i.at) in
        i.new c.at c.trail c.there l (same_label q h c ∙ e)

    first_of : (n : ℕ) (p : List ℕ) → IsPicked label trails n p → IsFirstOf moves label most p
    first_of n p i =
        record {
          are_moves = covered.each i.at p i.there;
          within = covered.short i.at p i.there;
          has_label = i.has_label;
          shortest = λ (q : List ℕ) (h : AreMoves moves q) (e : label q ≡ label p).
              no_shorter p q (none_before n p i q h e);
          first = none_before n p i;
        }

    pub surveyed : (listed : List (List ℕ)) → ArePicked label trails (length trails) listed
        → Lists moves label most counts listed
    surveyed listed u =
        record {
          each = λ (k : ℕ) (p : List ℕ) (e : slice_get listed k ≡ Some p).
              first_of (length trails) p (u.each k p e);
          apart = λ (j k : ℕ) (p q : List ℕ) (e : slice_get listed j ≡ Some p) (f : slice_get listed k ≡ Some q)
              (l : j < k) (s : label p ≡ label q).
              (let i : IsPicked label trails (length trails) p = u.each j p e in
              none_before (length trails) q (u.each k q f) p (covered.each i.at p i.there) s (u.rising j k p q e f l));
          rising = u.rising;
          all = λ (q : List ℕ) (h : AreMoves moves q) (t : counts q) (o : IsSome (label q)).
              (let c : IsCovered (λ p. ⊥) code trails q = covered.covered q h t in
              let w : c.at < length trails = slice_get_within trails c.at c.trail c.there in
              let e : label c.trail ≡ label q = same_label q h c in
              let v : IsSome (label c.trail) = subst (λ (z : Option (List ℕ)). IsSome z) (sym e) o in
              let s : IsListed label listed (label c.trail) = u.all c.at c.trail c.there w v in
              subst (λ (z : Option (List ℕ)). IsListed label listed z) e s);
        }
