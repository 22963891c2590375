-- How a search goes on where the place to which a move leads is noted.
use Rattle.std.proofs.Common.{ℕ, ◌≡◌, ◌+◌, ◌<◌, List, [], ◌∷◌, ◌++◌, length, sym, ◌∙◌, ap, subst, inl, inr, slice_index_or}
use Rattle.std.proofs.lemmas.Option.{get_or_from_slice_get}
use Rattle.search_core.specs.Node.{IsSeen}
use Rattle.search_core.specs.Kept.{HasCome, IsAt, IsKnown, IsAdded, IsNoted}
use Rattle.search_core.specs.declared.codes.Codes.{Codes}
use Rattle.search_core.specs.declared.nodes.Node.{Node}
use Rattle.search_core.proofs.Going.{seen_place, added_place, still_there}
use Rattle.search_core.proofs.Keeping.{kept_seen, more_kept}

module _ (moves most : ℕ) (meets : List ℕ → Type 0) (code : List ℕ → List ℕ) (old new : List (List ℕ)) (kept now : Codes)
    (node : Node) (p words : List ℕ) (unmet : meets (node.last ∷ p) → ⊥) (is : words ≡ code (node.last ∷ p))
    (here : IsAt moves most meets code old kept node.before node.last p) where
  -- one that was seen has the code
  on_by_known : IsKnown old new kept now words → IsAt moves most meets code new now node.before (node.last + 1) p
  on_by_known known =
      let seen : IsSeen code old (code (node.last ∷ p)) =
      kept_seen code old kept known.bytes (code (node.last ∷ p)) here.come.kept (known.number, known.there)
      (known.spelt ∙ is) in
      let come : HasCome moves most meets code old kept node.before (node.last + 1) =
      record {
        under_way = seen_place moves most meets code old node.before node.last here.come.under_way p here.there unmet seen;
        kept = here.come.kept;
      } in
      subst (λ (z : List (List ℕ)). IsAt moves most meets code z now node.before (node.last + 1) p) (sym known.places)
      (subst (λ (z : Codes). IsAt moves most meets code old z node.before (node.last + 1) p) (sym known.codes)
      (record { come = come; there = here.there }))

  -- there is one more
  on_by_added : node.last < moves → length p < most → IsAdded old new kept now node words
      → IsAt moves most meets code new now node.before (node.last + 1) p
  on_by_added is_move short added =
      let next : List ℕ = node.last ∷ p in
      let all : new ≡ old ++ next ∷ [] =
      added.places
      ∙ ap (λ (z : List ℕ). old ++ (node.last ∷ z) ∷ []) (get_or_from_slice_get old node.before p [] here.there) in
      record {
        come = record {
          under_way = added_place moves most meets code old new node.before node.last p added.places here.there short is_move
              unmet here.come.under_way;
          kept = more_kept code old kept now added.bytes next here.come.kept added.behind added.bounds (added.spelt ∙ is)
              new all;
        };
        there = still_there old new (node.last ∷ slice_index_or old node.before []) p node.before added.places here.there;
      }

  -- either way the search is at the next move
  pub goes_on : node.last < moves → length p < most → IsNoted old new kept now node words
      → IsAt moves most meets code new now node.before (node.last + 1) p
  goes_on is_move short (inl known) = on_by_known known
  goes_on is_move short (inr added) = on_by_added is_move short added
