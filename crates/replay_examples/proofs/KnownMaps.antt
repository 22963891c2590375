-- Finite maps of known entries, by which a short run computes.
use Rattle.std.proofs.Common.{◌≡◌, ℕ, Bool, true, false, not, cond, List, [], ◌∷◌, None, Some, length, refl, sym, ap, ◌∙◌, arith}
use Rattle.std.specs.Ordering.{nat_cmp, eq_by_cmp}
use Rattle.std.specs.Cmp.{nat_cmp_total}
use Rattle.std.specs.declared.cmp.Ordering.TheVariants.{Equal}
use Rattle.std.specs.FinMap.{FinMap, empty, get, insert, remove, len, entries, from_entries, entries-insert, get-from_entries, get-insert, get-remove, len-entries, same_map, nat_cmp-IsAntisymmetric, find, put, get-empty, from_sorted, get-from_sorted, entries-from_sorted}
use Rattle.std.specs.FinMap.Entries.{where_key, find-where_key, find-put}
use Rattle.std.proofs.lemmas.Bool.Decides.{nat_tests}

same_key : (k q x : ℕ) → nat_cmp q x ≡ Equal → not (eq_by_cmp nat_cmp k x) ≡ not (eq_by_cmp nat_cmp k q)
same_key k q x e = ap (λ y. not (eq_by_cmp nat_cmp k y)) (sym (nat_cmp-IsAntisymmetric q x e))

ties_back : (k q : ℕ) → eq_by_cmp nat_cmp k q ≡ eq_by_cmp nat_cmp q k
ties_back k q = grind (arith, nat_tests)

turned : {A : Type 0} (b : Bool) (x y : A) → cond (not b) x y ≡ cond b y x
turned true x y = refl
turned false x y = refl

module _ {X : Type 0} where
  -- the map of these entries, which stands still
  pub known : List (ℕ × X) → FinMap nat_cmp X
  known es = from_entries es

  -- the entries in the order of their keys
  abbrev pub in_order : List (ℕ × X) → List (ℕ × X)
  in_order [] = []
  in_order (e ∷ es) = put nat_cmp e.0 e.1 (in_order es)

  abbrev pub without : ℕ → List (ℕ × X) → List (ℕ × X)
  without k es = where_key nat_cmp (λ x. not (eq_by_cmp nat_cmp k x)) es

  none_at_first : entries (empty {X = X} {R = nat_cmp}) ≡ []
  none_at_first =
      ap entries (same_map nat_cmp_total nat_cmp-IsAntisymmetric empty (from_sorted []) (λ q. get-empty nat_cmp q ∙ sym (get-from_sorted nat_cmp [] q tt)))
      ∙ entries-from_sorted nat_cmp [] tt

  pub empty_known : empty {X = X} {R = nat_cmp} ≡ known []
  unfolding known
  empty_known = refl

  pub get_known : (es : List (ℕ × X)) (q : ℕ) → get (known es) q ≡ find nat_cmp q es
  unfolding known
  get_known es q = get-from_entries nat_cmp_total es q

  pub entries_known : (es : List (ℕ × X)) → entries (known es) ≡ in_order es
  unfolding known
  entries_known [] = none_at_first
  entries_known (e ∷ es) = entries-insert nat_cmp_total (from_entries es) e.0 e.1 ∙ ap (put nat_cmp e.0 e.1) (entries_known es)

  pub len_known : (es : List (ℕ × X)) → len (known es) ≡ length (in_order es)
  len_known es = len-entries (known es) ∙ ap length (entries_known es)

  pub insert_known : (es : List (ℕ × X)) (k : ℕ) (v : X) → insert (known es) k v ≡ known (put nat_cmp k v es)
  insert_known es k v =
      same_map nat_cmp_total nat_cmp-IsAntisymmetric _ _ (λ q.
      get-insert nat_cmp_total (known es) k v q ∙ ap (cond (eq_by_cmp nat_cmp q k) (Some v)) (get_known es q)
      ∙ sym (get_known (put nat_cmp k v es) q ∙ find-put nat_cmp nat_cmp_total q k v es))

  pub remove_known : (es : List (ℕ × X)) (k : ℕ) → remove (known es) k ≡ known (without k es)
  remove_known es k =
      same_map nat_cmp_total nat_cmp-IsAntisymmetric _ _ (λ q.
      get-remove nat_cmp_total (known es) k q ∙ ap (cond (eq_by_cmp nat_cmp q k) None) (get_known es q)
      ∙ sym (get_known (without k es) q
      ∙ find-where_key nat_cmp (λ x. not (eq_by_cmp nat_cmp k x)) q (same_key k q) es
      ∙ turned (eq_by_cmp nat_cmp k q) _ _ ∙ ap (λ b. cond b None (find nat_cmp q es)) (ties_back k q)))

-- by these a run of known length computes
pub ruleset maps = (empty_known, get_known, entries_known, len_known, insert_known, remove_known)
