-- Each number leads to the one call that was put under it, after each change of the calls.
use Rattle.std.proofs.Common.{◌≡◌, ℕ, ◌<◌, Option, Some, None, refl, sym, ap, ◌∙◌, arith, ⊎_elim}
use Rattle.std.specs.Prelude.{option_map}
use Rattle.std.specs.Option.{option_map_or}
use Rattle.std.specs.Ordering.{nat_cmp}
use Rattle.std.specs.Cmp.{nat_cmp_total}
use Rattle.std.specs.FinMap.{FinMap, get, insert, remove, empty, get-insert, get-remove, get-empty}
use Rattle.std.proofs.lemmas.Bool.{cases_eq}
use Rattle.std.proofs.lemmas.Option.{same_Some}
use Rattle.call_slab.specs.declared.slots.Slot.{Slot}
use Rattle.call_slab.specs.Slots.{at_key}
use Rattle.call_slab.specs.Calls.{name_at, Keyed, IsKeyed}
use Rattle.call_slab.proofs.Live.{tie, apart_tie}

-- over the names by key and the keys by number alone, before and after
module _ (S T K L : ℕ → Option ℕ) (last n k : ℕ) (q : Keyed S K last) (names_there : (j : ℕ) → (j ≡ k → ⊥) → T j ≡ S j) (keys_there : (m : ℕ) → (m ≡ n → ⊥) → L m ≡ K m) where
  put_keyed : S k ≡ None → last < n → T k ≡ Some n → L n ≡ Some k → Keyed T L n
  put_keyed free above name_here key_here =
      record {
        leads = λ m j e.
            ⊎_elim
            (λ (t : m ≡ n). ap T (sym (same_Some k j (sym key_here ∙ ap L (sym t) ∙ e))) ∙ name_here ∙ ap Some (sym t))
            (λ (t : m ≡ n → ⊥).
            let had = q.leads m j (sym (keys_there m t) ∙ e) in
            names_there j (λ (s : j ≡ k). absurd (cc (ap S s, had, free))) ∙ had)
            (cases_eq m n);
        known = λ m j e.
            ⊎_elim
            (λ (t : j ≡ k). ap L (sym (same_Some n m (sym name_here ∙ ap T (sym t) ∙ e))) ∙ key_here ∙ ap Some (sym t))
            (λ (t : j ≡ k → ⊥).
            let had = sym (names_there j t) ∙ e in
            keys_there m (λ (s : m ≡ n). let below = q.low m j had in absurd (omega arith)) ∙ q.known m j had)
            (cases_eq j k);
        low = λ m j e.
            ⊎_elim
            (λ (t : j ≡ k). let here = same_Some n m (sym name_here ∙ ap T (sym t) ∙ e) in omega arith)
            (λ (t : j ≡ k → ⊥). let below = q.low m j (sym (names_there j t) ∙ e) in omega arith)
            (cases_eq j k);
      }

  out_keyed : S k ≡ Some n → T k ≡ None → L n ≡ None → Keyed T L last
  out_keyed was name_gone key_gone =
      record {
        leads = λ m j e.
            ⊎_elim
            (λ (t : m ≡ n). absurd (cc (ap L t, e, key_gone)))
            (λ (t : m ≡ n → ⊥).
            let had = q.leads m j (sym (keys_there m t) ∙ e) in
            names_there j (λ (s : j ≡ k). t (same_Some m n (sym had ∙ ap S s ∙ was))) ∙ had)
            (cases_eq m n);
        known = λ m j e.
            ⊎_elim
            (λ (t : j ≡ k). absurd (cc (ap T t, e, name_gone)))
            (λ (t : j ≡ k → ⊥).
            let had = sym (names_there j t) ∙ e in
            keys_there m (λ (s : m ≡ n). t (same_Some j k (sym (q.known m j had) ∙ ap K s ∙ q.known n k was))) ∙ q.known m j had)
            (cases_eq j k);
        low = λ m j e.
            ⊎_elim
            (λ (t : j ≡ k). absurd (cc (ap T t, e, name_gone)))
            (λ (t : j ≡ k → ⊥). q.low m j (sym (names_there j t) ∙ e))
            (cases_eq j k);
      }

abbrev named : Option Slot → Option ℕ
named o = option_map (λ s. s.name) o

module _ {X : Type 0} (m : FinMap nat_cmp X) (k : ℕ) where
  inserted_here : (x : X) → get (insert m k x) k ≡ Some x
  inserted_here x = get-insert nat_cmp_total m k x k ∙ rw (tie k) refl

  inserted_there : (x : X) (q : ℕ) → (q ≡ k → ⊥) → get (insert m k x) q ≡ get m q
  inserted_there x q t = get-insert nat_cmp_total m k x q ∙ rw (apart_tie q k t) refl

  removed_here : get (remove m k) k ≡ None
  removed_here = get-remove nat_cmp_total m k k ∙ rw (tie k) refl

  removed_there : (q : ℕ) → (q ≡ k → ⊥) → get (remove m k) q ≡ get m q
  removed_there q t = get-remove nat_cmp_total m k q ∙ rw (apart_tie q k t) refl

module _ (slots : FinMap nat_cmp Slot) (keys : FinMap nat_cmp ℕ) (last k : ℕ) (v : Slot) (q : IsKeyed slots keys last) where
  -- a call is put under a number above all before
  pub put_keeps : get slots k ≡ None → last < v.name → IsKeyed (insert slots k v) (insert keys v.name k) v.name
  put_keeps free above =
      put_keyed _ _ _ _ last v.name k q (λ j t. ap named (inserted_there slots k v j t)) (λ m t. inserted_there keys v.name k m t)
      (ap named free) above (ap named (inserted_here slots k v)) (inserted_here keys v.name k)

  -- a call is taken out
  pub out_keeps : get slots k ≡ Some v → IsKeyed (remove slots k) (remove keys v.name) last
  out_keeps was =
      out_keyed _ _ _ _ last v.name k q (λ j t. ap named (removed_there slots k j t)) (λ m t. removed_there keys v.name m t)
      (ap named was) (ap named (removed_here slots k)) (removed_here keys v.name)

-- a slot is written, and its number stays
module _ (slots : FinMap nat_cmp Slot) (keys : FinMap nat_cmp ℕ) (last k : ℕ) (q : IsKeyed slots keys last) where
  pub set_keeps : (f : Slot → Slot) → ((s : Slot) → (f s).name ≡ s.name) → IsKeyed (at_key f slots k) keys last
  set_keeps f same = record {
    leads = λ n j e. names j ∙ q.leads n j e;
    known = λ n j e. q.known n j (sym (names j) ∙ e);
    low = λ n j e. q.low n j (sym (names j) ∙ e);
  } where
    by_slot : (o : Option Slot) (j : ℕ) → get slots k ≡ o → name_at (option_map_or (λ s. insert slots k (f s)) o slots) j ≡ name_at slots j
    by_slot None j found = refl
    by_slot (Some x) j found =
        ⊎_elim
        (λ (t : j ≡ k). ap named (ap (get (insert slots k (f x))) t ∙ inserted_here slots k (f x)) ∙ ap Some (same x) ∙ sym (ap named (ap (get slots) t ∙ found)))
        (λ (t : j ≡ k → ⊥). ap named (inserted_there slots k (f x) j t))
        (cases_eq j k)

    names : (j : ℕ) → name_at (at_key f slots k) j ≡ name_at slots j
    names j = by_slot (get slots k) j refl

-- no calls
pub new_keeps : (slots : FinMap nat_cmp Slot) (keys : FinMap nat_cmp ℕ) → slots ≡ empty → keys ≡ empty → IsKeyed slots keys 0
new_keeps slots keys none no_keys =
    let no_name = λ (j : ℕ). ap (λ (x : FinMap nat_cmp Slot). name_at x j) none ∙ ap named (get-empty nat_cmp j) in
    let no_key = λ (n : ℕ). ap (λ (x : FinMap nat_cmp ℕ). get x n) no_keys ∙ get-empty nat_cmp n in
    record {
      leads = λ n k e. absurd (cc (no_key n, e));
      known = λ n k e. absurd (cc (no_name k, e));
      low = λ n k e. absurd (cc (no_name k, e));
    }
