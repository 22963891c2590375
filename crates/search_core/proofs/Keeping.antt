-- The codes that are kept, with one more, and what they tell.
use Rattle.std.proofs.Common.{ℕ, zero, suc, ◌≡◌, ◌+◌, ◌<◌, ◌≤◌, ◌⊎◌, List, [], ◌∷◌, ◌++◌, length, refl, sym, ◌∙◌, ap, subst, inl, inr, arith, Some, slice_get, slice_index_or, length-append, drop, Result, Ok, Err}
use Rattle.std.specs.Prelude.{IfOk}
use Rattle.std.specs.List.{between}
use Rattle.std.proofs.lemmas.Option.{same_Some, none-some, slice_get-get_or, slice_get_within}
use Rattle.std.proofs.lemmas.List.{take-append-le, drop_at}
use Rattle.std.proofs.lemmas.Slice.{between_is, between_to_end}
use Rattle.search_core.specs.Node.{IsSeen}
use Rattle.search_core.specs.Packed.{unpacked}
use Rattle.search_core.specs.Kept.{IsKept, AreKept}
use Rattle.search_core.specs.declared.codes.Codes.{Codes}
use Rattle.search_core.specs.declared.nodes.Nodes.{Nodes}
use Rattle.search_core.proofs.Pushed.{last_at, pushed_at}

-- a part of what was there is a part of it with more behind
part_kept : (bytes more : List ℕ) (from to : ℕ) → to ≤ length bytes → between from to (bytes ++ more) ≡ between from to bytes
part_kept bytes more from to l =
    between_is (bytes ++ more) from to
    ∙ ap (λ (z : List ℕ). drop from z) (take-append-le to bytes more l)
    ∙ sym (between_is bytes from to)

part_last : (bytes more : List ℕ) → between (length bytes) (length (bytes ++ more)) (bytes ++ more) ≡ more
part_last bytes more = between_to_end (bytes ++ more) (length bytes) (length (bytes ++ more)) (omega arith) ∙ drop_at bytes more (length bytes) refl

-- ---- the first place
only_each : (code : List ℕ → List ℕ) (codes : Codes) (packed : List ℕ) → codes.bytes.items ≡ packed
    → codes.bounds.items ≡ 0 ∷ length packed ∷ [] → unpacked packed ≡ code []
    → (k : ℕ) (p bytes : List ℕ) → slice_get ([] ∷ []) k ≡ Some p → IsKept codes k bytes → unpacked bytes ≡ code p
only_each code codes packed b n e (suc k) p bytes f s = absurd (none-some p f)
only_each code codes packed b n e zero p bytes f s =
    let from : 0 ≡ s.from = same_Some 0 s.from (ap (λ (z : List ℕ). slice_get z 0) (sym n) ∙ s.begins) in
    let to : length packed ≡ s.to = same_Some (length packed) s.to (ap (λ (z : List ℕ). slice_get z 1) (sym n) ∙ s.ends) in
    let o : bytes ≡ packed =
    sym s.same ∙ ap (λ (z : ℕ). between z s.to codes.bytes.items) (sym from)
    ∙ ap (λ (z : ℕ). between 0 z codes.bytes.items) (sym to) ∙ ap (λ (z : List ℕ). between 0 (length packed) z) b
    ∙ between_to_end packed 0 (length packed) (omega arith) in
    ap unpacked o ∙ e ∙ ap code (same_Some [] p f)

only_within : (n : ℕ) (k m : ℕ) → slice_get (0 ∷ n ∷ []) k ≡ Some m → m ≤ n
only_within n zero m e = let f : 0 ≡ m = same_Some 0 m e in omega arith
only_within n (suc zero) m e = let f : n ≡ m = same_Some n m e in omega arith
only_within n (suc (suc k)) m e = absurd (none-some m e)

pub first_kept : (code : List ℕ → List ℕ) (codes : Codes) (packed : List ℕ) → codes.bytes.items ≡ packed
    → codes.bounds.items ≡ 0 ∷ length packed ∷ [] → unpacked packed ≡ code [] → AreKept code ([] ∷ []) codes
first_kept code codes packed b n e =
    record {
      each = only_each code codes packed b n e;
      whole = ap length n;
      within = λ (k m : ℕ) (f : slice_get codes.bounds.items k ≡ Some m).
          subst (λ (z : List ℕ). m ≤ length z) (sym b)
          (only_within (length packed) k m (ap (λ (z : List ℕ). slice_get z k) (sym n) ∙ f));
      last = ap (λ (z : List ℕ). slice_get z 1) n ∙ ap (λ (z : List ℕ). Some (length z)) (sym b);
    }

pub kept_if_made : {E : Type 0} (code : List ℕ → List ℕ) (r : Result Nodes E) (words : List ℕ) → words ≡ code []
    → IfOk r (λ (nodes : Nodes). unpacked nodes.codes.bytes.items ≡ words)
    → IfOk r (λ (nodes : Nodes). nodes.codes.bounds.items ≡ 0 ∷ length nodes.codes.bytes.items ∷ [])
    → IfOk r (λ (nodes : Nodes). AreKept code ([] ∷ []) nodes.codes)
kept_if_made code (Ok nodes) words e b n = first_kept code nodes.codes nodes.codes.bytes.items refl n (b ∙ e)
kept_if_made code (Err error) words e b n = tt

-- ---- one place more
module _ (code : List ℕ → List ℕ) (trails : List (List ℕ)) (old new : Codes) (packed p : List ℕ)
    (kept : AreKept code trails old) (b : new.bytes.items ≡ old.bytes.items ++ packed)
    (n : new.bounds.items ≡ old.bounds.items ++ length new.bytes.items ∷ []) (e : unpacked packed ≡ code p) where
  bound_kept : (k m : ℕ) → k < length old.bounds.items → slice_get new.bounds.items k ≡ Some m → slice_get old.bounds.items k ≡ Some m
  bound_kept k m l f =
      elim (pushed_at old.bounds.items (length new.bytes.items) k m (ap (λ (z : List ℕ). slice_get z k) (sym n) ∙ f))
      [ inl h ↦ h | inr h ↦ (let s : k ≡ length old.bounds.items = h.0 in absurd (omega arith)) ]

  more_bytes : length new.bytes.items ≡ length old.bytes.items + length packed
  more_bytes = ap length b ∙ length-append old.bytes.items packed

  old_each : (k : ℕ) (q bytes : List ℕ) → slice_get trails k ≡ Some q → IsKept new k bytes → unpacked bytes ≡ code q
  old_each k q bytes f s =
      let l : k < length trails = slice_get_within trails k q f in
      let w : length old.bounds.items ≡ length trails + 1 = kept.whole in
      let to : slice_get old.bounds.items (k + 1) ≡ Some s.to = bound_kept (k + 1) s.to (omega arith) s.ends in
      let h : IsKept old k bytes =
      record {
        from = s.from;
        to = s.to;
        begins = bound_kept k s.from (omega arith) s.begins;
        ends = to;
        same = sym (part_kept old.bytes.items packed s.from s.to (kept.within (k + 1) s.to to))
            ∙ ap (λ (z : List ℕ). between s.from s.to z) (sym b) ∙ s.same;
      } in
      kept.each k q bytes f h

  new_each : (bytes : List ℕ) → IsKept new (length trails) bytes → unpacked bytes ≡ code p
  new_each bytes s =
      let w : length old.bounds.items ≡ length trails + 1 = kept.whole in
      let begins : slice_get old.bounds.items (length trails) ≡ Some s.from = bound_kept (length trails) s.from (omega arith) s.begins in
      let from : length old.bytes.items ≡ s.from = same_Some (length old.bytes.items) s.from (sym kept.last ∙ begins) in
      let to : length new.bytes.items ≡ s.to =
      same_Some (length new.bytes.items) s.to
      (sym (last_at old.bounds.items (length new.bytes.items)) ∙ ap (λ (z : ℕ). slice_get (old.bounds.items ++ length new.bytes.items ∷ []) z) w
      ∙ ap (λ (z : List ℕ). slice_get z (length trails + 1)) (sym n) ∙ s.ends) in
      let o : bytes ≡ packed =
      sym s.same ∙ ap (λ (z : ℕ). between z s.to new.bytes.items) (sym from)
      ∙ ap (λ (z : ℕ). between (length old.bytes.items) z new.bytes.items) (sym to)
      ∙ ap (λ (z : List ℕ). between (length old.bytes.items) (length z) z) b
      ∙ part_last old.bytes.items packed in
      ap unpacked o ∙ e

  each_by : (k : ℕ) (q bytes : List ℕ) → (slice_get trails k ≡ Some q) ⊎ ((k ≡ length trails) × (p ≡ q)) → IsKept new k bytes → unpacked bytes ≡ code q
  each_by k q bytes (inl f) s = old_each k q bytes f s
  each_by k q bytes (inr f) s = new_each bytes (subst (λ (z : ℕ). IsKept new z bytes) f.0 s) ∙ ap code f.1

  within_by : (k m : ℕ) → (slice_get old.bounds.items k ≡ Some m) ⊎ ((k ≡ length old.bounds.items) × (length new.bytes.items ≡ m)) → m ≤ length new.bytes.items
  within_by k m (inl f) = let l : m ≤ length old.bytes.items = kept.within k m f in let s = more_bytes in omega (arith, s)
  within_by k m (inr f) = let s : length new.bytes.items ≡ m = f.1 in omega arith

  pub more_kept : (trails_new : List (List ℕ)) → trails_new ≡ trails ++ p ∷ [] → AreKept code trails_new new
  more_kept trails_new t =
      let w : length old.bounds.items ≡ length trails + 1 = kept.whole in
      let l : length (trails ++ p ∷ []) ≡ length trails + 1 = length-append trails (p ∷ []) in
      let m : length (old.bounds.items ++ length new.bytes.items ∷ []) ≡ length old.bounds.items + 1 =
      length-append old.bounds.items (length new.bytes.items ∷ []) in
      subst (λ (z : List (List ℕ)). AreKept code z new) (sym t)
      (record {
        each = λ (k : ℕ) (q bytes : List ℕ) (f : slice_get (trails ++ p ∷ []) k ≡ Some q). each_by k q bytes (pushed_at trails p k q f);
        whole = ap length n ∙ omega arith;
        within = λ (k j : ℕ) (f : slice_get new.bounds.items k ≡ Some j).
            within_by k j (pushed_at old.bounds.items (length new.bytes.items) k j (ap (λ (z : List ℕ). slice_get z k) (sym n) ∙ f));
        last = ap (λ (z : List ℕ). slice_get z (length (trails ++ p ∷ []))) n
            ∙ ap (λ (z : ℕ). slice_get (old.bounds.items ++ length new.bytes.items ∷ []) z) (l ∙ sym w)
            ∙ last_at old.bounds.items (length new.bytes.items);
      })

-- a place of the code that is kept was seen
pub kept_seen : (code : List ℕ → List ℕ) (trails : List (List ℕ)) (codes : Codes) (packed words : List ℕ) → AreKept code trails codes
    → (k : ℕ) × IsKept codes k packed → unpacked packed ≡ words → IsSeen code trails words
kept_seen code trails codes packed words kept s e =
    let w : length codes.bounds.items ≡ length trails + 1 = kept.whole in
    let l : s.0 + 1 < length codes.bounds.items = slice_get_within codes.bounds.items (s.0 + 1) s.1.to s.1.ends in
    let f : slice_get trails s.0 ≡ Some (slice_index_or trails s.0 []) = slice_get-get_or trails s.0 [] (omega arith) in
    (s.0, slice_index_or trails s.0 [], f, sym (kept.each s.0 (slice_index_or trails s.0 []) packed f s.1) ∙ e)
