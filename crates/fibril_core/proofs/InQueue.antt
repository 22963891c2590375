-- The queue of the fibrils that pass a test: how it is after a change of one fibril, and which search finds one of it.
use Rattle.std.proofs.Common.{◌≡◌, ◌≢◌, ℕ, zero, suc, ◌+◌, ◌<◌, ◌≤◌, ◌⊎◌, inl, inr, Bool, true, false, List, [], ◌∷◌, ◌++◌, length, Option, Some, None, refl, ap, sym, ◌∙◌, subst, arith}
use Rattle.std.specs.Prelude.{slice_get, slice_set}
use Rattle.std.specs.Int.{from_bool}
use Rattle.std.specs.List.{remove}
use Rattle.std.proofs.lemmas.Bool.{cases_eq, cases_lt}
use Rattle.std.proofs.lemmas.List.Edits.{length-remove}
use Rattle.std.proofs.lemmas.Option.{slice_get_past}
use Rattle.ipc_ids.specs.declared.numbers.FibrilNo.{FibrilNo}
use Rattle.ipc_ids.proofs.Common.{not_both}
use Rattle.fibril_core.specs.declared.fibrils.Status.{Status}
use Rattle.fibril_core.specs.declared.fibrils.Status.TheVariants.{Ready}
use Rattle.fibril_core.specs.declared.fibrils.Fibril.{Fibril}
use Rattle.fibril_core.specs.Fibrils.{FibrilOrder, first_with, number_of, next_number, fibril_at, spawned, put_fibril, with_status}
use Rattle.fibril_core.specs.FibrilLaws.{status_of, stamp_in, stamp_of, passes, IsSound, IsFirst, IsQueue, IsQueueBut}
use Rattle.fibril_core.specs.LiveFibrils.{goes_on, is_live, count, ended}
use Rattle.fibril_core.proofs.Places.{set_here, push_here, push_elsewhere, within, which_pushed}
use Rattle.fibril_core.proofs.Searches.{skip, skip_other, skip_less, skip_reaches, removed_at}
use Rattle.fibril_core.proofs.Orders.{has, first_is, no_number, set_elsewhere_at, status_set}
use Rattle.fibril_core.proofs.Live.{put_at}
use Rattle.fibril_core.proofs.Counts.{count_set, count_push, count_few, count_less}

-- a call that changed no fibril but the one with this number

pub record Alters (o after : FibrilOrder) (n : ℕ) (y : Fibril) : Type 0 where
  pub here : fibril_at after n ≡ Some y
  pub others : (m : ℕ) → m ≢ n → fibril_at after m ≡ fibril_at o m
  pub counts : (p : Fibril → Bool) → count p after.fibrils + from_bool (passes p (fibril_at o n)) ≡ count p o.fibrils + from_bool (p y)

set_alters : (o : FibrilOrder) (i : ℕ) (x y : Fibril) (next : ℕ) → slice_get o.fibrils i ≡ Some x → Alters o (record { fibrils = slice_set o.fibrils i y; next_stamp = next }) (suc i) y
set_alters o i x y next there = record {
  here = set_here o.fibrils i y (within o.fibrils i x there);
  others = set_elsewhere_at o i y next;
  counts = λ p. rw there (count_set p o.fibrils i x y there);
}

stamp_alters_at : (o : FibrilOrder) (n : ℕ) (s : Status) (x : Fibril) → fibril_at o n ≡ Some x → Alters o (with_status o (record { 0 = n }) s) n (record { number = record { 0 = n }; status = s; stamp = o.next_stamp })
stamp_alters_at o zero s x there = absurd (cc there)
stamp_alters_at o (suc i) s x there =
    let y : Fibril = record { number = record { 0 = suc i }; status = s; stamp = o.next_stamp } in
    subst (λ (q : FibrilOrder). Alters o q (suc i) y) (sym (status_set o i s (within o.fibrils i x there))) (set_alters o i x y (o.next_stamp + 1) there)

pub stamp_alters : (o : FibrilOrder) (f : FibrilNo) (s : Status) (x : Fibril) → fibril_at o f.0 ≡ Some x → Alters o (with_status o f s) f.0 (record { number = f; status = s; stamp = o.next_stamp })
stamp_alters o f s x there = stamp_alters_at o f.0 s x there

-- where the fibril stands, one record less its number
put_set : (o : FibrilOrder) (i : ℕ) (y : Fibril) → y.number.0 ≡ suc i → i < length o.fibrils → put_fibril o y ≡ record { fibrils = slice_set o.fibrils i y; next_stamp = o.next_stamp }
put_set o i y number less = ap (λ (l : List Fibril). record { fibrils = l; next_stamp = o.next_stamp }) (put_at o.fibrils i y number less)

pub end_alters : (o : FibrilOrder) (n : ℕ) (x : Fibril) → fibril_at o n ≡ Some x → Alters o (put_fibril o (ended n)) n (ended n)
end_alters o zero x there = absurd (cc there)
end_alters o (suc i) x there = subst (λ (q : FibrilOrder). Alters o q (suc i) (ended (suc i))) (sym (put_set o i (ended (suc i)) refl (within o.fibrils i x there))) (set_alters o i x (ended (suc i)) o.next_stamp there)

-- no fibril has the next number
pub none_next : (o : FibrilOrder) → fibril_at o (length o.fibrils + 1) ≡ None
none_next o = by (length o.fibrils + 1) (omega arith) where
  by : (n : ℕ) → n ≡ suc (length o.fibrils) → fibril_at o n ≡ None
  by zero e = absurd (omega arith)
  by (suc i) e = slice_get_past o.fibrils i (omega arith)

pub spawn_alters : (o : FibrilOrder) → Alters o (spawned o) (length o.fibrils + 1) (record { number = next_number o; status = Ready; stamp = o.next_stamp })
spawn_alters o = record {
  here = here_at (length o.fibrils + 1) (omega arith);
  others = others;
  counts = λ p. rw (none_next o) (none_before (count p (o.fibrils ++ new ∷ [])) (count p o.fibrils + from_bool (p new)) (count_push p o.fibrils new));
} where
  new : Fibril
  new = record { number = record { 0 = length o.fibrils + 1 }; status = Ready; stamp = o.next_stamp }

  here_at : (n : ℕ) → n ≡ suc (length o.fibrils) → fibril_at (spawned o) n ≡ Some new
  here_at zero e = absurd (omega arith)
  here_at (suc i) e = let same : i ≡ length o.fibrils = omega arith in subst (λ (j : ℕ). slice_get (o.fibrils ++ new ∷ []) j ≡ Some new) (sym same) (push_here o.fibrils new)

  others : (m : ℕ) → m ≢ length o.fibrils + 1 → fibril_at (spawned o) m ≡ fibril_at o m
  others zero h = refl
  others (suc j) h = push_elsewhere o.fibrils j new (λ e. h (other_by e)) where
    other_by : j ≡ length o.fibrils → suc j ≡ length o.fibrils + 1
    other_by e = omega arith

  none_before : (m k : ℕ) → m ≡ k → m + 0 ≡ k
  none_before m k e = omega arith

-- the queue of those that pass a test, before and after such a call
module _ (p : Fibril → Bool) where
  -- it is whole where the fibril does not pass
  pub but_absent : (o : FibrilOrder) (n : ℕ) (q : List FibrilNo) → passes p (fibril_at o n) ≡ false → IsQueue p o q → IsQueueBut p o n q
  but_absent o n q h queue = record {
    pass = queue.pass;
    other = λ i f e same. not_both (queue.pass i f e) (rw same h);
    all = λ m other g. queue.all m g;
    rising = queue.rising;
    length = rw h (none_more (length q) (count p o.fibrils) queue.length);
  } where
    none_more : (k m : ℕ) → k ≡ m → k + 0 ≡ m
    none_more k m e = omega arith

  -- no fibril stands at two places
  one_place : (o : FibrilOrder) (q : List FibrilNo) (i j : ℕ) (f g : FibrilNo) → IsQueue p o q → slice_get q i ≡ Some f → slice_get q j ≡ Some g → f.0 ≡ g.0 → i ≡ j
  one_place o q i j f g queue e d same = by (ap (stamp_of o) same) (cases_eq i j) (cases_lt i j) where
    by : stamp_of o f.0 ≡ stamp_of o g.0 → (i ≡ j) ⊎ (i ≢ j) → (i < j) ⊎ (j ≤ i) → i ≡ j
    by own (inl h) c = h
    by own (inr h) (inl less) = let rise = queue.rising i j f g e d less in absurd (omega arith)
    by own (inr h) (inr more) = let rise = queue.rising j i g f d e (omega arith) in absurd (omega arith)

  -- without the fibril that stands at a place
  pub but_removed : (o : FibrilOrder) (f : FibrilNo) (q : List FibrilNo) (i : ℕ) → slice_get q i ≡ Some f → IsQueue p o q → IsQueueBut p o f.0 (remove q i)
  but_removed o f q i there queue = record {
    pass = λ j g e. queue.pass (skip i j) g (back j g e);
    other = λ j g e same. skip_other i j (one_place o q (skip i j) i g f queue (back j g e) there same);
    all = λ m other h. all_by m other (queue.all m h);
    rising = λ j k g h e d less. queue.rising (skip i j) (skip i k) g h (back j g e) (back k h d) (skip_less i j k less);
    length = rw (queue.pass i f there) (length-remove q i less ∙ queue.length);
  } where
    less : i < length q
    less = within q i f there

    back : (j : ℕ) (g : FibrilNo) → slice_get (remove q i) j ≡ Some g → slice_get q (skip i j) ≡ Some g
    back j g e = sym (removed_at q i j less) ∙ e

    number : (g h : FibrilNo) → Some g ≡ Some h → h.0 ≡ g.0
    number g h e = cc

    all_by : (m : ℕ) → m ≢ f.0 → (k : ℕ) × (slice_get q k ≡ Some (record { 0 = m })) → (j : ℕ) × (slice_get (remove q i) j ≡ Some (record { 0 = m }))
    all_by m other at =
        let left = skip_reaches i at.0 (λ e. other (number f (record { 0 = m }) (sym there ∙ ap (slice_get q) (sym e) ∙ at.1))) in
        (left.0, removed_at q i left.0 less ∙ ap (slice_get q) left.1 ∙ at.1)

  -- the fibril does not pass then
  pub left : (o after : FibrilOrder) (n : ℕ) (y : Fibril) (q : List FibrilNo) → Alters o after n y → p y ≡ false → IsQueueBut p o n q → IsQueue p after q
  left o after n y q alters h queue = record {
    pass = λ i f e. rw (alters.others f.0 (queue.other i f e)) (queue.pass i f e);
    all = λ m g. all_by m g (cases_eq m n);
    rising = λ i j f g e d less. rw (alters.others f.0 (queue.other i f e), alters.others g.0 (queue.other j g d)) (queue.rising i j f g e d less);
    length = same_by (length q) (count p after.fibrils) (count p o.fibrils) (from_bool (passes p (fibril_at o n))) queue.length (rw h at (alters.counts p));
  } where
    all_by : (m : ℕ) → passes p (fibril_at after m) ≡ true → (m ≡ n) ⊎ (m ≢ n) → (i : ℕ) × (slice_get q i ≡ Some (record { 0 = m }))
    all_by m g (inl e) = absurd (not_both (sym (ap (passes p) (ap (fibril_at after) e ∙ alters.here)) ∙ g) h)
    all_by m g (inr e) = queue.all m e (rw (alters.others m e) at g)

    same_by : (l m k b : ℕ) → l + b ≡ k → m + b ≡ k + 0 → l ≡ m
    same_by l m k b e d = omega arith

  -- the fibril passes then, and stands behind the others
  pub joined : (o after : FibrilOrder) (f : FibrilNo) (y : Fibril) (q : List FibrilNo) → IsSound o → Alters o after f.0 y → y.stamp ≡ o.next_stamp → p y ≡ true → IsQueueBut p o f.0 q → IsQueue p after (q ++ f ∷ [])
  joined o after f y q sound alters last h queue = record {
    pass = λ i g e. pass_by i g (which_pushed q i f g e);
    all = λ m g. all_by m g (cases_eq m f.0);
    rising = λ i j g k e d less. rising_by i j g k (which_pushed q i f g e) (which_pushed q j f k d) less;
    length = same_by (length (q ++ f ∷ [])) (length q) (count p after.fibrils) (count p o.fibrils) (from_bool (passes p (fibril_at o f.0))) (length_push q) queue.length (rw h at (alters.counts p));
  } where
    pass_by : (i : ℕ) (g : FibrilNo) → ((i ≡ length q) × (f ≡ g)) ⊎ (slice_get q i ≡ Some g) → passes p (fibril_at after g.0) ≡ true
    pass_by i g (inl e) = subst (λ (k : FibrilNo). passes p (fibril_at after k.0) ≡ true) e.1 (rw alters.here h)
    pass_by i g (inr e) = rw (alters.others g.0 (queue.other i g e)) (queue.pass i g e)

    not_less : (k : ℕ) → k ≡ length q → k < length q → ⊥
    not_less k is less = omega arith

    kept : (i : ℕ) (g : FibrilNo) → slice_get q i ≡ Some g → slice_get (q ++ f ∷ []) i ≡ Some g
    kept i g e = push_elsewhere q i f (λ is. not_less i is (within q i g e)) ∙ e

    all_by : (m : ℕ) → passes p (fibril_at after m) ≡ true → (m ≡ f.0) ⊎ (m ≢ f.0) → (i : ℕ) × (slice_get (q ++ f ∷ []) i ≡ Some (record { 0 = m }))
    all_by m g (inl e) = (length q, push_here q f ∙ ap (λ (k : ℕ). Some (record { 0 = k })) (sym e))
    all_by m g (inr e) = let at = queue.all m e (rw (alters.others m e) at g) in (at.0, kept at.0 (record { 0 = m }) at.1)

    behind : (m : ℕ) → passes p (fibril_at o m) ≡ true → stamp_of o m < o.next_stamp
    behind zero g = absurd (cc g)
    behind (suc m) g = behind_by (slice_get o.fibrils m) refl g where
      behind_by : (l : Option Fibril) → slice_get o.fibrils m ≡ l → passes p l ≡ true → stamp_in l < o.next_stamp
      behind_by None e d = absurd (cc d)
      behind_by (Some x) e d = sound.stamped m x e

    rising_by : (i j : ℕ) (g k : FibrilNo) → ((i ≡ length q) × (f ≡ g)) ⊎ (slice_get q i ≡ Some g) → ((j ≡ length q) × (f ≡ k)) ⊎ (slice_get q j ≡ Some k) → i < j → stamp_of after g.0 < stamp_of after k.0
    rising_by i j g k (inl e) (inl d) less = let one = e.0 in let two = d.0 in absurd (omega arith)
    rising_by i j g k (inl e) (inr d) less = let one = e.0 in let two = within q j k d in absurd (omega arith)
    rising_by i j g k (inr e) (inl d) less = subst (λ (l : FibrilNo). stamp_of after g.0 < stamp_of after l.0) d.1 (rw (alters.others g.0 (queue.other i g e), alters.here, last) (behind g.0 (queue.pass i g e)))
    rising_by i j g k (inr e) (inr d) less = rw (alters.others g.0 (queue.other i g e), alters.others k.0 (queue.other j k d)) (queue.rising i j g k e d less)

    length_push : (l : List FibrilNo) → length (l ++ f ∷ []) ≡ suc (length l)
    length_push [] = refl
    length_push (g ∷ l) = ap suc (length_push l)

    same_by : (more l m k b : ℕ) → more ≡ suc l → l + b ≡ k → m + b ≡ k + 1 → more ≡ m
    same_by more l m k b n e d = omega arith

  -- the first of the queue with a status has had it longest
  pub first_of_queue : (o : FibrilOrder) (s : Status) (q : List FibrilNo) (i : ℕ) (f : FibrilNo) → IsQueue p o q → ((x : Fibril) → x.status ≡ s → p x ≡ true) → slice_get q i ≡ Some f → status_of o f.0 ≡ Some s → ((k : ℕ) (g : FibrilNo) → k < i → slice_get q k ≡ Some g → status_of o g.0 ≢ Some s) → IsFirst o s f.0
  first_of_queue o s q i f queue those there here none = record { here = here; least = λ m h. least_by m h (queue.all m (passes_at m h)) } where
    passes_at : (m : ℕ) → status_of o m ≡ Some s → passes p (fibril_at o m) ≡ true
    passes_at m h = let x = has (fibril_at o m) s h in rw x.there (those x.fibril x.status)

    least_at : (m j : ℕ) → status_of o m ≡ Some s → slice_get q j ≡ Some (record { 0 = m }) → (i ≡ j) ⊎ (i ≢ j) → (j < i) ⊎ (i ≤ j) → stamp_of o f.0 ≤ stamp_of o m
    least_at m j h at c (inl less) = absurd (none j (record { 0 = m }) less at h)
    least_at m j h at (inl e) (inr more) =
        let same : f ≡ record { 0 = m } = cc (sym there ∙ ap (slice_get q) e ∙ at) in
        subst (λ (g : FibrilNo). stamp_of o f.0 ≤ stamp_of o g.0) same (omega arith)
    least_at m j h at (inr e) (inr more) = let less = queue.rising i j f (record { 0 = m }) there at (omega arith) in omega arith

    least_by : (m : ℕ) → status_of o m ≡ Some s → (j : ℕ) × (slice_get q j ≡ Some (record { 0 = m })) → stamp_of o f.0 ≤ stamp_of o m
    least_by m h at = least_at m at.0 h at.1 (cases_eq i at.0) (cases_lt at.0 i)

  pub none_of_queue : (o : FibrilOrder) (s : Status) (q : List FibrilNo) → IsSound o → IsQueue p o q → ((x : Fibril) → x.status ≡ s → p x ≡ true) → ((k : ℕ) (g : FibrilNo) → slice_get q k ≡ Some g → status_of o g.0 ≢ Some s) → number_of (first_with s o.fibrils) ≡ None
  none_of_queue o s q sound queue those none = none_by (first_with s o.fibrils) refl where
    none_by : (g : Option Fibril) → first_with s o.fibrils ≡ g → number_of g ≡ None
    none_by None e = refl
    none_by (Some x) e =
        let here = (first_is o s x sound e).here in
        let that = has (fibril_at o x.number.0) s here in
        let at = queue.all x.number.0 (rw that.there (those that.fibril that.status)) in
        absurd (none at.0 x.number at.1 here)

  -- where all that pass have not ended, there is room for one more
  pub few_queued : (o : FibrilOrder) (q : List FibrilNo) → ((x : Fibril) → p x ≡ true → is_live x ≡ true) → IsQueue p o q → length q ≤ count is_live o.fibrils
  few_queued o q live queue = let few = count_few p is_live live o.fibrils in let same = queue.length in omega arith

  pub less_queued : (o : FibrilOrder) (n : ℕ) (x : Fibril) (q : List FibrilNo) → ((y : Fibril) → p y ≡ true → is_live y ≡ true) → IsQueue p o q → fibril_at o n ≡ Some x → p x ≡ false → is_live x ≡ true → length q < count is_live o.fibrils
  less_queued o zero x q live queue there h lives = absurd (cc there)
  less_queued o (suc i) x q live queue there h lives = let less = count_less p is_live live o.fibrils i x there h lives in let same = queue.length in omega arith

-- two fibrils that have not ended and have one stamp have one number
same_number : (o : FibrilOrder) (n m : ℕ) (x y : Fibril) → IsSound o → fibril_at o n ≡ Some x → fibril_at o m ≡ Some y → is_live x ≡ true → is_live y ≡ true → x.stamp ≡ y.stamp → n ≡ m
same_number o zero m x y sound there that lives goes e = absurd (cc there)
same_number o (suc i) zero x y sound there that lives goes e = absurd (cc that)
same_number o (suc i) (suc j) x y sound there that lives goes e = ap suc (sound.apart i j x y there that lives goes e)

-- two firsts are one
first_unique : (o : FibrilOrder) (s : Status) (n m : ℕ) → goes_on s ≡ true → IsSound o → IsFirst o s n → IsFirst o s m → n ≡ m
first_unique o s n m goes sound one other =
    let here = has (fibril_at o n) s one.here in
    let there = has (fibril_at o m) s other.here in
    let below : stamp_in (fibril_at o n) ≤ stamp_in (fibril_at o m) = one.least m other.here in
    let above : stamp_in (fibril_at o m) ≤ stamp_in (fibril_at o n) = other.least n one.here in
    let low : here.fibril.stamp ≤ there.fibril.stamp = rw (here.there, there.there) at below in
    let high : there.fibril.stamp ≤ here.fibril.stamp = rw (here.there, there.there) at above in
    same_number o n m here.fibril there.fibril sound here.there there.there (rw here.status goes) (rw there.status goes) (omega arith)

-- the fibril that has had a status longest is what the search finds
pub first_is_found : (o : FibrilOrder) (s : Status) (f : FibrilNo) → goes_on s ≡ true → IsSound o → IsFirst o s f.0 → number_of (first_with s o.fibrils) ≡ Some f
first_is_found o s f goes sound first = found_by (first_with s o.fibrils) refl where
  same : (x : Fibril) → x.number.0 ≡ f.0 → Some x.number ≡ Some f
  same x e = ap (λ (n : ℕ). Some (record { 0 = n })) e

  found_by : (q : Option Fibril) → first_with s o.fibrils ≡ q → number_of q ≡ Some f
  found_by None e = absurd (no_number o s (ap number_of e) f.0 first.here)
  found_by (Some x) e = same x (first_unique o s x.number.0 f.0 goes sound (first_is o s x sound e) first)
