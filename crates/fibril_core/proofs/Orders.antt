-- The calls on fibrils, one change at a time: what they come to, and that the order stays sound.
use Rattle.std.proofs.Common.{◌≡◌, ◌≢◌, ℕ, zero, suc, ◌+◌, ◌<◌, ◌≤◌, ◌⊎◌, inl, inr, true, length, Option, Some, None, refl, ap, sym, ◌∙◌, subst, arith}
use Rattle.std.specs.Prelude.{slice_get, slice_set, IsSome}
use Rattle.std.proofs.lemmas.Bool.{lt-ltb}
use Rattle.ipc_ids.specs.declared.numbers.FibrilNo.{FibrilNo}
use Rattle.fibril_core.specs.declared.fibrils.Status.{Status}
use Rattle.fibril_core.specs.declared.fibrils.Status.TheVariants.{Ready, Ended}
use Rattle.fibril_core.specs.declared.fibrils.Fibril.{Fibril}
use Rattle.fibril_core.specs.Fibrils.{FibrilOrder, no_fibrils, same_status, first_with, number_of, fibril_at, why_at, why_of, spawned, put_fibril, with_status, make_ready, found_with, found_over, end_current}
use Rattle.fibril_core.specs.FibrilLaws.{status_in, status_of, stamp_in, stamp_of, IsSound, IsFirst, HasNone, Becomes}
use Rattle.fibril_core.specs.LiveFibrils.{is_live}
use Rattle.fibril_core.proofs.Places.{set_here, set_elsewhere, which, which_pushed, within}
use Rattle.fibril_core.proofs.Firsts.{same_status_is, status_is_same, first_there, first_least, first_none}
use Rattle.fibril_core.proofs.Live.{before_suc}

-- a fibril with that status is there
pub record Has (q : Option Fibril) (s : Status) : Type 0 where
  pub fibril : Fibril
  pub there : q ≡ Some fibril
  pub status : fibril.status ≡ s

pub has : (q : Option Fibril) (s : Status) → status_in q ≡ Some s → Has q s
has None s e = absurd (cc e)
has (Some x) s e = record { fibril = x; there = refl; status = cc }

pub has_same : (x : Fibril) (s : Status) → x.status ≡ s → same_status x.status s ≡ true
has_same x s e = rw e (status_is_same s)

by_place : (i n : ℕ) → n ≡ i + 1 → n ≡ suc i
by_place i n e = omega arith

by_suc : (i : ℕ) → suc i ≡ i + 1
by_suc i = omega arith

-- the first with a status, by its number
pub first_is : (o : FibrilOrder) (s : Status) (x : Fibril) → IsSound o → first_with s o.fibrils ≡ Some x → IsFirst o s x.number.0
first_is o s x sound e =
    let one = first_there s o.fibrils x e in
    let number : x.number.0 ≡ suc one.place = by_place one.place x.number.0 (sound.numbered one.place x one.there) in
    record {
      here = rw (number, one.there) (ap Some (same_status_is x.status s one.status));
      least = λ m h. least_at number one.there m h;
    } where
      least_at : {place : ℕ} → x.number.0 ≡ suc place → slice_get o.fibrils place ≡ Some x → (m : ℕ) → status_of o m ≡ Some s → stamp_of o x.number.0 ≤ stamp_of o m
      least_at number there zero h = absurd (cc h)
      least_at number there (suc j) h =
          let that = has (slice_get o.fibrils j) s h in
          rw (number, there, that.there) (first_least s o.fibrils x e j that.fibril that.there (has_same that.fibril s that.status))

pub first_number : (o : FibrilOrder) (s : Status) (f : FibrilNo) → IsSound o → number_of (first_with s o.fibrils) ≡ Some f → IsFirst o s f.0
first_number o s f sound e = first_by (first_with s o.fibrils) refl e where
  first_by : (q : Option Fibril) → first_with s o.fibrils ≡ q → number_of q ≡ Some f → IsFirst o s f.0
  first_by None is h = absurd (cc h)
  first_by (Some x) is h = let same : x.number ≡ f = cc in subst (λ (g : FibrilNo). IsFirst o s g.0) same (first_is o s x sound is)

pub no_number : (o : FibrilOrder) (s : Status) → number_of (first_with s o.fibrils) ≡ None → HasNone o s
no_number o s e = none_by (first_with s o.fibrils) refl e where
  none_at : first_with s o.fibrils ≡ None → HasNone o s
  none_at is zero h = cc h
  none_at is (suc j) h =
      let that = has (slice_get o.fibrils j) s h in
      let same = has_same that.fibril s that.status in
      let other = first_none s o.fibrils is j that.fibril that.there in cc

  none_by : (q : Option Fibril) → first_with s o.fibrils ≡ q → number_of q ≡ None → HasNone o s
  none_by None is h = none_at is
  none_by (Some x) is h = absurd (cc h)

-- a fibril changes, with a stamp that no other has
pub sound_set : (o : FibrilOrder) (i : ℕ) (y : Fibril) (next : ℕ) → IsSound o → i < length o.fibrils → y.number.0 ≡ i + 1 → y.stamp < next → o.next_stamp ≤ next → ((j : ℕ) (x : Fibril) → slice_get o.fibrils j ≡ Some x → is_live x ≡ true → is_live y ≡ true → x.stamp ≡ y.stamp → j ≡ i) → IsSound (record { fibrils = slice_set o.fibrils i y; next_stamp = next })
sound_set o i y next sound h number below later own = record {
  numbered = λ j x there. numbered_by j x (which o.fibrils i j y x h there);
  stamped = λ j x there. stamped_by j x (which o.fibrils i j y x h there);
  apart = λ j k a b s t d c e. apart_by j k a b (which o.fibrils i j y a h s) (which o.fibrils i k y b h t) d c e;
} where
  numbered_by : (j : ℕ) (x : Fibril) → ((j ≡ i) × (y ≡ x)) ⊎ ((j ≢ i) × (slice_get o.fibrils j ≡ Some x)) → x.number.0 ≡ j + 1
  numbered_by j x (inl h) = rw (← h.1, h.0) number
  numbered_by j x (inr h) = sound.numbered j x h.1

  stamped_by : (j : ℕ) (x : Fibril) → ((j ≡ i) × (y ≡ x)) ⊎ ((j ≢ i) × (slice_get o.fibrils j ≡ Some x)) → x.stamp < next
  stamped_by j x (inl h) = rw (← h.1) below
  stamped_by j x (inr h) = let less = sound.stamped j x h.1 in omega arith

  apart_by : (j k : ℕ) (a b : Fibril) → ((j ≡ i) × (y ≡ a)) ⊎ ((j ≢ i) × (slice_get o.fibrils j ≡ Some a)) → ((k ≡ i) × (y ≡ b)) ⊎ ((k ≢ i) × (slice_get o.fibrils k ≡ Some b)) → is_live a ≡ true → is_live b ≡ true → a.stamp ≡ b.stamp → j ≡ k
  apart_by j k a b (inl g) (inl h) d c e = g.0 ∙ sym h.0
  apart_by j k a b (inl g) (inr h) d c e = g.0 ∙ sym (own k b h.1 c (rw g.1 d) (sym e ∙ ap (λ (x : Fibril). x.stamp) (sym g.1)))
  apart_by j k a b (inr g) (inl h) d c e = own j a g.1 d (rw h.1 c) (e ∙ ap (λ (x : Fibril). x.stamp) (sym h.1)) ∙ sym h.0
  apart_by j k a b (inr g) (inr h) d c e = sound.apart j k a b g.1 h.1 d c e

-- no fibril has the next stamp
no_next : (o : FibrilOrder) → IsSound o → (i j : ℕ) (x : Fibril) → slice_get o.fibrils j ≡ Some x → x.stamp ≡ o.next_stamp → j ≡ i
no_next o sound i j x there e = let less = sound.stamped j x there in absurd (omega arith)

-- a fibril that is there has a new status
pub status_set : (o : FibrilOrder) (i : ℕ) (s : Status) → i < length o.fibrils → with_status o (record { 0 = suc i }) s ≡ record { fibrils = slice_set o.fibrils i (record { number = record { 0 = suc i }; status = s; stamp = o.next_stamp }); next_stamp = o.next_stamp + 1 }
status_set o i s h = rw (before_suc i, lt-ltb i (length o.fibrils) h) refl

sound_status_at : (o : FibrilOrder) (n : ℕ) (s : Status) (x : Fibril) → IsSound o → fibril_at o n ≡ Some x → IsSound (with_status o (record { 0 = n }) s)
sound_status_at o zero s x sound there = absurd (cc there)
sound_status_at o (suc i) s x sound there =
    let h = within o.fibrils i x there in
    subst (λ (p : FibrilOrder). IsSound p) (sym (status_set o i s h)) (sound_set o i (record { number = record { 0 = suc i }; status = s; stamp = o.next_stamp }) (o.next_stamp + 1) sound h (by_suc i) (omega arith) (omega arith) (λ j z that d c e. no_next o sound i j z that e))

pub sound_status : (o : FibrilOrder) (f : FibrilNo) (s : Status) (x : Fibril) → IsSound o → fibril_at o f.0 ≡ Some x → IsSound (with_status o f s)
sound_status o f s x sound there = sound_status_at o f.0 s x sound there

pub stamp_below : (o : FibrilOrder) → IsSound o → 0 < o.next_stamp → (m : ℕ) → stamp_of o m < o.next_stamp
stamp_below o sound h zero = h
stamp_below o sound h (suc j) = below_by (slice_get o.fibrils j) refl where
  below_by : (q : Option Fibril) → slice_get o.fibrils j ≡ q → stamp_in q < o.next_stamp
  below_by None e = h
  below_by (Some x) e = sound.stamped j x e

pub set_elsewhere_at : (o : FibrilOrder) (i : ℕ) (y : Fibril) (next : ℕ) (m : ℕ) → m ≢ suc i → fibril_at (record { fibrils = slice_set o.fibrils i y; next_stamp = next }) m ≡ fibril_at o m
set_elsewhere_at o i y next zero h = refl
set_elsewhere_at o i y next (suc j) h = set_elsewhere o.fibrils i j y (λ e. h (ap suc e))

becomes_at : (o : FibrilOrder) (n : ℕ) (s : Status) (x : Fibril) → IsSound o → fibril_at o n ≡ Some x → Becomes o (with_status o (record { 0 = n }) s) n s
becomes_at o zero s x sound there = absurd (cc there)
becomes_at o (suc i) s x sound there =
    let h = within o.fibrils i x there in
    let less = sound.stamped i x there in
    let y : Fibril = record { number = record { 0 = suc i }; status = s; stamp = o.next_stamp } in
    let here = set_here o.fibrils i y h in
    let elsewhere = set_elsewhere_at o i y (o.next_stamp + 1) in
    subst (λ (p : FibrilOrder). Becomes o p (suc i) s) (sym (status_set o i s h)) (record {
      status = rw here;
      last = λ m e. rw (here, elsewhere m e) (stamp_below o sound (omega arith) m);
      others = elsewhere;
    })

pub becomes : (o : FibrilOrder) (f : FibrilNo) (s : Status) (x : Fibril) → IsSound o → fibril_at o f.0 ≡ Some x → Becomes o (with_status o f s) f.0 s
becomes o f s x sound there = becomes_at o f.0 s x sound there

-- the first with a status is there
pub first_at : (o : FibrilOrder) (s : Status) (n : ℕ) → IsFirst o s n → Has (fibril_at o n) s
first_at o s n first = has (fibril_at o n) s first.here

-- the fibril that a search finds has a new status
pub sound_found : (o : FibrilOrder) (s new : Status) → IsSound o → IsSound (found_with o new (number_of (first_with s o.fibrils)))
sound_found o s new sound = sound_by (number_of (first_with s o.fibrils)) refl where
  sound_by : (q : Option FibrilNo) → number_of (first_with s o.fibrils) ≡ q → IsSound (found_with o new q)
  sound_by None e = sound
  sound_by (Some f) e = let there = first_at o s f.0 (first_number o s f sound e) in sound_status o f new there.fibril sound there.there

pub found_becomes : (o : FibrilOrder) (s new : Status) (f : FibrilNo) → IsSound o → number_of (first_with s o.fibrils) ≡ Some f → Becomes o (found_with o new (number_of (first_with s o.fibrils))) f.0 new
found_becomes o s new f sound e =
    let there = first_at o s f.0 (first_number o s f sound e) in
    subst (λ (q : Option FibrilNo). Becomes o (found_with o new q) f.0 new) (sym e) (becomes o f new there.fibril sound there.there)

pub sound_none : IsSound no_fibrils
sound_none = record { numbered = λ i x h. absurd (cc h); stamped = λ i x h. absurd (cc h); apart = λ i j x y g h d c e. absurd (cc g) }

pub sound_spawned : (o : FibrilOrder) → IsSound o → IsSound (spawned o)
sound_spawned o sound = let y : Fibril = record { number = record { 0 = length o.fibrils + 1 }; status = Ready; stamp = o.next_stamp } in record {
  numbered = λ j x there. numbered_by j x (which_pushed o.fibrils j y x there);
  stamped = λ j x there. stamped_by j x (which_pushed o.fibrils j y x there);
  apart = λ j k a b s t d c e. apart_by j k a b (which_pushed o.fibrils j y a s) (which_pushed o.fibrils k y b t) d c e;
} where
  new : Fibril
  new = record { number = record { 0 = length o.fibrils + 1 }; status = Ready; stamp = o.next_stamp }

  numbered_by : (j : ℕ) (x : Fibril) → ((j ≡ length o.fibrils) × (new ≡ x)) ⊎ (slice_get o.fibrils j ≡ Some x) → x.number.0 ≡ j + 1
  numbered_by j x (inl h) = rw (← h.1, h.0) refl
  numbered_by j x (inr h) = sound.numbered j x h

  stamped_by : (j : ℕ) (x : Fibril) → ((j ≡ length o.fibrils) × (new ≡ x)) ⊎ (slice_get o.fibrils j ≡ Some x) → x.stamp < o.next_stamp + 1
  stamped_by j x (inl h) = rw (← h.1) (omega arith)
  stamped_by j x (inr h) = let less = sound.stamped j x h in omega arith

  apart_by : (j k : ℕ) (a b : Fibril) → ((j ≡ length o.fibrils) × (new ≡ a)) ⊎ (slice_get o.fibrils j ≡ Some a) → ((k ≡ length o.fibrils) × (new ≡ b)) ⊎ (slice_get o.fibrils k ≡ Some b) → is_live a ≡ true → is_live b ≡ true → a.stamp ≡ b.stamp → j ≡ k
  apart_by j k a b (inl g) (inl h) d c e = g.0 ∙ sym h.0
  apart_by j k a b (inl g) (inr h) d c e = sym (no_next o sound j k b h (sym e ∙ ap (λ (x : Fibril). x.stamp) (sym g.1)))
  apart_by j k a b (inr g) (inl h) d c e = no_next o sound k j a g (e ∙ ap (λ (x : Fibril). x.stamp) (sym h.1))
  apart_by j k a b (inr g) (inr h) d c e = sound.apart j k a b g h d c e

-- a stamp was given where a fibril is there
some_stamp : (o : FibrilOrder) (i : ℕ) (x : Fibril) → IsSound o → slice_get o.fibrils i ≡ Some x → 0 < o.next_stamp
some_stamp o i x sound there = let less = sound.stamped i x there in omega arith

-- the present fibril ends
pub sound_ended : (o : FibrilOrder) → IsSound o → IsSound (end_current o)
sound_ended o sound = sound_by (first_with Ready o.fibrils) refl where
  ended_at : (x : Fibril) (n : ℕ) → x.number.0 ≡ n → fibril_at o n ≡ Some x → IsSound (put_fibril o (record { number = record { 0 = n }; status = Ended; stamp = 0 }))
  ended_at x zero e there = absurd (cc there)
  ended_at x (suc i) e there =
      let h = within o.fibrils i x there in
      rw (before_suc i, lt-ltb i (length o.fibrils) h) (sound_set o i (record { number = record { 0 = suc i }; status = Ended; stamp = 0 }) o.next_stamp sound h (by_suc i) (some_stamp o i x sound there) (omega arith) (λ j y that d c same. absurd (cc c)))

  sound_by : (q : Option Fibril) → first_with Ready o.fibrils ≡ q → IsSound (found_over o q)
  sound_by None e = sound
  sound_by (Some x) e =
      let one = first_there Ready o.fibrils x e in
      let number : x.number.0 ≡ suc one.place = by_place one.place x.number.0 (sound.numbered one.place x one.there) in
      ended_at x x.number.0 refl (subst (λ (n : ℕ). fibril_at o n ≡ Some x) (sym number) one.there)

why_has : (q : Option Fibril) → IsSome (why_at q) → (x : Fibril) × (q ≡ Some x)
why_has None h = absurd (cc h)
why_has (Some x) h = (x, refl)

pub sound_ready : (o : FibrilOrder) (f : FibrilNo) → IsSound o → IsSome (why_of o f) → IsSound (make_ready o f)
sound_ready o f sound h = let there = why_has (fibril_at o f.0) h in sound_status o f Ready there.0 sound there.1

pub ready_becomes : (o : FibrilOrder) (f : FibrilNo) → IsSound o → IsSome (why_of o f) → Becomes o (make_ready o f) f.0 Ready
ready_becomes o f sound h = let there = why_has (fibril_at o f.0) h in becomes o f Ready there.0 sound there.1
