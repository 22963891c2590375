-- What it comes to that fibrils that wait for one thing are made ready one after the other.
use Rattle.std.proofs.Common.{◌≡◌, ◌≢◌, ℕ, zero, suc, ◌+◌, ◌-◌, ◌<◌, ◌≤◌, ◌⊎◌, inl, inr, Bool, true, false, List, [], ◌∷◌, length, Option, Some, None, refl, ap, sym, ◌∙◌, subst, arith}
use Rattle.std.specs.Prelude.{if◌then◌else◌, slice_get, slice_set}
use Rattle.std.proofs.lemmas.Bool.{cases_eq}
use Rattle.ipc_ids.specs.declared.numbers.FibrilNo.{FibrilNo}
use Rattle.ipc_ids.specs.declared.message.Why.{Why}
use Rattle.fibril_core.specs.declared.fibrils.Status.{Status}
use Rattle.fibril_core.specs.declared.fibrils.Status.TheVariants.{Ready, Blocked}
use Rattle.fibril_core.specs.declared.fibrils.Fibril.{Fibril}
use Rattle.fibril_core.specs.Fibrils.{FibrilOrder, same_status, first_blocked, fibril_at, with_status, found_with, wake_first, wake_times, wake_all}
use Rattle.fibril_core.specs.FibrilLaws.{status_in, status_of, stamp_in, stamp_of, IsSound, IsFirst, HasNone, Becomes, WakesAll}
use Rattle.fibril_core.proofs.Places.{set_here, within}
use Rattle.fibril_core.proofs.Orders.{has, has_same, first_number, no_number, first_at, sound_status, becomes, status_set, stamp_below}

-- how many wait
abbrev pub waiting : Why → List Fibril → ℕ
waiting w [] = 0
waiting w (x ∷ xs) = if same_status x.status (Blocked w) then suc (waiting w xs) else waiting w xs

waiting_few : (w : Why) (xs : List Fibril) → waiting w xs ≤ length xs
waiting_few w [] = omega arith
waiting_few w (x ∷ xs) = few_by (same_status x.status (Blocked w)) (waiting_few w xs) where
  few_by : (b : Bool) → waiting w xs ≤ length xs → (if b then suc (waiting w xs) else waiting w xs) ≤ length (x ∷ xs)
  few_by true h = omega arith
  few_by false h = omega arith

-- one of those that wait does so no more
waiting_set : (w : Why) (xs : List Fibril) (i : ℕ) (x y : Fibril) → slice_get xs i ≡ Some x → same_status x.status (Blocked w) ≡ true → same_status y.status (Blocked w) ≡ false → suc (waiting w (slice_set xs i y)) ≡ waiting w xs
waiting_set w [] i x y there h g = absurd (cc there)
waiting_set w (z ∷ xs) zero x y there h g = let same : z ≡ x = cc in rw (same, h, g) refl
waiting_set w (z ∷ xs) (suc i) x y there h g = set_by (same_status z.status (Blocked w)) (waiting_set w xs i x y there h g) where
  set_by : (b : Bool) → suc (waiting w (slice_set xs i y)) ≡ waiting w xs → suc (if b then suc (waiting w (slice_set xs i y)) else waiting w (slice_set xs i y)) ≡ (if b then suc (waiting w xs) else waiting w xs)
  set_by true e = ap suc e
  set_by false e = e

none_waits : (w : Why) (xs : List Fibril) (i : ℕ) (x : Fibril) → waiting w xs ≡ 0 → slice_get xs i ≡ Some x → same_status x.status (Blocked w) ≡ true → ⊥
none_waits w [] i x h there is = cc there
none_waits w (z ∷ xs) zero x h there is = let same : z ≡ x = cc in none_by (waiting w xs) (rw (same, is) at h) where
  none_by : (n : ℕ) → suc n ≡ 0 → ⊥
  none_by n e = omega arith
none_waits w (z ∷ xs) (suc i) x h there is = none_by (same_status z.status (Blocked w)) (λ e. none_waits w xs i x e there is) h where
  none_by : (b : Bool) → (waiting w xs ≡ 0 → ⊥) → (if b then suc (waiting w xs) else waiting w xs) ≡ 0 → ⊥
  none_by true more e = omega arith
  none_by false more e = more e

-- what a wake of the first comes to
pub record Woke (q p : FibrilOrder) (w : Why) : Type 0 where
  pub number : ℕ
  pub first : IsFirst q (Blocked w) number
  pub becomes : Becomes q p number Ready
  pub sound : IsSound p
  pub stamp : stamp_of p number ≡ q.next_stamp
  pub next : p.next_stamp ≡ q.next_stamp + 1
  pub fewer : suc (waiting w p.fibrils) ≡ waiting w q.fibrils

woke_at : (q : FibrilOrder) (w : Why) (n : ℕ) (x : Fibril) → IsSound q → IsFirst q (Blocked w) n → fibril_at q n ≡ Some x → x.status ≡ Blocked w → Woke q (with_status q (record { 0 = n }) Ready) w
woke_at q w zero x sound first there is = absurd (cc there)
woke_at q w (suc i) x sound first there is =
    let h = within q.fibrils i x there in
    let f : FibrilNo = record { 0 = suc i } in
    record {
      number = suc i;
      first = first;
      becomes = becomes q f Ready x sound there;
      sound = sound_status q f Ready x sound there;
      stamp = ap (λ (p : FibrilOrder). stamp_of p (suc i)) (status_set q i Ready h) ∙ ap stamp_in (set_here q.fibrils i (record { number = f; status = Ready; stamp = q.next_stamp }) h);
      next = refl;
      fewer = ap (λ (p : FibrilOrder). suc (waiting w p.fibrils)) (status_set q i Ready h) ∙ (waiting_set w q.fibrils i x (record { number = f; status = Ready; stamp = q.next_stamp }) there (has_same x (Blocked w) is) refl);
    }

-- none waits, or the first is woken
pub woke : (q : FibrilOrder) (w : Why) → IsSound q → (HasNone q (Blocked w) × (wake_first q w ≡ q)) ⊎ Woke q (wake_first q w) w
woke q w sound = woke_by (first_blocked q w) refl where
  woke_by : (g : Option FibrilNo) → first_blocked q w ≡ g → (HasNone q (Blocked w) × (found_with q Ready g ≡ q)) ⊎ Woke q (found_with q Ready g) w
  woke_by None e = inl (no_number q (Blocked w) e, refl)
  woke_by (Some f) e =
      let first = first_number q (Blocked w) f sound e in
      let there = first_at q (Blocked w) f.0 first in
      inr (woke_at q w f.0 there.fibril sound first there.there there.status)

-- some of those that wait were woken
pub record Waking (o q : FibrilOrder) (w : Why) : Type 0 where
  pub sound : IsSound q
  pub later : o.next_stamp ≤ q.next_stamp
  pub waits : (n : ℕ) → status_of q n ≡ Some (Blocked w) → fibril_at q n ≡ fibril_at o n
  pub woken : (n : ℕ) → status_of o n ≡ Some (Blocked w) → (status_of q n ≡ Some (Blocked w)) ⊎ ((status_of q n ≡ Some Ready) × (o.next_stamp ≤ stamp_of q n))
  pub others : (n : ℕ) → status_of o n ≢ Some (Blocked w) → fibril_at q n ≡ fibril_at o n
  pub before : (m n : ℕ) → status_of o m ≡ Some (Blocked w) → status_of q m ≡ Some Ready → status_of q n ≡ Some (Blocked w) → stamp_of o m < stamp_of o n
  pub order : (m n : ℕ) → status_of o m ≡ Some (Blocked w) → status_of o n ≡ Some (Blocked w) → status_of q m ≡ Some Ready → status_of q n ≡ Some Ready → stamp_of o m < stamp_of o n → stamp_of q m < stamp_of q n

both : {w : Why} {g : Option Status} → g ≡ Some (Blocked w) → g ≡ Some Ready → ⊥
both d e = cc

begins : (o : FibrilOrder) (w : Why) → IsSound o → Waking o o w
begins o w sound = record {
  sound = sound;
  later = omega arith;
  waits = λ n h. refl;
  woken = λ n h. inl h;
  others = λ n h. refl;
  before = λ m n h g e. absurd (both h g);
  order = λ m n h g e f l. absurd (both h e);
}

-- two that are blocked have different stamps
differ : (q : FibrilOrder) (m n : ℕ) (v w : Why) → IsSound q → status_of q m ≡ Some (Blocked v) → status_of q n ≡ Some (Blocked w) → stamp_of q m ≡ stamp_of q n → m ≡ n
differ q zero n v w sound h g e = absurd (cc h)
differ q (suc i) zero v w sound h g e = absurd (cc g)
differ q (suc i) (suc j) v w sound h g e =
    let a = has (slice_get q.fibrils i) (Blocked v) h in
    let b = has (slice_get q.fibrils j) (Blocked w) g in
    ap suc (sound.apart i j a.fibril b.fibril a.there b.there (rw a.status refl) (rw b.status refl) (sym (ap stamp_in a.there) ∙ e ∙ ap stamp_in b.there))

less_of : (a b c d : ℕ) → a ≤ b → (a ≡ b → ⊥) → a ≡ c → b ≡ d → c < d
less_of a b c d h apart e f = grind (arith, cases_eq a b)

not_less : (a : ℕ) → a < a → ⊥
not_less a h = omega arith

not_both : (a b : ℕ) → a < b → b < a → ⊥
not_both a b h g = omega arith

-- one more is woken
goes_on : (o q p : FibrilOrder) (w : Why) → Waking o q w → Woke q p w → Waking o p w
goes_on o q p w k s =
    let here : fibril_at q s.number ≡ fibril_at o s.number = k.waits s.number s.first.here in
    let was : status_of o s.number ≡ Some (Blocked w) = sym (ap status_in here) ∙ s.first.here in
    let now : status_of p s.number ≡ Some Ready = s.becomes.status in
    let keeps : (n : ℕ) → n ≢ s.number → fibril_at p n ≡ fibril_at q n = s.becomes.others in
    record {
      sound = s.sound;
      later = let e = s.next in let l = k.later in omega arith;
      waits = λ n h. waits_by now keeps n h (cases_eq n s.number);
      woken = λ n h. woken_by now keeps n h (cases_eq n s.number);
      others = λ n h. others_by was keeps n h (cases_eq n s.number);
      before = λ m n h g e. before_by here now keeps m n h g e (cases_eq m s.number) (cases_eq n s.number);
      order = λ m n h g e f l. order_by here now keeps m n h g e f l (cases_eq m s.number) (cases_eq n s.number);
    } where
      waits_by : status_of p s.number ≡ Some Ready → ((n : ℕ) → n ≢ s.number → fibril_at p n ≡ fibril_at q n) → (n : ℕ) → status_of p n ≡ Some (Blocked w) → (n ≡ s.number) ⊎ (n ≢ s.number) → fibril_at p n ≡ fibril_at o n
      waits_by now keeps n h (inl e) = absurd (both (rw e at h) now)
      waits_by now keeps n h (inr e) = keeps n e ∙ k.waits n (sym (ap status_in (keeps n e)) ∙ h)

      woken_by : status_of p s.number ≡ Some Ready → ((n : ℕ) → n ≢ s.number → fibril_at p n ≡ fibril_at q n) → (n : ℕ) → status_of o n ≡ Some (Blocked w) → (n ≡ s.number) ⊎ (n ≢ s.number) → (status_of p n ≡ Some (Blocked w)) ⊎ ((status_of p n ≡ Some Ready) × (o.next_stamp ≤ stamp_of p n))
      woken_by now keeps n h (inl e) = let l = k.later in let t = s.stamp in inr (rw e now, rw e (omega arith))
      woken_by now keeps n h (inr e) = rw (keeps n e) (k.woken n h)

      others_by : status_of o s.number ≡ Some (Blocked w) → ((n : ℕ) → n ≢ s.number → fibril_at p n ≡ fibril_at q n) → (n : ℕ) → status_of o n ≢ Some (Blocked w) → (n ≡ s.number) ⊎ (n ≢ s.number) → fibril_at p n ≡ fibril_at o n
      others_by was keeps n h (inl e) = absurd (h (rw e was))
      others_by was keeps n h (inr e) = keeps n e ∙ k.others n h

      before_by : fibril_at q s.number ≡ fibril_at o s.number → status_of p s.number ≡ Some Ready → ((n : ℕ) → n ≢ s.number → fibril_at p n ≡ fibril_at q n) → (m n : ℕ) → status_of o m ≡ Some (Blocked w) → status_of p m ≡ Some Ready → status_of p n ≡ Some (Blocked w) → (m ≡ s.number) ⊎ (m ≢ s.number) → (n ≡ s.number) ⊎ (n ≢ s.number) → stamp_of o m < stamp_of o n
      before_by here now keeps m n h g e c (inl d) = absurd (both (rw d at e) now)
      before_by here now keeps m n h g e (inl c) (inr d) =
          let is : status_of q n ≡ Some (Blocked w) = sym (ap status_in (keeps n d)) ∙ e in
          let least = s.first.least n is in
          let apart : stamp_of q s.number ≡ stamp_of q n → ⊥ = λ t. d (sym (differ q s.number n w w k.sound s.first.here is t)) in
          let mine : stamp_of q s.number ≡ stamp_of o s.number = ap stamp_in here in
          let its : stamp_of q n ≡ stamp_of o n = ap stamp_in (k.waits n is) in
          rw c (less_of (stamp_of q s.number) (stamp_of q n) (stamp_of o s.number) (stamp_of o n) least apart mine its)
      before_by here now keeps m n h g e (inr c) (inr d) = k.before m n h (sym (ap status_in (keeps m c)) ∙ g) (sym (ap status_in (keeps n d)) ∙ e)

      order_by : fibril_at q s.number ≡ fibril_at o s.number → status_of p s.number ≡ Some Ready → ((n : ℕ) → n ≢ s.number → fibril_at p n ≡ fibril_at q n) → (m n : ℕ) → status_of o m ≡ Some (Blocked w) → status_of o n ≡ Some (Blocked w) → status_of p m ≡ Some Ready → status_of p n ≡ Some Ready → stamp_of o m < stamp_of o n → (m ≡ s.number) ⊎ (m ≢ s.number) → (n ≡ s.number) ⊎ (n ≢ s.number) → stamp_of p m < stamp_of p n
      order_by here now keeps m n h g e f l (inl c) (inl d) = let same : m ≡ n = c ∙ sym d in absurd (not_less (stamp_of o n) (rw same at l))
      order_by here now keeps m n h g e f l (inl c) (inr d) =
          let other : stamp_of o n < stamp_of o s.number = k.before n s.number g (sym (ap status_in (keeps n d)) ∙ f) s.first.here in
          absurd (not_both (stamp_of o s.number) (stamp_of o n) (rw c at l) other)
      order_by here now keeps m n h g e f l (inr c) (inl d) = rw d (s.becomes.last m c)
      order_by here now keeps m n h g e f l (inr c) (inr d) = rw (keeps m c, keeps n d) (k.order m n h g (sym (ap status_in (keeps m c)) ∙ e) (sym (ap status_in (keeps n d)) ∙ f) l)

-- so many times, and as many wait no more
pub record WakingTimes (n : ℕ) (o q : FibrilOrder) (w : Why) : Type 0 where
  pub waking : Waking o q w
  pub fewer : (waiting w q.fibrils + n ≤ length o.fibrils) ⊎ HasNone q (Blocked w)

pub waking_times : (n : ℕ) (o : FibrilOrder) (w : Why) → IsSound o → WakingTimes n o (wake_times n o w) w
waking_times zero o w sound = let few = waiting_few w o.fibrils in record { waking = begins o w sound; fewer = inl (omega arith) }
waking_times (suc n) o w sound = let last = waking_times n o w sound in times_by last (woke (wake_times n o w) w last.waking.sound) where
  fewer_by : Woke (wake_times n o w) (wake_first (wake_times n o w) w) w → (waiting w (wake_times n o w).fibrils + n ≤ length o.fibrils) ⊎ HasNone (wake_times n o w) (Blocked w) → (waiting w (wake_first (wake_times n o w) w).fibrils + suc n ≤ length o.fibrils) ⊎ HasNone (wake_first (wake_times n o w) w) (Blocked w)
  fewer_by s (inl h) = let e = s.fewer in inl (omega arith)
  fewer_by s (inr none) = absurd (none s.number s.first.here)

  times_by : WakingTimes n o (wake_times n o w) w → (HasNone (wake_times n o w) (Blocked w) × (wake_first (wake_times n o w) w ≡ wake_times n o w)) ⊎ Woke (wake_times n o w) (wake_first (wake_times n o w) w) w → WakingTimes (suc n) o (wake_first (wake_times n o w) w) w
  times_by last (inl h) = subst (λ (q : FibrilOrder). WakingTimes (suc n) o q w) (sym h.1) (record { waking = last.waking; fewer = inr h.0 })
  times_by last (inr s) = record { waking = goes_on o (wake_times n o w) (wake_first (wake_times n o w) w) w last.waking s; fewer = fewer_by s last.fewer }

-- where a fibril is there, a stamp was given
some_stamp : (o : FibrilOrder) (n : ℕ) (s : Status) → IsSound o → status_of o n ≡ Some s → 0 < o.next_stamp
some_stamp o zero s sound h = absurd (cc h)
some_stamp o (suc i) s sound h = let that = has (slice_get o.fibrils i) s h in let less = sound.stamped i that.fibril that.there in omega arith

-- in the end none waits
none_left : (w : Why) (q : FibrilOrder) (n : ℕ) → (waiting w q.fibrils + n ≤ n) ⊎ HasNone q (Blocked w) → HasNone q (Blocked w)
none_left w q n (inr none) m is = none m is
none_left w q n (inl h) zero is = cc is
none_left w q n (inl h) (suc j) is =
    let that = has (slice_get q.fibrils j) (Blocked w) is in
    none_waits w q.fibrils j that.fibril (omega arith) that.there (has_same that.fibril (Blocked w) that.status)

pub wakes_all : (o : FibrilOrder) (w : Why) → IsSound o → WakesAll o (wake_all o w) w
wakes_all o w sound =
    let whole = waking_times (length o.fibrils) o w sound in
    let none = none_left w (wake_all o w) (length o.fibrils) whole.fewer in
    record {
      none = none;
      ready = λ n h. (ready_by none n (whole.waking.woken n h)).0;
      order = λ m n h g l. whole.waking.order m n h g (ready_by none m (whole.waking.woken m h)).0 (ready_by none n (whole.waking.woken n g)).0 l;
      behind = λ m n h g. behind_by m n (whole.waking.others m h) (ready_by none n (whole.waking.woken n g)).1 (stamp_below o sound (some_stamp o n (Blocked w) sound g) m);
      others = whole.waking.others;
    } where
      ready_by : HasNone (wake_all o w) (Blocked w) → (n : ℕ) → (status_of (wake_all o w) n ≡ Some (Blocked w)) ⊎ ((status_of (wake_all o w) n ≡ Some Ready) × (o.next_stamp ≤ stamp_of (wake_all o w) n)) → (status_of (wake_all o w) n ≡ Some Ready) × (o.next_stamp ≤ stamp_of (wake_all o w) n)
      ready_by none n (inl h) = absurd (none n h)
      ready_by none n (inr h) = h

      behind_by : (m n : ℕ) → fibril_at (wake_all o w) m ≡ fibril_at o m → o.next_stamp ≤ stamp_of (wake_all o w) n → stamp_of o m < o.next_stamp → stamp_of (wake_all o w) m < stamp_of (wake_all o w) n
      behind_by m n same late less = let e : stamp_of (wake_all o w) m ≡ stamp_of o m = ap stamp_in same in omega arith

pub sound_wakes : (o : FibrilOrder) (w : Why) → IsSound o → IsSound (wake_all o w)
sound_wakes o w sound = (waking_times (length o.fibrils) o w sound).waking.sound

-- where none waits any more, further wakes change nothing
pub wakes_end : (n m : ℕ) (o : FibrilOrder) (w : Why) → n ≤ m → first_blocked (wake_times n o w) w ≡ None → wake_times m o w ≡ wake_times n o w
wakes_end n m o w h none = end_by (m - n) m (omega arith) where
  stays : (k l : ℕ) → l ≡ n + k → wake_times l o w ≡ wake_times n o w
  stays zero l e = let same : l ≡ n = omega arith in ap (λ (i : ℕ). wake_times i o w) same
  stays (suc k) zero e = absurd (omega arith)
  stays (suc k) (suc l) e =
      let before = stays k l (omega arith) in
      ap (λ (p : FibrilOrder). wake_first p w) before ∙ ap (found_with (wake_times n o w) Ready) none

  end_by : (k l : ℕ) → l ≡ n + k → wake_times l o w ≡ wake_times n o w
  end_by k l e = stays k l e
