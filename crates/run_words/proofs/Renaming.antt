-- Two kernels whose calls stand in one order within each place are one kernel, when their stamps are given anew.
use Rattle.std.proofs.Common.{◌≡◌, ℕ, zero, suc, ◌+◌, ◌<◌, ◌≤◌, ◌⊎◌, inl, inr, Bool, true, false, ◌&&◌, max, Option, None, Some, option_map, nat_lt, nat_le, refl, sym, ap, ◌∙◌, arith}
use Rattle.std.specs.Prelude.{if◌then◌else◌}
use Rattle.std.specs.Ordering.{nat_cmp}
use Rattle.std.specs.Cmp.{nat_cmp_total}
use Rattle.std.specs.FinMap.{FinMap, same_map, nat_cmp-IsAntisymmetric}
use Rattle.std.proofs.lemmas.Bool.{cases_lt}
use Rattle.std.proofs.lemmas.Bool.Decides.{nat_tests}
use Rattle.call_slab.specs.declared.call.Call.{Call}
use Rattle.call_slab.specs.declared.call.Place.{Place}
use Rattle.answerbox.specs.Calls.{CallTable, call_at, same_place}
use Rattle.address_space.specs.Memory.{Memory}
use Rattle.switchboard.specs.State.{KernelState, Tasks}
use Rattle.switchboard.specs.Sound.{IsSound}
use Rattle.kernel_core.proofs.InEvent.{same_place-true}
use Rattle.state_words.specs.Order.{rank, unstamped, AreOfOneOrder}
use Rattle.run_words.specs.Counted.{with_count}
use Rattle.run_words.specs.Stamped.{Rises, Shifts, restamp, restamped, restamped_records, with_stamps}
use Rattle.run_words.proofs.TableStamps.{found}
use Rattle.run_words.specs.Kernel.{AreAlikeKernels}
use Rattle.run_words.proofs.Ranks.{HasOldCalls, same_place_self, same_order, same_rank}

-- with other stamps of the same order, and as if before any event, the two states are one
pub record AreRenamed (a b : KernelState) : Type 0 where
  pub f : Place → ℕ → ℕ
  pub g : Place → ℕ → ℕ
  pub d : ℕ
  pub e : ℕ
  pub n : ℕ
  pub m : ℕ
  pub f_rises : Rises f
  pub g_rises : Rises g
  pub f_shifts : Shifts n d f
  pub g_shifts : Shifts m e g
  pub f_late : n ≤ a.calls.next_stamp
  pub g_late : m ≤ b.calls.next_stamp
  pub same : with_stamps f d (with_count 0 a) ≡ with_stamps g e (with_count 0 b)

-- ---- the last stamp in b of a call that stands at p in a with a stamp up to s
abbrev share : Place → ℕ → Option Call → Option Call → ℕ
share p s None o = 0
share p s (Some c) None = 0
share p s (Some c) (Some d) = if same_place c.place p && nat_le c.stamp s then d.stamp else 0

abbrev last_from : CallTable → CallTable → Place → ℕ → ℕ → ℕ → ℕ
last_from a b p s n zero = 0
last_from a b p s n (suc k) = max (share p s (call_at a n) (call_at b n)) (last_from a b p s (n + 1) k)

abbrev last : CallTable → CallTable → Place → ℕ → ℕ
last a b p s = last_from a b p s 0 a.next_number

chosen_rises : (b : Bool) (s t u v : ℕ) → s ≤ t
    → (if b && nat_le u s then v else 0) ≤ (if b && nat_le u t then v else 0)
chosen_rises true s t u v h = grind (arith, nat_tests)
chosen_rises false s t u v h = omega arith

share_rises : (p : Place) (s t : ℕ) → s ≤ t → (x y : Option Call) → share p s x y ≤ share p t x y
share_rises p s t h None y = omega arith
share_rises p s t h (Some c) None = omega arith
share_rises p s t h (Some c) (Some d) = chosen_rises (same_place c.place p) s t c.stamp d.stamp h

last_rises : (a b : CallTable) (p : Place) (s t : ℕ) → s ≤ t → (n k : ℕ) → last_from a b p s n k ≤ last_from a b p t n k
last_rises a b p s t h n zero = omega arith
last_rises a b p s t h n (suc k) =
    let here = share_rises p s t h (call_at a n) (call_at b n) in
    let there = last_rises a b p s t h (n + 1) k in
    omega arith

-- each of those stamps is at most m
abbrev AreUpTo : CallTable → CallTable → Place → ℕ → ℕ → Type 0
AreUpTo a b p s m =
    (q : ℕ) (c d : Call) → call_at a q ≡ Some c → call_at b q ≡ Some d → c.place ≡ p → c.stamp ≤ s → d.stamp ≤ m

share_up_to : (p : Place) (s m : ℕ) (x y : Option Call)
    → ((c d : Call) → x ≡ Some c → y ≡ Some d → c.place ≡ p → c.stamp ≤ s → d.stamp ≤ m) → share p s x y ≤ m
share_up_to p s m None y h = omega arith
share_up_to p s m (Some c) None h = omega arith
share_up_to p s m (Some c) (Some d) h = by (same_place c.place p) (nat_le c.stamp s) refl refl where
  by : (b b' : Bool) → same_place c.place p ≡ b → nat_le c.stamp s ≡ b' → (if b && b' then d.stamp else 0) ≤ m
  by true true e e' =
      let le : c.stamp ≤ s = grind (arith, nat_tests) in h c d refl refl (same_place-true c.place p e) le
  by true false e e' = omega arith
  by false b' e e' = omega arith

last_up_to : (a b : CallTable) (p : Place) (s m : ℕ) → AreUpTo a b p s m → (n k : ℕ) → last_from a b p s n k ≤ m
last_up_to a b p s m h n zero = omega arith
last_up_to a b p s m h n (suc k) =
    let here = share_up_to p s m (call_at a n) (call_at b n) (h n) in
    let there = last_up_to a b p s m h (n + 1) k in
    omega arith

-- the stamp of the call itself is among them
chosen_now : (b : Bool) (s v : ℕ) → b ≡ true → v ≤ (if b && nat_le s s then v else 0)
chosen_now true s v e = grind (arith, nat_tests)
chosen_now false s v e = absurd (cc e)

share_now : (c d : Call) (x y : Option Call) → x ≡ Some c → y ≡ Some d → d.stamp ≤ share c.place c.stamp x y
share_now c d None y e e' = absurd (cc e)
share_now c d (Some c') None e e' = absurd (cc e')
share_now c d (Some c') (Some d') e e' =
    let one : c' ≡ c = cc e in
    let two : d' ≡ d = cc e' in
    rw (one, two) (chosen_now (same_place c.place c.place) c.stamp d.stamp (same_place_self c.place))

last_now : (a b : CallTable) (c d : Call) (q : ℕ) → call_at a q ≡ Some c → call_at b q ≡ Some d
    → (n k : ℕ) → n ≤ q → q < n + k → d.stamp ≤ last_from a b c.place c.stamp n k
last_now a b c d q e e' n zero low high = absurd (omega arith)
last_now a b c d q e e' n (suc k) low high =
    by (λ l. last_now a b c d q e e' (n + 1) k l (omega arith)) (cases_lt n q) where
      by : (n + 1 ≤ q → d.stamp ≤ last_from a b c.place c.stamp (n + 1) k) → (n < q) ⊎ (q ≤ n)
          → d.stamp ≤ last_from a b c.place c.stamp n (suc k)
      by later (inl l) = let there = later (omega arith) in omega arith
      by later (inr l) =
          let same : n ≡ q = omega arith in
          let here = share_now c d (call_at a n) (call_at b n) (ap (call_at a) same ∙ e) (ap (call_at b) same ∙ e') in
          omega arith

-- ---- the stamps of a, given anew: to each the last stamp in b is added
abbrev added : CallTable → CallTable → Place → ℕ → ℕ
added a b p s = if nat_lt s a.next_stamp then last a b p s else b.next_stamp

abbrev renaming : CallTable → CallTable → Place → ℕ → ℕ
renaming a b p s = s + added a b p s

last_below : (a b : CallTable) (p : Place) (s : ℕ) → HasOldCalls b → last a b p s ≤ b.next_stamp
last_below a b p s old =
    last_up_to a b p s b.next_stamp (λ q c d x y z w. let less = old.stamp q d y in omega arith) 0 a.next_number

added_by : (s t n m u v : ℕ) → s ≤ t → u ≤ v → u ≤ m
    → (if nat_lt s n then u else m) ≤ (if nat_lt t n then v else m)
added_by s t n m u v h k l = by (cases_lt t n) (cases_lt s n) where
  by : (t < n) ⊎ (n ≤ t) → (s < n) ⊎ (n ≤ s) → (if nat_lt s n then u else m) ≤ (if nat_lt t n then v else m)
  by (inl x) (inl y) = grind (arith, nat_tests)
  by (inl x) (inr y) = absurd (omega arith)
  by (inr x) (inl y) = grind (arith, nat_tests)
  by (inr x) (inr y) = grind (arith, nat_tests)

added_rises : (a b : CallTable) (p : Place) (s t : ℕ) → HasOldCalls b → s ≤ t → added a b p s ≤ added a b p t
added_rises a b p s t old h =
    added_by s t a.next_stamp b.next_stamp (last a b p s) (last a b p t) h (last_rises a b p s t h 0 a.next_number)
    (last_below a b p s old)

tests_alike : (s t u v : ℕ) → (s ≤ t → u ≤ v) → (t ≤ s → v ≤ u) → nat_lt s t ≡ nat_lt (s + u) (t + v)
tests_alike s t u v h k = by (cases_lt s t) where
  by : (s < t) ⊎ (t ≤ s) → nat_lt s t ≡ nat_lt (s + u) (t + v)
  by (inl l) = let le = h (omega arith) in grind (arith, nat_tests)
  by (inr l) = let le = k l in grind (arith, nat_tests)

rises : (a b : CallTable) → HasOldCalls b → Rises (renaming a b)
rises a b old p s t =
    tests_alike s t (added a b p s) (added a b p t) (λ h. added_rises a b p s t old h) (λ h. added_rises a b p t s old h)

late_by : (s n u m : ℕ) → n ≤ s → s + (if nat_lt s n then u else m) ≡ s + m
late_by s n u m h = grind (arith, nat_tests)

shifts : (a b : CallTable) → Shifts a.next_stamp b.next_stamp (renaming a b)
shifts a b p s h = late_by s a.next_stamp (last a b p s) b.next_stamp h

-- ---- a call gets the same stamp from both sides
same_unstamped : (a b : CallTable) → AreOfOneOrder a b → (q : ℕ) (c d : Call)
    → call_at a q ≡ Some c → call_at b q ≡ Some d → unstamped c ≡ unstamped d
same_unstamped a b one q c d x y =
    let e : Some (unstamped c) ≡ Some (unstamped d) =
    ap (option_map unstamped) (sym x) ∙ one.same q ∙ ap (option_map unstamped) y in
    cc e

same_place_of : (a b : CallTable) → AreOfOneOrder a b → (q : ℕ) (c d : Call)
    → call_at a q ≡ Some c → call_at b q ≡ Some d → d.place ≡ c.place
same_place_of a b one q c d x y = ap (λ (z : Call). z.place) (sym (same_unstamped a b one q c d x y))

last_is : (a b : CallTable) → AreOfOneOrder a b → HasOldCalls a → HasOldCalls b → (q : ℕ) (c d : Call)
    → call_at a q ≡ Some c → call_at b q ≡ Some d → last a b c.place c.stamp ≡ d.stamp
last_is a b one old old' q c d x y =
    let below = old.number q c x in
    let low = last_now a b c d q x y 0 a.next_number (omega arith) (omega arith) in
    let high = last_up_to a b c.place c.stamp d.stamp
    (λ r c' d' x' y' z w. same_order a b old' c c' d d' c.place q y (one.ranks q c d x y) (one.ranks r c' d' x' y')
    refl z (same_place_of a b one q c d x y) (same_place_of a b one r c' d' x' y' ∙ z) w) 0 a.next_number in
    omega arith

early_by : (s n u m : ℕ) → s < n → s + (if nat_lt s n then u else m) ≡ s + u
early_by s n u m h = grind (arith, nat_tests)

renaming_is : (a b : CallTable) → AreOfOneOrder a b → HasOldCalls a → HasOldCalls b → (q : ℕ) (c d : Call)
    → call_at a q ≡ Some c → call_at b q ≡ Some d → renaming a b c.place c.stamp ≡ c.stamp + d.stamp
renaming_is a b one old old' q c d x y =
    early_by c.stamp a.next_stamp (last a b c.place c.stamp) b.next_stamp (old.stamp q c x)
    ∙ ap (λ (m : ℕ). c.stamp + m) (last_is a b one old old' q c d x y)

turned : (a b : CallTable) → AreOfOneOrder a b → AreOfOneOrder b a
turned a b one =
    record {
      next = sym one.next;
      same = λ n. sym (one.same n);
      ranks = λ n c d x y. sym (one.ranks n d c y x);
    }

stamped : (c d : Call) (s t : ℕ) → unstamped c ≡ unstamped d → s ≡ t
    → Some (record c { stamp = s }) ≡ Some (record d { stamp = t })
stamped c d s t e k =
    ap (λ (z : Call). Some (record z { stamp = s })) e ∙ ap (λ (m : ℕ). Some (record d { stamp = m })) k

calls_meet : (a b : CallTable) → AreOfOneOrder a b → (x y : Option Call) → option_map unstamped x ≡ option_map unstamped y
    → ((c d : Call) → x ≡ Some c → y ≡ Some d
    → Some (restamp (renaming a b) c) ≡ Some (restamp (renaming b a) d))
    → option_map (restamp (renaming a b)) x ≡ option_map (restamp (renaming b a)) y
calls_meet a b one None None e h = refl
calls_meet a b one None (Some d) e h = absurd (cc e)
calls_meet a b one (Some c) None e h = absurd (cc e)
calls_meet a b one (Some c) (Some d) e h = h c d refl refl

swapped : (s t : ℕ) → s + t ≡ t + s
swapped s t = omega arith

records_same : (a b : CallTable) → AreOfOneOrder a b → HasOldCalls a → HasOldCalls b
    → restamped_records (renaming a b) a.records ≡ restamped_records (renaming b a) b.records
records_same a b one old old' =
    same_map nat_cmp_total nat_cmp-IsAntisymmetric _ _ (λ q.
    found (renaming a b) a.records q
    ∙ calls_meet a b one (call_at a q) (call_at b q) (one.same q) (λ c d x y.
    stamped c d (renaming a b c.place c.stamp) (renaming b a d.place d.stamp) (same_unstamped a b one q c d x y)
    (renaming_is a b one old old' q c d x y ∙ swapped c.stamp d.stamp
    ∙ sym (renaming_is b a (turned a b one) old' old q d c y x)))
    ∙ sym (found (renaming b a) b.records q))

-- the parts of a table
abbrev table : FinMap nat_cmp Call → ℕ → ℕ → CallTable
table records number stamp = record { records = records; next_number = number; next_stamp = stamp }

tables_same : (a b : CallTable) → AreOfOneOrder a b → HasOldCalls a → HasOldCalls b
    → restamped (renaming a b) b.next_stamp a ≡ restamped (renaming b a) a.next_stamp b
tables_same a b one old old' =
    ap (λ r. table r a.next_number (a.next_stamp + b.next_stamp)) (records_same a b one old old')
    ∙ ap (λ (m : ℕ). table (restamped_records (renaming b a) b.records) m (a.next_stamp + b.next_stamp)) one.next
    ∙ ap (table (restamped_records (renaming b a) b.records) b.next_number) (swapped a.next_stamp b.next_stamp)

old_calls : (k : KernelState) → IsSound k → HasOldCalls k.calls
old_calls k h =
    record {
      number = λ q c e. (h.calls.each q c e).below;
      stamp = λ q c e. (h.calls.each q c e).stamp;
    }

-- a state of these parts, before any event
abbrev made_of : Tasks → CallTable → Memory → KernelState
made_of tasks calls memory = record { tasks = tasks; calls = calls; memory = memory; events = 0 }

-- sound states that are alike are one, when their stamps are given anew
pub renamed : (a b : KernelState) → IsSound a → IsSound b → AreAlikeKernels a b → AreRenamed a b
renamed a b h k alike =
    record {
      f = renaming a.calls b.calls;
      g = renaming b.calls a.calls;
      d = b.calls.next_stamp;
      e = a.calls.next_stamp;
      n = a.calls.next_stamp;
      m = b.calls.next_stamp;
      f_rises = rises a.calls b.calls (old_calls b k);
      g_rises = rises b.calls a.calls (old_calls a h);
      f_shifts = shifts a.calls b.calls;
      g_shifts = shifts b.calls a.calls;
      f_late = omega arith;
      g_late = omega arith;
      same = ap (λ (z : Tasks). made_of z (restamped (renaming a.calls b.calls) b.calls.next_stamp a.calls) a.memory) alike.tasks
          ∙ ap (λ (z : CallTable). made_of b.tasks z a.memory) (tables_same a.calls b.calls alike.calls (old_calls a h) (old_calls b k))
          ∙ ap (λ (z : Memory). made_of b.tasks (restamped (renaming b.calls a.calls) a.calls.next_stamp b.calls) z) alike.memory;
    }

-- ---- states that are one, when their stamps are given anew, are alike
still_unstamped : (f : Place → ℕ → ℕ) (o : Option Call)
    → option_map unstamped (option_map (restamp f) o) ≡ option_map unstamped o
still_unstamped f None = refl
still_unstamped f (Some c) = refl

module _ (f g : Place → ℕ → ℕ) (d e : ℕ) (a b : CallTable) (is : restamped f d a ≡ restamped g e b) where
  calls_same : (q : ℕ) → option_map (restamp f) (call_at a q) ≡ option_map (restamp g) (call_at b q)
  calls_same q =
      sym (found f a.records q) ∙ ap (λ (z : CallTable). call_at z q) is ∙ found g b.records q

  unstamped_same : (q : ℕ) → option_map unstamped (call_at a q) ≡ option_map unstamped (call_at b q)
  unstamped_same q =
      sym (still_unstamped f (call_at a q)) ∙ ap (option_map unstamped) (calls_same q) ∙ still_unstamped g (call_at b q)

  one_call : (q : ℕ) (c c' : Call) → call_at a q ≡ Some c → call_at b q ≡ Some c' → restamp f c ≡ restamp g c'
  one_call q c c' x y =
      let same : Some (restamp f c) ≡ Some (restamp g c') =
      ap (option_map (restamp f)) (sym x) ∙ calls_same q ∙ ap (option_map (restamp g)) y in
      cc same

  module _ (f_rises : Rises f) (g_rises : Rises g) where
    ranks_same : (q : ℕ) (c c' : Call) → call_at a q ≡ Some c → call_at b q ≡ Some c' → rank a c ≡ rank b c'
    ranks_same q c c' x y =
        sym (same_rank f d f_rises a c)
        ∙ ap (λ (z : CallTable). rank z (restamp f c)) is
        ∙ ap (rank (restamped g e b)) (one_call q c c' x y)
        ∙ same_rank g e g_rises b c'

    one_order : AreOfOneOrder a b
    one_order = record { next = ap (λ (z : CallTable). z.next_number) is; same = unstamped_same; ranks = ranks_same }

-- states that are one with other stamps of the same order, but for the count of events, are alike
pub alike_from : (f g : Place → ℕ → ℕ) (d e : ℕ) (a b : KernelState) → Rises f → Rises g
    → with_stamps f d (with_count 0 a) ≡ with_stamps g e (with_count 0 b) → AreAlikeKernels a b
alike_from f g d e a b f_rises g_rises is =
    record {
      tasks = ap (λ (z : KernelState). z.tasks) is;
      calls = one_order f g d e a.calls b.calls (ap (λ (z : KernelState). z.calls) is) f_rises g_rises;
      memory = ap (λ (z : KernelState). z.memory) is;
    }
