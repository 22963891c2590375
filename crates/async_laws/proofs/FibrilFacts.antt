-- What each kind of fact, and each change of the fibrils, does to the fit of the fibrils.
use Rattle.std.proofs.Common.{ℕ, zero, suc, ◌-◌, ◌≡◌, Bool, true, false, length}
use Rattle.std.proofs.Common.{Option, Some, None, List, [], ◌∷◌, ◌++◌, refl, subst, arith}
use Rattle.std.specs.Prelude.{if◌then◌else◌, ◌==◌, nat_lt, slice_get, slice_set}
use Rattle.std.proofs.lemmas.Bool.{cases_eq, eq-eqb, ne_eqb, cases_Bool}
use Rattle.std.proofs.lemmas.Option.{slice_get_past}
use Rattle.ipc_ids.specs.declared.numbers.FibrilNo.{FibrilNo}
use Rattle.ipc_ids.specs.declared.message.Why.{Why}
use Rattle.ipc_ids.specs.declared.message.Why.TheVariants as why
use Rattle.ipc_ids.specs.declared.message.ExchangeMode.{ExchangeMode}
use Rattle.ipc_ids.specs.declared.message.ExchangeMode.TheVariants as mode
use Rattle.ipc_ids.specs.Facts.{Fact, Ends}
use Rattle.ipc_ids.specs.Replies.{has_ended}
use Rattle.fibril_core.specs.declared.fibrils.Status.{Status}
use Rattle.fibril_core.specs.declared.fibrils.Status.TheVariants.{Ready, Blocked, Ended}
use Rattle.fibril_core.specs.declared.fibrils.Fibril.{Fibril}
use Rattle.fibril_core.specs.Fibrils.{FibrilOrder, same_status, first_with, number_of, current}
use Rattle.fibril_core.specs.Fibrils.{why_in, why_at, why_of, fibril_at, put_fibril, with_status}
use Rattle.fibril_core.specs.Fibrils.{found_with, found_over, block_on, yield_now, end_current}
use Rattle.fibril_core.specs.Fibrils.{make_ready, wake_times, spawned, next_number}
use Rattle.fibril_core.proofs.Firsts.{IsOneOf, first_there}
use Rattle.async_task.specs.Exchanges.{wake_waiters}
use Rattle.async_laws.specs.KeptFibrils.{is_ended, KeptFibrils}

-- facts that end no fibril
pub passed_over_fibrils : (x : Fact) (p : List Fact) (o : FibrilOrder) →
    ((f : ℕ) → has_ended f (x ∷ p) ≡ has_ended f p) → KeptFibrils p o → KeptFibrils (x ∷ p) o
passed_over_fibrils x p o same kept =
    record { ended = λ i. rw (same (suc i)) (kept.ended i); numbered = kept.numbered }

-- look-ups

abbrev pub put_in : Fibril → Option Fibril → Option Fibril
put_in v None = None
put_in v (Some x) = Some v

set_get : (xs : List Fibril) (i j : ℕ) (v : Fibril) →
    slice_get (slice_set xs i v) j ≡ if i == j then put_in v (slice_get xs j) else slice_get xs j
set_get [] i j v = grind (arith, cases_Bool (i == j))
set_get (x ∷ xs) zero zero v = grind (arith, eq-eqb, ne_eqb)
set_get (x ∷ xs) zero (suc j) v = grind (arith, eq-eqb, ne_eqb)
set_get (x ∷ xs) (suc i) zero v = grind (arith, eq-eqb, ne_eqb)
set_get (x ∷ xs) (suc i) (suc j) v =
    grind (arith, set_get xs i j v, eq-eqb, ne_eqb, cases_eq i j)

pub push_get : (xs : List Fibril) (j : ℕ) (v : Fibril) →
    slice_get (xs ++ v ∷ []) j ≡ if length xs == j then Some v else slice_get xs j
push_get [] zero v = grind (arith, eq-eqb, ne_eqb)
push_get [] (suc j) v = grind (arith, eq-eqb, ne_eqb)
push_get (x ∷ xs) zero v = grind (arith, eq-eqb, ne_eqb)
push_get (x ∷ xs) (suc j) v =
    grind (arith, push_get xs j v, eq-eqb, ne_eqb, cases_eq (length xs) j)

pub put_get : (o : FibrilOrder) (v : Fibril) (j : ℕ) →
    slice_get (put_fibril o v).fibrils j
    ≡ if (v.number.0 - 1) == j then put_in v (slice_get o.fibrils j) else slice_get o.fibrils j
put_get o v j = put_by (nat_lt (v.number.0 - 1) (length o.fibrils)) refl
  where
    put_by : (b : Bool) → nat_lt (v.number.0 - 1) (length o.fibrils) ≡ b →
        slice_get (if b then slice_set o.fibrils (v.number.0 - 1) v else o.fibrils) j
        ≡ if (v.number.0 - 1) == j then put_in v (slice_get o.fibrils j) else slice_get o.fibrils j
    put_by true h = set_get o.fibrils (v.number.0 - 1) j v
    put_by false h =
        grind (arith, eq-eqb, ne_eqb, cases_eq (v.number.0 - 1) j, slice_get_past o.fibrils j)

-- a fibril that has not ended
pub record Lives (o : FibrilOrder) (f : FibrilNo) : Type 0 where
  pub fibril : Fibril
  pub at : slice_get o.fibrils (f.0 - 1) ≡ Some fibril
  pub number : f.0 ≡ suc (f.0 - 1)
  pub runs : is_ended fibril.status ≡ false

-- its record changes, and it still has not ended
put_kept : (p : List Fact) (o : FibrilOrder) (v : Fibril) → KeptFibrils p o → Lives o v.number →
    is_ended v.status ≡ false → KeptFibrils p (put_fibril o v)
put_kept p o v kept lives goes = record {
  ended = λ i.
      rw (put_get o v i)
      (grind (
        arith,
        eq-eqb,
        ne_eqb,
        cases_eq (v.number.0 - 1) i,
        kept.ended i,
        lives.at,
        lives.runs,
      ));
  numbered = λ i x h.
      grind (
        arith,
        eq-eqb,
        ne_eqb,
        cases_eq (v.number.0 - 1) i,
        put_get o v i,
        kept.numbered i x,
        lives.at,
        lives.number,
      );
}

-- its record changes, and it has ended
put_ended : (p : List Fact) (o : FibrilOrder) (v : Fibril) → KeptFibrils p o → Lives o v.number →
    v.status ≡ Ended → KeptFibrils (Ends v.number.0 ∷ p) (put_fibril o v)
put_ended p o v kept lives is = record {
  ended = λ i.
      rw (put_get o v i)
      (grind (
        arith,
        eq-eqb,
        ne_eqb,
        cases_eq (v.number.0 - 1) i,
        cases_eq v.number.0 (suc i),
        kept.ended i,
        lives.at,
        lives.number,
        is,
      ));
  numbered = λ i x h.
      grind (
        arith,
        eq-eqb,
        ne_eqb,
        cases_eq (v.number.0 - 1) i,
        put_get o v i,
        kept.numbered i x,
        lives.at,
        lives.number,
      );
}

status_kept : (p : List Fact) (o : FibrilOrder) (f : FibrilNo) (s : Status) → KeptFibrils p o →
    Lives o f → is_ended s ≡ false → KeptFibrils p (with_status o f s)
status_kept p o f s kept lives goes =
    let h = put_kept p o (record { number = f; status = s; stamp = o.next_stamp }) kept lives goes
    in
    record { ended = h.ended; numbered = h.numbered }

-- the fibril that a search finds

same_runs : (s z : Status) → same_status s z ≡ true → is_ended z ≡ false → is_ended s ≡ false
same_runs s z h i = grind arith

first_lives : (p : List Fact) (o : FibrilOrder) (s : Status) (x : Fibril) → KeptFibrils p o →
    is_ended s ≡ false → first_with s o.fibrils ≡ Some x → Lives o x.number
first_lives p o s x kept goes h =
    let one : IsOneOf s o.fibrils x = first_there s o.fibrils x h in
    let number : x.number.0 ≡ suc one.place = kept.numbered one.place x one.there in
    let place : one.place ≡ x.number.0 - 1 = grind (arith, number) in
    record {
      fibril = x;
      at = subst (λ (i : ℕ). slice_get o.fibrils i ≡ Some x) place one.there;
      number = grind (arith, number);
      runs = same_runs x.status s one.status goes;
    }

found_lives : (p : List Fact) (o : FibrilOrder) (s : Status) (f : FibrilNo) (x : Option Fibril) →
    KeptFibrils p o → is_ended s ≡ false → first_with s o.fibrils ≡ x → number_of x ≡ Some f →
    Lives o f
found_lives p o s f None kept goes first h = absurd (cc h)
found_lives p o s f (Some x) kept goes first h =
    let is : x.number ≡ f = cc h in
    subst (Lives o) is (first_lives p o s x kept goes first)

found_kept : (p : List Fact) (o : FibrilOrder) (s new : Status) (f : Option FibrilNo) →
    KeptFibrils p o → is_ended s ≡ false → is_ended new ≡ false →
    number_of (first_with s o.fibrils) ≡ f → KeptFibrils p (found_with o new f)
found_kept p o s new None kept goes stays h = kept
found_kept p o s new (Some f) kept goes stays h =
    status_kept p o f new kept (found_lives p o s f (first_with s o.fibrils) kept goes refl h) stays

-- changes of the fibrils

pub block_fibrils : (p : List Fact) (o : FibrilOrder) (w : Why) → KeptFibrils p o →
    KeptFibrils p (block_on o w)
block_fibrils p o w kept = found_kept p o Ready (Blocked w) (current o) kept refl refl refl

pub yield_fibrils : (p : List Fact) (o : FibrilOrder) → KeptFibrils p o →
    KeptFibrils p (yield_now o)
yield_fibrils p o kept = found_kept p o Ready Ready (current o) kept refl refl refl

times_kept : (n : ℕ) (p : List Fact) (o : FibrilOrder) (w : Why) → KeptFibrils p o →
    KeptFibrils p (wake_times n o w)
times_kept zero p o w kept = kept
times_kept (suc n) p o w kept =
    found_kept p (wake_times n o w) (Blocked w) Ready
    (number_of (first_with (Blocked w) (wake_times n o w).fibrils)) (times_kept n p o w kept) refl
    refl refl

pub wake_fibrils : (p : List Fact) (o : FibrilOrder) (m : ExchangeMode) (s : ℕ) → KeptFibrils p o →
    KeptFibrils p (wake_waiters o m s)
wake_fibrils p o mode.Atomic s kept = kept
wake_fibrils p o mode.Serialize s kept = times_kept (length o.fibrils) p o (why.Mutex s) kept
wake_fibrils p o mode.Parallel s kept = times_kept (length o.fibrils) p o why.Phone kept

over_kept : (p : List Fact) (o : FibrilOrder) (f : FibrilNo) (x : Option Fibril) → KeptFibrils p o →
    first_with Ready o.fibrils ≡ x → number_of x ≡ Some f →
    KeptFibrils (Ends f.0 ∷ p) (found_over o x)
over_kept p o f None kept first h = absurd (cc h)
over_kept p o f (Some x) kept first h =
    let is : x.number ≡ f = cc h in
    subst (λ (g : FibrilNo). KeptFibrils (Ends g.0 ∷ p) (found_over o (Some x))) is
    (put_ended p o (record x { status = Ended; stamp = 0 }) kept
    (first_lives p o Ready x kept refl first) refl)

-- the present fibril ends
pub end_fibrils : (p : List Fact) (o : FibrilOrder) (f : FibrilNo) → KeptFibrils p o →
    current o ≡ Some f → KeptFibrils (Ends f.0 ∷ p) (end_current o)
end_fibrils p o f kept h = over_kept p o f (first_with Ready o.fibrils) kept refl h

blocked_runs : (s : Status) (w : Why) → why_in s ≡ Some w → is_ended s ≡ false
blocked_runs s w h = grind arith

blocked_at : (o : FibrilOrder) (n : ℕ) (w : Why) (x : Option Fibril) → fibril_at o n ≡ x →
    why_at x ≡ Some w → Lives o (record { 0 = n })
blocked_at o n w None at h = absurd (cc h)
blocked_at o zero w (Some x) at h = absurd (cc at)
blocked_at o (suc i) w (Some x) at h =
    let place : i ≡ suc i - 1 = omega arith in
    record {
      fibril = x;
      at = subst (λ (j : ℕ). slice_get o.fibrils j ≡ Some x) place at;
      number = omega arith;
      runs = blocked_runs x.status w h;
    }

-- a fibril that is blocked is ready again
pub ready_fibrils : (p : List Fact) (o : FibrilOrder) (f : FibrilNo) (w : Why) → KeptFibrils p o →
    why_of o f ≡ Some w → KeptFibrils p (make_ready o f)
ready_fibrils p o f w kept h =
    status_kept p o f Ready kept (blocked_at o f.0 w (fibril_at o f.0) refl h) refl

-- a new fibril
pub spawn_fibrils : (p : List Fact) (o : FibrilOrder) → KeptFibrils p o → KeptFibrils p (spawned o)
spawn_fibrils p o kept =
    let new : Fibril = record { number = next_number o; status = Ready; stamp = o.next_stamp } in
    record {
      ended = λ i.
          rw (push_get o.fibrils i new)
          (grind (
            arith,
            eq-eqb,
            ne_eqb,
            cases_eq (length o.fibrils) i,
            kept.ended i,
            slice_get_past o.fibrils i,
          ));
      numbered = λ i x h.
          grind (
            arith,
            eq-eqb,
            ne_eqb,
            cases_eq (length o.fibrils) i,
            push_get o.fibrils i new,
            kept.numbered i x,
          );
    }
