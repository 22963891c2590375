-- Each change of calls or of phones keeps them sound.
use Rattle.std.proofs.Common.{◌≡◌, ℕ, zero, suc, ◌+◌, ◌-◌, ◌≤◌, Bool, true, false, ◌⊎◌, inl, inr, Option, None, Some, List, [], ◌∷◌, ◌++◌, length, replicate, refl, ap, sym, subst, ◌∙◌, arith, set, length-append}
use Rattle.std.proofs.Math.ListN.{length-set}
use Rattle.std.specs.Prelude.{◌==◌, if◌then◌else◌, IsSome, slice_get, slice_index, unwrap_or}
use Rattle.std.specs.Option.{option_map_or}
use Rattle.std.proofs.lemmas.Bool.{cases_eq, eq-eqb, ne_eqb}
use Rattle.std.proofs.lemmas.Option.{same_Some}
use Rattle.ipc_ids.specs.declared.numbers.TaskNo.{TaskNo}
use Rattle.ipc_ids.specs.declared.numbers.Label.{Label}
use Rattle.ipc_ids.specs.declared.message.PhoneState.{PhoneState}
use Rattle.ipc_ids.specs.declared.message.PhoneState.TheVariants.{Free, Connected}
use Rattle.call_slab.specs.declared.call.Call.{Call}
use Rattle.call_slab.specs.declared.call.Place.{Place}
use Rattle.call_slab.specs.declared.call.Place.TheVariants.{Incoming, Dispatched, Answers}
use Rattle.answerbox.specs.Calls.{CallTable, call_at, enqueue, put_at, without_call, used}
use Rattle.answerbox.proofs.Used.{few_enqueue, few_put, used-less}
use Rattle.ipc_ids.specs.Tables.{most_buffered}
use Rattle.phone_table.specs.Phones.{row_at, state_at}
use Rattle.switchboard.specs.State.{Tasks, alive_in, with_state_at}
use Rattle.ipc_ids.specs.declared.methods.MethodKind.{MethodKind}
use Rattle.ipc_ids.specs.declared.methods.MethodKind.TheVariants.{DataWrite}
use Rattle.ipc_ids.specs.Methods.{kind_of}
use Rattle.ipc_ids.proofs.Common.{same_end, not_both}
use Rattle.switchboard.specs.Sound.{IsPlaced, IsCaller, IsSoundCall, AreSoundCalls, IsQuiet, AreSoundTasks, HasSoundPhone, HasBytesAt, Carries}
use Rattle.switchboard.specs.Board.{IsPendingAt}
use Rattle.switchboard.proofs.Lookups.{at_insert, at_remove, chosen}
use Rattle.switchboard.proofs.Rows.{some_of, state_changed_at}

-- a record stays sound while the next number and the next stamp rise
later : (tasks : Tasks) (a b a' b' n : ℕ) (c : Call) → IsSoundCall tasks a b n c → a ≤ a' → b ≤ b' → IsSoundCall tasks a' b' n c
later tasks a b a' b' n c s h g = record {
  number = s.number;
  below = let l = s.below in omega arith;
  stamp = let l = s.stamp in omega arith;
  place = s.place;
  caller = s.caller;
  phone = s.phone;
  discard = s.discard;
  reserved = s.reserved;
  carries = s.carries;
}

-- a call that was not answered carries at another place what it carried

bytes_of : (place : Place) (bytes : List ℕ) (n : ℕ) → IsPendingAt place → HasBytesAt place bytes n → length bytes ≡ n
bytes_of (Incoming t) bytes n pending h = h
bytes_of (Dispatched t) bytes n pending h = h
bytes_of (Answers t) bytes n pending h = absurd pending

bytes_at : (place : Place) (bytes : List ℕ) (n : ℕ) → length bytes ≡ n → HasBytesAt place bytes n
bytes_at (Incoming t) bytes n h = h
bytes_at (Dispatched t) bytes n h = h
bytes_at (Answers t) bytes n h = tt

pub carried : (kind : MethodKind) (old new : Place) (bytes : List ℕ) (n : ℕ) → IsPendingAt old → Carries kind old bytes n → Carries kind new bytes n
carried kind old new bytes n pending h is = bytes_at new bytes n (bytes_of old bytes n pending (h is))

-- a call of another kind carries nothing
pub carries_none : (kind : MethodKind) (place : Place) (bytes : List ℕ) (n : ℕ) → (kind ≡ DataWrite → ⊥) → Carries kind place bytes n
carries_none kind place bytes n not is = absurd (not is)

-- nor does an answer
pub answer_carries : (kind : MethodKind) (t : TaskNo) (bytes : List ℕ) (n : ℕ) → Carries kind (Answers t) bytes n
answer_carries kind t bytes n is = tt

-- one call came, or changed, and went behind all others
pub sound_with : (tasks : Tasks) (q r : CallTable) (n : ℕ) (d : Call) → AreSoundCalls tasks q → ((m : ℕ) → call_at r m ≡ (if n == m then Some d else call_at q m)) → q.next_number ≤ r.next_number → r.next_stamp ≡ q.next_stamp + 1 → d.stamp ≡ q.next_stamp → used r ≤ most_buffered → IsSoundCall tasks r.next_number r.next_stamp n d → AreSoundCalls tasks r
sound_with tasks q r n d s at more stamps behind few sound = record {
  bytes = few;
  each = λ m c is.
      elim (chosen n m (Some d) (call_at q m) (Some c) (sym (at m) ∙ is)) [
        | inl e ↦ subst (λ (x : Call). IsSoundCall tasks r.next_number r.next_stamp m x) (same_Some d c e.1) (subst (λ (i : ℕ). IsSoundCall tasks r.next_number r.next_stamp i d) e.0 sound)
        | inr e ↦ later tasks q.next_number q.next_stamp r.next_number r.next_stamp m c (s.each m c e.1) more (omega arith)
      ];
  stamps_differ = λ m i b c is has same.
      elim (chosen n m (Some d) (call_at q m) (Some b) (sym (at m) ∙ is)) [
        | inl e ↦ elim (chosen n i (Some d) (call_at q i) (Some c) (sym (at i) ∙ has)) [
          | inl f ↦ sym e.0 ∙ f.0
          | inr f ↦ let old = (s.each i c f.1).stamp in let b_is : b.stamp ≡ d.stamp = ap (λ (x : Call). x.stamp) (sym (same_Some d b e.1)) in absurd (omega arith)
        ]
        | inr e ↦ elim (chosen n i (Some d) (call_at q i) (Some c) (sym (at i) ∙ has)) [
          | inl f ↦ let old = (s.each m b e.1).stamp in let c_is : c.stamp ≡ d.stamp = ap (λ (x : Call). x.stamp) (sym (same_Some d c f.1)) in absurd (omega arith)
          | inr f ↦ s.stamps_differ m i b c e.1 f.1 same
        ]
      ];
}

-- a call is over
pub sound_without : (tasks : Tasks) (q : CallTable) (n : ℕ) → AreSoundCalls tasks q → AreSoundCalls tasks (without_call q n)
sound_without tasks q n s = record {
  bytes = let l = used-less q n in let b = s.bytes in omega arith;
  each = λ m c is.
      elim (chosen n m None (call_at q m) (Some c) (sym (at_remove q.records n m) ∙ is)) [
        | inl e ↦ absurd (cc e.1)
        | inr e ↦ s.each m c e.1
      ];
  stamps_differ = λ m i b c is has same.
      elim (chosen n m None (call_at q m) (Some b) (sym (at_remove q.records n m) ∙ is)) [
        | inl e ↦ absurd (cc e.1)
        | inr e ↦ elim (chosen n i None (call_at q i) (Some c) (sym (at_remove q.records n i) ∙ has)) [
          | inl f ↦ absurd (cc f.1)
          | inr f ↦ s.stamps_differ m i b c e.1 f.1 same
        ]
      ];
}

-- the next number is free
pub next_free : (tasks : Tasks) (q : CallTable) → AreSoundCalls tasks q → call_at q q.next_number ≡ None
next_free tasks q s = by_call (call_at q q.next_number) refl where
  by_call : (o : Option Call) → call_at q q.next_number ≡ o → o ≡ None
  by_call None is = refl
  by_call (Some c) is = absurd (let l = (s.each q.next_number c is).below in omega arith)

pub sound_enqueue : (tasks : Tasks) (q : CallTable) (c : Call) → AreSoundCalls tasks q → c.number.0 ≡ q.next_number → IsPlaced tasks c.caller c.place → IsCaller tasks c.from c.caller → IsSome (state_at tasks.phones c.from.task.0 c.from.phone.0) → c.discard ≡ (c.request.method == 0) → HasSoundPhone tasks.phones c → Carries (kind_of c.request.method) c.place c.buffer (slice_index c.request.args 1) → used q + length c.buffer ≤ most_buffered → AreSoundCalls tasks (enqueue q c)
sound_enqueue tasks q c s number place caller phone discard reserved carries room =
    sound_with tasks q (enqueue q c) c.number.0 (record c { stamp = q.next_stamp }) s (λ m. at_insert q.records c.number.0 m (record c { stamp = q.next_stamp })) (omega arith) refl refl (few_enqueue q c most_buffered (ap (call_at q) number ∙ next_free tasks q s) room)
    (record {
      number = refl;
      below = omega arith;
      stamp = omega arith;
      place = place;
      caller = caller;
      phone = phone;
      discard = discard;
      reserved = record { there = reserved.there; owner = reserved.owner; needed = reserved.needed };
      carries = carries;
    })

-- a live call goes to a place, changed in its message, its label, its reply or the phone that is reserved for it
pub sound_put : (tasks : Tasks) (q : CallTable) (n : ℕ) (c d : Call) (place : Place) → AreSoundCalls tasks q → call_at q n ≡ Some c → d.number ≡ c.number → d.caller ≡ c.caller → d.from ≡ c.from → d.request ≡ c.request → d.discard ≡ c.discard → IsPlaced tasks d.caller place → HasSoundPhone tasks.phones (record d { place = place }) → Carries (kind_of d.request.method) place d.buffer (slice_index d.request.args 1) → length d.buffer + used q ≤ length c.buffer + most_buffered → AreSoundCalls tasks (put_at q d place)
sound_put tasks q n c d place s is number caller from request discard placed reserved carries room =
    let was = s.each n c is in
    let number_is : d.number.0 ≡ n = ap (λ (x : Rattle.ipc_ids.specs.declared.numbers.CallNo.CallNo). x.0) number ∙ was.number in
    sound_with tasks q (put_at q d place) d.number.0 (record d { place = place; stamp = q.next_stamp }) s (λ m. at_insert q.records d.number.0 m (record d { place = place; stamp = q.next_stamp })) (omega arith) refl refl (few_put q c d place most_buffered (ap (call_at q) number_is ∙ is) room)
    (record {
      number = refl;
      below = let l = was.below in omega arith;
      stamp = omega arith;
      place = placed;
      caller = rw (from, caller) was.caller;
      phone = rw from was.phone;
      discard = discard ∙ was.discard ∙ ap (λ (x : Rattle.ipc_ids.specs.declared.message.Msg.Msg). x.method == 0) (sym request);
      reserved = record { there = reserved.there; owner = reserved.owner; needed = reserved.needed };
      carries = carries;
    })

-- the calls stay sound where tasks and phones that were there are still there
pub sound_under : (old new : Tasks) (q : CallTable) → AreSoundCalls old q → ((t : ℕ) → alive_in old.alive t ≡ true → alive_in new.alive t ≡ true) → ((t p : ℕ) → IsSome (state_at old.phones t p) → IsSome (state_at new.phones t p)) → AreSoundCalls new q
sound_under old new q s alive phones = record {
  bytes = s.bytes;
  each = λ n c is. let was = s.each n c is in record {
    number = was.number;
    below = was.below;
    stamp = was.stamp;
    place = placed c.caller c.place was.place;
    caller = called c.from c.caller was.caller;
    phone = phones c.from.task.0 c.from.phone.0 was.phone;
    discard = was.discard;
    reserved = record { there = λ l e. phones l.task.0 l.phone.0 (was.reserved.there l e); owner = was.reserved.owner; needed = was.reserved.needed };
    carries = was.carries;
  };
  stamps_differ = s.stamps_differ;
} where
  placed : (caller : Option TaskNo) (place : Place) → IsPlaced old caller place → IsPlaced new caller place
  placed caller (Incoming t) h = alive t.0 h
  placed caller (Dispatched t) h = alive t.0 h
  placed caller (Answers t) h = h

  called : (from : Label) (caller : Option TaskNo) → IsCaller old from caller → IsCaller new from caller
  called from None h = h
  called from (Some u) h = (h.0, alive u.0 h.1)

pub some_set : {A : Type 0} (xs : List A) (i j : ℕ) (v : A) → IsSome (slice_get xs j) → IsSome (slice_get (set xs i v) j)
some_set [] i j v h = h
some_set (x ∷ xs) zero zero v h = refl
some_set (x ∷ xs) zero (suc j) v h = h
some_set (x ∷ xs) (suc i) zero v h = refl
some_set (x ∷ xs) (suc i) (suc j) v h = some_set xs i j v h

pub value_of : {A : Type 0} (o : Option A) → IsSome o → (x : A) × (o ≡ Some x)
value_of None h = absurd (cc h)
value_of (Some x) h = (x, refl)

-- the row that a task has after a change of one row
pub row_after : {A : Type 0} (rows : List A) (a t : ℕ) (old new row : A) → row_at rows a ≡ Some old → row_at rows t ≡ Some row → ((t ≡ a) × (row_at (set rows (a - 1) new) t ≡ Some new)) ⊎ ((t ≡ a → ⊥) × (row_at (set rows (a - 1) new) t ≡ Some row))
row_after rows a t old new row is has = elim (cases_eq t 0) [
  | inl e ↦ absurd (let g = rw (eq-eqb t 0 e) at has in cc)
  | inr nt ↦ elim (cases_eq a 0) [
    | inl e ↦ absurd (let g = rw (eq-eqb a 0 e) at is in cc)
    | inr na ↦
        let here : slice_get rows (t - 1) ≡ Some row = rw (ne_eqb t 0 nt) at has in
        elim (cases_eq t a) [
          | inl e ↦ inl (e, rw (ne_eqb t 0 nt) (same rows (a - 1) (t - 1) new row (omega arith) here))
          | inr ne ↦ inr (ne, rw (ne_eqb t 0 nt) (other rows (a - 1) (t - 1) new row (λ e. ne (omega arith)) here))
        ]
  ]
] where
  same : {A : Type 0} (xs : List A) (i j : ℕ) (v w : A) → j ≡ i → slice_get xs j ≡ Some w → slice_get (set xs i v) j ≡ Some v
  same [] i j v w e h = absurd (cc h)
  same (x ∷ xs) zero zero v w e h = refl
  same (x ∷ xs) zero (suc j) v w e h = absurd (omega arith)
  same (x ∷ xs) (suc i) zero v w e h = absurd (omega arith)
  same (x ∷ xs) (suc i) (suc j) v w e h = same xs i j v w (omega arith) h

  other : {A : Type 0} (xs : List A) (i j : ℕ) (v w : A) → (j ≡ i → ⊥) → slice_get xs j ≡ Some w → slice_get (set xs i v) j ≡ Some w
  other [] i j v w ne h = absurd (cc h)
  other (x ∷ xs) zero zero v w ne h = absurd (ne refl)
  other (x ∷ xs) zero (suc j) v w ne h = h
  other (x ∷ xs) (suc i) zero v w ne h = h
  other (x ∷ xs) (suc i) (suc j) v w ne h = other xs i j v w (λ e. ne (ap suc e)) h

some_inj : (x y : List PhoneState) → Some x ≡ Some y → x ≡ y
some_inj x y e = cc

-- a phone that was there is there after a change of one
pub phone_kept : (rows : List (List PhoneState)) (a b t p : ℕ) (s : PhoneState) → IsSome (state_at rows t p) → IsSome (state_at (with_state_at rows a b s) t p)
phone_kept rows a b t p s h = by_row (row_at rows a) refl where
  by_row : (o : Option (List PhoneState)) → row_at rows a ≡ o → IsSome (state_at (option_map_or (λ row. set rows (a - 1) (set row b s)) o rows) t p)
  by_row None is = h
  by_row (Some old) is =
      let found = value_of (state_at rows t p) h in
      let row = some_of (row_at rows t) (λ r. slice_get r p) found.0 found.1 in
      elim (row_after rows a t old (set old b s) row.0 is row.1) [
        | inl e ↦ let same : row.0 ≡ old = some_inj row.0 old (sym row.1 ∙ ap (row_at rows) e.0 ∙ is) in rw (e.1) (some_set old b p s (rw (← same, row.2) refl))
        | inr e ↦ rw (e.1, row.2) refl
      ]

pub length_rows : (rows : List (List PhoneState)) (a b : ℕ) (s : PhoneState) → length (with_state_at rows a b s) ≡ length rows
length_rows rows a b s = by_row (row_at rows a) where
  by_row : (o : Option (List PhoneState)) → length (option_map_or (λ row. set rows (a - 1) (set row b s)) o rows) ≡ length rows
  by_row None = refl
  by_row (Some row) = length-set rows (a - 1) (set row b s)

-- a phone falls quiet
pub sound_quieted : (tasks : Tasks) (t p : ℕ) (x : PhoneState) → IsQuiet x → AreSoundTasks tasks → AreSoundTasks (record { alive = tasks.alive; phones = with_state_at tasks.phones t p x })
sound_quieted tasks t p x quiet s = record {
  paired = length_rows tasks.phones t p x ∙ s.paired;
  leads = λ a b u is. elim (state_changed_at tasks.phones t p a b x (Connected u) is) [ inl e ↦ absurd (subst IsQuiet e.2 quiet) | inr e ↦ s.leads a b u e.1 ];
  quiet = λ a b state is ended. elim (state_changed_at tasks.phones t p a b x state is) [ inl e ↦ subst IsQuiet e.2 quiet | inr e ↦ s.quiet a b state e.1 ended ];
}

-- a phone of a task that is alive is connected to one that is alive
pub sound_wired : (tasks : Tasks) (t p : ℕ) (u : TaskNo) → AreSoundTasks tasks → alive_in tasks.alive t ≡ true → alive_in tasks.alive u.0 ≡ true → AreSoundTasks (record { alive = tasks.alive; phones = with_state_at tasks.phones t p (Connected u) })
sound_wired tasks t p u s from to = record {
  paired = length_rows tasks.phones t p (Connected u) ∙ s.paired;
  leads = λ a b v is. elim (state_changed_at tasks.phones t p a b (Connected u) (Connected v) is) [ inl e ↦ subst (λ (x : TaskNo). alive_in tasks.alive x.0 ≡ true) (same_end u v e.2) to | inr e ↦ s.leads a b v e.1 ];
  quiet = λ a b state is ended. elim (state_changed_at tasks.phones t p a b (Connected u) state is) [ inl e ↦ absurd (not_both (ap (alive_in tasks.alive) e.0 ∙ from) ended) | inr e ↦ s.quiet a b state e.1 ended ];
}

get_append : {A : Type 0} (xs : List A) (y : A) (i : ℕ) (v : A) → slice_get (xs ++ y ∷ []) i ≡ Some v → (slice_get xs i ≡ Some v) ⊎ ((i ≡ length xs) × (y ≡ v))
get_append [] y zero v h = inr (refl, cc)
get_append [] y (suc i) v h = absurd (cc h)
get_append (x ∷ xs) y zero v h = inl h
get_append (x ∷ xs) y (suc i) v h = elim (get_append xs y i v h) [ inl e ↦ inl e | inr e ↦ inr (omega arith, e.1) ]

get_before : {A : Type 0} (xs : List A) (y : A) (i : ℕ) (v : A) → slice_get xs i ≡ Some v → slice_get (xs ++ y ∷ []) i ≡ Some v
get_before [] y i v h = absurd (cc h)
get_before (x ∷ xs) y zero v h = h
get_before (x ∷ xs) y (suc i) v h = get_before xs y i v h

pub get_last : {A : Type 0} (xs : List A) (y : A) (i : ℕ) → i ≡ length xs → slice_get (xs ++ y ∷ []) i ≡ Some y
get_last [] y zero e = refl
get_last [] y (suc i) e = absurd (omega arith)
get_last (x ∷ xs) y zero e = absurd (omega arith)
get_last (x ∷ xs) y (suc i) e = get_last xs y i (omega arith)

pub all_same : {A : Type 0} (k p : ℕ) (x y : A) → slice_get (replicate k x) p ≡ Some y → x ≡ y
all_same zero p x y h = absurd (cc h)
all_same (suc k) zero x y h = cc
all_same (suc k) (suc p) x y h = all_same k p x y h

-- a row of the old list, or the new one
pub row_append : {A : Type 0} (rows : List A) (row : A) (t : ℕ) (v : A) → row_at (rows ++ row ∷ []) t ≡ Some v → (row_at rows t ≡ Some v) ⊎ ((t ≡ length rows + 1) × (row ≡ v))
row_append rows row t v h = elim (cases_eq t 0) [
  | inl e ↦ absurd (let g = rw (eq-eqb t 0 e) at h in cc)
  | inr nt ↦ elim (get_append rows row (t - 1) v (rw (ne_eqb t 0 nt) at h)) [ inl e ↦ inl (rw (ne_eqb t 0 nt) e) | inr e ↦ inr (omega arith, e.1) ]
]

pub row_before : {A : Type 0} (rows : List A) (row : A) (t : ℕ) (v : A) → row_at rows t ≡ Some v → row_at (rows ++ row ∷ []) t ≡ Some v
row_before rows row t v h = elim (cases_eq t 0) [
  | inl e ↦ absurd (let g = rw (eq-eqb t 0 e) at h in cc)
  | inr nt ↦ rw (ne_eqb t 0 nt) (get_before rows row (t - 1) v (rw (ne_eqb t 0 nt) at h))
]

-- the mark of a task is that of its row
mark_of : (alive : List Bool) (t : ℕ) → alive_in alive t ≡ true → row_at alive t ≡ Some true
mark_of alive t h = elim (cases_eq t 0) [
  | inl e ↦ absurd (let g = rw (eq-eqb t 0 e) at h in cc)
  | inr nt ↦ rw (ne_eqb t 0 nt) (by_mark (slice_get alive (t - 1)) (rw (ne_eqb t 0 nt) at h))
] where
  by_mark : (o : Option Bool) → unwrap_or o false ≡ true → o ≡ Some true
  by_mark None h = absurd (cc h)
  by_mark (Some b) h = ap Some h

mark_is : (alive : List Bool) (t : ℕ) (b : Bool) → row_at alive t ≡ Some b → alive_in alive t ≡ b
mark_is alive t b h = elim (cases_eq t 0) [
  | inl e ↦ absurd (let g = rw (eq-eqb t 0 e) at h in cc)
  | inr nt ↦ let g : slice_get alive (t - 1) ≡ Some b = rw (ne_eqb t 0 nt) at h in rw (ne_eqb t 0 nt, g) refl
]

pub alive_before : (alive : List Bool) (t : ℕ) → alive_in alive t ≡ true → alive_in (alive ++ true ∷ []) t ≡ true
alive_before alive t h = mark_is (alive ++ true ∷ []) t true (row_before alive true t true (mark_of alive t h))

pub phone_before : (rows : List (List PhoneState)) (row : List PhoneState) (t p : ℕ) → IsSome (state_at rows t p) → IsSome (state_at (rows ++ row ∷ []) t p)
phone_before rows row t p h =
    let found = value_of (state_at rows t p) h in
    let was = some_of (row_at rows t) (λ r. slice_get r p) found.0 found.1 in
    rw (row_before rows row t was.0 was.1, was.2) refl

-- the mark of a task before another was added
pub ended_before : (alive : List Bool) (t : ℕ) → alive_in (alive ++ true ∷ []) t ≡ false → alive_in alive t ≡ false
ended_before alive t h = by_mark (alive_in alive t) refl where
  by_mark : (b : Bool) → alive_in alive t ≡ b → alive_in alive t ≡ false
  by_mark false e = e
  by_mark true e = absurd (let g = alive_before alive t e in cc)

pub sound_task : (tasks : Tasks) (limit : ℕ) → AreSoundTasks tasks → AreSoundTasks (record { alive = tasks.alive ++ true ∷ []; phones = tasks.phones ++ replicate limit Free ∷ [] })
sound_task tasks limit s = record {
  paired = let h = s.paired in rw (length-append, length-append) (omega arith);
  leads = λ t p u is.
      let row = some_of (row_at (tasks.phones ++ replicate limit Free ∷ []) t) (λ r. slice_get r p) (Connected u) is in
      elim (row_append tasks.phones (replicate limit Free) t row.0 row.1) [
        | inl e ↦ alive_before tasks.alive u.0 (s.leads t p u (rw e row.2))
        | inr e ↦ absurd (let g : slice_get (replicate limit Free) p ≡ Some (Connected u) = rw (e.1) row.2 in let f = all_same limit p Free (Connected u) g in cc)
      ];
  quiet = λ t p state is ended.
      let row = some_of (row_at (tasks.phones ++ replicate limit Free ∷ []) t) (λ r. slice_get r p) state is in
      elim (row_append tasks.phones (replicate limit Free) t row.0 row.1) [
        | inl e ↦ s.quiet t p state (rw e row.2) (ended_before tasks.alive t ended)
        | inr e ↦ let g : slice_get (replicate limit Free) p ≡ Some state = rw (e.1) row.2 in subst IsQuiet (all_same limit p Free state g) tt
      ];
}
