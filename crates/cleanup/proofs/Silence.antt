-- The phone parts of a kill: the phones of the task fall silent, and no phone leads to it any more.
use Rattle.std.proofs.Common.{◌≡◌, ℕ, ◌+◌, ◌-◌, ◌≤◌, Bool, true, false, ◌⊎◌, inl, inr, Option, None, Some, List, length, refl, ap, sym, subst, ◌∙◌, arith}
use Rattle.std.specs.Prelude.{◌==◌}
use Rattle.std.specs.Option.{option_map_or}
use Rattle.std.proofs.lemmas.Option.{slice_get_past, same_Some}
use Rattle.std.proofs.lemmas.Bool.{cases_eq, cases_lt, eqb-true, eq-eqb, ne_eqb, false≢true}
use Rattle.ipc_ids.specs.declared.numbers.TaskNo.{TaskNo}
use Rattle.ipc_ids.specs.declared.message.PhoneState.{PhoneState}
use Rattle.ipc_ids.specs.declared.message.PhoneState.TheVariants.{Free, Connecting, Connected, HungUp, Slammed}
use Rattle.ipc_ids.proofs.Common.{is_some, none_some}
use Rattle.answerbox.specs.Calls.{enqueue}
use Rattle.phone_table.specs.Phones.{row_at, state_at}
use Rattle.switchboard.specs.State.{KernelState, Transition, alive_in, is_alive, phone_at, with_phone, with_calls, width}
use Rattle.switchboard.specs.Sound.{IsQuiet, IsSound}
use Rattle.switchboard.specs.Joins.{hangup_call, hang_up, slam, slam_at}
use Rattle.cleanup.specs.Kill.{task_no, hang_up_at, hang_up_own_phones, slam_phones_of, slam_other, slam_phones_to}
use Rattle.switchboard.proofs.Rows.{state_changed_at}
use Rattle.switchboard.proofs.SoundStates.{no_phone, sound_enqueued, kept_state, kept_hung_up}
use Rattle.switchboard.proofs.Repeats.{by_test, each_keeps, each_does}
use Rattle.switchboard.proofs.Soundness.{length_rows}

-- the state, with these marks of who is alive
abbrev pub with_marks : List Bool → KernelState → KernelState
with_marks marks k = record { tasks = record { alive = marks; phones = k.tasks.phones }; calls = k.calls; memory = k.memory; events = k.events }

-- while a task ends, the state is sound by the marks from before
pub record IsEnding (marks : List Bool) (k : KernelState) : Type 0 where
  pub sound : IsSound (with_marks marks k)

other_state : (o : Option PhoneState) (x : PhoneState) → o ≡ Some x → o ≡ Some Connecting → (x ≡ Connecting → ⊥) → ⊥
other_state o x a b not = let e : Some x ≡ Some Connecting = sym a ∙ b in not (cc e)

-- a hangup of a phone of a task that is alive
pub sound_hang_up : (k : KernelState) (t : TaskNo) (p : ℕ) (o : Option PhoneState) → phone_at k t p ≡ o → IsSound k → is_alive k t ≡ true → IsSound (hang_up k t p o).state
sound_hang_up k t p None is s alive = s
sound_hang_up k t p (Some Free) is s alive = s
sound_hang_up k t p (Some Connecting) is s alive = s
sound_hang_up k t p (Some HungUp) is s alive = s
sound_hang_up k t p (Some Slammed) is s alive = kept_hung_up k t p s (λ e. other_state (phone_at k t p) Slammed is e (λ d. cc d))
sound_hang_up k t p (Some (Connected u)) is s alive =
    kept_hung_up (with_calls k (enqueue k.calls (hangup_call k t p u))) t p
    (sound_enqueued k (hangup_call k t p u) s refl (s.tasks.leads t.0 p u is) (refl, alive) (is_some (phone_at k t p) (Connected u) is) refl (no_phone k.tasks.phones (hangup_call k t p u) refl (λ e. e)) (λ e. refl) refl (let b = s.calls.bytes in omega arith))
    (λ e. other_state (phone_at k t p) (Connected u) is e (λ d. cc d))

pub hang_up_ends : (marks : List Bool) (t : TaskNo) (k : KernelState) (p : ℕ) → alive_in marks t.0 ≡ true → IsEnding marks k → IsEnding marks (hang_up_at t k p).state
hang_up_ends marks t k p alive h = by_state (phone_at k t p) refl where
  by_state : (o : Option PhoneState) → phone_at k t p ≡ o → IsEnding marks (hang_up k t p o).state
  by_state None is = h
  by_state (Some Free) is = h
  by_state (Some Connecting) is = h
  by_state (Some HungUp) is = h
  by_state (Some Slammed) is = record { sound = sound_hang_up (with_marks marks k) t p (Some Slammed) is h.sound alive }
  by_state (Some (Connected u)) is = record {
    sound = sound_hang_up (with_marks marks k) t p (Some (Connected u)) is h.sound alive;
  }

-- phone m of task t is quiet
abbrev pub IsStill : TaskNo → KernelState → ℕ → Type 0
IsStill t k m = (x : PhoneState) → phone_at k t m ≡ Some x → IsQuiet x

hang_up_stills : (t : TaskNo) (k : KernelState) (n m : ℕ) → (m ≡ n) ⊎ IsStill t k m → IsStill t (hang_up_at t k n).state m
hang_up_stills t k n m g = by_state (phone_at k t n) refl where
  same : (s : Option PhoneState) → phone_at k t n ≡ s → ((x : PhoneState) → s ≡ Some x → IsQuiet x) → IsStill t k m
  same s h quiet = elim g [ inl e ↦ λ x is. quiet x (sym h ∙ ap (phone_at k t) (sym e) ∙ is) | inr old ↦ old ]

  hung : IsStill t (with_phone k t n HungUp) m
  hung x is = elim (state_changed_at k.tasks.phones t.0 n t.0 m HungUp x is) [
    | inl i ↦ subst IsQuiet i.2 tt
    | inr old ↦ elim g [ inl e ↦ absurd (old.0 (refl, e)) | inr still ↦ still x old.1 ]
  ]

  by_state : (s : Option PhoneState) → phone_at k t n ≡ s → IsStill t (hang_up k t n s).state m
  by_state None h = same None h (λ x e. absurd (cc e))
  by_state (Some Free) h = same (Some Free) h (λ x e. subst IsQuiet (same_Some Free x e) tt)
  by_state (Some Connecting) h = same (Some Connecting) h (λ x e. subst IsQuiet (same_Some Connecting x e) tt)
  by_state (Some HungUp) h = same (Some HungUp) h (λ x e. subst IsQuiet (same_Some HungUp x e) tt)
  by_state (Some Slammed) h = hung
  by_state (Some (Connected u)) h = hung

-- there is no phone past the last one
pub past_width : (rows : List (List PhoneState)) (t q : ℕ) → width rows t ≤ q → state_at rows t q ≡ None
past_width rows t q h = by_row (row_at rows t) refl h where
  by_row : (o : Option (List PhoneState)) → row_at rows t ≡ o → option_map_or (λ row. length row) o 0 ≤ q → state_at rows t q ≡ None
  by_row None is l = rw is refl
  by_row (Some row) is l = rw (is, slice_get_past row q l) refl

-- the phones of task t are quiet
pub record IsSilent (marks : List Bool) (t : TaskNo) (k : KernelState) : Type 0 where
  pub ending : IsEnding marks k
  pub still : (q : ℕ) → IsStill t k q

-- after the first part
pub own_phones_hung_up : (marks : List Bool) (t : TaskNo) (k : KernelState) → alive_in marks t.0 ≡ true → IsEnding marks k → IsSilent marks t (hang_up_own_phones t k).state
own_phones_hung_up marks t k alive h = record {
  ending = each_keeps (hang_up_at t) (IsEnding marks) (λ j i s. hang_up_ends marks t j i alive s) (width k.tasks.phones t.0) 0 k h;
  still = λ q. each_does (hang_up_at t) (IsStill t) (hang_up_stills t) (width k.tasks.phones t.0) 0 k q
      (elim (cases_lt q (width k.tasks.phones t.0)) [ inl l ↦ inl (omega arith, omega arith) | inr l ↦ inr (λ x is. absurd (none_some (phone_at k t q) x (past_width k.tasks.phones t.0 q l) is)) ]);
}

-- a phone of a task that is alive, and that leads to another, is slammed
pub kept_slammed : (k : KernelState) (t : TaskNo) (p : ℕ) (u : TaskNo) → IsSound k → is_alive k t ≡ true → phone_at k t p ≡ Some (Connected u) → IsSound (with_phone k t p Slammed)
kept_slammed k t p u s alive led = kept_state k t p Slammed s (λ e. other_state (phone_at k t p) (Connected u) led e (λ d. cc d)) (λ e. cc e) (record {
  paired = length_rows k.tasks.phones t.0 p Slammed ∙ s.tasks.paired;
  leads = λ a b v is. elim (state_changed_at k.tasks.phones t.0 p a b Slammed (Connected v) is) [ inl e ↦ absurd (cc (e.2)) | inr e ↦ s.tasks.leads a b v e.1 ];
  quiet = λ a b state is ended. elim (state_changed_at k.tasks.phones t.0 p a b Slammed state is) [
    | inl e ↦ absurd (false≢true (sym ended ∙ ap (alive_in k.tasks.alive) (e.0) ∙ alive))
    | inr e ↦ s.tasks.quiet a b state e.1 ended
  ];
})

-- a task with a phone that leads to another is alive
leader_alive : (k : KernelState) (t : TaskNo) (p : ℕ) (u : TaskNo) → IsSound k → phone_at k t p ≡ Some (Connected u) → is_alive k t ≡ true
leader_alive k t p u s is = by_mark (is_alive k t) refl where
  by_mark : (b : Bool) → is_alive k t ≡ b → b ≡ true
  by_mark true e = refl
  by_mark false e = absurd (s.tasks.quiet t.0 p (Connected u) is e)

pub slam_silent : (marks : List Bool) (t u : TaskNo) (n : ℕ) (k : KernelState) (o : Option PhoneState) → phone_at k u n ≡ o → IsSilent marks t k → IsSilent marks t (slam t u k n o).state
slam_silent marks t u n k None is h = h
slam_silent marks t u n k (Some Free) is h = h
slam_silent marks t u n k (Some Connecting) is h = h
slam_silent marks t u n k (Some HungUp) is h = h
slam_silent marks t u n k (Some Slammed) is h = h
slam_silent marks t u n k (Some (Connected v)) is h = by_test (λ (s : Transition). IsSilent marks t s.state) (v.0 == t.0) _ _ (λ _. slammed) (λ _. h) where
  slammed : IsSilent marks t (with_phone k u n Slammed)
  slammed = record {
    ending = record { sound = kept_slammed (with_marks marks k) u n v h.ending.sound (leader_alive (with_marks marks k) u n v h.ending.sound is) is };
    still = λ q x there. elim (state_changed_at k.tasks.phones u.0 n t.0 q Slammed x there) [
      | inl e ↦ absurd (h.still q (Connected v) (ap (λ a. state_at k.tasks.phones a q) e.0 ∙ ap (state_at k.tasks.phones u.0) e.1 ∙ is))
      | inr old ↦ h.still q x old.1
    ];
  }

-- a fact of the states that a slam keeps, the whole second part keeps
module _ (t : TaskNo) (I : KernelState → Type 0) (keeps : (u : TaskNo) (n : ℕ) (k : KernelState) → I k → I (slam_at t u k n).state) where
  row_keeps : (u : TaskNo) (k : KernelState) → I k → I (slam_phones_of t u k).state
  row_keeps u k h = each_keeps (slam_at t u) I (λ j n g. keeps u n j g) (width k.tasks.phones u.0) 0 k h

  other_keeps : (n : ℕ) (k : KernelState) → I k → I (slam_other t k n).state
  other_keeps n k h = by_test (λ (s : Transition). I s.state) (n + 1 == t.0) _ _ (λ _. h) (λ _. row_keeps (task_no (n + 1)) k h)

  pub slams_keep : (k : KernelState) → I k → I (slam_phones_to t k).state
  slams_keep k h = each_keeps (slam_other t) I (λ j n g. other_keeps n j g) (length k.tasks.phones) 0 k h

-- no phone of task s leads to t
abbrev LeadsAway : TaskNo → ℕ → KernelState → Type 0
LeadsAway t s k = (q : ℕ) (v : TaskNo) → state_at k.tasks.phones s q ≡ Some (Connected v) → v.0 ≡ t.0 → ⊥

still_connected : (u : TaskNo) (n : ℕ) (k : KernelState) (s q : ℕ) (v : TaskNo) → state_at (with_phone k u n Slammed).tasks.phones s q ≡ Some (Connected v) → (((s ≡ u.0) × (q ≡ n) → ⊥) × (state_at k.tasks.phones s q ≡ Some (Connected v)))
still_connected u n k s q v h = elim (state_changed_at k.tasks.phones u.0 n s q Slammed (Connected v) h) [ inl i ↦ absurd (never v i.2) | inr old ↦ old ] where
  never : (v : TaskNo) → Slammed ≡ Connected v → ⊥
  never v e = cc

slam_away : (t u : TaskNo) (n : ℕ) (o : Option PhoneState) (k : KernelState) (s : ℕ) → LeadsAway t s k → LeadsAway t s (slam t u k n o).state
slam_away t u n None k s h = h
slam_away t u n (Some Free) k s h = h
slam_away t u n (Some Connecting) k s h = h
slam_away t u n (Some HungUp) k s h = h
slam_away t u n (Some Slammed) k s h = h
slam_away t u n (Some (Connected w)) k s h = by_test (λ (d : Transition). LeadsAway t s d.state) (w.0 == t.0) _ _ (λ _ q v x. h q v (still_connected u n k s q v x).1) (λ _. h)

slam_at_away : (t : TaskNo) (s : ℕ) (u : TaskNo) (n : ℕ) (k : KernelState) → LeadsAway t s k → LeadsAway t s (slam_at t u k n).state
slam_at_away t s u n k h = slam_away t u n (phone_at k u n) k s h

-- this phone of u does not lead to t
abbrev IsAway : TaskNo → TaskNo → KernelState → ℕ → Type 0
IsAway t u k q = (v : TaskNo) → state_at k.tasks.phones u.0 q ≡ Some (Connected v) → v.0 ≡ t.0 → ⊥

slam_does : (t u : TaskNo) (k : KernelState) (n m : ℕ) → (m ≡ n) ⊎ IsAway t u k m → IsAway t u (slam_at t u k n).state m
slam_does t u k n m g = by_state (phone_at k u n) refl where
  same : (s : Option PhoneState) → phone_at k u n ≡ s → ((v : TaskNo) → s ≡ Some (Connected v) → v.0 ≡ t.0 → ⊥) → IsAway t u k m
  same s h away = elim g [ inl e ↦ λ v x. away v (sym h ∙ ap (phone_at k u) (sym e) ∙ x) | inr old ↦ old ]

  by_state : (s : Option PhoneState) → phone_at k u n ≡ s → IsAway t u (slam t u k n s).state m
  by_state None h = same None h (λ v x. cc)
  by_state (Some Free) h = same (Some Free) h (λ v x. cc)
  by_state (Some Connecting) h = same (Some Connecting) h (λ v x. cc)
  by_state (Some HungUp) h = same (Some HungUp) h (λ v x. cc)
  by_state (Some Slammed) h = same (Some Slammed) h (λ v x. cc)
  by_state (Some (Connected w)) h = by_test (λ (d : Transition). IsAway t u d.state m) (w.0 == t.0) _ _
      (λ _ v x. let old = still_connected u n k u.0 m v x in elim g [ inl e ↦ absurd (old.0 (refl, e)) | inr away ↦ away v old.1 ])
      (λ ne. same (Some (Connected w)) h (λ v x e. let is : w ≡ v = cc in false≢true (sym ne ∙ eq-eqb w.0 t.0 (ap (λ (y : TaskNo). y.0) is ∙ e))))

row_does : (t u : TaskNo) (k : KernelState) → LeadsAway t u.0 (slam_phones_of t u k).state
row_does t u k q = each_does (slam_at t u) (IsAway t u) (slam_does t u) (width k.tasks.phones u.0) 0 k q
    (elim (cases_lt q (width k.tasks.phones u.0)) [ inl l ↦ inl (omega arith, omega arith) | inr l ↦ inr (λ v x _. none_some (phone_at k u q) (Connected v) (past_width k.tasks.phones u.0 q l) x) ])

-- the row is that of t, or leads away
abbrev IsCut : TaskNo → KernelState → ℕ → Type 0
IsCut t k m = (m + 1 ≡ t.0) ⊎ LeadsAway t (m + 1) k

other_does : (t : TaskNo) (k : KernelState) (n m : ℕ) → (m ≡ n) ⊎ IsCut t k m → IsCut t (slam_other t k n).state m
other_does t k n m g = by_test (λ (d : Transition). IsCut t d.state m) (n + 1 == t.0) _ _
    (λ e. elim g [ inl i ↦ inl (ap (λ x. x + 1) i ∙ eqb-true (n + 1) t.0 e) | inr old ↦ old ])
    (λ _. elim g [
      | inl i ↦ inr (subst (λ x. LeadsAway t (x + 1) (slam_phones_of t (task_no (n + 1)) k).state) (sym i) (row_does t (task_no (n + 1)) k))
      | inr (inl x) ↦ inl x
      | inr (inr h) ↦ inr (row_keeps t (LeadsAway t (m + 1)) (slam_at_away t (m + 1)) (task_no (n + 1)) k h)
    ])

no_row : (t : TaskNo) (k : KernelState) (m : ℕ) → length k.tasks.phones ≤ m → LeadsAway t (m + 1) k
no_row t k m l q v h e = by_row (m + 1) (λ z. omega arith) (omega arith) h where
  by_row : (s : ℕ) → (s ≡ 0 → ⊥) → length k.tasks.phones ≤ s - 1 → state_at k.tasks.phones s q ≡ Some (Connected v) → ⊥
  by_row s ne past x = let y = rw (ne_eqb s 0 ne, slice_get_past k.tasks.phones (s - 1) past) at x in cc

cut : (t : TaskNo) (k : KernelState) (m : ℕ) → IsCut t (slam_phones_to t k).state m
cut t k m = each_does (slam_other t) (IsCut t) (other_does t) (length k.tasks.phones) 0 k m (elim (cases_lt m (length k.tasks.phones)) [ inl l ↦ inl (omega arith, omega arith) | inr l ↦ inr (inr (no_row t k m l)) ])

-- no phone leads to t
abbrev pub NobodyLeads : TaskNo → KernelState → Type 0
NobodyLeads t k = (s q : ℕ) (v : TaskNo) → state_at k.tasks.phones s q ≡ Some (Connected v) → v.0 ≡ t.0 → ⊥

-- the phones of t are quiet, and no phone leads to it
pub record IsAlone (marks : List Bool) (t : TaskNo) (k : KernelState) : Type 0 where
  pub silent : IsSilent marks t k
  pub unled : NobodyLeads t k

-- after the second part
pub phones_slammed : (marks : List Bool) (t : TaskNo) (k : KernelState) → IsSilent marks t k → IsAlone marks t (slam_phones_to t k).state
phones_slammed marks t k h = record { silent = silent; unled = λ s q v is e. nowhere s q v is e (cases_eq s t.0) } where
  silent : IsSilent marks t (slam_phones_to t k).state
  silent = slams_keep t (IsSilent marks t) (λ u n j g. slam_silent marks t u n j (phone_at j u n) refl g) k h

  nowhere : (s q : ℕ) (v : TaskNo) → state_at (slam_phones_to t k).state.tasks.phones s q ≡ Some (Connected v) → v.0 ≡ t.0 → (s ≡ t.0) ⊎ (s ≡ t.0 → ⊥) → ⊥
  nowhere s q v is e (inl own) = silent.still q (Connected v) (ap (λ a. state_at (slam_phones_to t k).state.tasks.phones a q) (sym own) ∙ is)
  nowhere s q v is e (inr ne) = elim (cases_eq s 0) [
    | inl z ↦ let y = rw (eq-eqb s 0 z) at is in cc
    | inr nz ↦ elim (cut t k (s - 1)) [
      | inl x ↦ ne (omega arith)
      | inr x ↦ let one : s - 1 + 1 ≡ s = omega arith in x q v (ap (λ a. state_at (slam_phones_to t k).state.tasks.phones a q) one ∙ is) e
    ]
  ]
