-- A call is answered ENOMEM at once only where the pool has no room for it, and the pool stays within its bytes.
use Rattle.std.proofs.Common.{◌≡◌, ℕ, ◌+◌, ◌<◌, ◌≤◌, true, not, inl, inr, List, [], ◌∷◌, Option, None, Some, Result, Ok, Err, refl, ap, sym, subst, ◌∙◌, arith, nat_lt, nat_le}
use Rattle.std.specs.Prelude.{◌==◌, ◌&&◌}
use Rattle.std.proofs.lemmas.Bool.Decides.{nat_tests}
use Rattle.ipc_ids.specs.declared.numbers.Code.{Code}
use Rattle.ipc_ids.specs.declared.numbers.Label.{Label}
use Rattle.ipc_ids.specs.declared.numbers.TaskNo.{TaskNo}
use Rattle.ipc_ids.specs.declared.entry.Entry.TheVariants as entry
use Rattle.ipc_ids.specs.declared.message.Msg.{Msg}
use Rattle.ipc_ids.specs.declared.message.Request.{Request}
use Rattle.ipc_ids.specs.declared.message.PhoneState.{PhoneState}
use Rattle.ipc_ids.specs.declared.message.PhoneState.TheVariants.{Free, Connecting, Connected, HungUp, Slammed}
use Rattle.ipc_ids.specs.declared.methods.MethodKind.{MethodKind}
use Rattle.ipc_ids.specs.declared.methods.MethodKind.TheVariants.{ConnectMeTo, DataWrite, DataRead, ShareOut, ShareIn}
use Rattle.ipc_ids.specs.Codes.{ehangup, enoent, elimit, enomem}
use Rattle.ipc_ids.specs.Methods.{kind_of}
use Rattle.ipc_ids.specs.Tables.{most_active, most_buffered}
use Rattle.call_slab.specs.declared.call.Call.{Call}
use Rattle.call_slab.specs.declared.call.Place.TheVariants.{Incoming, Answers}
use Rattle.answerbox.specs.Calls.{active_calls, used}
use Rattle.address_space.specs.Areas.{Area, is_subset}
use Rattle.address_space.specs.Memory.{Memory, spot_in, area_at, read_at, read}
use Rattle.data_hooks.specs.DataMoments.{address_of, kept_count, pooled, write_kept, write_before_send, read_before_send}
use Rattle.share_hooks.specs.ShareMoments.{is_between, base_of, pages_of, rights_of, offer, out_before_send, in_before_send}
use Rattle.switchboard.specs.State.{KernelState, is_alive, phone_at, label_of}
use Rattle.switchboard.specs.Sound.{IsSound}
use Rattle.switchboard.specs.Kept.{first_usable_of}
use Rattle.switchboard.specs.Serving.{Served}
use Rattle.cleanup.specs.Kill.{kill}
use Rattle.switchboard.specs.Joins.{new_call, answer_at_once}
use Rattle.cleanup.proofs.Killing.{sound_kill}
use Rattle.switchboard.proofs.Repeats.{by_test}
use Rattle.kernel_core.specs.Moments.{keeping_to_send, carrying, bringing, asking, before_send_of}
use Rattle.kernel_core.specs.Calling.{is_callable, sent_to, call_through, call_tested, call_over, call}
use Rattle.kernel_core.specs.Kernel.{serve, kill_event, spawn_event, spawning, next_task, named}
use Rattle.kernel_core.proofs.Serving.{sound_serve}
use Rattle.kernel_laws.specs.PoolLaws.{pool, bytes_asked, HasAnswer, IsFullFor}
use Rattle.kernel_laws.proofs.PoolChanges.{pool-used}
use Rattle.kernel_laws.proofs.Told.{code_in}
use Rattle.kernel_laws.proofs.LawfulData.{decided_count}

-- a transfer that is too large is refused with another code
count_code : (args : List ℕ) → code_in (kept_count args) ≡ 9 → ⊥
count_code args e = elim (decided_count args) [
  | inl h ↦ (let c : code_in (kept_count args) ≡ 5 = ap code_in h.1 in omega (arith, c, e))
  | inr h ↦ (let c : code_in (kept_count args) ≡ 100 = ap code_in h.1 in omega (arith, c, e))
]

-- bytes are not read where they may not be
read_code : (m : Memory) (t : TaskNo) (at count : ℕ) → code_in (read m t at count) ≡ 9 → ⊥
read_code m t at count = by_test (λ (r : Result (List ℕ) Code). code_in r ≡ 9 → ⊥) (count == 0) _ _ (λ _ e. omega arith) (λ _. by_area _) where
  by_area : (o : Option Area) → code_in (read_at m count (spot_in at o)) ≡ 9 → ⊥
  by_area None e = omega arith
  by_area (Some a) e = omega arith

-- or where the pool has no room for them
pooled_full : (used count : ℕ) (r : Result (List ℕ) Code) → (code_in r ≡ 9 → ⊥) → code_in (pooled used count r) ≡ 9 → most_buffered < used + count
pooled_full used count (Ok bytes) other e = by_test (λ (r : Result (List ℕ) Code). code_in r ≡ 9 → most_buffered < used + count) (nat_lt most_buffered (used + count)) _ _ (λ full _. let over : most_buffered < used + count = grind (arith, nat_tests, full) in over) (λ _ f. absurd (omega arith)) e
pooled_full used count (Err code) other e = absurd (other e)

write_full : (m : Memory) (t : TaskNo) (args : List ℕ) (used : ℕ) → code_in (write_before_send m t args used) ≡ 9
    → most_buffered < used + bytes_asked args
write_full m t args used e = elim (decided_count args) [
  | inl h ↦ absurd (let c : code_in (write_kept m t args used (kept_count args)) ≡ 5 =
      ap (λ r. code_in (write_kept m t args used r)) h.1 in omega (arith, c, e))
  | inr h ↦
      pooled_full used (bytes_asked args) (read m t (address_of args) (bytes_asked args))
      (read_code m t (address_of args) (bytes_asked args)) (ap (λ r. code_in (write_kept m t args used r)) (sym h.1) ∙ e)
]

offer_code : (args : List ℕ) (o : Option Area) → code_in (offer args o) ≡ 9 → ⊥
offer_code args None e = omega arith
offer_code args (Some a) e = by_test (λ (r : Result Unit Code). code_in r ≡ 9 → ⊥) ((a.pages == pages_of args) && (is_between 1 3 (rights_of args) && is_subset (rights_of args) a.rights)) _ _ (λ _ f. omega arith) (λ _ f. omega arith) e

in_code : (args : List ℕ) → code_in (in_before_send args) ≡ 9 → ⊥
in_code args = by_test (λ (r : Result Unit Code). code_in r ≡ 9 → ⊥) (is_between 1 16 (pages_of args) && is_between 1 3 (rights_of args)) _ _ (λ _ e. omega arith) (λ _ e. omega arith)

-- a call

module _ (k : KernelState) (t : TaskNo) (p : ℕ) (msg : Msg) where
  abbrev IsFull : Type 0
  IsFull = IsFullFor k (bytes_asked msg.args)

  abbrev Fills : Served → Type 0
  Fills s = HasAnswer enomem s.entries → IsFull

  at_once : (c : Call) (code : Code) → (code.0 ≡ 9 → IsFull) → Fills (answer_at_once k c code)
  at_once c code full h = elim h [ inl a ↦ absurd a | inr b ↦ elim b [ inl is ↦ full (ap (λ (x : Code). x.0) is) | inr d ↦ absurd d ] ]

  -- a call that is sent is not answered
  alone : HasAnswer enomem (entry.Accepted (record { 0 = 0 }) (label_of t p) 0 None ∷ []) → IsFull
  alone h = absurd (elim h [ inl a ↦ a | inr b ↦ b ])

  keeping : (u : TaskNo) (o : Option Label) → Fills (sent_to u k (new_call k t p msg (Incoming u)) (keeping_to_send k (new_call k t p msg (Incoming u)) o))
  keeping u None h = at_once (record (new_call k t p msg (Incoming u)) { place = Answers t }) elimit (λ e. absurd (omega arith)) h
  keeping u (Some l) h = absurd (elim h [ inl a ↦ a | inr b ↦ elim b [ inl d ↦ d | inr e ↦ e ] ])

  carried_on : (u : TaskNo) (told : Result (List ℕ) Code) → (code_in told ≡ 9 → IsFull) → Fills (sent_to u k (new_call k t p msg (Incoming u)) (carrying k (new_call k t p msg (Incoming u)) told))
  carried_on u (Ok bytes) full = alone
  carried_on u (Err code) full = at_once (record (new_call k t p msg (Incoming u)) { place = Answers t }) code full

  brought : (u : TaskNo) (told : Result ℕ Code) → (code_in told ≡ 9 → ⊥) → Fills (sent_to u k (new_call k t p msg (Incoming u)) (bringing k (new_call k t p msg (Incoming u)) told))
  brought u (Ok count) other = alone
  brought u (Err code) other = at_once (record (new_call k t p msg (Incoming u)) { place = Answers t }) code (λ e. absurd (other e))

  asked : (u : TaskNo) (told : Result Unit Code) → (code_in told ≡ 9 → ⊥) → Fills (sent_to u k (new_call k t p msg (Incoming u)) (asking k (new_call k t p msg (Incoming u)) told))
  asked u (Ok done) other = alone
  asked u (Err code) other = at_once (record (new_call k t p msg (Incoming u)) { place = Answers t }) code (λ e. absurd (other e))

  sent : (u : TaskNo) (kind : MethodKind) → Fills (sent_to u k (new_call k t p msg (Incoming u)) (before_send_of kind k (new_call k t p msg (Incoming u))))
  sent u ConnectMeTo = keeping u (first_usable_of k t)
  sent u DataWrite = carried_on u (write_before_send k.memory t msg.args (used k.calls)) (λ e. subst (λ (n : ℕ). most_buffered < n + bytes_asked msg.args) (sym (pool-used k)) (write_full k.memory t msg.args (used k.calls) e))
  sent u DataRead = brought u (read_before_send msg.args) (count_code msg.args)
  sent u ShareOut = asked u (out_before_send k.memory t msg.args) (offer_code msg.args (area_at k.memory t (base_of msg.args)))
  sent u ShareIn = asked u (in_before_send msg.args) (in_code msg.args)
  sent u _ = alone

  through : (s : PhoneState) → Fills (call_through k t p msg s)
  through Free h = absurd h
  through Connecting h = absurd h
  through (Connected u) h = sent u (kind_of msg.method) h
  through HungUp h = at_once (new_call k t p msg (Answers t)) ehangup (λ e. absurd (omega arith)) h
  through Slammed h = at_once (new_call k t p msg (Answers t)) enoent (λ e. absurd (omega arith)) h

  tested : (s : PhoneState) → Fills (call_tested k t p msg s)
  tested s = by_test Fills (not (is_callable (kind_of msg.method))) _ _ (λ _ h. absurd h) (λ _. by_test Fills (nat_le most_active (active_calls k.calls (label_of t p))) _ _ (λ _ h. absurd h) (λ _. through s))

  called : (o : Option PhoneState) → Fills (call_over k t p msg o)
  called (Some (Connected u)) h = tested (Connected u) h
  called (Some HungUp) h = tested HungUp h
  called (Some Slammed) h = tested Slammed h
  called _ h = absurd h

pub call_is_full : (k : KernelState) (t : TaskNo) (p : ℕ) (msg : Msg) → HasAnswer enomem (call k t p msg).entries → IsFullFor k (bytes_asked msg.args)
call_is_full k t p msg = called k t p msg (phone_at k t p)

-- the pool stays within its bytes

few : (k : KernelState) → IsSound k → pool k ≤ most_buffered
few k sound = let b = sound.calls.bytes in let same = pool-used k in omega (arith, b, same)

pub serve_is_within : (k : KernelState) (t : TaskNo) (asked : Request) → IsSound k → is_alive k t ≡ true → pool (serve k t asked).state ≤ most_buffered
serve_is_within k t asked sound alive = few (serve k t asked).state (sound_serve k t asked sound alive)

pub kill_is_within : (k : KernelState) (t : TaskNo) → IsSound k → is_alive k t ≡ true → pool (kill_event k t).state ≤ most_buffered
kill_is_within k t sound alive = few (kill k t).state (sound_kill k t sound alive)

-- a task that is made is no matter of the pool
pub spawn_keeps : (k : KernelState) (limit : ℕ) (names : Option TaskNo) → pool (spawn_event k limit names).state ≡ pool k
spawn_keeps k limit names = by_name (named k names) where
  by_name : (o : Option TaskNo) → pool (spawning k (next_task k) limit o).state ≡ pool k
  by_name None = refl
  by_name (Some u) = refl
