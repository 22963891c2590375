-- What holds inside an event, and what may happen there, one entry at a time.
use Rattle.std.proofs.Common.{ℕ, suc, ◌≡◌, ◌⊎◌, Bool, true, false, not, Option, Some, None, List, ◌∷◌, ◌++◌, refl, sym, ◌∙◌, ap, subst, inl, inr, arith}
use Rattle.std.specs.Prelude.{◌==◌, if◌then◌else◌, ⊤, is_none}
use Rattle.std.specs.Option.{option_to_list}
use Rattle.std.proofs.lemmas.Bool.{eqb-true, cases_eq, eq-eqb, ne_eqb, false≢true}
use Rattle.ipc_ids.specs.declared.numbers.TaskNo.{TaskNo}
use Rattle.ipc_ids.specs.declared.numbers.Label.{Label}
use Rattle.ipc_ids.specs.declared.message.Reply.{Reply}
use Rattle.ipc_ids.specs.declared.entry.Entry.{Entry}
use Rattle.ipc_ids.specs.declared.message.PhoneState.{PhoneState}
use Rattle.ipc_ids.specs.declared.message.PhoneState.TheVariants as phone
use Rattle.ipc_ids.specs.Tales.{Receive, Event, Step, Kill, Note, Accepted, Answered, Vanished, Dropped, To, author, Tale, On, Other, tales, onto}
use Rattle.ipc_ids.specs.Life.{Life, Nowhere, Answers, caller_of, life, is_killed, last_number, number_after, event, task_of, IsOf, Allowed, after}
use Rattle.ipc_ids.specs.Lawful.{Lawful, IsRound, StandsAt}
use Rattle.ipc_ids.specs.Origins.{Origin, origin, origin_after, is_forgotten, forgotten_after}
use Rattle.ipc_ids.proofs.Pasts.{above, follows, onto-append, tales-append}
use Rattle.call_slab.specs.declared.call.Call.{Call}
use Rattle.call_slab.specs.declared.call.Place.{Place}
use Rattle.call_slab.specs.declared.call.Place.TheVariants as place
use Rattle.answerbox.specs.Calls.{CallTable, call_at, same_place, enqueue, put_at, without_call, front}
use Rattle.answerbox.proofs.Fronts.{front_live}
use Rattle.phone_table.specs.Phones.{state_at}
use Rattle.address_space.specs.Memory.{Memory}
use Rattle.switchboard.specs.State.{KernelState, Transition, with_calls, with_memory, with_phone, alive_in, is_alive}
use Rattle.switchboard.specs.Kept.{kept_phone, lent_phone, unless_freed, with_kept, kept_note}
use Rattle.switchboard.specs.Joins.{vanishing, answer_to, settle, settle_for, lives, drop_answer}
use Rattle.switchboard.specs.Serving.{Handed, Served}
use Rattle.switchboard.proofs.Lookups.{at_insert, at_remove}
use Rattle.switchboard.proofs.Rows.{state_changed_at}
use Rattle.kernel_core.specs.History.{is_ended, life_at, IsGone}

-- a past with these entries more, the first of which came first
abbrev pub and_then : List Entry → List Tale → List Tale
and_then entries p = onto (tales entries) p

-- a task that there is has ended or is alive
abbrev pub IsTask : List Bool → ℕ → Type 0
IsTask alive u = alive_in alive u ≡ not (is_ended alive u)

-- a record has its caller, a task that there is, unless that has ended
abbrev pub CallerFits : List Bool → TaskNo → Option TaskNo → Type 0
CallerFits alive from None = is_ended alive from.0 ≡ true
CallerFits alive from (Some u) = (u.0 ≡ from.0) × IsTask alive from.0

-- answers stand at the task that called
abbrev pub IsHome : ℕ → Place → Type 0
IsHome from (place.Incoming t) = ⊤
IsHome from (place.Dispatched t) = ⊤
IsHome from (place.Answers t) = t.0 ≡ from

-- the record c of call n, where its life, its origin and whether it is forgotten are these
pub record IsRecord (alive : List Bool) (l : Life) (o : Option Origin) (lost : Bool) (n : ℕ) (c : Call) : Type 0 where
  pub number : c.number.0 ≡ n
  pub place : l ≡ life_at c.from.task.0 c.place
  pub caller : CallerFits alive c.from.task c.caller
  pub home : IsHome c.from.task.0 c.place
  pub origin : o ≡ Some (record { phone = c.from.phone.0; method = c.request.method })
  pub forgotten : lost ≡ is_none c.caller

abbrev pub Agrees : List Bool → Life → Option Origin → Bool → ℕ → Option Call → Type 0
Agrees alive l o lost n None = IsGone l
Agrees alive l o lost n (Some c) = IsRecord alive l o lost n c

-- what a moment hands to a join: this reply, this phone reserved and these bytes, where a phone that is kept is in state s
abbrev pub handed : KernelState → Call → Reply → Option Label → List ℕ → Option Label → PhoneState → Handed
handed k c reply reserved bytes kept s = record { state = with_kept k kept s; call = record c { reply = reply; reserved = reserved; buffer = bytes }; note = kept_note kept s }

-- holds after each entry
pub record Core (p : List Tale) (alive : List Bool) (table : CallTable) : Type 0 where
  pub lawful : Lawful p
  pub round : IsRound p
  pub number : suc (last_number p) ≡ table.next_number
  pub ended : (u : ℕ) → is_killed u p ≡ is_ended alive u
  pub calls : (n : ℕ) → Agrees alive (life n p) (origin n p) (is_forgotten n p) n (call_at table n)

-- holds inside event e: only of the task that is killed in it may anything be left
pub record InEvent (e : Event) (p : List Tale) (k : KernelState) : Type 0 where
  pub core : Core p k.tasks.alive k.calls
  pub now : event p ≡ Some e
  pub task : IsTask k.tasks.alive (task_of e)
  pub acts : is_ended k.tasks.alive (task_of e) ≡ true → e ≡ Kill (task_of e)
  pub stands : (u n : ℕ) → StandsAt u (life n p) → is_ended k.tasks.alive u ≡ true → e ≡ Kill u
  pub leads : (s q : ℕ) (u : TaskNo) → state_at k.tasks.phones s q ≡ Some (phone.Connected u) → is_ended k.tasks.alive u.0 ≡ true → e ≡ Kill u.0

-- the same after a step, and after a request, that began with the past p
abbrev pub AfterStep : Event → List Tale → Transition → Type 0
AfterStep e p step = InEvent e (and_then step.entries p) step.state

abbrev pub AfterServed : Event → List Tale → Served → Type 0
AfterServed e p served = InEvent e (and_then served.entries p) served.state

-- where a phone in this state leads to a task that has ended, that task is killed in event e
abbrev pub MayLead : Event → List Bool → PhoneState → Type 0
MayLead e alive s = (v : TaskNo) → s ≡ phone.Connected v → is_ended alive v.0 ≡ true → e ≡ Kill v.0

pub and_then-append : (xs ys : List Entry) (p : List Tale) → and_then (xs ++ ys) p ≡ and_then ys (and_then xs p)
and_then-append xs ys p = ap (λ l. onto l p) (tales-append xs ys) ∙ onto-append (tales xs) (tales ys) p

pub same_task : (t u : TaskNo) → t.0 ≡ u.0 → t ≡ u
same_task t u e = ap (λ n. let r : TaskNo = record { 0 = n } in r) e

pub same_place-true : (a b : Place) → same_place a b ≡ true → a ≡ b
same_place-true a b h = grind (arith, eqb-true, same_task)

flipped : (a b : Bool) → a ≡ not b → b ≡ not a
flipped a true h = ap not (sym h)
flipped a false h = ap not (sym h)

module _ (e : Event) (p : List Tale) (k : KernelState) (inside : InEvent e p k) where
  -- one note, which leaves the call with record c
  pub noted : (n : ℕ) (w : Note) (l : Life) (q : CallTable) (c : Option Call) → life n p ≡ l → Allowed p n w l → ((u : ℕ) → StandsAt u (after w l) → is_ended k.tasks.alive u ≡ true → e ≡ Kill u) → IsRound (On n w ∷ p) → suc (number_after n w (last_number p)) ≡ q.next_number → ((m : ℕ) → call_at q m ≡ (if n == m then c else call_at k.calls m)) → Agrees k.tasks.alive (after w l) (origin_after w (origin n p)) (forgotten_after w (is_forgotten n p)) n c → InEvent e (On n w ∷ p) (with_calls k q)
  noted n w l q c at allowed places round number there agrees =
      let places' : (u : ℕ) → StandsAt u (after w (life n p)) → is_ended k.tasks.alive u ≡ true → e ≡ Kill u = rw at places in
      let agrees' : Agrees k.tasks.alive (after w (life n p)) (origin_after w (origin n p)) (forgotten_after w (is_forgotten n p)) n c = rw at agrees in
      record {
        core = record {
          lawful = (inside.core.lawful, follows p e (On n w) inside.core.round inside.now, (rw at allowed, λ u s d. inside.now ∙ ap Some (places' u s (sym (inside.core.ended u) ∙ d))));
          round = round;
          number = number;
          ended = inside.core.ended;
          calls = λ m. subst (λ (o : Option Call). Agrees k.tasks.alive (life m (On n w ∷ p)) (origin m (On n w ∷ p)) (is_forgotten m (On n w ∷ p)) m o) (sym (there m))
              (elim (cases_eq n m) [
                | inl i ↦ rw (eq-eqb n m i) (rw i at agrees')
                | inr ne ↦ rw (ne_eqb n m ne) (inside.core.calls m)
              ]);
        };
        now = inside.now;
        task = inside.task;
        acts = inside.acts;
        stands = λ u m. elim (cases_eq n m) [
          | inl i ↦ rw (eq-eqb n m i) (rw i at places' u)
          | inr ne ↦ rw (ne_eqb n m ne) (inside.stands u m)
        ];
        leads = inside.leads;
      }

  pub is_told : (n : ℕ) (c : Call) → call_at k.calls n ≡ Some c → IsRecord k.tasks.alive (life n p) (origin n p) (is_forgotten n p) n c
  is_told n c h = subst (Agrees k.tasks.alive (life n p) (origin n p) (is_forgotten n p) n) h (inside.core.calls n)

  -- a call stands under its own number
  pub own : (n : ℕ) (c : Call) → call_at k.calls n ≡ Some c → call_at k.calls c.number.0 ≡ Some c
  own n c h = ap (call_at k.calls) (is_told n c h).number ∙ h

  -- the front stands at its place
  pub front_at : (place : Place) (c : Call) → front k.calls place ≡ Some c → (call_at k.calls c.number.0 ≡ Some c) × (c.place ≡ place)
  front_at place c is = let f = front_live k.calls place c is in (own f.0 c f.1, same_place-true c.place place f.2)

  -- a phone changes
  pub phone_told : (t : TaskNo) (q : ℕ) (s : PhoneState) → MayLead e k.tasks.alive s → InEvent e (Other ∷ p) (with_phone k t q s)
  phone_told t q s leads = record {
    core = record {
      lawful = (inside.core.lawful, follows p e Other inside.core.round inside.now, tt);
      round = tt;
      number = inside.core.number;
      ended = inside.core.ended;
      calls = inside.core.calls;
    };
    now = inside.now;
    task = inside.task;
    acts = inside.acts;
    stands = inside.stands;
    leads = λ x y v h d. elim (state_changed_at k.tasks.phones t.0 q x y s (phone.Connected v) h) [ inl i ↦ leads v i.2 d | inr old ↦ inside.leads x y v old.1 d ];
  }

  -- memory changes, and no entry tells of it
  pub silent_told : (m : Memory) → InEvent e p (with_memory k m)
  silent_told m = record { core = inside.core; now = inside.now; task = inside.task; acts = inside.acts; stands = inside.stands; leads = inside.leads }

  -- memory changes, with an entry that tells of it
  pub memory_told : (m : Memory) → InEvent e (Other ∷ p) (with_memory k m)
  memory_told m = record {
    core = record {
      lawful = (inside.core.lawful, follows p e Other inside.core.round inside.now, tt);
      round = tt;
      number = inside.core.number;
      ended = inside.core.ended;
      calls = inside.core.calls;
    };
    now = inside.now;
    task = inside.task;
    acts = inside.acts;
    stands = inside.stands;
    leads = inside.leads;
  }

  -- a phone that a call keeps changes, where it keeps one
  pub kept_told : (kept : Option Label) (s : PhoneState) → MayLead e k.tasks.alive s → InEvent e (and_then (option_to_list (kept_note kept s)) p) (with_kept k kept s)
  kept_told None s leads = inside
  kept_told (Some l) s leads = phone_told l.task l.phone.0 s leads

  -- a call is accepted to a task
  pub accepted : (c : Call) (v : TaskNo) → c.number.0 ≡ k.calls.next_number → c.place ≡ place.Incoming v → c.caller ≡ Some c.from.task → task_of e ≡ c.from.task.0 → (is_ended k.tasks.alive v.0 ≡ true → e ≡ Kill v.0) → InEvent e (On c.number.0 (Accepted c.from.task.0 c.from.phone.0 c.request.method (To v.0)) ∷ p) (with_calls k (enqueue k.calls c))
  accepted c v number place caller actor there =
      let last = inside.core.number in
      noted c.number.0 (Accepted c.from.task.0 c.from.phone.0 c.request.method (To v.0)) Nowhere (enqueue k.calls c)
      (Some (record c { stamp = k.calls.next_stamp }))
      (above p inside.core.lawful c.number.0 (omega arith)) (omega arith, subst (IsOf c.from.task.0) (sym inside.now) actor) (λ u s. rw s at there) tt (omega arith)
      (λ m. at_insert k.calls.records c.number.0 m (record c { stamp = k.calls.next_stamp }))
      (record { number = refl; place = rw place; caller = rw caller (refl, rw actor at inside.task); home = rw place tt; origin = refl; forgotten = rw caller })

-- a note on a call, and then a change of a phone that it keeps, where it keeps one
pub joined : (e : Event) (p : List Tale) (k : KernelState) (w : Tale) (q : CallTable) → InEvent e (w ∷ p) (with_calls k q) → (kept : Option Label) (s : PhoneState) → MayLead e k.tasks.alive s → InEvent e (and_then (option_to_list (kept_note kept s)) (w ∷ p)) (with_calls (with_kept k kept s) q)
joined e p k w q told kept s leads = kept_told e (w ∷ p) (with_calls k q) told kept s leads

pub free_leads : (e : Event) (alive : List Bool) → MayLead e alive phone.Free
free_leads e alive v x d = absurd (cc x)

-- what each join leaves
module _ (e : Event) (p : List Tale) (k : KernelState) (inside : InEvent e p k) where
  pub vanished : (c : Call) (l : Life) → call_at k.calls c.number.0 ≡ Some c → life_at c.from.task.0 c.place ≡ l → Allowed p c.number.0 Vanished l → AfterStep e p (vanishing k c)
  vanished c l h at allowed =
      let it = is_told e p k inside c.number.0 c h in
      let table : CallTable = without_call k.calls c.number.0 in
      joined e p k (On c.number.0 Vanished) table
      (noted e p k inside c.number.0 Vanished l table None (it.place ∙ at) allowed (λ u s. absurd s) tt inside.core.number (λ m. at_remove k.calls.records c.number.0 m) tt)
      (kept_phone c) phone.Free (free_leads e k.tasks.alive)

  -- the caller of a record has ended just where it is not alive
  pub caller_told : (c : Call) (u : TaskNo) (b : Bool) → call_at k.calls c.number.0 ≡ Some c → c.caller ≡ Some u → is_alive k u ≡ b → (u.0 ≡ c.from.task.0) × (is_ended k.tasks.alive c.from.task.0 ≡ not b)
  caller_told c u b h is lives' =
      let it = is_told e p k inside c.number.0 c h in
      let fits : (u.0 ≡ c.from.task.0) × IsTask k.tasks.alive c.from.task.0 = subst (CallerFits k.tasks.alive c.from.task) is it.caller in
      (fits.0, flipped b (is_ended k.tasks.alive c.from.task.0) (sym lives' ∙ ap (alive_in k.tasks.alive) fits.0 ∙ fits.1))

  -- the call goes back to its caller with this reply and these bytes, with this phone reserved
  pub answered : (c : Call) (reply : Reply) (reserved : Option Label) (bytes : List ℕ) (by : Option TaskNo) (u : TaskNo) (l : Life) → call_at k.calls c.number.0 ≡ Some c → life_at c.from.task.0 c.place ≡ l → caller_of l ≡ c.from.task.0 → c.caller ≡ Some u → is_alive k u ≡ true → (is_killed c.from.task.0 p ≡ false → Allowed p c.number.0 (Answered reply.code.0 (author by)) l) → (kept : Option Label) (s : PhoneState) → MayLead e k.tasks.alive s → AfterStep e p (answer_to (handed k c reply reserved bytes kept s) by u)
  answered c reply reserved bytes by u l h at mine is lives' answer kept s leads =
      let it = is_told e p k inside c.number.0 c h in
      let caller = caller_told c u true h is lives' in
      let d : Call = record c { reply = reply; reserved = reserved; buffer = bytes; place = place.Answers u; stamp = k.calls.next_stamp } in
      let table : CallTable = put_at k.calls (record c { reply = reply; reserved = reserved; buffer = bytes }) (place.Answers u) in
      joined e p k (On c.number.0 (Answered reply.code.0 (author by))) table
      (noted e p k inside c.number.0 (Answered reply.code.0 (author by)) l table (Some d)
      (it.place ∙ at) (answer (inside.core.ended c.from.task.0 ∙ caller.1)) (λ x s d. absurd (false≢true (sym caller.1 ∙ rw (← s, mine) at d))) tt inside.core.number
      (λ m. at_insert k.calls.records c.number.0 m d)
      (record { number = refl; place = ap Answers mine; caller = it.caller; home = caller.0; origin = it.origin; forgotten = it.forgotten }))
      kept s leads

  -- an answer, or the end of the call, where the table allows both
  pub settled : (c : Call) (reply : Reply) (by : Option TaskNo) (l : Life) → call_at k.calls c.number.0 ≡ Some c → life_at c.from.task.0 c.place ≡ l → caller_of l ≡ c.from.task.0 → (is_killed c.from.task.0 p ≡ true → Allowed p c.number.0 Vanished l) → (is_killed c.from.task.0 p ≡ false → Allowed p c.number.0 (Answered reply.code.0 (author by)) l) → AfterStep e p (settle k c reply by)
  settled c reply by l h at mine vanish answer = by_caller c.caller (lives k c.caller) refl refl where
    by_caller : (o : Option TaskNo) (b : Bool) → c.caller ≡ o → lives k o ≡ b → AfterStep e p (settle_for k c reply by o b)
    by_caller None b is lives' =
        let it = is_told e p k inside c.number.0 c h in
        let dead : is_ended k.tasks.alive c.from.task.0 ≡ true = subst (CallerFits k.tasks.alive c.from.task) is it.caller in
        vanished c l h at (vanish (inside.core.ended c.from.task.0 ∙ dead))
    by_caller (Some u) false is lives' = vanished c l h at (vanish (inside.core.ended c.from.task.0 ∙ (caller_told c u false h is lives').1))
    by_caller (Some u) true is lives' =
        answered c reply (unless_freed (lent_phone c) c.reserved) c.buffer by u l h at mine is lives' answer (lent_phone c) phone.Free (free_leads e k.tasks.alive)

  -- an answer is dropped
  pub dropped : (t : TaskNo) (c : Call) → (e ≡ Step t.0 Receive) ⊎ (e ≡ Kill t.0) → call_at k.calls c.number.0 ≡ Some c → c.place ≡ place.Answers t → AfterStep e p (drop_answer t k c)
  dropped t c why h at =
      let it = is_told e p k inside c.number.0 c h in
      let home : t.0 ≡ c.from.task.0 = subst (IsHome c.from.task.0) at it.home in
      let table : CallTable = without_call k.calls c.number.0 in
      joined e p k (On c.number.0 (Dropped t.0)) table
      (noted e p k inside c.number.0 (Dropped t.0) (Answers c.from.task.0) table None (it.place ∙ ap (life_at c.from.task.0) at)
      (home, elim why [ inl y ↦ inl (rw (← home) (inside.now ∙ ap Some y)) | inr y ↦ inr (rw (← home) (inside.now ∙ ap Some y)) ])
      (λ u s. absurd s) tt inside.core.number (λ m. at_remove k.calls.records c.number.0 m) tt)
      (kept_phone c) phone.Free (free_leads e k.tasks.alive)
