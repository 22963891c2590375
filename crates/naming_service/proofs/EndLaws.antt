-- The laws of waits, over the definitions.
use Rattle.std.proofs.Common.{◌≡◌, ◌⊎◌, inl, inr, ℕ, ◌==◌, Bool, true, false, List, [], ◌∷◌, ◌++◌, map, Option, Some, None, refl, ap}
use Rattle.std.specs.Prelude.{cond, not, if◌then◌else◌}
use Rattle.std.proofs.lemmas.Bool.{eqb-true, eqb-false}
use Rattle.ipc_ids.specs.declared.numbers.CallNo.{CallNo}
use Rattle.ipc_ids.specs.declared.message.Outcome.{Outcome}
use Rattle.ipc_ids.specs.declared.message.Outcome.TheVariants as outcome
use Rattle.ipc_ids.specs.Codes.{eok}
use Rattle.ipc_ids.specs.Methods.{phone_hungup}
use Rattle.task_ends.specs.declared.introduced.End.{End}
use Rattle.task_ends.specs.declared.introduced.Introduced.{Introduced}
use Rattle.task_ends.specs.declared.introduced.Wait.{Wait as Waiter}
use Rattle.task_ends.specs.declared.ends.Waited.{Waited}
use Rattle.task_ends.specs.declared.ends.Waited.TheVariants as waited
use Rattle.task_ends.specs.Ends.{EndsState, waits_for, other_waits, open_entry, entry_of, is_known, waited_by, with_wait, freed_end_by, freed_waits_by, ended_by}
use Rattle.naming_service.specs.declared.received.ReceivedCall.{ReceivedCall}
use Rattle.naming_service.specs.declared.received.Work.{Work}
use Rattle.naming_service.specs.declared.received.Asked.{Asked}
use Rattle.naming_service.specs.declared.received.Asked.TheVariants.{Register, Connect, Introduce, Leave, Wait, HungUp, Other}
use Rattle.naming_service.specs.Naming.{NamingState, first_work, service_of, phone_given, no_phone, is_blocking, asked_by, answering, telling, telling_all, phone_of, without_phone, registered_by, wait_or_refuse_by, connect_by, introduced_by, waited_for_by, handled_by, after_receive, after_outcome_by, after}
use Rattle.naming_service.specs.Registrations.{receipt, HasWorkOn, HasWait}
use Rattle.naming_service.specs.Ends.{IsParted, AnswersWaits}
use Rattle.naming_service.proofs.Calls.{work_behind}

-- each of them learns of the end
all_told : (end : End) (calls : List CallNo) → telling_all end calls ≡ map (telling end) calls
all_told end [] = refl
all_told end (call ∷ calls) = ap (λ (ws : List _). telling end call ∷ ws) (all_told end calls)

parted_one : (w : ℕ) (x : Waiter) (xs : List Waiter) (go : List CallNo) (stay : List Waiter) (b : Bool) → (x.task == w) ≡ b → IsParted w xs go stay
    → IsParted w (x ∷ xs) (if b then x.call ∷ go else go) (cond (not b) (x ∷ stay) stay)
parted_one w x xs go stay true is rest = inl (go, eqb-true x.task w is, refl, rest)
parted_one w x xs go stay false is rest = inr (stay, eqb-false x.task w is, refl, rest)

-- those that wait for the task go, and the others stay
parted : (w : ℕ) (xs : List Waiter) → IsParted w xs (waits_for w xs) (other_waits w xs)
parted w [] = (refl, refl)
parted w (x ∷ xs) = parted_one w x xs (waits_for w xs) (other_waits w xs) (x.task == w) refl (parted w xs)

-- a call that waits learns of the end, or waits still
one_waiting : (end : End) (w : ℕ) (n : CallNo) (x : Waiter) (xs : List Waiter) (b : Bool) → HasWait n (x ∷ xs)
    → (HasWait n xs → HasWorkOn n (telling_all end (waits_for w xs)) ⊎ HasWait n (other_waits w xs))
    → HasWorkOn n (telling_all end (if b then x.call ∷ waits_for w xs else waits_for w xs)) ⊎ HasWait n (cond (not b) (x ∷ other_waits w xs) (other_waits w xs))
one_waiting end w n x xs true (inl is) later = inl (inl is)
one_waiting end w n x xs true (inr h) later = elim (later h) [ inl goes ↦ inl (inr goes) | inr stays ↦ inr stays ]
one_waiting end w n x xs false (inl is) later = inr (inl is)
one_waiting end w n x xs false (inr h) later = elim (later h) [ inl goes ↦ inl goes | inr stays ↦ inr (inr stays) ]

still_waiting : (end : End) (w : ℕ) (n : CallNo) (xs : List Waiter) → HasWait n xs → HasWorkOn n (telling_all end (waits_for w xs)) ⊎ HasWait n (other_waits w xs)
still_waiting end w n [] h = absurd h
still_waiting end w n (x ∷ xs) h = one_waiting end w n x xs (x.task == w) h (still_waiting end w n xs)

-- a call that waits, after a call c was received

-- it has work on it, or waits still
abbrev IsHeld : CallNo → NamingState → Type 0
IsHeld n s = HasWorkOn n s.work ⊎ HasWait n s.ends.waits

ended_held : (s : NamingState) (c : ReceivedCall) (n : CallNo) (o : Option Introduced) → HasWait n s.ends.waits
    → HasWorkOn n ((s.work ++ answering c.number eok ∷ []) ++ telling_all (freed_end_by o) (freed_waits_by c.label s.ends o)) ⊎ HasWait n (ended_by c.label s.ends o).waits
ended_held s c n None h = inr h
ended_held s c n (Some x) h = elim (still_waiting x.end c.label.task.0 n s.ends.waits h) [
  | inl goes ↦ inl (work_behind n (s.work ++ answering c.number eok ∷ []) _ goes)
  | inr stays ↦ inr stays
]

registered_held : (s : NamingState) (c : ReceivedCall) (n : CallNo) (full : Bool) (known : Option ℕ) → HasWait n s.ends.waits → IsHeld n (registered_by s c full known)
registered_held s c n true known h = inr h
registered_held s c n false (Some phone) h = inr h
registered_held s c n false None h = inr h

refused_held : (s : NamingState) (c : ReceivedCall) (n : CallNo) (b : Bool) → HasWait n s.ends.waits → IsHeld n (wait_or_refuse_by s c b)
refused_held s c n true h = inr h
refused_held s c n false h = inr h

connect_held : (s : NamingState) (c : ReceivedCall) (n : CallNo) (known : Option ℕ) → HasWait n s.ends.waits → IsHeld n (connect_by s c known)
connect_held s c n (Some phone) h = inr h
connect_held s c n None h = refused_held s c n (is_blocking c) h

introduced_held : (s : NamingState) (c : ReceivedCall) (n : CallNo) (known : Bool) → HasWait n s.ends.waits → IsHeld n (introduced_by s c known)
introduced_held s c n true h = inr h
introduced_held s c n false h = inr h

wait_in_front : (n : CallNo) (xs ys : List Waiter) → HasWait n xs → HasWait n (xs ++ ys)
wait_in_front n [] ys h = absurd h
wait_in_front n (x ∷ xs) ys (inl is) = inl is
wait_in_front n (x ∷ xs) ys (inr h) = inr (wait_in_front n xs ys h)

one_more_waits : (n call : CallNo) (w : ℕ) (e : EndsState) (learns : Waited) → HasWait n e.waits → HasWait n (with_wait call w e learns).waits
one_more_waits n call w e (waited.Ended end) h = h
one_more_waits n call w e waited.Pending h = wait_in_front n e.waits _ h
one_more_waits n call w e waited.Unknown h = h

wait_held : (s : NamingState) (c : ReceivedCall) (n : CallNo) (learns : Waited) → HasWait n s.ends.waits → IsHeld n (waited_for_by s c learns)
wait_held s c n (waited.Ended end) h = inr h
wait_held s c n waited.Pending h = inr (one_more_waits n c.number (service_of c) s.ends (waited_by (entry_of (service_of c) s.ends.introduced)) h)
wait_held s c n waited.Unknown h = inr h

handled_held : (s : NamingState) (c : ReceivedCall) (n : CallNo) (asked : Asked) → HasWait n s.ends.waits → IsHeld n (handled_by s c asked)
handled_held s c n Register h =
    let left = without_phone s (phone_given c) in
    registered_held left c n (phone_given c == no_phone) (phone_of left.registry (service_of c)) h
handled_held s c n Connect h = connect_held s c n (phone_of s.registry (service_of c)) h
handled_held s c n Introduce h = introduced_held s c n (is_known c.label.task.0 s.ends.introduced) h
handled_held s c n Leave h = inr h
handled_held s c n Wait h = wait_held s c n (waited_by (entry_of (service_of c) s.ends.introduced)) h
handled_held s c n HungUp h = ended_held s c n (open_entry c.label s.ends.introduced) h
handled_held s c n Other h = inr h

received_held : (s : NamingState) (o : Outcome) (n : CallNo) → HasWait n s.ends.waits → IsHeld n (after_receive s o)
received_held s (outcome.Received call msg label) n h = handled_held s (record { number = call; msg = msg; label = label }) n (asked_by msg.method) h
received_held s _ n h = inr h

after_held : (s : NamingState) (o : Outcome) (n : CallNo) (work : Option Work) → HasWait n s.ends.waits → IsHeld n (after_outcome_by s o work)
after_held s o n (Some work) h = inr h
after_held s o n None h = received_held s o n h

pub waiting_is_kept : (s : NamingState) (o : Outcome) (n : CallNo) → HasWait n s.ends.waits → IsHeld n (after s o)
waiting_is_kept s o n h = after_held s o n (first_work s) h

pub answers_waits : (s : NamingState) (r : ReceivedCall) (x : Introduced) → s.work ≡ [] → r.msg.method ≡ phone_hungup → open_entry r.label s.ends.introduced ≡ Some x
    → AnswersWaits r s (after s (receipt r)) x.end
answers_waits s r x idle hangs_up known = record {
  go = waits_for r.label.task.0 s.ends.waits;
  parted = rw (idle, hangs_up, known) (parted r.label.task.0 s.ends.waits);
  work = rw (idle, hangs_up, known, all_told x.end (waits_for r.label.task.0 s.ends.waits)) refl;
}
