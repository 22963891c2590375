-- No call is lost, over the definitions.
use Rattle.std.proofs.Common.{◌≡◌, ℕ, ◌==◌, Bool, true, false, List, [], ◌∷◌, ◌++◌, Option, Some, None, inl, inr, refl, ap}
use Rattle.std.specs.Prelude.{◌⊎◌, filter, slice_get, cond, not}
use Rattle.ipc_ids.specs.declared.numbers.CallNo.{CallNo}
use Rattle.ipc_ids.specs.declared.message.Outcome.{Outcome}
use Rattle.ipc_ids.specs.declared.message.Outcome.TheVariants as outcome
use Rattle.naming_service.specs.declared.received.ReceivedCall.{ReceivedCall}
use Rattle.naming_service.specs.declared.received.Work.{Work}
use Rattle.naming_service.specs.declared.received.Asked.{Asked}
use Rattle.naming_service.specs.declared.received.Asked.TheVariants.{Register, Connect, Introduce, Leave, Wait, HungUp, Other}
use Rattle.ipc_ids.specs.Codes.{eok}
use Rattle.task_ends.specs.declared.introduced.Introduced.{Introduced}
use Rattle.task_ends.specs.declared.introduced.Wait.{Wait as Waiter}
use Rattle.task_ends.specs.declared.ends.Waited.{Waited}
use Rattle.task_ends.specs.declared.ends.Waited.TheVariants as waited
use Rattle.task_ends.specs.Ends.{is_known, entry_of, waited_by, waited_by_end}
use Rattle.naming_service.specs.Naming.{NamingState, first_work, service_of, phone_given, no_phone, is_blocking, asked_by, answering, forwarding, forwarding_all, wants_another, phone_of, registered_by, wait_or_refuse_by, connect_by, introduced_by, waited_for_by, handled_by, after_receive, after_outcome_by, after, without_phone}
use Rattle.naming_service.specs.Registrations.{receipt, IsAmong, HasWorkOn, HasWait, IsKept}

-- work that was there, and work that is added
work_in_front : (n : CallNo) (ws vs : List Work) → HasWorkOn n ws → HasWorkOn n (ws ++ vs)
work_in_front n [] vs h = absurd h
work_in_front n (w ∷ ws) vs (inl is) = inl is
work_in_front n (w ∷ ws) vs (inr h) = inr (work_in_front n ws vs h)

pub work_behind : (n : CallNo) (ws vs : List Work) → HasWorkOn n vs → HasWorkOn n (ws ++ vs)
work_behind n [] vs h = h
work_behind n (w ∷ ws) vs h = inr (work_behind n ws vs h)

-- a call that waited, and one that is added
among_front : (r : ReceivedCall) (cs ds : List ReceivedCall) → IsAmong r cs → IsAmong r (cs ++ ds)
among_front r [] ds h = absurd h
among_front r (c ∷ cs) ds (inl is) = inl is
among_front r (c ∷ cs) ds (inr h) = inr (among_front r cs ds h)

among_added : (r : ReceivedCall) (cs : List ReceivedCall) → IsAmong r (cs ++ r ∷ [])
among_added r [] = inl refl
among_added r (c ∷ cs) = inr (among_added r cs)

-- a call that waits for a service goes on or stays
abbrev Goes : ℕ → ℕ → ReceivedCall → List ReceivedCall → Type 0
Goes service phone r cs = IsAmong r (filter (wants_another service) cs) ⊎ HasWorkOn r.number (forwarding_all service phone cs)

first_goes : (service phone : ℕ) (r c : ReceivedCall) (b : Bool) (cs : List ReceivedCall) (ws : List Work) → c ≡ r → IsAmong r (cond (not b) (c ∷ cs) cs) ⊎ HasWorkOn r.number (cond b (forwarding phone c ∷ []) [] ++ ws)
first_goes service phone r c true cs ws is = inr (inl (ap (λ d. d.number) is))
first_goes service phone r c false cs ws is = inl (inl is)

later_goes : (phone : ℕ) (r c : ReceivedCall) (b : Bool) (cs : List ReceivedCall) (ws : List Work) → IsAmong r cs ⊎ HasWorkOn r.number ws → IsAmong r (cond (not b) (c ∷ cs) cs) ⊎ HasWorkOn r.number (cond b (forwarding phone c ∷ []) [] ++ ws)
later_goes phone r c true cs ws (inl h) = inl h
later_goes phone r c true cs ws (inr h) = inr (inr h)
later_goes phone r c false cs ws (inl h) = inl (inr h)
later_goes phone r c false cs ws (inr h) = inr h

goes : (service phone : ℕ) (r : ReceivedCall) (cs : List ReceivedCall) → IsAmong r cs → Goes service phone r cs
goes service phone r [] h = absurd h
goes service phone r (c ∷ cs) (inl is) = first_goes service phone r c (service_of c == service) (filter (wants_another service) cs) (forwarding_all service phone cs) is
goes service phone r (c ∷ cs) (inr h) = later_goes phone r c (service_of c == service) (filter (wants_another service) cs) (forwarding_all service phone cs) (goes service phone r cs h)

-- the received call itself
own_registered : (s : NamingState) (r : ReceivedCall) (full : Bool) (known : Option ℕ) → HasWorkOn r.number (registered_by s r full known).work
own_registered s r true known = work_behind r.number s.work _ (inl refl)
own_registered s r false (Some phone) = work_behind r.number s.work _ (inl refl)
own_registered s r false None = work_in_front r.number _ _ (work_behind r.number s.work (answering r.number eok ∷ []) (inl refl))

own_waiting : (s : NamingState) (r : ReceivedCall) (b : Bool) → IsKept r (wait_or_refuse_by s r b)
own_waiting s r true = inl (among_added r s.pending)
own_waiting s r false = inr (inl (work_behind r.number s.work _ (inl refl)))

own_connect : (s : NamingState) (r : ReceivedCall) (known : Option ℕ) → IsKept r (connect_by s r known)
own_connect s r (Some phone) = inr (inl (work_behind r.number s.work _ (inl refl)))
own_connect s r None = own_waiting s r (is_blocking r)

own_introduced : (s : NamingState) (r : ReceivedCall) (known : Bool) → HasWorkOn r.number (introduced_by s r known).work
own_introduced s r true = work_behind r.number s.work _ (inl refl)
own_introduced s r false = work_behind r.number s.work _ (inl refl)

wait_added : (n : CallNo) (w : ℕ) (xs : List Waiter) → HasWait n (xs ++ record { call = n; task = w } ∷ [])
wait_added n w [] = inl refl
wait_added n w (x ∷ xs) = inr (wait_added n w xs)

own_wait_end : (s : NamingState) (r : ReceivedCall) (x : Introduced) (b : Bool) → waited_by (entry_of (service_of r) s.ends.introduced) ≡ waited_by_end x b
    → HasWorkOn r.number (waited_for_by s r (waited_by_end x b)).work ⊎ HasWait r.number (waited_for_by s r (waited_by_end x b)).ends.waits
own_wait_end s r x true at = inl (work_behind r.number s.work _ (inl refl))
own_wait_end s r x false at = inr (rw at (wait_added r.number (service_of r) s.ends.waits))

own_wait : (s : NamingState) (r : ReceivedCall) (o : Option Introduced) → entry_of (service_of r) s.ends.introduced ≡ o
    → HasWorkOn r.number (waited_for_by s r (waited_by o)).work ⊎ HasWait r.number (waited_for_by s r (waited_by o)).ends.waits
own_wait s r None at = inl (work_behind r.number s.work _ (inl refl))
own_wait s r (Some x) at = own_wait_end s r x x.ended (ap waited_by at)

own_handled : (s : NamingState) (r : ReceivedCall) (asked : Asked) → IsKept r (handled_by s r asked)
own_handled s r Register =
    let left = without_phone s (phone_given r) in
    inr (inl (own_registered left r (phone_given r == no_phone) (phone_of left.registry (service_of r))))
own_handled s r Connect = own_connect s r (phone_of s.registry (service_of r))
own_handled s r Introduce = inr (inl (own_introduced s r (is_known r.label.task.0 s.ends.introduced)))
own_handled s r Leave = inr (inl (work_behind r.number s.work _ (inl refl)))
own_handled s r Wait = inr (own_wait s r (entry_of (service_of r) s.ends.introduced) refl)
own_handled s r HungUp = inr (inl (work_in_front r.number (s.work ++ answering r.number eok ∷ []) _ (work_behind r.number s.work _ (inl refl))))
own_handled s r Other = inr (inl (work_behind r.number s.work _ (inl refl)))

-- a call that waited before
old_goes : (s : NamingState) (c r : ReceivedCall) → Goes (service_of c) (phone_given c) r s.pending → IsKept r (registered_by s c false None)
old_goes s c r (inl h) = inl h
old_goes s c r (inr h) = inr (inl (work_behind r.number (s.work ++ answering c.number eok ∷ []) _ h))

old_registered : (s : NamingState) (c r : ReceivedCall) (full : Bool) (known : Option ℕ) → IsAmong r s.pending → IsKept r (registered_by s c full known)
old_registered s c r true known h = inl h
old_registered s c r false (Some phone) h = inl h
old_registered s c r false None h = old_goes s c r (goes (service_of c) (phone_given c) r s.pending h)

old_waiting : (s : NamingState) (c r : ReceivedCall) (b : Bool) → IsAmong r s.pending → IsKept r (wait_or_refuse_by s c b)
old_waiting s c r true h = inl (among_front r s.pending (c ∷ []) h)
old_waiting s c r false h = inl h

old_connect : (s : NamingState) (c r : ReceivedCall) (known : Option ℕ) → IsAmong r s.pending → IsKept r (connect_by s c known)
old_connect s c r (Some phone) h = inl h
old_connect s c r None h = old_waiting s c r (is_blocking c) h

old_introduced : (s : NamingState) (c r : ReceivedCall) (known : Bool) → IsAmong r s.pending → IsAmong r (introduced_by s c known).pending
old_introduced s c r true h = h
old_introduced s c r false h = h

old_wait : (s : NamingState) (c r : ReceivedCall) (learns : Waited) → IsAmong r s.pending → IsAmong r (waited_for_by s c learns).pending
old_wait s c r (waited.Ended end) h = h
old_wait s c r waited.Pending h = h
old_wait s c r waited.Unknown h = h

old_handled : (s : NamingState) (c r : ReceivedCall) (asked : Asked) → IsAmong r s.pending → IsKept r (handled_by s c asked)
old_handled s c r Register h =
    let left = without_phone s (phone_given c) in
    old_registered left c r (phone_given c == no_phone) (phone_of left.registry (service_of c)) h
old_handled s c r Connect h = old_connect s c r (phone_of s.registry (service_of c)) h
old_handled s c r Introduce h = inl (old_introduced s c r (is_known c.label.task.0 s.ends.introduced) h)
old_handled s c r Leave h = inl h
old_handled s c r Wait h = inl (old_wait s c r (waited_by (entry_of (service_of c) s.ends.introduced)) h)
old_handled s c r HungUp h = inl h
old_handled s c r Other h = inl h

old_received : (s : NamingState) (o : Outcome) (r : ReceivedCall) → IsAmong r s.pending → IsKept r (after_receive s o)
old_received s (outcome.Received call msg label) r h = old_handled s (record { number = call; msg = msg; label = label }) r (asked_by msg.method) h
old_received s outcome.Done r h = inl h
old_received s (outcome.Refused code) r h = inl h
old_received s (outcome.Accepted call) r h = inl h
old_received s (outcome.Answered call reply) r h = inl h
old_received s outcome.Empty r h = inl h
old_received s (outcome.Bytes bytes) r h = inl h

old_after : (s : NamingState) (o : Outcome) (r : ReceivedCall) (work : Option Work) → IsAmong r s.pending → IsKept r (after_outcome_by s o work)
old_after s o r (Some work) h = inl h
old_after s o r None h = old_received s o r h

own_after : (s : NamingState) (r : ReceivedCall) (work : Option Work) → work ≡ None → IsKept r (after_outcome_by s (receipt r) work)
own_after s r (Some work) e = absurd (cc e)
own_after s r None e = own_handled s r (asked_by r.msg.method)

pub received_is_kept : (s : NamingState) (r : ReceivedCall) → s.work ≡ [] → IsKept r (after s (receipt r))
received_is_kept s r idle = own_after s r (first_work s) (ap (λ (work : List Work). slice_get work 0) idle)

pub pending_is_kept : (s : NamingState) (o : Outcome) (r : ReceivedCall) → IsAmong r s.pending → IsKept r (after s o)
pending_is_kept s o r h = old_after s o r (first_work s) h
