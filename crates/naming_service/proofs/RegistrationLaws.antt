-- The laws of registrations, over the definitions.
use Rattle.std.proofs.Common.{◌≡◌, ◌+◌, ℕ, ◌==◌, Bool, true, false, List, [], ◌∷◌, map, Option, Some, None, inl, inr, refl, sym, arith}
use Rattle.std.specs.Prelude.{◌⊎◌, filter, cond, not}
use Rattle.std.proofs.lemmas.Bool.{eq-eqb, ne_eqb, eqb-true, eqb-false, cases_eq}
use Rattle.ipc_ids.specs.declared.message.Outcome.{Outcome}
use Rattle.ipc_ids.specs.declared.message.Outcome.TheVariants as outcome
use Rattle.naming_service.specs.declared.received.ReceivedCall.{ReceivedCall}
use Rattle.naming_service.specs.declared.received.Work.{Work}
use Rattle.task_ends.specs.declared.ends.Waited.{Waited}
use Rattle.task_ends.specs.declared.ends.Waited.TheVariants as waited
use Rattle.task_ends.specs.Ends.{is_known, entry_of, waited_by}
use Rattle.naming_service.specs.declared.received.Asked.{Asked}
use Rattle.naming_service.specs.declared.received.Asked.TheVariants.{Register, Connect, Introduce, Leave, Wait, HungUp, Other}
use Rattle.naming_service.specs.Naming.{NamingState, first_work, service_of, phone_given, no_phone, is_blocking, asked_by, forwarding, forwarding_all, wants_another, leads_elsewhere, phone_of, registered_by, introduced_by, waited_for_by, register, registration, wait_or_refuse_by, connect_by, handled_by, after_receive, after_outcome_by, after, without_phone}
use Rattle.naming_service.specs.Registrations.{receipt, HasEntry, ServicesDiffer, IsOffer, IsTaken, IsSplit, PassesPendingOn, HandsOver}
use Rattle.naming_service.proofs.Entries.{stays, was_there, in_front, added, old_or_new, gone, absent, differ_left, differ_added}

-- the calls that want a service
abbrev wanting : ℕ → List ReceivedCall → List ReceivedCall
wanting service rs = filter (λ r. service_of r == service) rs

-- each of them is forwarded
forwards : (service phone : ℕ) (rs : List ReceivedCall) → forwarding_all service phone rs ≡ map (forwarding phone) (wanting service rs)
forwards service phone [] = refl
forwards service phone (r ∷ rs) = grind (arith, eq-eqb, ne_eqb, cases_eq (service_of r) service, forwards service phone rs)

parted_one : (service : ℕ) (r : ReceivedCall) (rs go stay : List ReceivedCall) (b : Bool) → (service_of r == service) ≡ b → IsSplit service rs go stay → IsSplit service (r ∷ rs) (cond b (r ∷ go) go) (cond (not b) (r ∷ stay) stay)
parted_one service r rs go stay true is rest = (go, inl (eqb-true _ _ is, refl, rest))
parted_one service r rs go stay false is rest = (stay, inr (eqb-false _ _ is, refl, rest))

-- and the others stay
parted : (service : ℕ) (rs : List ReceivedCall) → IsSplit service rs (wanting service rs) (filter (wants_another service) rs)
parted service [] = (refl, refl)
parted service (r ∷ rs) = parted_one service r rs (wanting service rs) (filter (wants_another service) rs) (service_of r == service) refl (parted service rs)

-- an offer that comes to an idle service
offered : (s : NamingState) (r : ReceivedCall) → IsOffer s r → after s (receipt r) ≡ record (register s r) { taken = s.taken + 1 }
offered s r o = rw (o.idle, o.method) refl

-- an offer that is taken is a registration
taken : (s : NamingState) (r : ReceivedCall) → IsTaken s r → register s r ≡ registration (without_phone s (phone_given r)) r (service_of r) (phone_given r)
taken s r t = rw (ne_eqb _ _ t.phone, gone (phone_given r) s.registry (service_of r) t.new) refl

pub passes_pending_on : (s : NamingState) (r : ReceivedCall) → IsTaken s r → PassesPendingOn r s (after s (receipt r))
passes_pending_on s r t = rw (offered s r t.offer, taken s r t) (record {
  go = wanting (service_of r) s.pending;
  split = parted (service_of r) s.pending;
  work = rw (t.offer.idle, forwards (service_of r) (phone_given r) s.pending) refl;
  entry = added (filter (leads_elsewhere (phone_given r)) s.registry) (service_of r) (phone_given r);
})

-- what was there, where nothing is added
not_taken : (s : NamingState) (r : ReceivedCall) (now : NamingState) → now.registry ≡ filter (leads_elsewhere (phone_given r)) s.registry → HandsOver r s now
not_taken s r now e = record {
  new = λ service h. absurd ((was_there (phone_given r) s.registry service (phone_given r) (rw (← e) h)).1 refl);
  kept = λ service phone apart h. rw e (stays (phone_given r) s.registry service phone apart h);
  known = λ service phone apart h. (was_there (phone_given r) s.registry service phone (rw (← e) h)).0;
}

newest : (r : ReceivedCall) (es : List (ℕ × ℕ)) (service : ℕ) → HasEntry (filter (leads_elsewhere (phone_given r)) es) service (phone_given r) ⊎ ((service_of r ≡ service) × (phone_given r ≡ phone_given r)) → service ≡ service_of r
newest r es service (inl h) = absurd ((was_there (phone_given r) es service (phone_given r) h).1 refl)
newest r es service (inr is) = sym is.0

older : (r : ReceivedCall) (es : List (ℕ × ℕ)) (service phone : ℕ) → (phone ≡ phone_given r → ⊥) → HasEntry (filter (leads_elsewhere (phone_given r)) es) service phone ⊎ ((service_of r ≡ service) × (phone_given r ≡ phone)) → HasEntry es service phone
older r es service phone apart (inl h) = (was_there (phone_given r) es service phone h).0
older r es service phone apart (inr is) = absurd (apart (sym is.1))

registered_hands : (s : NamingState) (r : ReceivedCall) (full : Bool) (known : Option ℕ) → HandsOver r s (record (registered_by (without_phone s (phone_given r)) r full known) { taken = s.taken + 1 })
registered_hands s r true known = not_taken s r _ refl
registered_hands s r false (Some phone) = not_taken s r _ refl
registered_hands s r false None =
    let es = filter (leads_elsewhere (phone_given r)) s.registry in
    record {
      new = λ service h. newest r s.registry service (old_or_new es (service_of r) (phone_given r) service (phone_given r) h);
      kept = λ service phone apart h. in_front es ((service_of r, phone_given r) ∷ []) service phone (stays (phone_given r) s.registry service phone apart h);
      known = λ service phone apart h. older r s.registry service phone apart (old_or_new es (service_of r) (phone_given r) service phone h);
    }

pub hands_over : (s : NamingState) (r : ReceivedCall) → IsOffer s r → HandsOver r s (after s (receipt r))
hands_over s r o =
    let known = phone_of (filter (leads_elsewhere (phone_given r)) s.registry) (service_of r) in
    rw (offered s r o) (registered_hands s r (phone_given r == no_phone) known)

differ_registered : (s : NamingState) (r : ReceivedCall) (full : Bool) (known : Option ℕ) → phone_of s.registry (service_of r) ≡ known → ServicesDiffer s.registry → ServicesDiffer (registered_by s r full known).registry
differ_registered s r true known e d = d
differ_registered s r false (Some phone) e d = d
differ_registered s r false None e d = differ_added s.registry (service_of r) (phone_given r) (λ q h. absent s.registry (service_of r) q e h) d

differ_waiting : (s : NamingState) (r : ReceivedCall) (b : Bool) → ServicesDiffer s.registry → ServicesDiffer (wait_or_refuse_by s r b).registry
differ_waiting s r true d = d
differ_waiting s r false d = d

differ_connect : (s : NamingState) (r : ReceivedCall) (known : Option ℕ) → ServicesDiffer s.registry → ServicesDiffer (connect_by s r known).registry
differ_connect s r (Some phone) d = d
differ_connect s r None d = differ_waiting s r (is_blocking r) d

differ_introduced : (s : NamingState) (r : ReceivedCall) (known : Bool) → ServicesDiffer s.registry → ServicesDiffer (introduced_by s r known).registry
differ_introduced s r true d = d
differ_introduced s r false d = d

differ_wait : (s : NamingState) (r : ReceivedCall) (learns : Waited) → ServicesDiffer s.registry → ServicesDiffer (waited_for_by s r learns).registry
differ_wait s r (waited.Ended end) d = d
differ_wait s r waited.Pending d = d
differ_wait s r waited.Unknown d = d

differ_handled : (s : NamingState) (r : ReceivedCall) (asked : Asked) → ServicesDiffer s.registry → ServicesDiffer (handled_by s r asked).registry
differ_handled s r Register d =
    let left = without_phone s (phone_given r) in
    differ_registered left r (phone_given r == no_phone) (phone_of left.registry (service_of r)) refl (differ_left (phone_given r) s.registry d)
differ_handled s r Connect d = differ_connect s r (phone_of s.registry (service_of r)) d
differ_handled s r Introduce d = differ_introduced s r (is_known r.label.task.0 s.ends.introduced) d
differ_handled s r Leave d = d
differ_handled s r Wait d = differ_wait s r (waited_by (entry_of (service_of r) s.ends.introduced)) d
differ_handled s r HungUp d = d
differ_handled s r Other d = d

differ_received : (s : NamingState) (o : Outcome) → ServicesDiffer s.registry → ServicesDiffer (after_receive s o).registry
differ_received s (outcome.Received call msg label) d = differ_handled s (record { number = call; msg = msg; label = label }) (asked_by msg.method) d
differ_received s outcome.Done d = d
differ_received s (outcome.Refused code) d = d
differ_received s (outcome.Accepted call) d = d
differ_received s (outcome.Answered call reply) d = d
differ_received s outcome.Empty d = d
differ_received s (outcome.Bytes bytes) d = d

differ_after : (s : NamingState) (o : Outcome) (work : Option Work) → ServicesDiffer s.registry → ServicesDiffer (after_outcome_by s o work).registry
differ_after s o (Some work) d = d
differ_after s o None d = differ_received s o d

pub services_differ : (s : NamingState) (o : Outcome) → ServicesDiffer s.registry → ServicesDiffer (after s o).registry
services_differ s o d = differ_after s o (first_work s) d
