-- Short runs of the naming service.
use Rattle.std.proofs.Common.{◌≡◌, ℕ, List, [], ◌∷◌, refl}
use Rattle.std.specs.Prelude.{Some, replicate}
use Rattle.ipc_ids.specs.declared.numbers.Code.{Code}
use Rattle.ipc_ids.specs.declared.numbers.Label.{Label}
use Rattle.ipc_ids.specs.declared.message.Mode.TheVariants.{Plain}
use Rattle.ipc_ids.specs.declared.message.Outcome.{Outcome}
use Rattle.ipc_ids.specs.declared.message.Outcome.TheVariants as outcome
use Rattle.ipc_ids.specs.declared.message.Request.{Request}
use Rattle.ipc_ids.specs.declared.message.Request.TheVariants as request
use Rattle.ipc_ids.specs.Codes.{eok, enoent, eexist, elimit}
use Rattle.ipc_ids.specs.Methods.{phone_hungup, connect_to_me, connect_me_to}
use Rattle.naming_service.specs.Naming.{NamingState, started, wanted, after}

-- phone 0 of a task
abbrev first_phone : ℕ → Label
first_phone t = record { task = record { 0 = t }; phone = record { 0 = 0 } }

-- call n of task t comes
abbrev received : ℕ → ℕ → ℕ → List ℕ → Outcome
received n t method args =
    outcome.Received (record { 0 = n }) (record { method = method; args = args }) (first_phone t)

-- call n is answered with a code and no arguments
abbrev answer : ℕ → Code → Request
answer n code = request.Answer n (record { code = code; args = replicate 5 0 })

-- call n goes on over a phone, with these arguments
abbrev forward : ℕ → ℕ → List ℕ → Request
forward n phone args = request.Forward n phone Plain (Some (record { method = connect_me_to; args = args }))

-- call n is task t's offer of a service, with a phone that leads to it
abbrev offer : ℕ → ℕ → ℕ → ℕ → Outcome
offer n t service phone = received n t connect_to_me (service ∷ 0 ∷ 0 ∷ 0 ∷ phone ∷ [])

-- tasks 2 and 3 want service 7, which is not there, and wait for it; task 4 waits for service 8
abbrev waiting : NamingState
waiting =
    let one = after started (received 1 2 connect_me_to (7 ∷ 21 ∷ 22 ∷ 1 ∷ 129 ∷ [])) in
    let two = after one (received 2 4 connect_me_to (8 ∷ 0 ∷ 0 ∷ 1 ∷ 130 ∷ [])) in
    after two (received 3 3 connect_me_to (7 ∷ 31 ∷ 32 ∷ 1 ∷ 131 ∷ []))

nothing_is_done : wanted waiting ≡ request.Receive
nothing_is_done = refl

-- task 5 becomes service 7, at phone 1
abbrev registered : NamingState
registered = after waiting (offer 4 5 7 1)

the_service_is_answered : wanted registered ≡ answer 4 eok
the_service_is_answered = refl

the_first_goes_on : wanted (after registered outcome.Done) ≡ forward 1 1 (21 ∷ 22 ∷ 0 ∷ 0 ∷ 0 ∷ [])
the_first_goes_on = refl

-- also where the service has ended, and the first could not be passed on
then_the_next : wanted (after (after registered outcome.Done) (outcome.Refused enoent)) ≡ forward 3 1 (31 ∷ 32 ∷ 0 ∷ 0 ∷ 0 ∷ [])
then_the_next = refl

-- service 7 at phone 1, and a call that waits for service 8
abbrev idle : NamingState
idle = after (after (after registered outcome.Done) outcome.Done) outcome.Done

then_it_receives : wanted idle ≡ request.Receive
then_it_receives = refl

-- seven outcomes and one more
all_are_counted : (after idle outcome.Empty).taken ≡ 8
all_are_counted = refl

-- no blocking call for a service that is not there
refused_at_once : wanted (after idle (received 5 2 connect_me_to (9 ∷ 0 ∷ 0 ∷ 0 ∷ 129 ∷ []))) ≡ answer 5 enoent
refused_at_once = refl

-- one for a service that is there goes on at once
goes_on_at_once : wanted (after idle (received 5 2 connect_me_to (7 ∷ 1 ∷ 2 ∷ 0 ∷ 129 ∷ []))) ≡ forward 5 1 (1 ∷ 2 ∷ 0 ∷ 0 ∷ 0 ∷ [])
goes_on_at_once = refl

-- there was no phone to give
no_phone_left : wanted (after idle (offer 5 6 9 64)) ≡ answer 5 elimit
no_phone_left = refl

-- the service is there, at another phone
is_there : wanted (after idle (offer 5 6 7 2)) ≡ answer 5 eexist
is_there = refl

-- service 9 at phone 3
abbrev two_services : NamingState
two_services = after (after idle (offer 5 6 9 3)) outcome.Done

-- service 7 is there, at phone 1, though phone 3 is handed out again; what stood there is gone
abbrev handed_out : NamingState
handed_out = after two_services (offer 6 7 7 3)

is_there_still : wanted handed_out ≡ answer 6 eexist
is_there_still = refl

is_gone : handed_out.registry ≡ (7, 1) ∷ []
is_gone = refl

-- the very phone of service 7 is handed out again, so that service 7 may be registered anew
abbrev anew : NamingState
anew = after two_services (offer 6 7 7 1)

is_registered_anew : wanted anew ≡ answer 6 eok
is_registered_anew = refl

both_are_there : anew.registry ≡ (9, 3) ∷ (7, 1) ∷ []
both_are_there = refl

-- a hangup, and a method that is not known
hangup_is_answered : wanted (after idle (received 5 2 phone_hungup (replicate 5 0))) ≡ answer 5 eok
hangup_is_answered = refl

other_is_refused : wanted (after idle (received 5 2 515 (replicate 5 0))) ≡ answer 5 enoent
other_is_refused = refl

-- an answer that comes changes nothing but the count
answer_is_passed_over : after idle (outcome.Answered (record { 0 = 9 }) (record { code = eok; args = replicate 5 0 })) ≡ record idle { taken = 8 }
answer_is_passed_over = refl
