-- The naming service: what it asks, and what an outcome makes of it. It does its first work, or
-- receives; what becomes of a received call is one equation for each thing that a call may ask.
use Rattle.std.specs.Prelude.{ℕ, ◌+◌, ◌==◌, nat_eq, Bool, true, false, not, if◌then◌else◌, List, [], ◌∷◌, ◌++◌, drop, filter, Option, None, Some, replicate, slice_get, slice_index, is_some}
use Rattle.std.specs.Map.{lookup}
use Rattle.ipc_ids.specs.declared.numbers.CallNo.{CallNo}
use Rattle.ipc_ids.specs.declared.numbers.Code.{Code}
use Rattle.ipc_ids.specs.declared.message.Mode.TheVariants.{Plain}
use Rattle.ipc_ids.specs.declared.message.Request.{Request}
use Rattle.ipc_ids.specs.declared.message.Request.TheVariants as request
use Rattle.ipc_ids.specs.declared.message.Outcome.{Outcome}
use Rattle.ipc_ids.specs.declared.message.Outcome.TheVariants as outcome
use Rattle.ipc_ids.specs.declared.entry.Entry.{Entry}
use Rattle.ipc_ids.specs.Codes.{eok, enoent, eexist, elimit}
use Rattle.ipc_ids.specs.Methods.{phone_hungup, connect_to_me, connect_me_to}
use Rattle.naming_service.specs.declared.received.ReceivedCall.{ReceivedCall}
use Rattle.naming_service.specs.declared.received.Work.{Work}
use Rattle.naming_service.specs.declared.received.Work.TheVariants.{Answer, Forward}
use Rattle.naming_service.specs.declared.received.Asked.{Asked}
use Rattle.naming_service.specs.declared.received.Asked.TheVariants.{Register, Connect, Introduce, Leave, Wait, HungUp, Other}
use Rattle.task_ends.specs.declared.introduced.End.{End}
use Rattle.task_ends.specs.declared.ends.Waited.{Waited}
use Rattle.task_ends.specs.declared.ends.Waited.TheVariants as waited
use Rattle.task_ends.specs.Ends.{EndsState, nobody, is_known, open_entry, entry_of, waited_by, freed_end, freed_waits}
use Rattle.task_ends.specs.Ends as ends
use Rattle.task_ends.specs.EndLaw.{introduce_self, leave_value, wait_for, end_arguments}

-- services with their phones, in the order of registration; the calls that wait for a service, in
-- the order of arrival; the tasks that introduced themselves and who waits for their end; what is to
-- be done, the first first; and how many outcomes came
pub record NamingState : Type 0 where
  pub registry : List (ℕ × ℕ)
  pub pending : List ReceivedCall
  pub ends : EndsState
  pub work : List Work
  pub taken : ℕ

-- before the first outcome
abbrev pub started : NamingState
started = record { registry = []; pending = []; ends = nobody; work = []; taken = 0 }

-- what is to be done next
abbrev pub first_work : NamingState → Option Work
first_work s = slice_get s.work 0

-- the request of a piece of work
abbrev pub request_of : Option Work → Request
request_of None = request.Receive
request_of (Some (Answer call reply)) = request.Answer call.0 reply
request_of (Some (Forward call phone msg)) = request.Forward call.0 phone Plain (Some msg)

-- what the service asks next
abbrev pub wanted : NamingState → Request
wanted s = request_of (first_work s)

-- the service that a call names
abbrev pub service_of : ReceivedCall → ℕ
service_of received = slice_index received.msg.args 0

-- whether the call waits for a service that is not there yet
abbrev pub is_blocking : ReceivedCall → Bool
is_blocking received = slice_index received.msg.args 3 == 1

-- the phone that leads to the caller, once the call is accepted
abbrev pub phone_given : ReceivedCall → ℕ
phone_given received = slice_index received.msg.args 4

-- the number in place of a phone where the receiver had none to give
abbrev pub no_phone : ℕ
no_phone = 64

-- what a call with this method asks
abbrev pub asked_by : ℕ → Asked
asked_by method =
    if method == phone_hungup then HungUp
    else if method == connect_to_me then Register
    else if method == connect_me_to then Connect
    else if method == introduce_self then Introduce
    else if method == leave_value then Leave
    else if method == wait_for then Wait
    else Other

-- the call gets an answer without arguments
abbrev pub answering : CallNo → Code → Work
answering call code = Answer call (record { code = code; args = replicate 5 0 })

-- what a call that is passed on asks with: its second and its third argument
abbrev pub arguments_passed_on : ReceivedCall → List ℕ
arguments_passed_on received =
    slice_index received.msg.args 1 ∷ slice_index received.msg.args 2 ∷ 0 ∷ 0 ∷ 0 ∷ []

-- the call goes on over a phone
abbrev pub forwarding : ℕ → ReceivedCall → Work
forwarding phone received =
    Forward received.number phone
    (record { method = connect_me_to; args = arguments_passed_on received })

-- the calls that want the service go on over its phone, in their order
abbrev pub forwarding_all : ℕ → ℕ → List ReceivedCall → List Work
forwarding_all service phone [] = []
forwarding_all service phone (received ∷ rest) =
    (if service_of received == service then forwarding phone received ∷ [] else [])
    ++ forwarding_all service phone rest

-- the call wants another service
abbrev pub wants_another : ℕ → ReceivedCall → Bool
wants_another service received = not (service_of received == service)

-- the entry has another phone
abbrev pub leads_elsewhere : ℕ → ℕ × ℕ → Bool
leads_elsewhere phone entry = not (entry.1 == phone)

-- the phone of a service, where it is registered
abbrev pub phone_of : List (ℕ × ℕ) → ℕ → Option ℕ
phone_of registry service = lookup (nat_eq service) registry

-- this is to be done after all else
abbrev pub with_work : NamingState → List Work → NamingState
with_work s more = record s { work = s.work ++ more }

-- the call is to be answered with this code
abbrev pub answered : NamingState → CallNo → Code → NamingState
answered s call code = with_work s (answering call code ∷ [])

-- the phone was handed out again, so that what it led to is dead
abbrev pub without_phone : NamingState → ℕ → NamingState
without_phone s phone = record s { registry = filter (leads_elsewhere phone) s.registry }

-- the caller is a service; it is answered, and the calls that waited for it go on to it
abbrev pub registration : NamingState → ReceivedCall → ℕ → ℕ → NamingState
registration s received service phone =
    record s {
      registry = s.registry ++ (service, phone) ∷ [];
      pending = filter (wants_another service) s.pending;
      work = (s.work ++ answering received.number eok ∷ [])
          ++ forwarding_all service phone s.pending;
    }

-- whether there was no phone to give, and the phone that the service has already
abbrev pub registered_by : NamingState → ReceivedCall → Bool → Option ℕ → NamingState
registered_by s received true known = answered s received.number elimit
registered_by s received false (Some other) = answered s received.number eexist
registered_by s received false None =
    registration s received (service_of received) (phone_given received)

-- the caller becomes a service, where it can
abbrev pub registered : NamingState → ReceivedCall → NamingState
registered s received =
    registered_by s received (phone_given received == no_phone)
    (phone_of s.registry (service_of received))

-- what a registration makes of the service
abbrev pub register : NamingState → ReceivedCall → NamingState
register s received = registered (without_phone s (phone_given received)) received

-- whether a call for a service that is not there waits for it
abbrev pub wait_or_refuse_by : NamingState → ReceivedCall → Bool → NamingState
wait_or_refuse_by s received true = record s { pending = s.pending ++ received ∷ [] }
wait_or_refuse_by s received false = answered s received.number enoent

-- a call for a service that is not there
abbrev pub wait_or_refuse : NamingState → ReceivedCall → NamingState
wait_or_refuse s received = wait_or_refuse_by s received (is_blocking received)

-- the phone of the service that is wanted
abbrev pub connect_by : NamingState → ReceivedCall → Option ℕ → NamingState
connect_by s received (Some phone) = with_work s (forwarding phone received ∷ [])
connect_by s received None = wait_or_refuse s received

-- what a call for a service makes of this one
abbrev pub connect : NamingState → ReceivedCall → NamingState
connect s received = connect_by s received (phone_of s.registry (service_of received))

-- whether the caller's task is in the list of those that introduced themselves
abbrev pub introduced_by : NamingState → ReceivedCall → Bool → NamingState
introduced_by s received true = answered s received.number eexist
introduced_by s received false =
    answered (record s { ends = ends.introduced received.label s.ends }) received.number eok

-- the caller's task introduces itself
abbrev pub introduced : NamingState → ReceivedCall → NamingState
introduced s received =
    introduced_by s received (is_known received.label.task.0 s.ends.introduced)

-- whether the caller has introduced itself and not ended
abbrev pub leave_code : Bool → Code
leave_code true = eok
leave_code false = enoent

-- the caller leaves a value, its first argument
abbrev pub left : NamingState → ReceivedCall → NamingState
left s received =
    answered (record s { ends = ends.left received.label (service_of received) s.ends }) received.number
    (leave_code (is_some (open_entry received.label s.ends.introduced)))

-- the call learns of this end
abbrev pub telling : End → CallNo → Work
telling end call = Answer call (record { code = eok; args = end_arguments end })

abbrev pub telling_all : End → List CallNo → List Work
telling_all end [] = []
telling_all end (call ∷ calls) = telling end call ∷ telling_all end calls

-- what the caller learns of the task that it asks for
abbrev pub waited_for_by : NamingState → ReceivedCall → Waited → NamingState
waited_for_by s received (waited.Ended end) = with_work s (telling end received.number ∷ [])
waited_for_by s received waited.Pending =
    record s { ends = ends.waited received.number (service_of received) s.ends }
waited_for_by s received waited.Unknown = answered s received.number enoent

-- the caller waits for the end of a task, whose number is its first argument
abbrev pub waited_for : NamingState → ReceivedCall → NamingState
waited_for s received =
    waited_for_by s received (waited_by (entry_of (service_of received) s.ends.introduced))

-- a phone was hung up: the task that introduced itself over it ends, and who waited for it learns of
-- its end
abbrev pub hung_up : NamingState → ReceivedCall → NamingState
hung_up s received =
    record s {
      ends = ends.ended received.label s.ends;
      work = (s.work ++ answering received.number eok ∷ [])
          ++ telling_all (freed_end received.label s.ends) (freed_waits received.label s.ends);
    }

-- what becomes of a received call: an equation for each thing that it may ask
abbrev pub handled_by : NamingState → ReceivedCall → Asked → NamingState
handled_by s received Register = register s received
handled_by s received Connect = connect s received
handled_by s received Introduce = introduced s received
handled_by s received Leave = left s received
handled_by s received Wait = waited_for s received
handled_by s received HungUp = hung_up s received
handled_by s received Other = answered s received.number enoent

abbrev pub handled : NamingState → ReceivedCall → NamingState
handled s received = handled_by s received (asked_by received.msg.method)

-- what a receive makes of the service
abbrev pub after_receive : NamingState → Outcome → NamingState
after_receive s (outcome.Received call msg label) =
    handled s (record { number = call; msg = msg; label = label })
after_receive s _ = s

-- an outcome of work is passed over; else it is one of a receive
abbrev pub after_outcome_by : NamingState → Outcome → Option Work → NamingState
after_outcome_by s o (Some work) = record s { work = drop 1 s.work }
after_outcome_by s o None = after_receive s o

abbrev pub after_outcome : NamingState → Outcome → NamingState
after_outcome s o = after_outcome_by s o (first_work s)

-- what an outcome makes of the service, which counts it
abbrev pub after : NamingState → Outcome → NamingState
after s o = let next = after_outcome s o in record next { taken = s.taken + 1 }

-- it makes no entries of its own
abbrev pub entries : NamingState → Outcome → List Entry
entries s o = []
