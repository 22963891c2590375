-- What the naming service does with calls and services, in the words of entries, calls and work.
use Rattle.std.specs.Prelude.{◌≡◌, ℕ, ◌⊎◌, ⊤, List, [], ◌∷◌, map}
use Rattle.ipc_ids.specs.declared.numbers.CallNo.{CallNo}
use Rattle.ipc_ids.specs.declared.message.Outcome.{Outcome}
use Rattle.ipc_ids.specs.declared.message.Outcome.TheVariants as outcome
use Rattle.ipc_ids.specs.Codes.{eok}
use Rattle.ipc_ids.specs.Methods.{connect_to_me}
use Rattle.task_ends.specs.declared.introduced.Wait.{Wait as Waiter}
use Rattle.naming_service.specs.declared.received.ReceivedCall.{ReceivedCall}
use Rattle.naming_service.specs.declared.received.Work.{Work}
use Rattle.naming_service.specs.declared.received.Work.TheVariants.{Answer, Forward}
use Rattle.naming_service.specs.Naming.{NamingState, service_of, phone_given, no_phone, answering, forwarding}

-- the outcome that tells of a received call
abbrev pub receipt : ReceivedCall → Outcome
receipt r = outcome.Received r.number r.msg r.label

-- the registry has an entry of this service with this phone
abbrev pub HasEntry : List (ℕ × ℕ) → ℕ → ℕ → Type 0
HasEntry [] service phone = ⊥
HasEntry (e ∷ es) service phone = ((e.0 ≡ service) × (e.1 ≡ phone)) ⊎ HasEntry es service phone

-- no two entries have one service
abbrev pub ServicesDiffer : List (ℕ × ℕ) → Type 0
ServicesDiffer [] = ⊤
ServicesDiffer (e ∷ es) = ((phone : ℕ) → HasEntry es e.0 phone → ⊥) × ServicesDiffer es

-- the service receives a call that offers a service, and a phone to it
pub record IsOffer (s : NamingState) (r : ReceivedCall) : Type 0 where
  pub idle : s.work ≡ []
  pub method : r.msg.method ≡ connect_to_me

-- the offer is taken: there was a phone to give, and no other phone leads to such a service
pub record IsTaken (s : NamingState) (r : ReceivedCall) : Type 0 where
  pub offer : IsOffer s r
  pub phone : phone_given r ≡ no_phone → ⊥
  pub new : (phone : ℕ) → HasEntry s.registry (service_of r) phone → phone ≡ phone_given r

-- of these calls, those that want the service go on and the others stay, each in their order
abbrev pub IsSplit : ℕ → List ReceivedCall → List ReceivedCall → List ReceivedCall → Type 0
IsSplit service [] go stay = (go ≡ []) × (stay ≡ [])
IsSplit service (r ∷ rs) go stay = (rest : List ReceivedCall) ×
    (((service_of r ≡ service) × (go ≡ r ∷ rest) × IsSplit service rs rest stay)
    ⊎ ((service_of r ≡ service → ⊥) × (stay ≡ r ∷ rest) × IsSplit service rs go rest))

-- an offer that is taken is answered; behind that, of the pending calls those that want the service
-- go on over its phone, and the others are pending still
pub record PassesPendingOn (r : ReceivedCall) (before now : NamingState) : Type 0 where
  pub go : List ReceivedCall
  pub split : IsSplit (service_of r) before.pending go now.pending
  pub work : now.work ≡ answering r.number eok ∷ map (forwarding (phone_given r)) go
  pub entry : HasEntry now.registry (service_of r) (phone_given r)

-- the phone that an offer comes with leads to no service but the one offered, and all other phones
-- lead where they led
pub record HandsOver (r : ReceivedCall) (before now : NamingState) : Type 0 where
  pub new : (service : ℕ) → HasEntry now.registry service (phone_given r) → service ≡ service_of r
  pub kept : (service phone : ℕ) → (phone ≡ phone_given r → ⊥) →
      HasEntry before.registry service phone → HasEntry now.registry service phone
  pub known : (service phone : ℕ) → (phone ≡ phone_given r → ⊥) →
      HasEntry now.registry service phone → HasEntry before.registry service phone

-- the call is one of these
abbrev pub IsAmong : ReceivedCall → List ReceivedCall → Type 0
IsAmong r [] = ⊥
IsAmong r (c ∷ cs) = (c ≡ r) ⊎ IsAmong r cs

-- a piece of work on that call
abbrev pub IsWorkOn : CallNo → Work → Type 0
IsWorkOn n (Answer call reply) = call ≡ n
IsWorkOn n (Forward call phone msg) = call ≡ n

-- the call is to be answered, or to be passed on
abbrev pub HasWorkOn : CallNo → List Work → Type 0
HasWorkOn n [] = ⊥
HasWorkOn n (w ∷ ws) = IsWorkOn n w ⊎ HasWorkOn n ws

-- the call waits for the end of a task
abbrev pub HasWait : CallNo → List Waiter → Type 0
HasWait n [] = ⊥
HasWait n (x ∷ xs) = (x.call ≡ n) ⊎ HasWait n xs

-- the call is not lost: it is pending or waits for the end of a task, or there is work on it
abbrev pub IsKept : ReceivedCall → NamingState → Type 0
IsKept r s = IsAmong r s.pending ⊎ (HasWorkOn r.number s.work ⊎ HasWait r.number s.ends.waits)
