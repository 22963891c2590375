-- Where calls go, and where phones lead, in the words of requests, phones, places and entries.
use Rattle.std.specs.Prelude.{◌≡◌, ℕ, ◌≤◌, ◌⊎◌, ⊤, List, [], ◌∷◌, None, Some}
use Rattle.ipc_ids.specs.declared.numbers.TaskNo.{TaskNo}
use Rattle.ipc_ids.specs.declared.numbers.Label.{Label}
use Rattle.ipc_ids.specs.declared.message.Mode.{Mode}
use Rattle.ipc_ids.specs.declared.message.Mode.TheVariants.{Plain, Route}
use Rattle.ipc_ids.specs.declared.message.Reply.{Reply}
use Rattle.ipc_ids.specs.declared.message.PhoneState.TheVariants.{Connected, HungUp}
use Rattle.ipc_ids.specs.declared.message.Request.{Request}
use Rattle.ipc_ids.specs.declared.message.Request.TheVariants as request
use Rattle.ipc_ids.specs.declared.message.Outcome.{Outcome}
use Rattle.ipc_ids.specs.declared.message.Outcome.TheVariants as outcome
use Rattle.ipc_ids.specs.declared.entry.Entry.{Entry}
use Rattle.ipc_ids.specs.declared.entry.Entry.TheVariants as entry
use Rattle.ipc_ids.specs.Codes.{eok}
use Rattle.ipc_ids.specs.Methods.{phone_hungup, connect_to_me, connect_me_to, first_user_method}
use Rattle.call_slab.specs.declared.call.Call.{Call}
use Rattle.call_slab.specs.declared.call.Place.{Place}
use Rattle.call_slab.specs.declared.call.Place.TheVariants.{Incoming, Dispatched, Answers}
use Rattle.answerbox.specs.Calls.{CallTable, call_at}
use Rattle.switchboard.specs.State.{KernelState, phone_at, label_of}
use Rattle.switchboard.specs.Serving.{Served}

-- phone p of task t leads to task u
abbrev pub Leads : KernelState → TaskNo → ℕ → TaskNo → Type 0
Leads k t p u = phone_at k t p ≡ Some (Connected u)

-- call n is live among these calls, and stands at that place
abbrev pub Stands : CallTable → ℕ → Place → Type 0
Stands calls n place = (c : Call) × (call_at calls n ≡ Some c) × (c.place ≡ place)

-- likewise, in the queue of task u and with that label
abbrev pub WaitsAt : CallTable → ℕ → TaskNo → Label → Type 0
WaitsAt calls n u label = (c : Call) × (call_at calls n ≡ Some c) × (c.place ≡ Incoming u) × (c.label ≡ label)

-- task t has just made this call with that method over its phone p, which leads to task u
pub record IsCalled (t : TaskNo) (p method : ℕ) (k : KernelState) (u : TaskNo) (c : Call) : Type 0 where
  pub first : call_at k.calls c.number.0 ≡ None
  pub leads : Leads k t p u
  pub caller : c.caller ≡ Some t
  pub from : c.from ≡ label_of t p
  pub label : c.label ≡ label_of t p
  pub asks : c.request.method ≡ method

-- the label of a call after it was passed on: with Route that of the phone that it went over, else the one that it had
abbrev pub label_by : Mode → Label → Label → Label
label_by Plain had over = had
label_by Route had over = over

-- task t has just passed on call n, which it held, over its phone p, which leads to task u
pub record IsPassedOn (t : TaskNo) (n p : ℕ) (mode : Mode) (k : KernelState) (u : TaskNo) (c : Call) : Type 0 where
  pub before : Call
  pub live : call_at k.calls n ≡ Some before
  pub held : before.place ≡ Dispatched t
  pub leads : Leads k t p u
  pub number : c.number ≡ before.number
  pub caller : c.caller ≡ before.caller
  pub from : c.from ≡ before.from
  pub label : c.label ≡ label_by mode before.label (label_of t p)

-- the call came to the queue of task u by this request of task t
abbrev pub Comes : TaskNo → Request → KernelState → TaskNo → Call → Type 0
Comes t (request.Call p msg) k u c = IsCalled t p msg.method k u c
Comes t (request.Forward n p mode change) k u c = IsPassedOn t n p mode k u c
Comes t (request.Hangup p) k u c = IsCalled t p phone_hungup k u c
Comes t _ k u c = ⊥

-- where the entry tells that a call is accepted, or passed on, a phone led there, and it waits there from then on, with
-- that label
abbrev pub GoesThere : KernelState → CallTable → Entry → Type 0
GoesThere before after (entry.Accepted n from method (Some u)) = Leads before from.task from.phone.0 u × WaitsAt after n.0 u from
GoesThere before after (entry.Accepted n from method None) = Stands after n.0 (Answers from.task)
GoesThere before after (entry.Forwarded n by u label) = ((p : ℕ) × Leads before by p u) × WaitsAt after n.0 u label
GoesThere before after _ = ⊤

-- so it is with each of these entries
abbrev pub GoThere : KernelState → CallTable → List Entry → Type 0
GoThere before after [] = ⊤
GoThere before after (e ∷ es) = GoesThere before after e × GoThere before after es

-- where the outcome tells that a user's call is accepted over a phone that leads to a task, or that a call is passed
-- on, it waits at the task that the phone led to
abbrev pub WaitsThere : TaskNo → Request → KernelState → CallTable → Outcome → Type 0
WaitsThere t (request.Call p msg) before after (outcome.Accepted n) = (u : TaskNo) → first_user_method ≤ msg.method → Leads before t p u → Stands after n.0 (Incoming u)
WaitsThere t (request.Forward n p mode change) before after outcome.Done = (u : TaskNo) × Leads before t p u × Stands after n (Incoming u)
WaitsThere t _ before after _ = ⊤

-- where calls go by a request of task t
pub record GoWherePhonesLead (t : TaskNo) (asked : Request) (before : KernelState) (done : Served) : Type 0 where
  -- a call that waits at a task waited there before, and has not changed, or came by this request
  pub queued : (n : ℕ) (c : Call) (u : TaskNo) → call_at done.state.calls n ≡ Some c → c.place ≡ Incoming u → (call_at before.calls n ≡ Some c) ⊎ Comes t asked before u c
  -- what the entries and the outcome tell of it is so
  pub told : GoThere before done.state.calls done.entries
  pub waits : WaitsThere t asked before done.state.calls done.outcome

-- task t, which is killed, led over its phone p to task u, and this call tells u of it
pub record IsFarewell (t : TaskNo) (k : KernelState) (u : TaskNo) (c : Call) : Type 0 where
  pub first : call_at k.calls c.number.0 ≡ None
  pub phone : ℕ
  pub leads : Leads k t phone u
  pub from : c.from ≡ label_of t phone
  pub label : c.label ≡ label_of t phone
  pub method : c.request.method ≡ phone_hungup

-- a call that waits at a task after a kill of task t waited there before, or tells of a phone of t that led there
abbrev pub OnlyFarewellsCome : TaskNo → KernelState → KernelState → Type 0
OnlyFarewellsCome t before after =
    (n : ℕ) (c : Call) (u : TaskNo) → call_at after.calls n ≡ Some c → c.place ≡ Incoming u → Stands before.calls n (Incoming u) ⊎ IsFarewell t before u c

-- an answer EOK of task t to call n, which it holds, connects phone p of task v with task u: the phone that was kept
-- for the call is one of its caller, and leads to t, or one of t, and leads to its caller
pub record IsConnected (t : TaskNo) (n : ℕ) (reply : Reply) (k : KernelState) (v : TaskNo) (p : ℕ) (u : TaskNo) : Type 0 where
  pub call : Call
  pub live : call_at k.calls n ≡ Some call
  pub held : call.place ≡ Dispatched t
  pub accepted : reply.code ≡ eok
  pub kept : call.reserved ≡ Some (label_of v p)
  pub two : ((call.request.method ≡ connect_me_to) × (call.caller ≡ Some v) × (u ≡ t)) ⊎ ((call.request.method ≡ connect_to_me) × (v ≡ t) × (call.caller ≡ Some u))

-- by this request of task t phone p of task v comes to lead to task u
abbrev pub Connects : TaskNo → Request → KernelState → TaskNo → ℕ → TaskNo → Type 0
Connects t (request.Answer n reply) k v p u = IsConnected t n reply k v p u
Connects t _ k v p u = ⊥

-- where phones lead after a request of task t
pub record LeadWhereConnected (t : TaskNo) (asked : Request) (before after : KernelState) : Type 0 where
  -- a phone leads to a task only where it did before, or where this request connects it
  pub came : (v : TaskNo) (p : ℕ) (u : TaskNo) → Leads after v p u → Leads before v p u ⊎ Connects t asked before v p u
  -- and it leads there still, unless t hung it up
  pub went : (v : TaskNo) (p : ℕ) (u : TaskNo) → Leads before v p u → Leads after v p u ⊎ ((asked ≡ request.Hangup p) × (v.0 ≡ t.0) × (phone_at after v p ≡ Some HungUp))

-- after a kill a phone leads to a task only where it did before
abbrev pub NoneCameToLead : KernelState → KernelState → Type 0
NoneCameToLead before after = (v : TaskNo) (p : ℕ) (u : TaskNo) → Leads after v p u → Leads before v p u
