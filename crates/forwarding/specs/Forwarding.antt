-- Which calls may be passed on, and what the next receiver sees of them.
use Rattle.std.specs.Prelude.{ℕ, ⊤, ◌≤◌, Bool, false, not, ◌&&◌, Option, None, Some, nat_lt, slice_index, slice_set}
use Rattle.ipc_ids.specs.declared.message.Msg.{Msg}
use Rattle.ipc_ids.specs.declared.message.Mode.{Mode}
use Rattle.ipc_ids.specs.declared.message.Mode.TheVariants.{Plain, Route}
use Rattle.ipc_ids.specs.declared.message.PhoneState.{PhoneState}
use Rattle.ipc_ids.specs.declared.message.PhoneState.TheVariants.{Free, Connecting, Connected, HungUp, Slammed}
use Rattle.ipc_ids.specs.declared.numbers.Label.{Label}
use Rattle.ipc_ids.specs.declared.numbers.TaskNo.{TaskNo}
use Rattle.ipc_ids.specs.declared.methods.MethodKind.{MethodKind}
use Rattle.ipc_ids.specs.declared.methods.MethodKind.TheVariants.{ConnectToMe, ConnectMeTo, User}
use Rattle.ipc_ids.specs.Methods.{first_user_method, kind_of}
use Rattle.call_slab.specs.declared.call.Call.{Call}
use Rattle.call_slab.specs.declared.call.Place.TheVariants.{Dispatched}
use Rattle.answerbox.specs.Calls.{is_hangup, same_place}

-- the task has received the call and not answered it
abbrev pub is_held : TaskNo → Call → Bool
is_held by c = same_place c.place (Dispatched by)

-- the call was made with a method of the users' own
abbrev pub is_user_call : Call → Bool
is_user_call c = not (nat_lt c.request.method first_user_method)

-- the change would give the call a method of the system
abbrev pub has_system_method : Option Msg → Bool
has_system_method None = false
has_system_method (Some msg) = nat_lt msg.method first_user_method

-- a call that tells a hangup stays where it is, and no user call becomes one of the system
abbrev pub is_forwardable : Option Msg → Call → Bool
is_forwardable change c = not (is_hangup c) && not (is_user_call c && has_system_method change)

-- the message of a connect call, with arguments 1 to 4 of the change
abbrev pub connect_msg : Msg → Msg → Msg
connect_msg change msg = record { method = msg.method; args = slice_set change.args 4 (slice_index msg.args 4) }

-- the message of a call of this kind, after a change
abbrev pub changed_msg : MethodKind → Msg → Msg → Msg
changed_msg User change msg = change
changed_msg ConnectToMe change msg = connect_msg change msg
changed_msg ConnectMeTo change msg = connect_msg change msg
changed_msg _ change msg = msg

-- the message that the next receiver sees: where there is no change, the one of now
abbrev pub msg_after : Option Msg → Call → Msg
msg_after None c = c.msg
msg_after (Some change) c = changed_msg (kind_of c.request.method) change c.msg

-- the sender that the next receiver sees: with Route the phone over which the call is passed on
abbrev pub label_after : TaskNo → ℕ → Mode → Call → Label
label_after by through Plain c = c.label
label_after by through Route c = record { task = by; phone = record { 0 = through } }

-- a phone that leads to a task leads to one of these
abbrev pub LeadsWithin : ℕ → Option PhoneState → Type 0
LeadsWithin tasks None = ⊤
LeadsWithin tasks (Some Free) = ⊤
LeadsWithin tasks (Some Connecting) = ⊤
LeadsWithin tasks (Some (Connected to)) = to.0 ≤ tasks
LeadsWithin tasks (Some HungUp) = ⊤
LeadsWithin tasks (Some Slammed) = ⊤
