-- Which phones are kept for connect calls, and what argument 5 tells of them.
use Rattle.std.specs.Prelude.{◌≡◌, ℕ, ◌+◌, ◌*◌, ⊤, length, slice_index, None, Some}
use Rattle.ipc_ids.specs.declared.numbers.Label.{Label}
use Rattle.ipc_ids.specs.declared.numbers.TaskNo.{TaskNo}
use Rattle.ipc_ids.specs.declared.message.Request.{Request}
use Rattle.ipc_ids.specs.declared.message.Request.TheVariants as request
use Rattle.ipc_ids.specs.Codes.{eok}
use Rattle.ipc_ids.specs.Methods.{connect_to_me, connect_me_to}
use Rattle.call_slab.specs.declared.call.Call.{Call}
use Rattle.call_slab.specs.declared.call.Place.TheVariants.{Dispatched, Answers}
use Rattle.answerbox.specs.Calls.{CallTable, call_at}

-- the call is a CONNECT_ME_TO that was not accepted, and this phone is kept for it
pub record IsUnconnected (c : Call) (l : Label) : Type 0 where
  pub asks : c.request.method ≡ connect_me_to
  pub kept : c.reserved ≡ Some l
  pub unaccepted : (u : TaskNo) → c.place ≡ Answers u → c.reply.code ≡ eok → ⊥

-- argument 5 of the message of a connect call tells the phone that is kept for it: of a CONNECT_ME_TO the caller and
-- its phone in one number, of a CONNECT_TO_ME that a task holds the phone, or 64 without one
pub record TellsPhone (c : Call) : Type 0 where
  pub five : length c.msg.args ≡ 5
  pub me_to : (l : Label) → c.request.method ≡ connect_me_to → c.reserved ≡ Some l → slice_index c.msg.args 4 ≡ 64 * l.task.0 + l.phone.0
  pub to_me : (t : TaskNo) (l : Label) → c.request.method ≡ connect_to_me → c.place ≡ Dispatched t → c.reserved ≡ Some l → slice_index c.msg.args 4 ≡ l.phone.0
  pub without : (t : TaskNo) → c.request.method ≡ connect_to_me → c.place ≡ Dispatched t → c.reserved ≡ None → slice_index c.msg.args 4 ≡ 64

-- so it is with each of these calls
abbrev pub TellPhones : CallTable → Type 0
TellPhones calls = (n : ℕ) (c : Call) → call_at calls n ≡ Some c → TellsPhone c

-- messages of a request have five arguments
abbrev pub HasFive : Request → Type 0
HasFive (request.Call p msg) = length msg.args ≡ 5
HasFive (request.Forward n p mode None) = ⊤
HasFive (request.Forward n p mode (Some msg)) = length msg.args ≡ 5
HasFive _ = ⊤
