-- What a live call keeps from event to event until it is over: what it asks for, the bytes of a DATA_WRITE, the message
-- of a user's call, and its answer.
use Rattle.std.specs.Prelude.{◌≡◌, ℕ, ◌≤◌, ◌⊎◌, Some}
use Rattle.ipc_ids.specs.declared.numbers.TaskNo.{TaskNo}
use Rattle.ipc_ids.specs.declared.message.Request.{Request}
use Rattle.ipc_ids.specs.declared.message.Request.TheVariants as request
use Rattle.ipc_ids.specs.Methods.{data_write, first_user_method}
use Rattle.call_slab.specs.declared.call.Call.{Call}
use Rattle.call_slab.specs.declared.call.Place.TheVariants.{Answers}
use Rattle.answerbox.specs.Calls.{CallTable, call_at}

-- the request passes on call n
abbrev pub Forwards : Request → ℕ → Type 0
Forwards (request.Forward m p mode change) n = m ≡ n
Forwards _ n = ⊥

-- the record of a call before and after an event; in some events its message may change
pub record IsCarried (MayChange : Type 0) (c d : Call) : Type 0 where
  pub from : d.from ≡ c.from
  pub request : d.request ≡ c.request
  pub bytes : c.request.method ≡ data_write → d.buffer ≡ c.buffer
  pub message : first_user_method ≤ c.request.method → MayChange ⊎ (d.msg ≡ c.msg)
  pub answer : (u : TaskNo) → c.place ≡ Answers u → (d.place ≡ Answers u) × (d.reply ≡ c.reply) × (d.buffer ≡ c.buffer)

-- so it is with each call that is live before and after
abbrev pub AreCarried : (ℕ → Type 0) → CallTable → CallTable → Type 0
AreCarried MayChange before after =
    (n : ℕ) (c d : Call) → call_at before n ≡ Some c → call_at after n ≡ Some d → IsCarried (MayChange n) c d
