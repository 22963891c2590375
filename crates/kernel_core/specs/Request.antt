-- What each request of task t does, and the room that it needs.
use Rattle.std.specs.Prelude.{ℕ, ◌+◌, ◌*◌, []}
use Rattle.ipc_ids.specs.declared.numbers.TaskNo.{TaskNo}
use Rattle.ipc_ids.specs.declared.message.Request.{Request}
use Rattle.ipc_ids.specs.declared.message.Request.TheVariants.{Call, Receive, Answer, Forward, Hangup, AreaMake, AreaDrop, Poke, Peek, Nothing}
use Rattle.ipc_ids.specs.declared.message.Outcome.TheVariants.{Done}
use Rattle.call_slab.specs.declared.call.Place.TheVariants.{Answers}
use Rattle.answerbox.specs.Calls.{calls_at}
use Rattle.switchboard.specs.Areas.{make_area, drop_area, poke, peek}
use Rattle.switchboard.specs.State.{KernelState}
use Rattle.switchboard.specs.Serving.{Served}
use Rattle.kernel_core.specs.Calling.{call}
use Rattle.kernel_core.specs.Receiving.{receive}
use Rattle.kernel_core.specs.Answering.{answer}
use Rattle.kernel_core.specs.Forward.{forward}
use Rattle.kernel_core.specs.HangingUp.{hangup}

-- what each request does
abbrev pub serve_request : KernelState → TaskNo → Request → Served
serve_request k t (Call p msg) = call k t p msg
serve_request k t Receive = receive k t
serve_request k t (Answer n reply) = answer k t n reply
serve_request k t (Forward n p mode change) = forward k t n p mode change
serve_request k t (Hangup p) = hangup k t p
serve_request k t (AreaMake base pages rights) = make_area k t base pages rights
serve_request k t (AreaDrop base) = drop_area k t base
serve_request k t (Poke at bytes) = poke k t at bytes
serve_request k t (Peek at count) = peek k t at count
serve_request k t Nothing = record { state = k; outcome = Done; entries = [] }

-- how many calls a request adds at most
abbrev pub most_calls : Request → ℕ
most_calls (Call p msg) = 1
most_calls Receive = 0
most_calls (Answer n reply) = 0
most_calls (Forward n p mode change) = 0
most_calls (Hangup p) = 1
most_calls (AreaMake base pages rights) = 0
most_calls (AreaDrop base) = 0
most_calls (Poke at bytes) = 0
most_calls (Peek at count) = 0
most_calls Nothing = 0

-- how many entries task t makes at most with a request: a receive two for each answer that stands at the task
abbrev pub most_entries : KernelState → TaskNo → Request → ℕ
most_entries k t (Call p msg) = 2
most_entries k t Receive = 2 * calls_at k.calls (Answers t) + 2
most_entries k t (Answer n reply) = 2
most_entries k t (Forward n p mode change) = 2
most_entries k t (Hangup p) = 2
most_entries k t (AreaMake base pages rights) = 1
most_entries k t (AreaDrop base) = 1
most_entries k t (Poke at bytes) = 1
most_entries k t (Peek at count) = 0
most_entries k t Nothing = 0
