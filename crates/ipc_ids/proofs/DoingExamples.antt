-- What a task did, on short lists with a task that is made in them.
use Rattle.std.proofs.Common.{◌≡◌, true, false, List, [], ◌∷◌, refl}
use Rattle.ipc_ids.specs.declared.numbers.TaskNo.{TaskNo}
use Rattle.ipc_ids.specs.declared.message.Request.TheVariants as request
use Rattle.ipc_ids.specs.declared.message.Outcome.TheVariants as outcome
use Rattle.ipc_ids.specs.declared.entry.Entry.{Entry}
use Rattle.ipc_ids.specs.declared.entry.Entry.TheVariants as entry
use Rattle.ipc_ids.specs.Doings.{Asks, Told, is_own_event, doings}

abbrev client : TaskNo
client = record { 0 = 1 }

abbrev helper : TaskNo
helper = record { 0 = 3 }

-- the client receives nothing, the helper is made, and it receives nothing
abbrev made_and_asked : List Entry
made_and_asked =
    entry.Head client request.Receive
    ∷ entry.Outcome outcome.Empty
    ∷ entry.Spawn helper
    ∷ entry.Head helper request.Receive
    ∷ entry.Outcome outcome.Empty
    ∷ []

-- that it is made is no doing of the helper
helper_received : doings 3 made_and_asked ≡ Told outcome.Empty ∷ Asks request.Receive ∷ []
helper_received = refl

client_received : doings 1 made_and_asked ≡ Told outcome.Empty ∷ Asks request.Receive ∷ []
client_received = refl

-- the event in which it is made is no event of the client, though the one before was
no_event_of_the_client :
    is_own_event 1 (entry.Spawn helper ∷ entry.Outcome outcome.Empty ∷ entry.Head client request.Receive ∷ [])
    ≡ false
no_event_of_the_client = refl

event_of_the_helper : is_own_event 3 (entry.Spawn helper ∷ []) ≡ true
event_of_the_helper = refl
