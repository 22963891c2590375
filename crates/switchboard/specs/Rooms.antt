-- The room that a step needs and uses, in numbers, stamps and memory.
use Rattle.std.specs.Prelude.{◌≡◌, ℕ, ◌+◌, ◌≤◌, ◌^◌, ◌||◌, ◌==◌, if◌then◌else◌, Bool, true, false, Option, None, Some, IfSome}
use Rattle.ipc_ids.specs.Trace.{TraceState}
use Rattle.ipc_ids.specs.declared.numbers.CallNo.{CallNo}
use Rattle.ipc_ids.specs.declared.numbers.TaskNo.{TaskNo}
use Rattle.ipc_ids.specs.declared.numbers.Label.{Label}
use Rattle.ipc_ids.specs.declared.methods.MethodKind.{MethodKind}
use Rattle.ipc_ids.specs.declared.message.PhoneState.{PhoneState}
use Rattle.ipc_ids.specs.declared.message.PhoneState.TheVariants.{Free, Connecting, Connected, HungUp, Slammed}
use Rattle.call_slab.specs.declared.call.Call.{Call}
use Rattle.answerbox.specs.Calls.{call_at}
use Rattle.switchboard.specs.State.{KernelState, BoardState, live_calls, is_alive}
use Rattle.switchboard.specs.Kept.{kept_phone}
use Rattle.switchboard.specs.Joins.{lives}
use Rattle.switchboard.specs.Board.{IsAdded, IsHeldBy}

-- so many calls more, so many moves and so many entries fit
pub record HasRoom (board : BoardState) (out : TraceState) (more moves lines : ℕ) : Type 0 where
  pub numbers : board.state.calls.next_number + more ≤ 2 ^ 63
  pub stamps : board.state.calls.next_stamp + moves ≤ 2 ^ 63
  pub calls : more ≤ board.spare
  pub entries : lines ≤ out.spare

-- at most so much of it is used, and the tasks and the events are those that there were
pub record UsesRoom (old new : BoardState) (told now : TraceState) (more moves lines : ℕ) : Type 0 where
  pub numbers : new.state.calls.next_number ≤ old.state.calls.next_number + more
  pub stamps : new.state.calls.next_stamp ≤ old.state.calls.next_stamp + moves
  pub live : live_calls new.state ≤ live_calls old.state + more
  pub calls : old.spare ≤ new.spare + more
  pub entries : told.spare ≤ now.spare + lines
  pub alive : new.state.tasks.alive ≡ old.state.tasks.alive
  pub places : new.places ≡ old.places
  pub events : new.state.events ≡ old.state.events

-- at most so many calls more are live, there is room for at most so many fewer, and the places are the same
pub record KeepsRoom (old new : BoardState) (more : ℕ) : Type 0 where
  pub live : live_calls new.state ≤ live_calls old.state + more
  pub calls : old.spare ≤ new.spare + more
  pub places : new.places ≡ old.places

-- the calls, the tasks and the events are those that there were, and there is as much room
pub record KeepsCalls (old new : BoardState) : Type 0 where
  pub calls : new.state.calls ≡ old.state.calls
  pub alive : new.state.tasks.alive ≡ old.state.tasks.alive
  pub events : new.state.events ≡ old.state.events
  pub spare : old.spare ≤ new.spare
  pub places : new.places ≡ old.places

-- the task may accept the call of this kind that it holds: it is one of this caller, who is alive, and there is room
-- for its answer
pub record MayAccept (board : BoardState) (out : TraceState) (n : CallNo) (kind : MethodKind) (t caller : TaskNo) : Type 0 where
  pub number : IfSome (call_at board.state.calls n.0) (λ c. c.number ≡ n)
  pub held : IsHeldBy (call_at board.state.calls n.0) kind t caller
  pub added : IsAdded board.state t
  pub alive : is_alive board.state caller ≡ true
  pub room : HasRoom board out 0 1 2

-- whether there is a phone
abbrev pub has_phone : Option Label → Bool
has_phone None = false
has_phone (Some l) = true

-- how many entries it makes that a live call vanishes: one, and one more where it keeps a phone
abbrev pub vanish_entries : Option Call → ℕ
vanish_entries None = 0
vanish_entries (Some c) = 1 + (if has_phone (kept_phone c) then 1 else 0)

-- whether there may be two as it is settled
abbrev pub tells_two : KernelState → Call → Bool
tells_two k c = lives k c.caller || has_phone (kept_phone c)

-- how many entries there are at most as a live call is settled
abbrev pub settle_entries : KernelState → Option Call → ℕ
settle_entries k None = 0
settle_entries k (Some c) = 1 + (if tells_two k c then 1 else 0)

-- how many times it is put at a place then: once where its caller is alive
abbrev pub settle_moves : KernelState → Option Call → ℕ
settle_moves k None = 0
settle_moves k (Some c) = if lives k c.caller then 1 else 0

-- how many calls the hangup of a phone in this state makes
abbrev pub calls_of_hangup : Option PhoneState → ℕ
calls_of_hangup None = 0
calls_of_hangup (Some Free) = 0
calls_of_hangup (Some Connecting) = 0
calls_of_hangup (Some (Connected u)) = 1
calls_of_hangup (Some HungUp) = 0
calls_of_hangup (Some Slammed) = 0

-- how many entries it makes
abbrev pub entries_of_hangup : Option PhoneState → ℕ
entries_of_hangup None = 0
entries_of_hangup (Some Free) = 0
entries_of_hangup (Some Connecting) = 0
entries_of_hangup (Some (Connected u)) = 2
entries_of_hangup (Some HungUp) = 0
entries_of_hangup (Some Slammed) = 1

-- there is room to hang up a phone in this state
abbrev pub HasRoomToHangUp : BoardState → TraceState → Option PhoneState → Type 0
HasRoomToHangUp board out state = HasRoom board out (calls_of_hangup state) (calls_of_hangup state) (entries_of_hangup state)

-- at most so much room is used
abbrev pub UsesRoomToHangUp : BoardState → BoardState → TraceState → TraceState → Option PhoneState → Type 0
UsesRoomToHangUp old new told now state = UsesRoom old new told now (calls_of_hangup state) (calls_of_hangup state) (entries_of_hangup state)

-- 1 where a phone in this state leads to task t
abbrev pub leads_to : TaskNo → Option PhoneState → ℕ
leads_to t None = 0
leads_to t (Some Free) = 0
leads_to t (Some Connecting) = 0
leads_to t (Some (Connected u)) = if u.0 == t.0 then 1 else 0
leads_to t (Some HungUp) = 0
leads_to t (Some Slammed) = 0
