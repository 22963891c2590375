-- What the functions of two moments hand on, as their definitions say it.
use Rattle.std.specs.Prelude.{◌≡◌, Option, None, Some, Result, Ok, Err}
use Rattle.ipc_ids.specs.declared.numbers.TaskNo.{TaskNo}
use Rattle.ipc_ids.specs.declared.numbers.CallNo.{CallNo}
use Rattle.ipc_ids.specs.declared.numbers.Code.{Code}
use Rattle.ipc_ids.specs.declared.methods.MethodKind.{MethodKind}
use Rattle.ipc_ids.specs.declared.entry.Entry.{Entry}
use Rattle.ipc_ids.specs.Methods.{kind_of}
use Rattle.address_space.specs.declared.spaces.SpaceFault.{SpaceFault}
use Rattle.address_space.specs.declared.spaces.SpaceFault.TheVariants.{Refused, NoMemory}
use Rattle.call_slab.specs.declared.call.Call.{Call}
use Rattle.call_slab.specs.declared.call.Place.TheVariants.{Dispatched}
use Rattle.switchboard.specs.declared.joins.Arrival.{Arrival}
use Rattle.switchboard.specs.State.{KernelState, BoardState}
use Rattle.switchboard.specs.Board.{IsNewCall}
use Rattle.switchboard.specs.Kept.{MayReserve}
use Rattle.switchboard.specs.Joins.{with_arrival}
use Rattle.switchboard.specs.Serving.{Handed}
use Rattle.kernel_core.specs.Moments.{on_receive}

-- the code left this state and this record of a new call, and handed on this note
pub record IsHanded (new : BoardState) (c : Call) (told : Option Entry) (handed : Handed) : Type 0 where
  pub state : new.state ≡ handed.state
  pub call : c ≡ handed.call
  pub note : told ≡ handed.note
  pub new_call : IsNewCall new.state c

-- nothing has changed, and the call is to be answered with this code
pub record IsUnsent (old new : BoardState) (before now : Call) (given wanted : Code) : Type 0 where
  pub state : new.state ≡ old.state
  pub call : now ≡ before
  pub code : given ≡ wanted

-- where memory was wanting, the state is as it was
abbrev pub IsSent : BoardState → BoardState → Call → Call → Result (Option Entry) SpaceFault → Result Handed Code → Type 0
IsSent old new before now (Ok noted) (Ok handed) = IsHanded new now noted handed
IsSent old new before now (Err (Refused given)) (Err code) = IsUnsent old new before now given code
IsSent old new before now (Ok noted) (Err code) = ⊥
IsSent old new before now (Err (Refused given)) (Ok handed) = ⊥
IsSent old new before now (Err NoMemory) told = new.state ≡ old.state

-- the code left this state, and what the call is to take with it makes the record that is handed on
pub record IsArriving (new : BoardState) (arrival : Arrival) (old : KernelState) (who : TaskNo) (c : Call) : Type 0 where
  pub handed : with_arrival new.state c arrival ≡ on_receive old c who
  pub reserved : MayReserve new.state (Some c) arrival.reserved who

abbrev pub Arrives : BoardState → BoardState → Arrival → TaskNo → Option Call → Type 0
Arrives old new arrival who None = ⊥
Arrives old new arrival who (Some c) = IsArriving new arrival old.state who c

-- the live call has this number and this kind, task t holds it, and this is its caller, unless that has ended
pub record IsAnswered (c : Call) (n : CallNo) (wanted : MethodKind) (t : TaskNo) (made_by : Option TaskNo) : Type 0 where
  pub number : c.number ≡ n
  pub kind : kind_of c.request.method ≡ wanted
  pub place : c.place ≡ Dispatched t
  pub caller : c.caller ≡ made_by

abbrev pub IsHeldOf : Option Call → CallNo → MethodKind → TaskNo → Option TaskNo → Type 0
IsHeldOf None number kind t caller = ⊥
IsHeldOf (Some c) number kind t caller = IsAnswered c number kind t caller
