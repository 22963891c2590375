-- What a step and a request give, and that the code does it.
use Rattle.std.specs.Prelude.{◌≡◌, List, [], ◌++◌, Option, None, Result, Ok, Err}
use Rattle.ipc_ids.specs.declared.trace.NoMemory.{NoMemory}
use Rattle.ipc_ids.specs.declared.numbers.Code.{Code}
use Rattle.ipc_ids.specs.declared.message.Outcome.{Outcome}
use Rattle.ipc_ids.specs.declared.message.Outcome.TheVariants.{Refused}
use Rattle.ipc_ids.specs.declared.entry.Entry.{Entry}
use Rattle.ipc_ids.specs.Trace.{TraceState}
use Rattle.call_slab.specs.declared.call.Call.{Call}
use Rattle.switchboard.specs.State.{KernelState, BoardState, Transition}

-- what a moment of a method hands to a join: the state, the record of its call, and one entry more at most
pub record Handed : Type 0 where
  pub state : KernelState
  pub call : Call
  pub note : Option Entry

-- a moment that changes the record alone, and tells this, where there is something to tell
abbrev pub with_note : KernelState → Call → Option Entry → Handed
with_note k c note = record { state = k; call = c; note = note }

-- a moment at which nothing is to be done
abbrev pub as_it_is : KernelState → Call → Handed
as_it_is k c = record { state = k; call = c; note = None }

-- the state after a request, what its task is told, and the entries that tell of it
pub record Served : Type 0 where
  pub state : KernelState
  pub outcome : Outcome
  pub entries : List Entry

-- a step, and then a request on what it leaves
abbrev pub then_serve : Transition → (KernelState → Served) → Served
then_serve before next =
    record {
      state = (next before.state).state;
      outcome = (next before.state).outcome;
      entries = before.entries ++ (next before.state).entries;
    }

-- what a step gives, as the answer to a request
abbrev pub telling : Transition → Outcome → Served
telling step outcome = record { state = step.state; outcome = outcome; entries = step.entries }

-- nothing changes, and the task is told this code
abbrev pub refusal : KernelState → Code → Served
refusal k code = record { state = k; outcome = Refused code; entries = [] }

-- the code did just this step
pub record Does (new : BoardState) (told now : TraceState) (step : Transition) : Type 0 where
  pub state : new.state ≡ step.state
  pub entries : now.entries ≡ told.entries ++ step.entries

-- the code served just so
pub record Serves (new : BoardState) (told_task : Outcome) (told now : TraceState) (served : Served) : Type 0 where
  pub state : new.state ≡ served.state
  pub outcome : told_task ≡ served.outcome
  pub entries : now.entries ≡ told.entries ++ served.entries

-- the code left state and entries as they were
pub record Leaves (old new : BoardState) (told now : TraceState) : Type 0 where
  pub state : new.state ≡ old.state
  pub entries : now.entries ≡ told.entries

-- the code served just so, or memory was wanting and it left all as it was
abbrev pub ServesOrLeaves : Result Outcome NoMemory → BoardState → BoardState → TraceState → TraceState → Served → Type 0
ServesOrLeaves (Ok outcome) old new told now served = Serves new outcome told now served
ServesOrLeaves (Err e) old new told now served = Leaves old new told now

-- the code did just this step, or memory was wanting and it left all as it was
abbrev pub DoesOrLeaves : Result Unit NoMemory → BoardState → BoardState → TraceState → TraceState → Transition → Type 0
DoesOrLeaves (Ok done) old new told now step = Does new told now step
DoesOrLeaves (Err e) old new told now step = Leaves old new told now

-- what was done, followed by what is left, makes the whole
pub record Completes (new : BoardState) (told now : TraceState) (left whole : Transition) : Type 0 where
  pub state : left.state ≡ whole.state
  pub entries : now.entries ++ left.entries ≡ told.entries ++ whole.entries
