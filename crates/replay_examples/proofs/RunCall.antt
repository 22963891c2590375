-- A call and its answer.
--
--     task a raw
--     call 0 512 7
--     receive
--     task b raw
--     receive
--     answer r2 EOK 8
--     wire a 0 b
--
-- under the schedule step a, step b x 2, step a.
use Rattle.std.proofs.Common.{◌≡◌, ℕ, List, [], ◌∷◌, ◌++◌, true, Some, None, replicate, codes, ap, ◌∙◌, refl}
use Rattle.ipc_ids.specs.declared.message.PhoneState.TheVariants.{Free, Connected}
use Rattle.ipc_ids.specs.declared.message.Request.TheVariants as ask
use Rattle.ipc_ids.specs.declared.message.Outcome.TheVariants as got
use Rattle.ipc_ids.specs.declared.message.Event.{Event}
use Rattle.ipc_ids.specs.declared.message.Event.TheVariants.{Step}
use Rattle.ipc_ids.specs.declared.entry.Entry.TheVariants as entry
use Rattle.ipc_ids.specs.declared.op.Value.TheVariants.{Number, Register}
use Rattle.ipc_ids.specs.declared.op.Op.TheVariants as op
use Rattle.ipc_ids.specs.Codes.{eok}
use Rattle.call_slab.specs.declared.call.Call.{Call}
use Rattle.call_slab.specs.declared.call.Place.TheVariants.{Incoming, Dispatched, Answers}
use Rattle.task_system.specs.declared.any.AnyProgram.{AnyProgram}
use Rattle.script_lines.specs.declared.plan.TaskPlan.{TaskPlan}
use Rattle.script_lines.specs.Plan.{Plan}
use Rattle.task_system.specs.Any.{after}
use Rattle.task_system.specs.Run.{run, start, program_of, RunState}
use Rattle.replay_examples.proofs.KnownMaps.{empty_known, get_known, entries_known, insert_known, remove_known}
use Rattle.replay_examples.proofs.RunWords.{task, call, phone, msg, reply, raw, wire, sent, no_areas, state, of_none, of_next, of_step, from_start, TaskStep, asks, told_of, Steps}
use Rattle.trace_print.specs.Text.{text_of, call_text, way_text, answerer_text}
use Rattle.std.specs.Fmt.{digits}

abbrev pub a_plan : TaskPlan
a_plan =
    record (raw 64
    (op.Call (Number 0) (Number 512) (Number 7 ∷ Number 0 ∷ Number 0 ∷ Number 0 ∷ Number 0 ∷ [])
    ∷ op.Receive
    ∷ [])) {
      name = codes "a";
    }

abbrev pub b_plan : TaskPlan
b_plan =
    record (raw 64
    (op.Receive
    ∷ op.Answer (Register 2) (Number 0) (Number 8 ∷ Number 0 ∷ Number 0 ∷ Number 0 ∷ Number 0 ∷ [])
    ∷ [])) {
      name = codes "b";
    }

abbrev pub plan : Plan
plan = record {
  tasks = a_plan ∷ b_plan ∷ [];
  wires = wire 1 0 2 ∷ [];
  templates = [];
}

abbrev a_0 : AnyProgram
a_0 = program_of 1 (a_plan)

abbrev b_0 : AnyProgram
b_0 = program_of 2 (b_plan)

abbrev state_0 : RunState
state_0 =
    state (true ∷ true ∷ []) ((Connected (task 2) ∷ replicate 63 Free) ∷ (replicate 64 Free) ∷ [])
    ([]) 1 1 (no_areas 2) 0
    (a_0 ∷ b_0 ∷ []) None

starts : start plan ≡ state_0
starts = rw (empty_known, empty_known)

-- 1. step a
abbrev call_1_sent : Call
call_1_sent = sent 1 (phone 1 0) (msg 512 7 0 0 0 0) (Incoming (task 2)) 1

abbrev a_1 : AnyProgram
a_1 = after a_0 (got.Accepted (call 1))

abbrev state_1 : RunState
state_1 =
    state (true ∷ true ∷ []) ((Connected (task 2) ∷ replicate 63 Free) ∷ (replicate 64 Free) ∷ [])
    ((1, call_1_sent) ∷ []) 2 2 (no_areas 2) 1
    (a_1 ∷ b_0 ∷ []) None

abbrev step_1 : TaskStep
step_1 =
    asks 1 (ask.Call 0 (msg 512 7 0 0 0 0))
    (entry.Accepted (call 1) (phone 1 0) 512 (Some (task 2)) ∷ [])
    (got.Accepted (call 1)) []

event_1 : Steps state_0 step_1 state_1
event_1 = of_step state_0 step_1 state_1 a_0 refl refl (rw (entries_known, insert_known)) refl refl

-- 2. step b
abbrev call_1_received : Call
call_1_received = record call_1_sent { place = Dispatched (task 2); stamp = 2 }

abbrev b_1 : AnyProgram
b_1 = after b_0 (got.Received (call 1) (msg 512 7 0 0 0 0) (phone 1 0))

abbrev state_2 : RunState
state_2 =
    state (true ∷ true ∷ []) ((Connected (task 2) ∷ replicate 63 Free) ∷ (replicate 64 Free) ∷ [])
    ((1, call_1_received) ∷ []) 2 3 (no_areas 2) 2
    (a_1 ∷ b_1 ∷ []) None

abbrev step_2 : TaskStep
step_2 =
    asks 2 ask.Receive
    (entry.Received (call 1) (task 2) ∷ [])
    (got.Received (call 1) (msg 512 7 0 0 0 0) (phone 1 0)) []

event_2 : Steps state_1 step_2 state_2
event_2 = of_step state_1 step_2 state_2 b_0 refl refl (rw (entries_known, entries_known, insert_known)) refl refl

-- 3. step b
abbrev call_1_answered : Call
call_1_answered = record call_1_received { reply = reply eok 8 0 0 0 0; place = Answers (task 1); stamp = 3 }

abbrev b_2 : AnyProgram
b_2 = after b_1 got.Done

abbrev state_3 : RunState
state_3 =
    state (true ∷ true ∷ []) ((Connected (task 2) ∷ replicate 63 Free) ∷ (replicate 64 Free) ∷ [])
    ((1, call_1_answered) ∷ []) 2 4 (no_areas 2) 3
    (a_1 ∷ b_2 ∷ []) None

abbrev step_3 : TaskStep
step_3 =
    asks 2 (ask.Answer 1 (reply eok 8 0 0 0 0))
    (entry.Answered (call 1) (reply eok 8 0 0 0 0) (Some (task 2)) ∷ [])
    got.Done []

event_3 : Steps state_2 step_3 state_3
event_3 = of_step state_2 step_3 state_3 b_1 refl refl (rw (get_known, insert_known)) refl refl

-- 4. step a
abbrev a_2 : AnyProgram
a_2 = after a_1 (got.Answered (call 1) (reply eok 8 0 0 0 0))

abbrev state_4 : RunState
state_4 =
    state (true ∷ true ∷ []) ((Connected (task 2) ∷ replicate 63 Free) ∷ (replicate 64 Free) ∷ [])
    ([]) 2 4 (no_areas 2) 4
    (a_2 ∷ b_2 ∷ []) None

abbrev step_4 : TaskStep
step_4 = asks 1 ask.Receive (entry.Delivered (call 1) (task 1) ∷ []) (got.Answered (call 1) (reply eok 8 0 0 0 0)) []

event_4 : Steps state_3 step_4 state_4
event_4 = of_step state_3 step_4 state_4 a_1 refl refl (rw (entries_known, entries_known, entries_known, remove_known)) refl refl

abbrev schedule : List Event
schedule =
    Step (task 1) ∷ Step (task 2) ∷ Step (task 2) ∷ Step (task 1) ∷ []

-- the entries of the run
pub first_call : run plan schedule
    ≡ told_of step_1 ++ told_of step_2 ++ told_of step_3 ++ told_of step_4 ++ []
first_call = from_start plan schedule starts (
    of_next event_1 (of_next event_2 (of_next event_3 (of_next event_4 (of_none)))))

-- and their text
abbrev pub text : List ℕ
text =
    codes "t1 call 0 512 7 0 0 0 0\n"
    ++ codes "  call 1 accepted t1.0 method 512 to t2\n"
    ++ codes "  = call 1\n"
    ++ codes "t2 receive\n"
    ++ codes "  call 1 received t2\n"
    ++ codes "  = received 1 512 7 0 0 0 0 from t1.0\n"
    ++ codes "t2 answer 1 EOK 8 0 0 0 0\n"
    ++ codes "  call 1 answered EOK 8 0 0 0 0 by t2\n"
    ++ codes "  = EOK\n"
    ++ codes "t1 receive\n"
    ++ codes "  call 1 delivered t1\n"
    ++ codes "  = answer 1 EOK 8 0 0 0 0\n"

told_text : text_of (told_of step_1 ++ told_of step_2 ++ told_of step_3 ++ told_of step_4 ++ []) ≡ text
unfolding digits call_text way_text answerer_text
told_text = refl

pub first_call_text : text_of (run plan schedule) ≡ text
first_call_text = ap text_of first_call ∙ told_text
