-- Short words for runs that are written out: tasks, calls, messages, entries and states, and how a run is put
-- together of its events.
use Rattle.std.proofs.Common.{◌≡◌, refl, ℕ, Bool, true, false, List, [], ◌∷◌, ◌++◌, Option, Some, None, replicate, slice_set, ◌-◌, ap, ◌∙◌}
use Rattle.ipc_ids.specs.declared.numbers.TaskNo.{TaskNo}
use Rattle.ipc_ids.specs.declared.numbers.CallNo.{CallNo}
use Rattle.ipc_ids.specs.declared.numbers.StoreNo.{StoreNo}
use Rattle.ipc_ids.specs.declared.numbers.FibrilNo.{FibrilNo}
use Rattle.ipc_ids.specs.declared.numbers.ExchangeNo.{ExchangeNo}
use Rattle.ipc_ids.specs.declared.numbers.Label.{Label}
use Rattle.ipc_ids.specs.declared.numbers.Code.{Code}
use Rattle.ipc_ids.specs.declared.message.Msg.{Msg}
use Rattle.ipc_ids.specs.declared.message.Reply.{Reply}
use Rattle.ipc_ids.specs.declared.message.PhoneState.{PhoneState}
use Rattle.ipc_ids.specs.declared.message.Event.{Event}
use Rattle.ipc_ids.specs.declared.entry.Entry.{Entry}
use Rattle.ipc_ids.specs.declared.entry.Entry.TheVariants as entry
use Rattle.ipc_ids.specs.declared.op.Op.{Op}
use Rattle.ipc_ids.specs.declared.op.Body.{Body}
use Rattle.ipc_ids.specs.Codes.{eok}
use Rattle.call_slab.specs.declared.call.Call.{Call}
use Rattle.call_slab.specs.declared.call.Place.{Place}
use Rattle.address_space.specs.Areas.{Area}
use Rattle.address_space.specs.Memory.{Memory}
use Rattle.switchboard.specs.State.{state_from, KernelState, Transition, is_alive, with_event, mark_ended}
use Rattle.task_system.specs.declared.any.AnyProgram.{AnyProgram}
use Rattle.script_lines.specs.declared.plan.TaskPlan.{TaskPlan}
use Rattle.script_lines.specs.declared.plan.Wire.{Wire}
use Rattle.script_lines.specs.declared.plan.Kind.TheVariants.{Naming, Raw, Async}
use Rattle.script_lines.specs.Plan.{Plan}
use Rattle.ipc_ids.specs.declared.message.Request.{Request}
use Rattle.ipc_ids.specs.declared.message.Outcome.{Outcome}
use Rattle.ipc_ids.specs.declared.message.Event.TheVariants.{Step, Kill}
use Rattle.cleanup.specs.Kill.{hang_up_own_phones, slam_phones_to, settle_incoming, settle_dispatched, drop_answers, forget_calls_elsewhere, drop_areas}
use Rattle.switchboard.specs.Serving.{Served}
use Rattle.kernel_core.specs.Kernel.{serve, kill_event}
use Rattle.kernel_core.specs.History.{served_entries, killed_entries}
use Rattle.task_system.specs.Any.{wanted, after, entries}
use Rattle.task_system.specs.Run.{run, run_from, turn, start, step_by, killed, with_kernel, program_at, RunState, RunTransition}
use Rattle.replay_examples.proofs.KnownMaps.{known}

abbrev pub task : ℕ → TaskNo
task n = record { 0 = n }

abbrev pub call : ℕ → CallNo
call n = record { 0 = n }

abbrev pub store : ℕ → StoreNo
store n = record { 0 = n }

abbrev pub fibril : ℕ → FibrilNo
fibril n = record { 0 = n }

abbrev pub exchange : ℕ → ExchangeNo
exchange n = record { 0 = n }

abbrev pub code : ℕ → Code
code n = record { 0 = n }

-- phone p of task t
abbrev pub phone : ℕ → ℕ → Label
phone t p = record { task = record { 0 = t }; phone = record { 0 = p } }

abbrev pub msg : (method a b c d e : ℕ) → Msg
msg method a b c d e = record { method = method; args = a ∷ b ∷ c ∷ d ∷ e ∷ [] }

abbrev pub reply : Code → (a b c d e : ℕ) → Reply
reply code a b c d e = record { code = code; args = a ∷ b ∷ c ∷ d ∷ e ∷ [] }

-- a raw task of so many phones and of these operations
abbrev pub raw : ℕ → List Op → TaskPlan
raw limit ops = record { name = []; kind = Raw; limit = limit; bodies = record { connection = false; ops = ops } ∷ []; blocks = 0; service = None }

-- an async task, and its bodies
abbrev pub async : ℕ → List Body → TaskPlan
async limit bodies = record { name = []; kind = Async; limit = limit; bodies = bodies; blocks = 0; service = None }

abbrev pub fibril_of : List Op → Body
fibril_of ops = record { connection = false; ops = ops }

abbrev pub connection_of : List Op → Body
connection_of ops = record { connection = true; ops = ops }

abbrev pub naming_service : TaskPlan
naming_service = record { name = []; kind = Naming; limit = 64; bodies = []; blocks = 0; service = None }

-- phone p of task t leads to task u from the start
abbrev pub wire : (t p u : ℕ) → Wire
wire t p u = record { from = task t; phone = record { 0 = p }; to = task u }

-- call n as it is accepted over a phone, at a place, under a stamp
abbrev pub sent : ℕ → Label → Msg → Place → ℕ → Call
sent n from asked place stamp =
    record {
      number = call n;
      caller = Some from.task;
      from = from;
      label = from;
      request = asked;
      msg = asked;
      reply = reply eok 0 0 0 0 0;
      discard = false;
      buffer = [];
      reserved = None;
      place = place;
      stamp = stamp;
    }

abbrev pub area : (base pages rights store : ℕ) → Area
area base pages rights store = record { base = base; pages = pages; rights = rights; store = store }

-- the areas of each task, the bytes of each store, and the next store's number
abbrev pub memory : List (List Area) → List (ℕ × List ℕ) → ℕ → Memory
memory areas stores next = record { areas = areas; stores = known stores; next_store = next }

abbrev pub no_areas : ℕ → Memory
no_areas tasks = memory (replicate tasks []) [] 1

-- who is alive, the phones of each task, the live calls by number, the next number and stamp, the memory, how many
-- events there were, the program of each task, and the naming service where there is one
abbrev pub state : List Bool → List (List PhoneState) → List (ℕ × Call) → ℕ → ℕ → Memory → ℕ → List AnyProgram → Option TaskNo → RunState
state alive phones calls number stamp memory events programs names =
    record {
      kernel = state_from alive phones (record { records = known calls; next_number = number; next_stamp = stamp }) memory events;
      programs = programs;
      templates = [];
      names = names;
    }

-- an event makes this of a state, and tells this
pub record Turns (now : RunState) (e : Event) (next : RunState) (told : List Entry) : Type 0 where
  pub is : turn now e ≡ record { state = next; entries = told }

-- from a state on, events tell this
pub record Runs (now : RunState) (events : List Event) (told : List Entry) : Type 0 where
  pub is : run_from now events ≡ told

pub of_none : {now : RunState} → Runs now [] []
of_none = record { is = refl }

pub of_next : {now next : RunState} {e : Event} {events : List Event} {told rest : List Entry} → Turns now e next told → Runs next events rest → Runs now (e ∷ events) (told ++ rest)
of_next {now} {next} {e} {events} {told} first others =
    record { is = ap (λ (t : RunTransition). t.entries ++ run_from t.state events) first.is ∙ ap (λ (r : List Entry). told ++ r) others.is }

pub from_start : (plan : Plan) (events : List Event) {first : RunState} {told : List Entry} → start plan ≡ first → Runs first events told → run plan events ≡ told
from_start plan events a b = ap (λ (s : RunState). run_from s events) a ∙ b.is

-- a step of a task: what its program asks, what the kernel tells of that, how it ends, and what the program tells then
pub record TaskStep : Type 0 where
  pub task : TaskNo
  pub asked : Request
  pub told : List Entry
  pub outcome : Outcome
  pub own : List Entry

abbrev pub asks : ℕ → Request → List Entry → Outcome → List Entry → TaskStep
asks t asked told outcome own = record { task = task t; asked = asked; told = told; outcome = outcome; own = own }

-- the entries of a step
abbrev pub told_of : TaskStep → List Entry
told_of s = (entry.Head s.task s.asked ∷ s.told ++ entry.Outcome s.outcome ∷ []) ++ s.own

-- a step makes this of a state
abbrev pub Steps : RunState → TaskStep → RunState → Type 0
Steps now s next = Turns now (Step s.task) next (told_of s)

-- what the kernel makes of a step that leads to this state
abbrev pub served : TaskStep → RunState → Served
served s next = record { state = next.kernel; outcome = s.outcome; entries = s.told }

-- a state with this kernel, in which the program has gone on by the outcome of its step
abbrev pub gone_on : RunState → TaskStep → AnyProgram → KernelState → RunState
gone_on now s program kernel =
    record {
      kernel = kernel;
      programs = slice_set now.programs (s.task.0 - 1) (after program s.outcome);
      templates = now.templates;
      names = now.names;
    }

-- a step is made of four looks: which program it is, what that asks, what the kernel makes of it, and what the program
-- tells
pub of_step : (now : RunState) (s : TaskStep) (next : RunState) (program : AnyProgram)
    → program_at now s.task ≡ Some program → wanted program ≡ s.asked → serve now.kernel s.task s.asked ≡ served s next
    → entries program s.outcome ≡ s.own → gone_on now s program next.kernel ≡ next
    → Steps now s next
of_step now s next program at asks serves tells goes =
    let outcome : serve now.kernel s.task (wanted program) ≡ served s next = ap (serve now.kernel s.task) asks ∙ serves in
    let more : entries program (serve now.kernel s.task (wanted program)).outcome ≡ s.own = ap (λ (x : Served). entries program x.outcome) outcome ∙ tells in
    record {
      is = ap (step_by now s.task) at
          ∙ (λ i. record {
            state = gone_on now (record s { outcome = (outcome i).outcome }) program (outcome i).state;
            entries = served_entries s.task (asks i) (outcome i) ++ more i;
          })
          ∙ (λ i. record { state = goes i; entries = told_of s });
    }

-- a kill of task t, which is alive
pub of_kill : (now : RunState) (t : TaskNo) (done : Transition) → is_alive now.kernel t ≡ true → kill_event now.kernel t ≡ done
    → Turns now (Kill t) (with_kernel now done.state) (killed_entries t done)
of_kill now t done alive kills = record { is = rw alive (ap (killed now t) kills) }

-- the kernel's part of a state
abbrev pub kernel : List Bool → List (List PhoneState) → List (ℕ × Call) → ℕ → ℕ → Memory → ℕ → KernelState
kernel alive phones calls number stamp memory events =
    state_from alive phones (record { records = known calls; next_number = number; next_stamp = stamp }) memory events

-- a kill of task t, part by part
pub of_parts : (k : KernelState) (t : TaskNo) (a b c d e f g : Transition)
    → hang_up_own_phones t (mark_ended k t) ≡ a → slam_phones_to t a.state ≡ b → settle_incoming t b.state ≡ c
    → settle_dispatched t c.state ≡ d → drop_answers t d.state ≡ e → forget_calls_elsewhere t e.state ≡ f → drop_areas t f.state ≡ g
    → kill_event k t
    ≡ record { state = with_event g.state; entries = (((((a.entries ++ b.entries) ++ c.entries) ++ d.entries) ++ e.entries) ++ f.entries) ++ g.entries }
of_parts k t a b c d e f g to_a to_b to_c to_d to_e to_f to_g =
    let first : Transition = hang_up_own_phones t (mark_ended k t) in
    let second : slam_phones_to t first.state ≡ b = ap (λ (x : Transition). slam_phones_to t x.state) to_a ∙ to_b in
    let third : settle_incoming t (slam_phones_to t first.state).state ≡ c = ap (λ (x : Transition). settle_incoming t x.state) second ∙ to_c in
    let fourth : settle_dispatched t (settle_incoming t (slam_phones_to t first.state).state).state ≡ d =
    ap (λ (x : Transition). settle_dispatched t x.state) third ∙ to_d in
    let fifth : drop_answers t (settle_dispatched t (settle_incoming t (slam_phones_to t first.state).state).state).state ≡ e =
    ap (λ (x : Transition). drop_answers t x.state) fourth ∙ to_e in
    let sixth : forget_calls_elsewhere t (drop_answers t (settle_dispatched t (settle_incoming t (slam_phones_to t first.state).state).state).state).state ≡ f =
    ap (λ (x : Transition). forget_calls_elsewhere t x.state) fifth ∙ to_f in
    let last : drop_areas t (forget_calls_elsewhere t (drop_answers t (settle_dispatched t (settle_incoming t (slam_phones_to t first.state).state).state).state).state).state ≡ g =
    ap (λ (x : Transition). drop_areas t x.state) sixth ∙ to_g in
    λ i. record {
      state = with_event (last i).state;
      entries = ((((((to_a i).entries ++ (second i).entries) ++ (third i).entries) ++ (fourth i).entries) ++ (fifth i).entries) ++ (sixth i).entries) ++ (last i).entries;
    }
