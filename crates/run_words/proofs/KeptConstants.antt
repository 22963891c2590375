-- What of a run no event changes, but that a spawn adds a program.
use Rattle.std.proofs.Common.{◌≡◌, ◌-◌, Bool, true, false, List, [], ◌∷◌, ◌++◌, map, append_assoc, refl, sym, ◌∙◌, ap, Option, None, Some, cond, slice_get}
use Rattle.std.proofs.lemmas.List.{map-append}
use Rattle.std.proofs.Math.Seq.{map-set_same}
use Rattle.std.proofs.lemmas.Option.{get_or_from_slice_get}
use Rattle.ipc_ids.specs.declared.numbers.TaskNo.{TaskNo}
use Rattle.ipc_ids.specs.declared.op.Body.{Body}
use Rattle.ipc_ids.specs.declared.message.Outcome.{Outcome}
use Rattle.ipc_ids.specs.declared.message.Request.TheVariants as ask
use Rattle.ipc_ids.specs.declared.message.Event.{Event}
use Rattle.ipc_ids.specs.declared.message.Event.TheVariants.{Step, Kill, Hangup, Spawn}
use Rattle.script_lines.specs.declared.plan.TaskPlan.{TaskPlan}
use Rattle.switchboard.specs.State.{is_alive}
use Rattle.kernel_core.specs.Kernel.{serve, kill_event, next_task}
use Rattle.task_system.specs.declared.any.AnyProgram.{AnyProgram}
use Rattle.task_system.specs.declared.any.AnyProgram.TheVariants as any
use Rattle.task_system.specs.Any.{wanted, after}
use Rattle.task_system.specs.Run.{RunState, RunTransition, gone, step_by, program_at, program_of, request_served, killed, spawn_by, turn, state_after}
use Rattle.run_words.specs.AlikeStates.{uncounted, uncounted_program, uncounted_programs, AreAlikeStates}
use Rattle.run_words.specs.Constants.{Constant, Async, constant, Constants, constants, made_from, made_by, made_by_all, with_made}
use Rattle.run_words.proofs.AsyncKept.{async_keeps}

-- ---- an outcome

async_constant : (me me' : TaskNo) (bodies bodies' : List Body) → me ≡ me' → bodies ≡ bodies'
    → Async me bodies ≡ Async me' bodies'
async_constant me me' bodies bodies' h k = ap (λ z. Async z bodies) h ∙ ap (Async me') k

pub program_keeps : (p : AnyProgram) (o : Outcome) → constant (after p o) ≡ constant p
program_keeps (any.Raw p) o = refl
program_keeps (any.Naming p) o = refl
program_keeps (any.Async p) o =
    let h = async_keeps p o in
    async_constant _ _ _ _ h.me h.bodies
program_keeps (any.Block p) o = refl

-- ---- an event

none_more : (xs : List Constant) → xs ≡ xs ++ []
none_more [] = refl
none_more (x ∷ xs) = ap (λ z. x ∷ z) (none_more xs)

-- what is constant, with these programs
abbrev with_programs : RunState → List Constant → Constants
with_programs now ps = record { programs = ps; templates = now.templates; names = now.names }

unchanged : (now : RunState) → constants now ≡ with_made (constants now) []
unchanged now = ap (with_programs now) (none_more (map constant now.programs))

step_keeps : (now : RunState) (task : TaskNo) (o : Option AnyProgram)
    → ((p : AnyProgram) → o ≡ Some p → slice_get now.programs (task.0 - 1) ≡ Some p)
    → constants (step_by now task o).state ≡ constants now
step_keeps now task None h = refl
step_keeps now task (Some p) h =
    let o : Outcome = (serve now.kernel task (wanted p)).outcome in
    ap (with_programs now)
    (map-set_same constant now.programs (task.0 - 1) (after p o) p
    (program_keeps p o ∙ ap constant (sym (get_or_from_slice_get now.programs (task.0 - 1) p p (h p refl)))))

is_there : (b : Bool) (x : Option AnyProgram) (p : AnyProgram) → cond b x None ≡ Some p → x ≡ Some p
is_there true x p e = e
is_there false x p e = absurd (cc)

if_kept : (b : Bool) (c : Constants) (x y : RunTransition) → constants x.state ≡ c → constants y.state ≡ c
    → constants (cond b x y).state ≡ c
if_kept true c x y h k = h
if_kept false c x y h k = k

spawn_adds : (now : RunState) (o : Option TaskPlan)
    → constants (spawn_by now o).state ≡ with_made (constants now) (made_from now o)
spawn_adds now None = unchanged now
spawn_adds now (Some plan) =
    ap (with_programs now) (map-append constant now.programs (program_of (next_task now.kernel).0 plan ∷ []))

pub turn_keeps : (now : RunState) (e : Event)
    → constants (turn now e).state ≡ with_made (constants now) (made_by now e)
turn_keeps now (Step task) =
    step_keeps now task (program_at now task)
    (λ p e. is_there (is_alive now.kernel task) (slice_get now.programs (task.0 - 1)) p e)
    ∙ unchanged now
turn_keeps now (Kill task) =
    if_kept (is_alive now.kernel task) (constants now)
    (killed now task (kill_event now.kernel task)) (gone now task) refl refl
    ∙ unchanged now
turn_keeps now (Hangup task phone) =
    if_kept (is_alive now.kernel task) (constants now)
    (request_served now task (ask.Hangup phone) (serve now.kernel task (ask.Hangup phone))) (gone now task) refl refl
    ∙ unchanged now
turn_keeps now (Spawn place) = spawn_adds now (slice_get now.templates place)

-- ---- all events of a schedule

pub events_keep : (now : RunState) (events : List Event)
    → constants (state_after now events) ≡ with_made (constants now) (made_by_all now events)
events_keep now [] = unchanged now
events_keep now (e ∷ events) =
    let later : List Constant = made_by_all (turn now e).state events in
    events_keep (turn now e).state events
    ∙ ap (λ c. with_made c later) (turn_keeps now e)
    ∙ ap (with_programs now) (append_assoc (map constant now.programs) (made_by now e) later)

-- ---- states that differ in counts alone

constant_uncounted : (p : AnyProgram) → constant (uncounted_program p) ≡ constant p
constant_uncounted (any.Raw p) = refl
constant_uncounted (any.Naming p) = refl
constant_uncounted (any.Async p) = refl
constant_uncounted (any.Block p) = refl

all_uncounted : (ps : List AnyProgram) → map constant (uncounted_programs ps) ≡ map constant ps
all_uncounted [] = refl
all_uncounted (p ∷ ps) =
    ap (λ z. z ∷ map constant (uncounted_programs ps)) (constant_uncounted p)
    ∙ ap (λ z. constant p ∷ z) (all_uncounted ps)

constants_uncounted : (now : RunState) → constants (uncounted now) ≡ constants now
constants_uncounted now = ap (with_programs now) (all_uncounted now.programs)

pub alike_constants : (a b : RunState) → AreAlikeStates a b → constants a ≡ constants b
alike_constants a b h = sym (constants_uncounted a) ∙ ap constants h ∙ constants_uncounted b
