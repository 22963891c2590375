-- The laws of services hold of the entries of a run: of the ends that the naming service tells, and of
-- the blocks of each block server.
use Rattle.std.proofs.Common.{◌≡◌, ℕ, zero, suc, ◌+◌, ◌-◌, Bool, true, false, List, [], ◌∷◌, ◌++◌, Option, None, Some, map, refl, sym, ap, ◌∙◌}
use Rattle.std.specs.Prelude.{slice_get, slice_set, if◌then◌else◌}
use Rattle.std.proofs.lemmas.Option.{same_Some}
use Rattle.ipc_ids.specs.declared.numbers.TaskNo.{TaskNo}
use Rattle.ipc_ids.specs.declared.message.Outcome.{Outcome}
use Rattle.ipc_ids.specs.declared.message.Request.TheVariants as ask
use Rattle.ipc_ids.specs.declared.message.Event.{Event}
use Rattle.ipc_ids.specs.declared.message.Event.TheVariants.{Step, Kill, Hangup, Spawn}
use Rattle.ipc_ids.specs.declared.entry.Entry.{Entry}
use Rattle.ipc_ids.specs.Doings.{doings}
use Rattle.script_lines.specs.declared.plan.Kind.{Kind}
use Rattle.script_lines.specs.declared.plan.Kind.TheVariants as kind
use Rattle.script_lines.specs.declared.plan.TaskPlan.{TaskPlan}
use Rattle.script_lines.specs.Plan.{Plan}
use Rattle.script_lines.specs.Sound as script
use Rattle.switchboard.specs.State.{is_alive}
use Rattle.kernel_core.specs.Kernel.{serve, kill_event, next_task}
use Rattle.task_ends.specs.EndLaw.{WaitersGetTheSameEnd}
use Rattle.naming_service.proofs.StepsFit as naming
use Rattle.block_server.specs.BlockLaw.{ReadsGiveTheLastWrite}
use Rattle.block_server.proofs.StepsFit as block
use Rattle.task_system.specs.declared.any.AnyProgram.{AnyProgram}
use Rattle.task_system.specs.declared.any.AnyProgram.TheVariants as any
use Rattle.task_system.specs.Any.{wanted, after, serves_names, keeps_blocks, is_block, IsBlockServer}
use Rattle.task_system.specs.Run.{RunState, start, program_of, program_by, programs_from, step_by, request_served, killed, gone, spawn_by, turn, state_after, run}
use Rattle.route_laws.specs.Leads.{Beginning}
use Rattle.run_laws.specs.RunHistory.{beginning, RunFits}

-- a test of programs that no outcome changes
module _ (test : AnyProgram → Bool) (stays : (p : AnyProgram) (o : Outcome) → test (after p o) ≡ test p) where
  set_same : (ps : List AnyProgram) (i : ℕ) (p x : AnyProgram) → slice_get ps i ≡ Some p → test x ≡ test p → map test (slice_set ps i x) ≡ map test ps
  set_same [] i p x at same = refl
  set_same (q ∷ ps) zero p x at same = ap (λ (b : Bool). b ∷ map test ps) (same ∙ ap test (same_Some p q (sym at)))
  set_same (q ∷ ps) (suc i) p x at same = ap (λ (bs : List Bool). test q ∷ bs) (set_same ps i p x at same)

  stepped : (now : RunState) (t : TaskNo) (o : Option AnyProgram) → ((p : AnyProgram) → o ≡ Some p → slice_get now.programs (t.0 - 1) ≡ Some p) → map test (step_by now t o).state.programs ≡ map test now.programs
  stepped now t None at = refl
  stepped now t (Some p) at = let served = serve now.kernel t (wanted p) in set_same now.programs (t.0 - 1) p (after p served.outcome) (at p refl) (stays p served.outcome)

  by_life : (now : RunState) (t : TaskNo) (b : Bool) (p : AnyProgram) → (if b then slice_get now.programs (t.0 - 1) else None) ≡ Some p → slice_get now.programs (t.0 - 1) ≡ Some p
  by_life now t true p at = at
  by_life now t false p at = absurd (cc at)

  killed_same : (now : RunState) (t : TaskNo) (b : Bool) → map test (if b then killed now t (kill_event now.kernel t) else gone now t).state.programs ≡ map test now.programs
  killed_same now t true = refl
  killed_same now t false = refl

  hung_same : (now : RunState) (t : TaskNo) (phone : ℕ) (b : Bool) → map test (if b then request_served now t (ask.Hangup phone) (serve now.kernel t (ask.Hangup phone)) else gone now t).state.programs ≡ map test now.programs
  hung_same now t phone true = refl
  hung_same now t phone false = refl

  -- each program that was there is one of the same kind in its place
  abbrev Stay : List AnyProgram → List AnyProgram → Type 0
  Stay ps qs = (i : ℕ) (b : Bool) → slice_get (map test ps) i ≡ Some b → slice_get (map test qs) i ≡ Some b

  same_stay : (ps qs : List AnyProgram) → map test qs ≡ map test ps → Stay ps qs
  same_stay ps qs same i b at = ap (λ (bs : List Bool). slice_get bs i) same ∙ at

  more_stay : (ps : List AnyProgram) (x : AnyProgram) → Stay ps (ps ++ x ∷ [])
  more_stay [] x zero b at = absurd (cc at)
  more_stay [] x (suc i) b at = absurd (cc at)
  more_stay (q ∷ ps) x zero b at = at
  more_stay (q ∷ ps) x (suc i) b at = more_stay ps x i b at

  spawned_stay : (now : RunState) (o : Option TaskPlan) → Stay now.programs (spawn_by now o).state.programs
  spawned_stay now None = λ i b at. at
  spawned_stay now (Some plan) = more_stay now.programs (program_of (next_task now.kernel).0 plan)

  turn_stays : (now : RunState) (e : Event) → Stay now.programs (turn now e).state.programs
  turn_stays now (Step t) = same_stay now.programs (turn now (Step t)).state.programs (stepped now t (if is_alive now.kernel t then slice_get now.programs (t.0 - 1) else None) (by_life now t (is_alive now.kernel t)))
  turn_stays now (Kill t) = same_stay now.programs (turn now (Kill t)).state.programs (killed_same now t (is_alive now.kernel t))
  turn_stays now (Hangup t phone) = same_stay now.programs (turn now (Hangup t phone)).state.programs (hung_same now t phone (is_alive now.kernel t))
  turn_stays now (Spawn place) = spawned_stay now (slice_get now.templates place)

  events_stay : (now : RunState) (events : List Event) → Stay now.programs (state_after now events).programs
  events_stay now [] i b at = at
  events_stay now (e ∷ events) i b at = events_stay (turn now e).state events i b (turn_stays now e i b at)

  passes : (ps : List AnyProgram) (i : ℕ) → slice_get (map test ps) i ≡ Some true → (p : AnyProgram) × (slice_get ps i ≡ Some p) × (test p ≡ true)
  passes [] i h = absurd (none i h) where
    none : (i : ℕ) → slice_get {X = Bool} [] i ≡ Some true → ⊥
    none zero h = absurd (cc h)
    none (suc i) h = absurd (cc h)
  passes (q ∷ ps) zero h = (q, refl, same_Some (test q) true h)
  passes (q ∷ ps) (suc i) h = passes ps i h

  -- a program that passes the test at the start has one that passes it in its place at the end
  pub still_there : (now : RunState) (events : List Event) (i : ℕ) → slice_get (map test now.programs) i ≡ Some true
      → (p : AnyProgram) × (slice_get (state_after now events).programs i ≡ Some p) × (test p ≡ true)
  still_there now events i at = passes (state_after now events).programs i (events_stay now events i true at)

names_stay : (p : AnyProgram) (o : Outcome) → serves_names (after p o) ≡ serves_names p
names_stay (any.Raw p) o = refl
names_stay (any.Naming p) o = refl
names_stay (any.Async p) o = refl
names_stay (any.Block p) o = refl

blocks_stay : (p : AnyProgram) (o : Outcome) → keeps_blocks (after p o) ≡ keeps_blocks p
blocks_stay (any.Raw p) o = refl
blocks_stay (any.Naming p) o = refl
blocks_stay (any.Async p) o = refl
blocks_stay (any.Block p) o = refl

told_of_names : (b : Beginning) (h : List Entry) (now : RunState) (i : ℕ) (p : AnyProgram) → RunFits b h now → slice_get now.programs i ≡ Some p → serves_names p ≡ true → WaitersGetTheSameEnd (suc i) h
told_of_names b h now i (any.Naming s) told at is = naming.fitting_is_lawful (doings (suc i) h) s (told.services i (any.Naming s) at)
told_of_names b h now i (any.Raw s) told at is = absurd (cc is)
told_of_names b h now i (any.Async s) told at is = absurd (cc is)
told_of_names b h now i (any.Block s) told at is = absurd (cc is)

told_of_blocks : (b : Beginning) (h : List Entry) (now : RunState) (i : ℕ) (p : AnyProgram) → RunFits b h now → slice_get now.programs i ≡ Some p → keeps_blocks p ≡ true → ReadsGiveTheLastWrite (suc i) h
told_of_blocks b h now i (any.Block s) told at is = block.fitting_is_lawful (doings (suc i) h) s (told.services i (any.Block s) at)
told_of_blocks b h now i (any.Raw s) told at is = absurd (cc is)
told_of_blocks b h now i (any.Async s) told at is = absurd (cc is)
told_of_blocks b h now i (any.Naming s) told at is = absurd (cc is)

service_first : (tasks : List TaskPlan) → script.has_service tasks ≡ true → slice_get (map serves_names (programs_from 1 tasks)) 0 ≡ Some true
service_first [] is = absurd (cc is)
service_first (task ∷ tasks) is = by_kind task.kind is where
  by_kind : (k : Kind) → script.is_naming k ≡ true → Some (serves_names (program_by (record { 0 = 1 }) task k)) ≡ Some true
  by_kind kind.Naming is = refl
  by_kind kind.Raw is = absurd (cc is)
  by_kind kind.Async is = absurd (cc is)
  by_kind kind.Block is = absurd (cc is)

-- in each run of a script with the naming service
pub ends_are_told : (plan : Plan) (events : List Event) → RunFits (beginning plan) (run plan events) (state_after (start plan) events) → script.has_service plan.tasks ≡ true → WaitersGetTheSameEnd 1 (run plan events)
ends_are_told plan events told is =
    let there = still_there serves_names names_stay (start plan) events 0 (service_first plan.tasks is) in
    told_of_names (beginning plan) (run plan events) (state_after (start plan) events) 0 there.0 told there.1 there.2

block_there : (k : Kind) (t : ℕ) (task : TaskPlan) → is_block k ≡ keeps_blocks (program_by (record { 0 = t }) task k)
block_there kind.Naming t task = refl
block_there kind.Raw t task = refl
block_there kind.Async t task = refl
block_there kind.Block t task = refl

blocks_there : (t i : ℕ) (tasks : List TaskPlan) → slice_get (map (λ (task : TaskPlan). is_block task.kind) tasks) i ≡ slice_get (map keeps_blocks (programs_from t tasks)) i
blocks_there t i [] = refl
blocks_there t zero (task ∷ tasks) = ap (λ (b : Bool). Some b) (block_there task.kind t task)
blocks_there t (suc i) (task ∷ tasks) = blocks_there (t + 1) i tasks

-- in each run, of each block server in it
pub blocks_are_kept : (plan : Plan) (events : List Event) (i : ℕ) → RunFits (beginning plan) (run plan events) (state_after (start plan) events) → IsBlockServer i plan.tasks → ReadsGiveTheLastWrite (suc i) (run plan events)
blocks_are_kept plan events i told is =
    let there = still_there keeps_blocks blocks_stay (start plan) events i (sym (blocks_there 1 i plan.tasks) ∙ is) in
    told_of_blocks (beginning plan) (run plan events) (state_after (start plan) events) i there.0 told there.1 there.2
