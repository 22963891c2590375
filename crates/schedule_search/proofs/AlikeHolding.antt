-- A condition holds in both or in neither of two states that differ in counts, and in stamps of one order, alone.
use Rattle.std.proofs.Common.{ℕ, ◌≡◌, ◌-◌, Bool, true, false, ◌&&◌, List, [], ◌∷◌, map, Option, None, Some, refl, sym, ◌∙◌, ap, slice_get}
use Rattle.std.specs.Prelude.{◌||◌, not, nat_lt, if◌then◌else◌}
use Rattle.std.specs.Option.{option_map}
use Rattle.std.proofs.lemmas.Option.{slice_get-map}
use Rattle.ipc_ids.specs.declared.numbers.FibrilNo.{FibrilNo}
use Rattle.switchboard.specs.State.{KernelState, Tasks, is_alive}
use Rattle.raw_program.specs.Raw.{RawState}
use Rattle.task_system.specs.declared.any.AnyProgram.{AnyProgram}
use Rattle.task_system.specs.declared.any.AnyProgram.TheVariants as any
use Rattle.task_system.specs.Run.{RunState}
use Rattle.run_words.specs.AlikeStates.{uncounted_raw, uncounted_program, uncounted_programs}
use Rattle.run_words.specs.Alike.{AreAlikeRuns}
use Rattle.search_goals.specs.declared.conditions.Condition.{Condition}
use Rattle.search_goals.specs.declared.conditions.Condition.TheVariants as conditions
use Rattle.schedule_search.specs.Holding.{task_of, named_fibril, holds_of_raw, holds_of, is_killed, program_with, holds_if, holds, all_hold}

-- ---- one program

raw_again : (c : Condition) (f : Option FibrilNo) (p : RawState) → holds_of_raw c f (uncounted_raw p) ≡ holds_of_raw c f p
raw_again c None p = refl
raw_again c (Some f) p = refl

program_again : (c : Condition) (p : AnyProgram) → holds_of c (uncounted_program p) ≡ holds_of c p
program_again c (any.Raw p) = raw_again c (named_fibril c) p
program_again c (any.Naming p) = refl
program_again c (any.Async p) = refl
program_again c (any.Block p) = refl

-- ---- a kernel with the same tasks

-- whether a task is alive is told by the tasks alone
killed_alike : (c : Condition) (j k : KernelState) → j.tasks ≡ k.tasks → is_killed c j ≡ is_killed c k
killed_alike (conditions.At subject n) j k e = refl
killed_alike (conditions.Holds subject register n) j k e = refl
killed_alike (conditions.AtEnd subject) j k e = refl
killed_alike (conditions.Killed task) j k e =
    ap (λ (z : Tasks). not (is_alive (record { tasks = z; calls = j.calls; memory = j.memory; events = j.events }) task)) e

held_alike : (c : Condition) (j k : KernelState) (o : Option AnyProgram) → j.tasks ≡ k.tasks → holds_if c j o ≡ holds_if c k o
held_alike c j k None e = refl
held_alike c j k (Some p) e = ap (λ (b : Bool). b || holds_of c p) (killed_alike c j k e)

-- ---- programs as if they had no counts

task_again : (c : Condition) (k : KernelState) (o : Option AnyProgram)
    → holds_if c k (option_map uncounted_program o) ≡ holds_if c k o
task_again c k None = refl
task_again c k (Some p) = ap (λ (b : Bool). is_killed c k || b) (program_again c p)

at_again : (b : Bool) (ps : List AnyProgram) (i : ℕ)
    → (if b then slice_get (map uncounted_program ps) i else None)
    ≡ option_map uncounted_program (if b then slice_get ps i else None)
at_again true ps i = slice_get-map uncounted_program ps i
at_again false ps i = refl

-- what a condition says where these are the programs
abbrev holds_among : Condition → KernelState → List AnyProgram → Bool
holds_among c k ps = holds_if c k (if nat_lt 0 (task_of c).0 then slice_get ps ((task_of c).0 - 1) else None)

again : (c : Condition) (now : RunState) → holds_among c now.kernel (uncounted_programs now.programs) ≡ holds c now
again c now =
    ap (holds_if c now.kernel) (at_again (nat_lt 0 (task_of c).0) now.programs ((task_of c).0 - 1))
    ∙ task_again c now.kernel (program_with now (task_of c))

-- ---- two states

pub one_alike : (a b : RunState) → AreAlikeRuns a b → (c : Condition) → holds c a ≡ holds c b
one_alike a b h c =
    sym (again c a)
    ∙ ap (holds_among c a.kernel) h.programs
    ∙ held_alike c a.kernel b.kernel
    (if nat_lt 0 (task_of c).0 then slice_get (uncounted_programs b.programs) ((task_of c).0 - 1) else None) h.kernel.tasks
    ∙ again c b

pub all_alike : (a b : RunState) → AreAlikeRuns a b → (cs : List Condition) → all_hold cs a ≡ all_hold cs b
all_alike a b h [] = refl
all_alike a b h (c ∷ cs) =
    ap (λ (z : Bool). z && all_hold cs a) (one_alike a b h c)
    ∙ ap (λ (z : Bool). holds c b && z) (all_alike a b h cs)
