-- A state is at rest where no step of a task changes anything but counts, and stamps whose order it keeps.
use Rattle.std.proofs.Common.{ℕ, zero, suc, ◌≡◌, ◌⊎◌, inl, inr, ◌≤◌, ◌<◌, ◌+◌, Bool, true, ◌&&◌, List, [], ◌++◌, length, refl, ◌∙◌, ap, subst, arith}
use Rattle.std.specs.List.{list_all, range_with_len}
use Rattle.std.proofs.lemmas.Bool.{cases_lt, and_parts}
use Rattle.std.proofs.lemmas.List.{append-nil}
use Rattle.std.proofs.lemmas.Slice.Eq.{bytes_eq-Decides}
use Rattle.ipc_ids.specs.declared.message.Event.TheVariants.{Step}
use Rattle.script_lines.specs.Plan.{Plan}
use Rattle.script_lines.specs.Sound.{IsSound, IsTask}
use Rattle.task_system.specs.Run.{RunState, turn}
use Rattle.run_words.specs.Alike.{AreAlikeRuns}
use Rattle.run_words.specs.Reached.{IsReached}
use Rattle.run_words.specs.RunWords.{run_words}
use Rattle.run_words.proofs.Reaching.{goes_on}
use Rattle.run_words.proofs.RunSplits.{alike_words}
use Rattle.run_words.proofs.GoingOn.{told_apart}
use Rattle.schedule_search.specs.Meeting.{changes_nothing, is_at_rest}

-- what holds of all numbers of a range holds of each, and the other way round
each_of : (f : ℕ → Bool) (a n t : ℕ) → list_all f (range_with_len a n) ≡ true → a ≤ t → t < a + n → f t ≡ true
each_of f a zero t e l m = absurd (omega arith)
each_of f a (suc n) t e l m =
    let parts : (f a ≡ true) × (list_all f (range_with_len (a + 1) n) ≡ true) = and_parts (f a) (list_all f (range_with_len (a + 1) n)) e in
    by_place parts.0 (λ (h : a < t). each_of f (a + 1) n t parts.1 (omega arith) (omega arith)) (cases_lt a t)
  where
    by_place : f a ≡ true → (a < t → f t ≡ true) → (a < t) ⊎ (t ≤ a) → f t ≡ true
    by_place here later (inl h) = later h
    by_place here later (inr h) = let same : a ≡ t = omega arith in subst (λ (z : ℕ). f z ≡ true) same here

all_of : (f : ℕ → Bool) (a n : ℕ) → ((t : ℕ) → a ≤ t → t < a + n → f t ≡ true) → list_all f (range_with_len a n) ≡ true
all_of f a zero h = refl
all_of f a (suc n) h =
    ap (λ (z : Bool). z && list_all f (range_with_len (a + 1) n)) (h a (omega arith) (omega arith))
    ∙ all_of f (a + 1) n (λ (t : ℕ) (l : a + 1 ≤ t) (m : t < a + 1 + n). h t (omega arith) (omega arith))

pub words_stay : (now : RunState) (t : ℕ) → is_at_rest now ≡ true → IsTask (length now.kernel.tasks.alive) t
    → run_words (turn now (Step (record { 0 = t }))).state ≡ run_words now
words_stay now t e is =
    let n : ℕ = length now.kernel.tasks.alive in
    let low : 1 ≤ t = is.0 in
    let high : t ≤ n = is.1 in
    let next : RunState = (turn now (Step (record { 0 = t }))).state in
    (bytes_eq-Decides (run_words next) (run_words now)).0 (each_of (changes_nothing now) 1 n t e low (omega arith))

pub rests : (plan : Plan) (spawned : List ℕ) (now : RunState) (t : ℕ) → IsSound plan → IsReached plan spawned now
    → is_at_rest now ≡ true → IsTask (length now.kernel.tasks.alive) t
    → AreAlikeRuns (turn now (Step (record { 0 = t }))).state now
rests plan spawned now t sound h e is =
    let next : RunState = (turn now (Step (record { 0 = t }))).state in
    let same : run_words next ≡ run_words now = words_stay now t e is in
    let there : IsReached plan spawned next = subst (λ (z : List ℕ). IsReached plan z next) (append-nil spawned) (goes_on plan spawned now (Step (record { 0 = t })) h is) in
    (told_apart plan spawned next now [] [] sound there h (ap (λ (z : List ℕ). z ++ []) same)).0

pub at_rest : (now : RunState)
    → ((t : ℕ) → IsTask (length now.kernel.tasks.alive) t → AreAlikeRuns (turn now (Step (record { 0 = t }))).state now)
    → is_at_rest now ≡ true
at_rest now h =
    let n : ℕ = length now.kernel.tasks.alive in
    all_of (changes_nothing now) 1 n
    (λ (t : ℕ) (l : 1 ≤ t) (m : t < 1 + n).
    (let next : RunState = (turn now (Step (record { 0 = t }))).state in
    (bytes_eq-Decides (run_words next) (run_words now)).1 (alike_words next now (h t (l, omega arith)))))
