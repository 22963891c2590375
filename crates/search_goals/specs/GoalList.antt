-- Several goals, each of which is looked for behind the one before it.
use Rattle.std.specs.Prelude.{ℕ, ◌≡◌, ◌+◌, ⊤, Bool, true, false, List, [], ◌∷◌, ◌++◌, length, map, nat_lt, Result, Ok, Err, if◌then◌else◌}
use Rattle.std.specs.List.{list_all}
use Rattle.script_lines.specs.declared.fault.Reason.{Reason}
use Rattle.script_lines.specs.declared.fault.Reason.TheVariants.{OutOfPlace, TooMany}
use Rattle.script_lines.specs.declared.plan.TaskPlan.{TaskPlan}
use Rattle.search_goals.specs.declared.goal.Goal.{Goal}
use Rattle.search_goals.specs.declared.goal.GoalFault.{GoalFault}
use Rattle.search_goals.specs.declared.goal.GoalFault.TheVariants as faults
use Rattle.search_goals.specs.declared.goal_list.Goals.{Goals}
use Rattle.search_goals.specs.declared.goal_list.GoalsFault.{GoalsFault}
use Rattle.search_goals.specs.declared.goal_list.GoalsFault.TheVariants.{Bad, NoMemory}
use Rattle.search_goals.specs.GoalText.{Asked, LosesCall, IsRest, IsStuck, HoldAll, HasLine, said, goal_of}

-- the goals that come first, in their order, and the last
pub record Sought : Type 0 where
  pub earlier : List Asked
  pub last : Asked

-- how many they are
abbrev pub count_of : Sought → ℕ
count_of sought = length sought.earlier + 1

abbrev pub most_goals : ℕ
most_goals = 8

-- other goals may come behind this one: one state and the entries of one event tell that it is met
abbrev pub may_precede : Asked → Bool
may_precede LosesCall = false
may_precede IsRest = true
may_precede (IsStuck task) = true
may_precede (HoldAll conditions) = true
may_precede (HasLine head asked) = true

abbrev pub all_precede : List Asked → Bool
all_precede goals = list_all may_precede goals

-- ---- how they are read

-- where a goal is at fault: its number, that of the word, and the reason
abbrev pub Fault : Type 0
Fault = ℕ × (ℕ × Reason)

-- the goal of this number, or its fault
abbrev pub in_goal : {A : Type 0} → ℕ → Result A (ℕ × Reason) → Result A Fault
in_goal n (Ok x) = Ok x
in_goal n (Err fault) = Err (n, fault)

-- what follows where there is no fault
infixl 10 ◌>>>>◌
abbrev pub ◌>>>>◌ : {A B : Type 0} → Result A Fault → (A → Result B Fault) → Result B Fault
(Ok x) >>>> f = f x
(Err e) >>>> f = Err e

-- no goal but this one
abbrev pub alone : Asked → Sought
alone asked = record { earlier = []; last = asked }

-- the goal of a text alone
abbrev pub first_goal : (names : List (List ℕ)) → List TaskPlan → List ℕ → Result Sought Fault
first_goal names tasks text = in_goal 1 (goal_of names tasks text) >>>> λ asked. Ok (alone asked)

-- one goal more, behind all of these
abbrev pub with_last : Sought → Asked → Sought
with_last sought asked = record { earlier = sought.earlier ++ sought.last ∷ []; last = asked }

-- where another goal may come behind these
abbrev pub room_behind : Sought → Result Sought Fault
room_behind sought =
    if may_precede sought.last then (if nat_lt (count_of sought) most_goals then Ok sought
    else Err (count_of sought + 1, (0, TooMany)))
    else Err (count_of sought, (1, OutOfPlace))

-- the goal of this text more
unfoldable pub with_goal : (names : List (List ℕ)) → List TaskPlan → Sought → List ℕ → Result Sought Fault
with_goal names tasks sought text =
    room_behind sought >>>> λ sought.
    (in_goal (count_of sought + 1) (goal_of names tasks text) >>>> λ asked. Ok (with_last sought asked))

-- the goals of these texts more
abbrev pub with_goals : (names : List (List ℕ)) → List TaskPlan → Sought → List (List ℕ) → Result Sought Fault
with_goals names tasks sought [] = Ok sought
with_goals names tasks sought (text ∷ texts) =
    with_goal names tasks sought text >>>> λ more. with_goals names tasks more texts

-- the goals that texts say for tasks of these names, of which the first are those of a script, or the first fault: of at
-- most eight, of which only the last may ask for a call that is lost
unfoldable pub goals_of : (names : List (List ℕ)) → List TaskPlan → (first : List ℕ) (later : List (List ℕ)) →
    Result Sought Fault
goals_of names tasks first later = first_goal names tasks first >>>> λ sought. with_goals names tasks sought later

-- ---- what the code has

abbrev pub said_all : List Goal → List Asked
said_all goals = map said goals

abbrev pub sought_by : Goals → Sought
sought_by goals = record { earlier = said_all goals.earlier.items; last = said goals.last }

-- the fault of the goal of this number
abbrev pub fault_in : ℕ → GoalFault → GoalsFault
fault_in goal (faults.Bad word reason) = Bad goal word reason
fault_in goal faults.NoMemory = NoMemory

-- the answer is what is said, unless memory ran out
abbrev pub AnswersGoals : Result Goals GoalsFault → Result Sought Fault → Type 0
AnswersGoals (Ok goals) told = told ≡ Ok (sought_by goals)
AnswersGoals (Err (Bad goal word reason)) told = told ≡ Err (goal, (word, reason))
AnswersGoals (Err NoMemory) told = ⊤
