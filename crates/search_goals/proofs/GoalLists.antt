-- The goals of several texts, as a loop reads them.
use Rattle.std.proofs.Common.{◌≡◌, ◌≤◌, ◌+◌, ℕ, Bool, true, false, cond, nat_lt, List, [], ◌∷◌, ◌++◌, length, Result, Ok, Err, refl, sym, ap, ◌∙◌, arith}
use Rattle.std.proofs.lemmas.Bool.{lt-ltb}
use Rattle.std.proofs.lemmas.List.{length-map, map_push}
use Rattle.std.proofs.lemmas.List.Folds.{list_all-append}
use Rattle.script_lines.specs.declared.fault.Reason.{Reason}
use Rattle.script_lines.specs.declared.fault.Reason.TheVariants.{OutOfPlace, TooMany}
use Rattle.script_lines.specs.declared.plan.TaskPlan.{TaskPlan}
use Rattle.search_goals.specs.declared.goal.Goal.{Goal}
use Rattle.search_goals.specs.declared.goal.GoalFault.{GoalFault}
use Rattle.search_goals.specs.declared.goal.GoalFault.TheVariants as words
use Rattle.search_goals.specs.declared.goal_list.Goals.{Goals}
use Rattle.search_goals.specs.GoalText.{Asked, said, goal_of, Answers}
use Rattle.search_goals.specs.GoalList.{Sought, Fault, ◌>>>>◌, alone, count_of, most_goals, in_goal, fault_in, may_precede, all_precede, room_behind, with_last, said_all, sought_by}
use Rattle.search_goals.specs.GoalList.{first_goal, with_goal, with_goals, goals_of, AnswersGoals}
use Rattle.search_goals.specs.declared.goal_list.GoalsFault.{GoalsFault}
use Rattle.search_goals.specs.declared.goal_list.GoalsFault.TheVariants.{Bad, NoMemory}

module _ (names : List (List ℕ)) (tasks : List TaskPlan) where
  -- the first goal is at fault
  pub fault_alone : (text : List ℕ) (fault : GoalFault) → Answers said (Err fault) (goal_of names tasks text)
      → AnswersGoals (Err (fault_in 1 fault)) (first_goal names tasks text)
  fault_alone text (words.Bad word reason) told =
      ap (λ (r : Result Asked (ℕ × Reason)). in_goal 1 r >>>> λ asked. Ok (alone asked)) told
  fault_alone text words.NoMemory told = tt

  pub goals_begin : (sought : Sought) (first : List ℕ) (later : List (List ℕ)) → first_goal names tasks first ≡ Ok sought
      → with_goals names tasks sought later ≡ goals_of names tasks first later
  unfolding goals_of
  goals_begin sought first later e =
      ap (λ (r : Result Sought Fault). r >>>> λ sought. with_goals names tasks sought later) (sym e)

  pub goals_on : (sought more : Sought) (text : List ℕ) (left all : List (List ℕ)) (whole : Result Sought Fault)
      → all ≡ text ∷ left → with_goals names tasks sought all ≡ whole → with_goal names tasks sought text ≡ Ok more
      → with_goals names tasks more left ≡ whole
  goals_on sought more text left all whole is told e =
      ap (λ (r : Result Sought Fault). r >>>> λ more. with_goals names tasks more left) (sym e)
      ∙ ap (with_goals names tasks sought) (sym is) ∙ told

  pub goals_fault : (sought : Sought) (text : List ℕ) (left all : List (List ℕ)) (whole : Result Sought Fault)
      (fault : GoalsFault) → all ≡ text ∷ left → with_goals names tasks sought all ≡ whole
      → AnswersGoals (Err fault) (with_goal names tasks sought text) → AnswersGoals (Err fault) whole
  goals_fault sought text left all whole (Bad goal word reason) is told e =
      sym told ∙ ap (with_goals names tasks sought) is
      ∙ ap (λ (r : Result Sought Fault). r >>>> λ more. with_goals names tasks more left) e
  goals_fault sought text left all whole NoMemory is told e = tt

  pub goals_end : (sought : Sought) (all : List (List ℕ)) (whole : Result Sought Fault) → all ≡ []
      → with_goals names tasks sought all ≡ whole → whole ≡ Ok sought
  goals_end sought all whole none told = sym told ∙ ap (with_goals names tasks sought) none

-- ---- one goal more

pub last_put : (goals more : Goals) (last : Goal) → more.earlier.items ≡ goals.earlier.items ++ goals.last ∷ []
    → more.last ≡ last → sought_by more ≡ with_last (sought_by goals) (said last)
last_put goals more last put is =
    ap (λ (z : Goal). record { earlier = said_all more.earlier.items; last = said z }) is
    ∙ ap (λ (z : List Asked). record { earlier = z; last = said last })
    (ap said_all put ∙ map_push said goals.earlier.items goals.last)

module _ (names : List (List ℕ)) (tasks : List TaskPlan) (goals : Goals) (text : List ℕ)
    (may : may_precede (said goals.last) ≡ true) (few : length goals.earlier.items + 2 ≤ 8) where
  abbrev sought : Sought
  sought = sought_by goals

  counted : count_of sought ≡ length goals.earlier.items + 1
  counted = ap (λ (n : ℕ). n + 1) (length-map goals.earlier.items said)

  room : room_behind sought ≡ Ok sought
  room =
      let count = counted in
      rw may (rw (lt-ltb (count_of sought) 8 (omega (arith, count, few))) refl)

  read : with_goal names tasks sought text
      ≡ (in_goal (count_of sought + 1) (goal_of names tasks text) >>>> λ asked. Ok (with_last sought asked))
  unfolding with_goal
  read =
      ap (λ (r : Result Sought Fault). r >>>> λ s. (in_goal (count_of s + 1) (goal_of names tasks text) >>>> λ asked. Ok (with_last s asked)))
      room

  pub goal_read : (added : Goal) → goal_of names tasks text ≡ Ok (said added)
      → with_goal names tasks sought text ≡ Ok (with_last sought (said added))
  goal_read added told =
      read
      ∙ ap (λ (r : Result Asked (ℕ × Reason)). in_goal (count_of sought + 1) r >>>> λ asked. Ok (with_last sought asked)) told

  pub goal_fault : (n : ℕ) (fault : GoalFault) → n ≡ length goals.earlier.items + 2
      → Answers said (Err fault) (goal_of names tasks text)
      → AnswersGoals (Err (fault_in n fault)) (with_goal names tasks sought text)
  goal_fault n (words.Bad word reason) is told =
      let count = counted in
      read
      ∙ ap (λ (r : Result Asked (ℕ × Reason)). in_goal (count_of sought + 1) r >>>> λ asked. Ok (with_last sought asked)) told
      ∙ ap (λ (m : ℕ). Err (m, (word, reason))) (omega (arith, count, is))
  goal_fault n words.NoMemory is told = tt

-- ---- each of the goals that come first may precede others

-- another goal is read where the last may precede it
abbrev room_by : (may room : Bool) → Sought → Result Sought Fault
room_by may room sought =
    cond may (cond room (Ok sought) (Err (count_of sought + 1, (0, TooMany)))) (Err (count_of sought, (1, OutOfPlace)))

room_found : (may room : Bool) (sought more : Sought) → may_precede sought.last ≡ may → room_by may room sought ≡ Ok more
    → (more ≡ sought) × (may_precede sought.last ≡ true)
room_found true true sought more is e = let same : sought ≡ more = cc in (sym same, is)
room_found true false sought more is e = absurd (cc)
room_found false room sought more is e = absurd (cc)

one_precedes : (sought mid more : Sought) (r : Result Asked Fault) → mid ≡ sought → may_precede sought.last ≡ true
    → all_precede sought.earlier ≡ true → (r >>>> λ asked. Ok (with_last mid asked)) ≡ Ok more
    → all_precede more.earlier ≡ true
one_precedes sought mid more (Err fault) same may before e = absurd (cc)
one_precedes sought mid more (Ok asked) same may before e =
    let is : with_last mid asked ≡ more = cc in
    ap (λ (z : Sought). all_precede z.earlier) (sym is)
    ∙ ap (λ (z : Sought). all_precede (z.earlier ++ z.last ∷ [])) same
    ∙ list_all-append may_precede sought.earlier (sought.last ∷ []) ∙ rw before (rw may refl)

module _ (names : List (List ℕ)) (tasks : List TaskPlan) where
  more_precede : (sought more : Sought) (text : List ℕ) (r : Result Sought Fault) → room_behind sought ≡ r
      → all_precede sought.earlier ≡ true
      → (r >>>> λ s. (in_goal (count_of s + 1) (goal_of names tasks text) >>>> λ asked. Ok (with_last s asked))) ≡ Ok more
      → all_precede more.earlier ≡ true
  more_precede sought more text (Err fault) room before e = absurd (cc)
  more_precede sought more text (Ok mid) room before e =
      let found = room_found (may_precede sought.last) (nat_lt (count_of sought) most_goals) sought mid refl room in
      one_precedes sought mid more (in_goal (count_of mid + 1) (goal_of names tasks text)) found.0 found.1 before e

  behind_one : (sought last : Sought) (text : List ℕ) (later : List (List ℕ)) (r : Result Sought Fault)
      → ((more : Sought) → with_goals names tasks more later ≡ Ok last → all_precede more.earlier ≡ true
      → all_precede last.earlier ≡ true)
      → with_goal names tasks sought text ≡ r → (r >>>> λ more. with_goals names tasks more later) ≡ Ok last
      → all_precede sought.earlier ≡ true → all_precede last.earlier ≡ true
  unfolding with_goal
  behind_one sought last text later (Err fault) go is e before = absurd (cc)
  behind_one sought last text later (Ok more) go is e before =
      go more e (more_precede sought more text (room_behind sought) refl before is)

  behind_all : (sought last : Sought) (later : List (List ℕ)) → with_goals names tasks sought later ≡ Ok last
      → all_precede sought.earlier ≡ true → all_precede last.earlier ≡ true
  behind_all sought last [] e before =
      let is : sought ≡ last = cc in ap (λ (z : Sought). all_precede z.earlier) (sym is) ∙ before
  behind_all sought last (text ∷ later) e before =
      behind_one sought last text later (with_goal names tasks sought text)
      (λ more f b. behind_all more last later f b) refl e before

  first_alone : (last : Sought) (later : List (List ℕ)) (r : Result Asked Fault)
      → ((r >>>> λ asked. Ok (alone asked)) >>>> λ sought. with_goals names tasks sought later) ≡ Ok last
      → all_precede last.earlier ≡ true
  first_alone last later (Err fault) e = absurd (cc)
  first_alone last later (Ok asked) e = behind_all (alone asked) last later e refl

  pub goals_precede : (last : Sought) (first : List ℕ) (later : List (List ℕ)) → goals_of names tasks first later ≡ Ok last
      → all_precede last.earlier ≡ true
  unfolding goals_of
  goals_precede last first later e = first_alone last later (in_goal 1 (goal_of names tasks first)) e
