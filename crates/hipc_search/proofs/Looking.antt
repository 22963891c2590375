-- What is known of goals that were read.
use Rattle.std.proofs.Common.{◌≡◌, ℕ, ◌+◌, Bool, true, false, cond, List, [], ◌∷◌, ◌++◌, length, Result, Ok, Err, refl, ap}
use Rattle.std.specs.Prelude.{nat_lt, codes}
use Rattle.std.specs.List.{list_all}
use Rattle.ipc_ids.specs.Tables.{most_bytes}
use Rattle.script_lines.specs.declared.fault.Reason.{Reason}
use Rattle.script_lines.specs.declared.fault.Reason.TheVariants.{TooLong, BadByte}
use Rattle.script_lines.specs.declared.plan.TaskPlan.{TaskPlan}
use Rattle.script_lines.specs.Text.{is_allowed}
use Rattle.search_goals.specs.Goals.{text_words}
use Rattle.search_goals.specs.GoalText.{Asked, goal_of_words, goal_of}
use Rattle.search_goals.specs.GoalList.{Fault, Sought, ◌>>>>◌, alone, count_of, first_goal, in_goal, room_behind, with_goal, with_goals, with_last, goals_of}
use Rattle.hipc_search.specs.Command.{goals_text}
use Rattle.hipc_search.proofs.Written.{both_allowed}

allowed_by : (long allowed : Bool) (r : Result Asked (ℕ × Reason)) (asked : Asked)
    → cond long (Err (0, TooLong)) (cond allowed r (Err (0, BadByte))) ≡ Ok asked → allowed ≡ true
allowed_by true allowed r asked e = absurd cc
allowed_by false true r asked e = refl
allowed_by false false r asked e = absurd cc

-- its bytes may stand in a line
is_allowed_text : (names : List (List ℕ)) (tasks : List TaskPlan) (text : List ℕ) (asked : Asked)
    → goal_of names tasks text ≡ Ok asked → list_all is_allowed text ≡ true
unfolding goal_of
is_allowed_text names tasks text asked e =
    allowed_by (nat_lt most_bytes (length text)) (list_all is_allowed text)
    (goal_of_words names tasks (text_words text)) asked e

-- ---- several goals

-- what comes of two parts that are told comes of each
then_so : {A B : Type 0} (r : Result A Fault) (f : A → Result B Fault) (y : B) → (r >>>> f) ≡ Ok y
    → (x : A) × (r ≡ Ok x) × (f x ≡ Ok y)
then_so (Ok x) f y e = (x, refl, e)
then_so (Err fault) f y e = absurd cc

goal_told : {A : Type 0} (n : ℕ) (r : Result A (ℕ × Reason)) (x : A) → in_goal n r ≡ Ok x → r ≡ Ok x
goal_told {A} n (Ok y) x e = let same : y ≡ x = cc in ap (λ (z : A). Ok z) same
goal_told n (Err fault) x e = absurd cc

module _ (names : List (List ℕ)) (tasks : List TaskPlan) where
  first_allowed : (text : List ℕ) (sought : Sought) → first_goal names tasks text ≡ Ok sought → list_all is_allowed text ≡ true
  first_allowed text sought e =
      let told = then_so (in_goal 1 (goal_of names tasks text)) (λ (asked : Asked). Ok (alone asked)) sought e in
      is_allowed_text names tasks text told.0 (goal_told 1 (goal_of names tasks text) told.0 told.1)

  one_allowed : (sought more : Sought) (text : List ℕ) → with_goal names tasks sought text ≡ Ok more → list_all is_allowed text ≡ true
  unfolding with_goal
  one_allowed sought more text e =
      let room =
      then_so (room_behind sought)
      (λ (here : Sought). in_goal (count_of here + 1) (goal_of names tasks text) >>>> λ (asked : Asked). Ok (with_last here asked)) more e in
      let told =
      then_so (in_goal (count_of room.0 + 1) (goal_of names tasks text)) (λ (asked : Asked). Ok (with_last room.0 asked)) more room.2 in
      is_allowed_text names tasks text told.0 (goal_told (count_of room.0 + 1) (goal_of names tasks text) told.0 told.1)

  all_allowed : (sought whole : Sought) (text : List ℕ) (later : List (List ℕ)) → list_all is_allowed text ≡ true
      → with_goals names tasks sought later ≡ Ok whole → list_all is_allowed (goals_text text later) ≡ true
  all_allowed sought whole text [] h e = h
  all_allowed sought whole text (goal ∷ later) h e =
      let one = then_so (with_goal names tasks sought goal) (λ (more : Sought). with_goals names tasks more later) whole e in
      all_allowed one.0 whole (text ++ (codes ", then " ++ goal)) later
      (both_allowed text (codes ", then " ++ goal) h (both_allowed (codes ", then ") goal refl (one_allowed sought one.0 goal one.1)))
      one.2

-- the bytes of all of them may stand in a line
pub are_allowed : (names : List (List ℕ)) (tasks : List TaskPlan) (first : List ℕ) (later : List (List ℕ)) (sought : Sought)
    → goals_of names tasks first later ≡ Ok sought → list_all is_allowed (goals_text first later) ≡ true
unfolding goals_of
are_allowed names tasks first later sought e =
    let one = then_so (first_goal names tasks first) (λ (here : Sought). with_goals names tasks here later) sought e in
    all_allowed names tasks one.0 sought first later (first_allowed names tasks first one.0 one.1) one.2
