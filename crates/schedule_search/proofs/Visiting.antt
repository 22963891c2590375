-- What the code learns of a state, in the words of the definitions.
use Rattle.std.proofs.Common.{ℕ, ◌≡◌, ◌<◌, Bool, true, false, nat_eq, List, [], ◌∷◌, ◌++◌, length, refl, sym, ◌∙◌, ap, subst, arith}
use Rattle.std.specs.Global.{Vec}
use Rattle.std.specs.Prelude.{if◌then◌else◌, Option, Some, Result, Ok, Err, IfOk}
use Rattle.std.specs.Cmp.Lexicographic.{pointwise}
use Rattle.std.proofs.lemmas.Bool.{both_ways}
use Rattle.std.proofs.lemmas.Option.{same_Some}
use Rattle.ipc_ids.specs.declared.numbers.TaskNo.{TaskNo}
use Rattle.ipc_ids.specs.declared.entry.Entry.{Entry}
use Rattle.ipc_ids.specs.declared.message.Event.{Event}
use Rattle.ipc_ids.specs.declared.message.Event.TheVariants.{Step}
use Rattle.task_system.specs.Run.{RunState, turn}
use Rattle.run_words.specs.Reached.{spawns_of}
use Rattle.run_words.specs.RunWords.{run_words}
use Rattle.search_goals.specs.GoalText.{Asked}
use Rattle.search_goals.specs.GoalList.{may_precede, all_precede}
use Rattle.schedule_search.specs.Search.{Search, AreOf, kills_in, may_try, state_behind}
use Rattle.schedule_search.specs.Meeting.{changes_nothing, IsMet, Finds}
use Rattle.schedule_search.specs.Left.{is_met, left_behind, IsOver}
use Rattle.schedule_search.specs.Code.{counted, words_behind, goals_left, code_behind}
use Rattle.schedule_search.proofs.Turns.{met_told, told_is_met, nothing_left, all_met}

-- the words behind a step of a task are compared with those of the state
pub step_compared : (now old new : RunState) (task : TaskNo) (after words : List ℕ) (same : Bool)
    → old ≡ now → new ≡ (turn old (Step task)).state → after ≡ run_words new → words ≡ run_words now
    → same ≡ pointwise nat_eq after words → same ≡ changes_nothing now task.0
step_compared now old new task after words same from to after_is words_is is =
    is
    ∙ ap (λ (z : List ℕ). pointwise nat_eq z words) (after_is ∙ ap run_words to ∙ ap (λ (z : RunState). run_words (turn z (Step task)).state) from)
    ∙ ap (pointwise nat_eq (run_words (turn now (Step task)).state)) words_is

-- what holds of a value that there is, under a wider word
pub if_ok_on : {A E : Type 0} (P Q : A → Type 0) (r : Result A E) → ((x : A) → P x → Q x) → IfOk r P → IfOk r Q
if_ok_on P Q (Ok x) f h = f x h
if_ok_on P Q (Err e) f h = tt

-- what a code tells of a state
abbrev pub told_of : Search → List Event → RunState → List ℕ
told_of s es now = length (spawns_of es) ∷ (spawns_of es ++ run_words now)

-- what a test tells of a goal behind which others may come
module _ (goal : Asked) (now : RunState) (told : List Entry) (test : Bool) (may : may_precede goal ≡ true) (is : test ≡ is_met goal now told) where
  pub last_met : Some test ≡ Some true → IsMet goal now told
  last_met says = told_is_met goal now told may (sym is ∙ same_Some test true says)

  pub last_unmet : Some test ≡ Some false → IsMet goal now told → ⊥
  last_unmet says met = both_ways (is_met goal now told) (sym is ∙ same_Some test false says) (met_told goal now told may met)

none_of_all : (goals : List Asked) → length goals ≡ 0 → goals ≡ []
none_of_all [] e = refl
none_of_all (goal ∷ goals) e = absurd (omega (arith, e))

module _ (s : Search) (es : List Event) where
  -- they may be tried, and nothing is left: the state and the entries decide
  module _ (now : RunState) (told : List Entry) (precede : all_precede s.earlier ≡ true) (state : now ≡ state_behind s es)
      (entries : told ≡ (left_behind s es).told) where
    over_here : goals_left s es ≡ 0 → IsMet s.asked now told → IsOver s.asked (left_behind s es) (state_behind s es)
    over_here none met = (
      none_of_all (left_behind s es).goals none,
      subst (λ (z : RunState). IsMet s.asked z (left_behind s es).told) state
          (subst (λ (z : List Entry). IsMet s.asked now z) entries met),
    )

    finds_here : AreOf s.moves es → may_try s es ≡ true → goals_left s es ≡ 0 → IsMet s.asked now told → Finds s es
    finds_here of_moves tried none met =
        record {
          made = record { of_moves = of_moves; tried = tried };
          met = all_met s es precede (over_here none met);
        }

    none_here : (IsMet s.asked now told → ⊥) → Finds s es → ⊥
    none_here none finds =
        none
        (subst (λ (z : List Entry). IsMet s.asked now z) (sym entries)
        (subst (λ (z : RunState). IsMet s.asked z (left_behind s es).told) (sym state) (nothing_left s es precede finds.met).1))

    -- the same of what was told
    module _ {E : Type 0} (said : Result (Option Bool) E) where
      pub all_found : AreOf s.moves es → may_try s es ≡ true → goals_left s es ≡ 0
          → IfOk said (λ o. o ≡ Some true → IsMet s.asked now told) → IfOk said (λ o. o ≡ Some true → Finds s es)
      all_found of_moves tried none =
          if_ok_on (λ (o : Option Bool). o ≡ Some true → IsMet s.asked now told) (λ (o : Option Bool). o ≡ Some true → Finds s es) said
          (λ o met is. finds_here of_moves tried none (met is))

      pub none_found : IfOk said (λ o. o ≡ Some false → IsMet s.asked now told → ⊥)
          → IfOk said (λ o. o ≡ Some false → Finds s es → ⊥)
      none_found =
          if_ok_on (λ (o : Option Bool). o ≡ Some false → IsMet s.asked now told → ⊥)
          (λ (o : Option Bool). o ≡ Some false → Finds s es → ⊥) said (λ o unmet is. none_here (unmet is))

  -- some are left
  pub left_find_none : all_precede s.earlier ≡ true → 0 < goals_left s es → Finds s es → ⊥
  left_find_none precede some finds =
      let none : goals_left s es ≡ 0 = ap (λ (z : List Asked). length z) (nothing_left s es precede finds.met).0 in
      omega (arith, some, none)

  pub code_is : (now : RunState) (kills left : ℕ) (code : List ℕ) → may_try s es ≡ true
      → now ≡ state_behind s es → kills ≡ counted s.kills (kills_in es) → left ≡ goals_left s es
      → code ≡ kills ∷ (left ∷ told_of s es now) → code ≡ code_behind s es
  code_is now kills left code tried state count goals is =
      is
      ∙ ap (λ (z : RunState). kills ∷ (left ∷ told_of s es z)) state
      ∙ ap (λ (n : ℕ). kills ∷ (n ∷ words_behind s es)) goals
      ∙ ap (λ (n : ℕ). n ∷ (goals_left s es ∷ words_behind s es)) count
      ∙ ap (λ (b : Bool). if b then counted s.kills (kills_in es) ∷ (goals_left s es ∷ words_behind s es) else []) (sym tried)

  -- they may not
  pub untried_find_none : may_try s es ≡ false → Finds s es → ⊥
  untried_find_none untried finds = both_ways (may_try s es) untried finds.made.tried

  pub no_code_is : may_try s es ≡ false → [] ≡ code_behind s es
  no_code_is untried =
      ap (λ (b : Bool). if b then counted s.kills (kills_in es) ∷ (goals_left s es ∷ words_behind s es) else []) (sym untried)

  -- the same of a result, which may be a want of memory
  pub code_made : {E : Type 0} → (now : RunState) (kills left : ℕ) (made : Result (Vec ℕ) E) → may_try s es ≡ true
      → now ≡ state_behind s es → kills ≡ counted s.kills (kills_in es) → left ≡ goals_left s es
      → IfOk made (λ code. code.items ≡ kills ∷ (left ∷ told_of s es now)) → IfOk made (λ code. code.items ≡ code_behind s es)
  code_made now kills left (Ok code) tried state count goals is = code_is now kills left code.items tried state count goals is
  code_made now kills left (Err e) tried state count goals is = tt
