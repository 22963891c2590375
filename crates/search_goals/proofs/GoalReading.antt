-- The words of a goal, as a loop reads them.
use Rattle.std.proofs.Common.{◌≡◌, ℕ, ◌+◌, true, false, List, [], ◌∷◌, ◌++◌, Result, Ok, Err, refl, sym, ap, ◌∙◌}
use Rattle.std.specs.Global.{Vec}
use Rattle.script_lines.specs.declared.fault.Reason.{Reason}
use Rattle.script_lines.specs.declared.fault.Reason.TheVariants.{BadWord}
use Rattle.script_lines.specs.declared.plan.TaskPlan.{TaskPlan}
use Rattle.script_lines.specs.Operation.{◌>>=◌}
use Rattle.script_reader.specs.Reading.{lines_from, at_line}
use Rattle.search_goals.specs.Goals.{listed}
use Rattle.search_goals.specs.LineShapes.{may_begin}
use Rattle.search_goals.specs.GoalText.{word_in, line_so_far, with_word, condition_in, with_condition, in_word, Answers}
use Rattle.search_goals.specs.declared.conditions.Condition.{Condition}
use Rattle.search_goals.specs.declared.goal.GoalFault.{GoalFault}
use Rattle.search_goals.specs.declared.goal.GoalFault.TheVariants.{Bad, NoMemory}

-- what words say, or the first fault with its number
abbrev Numbered : Type 0 → Type 0
Numbered A = Result (List A) (ℕ × Reason)

-- a word that is read
one_more : {A : Type 0} (n : ℕ) (r : Result A Reason) (so_far : List A) (x : A) (go : List A → Numbered A) → in_word n r ≡ Ok x
    → at_line n (r >>= λ y. Ok (so_far ++ y ∷ [])) go ≡ go (so_far ++ x ∷ [])
one_more {A} n (Ok v) so_far x go e = let same : v ≡ x = cc in ap (λ (z : A). go (so_far ++ z ∷ [])) same
one_more n (Err reason) so_far x go e = absurd cc

-- a word that is at fault
one_fault : {A : Type 0} (n m : ℕ) (reason : Reason) (r : Result A Reason) (so_far : List A) (go : List A → Numbered A)
    → in_word n r ≡ Err (m, reason) → at_line n (r >>= λ y. Ok (so_far ++ y ∷ [])) go ≡ Err (m, reason)
one_fault n m reason (Ok v) so_far go e = absurd cc
one_fault {A} n m reason (Err why) so_far go e = again e where
  again : in_word {A = A} n (Err why) ≡ Err (m, reason) → at_line n (Err why) go ≡ Err (m, reason)
  again h = cc

-- what a step makes is what the next one begins with
taken : {A : Type 0} (n : ℕ) (r : Result A Reason) (x : A) (go : A → Result A (ℕ × Reason)) → in_word n r ≡ Ok x →
    at_line n r go ≡ go x
taken {A} n (Ok y) x go e = let same : y ≡ x = cc in ap go same
taken n (Err reason) x go e = absurd cc

-- a step that is at fault
refused : {A : Type 0} (n m : ℕ) (reason : Reason) (r : Result A Reason) (go : A → Result A (ℕ × Reason)) →
    in_word n r ≡ Err (m, reason) → at_line n r go ≡ Err (m, reason)
refused n m reason (Ok y) go e = absurd cc
refused {A} n m reason (Err why) go e = again e where
  again : in_word {A = A} n (Err why) ≡ Err (m, reason) → at_line n (Err why) go ≡ Err (m, reason)
  again h = cc

-- ---- one word more

said_right : {A : Type 0} (n : ℕ) (r : Result A Reason) (x : A) → in_word n r ≡ Ok x → r ≡ Ok x
said_right n (Ok y) x e = cc
said_right n (Err reason) x e = absurd cc

module _ (names : List (List ℕ)) (n : ℕ) (so_far : List (List ℕ)) (word text : List ℕ)
    (said : in_word n (word_in names word) ≡ Ok text) where
  added : in_word n (with_word names so_far word) ≡ in_word n (line_so_far (so_far ++ text ∷ []))
  unfolding with_word
  added =
      ap (λ (r : Result (List ℕ) Reason). in_word n (r >>= λ word. line_so_far (so_far ++ word ∷ [])))
      (said_right n (word_in names word) text said)

  pub word_goes_on : may_begin (so_far ++ text ∷ []) ≡ true →
      in_word n (with_word names so_far word) ≡ Ok (so_far ++ text ∷ [])
  word_goes_on may = added ∙ rw may refl

  pub word_ends : may_begin (so_far ++ text ∷ []) ≡ false → in_word n (with_word names so_far word) ≡ Err (n, BadWord)
  word_ends may = added ∙ rw may refl

module _ (names : List (List ℕ)) (n : ℕ) (so_far : List (Vec ℕ)) (word : List ℕ) (words all : List (List ℕ))
    (whole : Numbered (List ℕ)) (is : all ≡ word ∷ words)
    (told : lines_from (with_word names) n (listed so_far) all ≡ whole) where
  go : List (List ℕ) → Numbered (List ℕ)
  go next = lines_from (with_word names) (n + 1) next words

  pub word_read : (new : List (Vec ℕ)) → in_word n (with_word names (listed so_far) word) ≡ Ok (listed new) →
      lines_from (with_word names) (n + 1) (listed new) words ≡ whole
  unfolding go
  word_read new e =
      sym (taken n (with_word names (listed so_far) word) (listed new) go e)
      ∙ ap (lines_from (with_word names) n (listed so_far)) (sym is) ∙ told

  pub word_fault : (m : ℕ) (reason : Reason) → in_word n (with_word names (listed so_far) word) ≡ Err (m, reason) →
      whole ≡ Err (m, reason)
  unfolding go
  word_fault m reason e =
      sym told ∙ ap (lines_from (with_word names) n (listed so_far)) is
      ∙ refused n m reason (with_word names (listed so_far) word) go e

  pub fault_told : {A : Type 0} (f : A → List (List ℕ)) (g : Unit {0} → List (List ℕ)) (fault : GoalFault) →
      Answers {A = Unit {0}} g (Err fault) (in_word n (with_word names (listed so_far) word)) →
      Answers f (Err fault) whole
  fault_told f g (Bad m reason) e = word_fault m reason e
  fault_told f g NoMemory e = tt

module _ (names : List (List ℕ)) (tasks : List TaskPlan) (n : ℕ) (so_far : List Condition) (word : List ℕ) (words all : List (List ℕ))
    (whole : Numbered Condition) (is : all ≡ word ∷ words)
    (told : lines_from (with_condition names tasks) n so_far all ≡ whole) where
  pub condition_read : (x : Condition) → in_word n (condition_in names tasks word) ≡ Ok x →
      lines_from (with_condition names tasks) (n + 1) (so_far ++ x ∷ []) words ≡ whole
  unfolding with_condition
  condition_read x e =
      sym (one_more n (condition_in names tasks word) so_far x (λ next. lines_from (with_condition names tasks) (n + 1) next words) e)
      ∙ ap (lines_from (with_condition names tasks) n so_far) (sym is) ∙ told

  pub condition_fault : (m : ℕ) (reason : Reason) → in_word n (condition_in names tasks word) ≡ Err (m, reason) →
      whole ≡ Err (m, reason)
  unfolding with_condition
  condition_fault m reason e =
      sym told ∙ ap (lines_from (with_condition names tasks) n so_far) is
      ∙ one_fault n m reason (condition_in names tasks word) so_far
      (λ next. lines_from (with_condition names tasks) (n + 1) next words) e

  pub fault_found : {A : Type 0} (f : A → List Condition) (fault : GoalFault) →
      Answers {A = Condition} (λ condition. condition) (Err fault) (in_word n (condition_in names tasks word)) →
      Answers f (Err fault) whole
  fault_found f (Bad m reason) e = condition_fault m reason e
  fault_found f NoMemory e = tt
