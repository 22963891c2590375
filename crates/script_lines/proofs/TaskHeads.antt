-- The head that a line gives a task or a template is not that of the naming service, and its numbers fit its kind.
use Rattle.std.proofs.Common.{◌≡◌, ◌≢◌, ◌≤◌, ◌&&◌, ℕ, Bool, true, false, cond, leb, List, [], ◌∷◌, Option, Some, None, Result, Ok, refl, sym, subst, ◌∙◌, arith}
use Rattle.std.specs.Prelude.{IfOk, IfSome}
use Rattle.std.specs.Option.{option_and_then}
use Rattle.std.proofs.lemmas.Bool.{leb-true}
use Rattle.script_lines.specs.declared.fault.Reason.{Reason}
use Rattle.script_lines.specs.declared.plan.Kind.{Kind}
use Rattle.script_lines.specs.declared.plan.Kind.TheVariants.{Naming, Raw, Async, Block}
use Rattle.script_lines.specs.declared.draft.TaskHead.{TaskHead}
use Rattle.script_lines.specs.Word.{name_of, number}
use Rattle.script_lines.specs.Sound.{HeadFits}
use Rattle.script_lines.specs.Line.{kind_of, counted_kind_of, service_kind_of, number_up_to, most_behind, head, plain_task, counted_task, service_task, task_of, template_of}
use Rattle.script_lines.proofs.Steps.{Any, any, some_then}
use Rattle.script_lines.proofs.TaskKinds.{no_line_is_naming, no_counted_line_is_naming, no_service_line_is_naming}

abbrev NotNaming : Kind → Type 0
NotNaming kind = kind ≢ Naming

-- ---- the parts of a head

kind_fits : (word : List ℕ) → IfSome (kind_of word) NotNaming
unfolding kind_of
kind_fits word = no_line_is_naming word

counted_kind_fits : (word : List ℕ) → IfSome (counted_kind_of word) NotNaming
unfolding counted_kind_of
counted_kind_fits word = no_counted_line_is_naming word

service_kind_fits : (word : List ℕ) → IfSome (service_kind_of word) NotNaming
unfolding service_kind_of
service_kind_fits word = no_service_line_is_naming word

abbrev IsUpTo : ℕ → ℕ → Type 0
IsUpTo most n = (1 ≤ n) × (n ≤ most)

number_fits : (most : ℕ) (word : List ℕ) → IfSome (number_up_to most word) (IsUpTo most)
unfolding number_up_to
number_fits most word = go (number word) where
  by_tests : (n : ℕ) (some few : Bool) → leb 1 n ≡ some → leb n most ≡ few → IfSome (cond (some && few) (Some n) None) (IsUpTo most)
  by_tests n true true one less = (leb-true 1 n one, leb-true n most less)
  by_tests n true false one less = tt
  by_tests n false few one less = tt

  go : (o : Option ℕ) → IfSome (option_and_then (λ n. cond (leb 1 n && leb n most) (Some n) None) o) (IsUpTo most)
  go (Some n) = by_tests n (leb 1 n) (leb n most) refl refl
  go None = tt

all_phones : (kind : Kind) → IsUpTo (most_behind kind) 64
all_phones Naming = (omega arith, omega arith)
all_phones Raw = (omega arith, omega arith)
all_phones Async = (omega arith, omega arith)
all_phones Block = (omega arith, omega arith)

-- ---- the head

abbrev IsHead : TaskHead → Type 0
IsHead made = (made.kind ≢ Naming) × HeadFits made.kind made

head_fits : (name : List ℕ) (kind : Kind) (count : ℕ) (service : Option ℕ) → NotNaming kind → IsUpTo (most_behind kind) count → IsHead (head name kind count service)
head_fits name Naming count service other within = absurd (other refl)
head_fits name Raw count service other within = (other, within)
head_fits name Async count service other within = (other, within)
head_fits name Block count service other within = (other, (refl, within))

plain_fits : (name kind : List ℕ) → IfOk (plain_task name kind) IsHead
unfolding plain_task
plain_fits name kind =
    some_then Any IsHead (name_of name) _ (any (name_of name)) (λ n _.
    some_then NotNaming IsHead (kind_of kind) _ (kind_fits kind) (λ k other. head_fits n k 64 None other (all_phones k)))

counted_fits : (name : List ℕ) (found : Option Kind) (count : List ℕ) → IfSome found NotNaming → IfOk (counted_task name found count) IsHead
unfolding counted_task
counted_fits name found count is =
    some_then Any IsHead (name_of name) _ (any (name_of name)) (λ n _.
    some_then NotNaming IsHead found _ is (λ k other.
    some_then (IsUpTo (most_behind k)) IsHead (number_up_to (most_behind k) count) _ (number_fits (most_behind k) count) (λ c within. head_fits n k c None other within)))

service_fits : (name kind count service : List ℕ) → IfOk (service_task name kind count service) IsHead
unfolding service_task
service_fits name kind count service =
    some_then Any IsHead (name_of name) _ (any (name_of name)) (λ n _.
    some_then NotNaming IsHead (service_kind_of kind) _ (service_kind_fits kind) (λ k other.
    some_then (IsUpTo (most_behind k)) IsHead (number_up_to (most_behind k) count) _ (number_fits (most_behind k) count) (λ c within.
    some_then Any IsHead (number service) _ (any (number service)) (λ s _. head_fits n k c (Some s) other within))))

task_fits : (words : List (List ℕ)) → IfOk (task_of words) IsHead
unfolding task_of
task_fits (name ∷ kind ∷ []) = plain_fits name kind
task_fits (name ∷ kind ∷ count ∷ []) = counted_fits name (counted_kind_of kind) count (counted_kind_fits kind)
task_fits (name ∷ kind ∷ count ∷ service ∷ []) = service_fits name kind count service
task_fits _ = tt

template_fits : (words : List (List ℕ)) → IfOk (template_of words) IsHead
unfolding template_of
template_fits (name ∷ kind ∷ []) = plain_fits name kind
template_fits (name ∷ kind ∷ count ∷ []) = counted_fits name (kind_of kind) count (kind_fits kind)
template_fits _ = tt

-- ---- what a call gave

pub task_head_fits : (words : List (List ℕ)) (r : Result TaskHead Reason) (made : TaskHead) → r ≡ task_of words → r ≡ Ok made → (made.kind ≢ Naming) × HeadFits made.kind made
task_head_fits words r made told is = subst (λ (o : Result TaskHead Reason). IfOk o IsHead) (sym told ∙ is) (task_fits words)

pub template_head_fits : (words : List (List ℕ)) (r : Result TaskHead Reason) (made : TaskHead) → r ≡ template_of words → r ≡ Ok made → (made.kind ≢ Naming) × HeadFits made.kind made
template_head_fits words r made told is = subst (λ (o : Result TaskHead Reason). IfOk o IsHead) (sym told ∙ is) (template_fits words)
