-- A line that steps a task whose name was looked up.
use Rattle.std.proofs.Common.{◌≡◌, ℕ, ◌++◌, List, Some, Result, Ok, Err, ap, ◌∙◌}
use Rattle.std.specs.Prelude.{IfOk, codes}
use Rattle.ipc_ids.specs.declared.message.Event.TheVariants as events
use Rattle.ipc_ids.specs.declared.numbers.TaskNo.{TaskNo}
use Rattle.script_lines.specs.Operation.{◌>>=◌}
use Rattle.script_lines.specs.Word.{name_of}
use Rattle.script_reader.specs.declared.recent.TaskSteps.{TaskSteps}
use Rattle.script_reader.specs.EventLine.{with_repeated}
use Rattle.script_reader.specs.Recent.{Has, BeginsWithName, SaysStepsOf}
use Rattle.script_reader.specs.Schedule.{step_with}
use Rattle.script_reader.specs.StepLine.{EndsStep, SaysSteps}
use Rattle.script_reader.proofs.StepLines.{ends_says}

step_is : (names : List (List ℕ)) (name : List ℕ) (task : TaskNo) (count : ℕ) → Has names task name → step_with names name (Some count) ≡ Ok (events.Step task, count)
unfolding step_with name_of
step_is names name task count has = rw has.0 (rw has.1 cc)

-- the steps of a line with this name are those of its task
named_says : (names : List (List ℕ)) (text name : List ℕ) (steps : TaskSteps) → Has names steps.task name → SaysSteps text name steps.count steps.others.now → SaysStepsOf names text steps
named_says names text name steps has says = record {
  said = λ templates before same.
      says.said templates before
      ∙ ap (λ said. said >>= with_repeated before)
      (ap (λ (known : List (List ℕ)). step_with known name (Some steps.count)) same ∙ step_is names name steps.task steps.count has);
  left = says.left;
}

-- what was cut off at the front says it all
pub recent_says : (names : List (List ℕ)) (text behind rest : List ℕ) (steps : TaskSteps) → text ≡ codes "step " ++ behind → BeginsWithName names behind steps.task rest → EndsStep rest steps.count steps.others.now → SaysStepsOf names text steps
recent_says names text behind rest steps e begins ends =
    named_says names text begins.name steps begins.has (ends_says text behind begins.name rest steps.count steps.others.now e begins.parts begins.has.0 ends)

-- what holds anyway holds of an answer
pub if_any : {A E : Type 0} (answer : Result A E) (P : Type 0) → P → IfOk answer (λ _. P)
if_any (Ok x) P holds = holds
if_any (Err e) P holds = tt
