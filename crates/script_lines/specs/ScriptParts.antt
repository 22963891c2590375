-- A script that is still read, in two parts: the tasks with their wires, and the templates.
use Rattle.std.specs.Prelude.{◌≢◌, All, Bool, true, false, if◌then◌else◌}
use Rattle.script_lines.specs.declared.draft.Drafts.{Drafts}
use Rattle.script_lines.specs.Draft.{plan_of, IsWhole}
use Rattle.script_lines.specs.Names.{task_names, ns_name}
use Rattle.script_lines.specs.Plan.{Plan, nothing}
use Rattle.script_lines.specs.Sound.{AreApart, AreRawOrAsync}

-- each part is a script of its own; operations and bodies go to the part of the last task or template
pub record ScriptParts : Type 0 where
  pub tasks : Plan
  pub templates : Plan
  pub on_template : Bool

abbrev pub no_parts : ScriptParts
no_parts = record { tasks = nothing; templates = nothing; on_template = false }

abbrev pub script_of_parts : ScriptParts → Plan
script_of_parts w = record { tasks = w.tasks.tasks; wires = w.tasks.wires; templates = w.templates.tasks }

abbrev pub with_tasks : ScriptParts → Plan → ScriptParts
with_tasks w plan = record { tasks = plan; templates = w.templates; on_template = false }

abbrev pub with_templates : ScriptParts → Plan → ScriptParts
with_templates w plan = record { tasks = w.tasks; templates = plan; on_template = true }

-- what is said of the tasks, whatever came last
abbrev pub with_wires : ScriptParts → Plan → ScriptParts
with_wires w plan = record { tasks = plan; templates = w.templates; on_template = w.on_template }

-- the part of the last task or template
abbrev pub part : ScriptParts → Plan
part w = if w.on_template then w.templates else w.tasks

abbrev pub with_part : ScriptParts → Plan → ScriptParts
with_part w plan = if w.on_template then with_templates w plan else with_tasks w plan

-- no template has the name of a task, none is named as the naming service, and each is raw or async
pub record PartsFit (w : ScriptParts) : Type 0 where
  pub apart : AreApart (task_names w.tasks.tasks) (task_names w.templates.tasks)
  pub not_ns : All (λ name. name ≢ ns_name) (task_names w.templates.tasks)
  pub raw_or_async : AreRawOrAsync w.templates.tasks

abbrev pub parts_of : Drafts → ScriptParts
parts_of drafts = record { tasks = plan_of drafts.tasks; templates = plan_of drafts.templates; on_template = drafts.on_template }

-- the script of drafts whose last task and last template are ended
abbrev pub ended_script : Drafts → Plan
ended_script drafts = record { tasks = drafts.tasks.done; wires = drafts.tasks.wires; templates = drafts.templates.done }

abbrev pub AreWhole : Drafts → Type 0
AreWhole drafts = IsWhole drafts.tasks × IsWhole drafts.templates
