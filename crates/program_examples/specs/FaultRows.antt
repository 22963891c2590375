-- The reason that is told of a line at fault, a row for each reason; where two hold, the one that stands first.
use Rattle.std.specs.Prelude.{◌≡◌, ℕ, List, [], ◌∷◌, ◌++◌, None, Err, replicate, codes}
use Rattle.ipc_ids.specs.declared.message.Event.{Event}
use Rattle.script_lines.specs.declared.fault.Reason.{Reason}
use Rattle.script_lines.specs.declared.fault.Reason.TheVariants as reason
use Rattle.script_lines.specs.declared.plan.Kind.TheVariants.{Raw}
use Rattle.script_lines.specs.declared.plan.TaskPlan.{TaskPlan}
use Rattle.script_lines.specs.Plan.{Plan, nothing}
use Rattle.script_lines.specs.Text.{text_of_reason}
use Rattle.script_lines.specs.ScriptParts.{ScriptParts, no_parts}
use Rattle.script_lines.specs.Line.{after_line}
use Rattle.script_reader.specs.Reading.{script_of, schedule_of}
use Rattle.script_reader.specs.EventLine.{after_event_line}

-- the first line of this script that is at fault has this number and this reason
abbrev pub IsAtFault : List ℕ → ℕ → Reason → Type 0
IsAtFault text line reason = script_of text ≡ Err (line, reason)

-- carriage return, which no line may have
abbrev pub bad : List ℕ
bad = 13 ∷ []

-- a raw task of this name, without a body
abbrev pub task_named : List ℕ → TaskPlan
task_named name =
    record { name = name; kind = Raw; limit = 64; bodies = []; blocks = 0; service = None }

-- a script of 64 tasks so far
abbrev pub full : ScriptParts
full =
    record no_parts {
      tasks = record nothing { tasks = task_named (codes "a") ∷ replicate 63 (task_named (codes "b")) };
    }

-- the reasons of a script's lines, in their order
pub record ScriptFaults : Type 0 where
  pub bad_byte : IsAtFault (codes "task a raw" ++ bad) 1 reason.BadByte
  pub bad_byte_first : IsAtFault (codes "foo" ++ bad) 1 reason.BadByte
  pub unknown_operation : IsAtFault (codes "task a raw\n\nstep a\n") 3 reason.UnknownOperation
  pub out_of_place : IsAtFault (codes "task a raw\nns") 2 reason.OutOfPlace
  pub out_of_place_first : IsAtFault (codes "receive 1 2") 1 reason.OutOfPlace
  pub wrong_count : IsAtFault (codes "task a") 1 reason.WrongCount
  pub bad_word : IsAtFault (codes "task a raw 65") 1 reason.BadWord
  pub bad_word_before_unknown_name : IsAtFault (codes "wire a A b") 1 reason.BadWord
  pub bad_word_before_name_taken : IsAtFault (codes "task a raw\ntask a raw 65") 2 reason.BadWord
  pub unknown_name : IsAtFault (codes "task a raw\nwire a 0 b") 2 reason.UnknownName
  pub unknown_name_before_bad_phone : IsAtFault (codes "task a raw 2\nwire a 2 b") 2 reason.UnknownName
  pub name_taken : IsAtFault (codes "task a raw\ntask a async") 2 reason.NameTaken
  pub name_of_the_service : IsAtFault (codes "task ns raw") 1 reason.NameTaken
  pub name_taken_before_too_many : after_line full (codes "task a raw") ≡ Err reason.NameTaken
  pub bad_phone : IsAtFault (codes "task a raw 2\nwire a 2 a") 2 reason.BadPhone
  pub wired_phone : IsAtFault (codes "task a raw\nwire a 3 a\nwire a 3 a") 3 reason.BadPhone
  pub too_many : IsAtFault (codes "task a async\nconnection\nconnection") 3 reason.TooMany
  pub too_many_tasks : after_line full (codes "task c raw") ≡ Err reason.TooMany

-- a script of two tasks and a template
abbrev pub script : Plan
script =
    record {
      tasks = task_named (codes "a") ∷ task_named (codes "b") ∷ [];
      wires = [];
      templates = task_named (codes "t") ∷ [];
    }

-- likewise, of a schedule
abbrev pub IsEventAtFault : List ℕ → ℕ → Reason → Type 0
IsEventAtFault text line reason = schedule_of script text ≡ Err (line, reason)

-- a line is at fault for this reason where there are 64 tasks, whatever the events so far are
abbrev pub IsFaultAmongMany : List ℕ → Reason → Type 0
IsFaultAmongMany line reason =
    (events : List Event) →
    after_event_line (codes "t" ∷ [])
    (record { events = events; names = codes "a" ∷ replicate 63 (codes "b") }) line
    ≡ Err reason

-- the reasons of a schedule's lines, in their order
pub record ScheduleFaults : Type 0 where
  pub bad_byte : IsEventAtFault (codes "step a" ++ bad) 1 reason.BadByte
  pub bad_byte_first : IsEventAtFault (codes "call" ++ bad) 1 reason.BadByte
  pub unknown_operation : IsEventAtFault (codes "step a\n\ncall a") 3 reason.UnknownOperation
  pub wrong_count : IsEventAtFault (codes "step a 3") 1 reason.WrongCount
  pub bad_word : IsEventAtFault (codes "step a x 65537") 1 reason.BadWord
  pub bad_word_before_unknown_name : IsEventAtFault (codes "hangup c x") 1 reason.BadWord
  pub unknown_name : IsEventAtFault (codes "kill c") 1 reason.UnknownName
  pub unknown_name_before_name_taken : IsEventAtFault (codes "spawn a b") 1 reason.UnknownName
  pub unknown_name_before_too_many_events : IsEventAtFault (codes "step a\nstep c x 65536") 2 reason.UnknownName
  pub name_taken : IsEventAtFault (codes "spawn t a") 1 reason.NameTaken
  pub name_of_a_template : IsEventAtFault (codes "spawn t t") 1 reason.NameTaken
  pub name_taken_before_too_many : IsFaultAmongMany (codes "spawn t a") reason.NameTaken
  pub too_many : IsFaultAmongMany (codes "spawn t c") reason.TooMany
  pub too_many_events : IsEventAtFault (codes "step a\nstep a x 65536") 2 reason.TooManyEvents

-- how each reason is written
pub record ReasonTexts : Type 0 where
  pub too_long : text_of_reason reason.TooLong ≡ codes "too long"
  pub bad_byte : text_of_reason reason.BadByte ≡ codes "bad byte"
  pub unknown_operation : text_of_reason reason.UnknownOperation ≡ codes "unknown operation"
  pub out_of_place : text_of_reason reason.OutOfPlace ≡ codes "out of place"
  pub wrong_count : text_of_reason reason.WrongCount ≡ codes "wrong number of words"
  pub bad_word : text_of_reason reason.BadWord ≡ codes "bad word"
  pub unknown_name : text_of_reason reason.UnknownName ≡ codes "unknown name"
  pub name_taken : text_of_reason reason.NameTaken ≡ codes "name taken"
  pub bad_phone : text_of_reason reason.BadPhone ≡ codes "bad phone"
  pub too_many : text_of_reason reason.TooMany ≡ codes "too many"
  pub too_many_events : text_of_reason reason.TooManyEvents ≡ codes "too many events"
