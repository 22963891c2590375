-- A line that is the same as the line before it, where that was an operation.
use Rattle.std.specs.Prelude.{◌≡◌, ℕ, ◌-◌, Bool, true, false, List, [], length, slice_get, Option, Some, IfSome, Result, Ok, if◌then◌else◌}
use Rattle.std.specs.Option.{option_and_then}
use Rattle.std.specs.Borrow.{Bor}
use Rattle.ipc_ids.specs.declared.op.Op.{Op}
use Rattle.ipc_ids.specs.declared.op.Body.{Body}
use Rattle.script_lines.specs.declared.draft.LastTask.{LastTask}
use Rattle.script_lines.specs.declared.draft.Draft.{Draft}
use Rattle.script_lines.specs.declared.draft.Drafts.{Drafts}
use Rattle.script_lines.specs.declared.fault.Reason.{Reason}
use Rattle.script_lines.specs.declared.plan.Kind.{Kind}
use Rattle.script_lines.specs.declared.word.Verb.{Verb}
use Rattle.script_lines.specs.declared.word.Verb.TheVariants as first
use Rattle.script_lines.specs.Text.{first_line, behind}
use Rattle.script_lines.specs.Operation.{◌>>=◌}
use Rattle.script_lines.specs.Ranges.{IsOpOf}
use Rattle.script_lines.specs.Draft.{with_op, present, taker}
use Rattle.script_lines.specs.ScriptParts.{ScriptParts, part, with_part}
use Rattle.script_lines.specs.Line.{after_line}

-- the last operation of a body
abbrev pub last_in : Body → Option Op
last_in body = slice_get body.ops (length body.ops - 1)

-- the last operation of the last body of a task
abbrev pub last_op_of : LastTask → Option Op
last_op_of last = option_and_then last_in last.body

-- the last operation of the last task
abbrev pub last_op : Draft → Option Op
last_op draft = option_and_then last_op_of draft.last

-- the last task takes its last operation, if it has one
abbrev pub TakesLastOp : Draft → Type 0
TakesLastOp draft = (op : Op) → last_op draft ≡ Some op → IfSome (taker draft) (λ kind. IsOpOf kind op)

-- the last operation, and what the last task takes, are as before
pub record KeepsLastOp (old new : Draft) : Type 0 where
  pub op : last_op new ≡ last_op old
  pub taker : taker new ≡ taker old

-- one more operation of the last task or template
abbrev pub op_of_last : ScriptParts → Op → Result ScriptParts Reason
op_of_last w op = with_op (part w) op >>= λ plan. Ok (with_part w plan)

-- the first word of a line is that of an operation
abbrev pub is_op : Verb → Bool
is_op (first.Op verb) = true
is_op _ = false

-- what a line makes of a script is one more operation, this one, wherever such a task takes operations
abbrev pub SaysOp : (ScriptParts → Result ScriptParts Reason) → Option Kind → Op → Type 0
SaysOp made kind op = (w : ScriptParts) → present (part w) ≡ kind → made w ≡ op_of_last w op

-- what a line makes of a script is the last operation of this one once more
pub record SaysLastOp (draft : Draft) (made : ScriptParts → Result ScriptParts Reason) : Type 0 where
  pub op : Op
  pub last : last_op draft ≡ Some op
  pub fits : IfSome (taker draft) (λ kind. IsOpOf kind op)
  pub said : SaysOp made (taker draft) op

-- the draft of the last task or template
abbrev pub last_draft : Drafts → Draft
last_draft drafts = if drafts.on_template then drafts.templates else drafts.tasks

-- these bytes are the first line of a text with its line feed
abbrev pub IsFirstLine : List ℕ → List ℕ → Type 0
IsFirstLine line text = (behind line ≡ Some []) × (first_line line ≡ first_line text)

-- a line with its line feed, which says the last operation once more
pub record IsLastLine (drafts : Drafts) (bytes : List ℕ) : Type 0 where
  pub ends : behind bytes ≡ Some []
  pub says : SaysLastOp (last_draft drafts) (λ w. after_line w (first_line bytes))

-- the line that is kept, if one is, says the last operation once more
abbrev pub Keeps : Drafts → Option (Bor (List ℕ)) → Type 0
Keeps drafts kept = IfSome kept (λ line. IsLastLine drafts line.now)
