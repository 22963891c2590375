-- The answer to the bytes of the first lesson: its script and its schedule are read, and the text of the run is written.
use Rattle.std.proofs.Common.{◌≡◌, ℕ, List, Result, codes, ap, ◌∙◌}
use Rattle.ipc_ids.specs.declared.message.Event.{Event}
use Rattle.script_lines.specs.declared.fault.Reason.{Reason}
use Rattle.script_lines.specs.Plan.{Plan}
use Rattle.script_reader.proofs.ReadingExamples.{plan, script_is_read, schedule_is_read}
use Rattle.replay_examples.proofs.RunCall.{text, first_call_text}
use Rattle.command_line.specs.declared.status.Status.TheVariants.{Done}
use Rattle.command_line.specs.Answer.{answer_of, answer_for_script, answer_for_events}

abbrev script : List ℕ
script = codes "task a raw\ncall 0 512 7\nreceive\ntask b raw\nreceive\nanswer r2 EOK 8\nwire a 0 b\n"

abbrev schedule : List ℕ
schedule = codes "step a\nstep b x 2\nstep a\n"

first_call_is_answered : answer_of script schedule ≡ (Done, text)
first_call_is_answered =
    ap (λ (read : Result Plan (ℕ × Reason)). answer_for_script read schedule) script_is_read
    ∙ ap (λ (events : Result (List Event) (ℕ × Reason)). answer_for_events plan events) schedule_is_read
    ∙ ap (λ (told : List ℕ). (Done, told)) first_call_text
