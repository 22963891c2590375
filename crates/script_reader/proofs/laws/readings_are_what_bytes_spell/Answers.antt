use Rattle.script_reader.proofs.ReaderAnswers.{script_is_spelled_by, spelled_script, script_fault_by, fault_of_script, events_spelled, spelled_events, events_at_fault, at_fault_events}
use Rattle.script_reader.proofs.laws.readings_are_what_bytes_spell.Goals as goal

pub returns-clause-script_spelled : goal.returns-clause-script_spelled
returns-clause-script_spelled c text script = (script_is_spelled_by text script, spelled_script text script)

pub returns-clause-script_at_fault : goal.returns-clause-script_at_fault
returns-clause-script_at_fault c text line reason = (script_fault_by text line reason, fault_of_script text line reason)

pub returns-clause-schedule_spelled : goal.returns-clause-schedule_spelled
returns-clause-schedule_spelled c script text events = (events_spelled script text events, spelled_events script text events)

pub returns-clause-schedule_at_fault : goal.returns-clause-schedule_at_fault
returns-clause-schedule_at_fault c script text line reason = (events_at_fault script text line reason, at_fault_events script text line reason)
