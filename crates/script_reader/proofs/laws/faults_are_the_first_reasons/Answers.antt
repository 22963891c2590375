use Rattle.script_lines.specs.Line.{after_line}
use Rattle.script_reader.specs.EventLine.{after_event}
use Rattle.script_reader.specs.Reasons.{line_reasons, event_reasons}
use Rattle.script_reader.proofs.Faults.{line_fault, line_told, good_both}
use Rattle.script_reader.proofs.EventFaults.{event_fault, event_told}
use Rattle.script_reader.proofs.laws.faults_are_the_first_reasons.Goals as goal

pub returns-clause-script_line : goal.returns-clause-script_line
returns-clause-script_line c = line_fault

pub returns-clause-schedule_line : goal.returns-clause-schedule_line
returns-clause-schedule_line c = event_fault

pub returns-clause-script_fault : goal.returns-clause-script_fault
returns-clause-script_fault c = line_told

pub returns-clause-script_good : goal.returns-clause-script_good
returns-clause-script_good c before line = good_both (after_line before line) (line_reasons before line) (line_fault before line)

pub returns-clause-schedule_fault : goal.returns-clause-schedule_fault
returns-clause-schedule_fault c = event_told

pub returns-clause-schedule_good : goal.returns-clause-schedule_good
returns-clause-schedule_good c script before line = good_both (after_event script before line) (event_reasons script before line) (event_fault script before line)
