use Rattle.script_reader.proofs.ReaderAnswers.{schedule_is_spelled, schedule_spelled, schedule_fault, schedule_at_fault}
use Rattle.script_reader.proofs.KnownTasks.{few_events, events_may}
use Rattle.script_reader.proofs.schedule.read_schedule.Goals as goal

pub returns-clause-few : goal.returns-clause-few
returns-clause-few c = few_events c.args.script.now c.args.bytes.now c.read_one_by_one.result (schedule_is_spelled c.args.script.now c.args.bytes.now c.read_one_by_one.result c.read_one_by_one.ensures)

pub returns-clause-may : goal.returns-clause-may
returns-clause-may c = events_may c.args.script.now c.args.bytes.now c.read_one_by_one.result (schedule_is_spelled c.args.script.now c.args.bytes.now c.read_one_by_one.result c.read_one_by_one.ensures)

pub returns-clause-read : goal.returns-clause-read
returns-clause-read c = schedule_is_spelled c.args.script.now c.args.bytes.now c.read_one_by_one.result c.read_one_by_one.ensures

pub returns-clause-spelled : goal.returns-clause-spelled
returns-clause-spelled c = schedule_spelled c.args.script.now c.args.bytes.now c.read_one_by_one.result c.read_one_by_one.ensures

pub returns-clause-fault : goal.returns-clause-fault
returns-clause-fault c = schedule_fault c.args.script.now c.args.bytes.now c.read_one_by_one.result c.read_one_by_one.ensures

pub returns-clause-at_fault : goal.returns-clause-at_fault
returns-clause-at_fault c = schedule_at_fault c.args.script.now c.args.bytes.now c.read_one_by_one.result c.read_one_by_one.ensures
