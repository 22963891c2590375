use Rattle.script_reader.proofs.KnownTasks.{read_few, read_all_may}
use Rattle.script_reader.proofs.schedule.read_repeated_events.Goals as goal

pub returns-clause-few : goal.returns-clause-few
returns-clause-few c = read_few c.args.script.now c.args.bytes.now c.read_for.result c.read_for.ensures

pub returns-clause-may : goal.returns-clause-may
returns-clause-may c = read_all_may c.args.script.now c.args.bytes.now c.read_for.result c.read_for.ensures
