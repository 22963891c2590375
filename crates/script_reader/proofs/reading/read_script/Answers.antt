use Rattle.script_reader.proofs.ReaderAnswers.{script_is_spelled, script_spelled, script_fault, script_at_fault}
use Rattle.script_reader.proofs.reading.read_script.Goals as goal

pub returns-clause-read : goal.returns-clause-read
returns-clause-read c = script_is_spelled c.args.bytes.now c.read.result c.read.ensures

pub returns-clause-spelled : goal.returns-clause-spelled
returns-clause-spelled c = script_spelled c.args.bytes.now c.read.result c.read.ensures

pub returns-clause-fault : goal.returns-clause-fault
returns-clause-fault c = script_fault c.args.bytes.now c.read.result c.read.ensures

pub returns-clause-at_fault : goal.returns-clause-at_fault
returns-clause-at_fault c = script_at_fault c.args.bytes.now c.read.result c.read.ensures
