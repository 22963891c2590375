use Rattle.script_lines.specs.Text.{texts}
use Rattle.script_lines.proofs.OperationKinds.{raw_in, async_in}
use Rattle.script_lines.proofs.operation.op_in.Goals as goal

pub returns-in-Some-Raw-clause-of_kind : goal.returns-in-Some-Raw-clause-of_kind
returns-in-Some-Raw-clause-of_kind c =
    raw_in c.args.present c.in-Some-Raw.field-0 c.args.verb (texts c.args.words.now) c.raw_op_of.result c.in-Some-Raw.is (rw c.in-Some-Raw.is at c.in-Some-Raw.field-0-is) c.raw_op_of.ensures

pub returns-in-Some-Async-clause-of_kind : goal.returns-in-Some-Async-clause-of_kind
returns-in-Some-Async-clause-of_kind c =
    async_in c.args.present c.in-Some-Async.field-0 c.args.verb (texts c.args.words.now) c.async_op_of.result c.in-Some-Async.is (rw c.in-Some-Async.is at c.in-Some-Async.field-0-is) c.async_op_of.ensures
