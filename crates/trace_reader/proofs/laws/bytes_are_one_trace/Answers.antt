use Rattle.std.proofs.Common.{sym, ◌∙◌}
use Rattle.trace_reader.proofs.Only.{one_list}
use Rattle.trace_reader.proofs.laws.bytes_are_one_trace.Goals as goal

pub returns : goal.returns
returns c = λ es fs bytes r b. one_list es fs r.1 b.1 (r.0 ∙ sym b.0)
