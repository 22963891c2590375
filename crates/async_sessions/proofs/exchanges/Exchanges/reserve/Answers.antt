use Rattle.std.proofs.Common.{arith}
use Rattle.async_sessions.proofs.Grouped.{few_idle}
use Rattle.async_sessions.proofs.exchanges.Exchanges.reserve.Goals as goal

pub reserve-requires-in-Ok : goal.reserve-requires-in-Ok
reserve-requires-in-Ok c =
    let few = few_idle c.self.invariant.grouped in
    omega (arith, c.in-Ok.ensures)
