use Rattle.std.proofs.Common.{arith}
use Rattle.schedule_search.specs.Problem.{search_of}
use Rattle.schedule_search.proofs.Visiting.{left_find_none, all_found, none_found}
use Rattle.schedule_search.proofs.visits.is_found.Goals as goal

pub returns-then-left-gt0-clause-unmet : goal.returns-then-left-gt0-clause-unmet
returns-then-left-gt0-clause-unmet c =
    let some = c.if-left-gt0.true in
    let left = c.requires.left in
    λ is. left_find_none (search_of c.args.problem.now) c.args.events.now c.requires.can.sound.precede (omega (arith, some, left))

pub returns-clause-met : goal.returns-clause-met
returns-clause-met c =
    let none = c.if-left-gt0.false in
    let left = c.requires.left in
    all_found (search_of c.args.problem.now) c.args.events.now c.args.replay.now.state c.args.told.now.entries
    c.requires.can.sound.precede c.requires.here c.requires.entries c.is_last_met.result c.requires.can.of_moves
    c.requires.can.tried (omega (arith, none, left)) c.is_last_met.ensures.met

pub returns-clause-unmet : goal.returns-clause-unmet
returns-clause-unmet c =
    none_found (search_of c.args.problem.now) c.args.events.now c.args.replay.now.state c.args.told.now.entries
    c.requires.can.sound.precede c.requires.here c.requires.entries c.is_last_met.result c.is_last_met.ensures.unmet
