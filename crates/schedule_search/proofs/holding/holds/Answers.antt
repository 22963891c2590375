use Rattle.std.proofs.Common.{sym, subst}
use Rattle.run_words.specs.Constants.{constant}
use Rattle.run_words.specs.Reached.{spawns_of}
use Rattle.schedule_search.specs.Plans.{DoesBodies}
use Rattle.schedule_search.proofs.Bodies.{task_does}
use Rattle.schedule_search.proofs.holding.holds.Goals as goal

pub holds_of-requires : goal.holds_of-requires
holds_of-requires c =
    subst (DoesBodies (constant c.in-Some.program.now)) (sym c.bodies_of-bodies.ensures)
    (task_does c.args.script.now (spawns_of c.args.from.now) c.args.system.now c.subject_of.result.task
    c.in-Some.program.now c.requires.reached c.in-Some.ensures)
