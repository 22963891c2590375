use Rattle.search_core.specs.Node.{trails_of}
use Rattle.search_core.specs.Survey.{moves_of}
use Rattle.search_core.specs.Picked.{HasPicked}
use Rattle.search_core.proofs.surveys.pick_all.Given as goal

abbrev pub invariant-loop-at : goal.invariant-loop-at
invariant-loop-at g l =
    HasPicked (g.M.Labelled.label l.maze) (trails_of l.nodes.later.items) l.at (moves_of l.paths.items) l.labels.keys
