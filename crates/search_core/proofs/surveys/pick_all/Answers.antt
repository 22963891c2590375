use Rattle.std.proofs.Common.{ℕ, List, [], Option, refl, sym, subst, arith}
use Rattle.std.specs.Global.{Vec}
use Rattle.search_core.specs.Node.{trails_of}
use Rattle.search_core.specs.Survey.{moves_of}
use Rattle.search_core.specs.Picked.{ArePicked, AreLabels}
use Rattle.search_core.proofs.Picking.{none_picked, all_picked}
use Rattle.search_core.proofs.Trails.{length_trails}
use Rattle.search_core.proofs.surveys.pick_all.Goals as goal

pub loop-at-init : goal.loop-at-init
loop-at-init g c =
    let label : List ℕ → Option (List ℕ) = g.M.Labelled.label c.args.maze.now in
    let trails : List (List ℕ) = trails_of c.args.nodes.now.later.items in
    record {
      picked = subst (λ (z : List (Vec ℕ)). ArePicked label trails 0 (moves_of z)) (sym c.requires.none)
          (none_picked label trails);
      kept = subst (λ (z : List (Vec ℕ)). AreLabels label (moves_of z) c.args.labels.now.keys) (sym c.requires.none)
          (subst (λ (z : List (Vec ℕ)). AreLabels label [] z) (sym c.requires.no_label) refl);
    }

pub pick_place-requires-clause-there : goal.pick_place-requires-clause-there
pick_place-requires-clause-there g c = omega (arith, c.count-seen.ensures, c.loop-at-test.true)

pub returns : goal.returns
returns g c =
    let n = length_trails c.args.nodes.now.later.items in
    all_picked (g.M.Labelled.label c.args.maze.now) (trails_of c.args.nodes.now.later.items) c.loop-at.at
    (moves_of c.loop-at.paths.items) c.loop-at.invariant.picked
    (omega (arith, n, c.count-seen.ensures, c.loop-at-test.false))
