use Rattle.std.proofs.Common.{ℕ, ◌≡◌, ◌≤◌, List, Some, length, slice_get}
use Rattle.search_core.specs.Moves.{IsBefore}
use Rattle.search_core.specs.Node.{trails_of}
use Rattle.search_core.specs.Survey.{moves_of}
use Rattle.search_core.proofs.Surveying.{few_places, counts_before, surveyed}
use Rattle.search_core.proofs.surveys.survey_from.Goals as goal

pub pick-requires-clause-places : goal.pick-requires-clause-places
pick-requires-clause-places g c =
    few_places _ c.args.most _ _ _ (rw c.in-NoneAtAll.is at c.in_ok-answer.ensures) c.requires.few

pub pick-requires-in-NoneWithin-clause-places : goal.pick-requires-in-NoneWithin-clause-places
pick-requires-in-NoneWithin-clause-places g c =
    few_places _ c.args.most _ _ _ (rw c.in-NoneWithin.is at c.in_ok-answer.ensures) c.requires.few

pub returns-in_ok-paths-in-NoneAtAll : goal.returns-in_ok-paths-in-NoneAtAll
returns-in_ok-paths-in-NoneAtAll g c =
    let trails : List (List ℕ) = trails_of c.look_on.new.nodes.later.items in
    let h = rw c.in-NoneAtAll.is at c.in_ok-answer.ensures in
    surveyed (g.M.Maze.moves c.args.maze.now) c.args.most (g.M.Maze.code c.args.maze.now) trails
    (λ (q : List ℕ). Unit {0}) h (g.M.Labelled.label c.args.maze.now)
    (g.met.M.Labelled.label_alike c.args.maze.now c.requires.fits)
    (λ (p q : List ℕ) (b : IsBefore q p) (t : Unit {0}). tt)
    (λ (k : ℕ) (p : List ℕ) (e : slice_get trails k ≡ Some p). tt)
    (moves_of c.in_ok-paths-in-NoneAtAll.paths.items) c.in_ok-paths-in-NoneAtAll.ensures

pub returns-in_ok-paths-in-NoneWithin : goal.returns-in_ok-paths-in-NoneWithin
returns-in_ok-paths-in-NoneWithin g c =
    let trails : List (List ℕ) = trails_of c.look_on.new.nodes.later.items in
    let h = rw c.in-NoneWithin.is at c.in_ok-answer.ensures in
    surveyed (g.M.Maze.moves c.args.maze.now) c.args.most (g.M.Maze.code c.args.maze.now) trails
    (λ (q : List ℕ). length q ≤ c.args.most) h (g.M.Labelled.label c.args.maze.now)
    (g.met.M.Labelled.label_alike c.args.maze.now c.requires.fits) (counts_before c.args.most) h.short
    (moves_of c.in_ok-paths-in-NoneWithin.paths.items) c.in_ok-paths-in-NoneWithin.ensures

pub unreachable-requires : goal.unreachable-requires
unreachable-requires g c =
    let h = rw c.in-Found.is at c.in_ok-answer.ensures in
    absurd h.met
