use Rattle.std.proofs.Common.{ℕ, List, ◌∙◌}
use Rattle.search_core.proofs.Keeping.{kept_if_made}
use Rattle.search_core.proofs.surveys.start.Goals as goal

pub returns-clause-kept : goal.returns-clause-kept
returns-clause-kept g c =
    let code : List ℕ → List ℕ = g.M.Maze.code c.args.maze.now in
    kept_if_made code c.new.result c.as_slice.result.now (c.as_slice.ensures.value ∙ c.in_ok-code.ensures)
    c.new.ensures.bytes c.new.ensures.bounds
