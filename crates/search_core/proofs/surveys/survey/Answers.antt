use Rattle.std.proofs.Common.{ℕ, List, sym, subst}
use Rattle.search_core.specs.Node.{trails_of}
use Rattle.search_core.specs.Kept.{HasCome}
use Rattle.search_core.specs.declared.nodes.Node.{Node}
use Rattle.search_core.proofs.Going.{first_place}
use Rattle.search_core.proofs.surveys.survey.Goals as goal

pub survey_from-survey-requires-clause-come : goal.survey_from-survey-requires-clause-come
survey_from-survey-requires-clause-come g c =
    let moves : ℕ = g.M.Maze.moves c.args.maze.now in
    let code : List ℕ → List ℕ = g.M.Maze.code c.args.maze.now in
    subst (λ (z : List Node). HasCome moves c.args.most (λ p. ⊥) code (trails_of z) c.in_ok-nodes.nodes.codes 0 0)
    (sym c.in_ok-nodes.ensures.later)
    (record {
      under_way = first_place moves c.args.most (λ p. ⊥) code (λ (never : ⊥). never);
      kept = c.in_ok-nodes.ensures.kept;
    })
