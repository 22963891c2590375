use Rattle.std.proofs.Common.{ap, ◌∙◌}
use Rattle.schedule_search.specs.Code.{counted}
use Rattle.schedule_search.specs.Problem.{search_of}
use Rattle.schedule_search.proofs.Visiting.{code_made}
use Rattle.schedule_search.proofs.visits.code_there.Goals as goal

pub returns : goal.returns
returns c =
    code_made (search_of c.args.problem.now) c.args.events.now c.args.replay.now.state c.counted-kills.result
    c.args.left c.code_of.result c.requires.tried c.requires.here
    (c.counted-kills.ensures ∙ ap (counted c.args.problem.now.kills) c.kills_in.ensures) c.requires.left c.code_of.ensures
