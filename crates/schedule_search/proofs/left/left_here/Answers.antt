use Rattle.std.proofs.Common.{sym, ◌∙◌}
use Rattle.search_goals.specs.GoalList.{said_all}
use Rattle.schedule_search.specs.Left.{left_here}
use Rattle.schedule_search.proofs.Fronted.{none_left, rest_left, others_left}
use Rattle.schedule_search.proofs.left.left_here.Goals as goal

pub loop-i-preserved : goal.loop-i-preserved
loop-i-preserved c =
    others_left c.args.goals.now c.loop-i.i c.args.replay.now.state c.loop-i.told.entries
    (left_here (said_all c.args.goals.now) c.args.replay.now.state c.args.told.now.entries) c.loop-i.invariant
    c.index-goals-i.result c.loop-i-test.true c.index-goals-i.is c.clear.new.self.entries c.clear.ensures.entries
    (sym c.in_ok-met.ensures ∙ c.if-not-met.false)

pub returns-then-not-met : goal.returns-then-not-met
returns-then-not-met c =
    rest_left c.args.goals.now c.loop-i.i c.args.replay.now.state c.loop-i.told.entries
    (left_here (said_all c.args.goals.now) c.args.replay.now.state c.args.told.now.entries) c.loop-i.invariant
    c.index-goals-i.result c.loop-i-test.true c.index-goals-i.is (sym c.in_ok-met.ensures ∙ c.if-not-met.true)

pub returns : goal.returns
returns c =
    none_left c.args.goals.now c.loop-i.i c.args.replay.now.state c.loop-i.told.entries
    (left_here (said_all c.args.goals.now) c.args.replay.now.state c.args.told.now.entries) c.loop-i.invariant
    c.loop-i-test.false
