use Rattle.std.proofs.Common.{◌∷◌, ◌++◌, [], ap, ◌∙◌}
use Rattle.search_goals.specs.declared.goal.Goal.{Goal}
use Rattle.search_goals.proofs.GoalLists.{last_put}
use Rattle.search_goals.proofs.goal_list.put_last.Goals as goal

pub returns : goal.returns
returns c =
    last_put c.args.goals.now (record { earlier = c.push.new.self; last = c.replace-before.new.dest }) c.args.last
    (c.in_ok-push.ensures.items
    ∙ ap (λ (z : Goal). c.args.goals.now.earlier.items ++ z ∷ []) c.replace-before.ensures.value)
    c.replace-before.ensures.after
