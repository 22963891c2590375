use Rattle.std.proofs.Common.{◌+◌, drop, ap}
use Rattle.std.proofs.lemmas.List.{drop_more, drop_all}
use Rattle.script_lines.specs.Text.{texts}
use Rattle.search_goals.specs.GoalList.{goals_of, sought_by}
use Rattle.search_goals.proofs.GoalLists.{goals_begin, goals_on, goals_fault, goals_end, goals_precede}
use Rattle.search_goals.proofs.goal_list.read_goals_for.Goals as goal

pub loop-text-init : goal.loop-text-init
loop-text-init c =
    goals_begin c.args.names.now c.args.tasks.now (sought_by c.in_ok-goals.goals) c.args.first.now
    (texts c.args.later.now) c.in_ok-goals.ensures

pub loop-text-preserved : goal.loop-text-preserved
loop-text-preserved c =
    let later = c.args.later.now in
    let i = c.loop-text.text-index in
    goals_on c.args.names.now c.args.tasks.now (sought_by c.loop-text.goals) (sought_by c.put_behind.new.goals)
    _ (texts (drop (i + 1) later)) (texts (drop i later)) _
    (ap texts (drop_more later i _ c.loop-text-test.true)) c.loop-text.invariant c.in_default.ensures

pub returns-in-Err : goal.returns-in-Err
returns-in-Err c =
    let later = c.args.later.now in
    let i = c.loop-text.text-index in
    record {
      value = goals_fault c.args.names.now c.args.tasks.now (sought_by c.loop-text.goals) _ (texts (drop (i + 1) later))
          (texts (drop i later)) _ c.in-Err.fault (ap texts (drop_more later i _ c.loop-text-test.true))
          c.loop-text.invariant c.in-Err.ensures;
      precede = tt;
    }

pub returns : goal.returns
returns c =
    let names = c.args.names.now in
    let tasks = c.args.tasks.now in
    let later = c.args.later.now in
    let whole = goals_of names tasks c.args.first.now (texts later) in
    let read = goals_end names tasks (sought_by c.loop-text.goals) (texts (drop c.loop-text.text-index later)) whole
    (ap texts (drop_all c.loop-text.text-index later c.loop-text-test.false)) c.loop-text.invariant in
    record {
      value = read;
      precede = goals_precede names tasks (sought_by c.loop-text.goals) c.args.first.now (texts later) read;
    }
