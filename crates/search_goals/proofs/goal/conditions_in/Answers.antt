use Rattle.std.proofs.Common.{◌+◌, List, ap, ◌∙◌, arith}
use Rattle.std.specs.Global.{Vec}
use Rattle.script_reader.specs.Reading.{lines_from}
use Rattle.search_goals.specs.declared.conditions.Condition.{Condition}
use Rattle.search_goals.specs.Goals.{text_words}
use Rattle.search_goals.specs.GoalText.{with_condition, conditions_in}
use Rattle.search_goals.proofs.GoalReading.{condition_read, fault_found}
use Rattle.search_goals.proofs.goal.conditions_in.Goals as goal

pub loop-word-preserved : goal.loop-word-preserved
loop-word-preserved c =
    let names = c.args.names.now in
    let tasks = c.args.tasks.now in
    let n = c.loop-word.number in
    let others = text_words c.in-Some.others.now in
    let whole = conditions_in names tasks (text_words c.args.text.now) in
    let short = c.loop-word.invariant.short in
    let less = c.in-Some.ensures.shorter in
    record {
      told =
          ap (λ (cs : List Condition). lines_from (with_condition names tasks) (n + 1) cs others) c.in_ok-push-in-Ok.ensures.items
          ∙ condition_read names tasks n c.loop-word.conditions.items c.in-Some.word.now others (text_words c.loop-word.rest.now)
          whole c.in-Some.ensures.some c.loop-word.invariant.told c.in-Ok.condition c.in-Ok.ensures;
      short = omega (arith, short, less);
    }

pub returns-in-Err : goal.returns-in-Err
returns-in-Err c =
    fault_found c.args.names.now c.args.tasks.now c.loop-word.number c.loop-word.conditions.items c.in-Some.word.now
    (text_words c.in-Some.others.now) (text_words c.loop-word.rest.now)
    (conditions_in c.args.names.now c.args.tasks.now (text_words c.args.text.now)) c.in-Some.ensures.some c.loop-word.invariant.told
    (λ (conditions : Vec Condition). conditions.items) c.in-Err.fault c.in-Err.ensures
