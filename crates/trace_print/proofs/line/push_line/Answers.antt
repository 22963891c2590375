use Rattle.std.proofs.Common.{◌≡◌, ◌++◌, codes, decimal, arith, rules}
use Rattle.ipc_ids.specs.declared.message.Outcome.TheVariants as got
use Rattle.trace_print.specs.Text.{outcome_text, request_text, task_text}
use Rattle.trace_print.proofs.Parts.{two, three, four}
use Rattle.trace_print.proofs.line.push_line.Goals as goal

pub returns-in-Head-clause-text : goal.returns-in-Head-clause-text
returns-in-Head-clause-text g c =
    let a = c.in-Head in
    rw (a.is)
    (four g.P.Pen.mark _ (task_text a.task) (codes " ") (request_text a.request) (codes "\n")
    c.push_task.ensures.text c.byte.ensures.text c.push_request.ensures.text c.byte-in-Head.ensures.text)

pub returns-in-Kill-clause-text : goal.returns-in-Kill-clause-text
returns-in-Kill-clause-text g c =
    let a = c.in-Kill in
    rw (a.is)
    (three g.P.Pen.mark _ (codes "kill ") (task_text a.task) (codes "\n")
    c.word.ensures.text c.push_task-in-Kill.ensures.text c.byte-in-Kill.ensures.text)

pub returns-in-Gone-clause-text : goal.returns-in-Gone-clause-text
returns-in-Gone-clause-text g c =
    let a = c.in-Gone in
    rw (a.is)
    (two g.P.Pen.mark _ (task_text a.task) (codes " ended\n") c.push_task-in-Gone.ensures.text c.word-in-Gone.ensures.text)

pub returns-in-Spawn-clause-text : goal.returns-in-Spawn-clause-text
returns-in-Spawn-clause-text g c =
    let a = c.in-Spawn in
    rw (a.is)
    (three g.P.Pen.mark _ (codes "spawn ") (task_text a.task) (codes "\n")
    c.word-in-Spawn.ensures.text c.push_task-in-Spawn.ensures.text c.byte-in-Spawn.ensures.text)

pub returns-in-Outcome-Accepted-clause-text : goal.returns-in-Outcome-Accepted-clause-text
returns-in-Outcome-Accepted-clause-text g c =
    let a = c.in-Outcome-Accepted in
    let told : a.field-0 ≡ got.Accepted a.call = search rules in
    rw (a.is, told)
    (two g.P.Pen.mark _ (codes "  = call " ++ decimal a.call.0) (codes "\n")
    c.push_numbered.ensures.text c.byte-in-Outcome-Accepted.ensures.text)

pub returns-in-Outcome : goal.returns-in-Outcome
returns-in-Outcome g c =
    let a = c.in-Outcome in
    record {
      text = rw (a.is)
          (three g.P.Pen.mark _ (codes "  = ") (outcome_text a.outcome) (codes "\n")
          c.word-in-Outcome.ensures.text c.push_outcome.ensures.text c.byte-in-Outcome.ensures.text);
      left = omega arith;
    }
