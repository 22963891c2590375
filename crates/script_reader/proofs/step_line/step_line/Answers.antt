use Rattle.script_reader.proofs.StepLines.{ends_says}
use Rattle.script_reader.proofs.step_line.step_line.Goals as goal

pub returns : goal.returns
returns c =
    ends_says c.args.text.now c.in_ok-behind_step.field-0.now c.in_ok-name.name.now c.in_ok-name.rest.now c.in_ok-count.count c.in_ok-count.others.now
    c.in_ok-behind_step.ensures c.in_ok-name.ensures.parts c.in_ok-name.ensures.name c.in_ok-count.ensures
