use Rattle.std.proofs.Common.{◌≡◌, ◌∙◌, List, length, length-append, ap, sym, subst, arith}
use Rattle.std.specs.Prelude.{IfOk}
use Rattle.ipc_ids.specs.declared.message.Event.{Event}
use Rattle.task_system.specs.Run.{RunState, start, run_from, MayAllHappen}
use Rattle.schedule_search.specs.Problem.{search_of}
use Rattle.schedule_search.proofs.Behind.{all_may}
use Rattle.schedule_search.proofs.told.told_by.Goals as goal

pub told_from-told-requires-clause-few : goal.told_from-told-requires-clause-few
told_from-told-requires-clause-few c =
    let long = ap (λ (z : List Event). length z) (c.as_slice.ensures.value ∙ c.in_ok-all.ensures) in
    let both = length-append c.args.problem.now.from.now c.args.events.now in
    omega (arith, long, both, c.requires.can.few, c.requires.can.sound.few, c.in_ok-replay.ensures.none)

pub told_from-told-requires-clause-may : goal.told_from-told-requires-clause-may
told_from-told-requires-clause-may c =
    subst (λ (z : List Event). MayAllHappen c.in_ok-replay.replay.state z) (sym (c.as_slice.ensures.value ∙ c.in_ok-all.ensures))
    (all_may (search_of c.args.problem.now) c.requires.can.sound c.in_ok-replay.replay.state c.args.events.now
    c.in_ok-replay.ensures.state c.requires.can.tried)

pub returns : goal.returns
returns c =
    subst
    (λ (z : List Event). IfOk c.told_from-told.result (λ told. told.entries ≡ run_from (start c.args.problem.now.script.now) z))
    (c.as_slice.ensures.value ∙ c.in_ok-all.ensures)
    (subst
    (λ (z : RunState). IfOk c.told_from-told.result (λ told. told.entries ≡ run_from z c.as_slice.result.now))
    c.in_ok-replay.ensures.state c.told_from-told.ensures)
