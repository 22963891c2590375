use Rattle.task_system.specs.Run.{RunState}
use Rattle.task_system.proofs.Stepping.{Asker, asker, place_within, told_fits, stepped, step_told, step_part, step_before, ok_then, err_then}
use Rattle.task_system.proofs.Taking.{took_more, took_there, took_step}
use Rattle.task_system.proofs.system.System.step_alive.Goals as goal

pub take-requires-clause-few : goal.take-requires-clause-few
take-requires-clause-few c =
    let before : RunState = record { kernel = c.self.inside.kernel; programs = c.self.inside.programs.items; templates = c.self.inside.templates; names = c.self.inside.names } in
    let it : Asker before c.args.task c.args.request.now = asker before c.args.self.now c.args.task c.args.request.now c.self.view_is c.requires.request in
    took_there _ _ _ _ _ c.index_mut-program.ensures.value (place_within before before c.args.task c.args.request.now it c.saturating_sub.result c.saturating_sub.ensures) c.self.invariant.0 (rw (← c.self.view_is) at c.requires.few_events)

pub take-requires-clause-fits : goal.take-requires-clause-fits
take-requires-clause-fits c =
    let before : RunState = record { kernel = c.self.inside.kernel; programs = c.self.inside.programs.items; templates = c.self.inside.templates; names = c.self.inside.names } in
    let it : Asker before c.args.task c.args.request.now = asker before c.args.self.now c.args.task c.args.request.now c.self.view_is c.requires.request in
    told_fits before before c.args.task c.args.request.now it c.saturating_sub.result c.index_mut-program.result.now _ c.saturating_sub.ensures c.index_mut-program.ensures.value c.in-Ok.ensures.fits

pub invariant_of-self-in-Err : goal.invariant_of-self-in-Err
invariant_of-self-in-Err c = (took_more c.self.inside.kernel.events c.serve_request.new.kernel.events c.self.inside.programs.items c.serve_request.ensures.rises c.self.invariant.0, c.self.invariant.1)

pub invariant_of-self : goal.invariant_of-self
invariant_of-self c =
    let before : RunState = record { kernel = c.self.inside.kernel; programs = c.self.inside.programs.items; templates = c.self.inside.templates; names = c.self.inside.names } in
    let it : Asker before c.args.task c.args.request.now = asker before c.args.self.now c.args.task c.args.request.now c.self.view_is c.requires.request in
    (took_step c.take.result _ _ _ _ _ _ c.take.ensures.taken c.take.ensures.unchanged c.index_mut-program.ensures.value (place_within before before c.args.task c.args.request.now it c.saturating_sub.result c.saturating_sub.ensures) c.self.invariant.0 c.in-Ok.ensures.counted, c.self.invariant.1)

pub returns-in-Ok-clause-state : goal.returns-in-Ok-clause-state
returns-in-Ok-clause-state c =
    let before : RunState = record { kernel = c.self.inside.kernel; programs = c.self.inside.programs.items; templates = c.self.inside.templates; names = c.self.inside.names } in
    let it : Asker before c.args.task c.args.request.now = asker before c.args.self.now c.args.task c.args.request.now c.self.view_is c.requires.request in
    ok_then c.take.result _ _ (λ is.
    stepped before c.args.self.now c.args.task c.args.request.now it
    c.saturating_sub.result
    c.in-Ok.outcome
    c.index_mut-program.result.now
    c.take.new.self
    c.serve_request.new.kernel
    c.self.view_is
    c.saturating_sub.ensures
    c.index_mut-program.ensures.value
    c.in-Ok.ensures.state
    c.in-Ok.ensures.outcome
    is)
    c.take.ensures.state

pub returns-in-Ok-clause-entries : goal.returns-in-Ok-clause-entries
returns-in-Ok-clause-entries c =
    let before : RunState = record { kernel = c.self.inside.kernel; programs = c.self.inside.programs.items; templates = c.self.inside.templates; names = c.self.inside.names } in
    let it : Asker before c.args.task c.args.request.now = asker before c.args.self.now c.args.task c.args.request.now c.self.view_is c.requires.request in
    ok_then c.take.result _ _ (λ is.
    step_told before c.args.self.now c.args.task c.args.request.now it
    c.saturating_sub.result
    c.in-Ok.outcome
    c.index_mut-program.result.now
    c.args.out.now.entries
    c.serve_request.new.out.entries
    c.take.new.out.entries
    c.self.view_is
    c.saturating_sub.ensures
    c.index_mut-program.ensures.value
    c.in-Ok.ensures.outcome
    c.in-Ok.ensures.entries
    is)
    c.take.ensures.entries

pub returns-in-Err-clause-part : goal.returns-in-Err-clause-part
returns-in-Err-clause-part c =
    let before : RunState = record { kernel = c.self.inside.kernel; programs = c.self.inside.programs.items; templates = c.self.inside.templates; names = c.self.inside.names } in
    let it : Asker before c.args.task c.args.request.now = asker before c.args.self.now c.args.task c.args.request.now c.self.view_is c.requires.request in
    step_part before c.args.self.now c.args.task c.args.request.now it c.args.out.now c.serve_request.new.out c.self.view_is c.in-Err.ensures.part

pub returns-in-Ok-clause-part : goal.returns-in-Ok-clause-part
returns-in-Ok-clause-part c =
    let before : RunState = record { kernel = c.self.inside.kernel; programs = c.self.inside.programs.items; templates = c.self.inside.templates; names = c.self.inside.names } in
    let it : Asker before c.args.task c.args.request.now = asker before c.args.self.now c.args.task c.args.request.now c.self.view_is c.requires.request in
    err_then c.take.result _ _ (λ is.
    step_before before c.args.self.now c.args.task c.args.request.now it
    c.args.out.now
    c.serve_request.new.out
    c.take.new.out
    c.self.view_is
    c.in-Ok.ensures.entries
    is)
    c.take.ensures.trace_unchanged
