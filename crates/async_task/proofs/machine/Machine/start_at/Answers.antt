use Rattle.std.proofs.Common.{◌≡◌, List, Some, refl, ap, subst, ◌∙◌}
use Rattle.std.specs.Prelude.{slice_get}
use Rattle.std.proofs.lemmas.Option.{slice_get_read}
use Rattle.ipc_ids.specs.declared.op.Body.{Body}
use Rattle.async_task.specs.AsyncState.{MachineState}
use Rattle.async_task.proofs.machine.Machine.start_at.Goals as goal

pub returns-in-Some-clause-state : goal.returns-in-Some-clause-state
returns-in-Some-clause-state c =
    let there : slice_get c.args.self.now.state.bodies c.args.i ≡ Some c.in-Some.body.now =
    subst (λ (bs : List Body). slice_get bs c.args.i ≡ Some c.in-Some.body.now)
    (c.as_slice.ensures ∙ ap (λ (m : MachineState). m.state.bodies) c.self.view_is)
    (slice_get_read c.as_slice.result.now _ c.args.i c.in-Some.body.now refl c.in-Some.ensures.lookup.3.0
    c.in-Some.ensures.lookup.1) in
    rw there c.start_in.ensures.state

pub returns-in-Some-clause-grows : goal.returns-in-Some-clause-grows
returns-in-Some-clause-grows c = c.start_in.ensures.grows
