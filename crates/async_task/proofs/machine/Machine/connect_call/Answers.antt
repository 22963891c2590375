use Rattle.std.proofs.Common.{◌≡◌, List, None, Some, ap, sym, ◌∙◌}
use Rattle.std.specs.Prelude.{position}
use Rattle.std.proofs.lemmas.List.{append-nil}
use Rattle.std.proofs.lemmas.Result.{on_ok_weaker}
use Rattle.ipc_ids.specs.declared.op.Body.{Body}
use Rattle.async_task.specs.AsyncState.{MachineState}
use Rattle.async_task.specs.Connections.{is_of_connections}
use Rattle.async_task.proofs.machine.Machine.connect_call.Goals as goal

pub returns-in-Ok-clause-ok : goal.returns-in-Ok-clause-ok
returns-in-Ok-clause-ok c =
    let a = c.args.self.now.state in
    let body : Some c.in-Some.body ≡ position is_of_connections a.bodies =
    c.in-Some.ensures
    ∙ ap (λ (bs : List Body). position is_of_connections bs)
    (c.as_slice.ensures ∙ ap (λ (m : MachineState). m.state.bodies) c.self.view_is) in
    rw (← body)
    (rw (c.called_label.ensures, c.reserve_connection.ensures.state) at c.start_connection.ensures)

pub returns-in-None-clause-ok : goal.returns-in-None-clause-ok
returns-in-None-clause-ok c =
    let a = c.args.self.now.state in
    let none : None ≡ position is_of_connections a.bodies =
    c.in-None.ensures
    ∙ ap (λ (bs : List Body). position is_of_connections bs)
    (c.as_slice.ensures ∙ ap (λ (m : MachineState). m.state.bodies) c.self.view_is) in
    rw (← none)
    (on_ok_weaker c.route_call.result
    (λ e. record { state = e; entries = sym (append-nil c.args.out.now.entries) })
    c.route_call.ensures.ok)
