use Rattle.std.proofs.Common.{◌≡◌, Bool, true, false, ◌&&◌, ap, sym, ◌∙◌, subst}
use Rattle.std.specs.Prelude.{IfOk}
use Rattle.schedule_search.specs.OpenCalls.{has_open_call}
use Rattle.schedule_search.specs.Meeting.{is_at_rest}
use Rattle.schedule_search.proofs.rest.is_stuck.Goals as goal

pub returns-then-not-waits : goal.returns-then-not-waits
returns-then-not-waits c =
    let fails : has_open_call c.args.task c.args.replay.now.state.kernel.calls ≡ false =
    ap (has_open_call c.args.task) (sym c.all_calls.ensures) ∙ sym c.has_open_call-waits.ensures ∙ c.if-not-waits.true in
    ap (λ (b : Bool). b && is_at_rest c.args.replay.now.state) (sym fails)

pub returns : goal.returns
returns c =
    let holds : has_open_call c.args.task c.args.replay.now.state.kernel.calls ≡ true =
    ap (has_open_call c.args.task) (sym c.all_calls.ensures) ∙ sym c.has_open_call-waits.ensures ∙ c.if-not-waits.false in
    subst (λ (b : Bool). IfOk c.is_at_rest.result (λ rests. rests ≡ (b && is_at_rest c.args.replay.now.state))) (sym holds) c.is_at_rest.ensures
