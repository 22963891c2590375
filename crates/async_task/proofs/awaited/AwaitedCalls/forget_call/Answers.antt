use Rattle.std.proofs.Common.{rules, ◌≡◌, sym, ◌∙◌}
use Rattle.std.specs.List.{remove}
use Rattle.std.proofs.lemmas.Fn.{filter_same}
use Rattle.async_task.specs.Answers.{is_of_other_call}
use Rattle.async_task.proofs.Rising.{filter_none, filter_there}
use Rattle.async_task.proofs.awaited.AwaitedCalls.forget_call.Goals as goal

pub returns-then-not-self : goal.returns-then-not-self
returns-then-not-self c =
    rw (← c.self.view_is)
    (filter_same _ (is_of_other_call c.args.call) _ (λ x b f' k. search rules) _ _
    c.retain.ensures.filtered)

pub returns-in-Some : goal.returns-in-Some
returns-in-Some c =
    let i = c.self.inside in
    let there = c.in-Some.ensures in
    let removed : c.remove.new.self.items ≡ remove i.calls.items c.in-Some.i = search rules in
    rw (← c.self.view_is)
    (removed ∙ filter_there (λ w. w.call.0) i.calls.items c.args.call.0 c.in-Some.i
    (c.self.invariant c.if-not-self.false) there.0 there.1)

pub returns-in_default : goal.returns-in_default
returns-in_default c =
    rw (← c.self.view_is)
    (sym (filter_none (λ w. w.call.0) c.self.inside.calls.items c.args.call.0 c.in_default.ensures))
