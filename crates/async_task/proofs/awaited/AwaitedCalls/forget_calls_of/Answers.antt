use Rattle.std.proofs.Common.{◌≡◌, ◌<◌, false, sym, subst, ◌∙◌}
use Rattle.std.specs.Prelude.{◌==◌}
use Rattle.std.specs.List.{list_any}
use Rattle.std.proofs.lemmas.Bool.{eq-eqb}
use Rattle.std.proofs.lemmas.List.Folds.{list_any_at}
use Rattle.std.proofs.lemmas.List.Kept.{AllPairs-filter}
use Rattle.async_task.specs.Answers.{is_of_other_fibril}
use Rattle.async_task.specs.AwaitedCalls.{DoRise}
use Rattle.async_task.proofs.Rising.{filter_none}
use Rattle.async_task.proofs.awaited.AwaitedCalls.forget_calls_of.Goals as goal

pub invariant_of-self : goal.invariant_of-self
invariant_of-self c rising =
    subst DoRise (sym c.keep_others.ensures)
    (AllPairs-filter (λ v w. v.call.0 < w.call.0) (is_of_other_fibril c.args.f)
    c.self.inside.calls.items (c.self.invariant rising))

pub returns-else-is_any_of : goal.returns-else-is_any_of
returns-else-is_any_of c =
    let ws = c.self.inside.calls.items in
    let f = c.args.f in
    let none : list_any (λ w. w.fibril.0 == f.0) ws ≡ false =
    sym c.is_any_of.ensures ∙ c.if-is_any_of.false in
    rw (← c.self.view_is)
    (sym (filter_none (λ w. w.fibril.0) ws f.0 (λ i w within is. absurd (cc
    (none, list_any_at (λ v. v.fibril.0 == f.0) ws i w within (eq-eqb _ f.0 is))))))
