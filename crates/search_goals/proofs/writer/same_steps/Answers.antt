use Rattle.std.proofs.Common.{ℕ, ◌≡◌, inl, sym, subst, take, arith}
use Rattle.std.specs.Prelude.{replicate}
use Rattle.search_goals.specs.Writing.{IsStep}
use Rattle.search_goals.proofs.writer.same_steps.Goals as goal

pub returns : goal.returns
returns c =
    let count = c.loop-other.invariant.count in
    let within = c.loop-other.auto.other-index-end in
    record {
      within = omega (arith, count, within);
      same = subst (λ (n : ℕ). take n c.args.events.now ≡ replicate n c.args.event) (sym count) c.loop-other.invariant.same;
      steps = inl (subst IsStep (sym c.in-Step.is) tt);
    }
