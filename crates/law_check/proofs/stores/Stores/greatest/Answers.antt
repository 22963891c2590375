use Rattle.std.proofs.Common.{ℕ, ◌≤◌, Some, refl, arith, ap, sym, subst, ◌∙◌, inl, rules}
use Rattle.std.specs.Prelude.{max}
use Rattle.std.specs.List.{list_any}
use Rattle.std.specs.BTreeMap.Range.{IsEntryInRange}
use Rattle.std.specs.declared.ops.Bound.TheVariants.{Included}
use Rattle.std.proofs.lemmas.List.Elements.{All-pop, All-same}
use Rattle.law_check.specs.declared.held.Area.{Area}
use Rattle.law_check.specs.Stores.{triple_cmp, reach, IsTight}
use Rattle.law_check.proofs.Pairs.{exceeds, any_but_last, own_keys, found_there}
use Rattle.law_check.proofs.Blocks.{tight_more, not_beyond, at_most, bounds_of, none_between}
use Rattle.law_check.proofs.stores.Stores.greatest.Goals as goal

pub returns-then-last-first : goal.returns-then-last-first
returns-then-last-first c =
    let a = c.args in
    record { bounds = none_between a.self.now.areas a.task a.store a.first a.last c.if-last-first.true; tight = inl refl }

pub loop-key-init : goal.loop-key-init
loop-key-init c =
    let a = c.args in
    let own = rw (c.new.ensures.start, c.new.ensures.end) at c.range-areas.ensures.in_range (search rules) in
    record {
      any = λ k m. refl;
      found = All-same (IsEntryInRange triple_cmp (Included (a.task, a.store, a.first)) (Included (a.task, a.store, a.last)) a.self.now.areas) _ _
          (ap (λ r. r.iter) c.into_iter-key-iterator.ensures.into_iter_gives ∙ c.rev-key-items.ensures.source) own.0;
      tight = inl refl;
    }

pub loop-key-preserved : goal.loop-key-preserved
loop-key-preserved c =
    let a = c.args in
    let i = c.loop-key.invariant in
    let e : (ℕ × ℕ × ℕ) × Area = (c.in-Some.key.now, c.in-Some.area.now) in
    let most = c.max-most.ensures ∙ ap (max c.loop-key.most) c.reach.ensures in
    let pop = All-pop (IsEntryInRange triple_cmp (Included (a.task, a.store, a.first)) (Included (a.task, a.store, a.last)) a.self.now.areas) c.loop-key.key-iterator.iter c.next.new.self.iter (Some e) c.in-Some.ensures.steps i.found in
    record {
      any = λ k m. any_but_last (exceeds k) c.loop-key.key-iterator.iter c.next.new.self.iter e c.in-Some.ensures.steps
          (not_beyond k c.loop-key.most e (subst (λ (n : ℕ). n ≤ k) most m))
          ∙ i.any k (at_most c.loop-key.most (reach e.0.2 e.1) k (subst (λ (n : ℕ). n ≤ k) most m));
      found = pop.0;
      tight = subst (λ (n : ℕ). IsTight a.self.now.areas a.task a.store a.last n) (sym most)
          (tight_more a.self.now.areas a.task a.store a.last c.loop-key.most e.0.2 e.1
          (found_there a.self.now.areas a.task a.store a.first a.last e.0 e.1 pop.1)
          (own_keys a.task a.store a.first a.last e.0 pop.1.0).2 i.tight);
    }

pub returns : goal.returns
returns c =
    let a = c.args in
    let between = rw (c.new.ensures.start, c.new.ensures.end) at c.range-areas.ensures.between (search rules) in
    record {
      bounds = bounds_of a.self.now.areas a.task a.store a.first a.last c.loop-key.most
          (sym (sym (ap (list_any (exceeds c.loop-key.most)) c.in-None.ensures.steps.0)
          ∙ c.loop-key.invariant.any c.loop-key.most (same c.loop-key.most)
          ∙ ap (λ r. list_any (exceeds c.loop-key.most) r.iter) c.into_iter-key-iterator.ensures.into_iter_gives
          ∙ ap (list_any (exceeds c.loop-key.most)) (c.rev-key-items.ensures.source ∙ between)));
      tight = c.loop-key.invariant.tight;
    }
  where
    same : (n : ℕ) → n ≤ n
    same n = omega arith
