use Rattle.std.specs.Prelude.{IsTrue, false, ◌≤◌}
use Rattle.std.proofs.Common.{ℕ, arith, Some, refl, ap, sym, ◌∙◌, rules}
use Rattle.std.specs.List.{list_any}
use Rattle.std.specs.BTreeMap.Range.{range_contains, IsEntryInRange}
use Rattle.std.specs.declared.ops.Bound.TheVariants.{Included}
use Rattle.std.proofs.lemmas.List.Elements.{All-pop, All-same}
use Rattle.law_check.specs.declared.held.Area.{Area}
use Rattle.law_check.specs.Stores.{triple_cmp}
use Rattle.law_check.proofs.Pairs.{seen_in, in_range, reaches_from, reaching, any_but_last, found_there}
use Rattle.law_check.proofs.stores.Stores.is_found.Goals as goal

pub loop-key-init : goal.loop-key-init
loop-key-init c =
    let a = c.args in
    let own = rw (c.new.ensures.start, c.new.ensures.end) at c.range-areas.ensures.in_range (search rules) in
    record {
      any = refl;
      found = All-same (IsEntryInRange triple_cmp (Included (a.task, a.store, 0)) (Included (a.task, a.store, a.at)) a.self.now.areas) _ _
          (ap (λ r. r.iter) c.into_iter-key-iterator.ensures.into_iter_gives ∙ c.rev-key-items.ensures.source) own.0;
    }

pub loop-key-preserved : goal.loop-key-preserved
loop-key-preserved c =
    let a = c.args in
    let i = c.loop-key.invariant in
    record {
      any = any_but_last (reaching a.at a.count) c.loop-key.key-iterator.iter c.next.new.self.iter (c.in-Some.key.now, c.in-Some.area.now)
          c.in-Some.ensures.steps (sym c.if-reaches.ensures)
          ∙ i.any;
      found = (All-pop (IsEntryInRange triple_cmp (Included (a.task, a.store, 0)) (Included (a.task, a.store, a.at)) a.self.now.areas)
          c.loop-key.key-iterator.iter c.next.new.self.iter (Some (c.in-Some.key.now, c.in-Some.area.now)) c.in-Some.ensures.steps i.found).0;
    }

pub returns-then-reaches : goal.returns-then-reaches
returns-then-reaches c =
    let a = c.args in
    let here = (All-pop (IsEntryInRange triple_cmp (Included (a.task, a.store, 0)) (Included (a.task, a.store, a.at)) a.self.now.areas)
    c.loop-key.key-iterator.iter c.next.new.self.iter (Some (c.in-Some.key.now, c.in-Some.area.now)) c.in-Some.ensures.steps c.loop-key.invariant.found).1 in (
      λ yes. (c.in-Some.key.now.2, c.in-Some.area.now, found_there a.self.now.areas a.task a.store 0 a.at c.in-Some.key.now c.in-Some.area.now here, sym c.if-reaches.ensures),
      λ around. refl,
    )

pub returns : goal.returns
returns c =
    let a = c.args in
    let f = reaching a.at a.count in
    let es = a.self.now.areas.entries in
    let between = rw (c.new.ensures.start, c.new.ensures.end) at c.range-areas.ensures.between (search rules) in (
      λ yes. absurd (never yes),
      λ around.
          sym (ap (list_any f) c.in-None.ensures.steps.0)
          ∙ c.loop-key.invariant.any
          ∙ ap (λ r. list_any f r.iter) c.into_iter-key-iterator.ensures.into_iter_gives
          ∙ ap (list_any f) (c.rev-key-items.ensures.source ∙ between)
          ∙ seen_in f (λ (e : (ℕ × ℕ × ℕ) × Area). range_contains triple_cmp (Included (a.task, a.store, 0)) (Included (a.task, a.store, a.at)) e.0) es a.task a.store around.0 around.1 around.2
          (in_range a.task a.store around.0 0 a.at (zero_le around.0) (reaches_from around.0 around.1 a.at a.count around.3).0) around.3,
    )
  where
    never : IsTrue false → ⊥
    never h = cc

    zero_le : (n : ℕ) → 0 ≤ n
    zero_le n = omega arith
