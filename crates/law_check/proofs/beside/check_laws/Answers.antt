use Rattle.std.proofs.Common.{◌≡◌, Some, true, false, List, ◌∷◌, refl, sym, ap, ◌∙◌, arith}
use Rattle.ipc_ids.specs.declared.entry.Entry.{Entry}
use Rattle.ipc_ids.specs.declared.entry.Entry.TheVariants as entry
use Rattle.ipc_ids.specs.Holdings.{present}
use Rattle.law_check.specs.AreaState.{entry_of, is_head_entry}
use Rattle.law_check.proofs.Passing.{whole_next}
use Rattle.law_check.proofs.beside.check_laws.Goals.{then-is_head, else-is_head}
use Rattle.law_check.proofs.beside.check_laws.Goals as goal

present_head : (e : Entry) (p : List Entry) → is_head_entry e ≡ true → Some e ≡ present (e ∷ p)
present_head (entry.Head t asked) p h = refl
present_head (entry.Kill t) p h = refl
present_head (entry.Gone t) p h = refl
present_head (entry.Spawn t) p h = refl
present_head e p h = cc

present_other : (e : Entry) (p : List Entry) → is_head_entry e ≡ false → present p ≡ present (e ∷ p)
present_other (entry.Head t asked) p h = cc
present_other (entry.Kill t) p h = cc
present_other (entry.Gone t) p h = cc
present_other (entry.Spawn t) p h = cc
present_other e p h = refl

pub loop-entry-preserved : goal.loop-entry-preserved
loop-entry-preserved c =
    let i = c.loop-entry.invariant in
    let e : Entry = c.entry-item.result in
    record {
      before = e ∷ i.before;
      judges = c.in_ok-take.ensures.judges i.before i.judges i.now_is i.last_is;
      whole = whole_next c.args.entries.now i.before c.loop-entry.entry-index e c.loop-entry-test.true c.entry-item.is i.whole;
      now_is = elim c.if-is_head.branch [
        | then-is_head w ↦ ap entry_of w.now-is ∙ present_head e i.before (sym c.is_head.ensures ∙ w.if-is_head.true)
        | else-is_head w ↦ ap entry_of w.now-is ∙ i.now_is ∙ present_other e i.before (sym c.is_head.ensures ∙ w.if-is_head.false)
      ];
      last_is = refl;
      few = omega (arith, i.few, c.in_ok-take.ensures.events);
    }
