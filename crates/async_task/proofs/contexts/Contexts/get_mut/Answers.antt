use borrow.Follows.Closed.{read_of}
use Rattle.std.proofs.Common.{refl, sym, ◌∙◌}
use Rattle.std.specs.Prelude.{if◌then◌else◌, nat_lt, ◌^◌}
use Rattle.std.specs.Option.{ghost_name_of}
use Rattle.async_task.specs.Kept.{ContextsState, listed}
use Rattle.indexmap.specs.IndexMap.{spare}
use Rattle.async_task.proofs.Listed.{kept_listed, value_kept, value_listed, value_below}
use Rattle.async_task.proofs.contexts.Contexts.get_mut.Goals as goal

pub invariant_of-self-lent : goal.invariant_of-self-lent
invariant_of-self-lent c _ =
    let i = c.self.inside in (
      λ w. value_below i.made i.kept c.args.place c.in-Some.position c.get_index_mut.ensures.unique c.self.invariant c.in-Some.ensures w,
      c.self.invariant,
    )

pub returns-in-Some : goal.returns-in-Some
returns-in-Some c =
    let i = c.self.inside in
    let place = c.args.place in
    let p = c.in-Some.position in
    let unique = c.get_index_mut.ensures.unique in
    let room = if nat_lt i.made (2 ^ 62) then spare i.kept else 0 in
    let before : ContextsState = record { kept = listed i.made i.kept.entries; spare = room } in
    rw (← c.self.view_is) (
      λ t. read_of (ghost_name_of c.get_index_mut.result)
          (λ w. value_listed i.made i.kept place p unique c.self.invariant c.in-Some.ensures w room t) before,
      record {
        writes_back = tt;
        context = c.get_index_mut.ensures.value ∙ value_kept i.made i.kept place p unique c.self.invariant c.in-Some.ensures;
      },
    )

pub returns-in-None : goal.returns-in-None
returns-in-None c =
    let i = c.self.inside in
    rw (← c.self.view_is) (
      refl,
      record {
        writes_back = tt;
        context = sym (kept_listed i.made i.kept.entries c.args.place c.self.invariant ∙ c.in-None.ensures);
      },
    )
