use Rattle.std.proofs.Common.{rules, sym, ◌≡◌, true}
use Rattle.std.specs.Prelude.{is_ok}
use Rattle.std.proofs.lemmas.Cmp.{ranked}
use Rattle.std.proofs.lemmas.List.Sorted.{answers_always}
use Rattle.async_sessions.proofs.Rising.{place_found, none_there}
use Rattle.async_sessions.proofs.Grouped.{placed_by_search}
use Rattle.async_sessions.proofs.groups.put_at_its_place.Goals as goal

pub returns-in-Err-clause-items : goal.returns-in-Err-clause-items
returns-in-Err-clause-items c =
    let xs = c.args.exchanges.now.items in
    let ok : is_ok c.insert.result ≡ true = search rules in
    rw (c.insert.ensures.items, ok)
    (placed_by_search xs c.args.x c.in-Err.i c.requires.rise (search rules) (rw c.deref.ensures.value at (c.in-Err.ensures.position (λ x. x.number.0) (answers_always _ _ _ (λ f a r g called. search rules)))))

pub returns-in_default-clause-items : goal.returns-in_default-clause-items
returns-in_default-clause-items c =
    let xs = c.args.exchanges.now.items in
    let here = place_found c.deref.result.now c.args.x.number c.in_default.field-0 c.in_default.ensures.bound (λ d. ranked _ c.args.x.number.0 _ (sym (c.in_default.ensures.position (λ x. x.number.0) (answers_always _ _ _ (λ f a r g called. search rules)) d))) in
    absurd (none_there c.args.x.number xs c.in_default.field-0 c.requires.absent (rw c.deref.ensures.value at here))
