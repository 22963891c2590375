use Rattle.std.proofs.Common.{◌≡◌, Equal, get_or, length, rules, sym}
use Rattle.std.specs.Ordering.{nat_cmp}
use Rattle.std.specs.VecDeque.{deque_len}
use Rattle.std.proofs.lemmas.Cmp.{ranked}
use Rattle.std.proofs.lemmas.List.Sorted.{answers_always}
use Rattle.fibril_core.specs.declared.fibrils.Status.TheVariants.{Ended}
use Rattle.fibril_core.specs.declared.fibrils.Fibril.{Fibril}
use Rattle.fibril_core.proofs.Live.{place_found, place_none}
use Rattle.fibril_core.proofs.live_fibrils.place_of.Goals as goal

pub returns-in-Ok-clause-found : goal.returns-in-Ok-clause-found
returns-in-Ok-clause-found c =
    let live = c.args.fibrils.now.items in
    let same : length live ≡ deque_len c.args.fibrils.now = search rules in
    let i = c.in-Ok.i in
    let d : Fibril = record { number = c.args.f; status = Ended; stamp = 0 } in
    let found : nat_cmp (get_or live i d).number.0 c.args.f.0 ≡ Equal = c.in-Ok.ensures.position (λ x. x.number.0) (answers_always _ _ _ (λ f a r g called. search rules)) d in
    place_found live c.args.f i d (rw same c.in-Ok.ensures.bound) (ranked _ c.args.f.0 _ (sym found))

pub returns-in-Err-clause-none : goal.returns-in-Err-clause-none
returns-in-Err-clause-none c =
    place_none c.args.fibrils.now.items c.args.f c.in-Err.field-0 c.requires.rise (c.in-Err.ensures.position (λ x. x.number.0) (answers_always _ _ _ (λ f a r g called. search rules)))
