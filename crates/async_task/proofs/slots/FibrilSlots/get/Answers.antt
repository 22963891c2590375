use Rattle.std.proofs.Common.{◌≡◌, List, Some, refl, sym, ap, subst, ◌∙◌}
use Rattle.std.specs.Prelude.{slice_get}
use Rattle.std.proofs.lemmas.Option.{slice_get_read}
use Rattle.async_task.specs.declared.context.Slot.{Slot}
use Rattle.async_task.specs.Contexts.{slot_in}
use Rattle.async_task.proofs.Filled.{filled_at}
use Rattle.async_task.proofs.slots.FibrilSlots.get.Goals as goal

pub returns-in-Some : goal.returns-in-Some
returns-in-Some c =
    let used = c.self.inside.used.items in
    let there : slice_get used c.args.slot ≡ Some c.in-Some.slot.now =
    subst (λ (slots : List Slot). slice_get slots c.args.slot ≡ Some c.in-Some.slot.now) c.as_slice.ensures.value
    (slice_get_read c.as_slice.result.now _ c.args.slot c.in-Some.slot.now refl c.in-Some.ensures.lookup.3.0
    c.in-Some.ensures.lookup.1) in
    rw (← c.self.view_is) (sym (filled_at used c.args.slot ∙ ap slot_in there))
