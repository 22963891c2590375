-- What the calls end as, where a `&mut` to one of them is returned.
use Rattle.std.specs.Prelude.{ℕ}
use Rattle.std.specs.Borrow.{Lends, Fml, MutBor}
use Rattle.call_slab.specs.declared.call.Call.{Call}
use Rattle.call_slab.specs.Calls.{CallsState, change_call}
use Rattle.call_slab.specs.Slots.{SlotsState, with_call}
use Rattle.call_slab.specs.contracts.calls.Calls.{the_row}
use Rattle.call_slab.specs.contracts.call.Call as call
use Rattle.call_slab.specs.contracts.slots.Slots as slots

-- what is written to the borrowed call is what stands under its key in the end
abbrev pub lends_call : MutBor CallsState → ℕ → MutBor Call → Fml
lends_call calls key lent = Lends the_row call.the_row calls lent (λ w. change_call calls.now key (λ _. w))

-- the same of the slots alone
abbrev pub lends_slot_call : MutBor SlotsState → ℕ → MutBor Call → Fml
lends_slot_call from key lent = Lends slots.the_row call.the_row from lent (λ w. with_call from.now key (λ _. w))
