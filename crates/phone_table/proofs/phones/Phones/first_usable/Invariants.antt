use Rattle.std.proofs.Common.{◌≡◌, drop}
use Rattle.phone_table.specs.Phones.{first_usable, first_usable_from}
use Rattle.phone_table.specs.Views.{states_of, counts_of}
use Rattle.phone_table.proofs.phones.Phones.first_usable.Given as goal

abbrev pub invariant-loop-i : goal.invariant-loop-i
invariant-loop-i l =
    let rest = drop l.i l.self-inside.phones.items in
    first_usable l.self ≡ first_usable_from l.i (states_of rest) (counts_of rest)
