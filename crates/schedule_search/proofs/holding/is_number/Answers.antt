use Rattle.std.proofs.Common.{◌<◌, length, sym, ap, refl}
use Rattle.std.proofs.Common.{rules}
use Rattle.std.proofs.lemmas.Option.{slice_get_read}
use Rattle.schedule_search.specs.Holding.{is_number}
use Rattle.schedule_search.proofs.holding.is_number.Goals as goal

pub returns-in-Some : goal.returns-in-Some
returns-in-Some c =
    let within : c.args.register < length c.args.registers.now = search rules in
    ap (is_number c.args.number)
    (sym (slice_get_read c.args.registers.now (length c.args.registers.now) c.args.register c.in-Some.held.now refl within
    c.in-Some.ensures.lookup.1))
