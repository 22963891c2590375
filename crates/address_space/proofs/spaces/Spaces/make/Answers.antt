use Rattle.std.proofs.Common.{◌*◌}
use Rattle.std.specs.Prelude.{replicate}
use Rattle.address_space.proofs.Keeping.{over_new, length-replicate}
use Rattle.address_space.proofs.spaces.Spaces.make.Goals as goal

pub place_area-requires-clause-over : goal.place_area-requires-clause-over
place_area-requires-clause-over c =
    let m = c.args.self.now in
    rw (c.in-Ok.ensures.ok, c.new.ensures) (over_new m.stores m.next_store (replicate (c.args.pages * 4096) 0) (record { base = c.args.base; pages = c.args.pages; rights = c.args.rights; store = c.in-Ok.store }) c.in-Ok.ensures.number (length-replicate (c.args.pages * 4096) 0))
