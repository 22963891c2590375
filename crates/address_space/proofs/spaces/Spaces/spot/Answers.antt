use Rattle.std.proofs.Common.{◌≡◌, sym, Some}
use Rattle.address_space.specs.Areas.{holder}
use Rattle.address_space.specs.Sound.{IsOver}
use Rattle.address_space.proofs.Keeping.{in_holder, within, room}
use Rattle.address_space.proofs.spaces.Spaces.spot.Goals as goal

pub overflow_sub-result : goal.overflow_sub-result
overflow_sub-result c =
    let is : holder c.args.at c.args.count c.args.right c.areas.result.now ≡ Some c.in-Some.area.now = sym c.in-Some.ensures in
    let found = in_holder (IsOver c.args.self.now.stores c.args.self.now.next_store) c.args.at c.args.count c.args.right c.areas.result.now c.in-Some.area.now c.areas.ensures.over is in
    rw c.base.ensures (within c.args.at c.args.count c.args.right c.in-Some.area.now found.1).from

pub returns-in-Some-clause-room : goal.returns-in-Some-clause-room
returns-in-Some-clause-room c =
    let is : holder c.args.at c.args.count c.args.right c.areas.result.now ≡ Some c.in-Some.area.now = sym c.in-Some.ensures in
    let found = in_holder (IsOver c.args.self.now.stores c.args.self.now.next_store) c.args.at c.args.count c.args.right c.areas.result.now c.in-Some.area.now c.areas.ensures.over is in
    rw (c.store.ensures, c.base.ensures) (room c.args.self.now.stores c.args.self.now.next_store c.in-Some.area.now c.args.at c.args.count found.0 (within c.args.at c.args.count c.args.right c.in-Some.area.now found.1))
