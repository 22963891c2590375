use Rattle.std.proofs.Common.{◌≡◌, ◌<◌, ◌-◌, ◌++◌, [], Some, length, slice_get, slice_index_or, refl, ◌∙◌, ap, arith}
use Rattle.std.proofs.lemmas.Option.{slice_get_read}
use Rattle.search_core.specs.Node.{trails_of}
use Rattle.search_core.proofs.Trails.{one_back, all_back}
use Rattle.search_core.proofs.nodes.Nodes.back_from.Goals as goal

pub loop-place-init : goal.loop-place-init
loop-place-init c =
    record {
      within = c.requires.there;
      left = ap (λ z. z ++ slice_index_or (trails_of c.args.self.now.later.items) c.args.at []) c.new-path.ensures.items;
    }

pub loop-place-smaller : goal.loop-place-smaller
loop-place-smaller c =
    let items = c.args.self.now.later.items in
    let node = c.index-node.result.now in
    let within : c.loop-place.place - 1 < length items = omega (arith, c.loop-place-test.true, c.loop-place.invariant.within) in
    let before = c.args.self.now.rooted (c.loop-place.place - 1) node
    (slice_get_read items (length items) (c.loop-place.place - 1) node refl within c.index-node.ensures) in
    omega (arith, before, c.loop-place-test.true)

pub loop-place-preserved : goal.loop-place-preserved
loop-place-preserved c =
    let items = c.args.self.now.later.items in
    let node = c.index-node.result.now in
    let within : c.loop-place.place - 1 < length items = omega (arith, c.loop-place-test.true, c.loop-place.invariant.within) in
    let h : slice_get items (c.loop-place.place - 1) ≡ Some node = slice_get_read items (length items) (c.loop-place.place - 1) node refl within c.index-node.ensures in
    let before = c.args.self.now.rooted (c.loop-place.place - 1) node h in
    record {
      within = omega (arith, before, within);
      left = ap (λ z. z ++ slice_index_or (trails_of items) node.before []) c.in_ok-push.ensures.items
          ∙ one_back items c.loop-place.place node c.loop-place.path.items _ c.loop-place-test.true h before c.loop-place.invariant.left;
    }

pub returns : goal.returns
returns c = all_back c.args.self.now.later.items c.args.at c.loop-place.place c.loop-place.path.items c.requires.there c.loop-place-test.false c.loop-place.invariant.left
