use Rattle.std.proofs.Common.{◌≡◌, ◌++◌, ◌≤◌, [], length, slice_index_or}
use Rattle.search_core.specs.Node.{trails_of}
use Rattle.search_core.proofs.nodes.Nodes.back_from.Given as goal

abbrev pub invariant-loop-place : goal.invariant-loop-place
invariant-loop-place l =
    record {
      within : l.place ≤ length l.self.later.items;
      left : l.path.items ++ slice_index_or (trails_of l.self.later.items) l.place [] ≡ slice_index_or (trails_of l.self.later.items) l.at [];
    }

abbrev pub decreases-loop-place : goal.decreases-loop-place
decreases-loop-place l = l.place
