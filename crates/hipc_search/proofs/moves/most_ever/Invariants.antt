use Rattle.std.proofs.Common.{◌≡◌, ◌≤◌, ◌+◌, ◌*◌, ◌^◌, take}
use Rattle.hipc_search.specs.Moves.{all_made}
use Rattle.hipc_search.proofs.moves.most_ever.Given as goal

abbrev pub invariant-loop-bound : goal.invariant-loop-bound
invariant-loop-bound l =
    record {
      sum : l.all ≡ l.tasks + all_made (take l.bound-index l.bounds);
      fits : l.all ≤ 64 + 2 ^ 32 * l.bound-index;
    }
