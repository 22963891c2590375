use Rattle.std.specs.Result.{is_ok}
use Rattle.search_core.proofs.Trails.{pushed_behind, still_rooted}
use Rattle.search_core.proofs.nodes.Nodes.push.Goals as goal

pub invariant_of-self-2 : goal.invariant_of-self-2
invariant_of-self-2 c =
    record {
      rooted = still_rooted c.args.self.now.later.items c.push-2.new.self.items c.args.node (is_ok c.push-2.result)
          c.args.self.now.rooted c.requires.behind c.push-2.ensures.items;
    }

pub returns-clause-trails : goal.returns-clause-trails
returns-clause-trails c = pushed_behind c.args.self.now.later.items c.push-2.new.self.items c.args.node c.in_ok-push-2.ensures.items
