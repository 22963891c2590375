use Rattle.std.proofs.Common.{arith}
use Rattle.search_core.proofs.Packing.{written}
use Rattle.search_core.proofs.packed.push_or_count.Goals as goal

pub returns : goal.returns
returns c =
    record {
      few = omega arith;
      spelt = written c.args.bytes.now.items c.push_zeros.new.bytes.items c.push_word.new.bytes.items c.args.word c.args.zeros
          c.in_ok-push_zeros.ensures c.in_ok-push_word.ensures;
    }
