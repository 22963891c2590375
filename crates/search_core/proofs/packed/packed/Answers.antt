use Rattle.std.proofs.Common.{ℕ, ◌≡◌, List, [], sym, subst, take, arith}
use Rattle.std.proofs.lemmas.List.{take_all, take_more}
use Rattle.search_core.specs.Packed.{AreSpeltTo}
use Rattle.search_core.proofs.Packing.{none_spelt, spelt_all}
use Rattle.search_core.proofs.packed.packed.Goals as goal

pub loop-word-init : goal.loop-word-init
loop-word-init c =
    record {
      few = omega arith;
      spelt = subst (λ (z : List ℕ). AreSpeltTo z [] 0) (sym c.in_ok-bytes.ensures.items) none_spelt;
    }

pub loop-word-preserved : goal.loop-word-preserved
loop-word-preserved c =
    record {
      few = c.in_ok-zeros.ensures.few;
      spelt = subst (λ (z : List ℕ). AreSpeltTo c.push_or_count.new.bytes.items z c.in_ok-zeros.zeros)
          (sym (take_more c.args.words.now c.loop-word.word-index 0 c.loop-word-test.true))
          (c.in_ok-zeros.ensures.spelt (take c.loop-word.word-index c.args.words.now) c.loop-word.invariant.spelt);
    }

pub returns : goal.returns
returns c =
    let e : take c.loop-word.word-index c.args.words.now ≡ c.args.words.now =
    take_all c.loop-word.word-index c.args.words.now (omega (arith, c.loop-word-test.false)) in
    spelt_all c.loop-word.bytes.items c.push_zeros.new.bytes.items c.args.words.now c.loop-word.zeros c.in_ok-push_zeros.ensures
    (subst (λ (z : List ℕ). AreSpeltTo c.loop-word.bytes.items z c.loop-word.zeros) e c.loop-word.invariant.spelt)
