use Rattle.std.proofs.Common.{ℕ, refl, ap, ◌∙◌, inl, inr}
use Rattle.search_core.specs.Kept.{IsKept}
use Rattle.search_core.specs.Packed.{unpacked}
use Rattle.search_core.proofs.nodes.Nodes.note.Goals as goal

pub returns-then-has : goal.returns-then-has
returns-then-has c =
    let known : (k : ℕ) × IsKept c.args.self.now.codes k c.as_slice.result.now = c.has.ensures c.if-has.true in
    inl (record {
      places = refl;
      codes = refl;
      number = known.0;
      bytes = c.as_slice.result.now;
      there = known.1;
      spelt = ap unpacked c.as_slice.ensures.value ∙ c.in_ok-packed.ensures;
    })

pub returns : goal.returns
returns c =
    inr (record {
      places = c.in_ok-push.ensures.trails;
      bytes = c.as_slice-2.result.now;
      spelt = ap unpacked c.as_slice-2.ensures.value ∙ c.in_ok-packed.ensures;
      behind = c.in_ok-push.ensures.bytes;
      bounds = c.in_ok-push.ensures.bounds;
    })
