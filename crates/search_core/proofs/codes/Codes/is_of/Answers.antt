use Rattle.std.proofs.Common.{ℕ, List, ◌≡◌, ◌+◌, ◌<◌, length, refl, sym, ap, ◌∙◌, arith}
use Rattle.std.specs.List.{between}
use Rattle.std.proofs.lemmas.Option.{slice_get_read}
use Rattle.std.proofs.lemmas.Slice.Eq.{bytes_eq-Decides}
use Rattle.search_core.proofs.codes.Codes.is_of.Goals as goal

pub returns-in-Some : goal.returns-in-Some
returns-in-Some c e =
    let bounds = c.args.self.now.bounds.items in
    let ok = c.args.self.now.bounds.ok in
    let within : c.args.place + 1 < length bounds = omega (arith, ok, c.len.ensures, c.if-at-len.false) in
    let part : c.in-Some.bytes.now ≡ between c.index.result.now c.index-2.result.now c.args.self.now.bytes.items =
    c.in-Some.ensures.lookup.0.2
    ∙ ap (λ (z : List ℕ). between c.index.result.now c.index-2.result.now z) c.as_slice.ensures.value in
    record {
      from = c.index.result.now;
      to = c.index-2.result.now;
      begins = slice_get_read bounds (length bounds) c.args.place c.index.result.now refl (omega (arith, within)) c.index.ensures;
      ends = slice_get_read bounds (length bounds) (c.args.place + 1) c.index-2.result.now refl within c.index-2.ensures;
      same = sym part ∙ (bytes_eq-Decides c.in-Some.bytes.now c.args.packed.now).0 (sym c.eq.ensures ∙ e);
    }
