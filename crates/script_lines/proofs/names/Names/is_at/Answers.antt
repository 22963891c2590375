use Rattle.std.proofs.Common.{◌≡◌, ◌<◌, ◌∙◌, ℕ, List, true, length, get_or, sym, ap, subst}
use Rattle.std.specs.Global.{Vec}
use Rattle.std.specs.Str.{bytes_eq}
use Rattle.std.proofs.lemmas.Slice.Eq.{bytes_eq-Decides}
use Rattle.script_lines.specs.Names.{place_of}
use Rattle.script_lines.proofs.Places.{position_through}
use Rattle.script_lines.proofs.NearPlaces.{first_at}
use Rattle.script_lines.proofs.names.Names.is_at.Goals as goal

pub returns-in-Some-clause-here : goal.returns-in-Some-clause-here
returns-in-Some-clause-here c = λ here.
    let keys = c.self.inside.known.keys in
    let known = c.in-Some.known.now in
    let within : c.args.place < length keys = subst (λ (ks : List (Vec ℕ)). c.args.place < length ks) c.as_slice.ensures.keys c.in-Some.ensures.lookup.3.0 in
    let at : known ≡ get_or keys c.args.place known = subst (λ (ks : List (Vec ℕ)). known ≡ get_or ks c.args.place known) c.as_slice.ensures.keys c.in-Some.ensures.lookup.1 in
    let same : bytes_eq known.items c.args.name.now ≡ true = (bytes_eq-Decides known.items c.args.name.now).1 (sym c.as_slice-in-Some.ensures.value ∙ c.are_same.ensures here) in
    let found = first_at keys c.args.place known c.args.name.now c.as_slice.ensures.unique within (ap (λ (v : Vec ℕ). bytes_eq v.items c.args.name.now) (sym at) ∙ same) in
    sym (position_through (λ (v : Vec ℕ). v.items) (bytes_eq c.args.name.now) keys ∙ ap (λ (names : List (List ℕ)). place_of names c.args.name.now) c.self.view_is) ∙ found
