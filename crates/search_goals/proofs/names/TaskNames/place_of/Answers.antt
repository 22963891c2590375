use Rattle.std.proofs.Common.{List, ℕ, ap, ◌∙◌}
use Rattle.std.specs.Global.{Vec}
use Rattle.std.specs.Str.{bytes_eq}
use Rattle.script_lines.specs.Names.{place_of}
use Rattle.script_lines.proofs.Places.{position_through}
use Rattle.search_goals.specs.Goals.{listed}
use Rattle.search_goals.proofs.names.TaskNames.place_of.Goals as goal

pub returns : goal.returns
returns c =
    let name : List ℕ = c.args.name.now in
    c.place_in.ensures
    ∙ position_through (λ (w : Vec ℕ). w.items) (bytes_eq name) c.as_slice.result.now
    ∙ ap (λ (ws : List (Vec ℕ)). place_of (listed ws) name) c.as_slice.ensures.value
    ∙ ap (λ (ns : List (List ℕ)). place_of ns name) c.self.view_is
