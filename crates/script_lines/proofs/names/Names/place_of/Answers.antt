use Rattle.std.proofs.Common.{◌∙◌, ap, ℕ, List}
use Rattle.std.specs.Global.{Vec}
use Rattle.std.specs.Str.{bytes_eq}
use Rattle.script_lines.specs.Names.{place_of}
use Rattle.script_lines.proofs.Places.{position_through}
use Rattle.script_lines.proofs.names.Names.place_of.Goals as goal

pub returns-clause-value : goal.returns-clause-value
returns-clause-value c = c.get_index_of.ensures.index ∙ position_through (λ (v : Vec ℕ). v.items) (bytes_eq c.args.name.now) c.self.inside.known.keys ∙ ap (λ (names : List (List ℕ)). place_of names c.args.name.now) c.self.view_is
