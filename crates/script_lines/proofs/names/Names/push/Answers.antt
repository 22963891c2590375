use Rattle.std.proofs.Common.{◌≡◌, ◌∙◌, ap, ℕ, List, [], ◌∷◌, ◌++◌, false, map}
use Rattle.std.proofs.lemmas.List.{map_push}
use Rattle.std.specs.Prelude.{is_some}
use Rattle.std.specs.Global.{Vec}
use Rattle.std.specs.List.{list_any}
use Rattle.std.specs.Str.{bytes_eq}
use Rattle.script_lines.specs.Names.{place_of}
use Rattle.script_lines.proofs.Places.{position_through, none_any}
use Rattle.script_lines.proofs.names.Names.push.Goals as goal

pub returns : goal.returns
returns c =
    let keys = c.self.inside.known.keys in
    let absent : is_some (place_of (map (λ (v : Vec ℕ). v.items) keys) c.args.name.now) ≡ false = rw c.self.view_is c.requires.new in
    let none : list_any (λ (v : Vec ℕ). bytes_eq c.in_ok-name.name.items v.items) keys ≡ false =
    rw c.in_ok-name.ensures.items (none_any (λ (v : Vec ℕ). bytes_eq c.args.name.now v.items) keys (ap is_some (position_through (λ (v : Vec ℕ). v.items) (bytes_eq c.args.name.now) keys) ∙ absent)) in
    rw (c.in_ok-insert.ensures.keys, none, ← c.self.view_is) (map_push (λ (v : Vec ℕ). v.items) keys c.in_ok-name.name ∙ ap (λ (n : List ℕ). map (λ (v : Vec ℕ). v.items) keys ++ n ∷ []) c.in_ok-name.ensures.items)
