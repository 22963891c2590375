use Rattle.std.proofs.Common.{◌≡◌, drop}
use Rattle.std.specs.List.{list_any}
use Rattle.search_goals.proofs.NewNames.{has_name}
use Rattle.search_goals.proofs.names.is_template.Given as goal

-- the templates that are left decide
abbrev pub invariant-loop-template : goal.invariant-loop-template
invariant-loop-template l =
    list_any (has_name l.name) (drop l.template-index l.templates) ≡ list_any (has_name l.name) l.templates
