-- Labels of phones.
use Rattle.std.specs.Prelude.{Bool, ◌==◌, ◌&&◌}
use Rattle.ipc_ids.specs.declared.numbers.Label.{Label}

-- whether two labels are one
abbrev pub same_label : Label → Label → Bool
same_label a b = (a.task.0 == b.task.0) && (a.phone.0 == b.phone.0)
