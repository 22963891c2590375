use Rattle.std.proofs.Common.{◌≡◌, drop}
use Rattle.ipc_ids.specs.Tables.{named_in, rows}
use Rattle.ipc_ids.proofs.tables.look_up.Given as goal

-- what is left decides
abbrev pub invariant-loop-name : goal.invariant-loop-name
invariant-loop-name g l = named_in (rows (drop l.name-index l.table)) l.word ≡ named_in (rows l.table) l.word
