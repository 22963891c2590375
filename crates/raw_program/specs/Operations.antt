-- The operations of a body, where one that is the same as the one before it is kept once.
use Rattle.std.specs.Prelude.{⊤, ℕ, ◌<◌, List, [], ◌∷◌, map, slice_index_or}
use Rattle.ipc_ids.specs.declared.op.Op.{Op}
use Rattle.ipc_ids.specs.declared.op.Op.TheVariants as op

-- the operation with this number among those that differ; a number beyond them is of none that counts
abbrev pub operation_at : List Op → ℕ → Op
operation_at distinct i = slice_index_or distinct i op.Receive

-- all operations: which of those that differ each is
abbrev pub operations : List Op → List ℕ → List Op
operations distinct which = map (operation_at distinct) which

-- each number is below this one
abbrev pub AreBelow : ℕ → List ℕ → Type 0
AreBelow n [] = ⊤
AreBelow n (i ∷ is) = (i < n) × AreBelow n is
