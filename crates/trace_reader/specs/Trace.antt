-- What bytes a trace is read from.
use Rattle.std.specs.Prelude.{ℕ, ◌≡◌, ◌+◌, length, List, [], ◌∷◌, ◌++◌, ⊤, Result, Ok, Err}
use Rattle.ipc_ids.specs.declared.entry.Entry.{Entry}
use Rattle.trace_print.specs.Text.{text_of_entry, text_of}
use Rattle.ipc_ids.specs.Trace.{TraceState}
use Rattle.trace_reader.specs.declared.beside.TraceFault.{TraceFault}
use Rattle.trace_reader.specs.declared.beside.TraceFault.TheVariants.{Bad, NoMemory}
use Rattle.trace_reader.specs.Line.{IsBuilt}

-- each entry is a value that the types of an entry have
abbrev pub AreBuilt : List Entry → Type 0
AreBuilt [] = ⊤
AreBuilt (e ∷ es) = IsBuilt e × AreBuilt es

-- the bytes are the text of these entries
abbrev pub IsTrace : List Entry → List ℕ → Type 0
IsTrace es bytes = (text_of es ≡ bytes) × AreBuilt es

-- bytes that do not begin with the text of an entry
abbrev pub IsNoLine : List ℕ → Type 0
IsNoLine rest = (e : Entry) (more : List ℕ) → IsBuilt e → rest ≡ text_of_entry e ++ more → ⊥

-- so many lines are the text of entries, but for the last of them, which is the text of none, or lacks
-- its line feed
pub record IsFirstBad (bytes : List ℕ) (line : ℕ) : Type 0 where
  pub before : List Entry
  pub built : AreBuilt before
  pub rest : List ℕ
  pub whole : bytes ≡ text_of before ++ rest
  pub counted : line ≡ length before + 1
  pub some : rest ≡ [] → ⊥
  pub bad : IsNoLine rest

-- these entries were read, unless memory ran out
abbrev pub IsOnly : List Entry → Result TraceState TraceFault → Type 0
IsOnly es (Ok trace) = trace.entries ≡ es
IsOnly es (Err (Bad line)) = ⊥
IsOnly es (Err NoMemory) = ⊤
