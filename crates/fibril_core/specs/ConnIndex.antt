-- How connections are found with no look at each of them.
use Rattle.std.specs.Prelude.{◌≡◌, ℕ, ◌<◌, Bool, true, if◌then◌else◌, List, Option, None, Some, slice_get}
use Rattle.std.specs.Map.{lookup}
use Rattle.ipc_ids.specs.declared.numbers.FibrilNo.{FibrilNo}
use Rattle.ipc_ids.specs.declared.numbers.Label.{Label}
use Rattle.ipc_ids.specs.Labels.{same_label}
use Rattle.fibril_core.specs.declared.conn.Conn.{Conn}
use Rattle.fibril_core.specs.Conns.{leads_to, fibril_of, conn_of_label}
use Rattle.fibril_core.specs.ConnLaws.{IsSound}

-- the numbers of the fibrils rise
pub record DoRise (cs : List Conn) : Type 0 where
  pub rise : (i j : ℕ) (a b : Conn) → i < j → slice_get cs i ≡ Some a → slice_get cs j ≡ Some b → a.fibril.0 < b.fibril.0

-- the fibril that the entries by label give this label
abbrev pub fibril_under : Label → List (Label × FibrilNo) → Option FibrilNo
fibril_under label es = lookup (same_label label) es

-- what is kept to find the connections is true of them: each label has the fibril of the connection to which it leads
pub record IsIndex (rising : Bool) (es : List (Label × FibrilNo)) (cs : List Conn) : Type 0 where
  pub sound : IsSound cs
  pub rise : rising ≡ true → DoRise cs
  pub labels : (label : Label) → fibril_under label es ≡ fibril_of (conn_of_label label cs)

-- the label has this fibril after a change, and each other label what it had
pub record KeepsLabel (label : Label) (f : FibrilNo) (es after : List (Label × FibrilNo)) : Type 0 where
  pub at : (other : Label) → fibril_under other after ≡ (if same_label label other then Some f else fibril_under other es)

-- the label that led to the connection has no fibril after a change, and each other label what it had
pub record ForgetsLabel (over : Conn) (es after : List (Label × FibrilNo)) : Type 0 where
  pub at : (other : Label) → fibril_under other after ≡ (if leads_to other over then None else fibril_under other es)
