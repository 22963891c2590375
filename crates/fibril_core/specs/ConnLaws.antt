-- What the calls on connections come to, in the words of fibrils, labels and owed answers.
use Rattle.std.specs.Prelude.{◌≡◌, ◌≢◌, ℕ, ◌+◌, Bool, true, false, List, length, Option, None, Some, slice_get}
use Rattle.ipc_ids.specs.declared.numbers.CallNo.{CallNo}
use Rattle.ipc_ids.specs.declared.numbers.Code.{Code}
use Rattle.ipc_ids.specs.declared.numbers.FibrilNo.{FibrilNo}
use Rattle.ipc_ids.specs.declared.numbers.Label.{Label}
use Rattle.ipc_ids.specs.Codes.{eok, ehangup}
use Rattle.fibril_core.specs.declared.conn.Conn.{Conn}
use Rattle.fibril_core.specs.declared.conn.Queued.{Queued}
use Rattle.ipc_ids.specs.Labels.{same_label}
use Rattle.fibril_core.specs.Conns.{leads_to, lose_label, new_conn, conn_of_fibril, conn_of_label}

-- what a search finds stands there and passes, and where it finds none, none passes
pub record Finds (passes : Conn → Bool) (cs : List Conn) (found : Option Conn) : Type 0 where
  pub there : (c : Conn) → found ≡ Some c → (i : ℕ) × (slice_get cs i ≡ Some c)
  pub some : (c : Conn) → found ≡ Some c → passes c ≡ true
  pub none : found ≡ None → (i : ℕ) (c : Conn) → slice_get cs i ≡ Some c → passes c ≡ false

-- a connection that isn't closed has its label and no close call
abbrev pub IsOpenOrClosed : Conn → Type 0
IsOpenOrClosed c = c.closed ≡ false → (c.routes ≡ true) × (c.close_call ≡ None)

-- a fibril serves one connection at most, and a label leads to one at most
pub record IsSound (cs : List Conn) : Type 0 where
  pub fibrils : (i j : ℕ) (a b : Conn) → slice_get cs i ≡ Some a → slice_get cs j ≡ Some b → a.fibril.0 ≡ b.fibril.0 → i ≡ j
  pub labels : (i j : ℕ) (a b : Conn) (label : Label) → slice_get cs i ≡ Some a → slice_get cs j ≡ Some b → leads_to label a ≡ true → leads_to label b ≡ true → i ≡ j
  pub closed : (i : ℕ) (a : Conn) → slice_get cs i ≡ Some a → IsOpenOrClosed a

-- an older connection after a newer one took the label
abbrev pub after_loss : Label → Option Conn → Option Conn
after_loss label None = None
after_loss label (Some c) = Some (lose_label label c)

-- a connection has started: the label leads to it, and its fibril serves it; of the others only the one loses its
-- label that had this one, and its fibril serves it still
pub record Starts (label : Label) (f : FibrilNo) (cs after : List Conn) : Type 0 where
  pub by_label : conn_of_label label after ≡ Some (new_conn label f)
  pub by_fibril : conn_of_fibril f after ≡ Some (new_conn label f)
  pub other_labels : (other : Label) → same_label other label ≡ false → conn_of_label other after ≡ conn_of_label other cs
  pub other_fibrils : (g : FibrilNo) → g.0 ≢ f.0 → conn_of_fibril g after ≡ after_loss label (conn_of_fibril g cs)

-- a connection has changed, and no other
pub record Changes (c new : Conn) (cs after : List Conn) : Type 0 where
  pub by_fibril : conn_of_fibril c.fibril after ≡ Some new
  pub by_label : (label : Label) → leads_to label c ≡ true → conn_of_label label after ≡ Some new
  pub other_labels : (label : Label) → leads_to label c ≡ false → conn_of_label label after ≡ conn_of_label label cs
  pub other_fibrils : (g : FibrilNo) → g.0 ≢ c.fibril.0 → conn_of_fibril g after ≡ conn_of_fibril g cs

-- a connection is over, its label leads nowhere, and no other has changed
pub record Ends (c : Conn) (cs after : List Conn) : Type 0 where
  pub by_fibril : conn_of_fibril c.fibril after ≡ None
  pub by_label : (label : Label) → leads_to label c ≡ true → conn_of_label label after ≡ None
  pub other_labels : (label : Label) → leads_to label c ≡ false → conn_of_label label after ≡ conn_of_label label cs
  pub other_fibrils : (g : FibrilNo) → g.0 ≢ c.fibril.0 → conn_of_fibril g after ≡ conn_of_fibril g cs

-- the answers are EHANGUP for each queued call in order, then EOK for the close call, and no more
pub record OwesInOrder (c : Conn) (owed : List (CallNo × Code)) : Type 0 where
  pub queued : (i : ℕ) (q : Queued) → slice_get c.queue i ≡ Some q → slice_get owed i ≡ Some (q.call, ehangup)
  pub closing : (n : CallNo) → c.close_call ≡ Some n → slice_get owed (length c.queue) ≡ Some (n, eok)
  pub closed : (n : CallNo) → c.close_call ≡ Some n → length owed ≡ length c.queue + 1
  pub unclosed : c.close_call ≡ None → length owed ≡ length c.queue
