-- The connections of a task, and what comes to them.
use Rattle.std.specs.Prelude.{ℕ, ◌==◌, Bool, false, true, ◌&&◌, if◌then◌else◌, List, [], ◌∷◌, ◌++◌, map, Option, None, Some, slice_get, slice_set, position}
use Rattle.std.specs.List.{remove}
use Rattle.ipc_ids.specs.declared.numbers.FibrilNo.{FibrilNo}
use Rattle.ipc_ids.specs.declared.numbers.CallNo.{CallNo}
use Rattle.ipc_ids.specs.declared.numbers.Code.{Code}
use Rattle.ipc_ids.specs.declared.numbers.Label.{Label}
use Rattle.ipc_ids.specs.declared.message.Msg.{Msg}
use Rattle.ipc_ids.specs.Codes.{eok, ehangup}
use Rattle.ipc_ids.specs.Labels.{same_label}
use Rattle.fibril_core.specs.declared.conn.Conn.{Conn}
use Rattle.fibril_core.specs.declared.conn.Queued.{Queued}
use Rattle.fibril_core.specs.declared.conn.Routed.{Routed}
use Rattle.fibril_core.specs.declared.conn.Routed.TheVariants as routed
use Rattle.fibril_core.specs.declared.conn.Taken.{Taken}
use Rattle.fibril_core.specs.declared.conn.Taken.TheVariants as taken

-- the connections in the order of their start, and how many more there is room for
pub record ConnsState : Type 0 where
  pub conns : List Conn
  pub spare : ℕ

-- no connections
abbrev pub no_conns : List Conn
no_conns = []

-- the first queued call
abbrev pub first_of : List Queued → Option Queued
first_of [] = None
first_of (q ∷ queue) = Some q

-- the queue behind it
abbrev pub rest_of : List Queued → List Queued
rest_of [] = []
rest_of (q ∷ queue) = queue

-- whether the label leads to the connection
abbrev pub leads_to : Label → Conn → Bool
leads_to label c = c.routes && same_label c.label label

-- whether the fibril serves the connection
abbrev pub serves : FibrilNo → Conn → Bool
serves f c = c.fibril.0 == f.0

-- the connection that stands at a place, if a search found one
abbrev pub conn_at : List Conn → Option ℕ → Option Conn
conn_at cs None = None
conn_at cs (Some i) = slice_get cs i

-- the connection to which the label leads
abbrev pub conn_of_label : Label → List Conn → Option Conn
conn_of_label label cs = conn_at cs (position (leads_to label) cs)

-- the connection of this fibril
abbrev pub conn_of_fibril : FibrilNo → List Conn → Option Conn
conn_of_fibril f cs = conn_at cs (position (serves f) cs)

-- the fibril of a connection
abbrev pub fibril_of : Option Conn → Option FibrilNo
fibril_of None = None
fibril_of (Some c) = Some c.fibril

-- where the label led to the connection, it does so no more, and the connection is closed
abbrev pub lose_label : Label → Conn → Conn
lose_label label c = if leads_to label c then record c { routes = false; closed = true } else c

-- so of all connections
abbrev pub lose_labels : Label → List Conn → List Conn
lose_labels label cs = map (lose_label label) cs

-- a connection as it starts
abbrev pub new_conn : Label → FibrilNo → Conn
new_conn label f = record { fibril = f; label = label; routes = true; queue = []; closed = false; close_call = None }

-- a connection starts, and takes the label from an older one
abbrev pub start : Label → FibrilNo → List Conn → List Conn
start label f cs = lose_labels label cs ++ new_conn label f ∷ []

-- what the fibril of a connection with this queue finds
abbrev pub take_from : Conn → List Queued → Taken
take_from c [] = if c.closed then taken.HungUp c.label else taken.Wait
take_from c (q ∷ queue) = taken.Call q.call q.msg c.label

-- what a fibril finds that asks this connection
abbrev pub take_answer : Option Conn → Taken
take_answer None = taken.NoConnection
take_answer (Some c) = take_from c c.queue

-- the first queued call is taken
abbrev pub take_first : Conn → Conn
take_first c = record c { queue = rest_of c.queue }

-- the connection that stands at a place is another now
abbrev pub with_conn : List Conn → Option ℕ → Option Conn → List Conn
with_conn cs (Some i) (Some c) = slice_set cs i c
with_conn cs (Some i) None = cs
with_conn cs None c = cs

-- a connection that is there after the first queued call was taken
abbrev pub took_first : Option Conn → Option Conn
took_first None = None
took_first (Some c) = Some (take_first c)

-- the connections after their fibril asked for a call
abbrev pub take_next : FibrilNo → List Conn → List Conn
take_next f cs = with_conn cs (position (serves f) cs) (took_first (conn_of_fibril f cs))

-- whether no call has closed a connection with this close call
abbrev pub is_open : Option CallNo → Bool
is_open None = true
is_open (Some n) = false

-- whether a call of this method closes the connection
abbrev pub closes : ℕ → Conn → Bool
closes method c = (method == 0) && is_open c.close_call

-- where a call of this method goes
abbrev pub route_answer : ℕ → Option Conn → Routed
route_answer method None = routed.Unknown
route_answer method (Some c) = if closes method c then routed.Closed c.fibril else routed.Queued c.fibril

-- the call closes the connection or waits at the end of its queue
abbrev pub route_to : CallNo → Msg → Conn → Conn
route_to call msg c =
    if closes msg.method c then record c { close_call = Some call; closed = true }
    else record c { queue = c.queue ++ record { call = call; msg = msg } ∷ [] }

-- so of a connection that is there
abbrev pub routed_to : CallNo → Msg → Option Conn → Option Conn
routed_to call msg None = None
routed_to call msg (Some c) = Some (route_to call msg c)

-- the connections after a call with this label came
abbrev pub route : Label → CallNo → Msg → List Conn → List Conn
route label call msg cs = with_conn cs (position (leads_to label) cs) (routed_to call msg (conn_of_label label cs))

-- the answer to a call that was queued
abbrev pub hung_up : Queued → CallNo × Code
hung_up q = (q.call, ehangup)

-- the answer to a close call, if there is one
abbrev pub close_answer : Option CallNo → List (CallNo × Code)
close_answer None = []
close_answer (Some n) = (n, eok) ∷ []

-- the answers that a connection owes at its end
abbrev pub owed_by : Option Conn → List (CallNo × Code)
owed_by None = []
owed_by (Some c) = map hung_up c.queue ++ close_answer c.close_call

-- the connection that stands at a place is over
abbrev pub without_conn : List Conn → Option ℕ → List Conn
without_conn cs None = cs
without_conn cs (Some i) = remove cs i

-- the connection of the fibril is over
abbrev pub finish : FibrilNo → List Conn → List Conn
finish f cs = without_conn cs (position (serves f) cs)
