-- What the manager does with a call that comes, and how a fibril ends.
use Rattle.std.specs.Prelude.{ℕ, ◌/◌, ◌%◌, ◌==◌, Bool, true, false, List, [], ◌∷◌, ◌++◌}
use Rattle.std.specs.Prelude.{Option, None, Some, slice_index, position}
use Rattle.std.specs.List.{filter}
use Rattle.ipc_ids.specs.declared.numbers.CallNo.{CallNo}
use Rattle.ipc_ids.specs.declared.numbers.FibrilNo.{FibrilNo}
use Rattle.ipc_ids.specs.declared.numbers.Code.{Code}
use Rattle.ipc_ids.specs.declared.numbers.Label.{Label}
use Rattle.ipc_ids.specs.declared.message.Msg.{Msg}
use Rattle.ipc_ids.specs.declared.message.Why.{Why}
use Rattle.ipc_ids.specs.declared.message.Why.TheVariants as why
use Rattle.ipc_ids.specs.declared.entry.Entry.TheVariants as entry
use Rattle.ipc_ids.specs.declared.op.Body.{Body}
use Rattle.ipc_ids.specs.Codes.{ehangup}
use Rattle.ipc_ids.specs.Methods.{connect_me_to}
use Rattle.fibril_core.specs.declared.conn.Taken.{Taken}
use Rattle.fibril_core.specs.declared.conn.Taken.TheVariants as taken
use Rattle.fibril_core.specs.declared.conn.Routed.{Routed}
use Rattle.fibril_core.specs.declared.conn.Routed.TheVariants as routed
use Rattle.fibril_core.specs.Fibrils.{make_ready, why_of, spawned, next_number, end_current}
use Rattle.fibril_core.specs.Conns.{conn_of_fibril, conn_of_label, fibril_of, take_answer}
use Rattle.fibril_core.specs.Conns.{take_next, route_answer, owed_by, finish}
use Rattle.fibril_core.specs.Conns as conns
use Rattle.async_task.specs.declared.context.Context.{Context}
use Rattle.async_task.specs.Contexts.{new_context, at_next, with_received}
use Rattle.async_task.specs.AsyncState.{AsyncState, Transition, without_entries, context_at}
use Rattle.async_task.specs.AsyncState.{with_context, without_context}
use Rattle.async_task.specs.Answers.{is_of_other_fibril}
use Rattle.async_task.specs.Wanted.{bare_msg}

-- what a fibril takes that waits for the next call of its connection
abbrev pub hand_over : AsyncState → FibrilNo → Taken → Option Context → AsyncState
hand_over a f (taken.Call n msg label) (Some t) =
    with_context a f (at_next (with_received t n msg label))
hand_over a f (taken.HungUp label) (Some t) =
    with_context a f (at_next (with_received t (record { 0 = 0 }) (bare_msg 0) label))
hand_over a f _ t = a

-- it is ready, and takes that
abbrev pub wake_reader : AsyncState → FibrilNo → AsyncState
wake_reader a f =
    hand_over (record a { conns = take_next f a.conns; order = make_ready a.order f }) f
    (take_answer (conn_of_fibril f a.conns)) (context_at a f)

-- so where the fibril is blocked in `next`
abbrev pub reach_blocked : AsyncState → FibrilNo → Option Why → AsyncState
reach_blocked a f (Some why.Message) = wake_reader a f
reach_blocked a f _ = a

abbrev pub reach : AsyncState → FibrilNo → AsyncState
reach a f = reach_blocked a f (why_of a.order f)

-- a call went there; one that belongs to no connection is to be answered
abbrev pub after_route : AsyncState → CallNo → Routed → AsyncState
after_route a n (routed.Queued f) = reach a f
after_route a n (routed.Closed f) = reach a f
after_route a n routed.Unknown = record a { work = a.work ++ (n, ehangup) ∷ [] }

-- a call goes to the connection that its label leads to
abbrev pub route_call : AsyncState → CallNo → Msg → Label → AsyncState
route_call a n msg label =
    after_route (record a { conns = conns.route label n msg a.conns }) n
    (route_answer msg.method (conn_of_label label a.conns))

-- the older connection of a label, if there is one, finds itself closed
abbrev pub reach_holder : AsyncState → Option FibrilNo → AsyncState
reach_holder a None = a
reach_holder a (Some f) = reach a f

-- the label that a connect call gives its connection
abbrev pub called_label : Msg → Label
called_label msg =
    record {
      task = record { 0 = slice_index msg.args 4 / 64 };
      phone = record { 0 = slice_index msg.args 4 % 64 };
    }

-- a connection starts, which fibril f serves
abbrev pub with_connection : AsyncState → Label → FibrilNo → AsyncState
with_connection a label f = record a { conns = conns.start label f a.conns }

-- a new fibril, which keeps that
abbrev pub with_fibril : AsyncState → Context → AsyncState
with_fibril a t = record a { order = spawned a.order; contexts = a.contexts ++ Some t ∷ [] }

-- a connection starts, with a fibril in that body
abbrev pub start_connection :
    AsyncState → CallNo → Msg → Label → ℕ → Label → Transition
start_connection a n msg from body label =
    let f : FibrilNo = next_number a.order in
    let b : AsyncState =
    reach_holder (with_connection a label f) (fibril_of (conn_of_label label a.conns)) in
    record {
      state = with_fibril b (with_received (new_context body) n msg from);
      entries = entry.Starts a.me f label ∷ [];
    }

-- whether a body is that of connections
abbrev pub is_of_connections : Body → Bool
is_of_connections body = body.connection

-- a connect call comes to a task whose connections have that body, or to one that has none
abbrev pub connect_call : AsyncState → CallNo → Msg → Label → Option ℕ → Transition
connect_call a n msg label None = without_entries (route_call a n msg label)
connect_call a n msg label (Some body) =
    start_connection a n msg label body (called_label msg)

-- a call comes, which asks to connect or not
abbrev pub receive_call_by : AsyncState → CallNo → Msg → Label → Bool → Transition
receive_call_by a n msg label true =
    connect_call a n msg label (position is_of_connections a.bodies)
receive_call_by a n msg label false = without_entries (route_call a n msg label)

abbrev pub receive_call : AsyncState → CallNo → Msg → Label → Transition
receive_call a n msg label = receive_call_by a n msg label (msg.method == connect_me_to)

-- the present fibril, which is f, ends with these answers owed
abbrev pub end_owing : AsyncState → FibrilNo → List (CallNo × Code) → Transition
end_owing a f owed =
    record {
      state =
          record (without_context a f) {
            order = end_current a.order;
            awaited = filter (is_of_other_fibril f) a.awaited;
            work = a.work ++ owed;
          };
      entries = entry.Ends a.me f ∷ [];
    }

-- the present fibril, which is f, ends, and so does its connection
abbrev pub end_fibril : AsyncState → FibrilNo → Transition
end_fibril a f =
    end_owing (record a { conns = finish f a.conns }) f (owed_by (conn_of_fibril f a.conns))
