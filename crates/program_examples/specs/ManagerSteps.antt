-- What the manager of an async task makes of what it receives, of answers that are owed, and of the end of a fibril, a
-- row for each, with all values apart.
use Rattle.std.specs.Prelude.{◌≡◌, ℕ, true, false, List, [], ◌∷◌, ◌++◌, Option, None, Some}
use Rattle.ipc_ids.specs.declared.numbers.ExchangeNo.{ExchangeNo}
use Rattle.ipc_ids.specs.declared.message.ExchangeMode.TheVariants.{Parallel}
use Rattle.ipc_ids.specs.declared.message.Outcome.{Outcome}
use Rattle.ipc_ids.specs.declared.message.Outcome.TheVariants as got
use Rattle.ipc_ids.specs.declared.message.Why.{Why}
use Rattle.ipc_ids.specs.declared.message.Why.TheVariants as why
use Rattle.ipc_ids.specs.declared.entry.Entry.{Entry}
use Rattle.ipc_ids.specs.declared.entry.Entry.TheVariants as entry
use Rattle.ipc_ids.specs.declared.op.Op.{Op}
use Rattle.ipc_ids.specs.declared.op.Op.TheVariants as op
use Rattle.fibril_core.specs.declared.conn.Conn.{Conn}
use Rattle.fibril_core.specs.declared.conn.Queued.{Queued}
use Rattle.fibril_core.specs.declared.fibrils.Status.TheVariants as status
use Rattle.fibril_core.specs.declared.fibrils.Fibril.{Fibril}
use Rattle.fibril_core.specs.Fibrils.{FibrilOrder}
use Rattle.async_sessions.specs.declared.sessions.Held.TheVariants.{By}
use Rattle.async_task.specs.declared.context.Slot.{Slot}
use Rattle.async_task.specs.declared.context.Slot.TheVariants as slot
use Rattle.async_task.specs.declared.context.Context.{Context}
use Rattle.async_task.specs.AsyncState.{AsyncState}
use Rattle.async_task.specs.Steps.{step}
use Rattle.async_task.specs.Program.{started}
use Rattle.program_examples.specs.Apart.{from, five, call_number, code, message, reply, label}
use Rattle.program_examples.specs.FibrilTask.{task, task_number, fibril, exchange, fibril_as, first, fourth, fifth, sixth, seventh, own, gone_on, kept, all_keep, handles, slots, answered, connection, queued, awaits, exchange_as, exchanges, pool, body, bodies}

-- no fibril is ready: the second is blocked on this, since stamp 5, and the third on a message
abbrev pub asleep : Fibril → ℕ → FibrilOrder
asleep second next =
    record {
      fibrils = first ∷ second ∷ fibril_as 3 (status.Blocked why.Message) 8 ∷ fourth ∷ fifth ∷ sixth ∷ seventh ∷ [];
      next_stamp = next;
    }

-- the task, whose second fibril waits for this
abbrev pub waiting : Why → Op → AsyncState
waiting w o = record (task o) { order = asleep (fibril_as 2 (status.Blocked w) 5) 9 }

-- the second fibril is ready, behind all others
abbrev pub woken : FibrilOrder
woken = asleep (fibril_as 2 status.Ready 9) 10

-- what the task receives makes this of it, and tells that
abbrev pub Receives : AsyncState → Outcome → AsyncState → List Entry → Type 0
Receives before outcome after told = step before outcome ≡ record { state = after; entries = told }

-- the answer of call n, with these values
abbrev pub answer : ℕ → ℕ → Outcome
answer n c = got.Answered (call_number n) (reply c (five 75 76 77 78 79))

-- the answer that the second fibril waits for goes into its registers; one that nobody waits for is kept in its slot
pub record AnswersCome : Type 0 where
  pub to_who_waits : Receives (waiting (why.Answer (call_number 72)) (op.Wait 3)) (answer 72 74)
      (record (waiting (why.Answer (call_number 72)) (op.Wait 3)) {
        order = woken;
        contexts =
            kept (record (gone_on (0 ∷ from 201 8 ++ 72 ∷ 74 ∷ five 75 76 77 78 79 ++ from 216 16)) {
              slots = slots slot.Closed answered slot.Closed;
            });
        awaited = awaits 71 1 (Some 6) ∷ [];
      })
      (entry.Gets task_number (fibril 2) (call_number 72) (Some 3) (reply 74 (five 75 76 77 78 79)) ∷ [])
  pub to_a_slot : Receives (waiting why.Message op.Next) (answer 72 74)
      (record (waiting why.Message op.Next) {
        contexts =
            kept (record own {
              slots = slots (slot.Answered (call_number 72) (reply 74 (five 75 76 77 78 79))) answered slot.Closed;
            });
        awaited = awaits 71 1 (Some 6) ∷ [];
      })
      (entry.Gets task_number (fibril 2) (call_number 72) (Some 3) (reply 74 (five 75 76 77 78 79)) ∷ [])
  pub to_nobody : Receives (waiting why.Message op.Next) (answer 70 74) (waiting why.Message op.Next) []

-- the second fibril waits for the answer of its connect call 72
abbrev pub connecting : ℕ → AsyncState
connecting s =
    record (waiting (why.Answer (call_number 72)) (op.Begin 6 s)) {
      awaited = awaits 71 1 (Some 6) ∷ awaits 72 2 None ∷ [];
    }

-- it has come
abbrev pub connected : ℕ → Context → AsyncState
connected s t = record (connecting s) { order = woken; awaited = awaits 71 1 (Some 6) ∷ []; contexts = kept t }

-- the entry that tells of the answer
abbrev pub gets : ℕ → Entry
gets c = entry.Gets task_number (fibril 2) (call_number 72) None (reply c (five 75 76 77 78 79))

-- it gives the phone of its fifth argument, and with ELIMIT the fibril keeps that in mind
pub record ConnectsAreAnswered : Type 0 where
  pub begins : Receives (connecting 9) (answer 72 0)
      (record (connected 9 (record (gone_on (0 ∷ from 201 31)) {
        handles = handles (Some (exchange 31)) (Some (exchange 34)) (Some (exchange 37)) (Some (exchange 38));
      })) {
        pool =
            record pool {
              exchanges = exchanges ++ exchange_as 38 9 79 Parallel (By (fibril 2)) 0 ∷ [];
              next_number = 39;
            };
      })
      (gets 0 ∷ entry.Begins task_number (fibril 2) (exchange 38) Parallel 9 79 ∷ [])
  pub refused : Receives (connecting 9) (answer 72 98)
      (connected 9 (gone_on (98 ∷ from 201 31)))
      (gets 98 ∷ entry.RefusedOp task_number (fibril 2) (code 98) ∷ [])
  pub limited : Receives (connecting 9) (answer 72 5) (connected 9 (record own { short = true })) (gets 5 ∷ [])
  pub of_a_session_that_is_gone : Receives (connecting 8) (answer 72 0) (connected 8 own) (gets 0 ∷ [])

-- call 83 comes from this label
abbrev pub call : ℕ → ℕ → ℕ → Outcome
call method t p = got.Received (call_number 83) (message method (five 91 92 93 94 457)) (label t p)

-- the registers with which a fibril takes the call
abbrev pub called : ℕ → ℕ → ℕ → Context → Context
called method t p before =
    record before { registers = 0 ∷ 201 ∷ 83 ∷ method ∷ five 91 92 93 94 457 ++ from 209 7 ++ t ∷ p ∷ from 218 14 }

-- with these connections
abbrev pub conns_of : AsyncState → List Conn → AsyncState
conns_of a conns = record a { conns = conns }

-- slots without calls, and handles that name nothing
abbrev pub all_closed : List Slot
all_closed =
    slot.Closed ∷ slot.Closed ∷ slot.Closed ∷ slot.Closed ∷ slot.Closed ∷ slot.Closed ∷ slot.Closed ∷ slot.Closed
    ∷ []

abbrev pub all_unnamed : List (Option ExchangeNo)
all_unnamed = None ∷ None ∷ None ∷ None ∷ None ∷ None ∷ None ∷ None ∷ []

-- a fibril of the third body that starts with a connect call, from phone 22 of task 21
abbrev pub started_with : ℕ → Option Context
started_with fifth =
    Some (record {
      body = 2;
      place = 0;
      registers =
          0 ∷ 0 ∷ 83 ∷ 2 ∷ five 91 92 93 94 fifth ++ 0 ∷ 0 ∷ 0 ∷ 0 ∷ 0 ∷ 0 ∷ 0 ∷ 21 ∷ 22
          ∷ 0 ∷ 0 ∷ 0 ∷ 0 ∷ 0 ∷ 0 ∷ 0 ∷ 0 ∷ 0 ∷ 0 ∷ 0 ∷ 0 ∷ 0 ∷ 0 ∷ [];
      slots = all_closed;
      handles = all_unnamed;
      short = false;
    })

-- what the second fibril keeps after a closing
abbrev pub hung_up : Context
hung_up = gone_on (0 ∷ 201 ∷ 0 ∷ 0 ∷ five 0 0 0 0 0 ++ from 209 7 ++ 7 ∷ 8 ∷ from 218 14)

-- a connection that the eighth fibril serves
abbrev pub new_connection : (task phone : ℕ) → Conn
new_connection t p = record (connection []) { fibril = fibril 8; label = label t p }

-- a connection that this call has closed
abbrev pub closed_by : ℕ → List Queued → Conn
closed_by n queue = record (connection queue) { closed = true; close_call = Some (call_number n) }

-- a call goes to the connection of its label, or starts one: 457 is 64 times 7 and 9, so its label is phone 9 of task 7
pub record CallsCome : Type 0 where
  pub queued_last : Receives (waiting (why.Answer (call_number 72)) (op.Wait 3)) (call 603 7 8)
      (conns_of (waiting (why.Answer (call_number 72)) (op.Wait 3))
      (connection (queued 81 601 ∷ queued 82 602
      ∷ record { call = call_number 83; msg = message 603 (five 91 92 93 94 457) } ∷ []) ∷ []))
      []
  pub to_who_waits : Receives (conns_of (waiting why.Message op.Next) (connection [] ∷ [])) (call 603 7 8)
      (record (conns_of (waiting why.Message op.Next) (connection [] ∷ [])) {
        order = woken;
        contexts = kept (record (called 603 7 8 own) { place = 3 });
      })
      []
  pub closes : Receives (waiting (why.Answer (call_number 72)) (op.Wait 3)) (call 0 7 8)
      (conns_of (waiting (why.Answer (call_number 72)) (op.Wait 3))
      (record (connection (queued 81 601 ∷ queued 82 602 ∷ [])) {
        closed = true;
        close_call = Some (call_number 83);
      } ∷ []))
      []
  pub stray : Receives (waiting why.Message op.Next) (call 603 8 7)
      (record (waiting why.Message op.Next) { work = (call_number 83, code 6) ∷ [] })
      []
  pub starts : Receives (waiting (why.Answer (call_number 72)) (op.Wait 3)) (call 2 21 22)
      (record (waiting (why.Answer (call_number 72)) (op.Wait 3)) {
        conns = connection (queued 81 601 ∷ queued 82 602 ∷ []) ∷ new_connection 7 9 ∷ [];
        order =
            record {
              fibrils =
                  (asleep (fibril_as 2 (status.Blocked (why.Answer (call_number 72))) 5) 9).fibrils
                  ++ fibril_as 8 status.Ready 9 ∷ [];
              next_stamp = 10;
            };
        contexts = kept own ++ started_with 457 ∷ [];
      })
      (entry.Starts task_number (fibril 8) (label 7 9) ∷ [])
  -- an older connection of the label, whose fibril waits, loses it and is closed; 456 is 64 times 7 and 8
  pub starts_again : Receives (conns_of (waiting why.Message op.Next) (connection [] ∷ []))
      (got.Received (call_number 83) (message 2 (five 91 92 93 94 456)) (label 21 22))
      (record (waiting why.Message op.Next) {
        conns = record (connection []) { routes = false; closed = true } ∷ new_connection 7 8 ∷ [];
        order =
            record { fibrils = woken.fibrils ++ fibril_as 8 status.Ready 10 ∷ []; next_stamp = 11 };
        contexts = kept hung_up ++ started_with 456 ∷ [];
      })
      (entry.Starts task_number (fibril 8) (label 7 8) ∷ [])
  pub closes_who_waits : Receives (conns_of (waiting why.Message op.Next) (connection [] ∷ [])) (call 0 7 8)
      (record (waiting why.Message op.Next) {
        conns = record (connection []) { closed = true; close_call = Some (call_number 83) } ∷ [];
        order = woken;
        contexts = kept hung_up;
      })
      []
  pub closes_again : Receives (conns_of (waiting (why.Answer (call_number 72)) (op.Wait 3)) (closed_by 84 [] ∷ []))
      (call 0 7 8)
      (conns_of (waiting (why.Answer (call_number 72)) (op.Wait 3))
      (closed_by 84 (record { call = call_number 83; msg = message 0 (five 91 92 93 94 457) } ∷ []) ∷ []))
      []
  pub connects_without_a_body : Receives (record (waiting why.Message op.Next) { bodies = body (op.Next ∷ []) ∷ [] })
      (call 2 21 22)
      (record (waiting why.Message op.Next) {
        bodies = body (op.Next ∷ []) ∷ [];
        work = (call_number 83, code 6) ∷ [];
      })
      []
  pub nothing : Receives (waiting why.Message op.Next) got.Empty (waiting why.Message op.Next) []

-- an answer that is owed is made, and the others stay; the second fibril ends, its connection owes EHANGUP for each
-- call and then EOK for the close call
pub record EndsAndWork : Type 0 where
  pub owed : step (record (task op.Yield) { work = (call_number 83, code 84) ∷ (call_number 85, code 86) ∷ [] })
      (got.Refused (code 98))
      ≡ record {
        state = record (task op.Yield) { work = (call_number 85, code 86) ∷ [] };
        entries = [];
      }
  pub fibril_ends : step (record (task op.Yield) {
    contexts = kept (record own { place = 3 });
    conns =
        record (connection (queued 81 601 ∷ queued 82 602 ∷ [])) {
          closed = true;
          close_call = Some (call_number 84);
        } ∷ [];
  }) got.Done
      ≡ record {
        state =
            record (task op.Yield) {
              order =
                  record {
                    fibrils =
                        first ∷ fibril_as 2 status.Ended 0 ∷ fibril_as 3 status.Ready 8 ∷ fourth ∷ fifth ∷ sixth
                        ∷ seventh ∷ [];
                    next_stamp = 9;
                  };
              contexts = all_keep None;
              conns = [];
              awaited = awaits 71 1 (Some 6) ∷ [];
              work = (call_number 81, code 6) ∷ (call_number 82, code 6) ∷ (call_number 84, code 0) ∷ [];
            };
        entries = entry.Ends task_number (fibril 2) ∷ [];
      }

-- what a fibril keeps before the first operation of its body
abbrev pub new : ℕ → Option Context
new number =
    Some (record {
      body = number;
      place = 0;
      registers =
          0 ∷ 0 ∷ 0 ∷ 0 ∷ 0 ∷ 0 ∷ 0 ∷ 0 ∷ 0 ∷ 0 ∷ 0 ∷ 0 ∷ 0 ∷ 0 ∷ 0 ∷ 0
          ∷ 0 ∷ 0 ∷ 0 ∷ 0 ∷ 0 ∷ 0 ∷ 0 ∷ 0 ∷ 0 ∷ 0 ∷ 0 ∷ 0 ∷ 0 ∷ 0 ∷ 0 ∷ 0 ∷ [];
      slots = all_closed;
      handles = all_unnamed;
      short = false;
    })

-- at the start a fibril stands before each body, but for that of connections, and they are ready in this order
abbrev pub TaskStart : Type 0
TaskStart = started task_number (bodies op.Yield)
    ≡ record {
      me = task_number;
      bodies = bodies op.Yield;
      order =
          record {
            fibrils =
                fibril_as 1 status.Ready 1 ∷ fibril_as 2 status.Ready 2 ∷ fibril_as 3 status.Ready 3
                ∷ fibril_as 4 status.Ready 4 ∷ [];
            next_stamp = 5;
          };
      contexts = new 0 ∷ new 1 ∷ new 3 ∷ new 4 ∷ [];
      conns = [];
      pool =
          record {
            sessions =
                None ∷ None ∷ None ∷ None ∷ None ∷ None ∷ None ∷ None ∷ None ∷ None ∷ None ∷ None ∷ None ∷ None
                ∷ None ∷ None ∷ [];
            exchanges = [];
            next_number = 1;
            next_stamp = 1;
          };
      awaited = [];
      work = [];
    }
