-- What outcomes make of a fibril's sessions and exchanges, a row for each, with all values apart.
use Rattle.std.specs.Prelude.{◌≡◌, ℕ, List, [], ◌∷◌, ◌++◌, None, Some}
use Rattle.ipc_ids.specs.declared.message.ExchangeMode.{ExchangeMode}
use Rattle.ipc_ids.specs.declared.message.ExchangeMode.TheVariants.{Atomic, Serialize, Parallel}
use Rattle.ipc_ids.specs.declared.message.Outcome.{Outcome}
use Rattle.ipc_ids.specs.declared.message.Outcome.TheVariants as got
use Rattle.ipc_ids.specs.declared.message.Why.TheVariants as why
use Rattle.ipc_ids.specs.declared.entry.Entry.{Entry}
use Rattle.ipc_ids.specs.declared.entry.Entry.TheVariants as entry
use Rattle.ipc_ids.specs.declared.op.Value.TheVariants.{Register}
use Rattle.ipc_ids.specs.declared.op.Op.{Op}
use Rattle.ipc_ids.specs.declared.op.Op.TheVariants as op
use Rattle.fibril_core.specs.declared.fibrils.Status.TheVariants as status
use Rattle.async_sessions.specs.declared.sessions.Held.TheVariants.{By, Idle}
use Rattle.async_sessions.specs.Sessions.{Open}
use Rattle.async_task.specs.declared.context.Context.{Context}
use Rattle.async_task.specs.AsyncState.{AsyncState}
use Rattle.async_task.specs.Steps.{step}
use Rattle.program_examples.specs.Apart.{from, call_number, code}
use Rattle.program_examples.specs.FibrilTask.{task, short_task, task_number, fibril, exchange, fibrils, fibril_as, first, second, fourth, fifth, sixth, seventh, gone_on, handles, order_with, awaited, awaits, session, sessions, exchange_as, begun_31, begun_34, begun_36, begun_37, idle_32, idle_33, idle_35, exchanges, pool, busy_pool}
use Rattle.program_examples.specs.FibrilSteps.{Makes, keeping, IsRefused}

-- where a begin of this session keeps that it met the limit
abbrev pub ShortMakes : Op → Outcome → AsyncState → List Entry → Type 0
ShortMakes o outcome after told = step (short_task o) outcome ≡ record { state = after; entries = told }

-- a begin under handle 6 has ended with this exchange
abbrev pub begun_under_6 : ℕ → Context
begun_under_6 e =
    record (gone_on (0 ∷ from 201 31)) {
      handles = handles (Some (exchange 31)) (Some (exchange 34)) (Some (exchange 37)) (Some (exchange e));
    }

-- exchange 38 is new
abbrev pub with_new : ℕ → ℕ → ExchangeMode → Open
with_new s phone mode =
    record pool {
      exchanges = exchanges ++ exchange_as 38 s phone mode (By (fibril 2)) 0 ∷ [];
      next_number = 39;
    }

-- exchange 33, which was idle, is begun again
abbrev pub with_33 : Open
with_33 =
    record pool {
      exchanges =
          begun_31 ∷ idle_32 ∷ exchange_as 33 5 63 Parallel (By (fibril 2)) 0 ∷ begun_34 ∷ idle_35 ∷ begun_36
          ∷ begun_37 ∷ [];
    }

-- exchange 35, which was idle, is gone
abbrev pub without_35 : Open
without_35 = record pool { exchanges = begun_31 ∷ idle_32 ∷ idle_33 ∷ begun_34 ∷ begun_36 ∷ begun_37 ∷ [] }

-- the entry of a begin
abbrev pub begins : ℕ → ExchangeMode → ℕ → ℕ → List Entry
begins e mode s phone = entry.Begins task_number (fibril 2) (exchange e) mode s phone ∷ []

-- a session is made where its number is not in use, else EBUSY
pub record OpenSteps : Type 0 where
  pub made : Makes (op.OpenSession 8 (Register 21) Serialize) got.Done
      (record (keeping (gone_on (0 ∷ from 201 31)) (op.OpenSession 8 (Register 21) Serialize)) {
        pool = record pool { sessions = sessions (session 57 Serialize) (session 221 Serialize) };
      })
      []
  pub in_use : IsRefused (op.OpenSession 5 (Register 21) Serialize) 8

-- begins that need no connect call: ENOENT for a session that is not in use, then EBUSY for a handle that is
pub record BeginSteps : Type 0 where
  pub atomic : Makes (op.Begin 6 3) got.Done
      (record (keeping (begun_under_6 38) (op.Begin 6 3)) { pool = with_new 3 53 Atomic })
      (begins 38 Atomic 3 53)
  pub serialize : Makes (op.Begin 6 7) got.Done
      (record (keeping (begun_under_6 38) (op.Begin 6 7)) { pool = with_new 7 57 Serialize })
      (begins 38 Serialize 7 57)
  pub serialize_where_one_is_begun : Makes (op.Begin 6 4) got.Done
      (record (task (op.Begin 6 4)) { order = order_with (status.Blocked (why.Mutex 4)) })
      (entry.Blocks task_number (fibril 2) (why.Mutex 4) ∷ [])
  pub parallel_idle : Makes (op.Begin 6 5) got.Done
      (record (keeping (begun_under_6 33) (op.Begin 6 5)) { pool = with_33 })
      (begins 33 Parallel 5 63)
  pub of_none : IsRefused (op.Begin 6 8) 1
  pub of_none_under_a_used_handle : IsRefused (op.Begin 2 8) 1
  pub under_a_used_handle : IsRefused (op.Begin 2 3) 8

-- the connect call of a begin is sent, or refused: with ELIMIT the fibril keeps that in mind
pub record ConnectSteps : Type 0 where
  pub sent : Makes (op.Begin 6 9) (got.Accepted (call_number 99))
      (record (task (op.Begin 6 9)) {
        order = order_with (status.Blocked (why.Answer (call_number 99)));
        awaited = awaited ++ awaits 99 2 None ∷ [];
      })
      (entry.Sent task_number (fibril 2) (call_number 99) None
      ∷ entry.Blocks task_number (fibril 2) (why.Answer (call_number 99)) ∷ [])
  pub refused : Makes (op.Begin 6 9) (got.Refused (code 98))
      (keeping (gone_on (98 ∷ from 201 31)) (op.Begin 6 9))
      (entry.RefusedOp task_number (fibril 2) (code 98) ∷ [])
  pub limited : Makes (op.Begin 6 9) (got.Refused (code 5)) (short_task (op.Begin 6 9)) []
  -- what follows in such a begin: it is kept in mind no more
  pub hangs_up : ShortMakes (op.Begin 6 9) got.Done
      (record (task (op.Begin 6 9)) { pool = without_35 })
      (entry.Drops task_number (fibril 2) (exchange 35) ∷ [])
  pub hangs_up_what_is_refused : ShortMakes (op.Begin 6 9) (got.Refused (code 98))
      (record (task (op.Begin 6 9)) { pool = without_35 })
      (entry.Drops task_number (fibril 2) (exchange 35) ∷ [])
  pub waits : step (record (short_task (op.Begin 6 9)) { pool = busy_pool }) got.Done
      ≡ record {
        state = record (task (op.Begin 6 9)) { pool = busy_pool; order = order_with (status.Blocked why.Phone) };
        entries = entry.Blocks task_number (fibril 2) why.Phone ∷ [];
      }
  pub takes_an_idle_one : ShortMakes (op.Begin 6 5) got.Done
      (record (keeping (begun_under_6 33) (op.Begin 6 5)) { pool = with_33 })
      (begins 33 Parallel 5 63)
  pub ends_refused : ShortMakes (op.Begin 6 8) got.Done
      (keeping (gone_on (1 ∷ from 201 31)) (op.Begin 6 8))
      (entry.RefusedOp task_number (fibril 2) (code 1) ∷ [])

-- the ends of exchanges: a parallel one is idle from now on, any other gone
pub record EndSteps : Type 0 where
  pub parallel : Makes (op.End 2) got.Done
      (record (keeping (record (gone_on (0 ∷ from 201 31)) {
        handles = handles None (Some (exchange 34)) (Some (exchange 37)) None;
      }) (op.End 2)) {
        order =
            record {
              fibrils =
                  fibrils first second fourth (fibril_as 5 status.Ready 10) sixth (fibril_as 7 status.Ready 9);
              next_stamp = 11;
            };
        pool =
            record pool {
              exchanges =
                  exchange_as 31 5 61 Parallel Idle 13 ∷ idle_32 ∷ idle_33 ∷ begun_34 ∷ idle_35 ∷ begun_36
                  ∷ begun_37 ∷ [];
              next_stamp = 14;
            };
      })
      (entry.ExchangeEnds task_number (fibril 2) (exchange 31) ∷ [])
  pub serialize : Makes (op.End 3) got.Done
      (record (keeping (record (gone_on (0 ∷ from 201 31)) {
        handles = handles (Some (exchange 31)) None (Some (exchange 37)) None;
      }) (op.End 3)) {
        order =
            record {
              fibrils =
                  fibrils first second (fibril_as 4 status.Ready 10) fifth (fibril_as 6 status.Ready 9) seventh;
              next_stamp = 11;
            };
        pool =
            record pool { exchanges = begun_31 ∷ idle_32 ∷ idle_33 ∷ idle_35 ∷ begun_36 ∷ begun_37 ∷ [] };
      })
      (entry.ExchangeEnds task_number (fibril 2) (exchange 34) ∷ [])
  pub atomic : Makes (op.End 5) got.Done
      (record (keeping (record (gone_on (0 ∷ from 201 31)) {
        handles = handles (Some (exchange 31)) (Some (exchange 34)) None None;
      }) (op.End 5)) {
        pool = record pool { exchanges = begun_31 ∷ idle_32 ∷ idle_33 ∷ begun_34 ∷ idle_35 ∷ begun_36 ∷ [] };
      })
      (entry.ExchangeEnds task_number (fibril 2) (exchange 37) ∷ [])
  pub of_another_fibril : IsRefused (op.End 4) 1
  pub of_none : IsRefused (op.End 6) 1

-- a close drops an idle exchange and stays, or ends with the session's phone; EBUSY where an exchange of the session is
-- begun or a fibril waits in a begin of it, ENOENT where it is not in use
pub record CloseSteps : Type 0 where
  pub idle : Makes (op.Close 6) got.Done
      (record (task (op.Close 6)) { pool = without_35 })
      (entry.Drops task_number (fibril 2) (exchange 35) ∷ [])
  pub last : Makes (op.Close 7) got.Done
      (record (keeping (gone_on (0 ∷ from 201 31)) (op.Close 7)) {
        pool = record pool { sessions = sessions None None };
      })
      []
  pub last_refused : Makes (op.Close 7) (got.Refused (code 98))
      (record (keeping (gone_on (98 ∷ from 201 31)) (op.Close 7)) {
        pool = record pool { sessions = sessions None None };
      })
      []
  pub with_a_begun_one : IsRefused (op.Close 5) 8
  pub with_waiting_fibrils : IsRefused (op.Close 9) 8
  pub of_none : IsRefused (op.Close 8) 1
