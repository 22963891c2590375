-- What a fibril asks, a row for each operation, with all values apart.
use Rattle.std.specs.Prelude.{◌≡◌, [], ◌∷◌, None, Some}
use Rattle.ipc_ids.specs.declared.message.Mode.TheVariants.{Plain, Route}
use Rattle.ipc_ids.specs.declared.message.ExchangeMode.TheVariants.{Serialize}
use Rattle.ipc_ids.specs.declared.message.Request.{Request}
use Rattle.ipc_ids.specs.declared.message.Request.TheVariants as ask
use Rattle.ipc_ids.specs.declared.op.Value.TheVariants.{Number, Register}
use Rattle.ipc_ids.specs.declared.op.Op.{Op}
use Rattle.ipc_ids.specs.declared.op.Op.TheVariants as op
use Rattle.fibril_core.specs.declared.fibrils.Status.TheVariants as status
use Rattle.async_task.specs.Wanted.{wanted}
use Rattle.program_examples.specs.Apart.{five, five_values, call_number, code, message, reply}
use Rattle.program_examples.specs.FibrilTask.{task, short_task, own, kept, order_with, busy_pool}

-- the task asks this, where its second fibril does this operation
abbrev pub Asks : Op → Request → Type 0
Asks o request = wanted (task o) ≡ request

-- a call goes over the phone that it names, or over that of the exchange; the slot must be free
pub record FibrilCalls : Type 0 where
  pub call : Asks (op.CallSlot 5 (Register 21) (Register 22) five_values)
      (ask.Call 221 (message 222 (five 211 52 213 54 215)))
  pub call_where_one_is_sent : Asks (op.CallSlot 3 (Register 21) (Register 22) five_values) ask.Nothing
  pub call_where_one_is_answered : Asks (op.CallSlot 4 (Register 21) (Register 22) five_values) ask.Nothing
  pub send : Asks (op.Send 5 2 (Register 22) five_values) (ask.Call 61 (message 222 (five 211 52 213 54 215)))
  pub send_over_the_other : Asks (op.Send 5 3 (Register 22) five_values)
      (ask.Call 54 (message 222 (five 211 52 213 54 215)))
  pub send_where_one_is_sent : Asks (op.Send 3 2 (Register 22) five_values) ask.Nothing
  pub send_where_one_is_answered : Asks (op.Send 4 2 (Register 22) five_values) ask.Nothing
  pub send_over_that_of_another_fibril : Asks (op.Send 5 4 (Register 22) five_values) ask.Nothing
  pub send_over_none : Asks (op.Send 5 6 (Register 22) five_values) ask.Nothing

-- a begin asks for a connect call, or for the hangup of the exchange that has been idle longest in the task; a close
-- for the hangup of the one that has been idle longest in the session, or of the session's phone
pub record FibrilSessions : Type 0 where
  pub open_session : Asks (op.OpenSession 8 (Register 21) Serialize) ask.Nothing
  pub begin_atomic : Asks (op.Begin 6 3) ask.Nothing
  pub begin_serialize : Asks (op.Begin 6 7) ask.Nothing
  pub begin_idle : Asks (op.Begin 6 5) ask.Nothing
  pub begin_connects : Asks (op.Begin 6 9) (ask.Call 59 (message 2 (five 0 0 0 0 0)))
  pub begin_short : wanted (short_task (op.Begin 6 9)) ≡ ask.Hangup 64
  pub begin_short_and_idle : wanted (short_task (op.Begin 6 5)) ≡ ask.Nothing
  pub begin_short_and_busy : wanted (record (short_task (op.Begin 6 9)) { pool = busy_pool }) ≡ ask.Nothing
  pub begin_of_none : Asks (op.Begin 6 8) ask.Nothing
  pub begin_under_a_used_handle : Asks (op.Begin 2 9) ask.Nothing
  pub end_exchange : Asks (op.End 2) ask.Nothing
  pub close_with_an_idle_one : Asks (op.Close 6) (ask.Hangup 64)
  pub close_with_none : Asks (op.Close 7) (ask.Hangup 57)
  pub close_with_a_begun_one : Asks (op.Close 5) ask.Nothing
  -- two fibrils wait in a begin of session 9, of which no exchange is there
  pub close_with_waiting_fibrils : Asks (op.Close 9) ask.Nothing
  pub close_of_none : Asks (op.Close 8) ask.Nothing

-- the operations that raw tasks have too
pub record FibrilRequests : Type 0 where
  pub answer : Asks (op.Answer (Register 21) (Register 22) five_values)
      (ask.Answer 221 (reply 222 (five 211 52 213 54 215)))
  pub forward : Asks (op.Forward (Register 21) (Register 22) Route) (ask.Forward 221 222 Route None)
  pub forward_plain : Asks (op.Forward (Number 7) (Number 8) Plain) (ask.Forward 7 8 Plain None)
  pub forward_with : Asks (op.ForwardWith (Register 21) (Register 22) Route (Register 23) five_values)
      (ask.Forward 221 222 Route (Some (message 223 (five 211 52 213 54 215))))
  pub area : Asks (op.Area (Register 21) (Register 22) (Register 23)) (ask.AreaMake 221 222 223)
  pub unarea : Asks (op.Unarea (Register 21)) (ask.AreaDrop 221)
  pub poke : Asks (op.Poke (Register 21) (10 ∷ 255 ∷ [])) (ask.Poke 221 (10 ∷ 255 ∷ []))
  pub peek : Asks (op.Peek (Register 21) (Register 22)) (ask.Peek 221 222)

-- operations that ask nothing, and those that no fibril has
pub record FibrilSilence : Type 0 where
  pub wait : Asks (op.Wait 3) ask.Nothing
  pub next : Asks op.Next ask.Nothing
  pub yield : Asks op.Yield ask.Nothing
  pub set : Asks (op.Set 21 (Register 22)) ask.Nothing
  pub jump : Asks (op.Jump 7) ask.Nothing
  pub jump_equal : Asks (op.JumpEqual (Register 21) (Number 221) 7) ask.Nothing
  pub jump_differ : Asks (op.JumpDiffer (Register 21) (Number 221) 7) ask.Nothing
  pub raw_call : Asks (op.Call (Register 21) (Register 22) five_values) ask.Nothing
  pub raw_receive : Asks op.Receive ask.Nothing
  pub raw_hangup : Asks (op.Hangup (Register 21)) ask.Nothing

-- whose turn it is: an answer that is owed comes first, then the fibril that has been ready longest; where none is
-- ready, the task receives
pub record FibrilTurns : Type 0 where
  pub owed_first : wanted (record (task (op.Unarea (Number 7))) {
    work = (call_number 83, code 84) ∷ (call_number 85, code 86) ∷ [];
  }) ≡ ask.Answer 83 (reply 84 (five 0 0 0 0 0))
  pub ready_longest : wanted (record (task (op.Unarea (Number 7))) { order = order_with status.Ready })
      ≡ ask.AreaDrop 3009
  pub at_the_end : wanted (record (task (op.Unarea (Number 7))) { contexts = kept (record own { place = 3 }) })
      ≡ ask.Nothing
  pub none_ready : wanted (record (task (op.Unarea (Number 7))) {
    order = record { fibrils = []; next_stamp = 9 };
  }) ≡ ask.Receive
