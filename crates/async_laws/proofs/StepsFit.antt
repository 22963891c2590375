-- What a task makes of an outcome keeps the fit of its state.
use Rattle.std.proofs.Common.{ℕ, ◌≡◌, Bool, true, false, Option, Some, None, List, [], ◌∷◌, ◌++◌}
use Rattle.std.proofs.Common.{length, refl, sym, subst, ap, arith}
use Rattle.std.specs.Prelude.{if◌then◌else◌, ◌==◌, slice_index, position}
use Rattle.std.specs.List.{find}
use Rattle.std.proofs.lemmas.Bool.{eq-eqb, eqb-true}
use Rattle.ipc_ids.specs.declared.numbers.CallNo.{CallNo}
use Rattle.ipc_ids.specs.declared.numbers.FibrilNo.{FibrilNo}
use Rattle.ipc_ids.specs.declared.numbers.ExchangeNo.{ExchangeNo}
use Rattle.ipc_ids.specs.declared.numbers.Code.{Code}
use Rattle.ipc_ids.specs.declared.numbers.Label.{Label}
use Rattle.ipc_ids.specs.declared.message.Msg.{Msg}
use Rattle.ipc_ids.specs.declared.message.Reply.{Reply}
use Rattle.ipc_ids.specs.declared.message.Why.{Why}
use Rattle.ipc_ids.specs.declared.message.Why.TheVariants as why
use Rattle.ipc_ids.specs.declared.message.ExchangeMode.{ExchangeMode}
use Rattle.ipc_ids.specs.declared.message.ExchangeMode.TheVariants as mode
use Rattle.ipc_ids.specs.declared.message.Request.{Request}
use Rattle.ipc_ids.specs.declared.message.Request.TheVariants as ask
use Rattle.ipc_ids.specs.declared.message.Outcome.{Outcome}
use Rattle.ipc_ids.specs.declared.message.Outcome.TheVariants as outcome
use Rattle.ipc_ids.specs.declared.op.Op.{Op}
use Rattle.ipc_ids.specs.declared.op.Op.TheVariants as op
use Rattle.ipc_ids.specs.declared.op.Value.{Value}
use Rattle.ipc_ids.specs.declared.op.Value.TheVariants.{Number}
use Rattle.ipc_ids.specs.Codes.{eok, elimit}
use Rattle.ipc_ids.specs.Methods.{connect_me_to}
use Rattle.ipc_ids.specs.Program.{fits, is_call_outcome, is_done, is_done_or_refused}
use Rattle.ipc_ids.specs.Program.{is_receive_outcome}
use Rattle.ipc_ids.specs.Facts.{Terms, Fact, Answer, Sent, Gets, Ends, Begins, EndsExchange, Drops}
use Rattle.ipc_ids.specs.Facts.{Other, if_mine, outcome_fact, facts_onto}
use Rattle.ipc_ids.specs.Exchanges.{ConnectsTo}
use Rattle.registers.specs.Registers.{value_in, request_in}
use Rattle.fibril_core.specs.declared.conn.Taken.{Taken}
use Rattle.fibril_core.specs.declared.conn.Taken.TheVariants as taken
use Rattle.fibril_core.specs.declared.conn.Routed.{Routed}
use Rattle.fibril_core.specs.declared.conn.Routed.TheVariants as routed
use Rattle.fibril_core.specs.Fibrils.{FibrilOrder, block_on, yield_now, make_ready, current, why_of}
use Rattle.fibril_core.specs.Fibrils.{next_number}
use Rattle.fibril_core.specs.Conns as conns
use Rattle.fibril_core.specs.Conns.{conn_of_fibril, conn_of_label, fibril_of, route_answer}
use Rattle.async_sessions.specs.declared.sessions.Session.{Session}
use Rattle.async_sessions.specs.declared.sessions.Exchange.{Exchange}
use Rattle.async_sessions.specs.declared.sessions.Begin.{Begin}
use Rattle.async_sessions.specs.declared.sessions.Begin.TheVariants as begin
use Rattle.async_sessions.specs.declared.sessions.Close.{Close}
use Rattle.async_sessions.specs.declared.sessions.Close.TheVariants as close
use Rattle.async_sessions.specs.Sessions.{Open, session_at, mode_answer, made, make_after}
use Rattle.async_sessions.specs.Sessions.{begin_answer, held_by, end_answer, end_after}
use Rattle.async_task.specs.declared.awaited.Awaited.{Awaited}
use Rattle.async_task.specs.declared.context.Slot.{Slot}
use Rattle.async_task.specs.declared.context.Slot.TheVariants as slot
use Rattle.async_task.specs.declared.context.Context.{Context}
use Rattle.async_task.specs.Turns.{Turn}
use Rattle.async_task.specs.Turns as turn
use Rattle.async_task.specs.Contexts.{slot_at, handle_at}
use Rattle.async_task.specs.AsyncState.{AsyncState, Transition, context_at, present_op}
use Rattle.async_task.specs.Turns.{turn_of, fibril_turn, work_turn, turn_now}
use Rattle.async_task.specs.Wanted.{wanted, wanted_in, wanted_op, wanted_call, wanted_send}
use Rattle.async_task.specs.Wanted.{wanted_begin, wanted_close, unless_held, phone_by}
use Rattle.async_task.specs.Wanted.{plan_begin, plan_close, any_waits}
use Rattle.async_task.specs.Calls.{call_slot, send_over, wait_slot, next_call, with_taken}
use Rattle.async_task.specs.Exchanges.{with_pool, open_outcome, begin_exchange, connect_refused_by}
use Rattle.async_task.specs.Exchanges.{connect_outcome, begin_op, end_outcome, end_op, close_op}
use Rattle.async_task.specs.Answers.{is_of_call, answer_slot, connect, answer_begin_by}
use Rattle.async_task.specs.Answers.{answer_begin_at, give_answer, is_for, wake_if, forget_call}
use Rattle.async_task.specs.Answers.{take_answer}
use Rattle.async_task.specs.Connections.{hand_over, wake_reader, reach_blocked, after_route}
use Rattle.async_task.specs.Connections.{route_call, reach_holder, called_label, with_connection}
use Rattle.async_task.specs.Connections.{start_connection, connect_call, receive_call_by}
use Rattle.async_task.specs.Connections.{is_of_connections, end_fibril}
use Rattle.async_task.specs.Steps.{do_op, manage, step_in, step}
use Rattle.async_laws.specs.KeptAnswers.{waiter, waiting}
use Rattle.async_laws.specs.KeptExchanges.{KeptExchanges}
use Rattle.async_laws.specs.KeptFibrils.{KeptFibrils}
use Rattle.async_laws.specs.TaskHistory.{FactsFit, IsHeard, StepFits}
use Rattle.async_laws.proofs.AnswerFacts.{waiter_of, find_waiting, begins_answers}
use Rattle.async_laws.proofs.AnswerFacts.{end_exchange_answers, drop_answers, other_answers}
use Rattle.async_laws.proofs.AnswerFacts.{end_answers, sent_answers, got_answers, unasked_answers}
use Rattle.async_laws.proofs.ExchangeFacts.{answer_exchanges, sent_exchanges, gets_exchanges}
use Rattle.async_laws.proofs.ExchangeFacts.{ends_exchanges, other_exchanges, begin_new}
use Rattle.async_laws.proofs.ExchangeFacts.{end_exchange, open_session}
use Rattle.async_laws.proofs.ExchangePlans.{begin_planned, hang_planned, close_planned}
use Rattle.async_laws.proofs.FibrilFacts.{passed_over_fibrils, block_fibrils, yield_fibrils}
use Rattle.async_laws.proofs.FibrilFacts.{wake_fibrils, end_fibrils, ready_fibrils, spawn_fibrils}

-- the facts fit what a state has of them
abbrev pub FitsOf : List Fact → AsyncState → Type 0
FitsOf p a = FactsFit p a.awaited a.pool a.order

mine_is : (t : ℕ) (x : Fact) → if_mine (t == t) x ≡ x
mine_is t x = rw (eq-eqb t t refl) refl

done_is : (o : Outcome) → is_done o ≡ true → o ≡ outcome.Done
done_is outcome.Done h = refl
done_is _ h = absurd (cc h)

-- a fact that the laws do not read
other :
    (p : List Fact) (ws : List Awaited) (x : Open) (r : FibrilOrder) →
    FactsFit p ws x r → FactsFit (Other ∷ p) ws x r
other p ws x r kept = record {
  answers = other_answers p ws kept.answers;
  exchanges = other_exchanges p x kept.exchanges;
  fibrils = passed_over_fibrils Other p r (λ f. refl) kept.fibrils;
}

one_other : (a : AsyncState) (p : List Fact) → FitsOf p a → FitsOf (Other ∷ p) a
one_other a p kept = other p a.awaited a.pool a.order kept

two_others : (a : AsyncState) (p : List Fact) → FitsOf p a → FitsOf (Other ∷ Other ∷ p) a
two_others a p kept = one_other a (Other ∷ p) (one_other a p kept)

-- an outcome that is no answer
pub unanswered :
    (o : Outcome) (p : List Fact) (ws : List Awaited) (x : Open) (r : FibrilOrder) →
    FactsFit p ws x r → is_done_or_refused o ≡ true → FactsFit (outcome_fact o ∷ p) ws x r
unanswered outcome.Done p ws x r kept h = other p ws x r kept
unanswered (outcome.Refused c) p ws x r kept h = other p ws x r kept
unanswered _ p ws x r kept h = absurd (cc h)

-- operations of raw bodies

receives : (r : Request) (n : CallNo) (reply : Reply) →
    fits r (outcome.Answered n reply) ≡ true → r ≡ ask.Receive
receives ask.Receive n reply h = refl
receives _ n reply h = absurd (cc h)

no_answer : (r : Request) (o : Outcome) → fits r o ≡ true → (r ≡ ask.Receive → ⊥) →
    outcome_fact o ≡ Other
no_answer r (outcome.Answered n reply) h away = absurd (away (receives r n reply h))
no_answer r _ h away = refl

raw_asks : (registers : List ℕ) (p : Op) → request_in registers p ≡ ask.Receive → ⊥
raw_asks registers p h = grind arith

raw_fits : (a : AsyncState) (t : Context) (p : Op) (o : Outcome) (q : List Fact) → FitsOf q a →
    fits (request_in t.registers p) o ≡ true → FitsOf (outcome_fact o ∷ q) a
raw_fits a t p o q kept h =
    rw (no_answer (request_in t.registers p) o h (raw_asks t.registers p)) (one_other a q kept)

-- operations that call and wait

sent_fits :
    (o : Outcome) (q : List Fact) (x : Open) (r : FibrilOrder) (ws : List Awaited) (n : CallNo)
    (f : FibrilNo) (k : Option ℕ) → FactsFit q ws x r → IsHeard q o → o ≡ outcome.Accepted n →
    FactsFit (Sent f.0 n.0 k ∷ Other ∷ q) (ws ++ record { call = n; fibril = f; slot = k } ∷ []) x r
sent_fits o q x r ws n f k kept heard h =
    let new = heard.accepts n h in
    record {
      answers =
          sent_answers (record { call = n; fibril = f; slot = k }) (Other ∷ q) ws
          (other_answers q ws kept.answers) heard.mine heard.unanswered new.0 new.1 new.2 new.3;
      exchanges = sent_exchanges f.0 n.0 k (Other ∷ q) x (other_exchanges q x kept.exchanges);
      fibrils =
          passed_over_fibrils (Sent f.0 n.0 k) (Other ∷ q) r (λ g. refl)
          (passed_over_fibrils Other q r (λ g. refl) kept.fibrils);
    }

call_fits :
    (a : AsyncState) (f : FibrilNo) (t : Context) (k : ℕ) (phone method : Value) (args : List Value)
    (o : Outcome) (q : List Fact) (s : Slot) → FitsOf q a → IsHeard q o →
    fits (wanted_call t phone method args s) o ≡ true → StepFits a o (call_slot a f t k o s) q
call_fits a f t k phone method args (outcome.Accepted n) q slot.Closed kept heard h =
    rw (mine_is a.me.0 (Sent f.0 n.0 (Some k)))
    (sent_fits (outcome.Accepted n) q a.pool a.order a.awaited n f (Some k) kept heard refl)
call_fits a f t k phone method args (outcome.Refused c) q slot.Closed kept heard h =
    one_other a q kept
call_fits a f t k phone method args _ q slot.Closed kept heard h = absurd (cc h)
call_fits a f t k phone method args o q (slot.Sent n) kept heard h =
    rw (done_is o h) (two_others a q kept)
call_fits a f t k phone method args o q (slot.Answered n r) kept heard h =
    rw (done_is o h) (two_others a q kept)

send_fits :
    (a : AsyncState) (f : FibrilNo) (t : Context) (k : ℕ) (method : Value) (args : List Value)
    (o : Outcome) (q : List Fact) (s : Slot) (phone : Option ℕ) → FitsOf q a → IsHeard q o →
    fits (wanted_send t method args s phone) o ≡ true →
    StepFits a o (send_over a f t k o s phone) q
send_fits a f t k method args o q s None kept heard h = rw (done_is o h) (two_others a q kept)
send_fits a f t k method args o q s (Some phone) kept heard h =
    call_fits a f t k (Number phone) method args o q s kept heard h

block_fits :
    (q : List Fact) (ws : List Awaited) (x : Open) (r : FibrilOrder) (w : Why) →
    FactsFit q ws x r → FactsFit (Other ∷ Other ∷ q) ws x (block_on r w)
block_fits q ws x r w kept =
    let two : FactsFit (Other ∷ Other ∷ q) ws x r = other (Other ∷ q) ws x r (other q ws x r kept)
    in
    record {
      answers = two.answers;
      exchanges = two.exchanges;
      fibrils = block_fibrils (Other ∷ Other ∷ q) r w two.fibrils;
    }

wait_fits :
    (a : AsyncState) (f : FibrilNo) (t : Context) (k : ℕ) (q : List Fact) (s : Slot) →
    FitsOf q a → StepFits a outcome.Done (wait_slot a f t k s) q
wait_fits a f t k q slot.Closed kept = two_others a q kept
wait_fits a f t k q (slot.Sent n) kept =
    block_fits q a.awaited a.pool a.order (why.Answer n) kept
wait_fits a f t k q (slot.Answered n r) kept = one_other a q kept

next_fits : (a : AsyncState) (f : FibrilNo) (t : Context) (q : List Fact) (s : Taken) →
    FitsOf q a → StepFits a outcome.Done (next_call a f t s) q
next_fits a f t q (taken.Call n msg label) kept = one_other a q kept
next_fits a f t q (taken.HungUp label) kept = one_other a q kept
next_fits a f t q taken.Wait kept = block_fits q a.awaited a.pool a.order why.Message kept
next_fits a f t q taken.NoConnection kept = two_others a q kept

yield_fits :
    (q : List Fact) (ws : List Awaited) (x : Open) (r : FibrilOrder) →
    FactsFit q ws x r → FactsFit (Other ∷ q) ws x (yield_now r)
yield_fits q ws x r kept =
    let one : FactsFit (Other ∷ q) ws x r = other q ws x r kept in
    record {
      answers = one.answers;
      exchanges = one.exchanges;
      fibrils = yield_fibrils (Other ∷ q) r one.fibrils;
    }

-- operations on sessions and exchanges

-- the same with other sessions or exchanges
with_exchanges : (p : List Fact) (ws : List Awaited) (x y : Open) (r : FibrilOrder) →
    FactsFit p ws x r → KeptExchanges p y → FactsFit p ws y r
with_exchanges p ws x y r kept h =
    record { answers = kept.answers; exchanges = h; fibrils = kept.fibrils }

open_fits :
    (a : AsyncState) (f : FibrilNo) (t : Context) (s phone : ℕ) (m : ExchangeMode) (q : List Fact)
    (x : Option Session) → FitsOf q a → session_at a.pool s ≡ x →
    StepFits a outcome.Done
    (open_outcome (with_pool a (make_after a.pool s phone m x)) f t (made x)) q
open_fits a f t s phone m q None kept is =
    let one : FitsOf (Other ∷ q) a = one_other a q kept in
    with_exchanges (Other ∷ q) a.awaited a.pool _ a.order one
    (open_session s phone m (Other ∷ q) a.pool None one.exchanges is)
open_fits a f t s phone m q (Some x) kept is = two_others a q kept

-- an exchange is begun
begins_fit :
    (p : List Fact) (ws : List Awaited) (x y : Open) (r : FibrilOrder) (f e : ℕ) (of : Terms) →
    FactsFit p ws x r → KeptExchanges (Begins f e of ∷ p) y → FactsFit (Begins f e of ∷ p) ws y r
begins_fit p ws x y r f e of kept h = record {
  answers = begins_answers f e of p ws kept.answers;
  exchanges = h;
  fibrils = passed_over_fibrils (Begins f e of) p r (λ g. refl) kept.fibrils;
}

-- an exchange is dropped
drops_fit :
    (p : List Fact) (ws : List Awaited) (x y : Open) (r : FibrilOrder) (e : ℕ) →
    FactsFit p ws x r → KeptExchanges (Drops e ∷ p) y → FactsFit (Drops e ∷ p) ws y r
drops_fit p ws x y r e kept h = record {
  answers = drop_answers e p ws kept.answers;
  exchanges = h;
  fibrils = passed_over_fibrils (Drops e) p r (λ g. refl) kept.fibrils;
}

unless_begun : (plan : Begin) (held : Option ℕ) (e : ExchangeNo) (phone : ℕ) →
    unless_held plan held ≡ begin.Begun e phone → plan ≡ begin.Begun e phone
unless_begun plan held e phone h = grind arith

unless_hung : (plan : Begin) (held : Option ℕ) (e : ExchangeNo) (phone : ℕ) →
    unless_held plan held ≡ begin.HangIdle e phone → plan ≡ begin.HangIdle e phone
unless_hung plan held e phone h = grind arith

begun_fits :
    (a : AsyncState) (f : FibrilNo) (t : Context) (x s : ℕ) (e : ExchangeNo) (phone : ℕ)
    (q : List Fact) (m : Option ExchangeMode) → FitsOf q a →
    begin_answer a.pool s t.short (session_at a.pool s) ≡ begin.Begun e phone →
    mode_answer (session_at a.pool s) ≡ m →
    StepFits a outcome.Done (begin_exchange a f t x s e phone m) q
begun_fits a f t x s e phone q None kept plan is = one_other a q kept
begun_fits a f t x s e phone q (Some m) kept plan is =
    let one : FitsOf (Other ∷ q) a = one_other a q kept in
    let of : Terms = record { mode = m; session = s; phone = phone } in
    rw (mine_is a.me.0 (Begins f.0 e.0 of))
    (begins_fit (Other ∷ q) a.awaited a.pool _ a.order f.0 e.0 of one
    (begin_planned (Other ∷ q) a.pool f s phone t.short e m (session_at a.pool s) one.exchanges
    refl plan is))

refused_fits :
    (a : AsyncState) (f : FibrilNo) (t : Context) (c : Code) (p : List Fact) (b : Bool) →
    FitsOf p a → FitsOf (facts_onto a.me.0 (connect_refused_by a f t c b).entries p)
    (connect_refused_by a f t c b).state
refused_fits a f t c p true kept = kept
refused_fits a f t c p false kept = one_other a p kept

connect_fits : (a : AsyncState) (f : FibrilNo) (t : Context) (o : Outcome) (q : List Fact) →
    FitsOf q a → IsHeard q o → is_call_outcome o ≡ true →
    StepFits a o (connect_outcome a f t o) q
connect_fits a f t (outcome.Accepted n) q kept heard h =
    let ws : List Awaited = a.awaited ++ record { call = n; fibril = f; slot = None } ∷ [] in
    let one : FactsFit (Sent f.0 n.0 None ∷ Other ∷ q) ws a.pool a.order =
    sent_fits (outcome.Accepted n) q a.pool a.order a.awaited n f None kept heard refl in
    let two : FactsFit (Other ∷ Sent f.0 n.0 None ∷ Other ∷ q) ws a.pool a.order =
    other _ _ _ _ one in
    rw (mine_is a.me.0 (Sent f.0 n.0 None))
    (record {
      answers = two.answers;
      exchanges = two.exchanges;
      fibrils = block_fibrils _ a.order (why.Answer n) two.fibrils;
    })
connect_fits a f t (outcome.Refused c) q kept heard h =
    refused_fits a f t c (Other ∷ q) (c.0 == elimit.0) (one_other a q kept)
connect_fits a f t _ q kept heard h = absurd (cc h)

begin_fits :
    (a : AsyncState) (f : FibrilNo) (t : Context) (x s : ℕ) (o : Outcome) (q : List Fact)
    (plan : Begin) → FitsOf q a → IsHeard q o → plan_begin a f t x s ≡ plan →
    fits (wanted_begin plan) o ≡ true → StepFits a o (begin_op a f t x s o plan) q
begin_fits a f t x s o q (begin.Begun e phone) kept heard is h =
    rw (done_is o h)
    (begun_fits a f t x s e phone q (mode_answer (session_at a.pool s)) kept
    (unless_begun _ (phone_by a.pool f (handle_at t x)) e phone is) refl)
begin_fits a f t x s o q (begin.Connect phone) kept heard is h = connect_fits a f t o q kept heard h
begin_fits a f t x s o q (begin.HangIdle e phone) kept heard is h =
    let one : FitsOf (outcome_fact o ∷ q) a = unanswered o q a.awaited a.pool a.order kept h in
    rw (mine_is a.me.0 (Drops e.0))
    (drops_fit (outcome_fact o ∷ q) a.awaited a.pool _ a.order e.0 one
    (hang_planned (outcome_fact o ∷ q) a.pool s phone t.short e (session_at a.pool s)
    one.exchanges (unless_hung _ (phone_by a.pool f (handle_at t x)) e phone is)))
begin_fits a f t x s o q begin.WaitMutex kept heard is h =
    rw (done_is o h) (block_fits q a.awaited a.pool a.order (why.Mutex s) kept)
begin_fits a f t x s o q begin.WaitPhone kept heard is h =
    rw (done_is o h) (block_fits q a.awaited a.pool a.order why.Phone kept)
begin_fits a f t x s o q (begin.Refused c) kept heard is h = rw (done_is o h) (two_others a q kept)
begin_fits a f t x s o q begin.NoMemory kept heard is h = rw (done_is o h) (one_other a q kept)

ended_fits :
    (a : AsyncState) (f : FibrilNo) (t : Context) (x : ℕ) (e : ExchangeNo) (q : List Fact)
    (h : Option Exchange) → FitsOf q a → held_by f e a.pool.exchanges ≡ h →
    StepFits a outcome.Done
    (end_outcome (with_pool a (end_after a.pool e h)) f t x e (end_answer h)) q
ended_fits a f t x e q None kept is = two_others a q kept
ended_fits a f t x e q (Some y) kept is =
    let one : FitsOf (Other ∷ q) a = one_other a q kept in
    rw (mine_is a.me.0 (EndsExchange e.0))
    (record {
      answers = end_exchange_answers e.0 (Other ∷ q) a.awaited one.answers;
      exchanges = end_exchange f e y (Other ∷ q) a.pool one.exchanges is;
      fibrils =
          wake_fibrils (EndsExchange e.0 ∷ Other ∷ q) a.order y.mode y.session
          (passed_over_fibrils (EndsExchange e.0) (Other ∷ q) a.order (λ g. refl) one.fibrils);
    })

end_fits :
    (a : AsyncState) (f : FibrilNo) (t : Context) (x : ℕ) (q : List Fact) (h : Option ExchangeNo) →
    FitsOf q a → StepFits a outcome.Done (end_op a f t x h) q
end_fits a f t x q None kept = two_others a q kept
end_fits a f t x q (Some e) kept =
    ended_fits a f t x e q (held_by f e a.pool.exchanges) kept refl

close_fits :
    (a : AsyncState) (f : FibrilNo) (t : Context) (s : ℕ) (o : Outcome) (q : List Fact)
    (plan : Close) → FitsOf q a → plan_close a s ≡ plan → fits (wanted_close plan) o ≡ true →
    StepFits a o (close_op a f t s o plan) q
close_fits a f t s o q (close.HangIdle e phone) kept is h =
    let one : FitsOf (outcome_fact o ∷ q) a = unanswered o q a.awaited a.pool a.order kept h in
    rw (mine_is a.me.0 (Drops e.0))
    (drops_fit (outcome_fact o ∷ q) a.awaited a.pool _ a.order e.0 one
    (close_planned (outcome_fact o ∷ q) a.pool s (any_waits (length a.contexts) a s)
    (session_at a.pool s) (close.HangIdle e phone) one.exchanges is))
close_fits a f t s o q (close.Last phone) kept is h =
    let one : FitsOf (outcome_fact o ∷ q) a = unanswered o q a.awaited a.pool a.order kept h in
    with_exchanges (outcome_fact o ∷ q) a.awaited a.pool _ a.order one
    (close_planned (outcome_fact o ∷ q) a.pool s (any_waits (length a.contexts) a s)
    (session_at a.pool s) (close.Last phone) one.exchanges is)
close_fits a f t s o q (close.Refused c) kept is h = rw (done_is o h) (two_others a q kept)

op_fits :
    (a : AsyncState) (f : FibrilNo) (t : Context) (p : Op) (o : Outcome) (q : List Fact) →
    FitsOf q a → IsHeard q o → fits (wanted_op a f t p) o ≡ true → StepFits a o (do_op a f t p o) q
op_fits a f t (op.CallSlot k phone method args) o q kept heard h =
    call_fits a f t k phone method args o q (slot_at t k) kept heard h
op_fits a f t (op.Send k x method args) o q kept heard h =
    send_fits a f t k method args o q (slot_at t k) (phone_by a.pool f (handle_at t x)) kept heard h
op_fits a f t (op.Wait k) o q kept heard h =
    rw (done_is o h) (wait_fits a f t k q (slot_at t k) kept)
op_fits a f t op.Next o q kept heard h =
    rw (done_is o h)
    (next_fits (with_taken a f) f t q (conns.take_answer (conn_of_fibril f a.conns)) kept)
op_fits a f t op.Yield o q kept heard h =
    rw (done_is o h) (yield_fits q a.awaited a.pool a.order kept)
op_fits a f t (op.OpenSession s phone m) o q kept heard h =
    rw (done_is o h) (open_fits a f t s (value_in t.registers phone) m q (session_at a.pool s) kept refl)
op_fits a f t (op.Begin x s) o q kept heard h =
    begin_fits a f t x s o q (plan_begin a f t x s) kept heard refl h
op_fits a f t (op.End x) o q kept heard h =
    rw (done_is o h) (end_fits a f t x q (handle_at t x) kept)
op_fits a f t (op.Close s) o q kept heard h =
    close_fits a f t s o q (plan_close a s) kept refl h
op_fits a f t p o q kept heard h = raw_fits a t p o q kept h

-- answers

slot_fits :
    (a : AsyncState) (f : FibrilNo) (k : ℕ) (n : CallNo) (r : Reply) (b : Bool) (t : Context)
    (p : List Fact) → FitsOf p a → FitsOf p (answer_slot a f k n r b t)
slot_fits a f k n r true t p kept = kept
slot_fits a f k n r false t p kept = kept

connected_fits :
    (a : AsyncState) (f : FibrilNo) (t : Context) (x s phone : ℕ) (p : List Fact)
    (m : Option ExchangeMode) → FitsOf p a → mode_answer (session_at a.pool s) ≡ m →
    ConnectsTo f.0 phone p →
    FitsOf (facts_onto a.me.0 (connect a f t x s phone m).entries p)
    (connect a f t x s phone m).state
connected_fits a f t x s phone p (Some mode.Parallel) kept is connects =
    let of : Terms = record { mode = mode.Parallel; session = s; phone = phone } in
    rw (mine_is a.me.0 (Begins f.0 a.pool.next_number of))
    (begins_fit p a.awaited a.pool _ a.order f.0 a.pool.next_number of kept
    (begin_new f s phone mode.Parallel p a.pool kept.exchanges is (λ i. absurd (cc i))
    (λ i. connects)))
connected_fits a f t x s phone p (Some mode.Atomic) kept is connects = kept
connected_fits a f t x s phone p (Some mode.Serialize) kept is connects = kept
connected_fits a f t x s phone p None kept is connects = kept

code_is : (c : Code) → (c.0 == eok.0) ≡ true → c ≡ eok
code_is c h = ap (λ (n : ℕ). record { 0 = n }) (eqb-true c.0 0 h)

begin_answer_fits :
    (a : AsyncState) (f : FibrilNo) (t : Context) (x s : ℕ) (n : CallNo) (r : Reply)
    (p : List Fact) (b : Bool) → FitsOf (Gets f.0 n.0 None r ∷ p) a → (r.code.0 == eok.0) ≡ b →
    FitsOf (facts_onto a.me.0 (answer_begin_by a f t x s r b).entries (Gets f.0 n.0 None r ∷ p))
    (answer_begin_by a f t x s r b).state
begin_answer_fits a f t x s n r p true kept is =
    connected_fits a f t x s (slice_index r.args 4) (Gets f.0 n.0 None r ∷ p)
    (mode_answer (session_at a.pool s)) kept refl (refl, code_is r.code is, refl)
begin_answer_fits a f t x s n r p false kept is =
    refused_fits a f t r.code (Gets f.0 n.0 None r ∷ p) (r.code.0 == elimit.0) kept

begin_at_fits :
    (a : AsyncState) (f : FibrilNo) (t : Context) (n : CallNo) (r : Reply) (p : List Fact)
    (q : Option Op) → FitsOf (Gets f.0 n.0 None r ∷ p) a →
    FitsOf (facts_onto a.me.0 (answer_begin_at a f t r q).entries (Gets f.0 n.0 None r ∷ p))
    (answer_begin_at a f t r q).state
begin_at_fits a f t n r p (Some (op.Begin x s)) kept =
    begin_answer_fits a f t x s n r p (r.code.0 == eok.0) kept refl
begin_at_fits a f t n r p _ kept = kept

give_fits :
    (a : AsyncState) (f : FibrilNo) (n : CallNo) (r : Reply) (b : Bool) (p : List Fact)
    (k : Option ℕ) (t : Option Context) → FitsOf (Gets f.0 n.0 k r ∷ p) a →
    FitsOf (facts_onto a.me.0 (give_answer a f n r b k t).entries (Gets f.0 n.0 k r ∷ p))
    (give_answer a f n r b k t).state
give_fits a f n r b p (Some k) (Some t) kept =
    slot_fits a f k n r b t (Gets f.0 n.0 (Some k) r ∷ p) kept
give_fits a f n r b p None (Some t) kept = begin_at_fits a f t n r p (present_op a t) kept
give_fits a f n r b p (Some k) None kept = kept
give_fits a f n r b p None None kept = kept

-- the fibril that takes the answer is ready, where it was blocked on it
woken_by : (p : List Fact) (o : FibrilOrder) (f : FibrilNo) (b : Bool) → KeptFibrils p o →
    (b ≡ true → KeptFibrils p (make_ready o f)) →
    KeptFibrils p (if b then make_ready o f else o)
woken_by p o f true kept h = h refl
woken_by p o f false kept h = kept

woken_fibrils :
    (p : List Fact) (o : FibrilOrder) (f : FibrilNo) (n : CallNo) (w : Option Why) →
    KeptFibrils p o → why_of o f ≡ w → KeptFibrils p (if is_for n w then make_ready o f else o)
woken_fibrils p o f n None kept is = kept
woken_fibrils p o f n (Some w) kept is =
    woken_by p o f (is_for n (Some w)) kept (λ h. ready_fibrils p o f w kept is)

answer_fits : (a : AsyncState) (n : CallNo) (r : Reply) (q : List Fact) (w : Option Awaited) →
    FitsOf q a → IsHeard q (outcome.Answered n r) → waiting n.0 a.awaited ≡ waiter_of w →
    StepFits a (outcome.Answered n r) (take_answer a n r w) q
answer_fits a n r q None kept heard is = record {
  answers =
      unasked_answers n r q a.awaited kept.answers heard.mine heard.unanswered
      (heard.gives n r refl) heard.ended_before is;
  exchanges = answer_exchanges n.0 r q a.pool kept.exchanges;
  fibrils = passed_over_fibrils (Answer n.0 r) q a.order (λ g. refl) kept.fibrils;
}
answer_fits a n r q (Some w) kept heard is =
    let b : Bool = is_for n (why_of a.order w.fibril) in
    let c : AsyncState = forget_call (wake_if a w.fibril b) n in
    let got : Fact = Gets w.fibril.0 n.0 w.slot r in
    let now : FitsOf (got ∷ Answer n.0 r ∷ q) c =
    record {
      answers =
          got_answers n r q a.awaited (waiter w) kept.answers heard.mine heard.unanswered
          (heard.gives n r refl) is;
      exchanges =
          gets_exchanges w.fibril.0 n.0 w.slot r (Answer n.0 r ∷ q) a.pool
          (answer_exchanges n.0 r q a.pool kept.exchanges);
      fibrils =
          woken_fibrils (got ∷ Answer n.0 r ∷ q) a.order w.fibril n (why_of a.order w.fibril)
          (passed_over_fibrils got (Answer n.0 r ∷ q) a.order (λ g. refl)
          (passed_over_fibrils (Answer n.0 r) q a.order (λ g. refl) kept.fibrils))
          refl;
    } in
    let m : Transition = give_answer c w.fibril n r b w.slot (context_at c w.fibril) in
    subst (λ (x : Fact). FitsOf (facts_onto a.me.0 m.entries (x ∷ Answer n.0 r ∷ q)) m.state)
    (sym (mine_is a.me.0 got))
    (give_fits c w.fibril n r b (Answer n.0 r ∷ q) w.slot (context_at c w.fibril) now)

-- calls that come

-- what the laws read of a state is the same
abbrev pub IsSame : AsyncState → AsyncState → Type 0
IsSame a b = (b.awaited ≡ a.awaited) × (b.pool ≡ a.pool) × (b.order ≡ a.order)

hand_same : (a : AsyncState) (f : FibrilNo) (s : Taken) (t : Option Context) →
    IsSame a (hand_over a f s t)
hand_same a f (taken.Call n msg label) (Some t) = (refl, refl, refl)
hand_same a f (taken.Call n msg label) None = (refl, refl, refl)
hand_same a f (taken.HungUp label) (Some t) = (refl, refl, refl)
hand_same a f (taken.HungUp label) None = (refl, refl, refl)
hand_same a f taken.Wait t = (refl, refl, refl)
hand_same a f taken.NoConnection t = (refl, refl, refl)

reader_fits : (a : AsyncState) (f : FibrilNo) (p : List Fact) → FitsOf p a →
    why_of a.order f ≡ Some why.Message → FitsOf p (wake_reader a f)
reader_fits a f p kept is =
    let b : AsyncState =
    record a { conns = conns.take_next f a.conns; order = make_ready a.order f } in
    let same : IsSame b (wake_reader a f) =
    hand_same b f (conns.take_answer (conn_of_fibril f a.conns)) (context_at a f) in
    record {
      answers = rw same.0 kept.answers;
      exchanges = rw same.1 kept.exchanges;
      fibrils = rw same.2 (ready_fibrils p a.order f why.Message kept.fibrils is);
    }

reach_fits : (a : AsyncState) (f : FibrilNo) (p : List Fact) (w : Option Why) → FitsOf p a →
    why_of a.order f ≡ w → FitsOf p (reach_blocked a f w)
reach_fits a f p (Some why.Message) kept is = reader_fits a f p kept is
reach_fits a f p _ kept is = kept

routed_fits : (a : AsyncState) (n : CallNo) (p : List Fact) (r : Routed) → FitsOf p a →
    FitsOf p (after_route a n r)
routed_fits a n p (routed.Queued f) kept = reach_fits a f p (why_of a.order f) kept refl
routed_fits a n p (routed.Closed f) kept = reach_fits a f p (why_of a.order f) kept refl
routed_fits a n p routed.Unknown kept = kept

route_fits : (a : AsyncState) (n : CallNo) (msg : Msg) (label : Label) (q : List Fact) →
    FitsOf q a → FitsOf (Other ∷ q) (route_call a n msg label)
route_fits a n msg label q kept =
    routed_fits (record a { conns = conns.route label n msg a.conns }) n (Other ∷ q)
    (route_answer msg.method (conn_of_label label a.conns)) (one_other a q kept)

holder_fits : (a : AsyncState) (f : Option FibrilNo) (p : List Fact) → FitsOf p a →
    FitsOf p (reach_holder a f)
holder_fits a None p kept = kept
holder_fits a (Some f) p kept = reach_fits a f p (why_of a.order f) kept refl

start_fits :
    (a : AsyncState) (n : CallNo) (msg : Msg) (from : Label) (body : ℕ) (label : Label)
    (q : List Fact) → FitsOf q a →
    StepFits a (outcome.Received n msg from) (start_connection a n msg from body label) q
start_fits a n msg from body label q kept =
    let holder : Option FibrilNo = fibril_of (conn_of_label label a.conns) in
    let b : AsyncState = with_connection a label (next_number a.order) in
    let two : FitsOf (Other ∷ Other ∷ q) (reach_holder b holder) =
    holder_fits b holder (Other ∷ Other ∷ q) (two_others a q kept) in
    record {
      answers = two.answers;
      exchanges = two.exchanges;
      fibrils = spawn_fibrils (Other ∷ Other ∷ q) (reach_holder b holder).order two.fibrils;
    }

connect_call_fits :
    (a : AsyncState) (n : CallNo) (msg : Msg) (label : Label) (q : List Fact) (body : Option ℕ) →
    FitsOf q a → StepFits a (outcome.Received n msg label) (connect_call a n msg label body) q
connect_call_fits a n msg label q None kept = route_fits a n msg label q kept
connect_call_fits a n msg label q (Some body) kept =
    start_fits a n msg label body (called_label msg) q kept

receive_fits :
    (a : AsyncState) (n : CallNo) (msg : Msg) (label : Label) (q : List Fact) (b : Bool) →
    FitsOf q a → StepFits a (outcome.Received n msg label) (receive_call_by a n msg label b) q
receive_fits a n msg label q true kept =
    connect_call_fits a n msg label q (position is_of_connections a.bodies) kept
receive_fits a n msg label q false kept = route_fits a n msg label q kept

manage_fits : (a : AsyncState) (o : Outcome) (q : List Fact) → FitsOf q a → IsHeard q o →
    is_receive_outcome o ≡ true → StepFits a o (manage a o) q
manage_fits a (outcome.Received n msg label) q kept heard h =
    receive_fits a n msg label q (msg.method == connect_me_to) kept
manage_fits a (outcome.Answered n r) q kept heard h =
    answer_fits a n r q (find (is_of_call n) a.awaited) kept heard (find_waiting n a.awaited)
manage_fits a outcome.Empty q kept heard h = one_other a q kept
manage_fits a _ q kept heard h = absurd (cc h)

-- whose turn it is

run_is : (a : AsyncState) (f g : FibrilNo) (t : Option Context) (u : Context) (p : Option Op) →
    turn_of a g t ≡ turn.Run f u p → g ≡ f
run_is a f g None u p h = absurd (cc h)
run_is a f g (Some t) u p h = cc h

fibril_is : (a : AsyncState) (f : FibrilNo) (u : Context) (p : Option Op) (g : Option FibrilNo) →
    fibril_turn a g ≡ turn.Run f u p → g ≡ Some f
fibril_is a f u p None h = absurd (cc h)
fibril_is a f u p (Some g) h = ap (λ i. Some i) (run_is a f g (context_at a g) u p h)

present_is :
    (a : AsyncState) (f : FibrilNo) (u : Context) (p : Option Op) (ws : List (CallNo × Code)) →
    work_turn a ws ≡ turn.Run f u p → current a.order ≡ Some f
present_is a f u p [] h = fibril_is a f u p (current a.order) h
present_is a f u p (w ∷ ws) h = absurd (cc h)

end_fibril_fits : (a : AsyncState) (f : FibrilNo) (q : List Fact) → FitsOf q a →
    current a.order ≡ Some f → StepFits a outcome.Done (end_fibril a f) q
end_fibril_fits a f q kept is =
    let one : FitsOf (Other ∷ q) a = one_other a q kept in
    rw (mine_is a.me.0 (Ends f.0))
    (record {
      answers = end_answers f (Other ∷ q) a.awaited one.answers;
      exchanges = ends_exchanges f.0 (Other ∷ q) a.pool one.exchanges;
      fibrils = end_fibrils (Other ∷ q) a.order f one.fibrils is;
    })

turn_fits : (a : AsyncState) (o : Outcome) (q : List Fact) (s : Turn) → FitsOf q a → IsHeard q o →
    turn_now a ≡ s → fits (wanted_in a s) o ≡ true → StepFits a o (step_in a o s) q
turn_fits a o q (turn.Work n c) kept heard is h = unanswered o q a.awaited a.pool a.order kept h
turn_fits a o q (turn.Run f t None) kept heard is h =
    rw (done_is o h) (end_fibril_fits a f q kept (present_is a f t None a.work is))
turn_fits a o q (turn.Run f t (Some p)) kept heard is h = op_fits a f t p o q kept heard h
turn_fits a o q turn.Receive kept heard is h = manage_fits a o q kept heard h

-- one event
pub step_fits : (a : AsyncState) (o : Outcome) (q : List Fact) → FitsOf q a → IsHeard q o →
    fits (wanted a) o ≡ true → StepFits a o (step a o) q
step_fits a o q kept heard h = turn_fits a o q (turn_now a) kept heard refl h
