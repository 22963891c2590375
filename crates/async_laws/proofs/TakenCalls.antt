-- What a fibril is told by `next`.
use Rattle.std.proofs.Common.{ℕ, zero, suc, ◌+◌, ◌-◌, ◌^◌, ◌≡◌, ◌≢◌, ◌<◌, ◌≤◌, ◌⊎◌, inl, inr, Bool, true, false}
use Rattle.std.proofs.Common.{length, Option, Some, None, List, [], ◌∷◌, ◌++◌, refl, sym, ◌∙◌, ap, subst, arith}
use Rattle.std.specs.Prelude.{if◌then◌else◌, ◌&&◌, is_some, slice_get, slice_set}
use Rattle.std.specs.Prelude.{slice_index}
use Rattle.std.proofs.lemmas.Bool.{eq-eqb, ne_eqb, lt-ltb}
use Rattle.ipc_ids.specs.declared.numbers.CallNo.{CallNo}
use Rattle.ipc_ids.specs.declared.numbers.FibrilNo.{FibrilNo}
use Rattle.ipc_ids.specs.declared.numbers.Label.{Label}
use Rattle.ipc_ids.specs.declared.message.Msg.{Msg}
use Rattle.ipc_ids.specs.declared.message.Why.{Why}
use Rattle.ipc_ids.specs.declared.message.Why.TheVariants as why
use Rattle.ipc_ids.specs.declared.message.Outcome.{Outcome}
use Rattle.ipc_ids.specs.declared.message.Outcome.TheVariants as outcome
use Rattle.ipc_ids.specs.declared.op.Op.TheVariants as op
use Rattle.ipc_ids.specs.Methods.{connect_me_to}
use Rattle.ipc_ids.specs.Labels.{same_label}
use Rattle.fibril_core.specs.declared.conn.Conn.{Conn}
use Rattle.fibril_core.specs.declared.conn.Queued.{Queued}
use Rattle.fibril_core.specs.declared.conn.Taken.{Taken}
use Rattle.fibril_core.specs.declared.conn.Taken.TheVariants as taken
use Rattle.fibril_core.specs.declared.conn.Routed.TheVariants as routed
use Rattle.fibril_core.specs.declared.fibrils.Status.TheVariants.{Ready}
use Rattle.fibril_core.specs.Fibrils.{FibrilOrder, why_at, why_of, fibril_at, make_ready, next_number}
use Rattle.fibril_core.specs.Conns as conns
use Rattle.fibril_core.specs.Conns.{conn_of_fibril, conn_of_label, leads_to, is_open, closes, route_to, route_answer}
use Rattle.fibril_core.specs.Conns.{take_from, take_answer, fibril_of}
use Rattle.fibril_core.proofs.Orders.{first_number}
use Rattle.fibril_core.proofs.Places.{set_here, set_elsewhere, length_set, push_here}
use Rattle.fibril_core.proofs.Connections.{fibril_there, label_there, route_changes}
use Rattle.async_task.specs.declared.context.Context.{Context}
use Rattle.async_task.specs.Turns.{Turn}
use Rattle.async_task.specs.Turns as turn
use Rattle.async_task.specs.Contexts.{new_context, at_next, with_received}
use Rattle.async_task.specs.Kept.{kept_at, kept_in}
use Rattle.async_task.specs.Connections.{reach_holder, start_connection, connect_call, called_label}
use Rattle.async_task.specs.AsyncState.{AsyncState, context_at, with_context}
use Rattle.async_task.specs.Turns.{turn_now}
use Rattle.async_task.specs.Calls.{next_call, with_taken}
use Rattle.async_task.specs.Connections.{hand_over, reach_blocked, reach, after_route, receive_call_by}
use Rattle.async_task.specs.Steps.{step_in, step}
use Rattle.async_laws.specs.NoLostWakes.{IsQuiet, KeepsWakes}
use Rattle.async_laws.specs.TakenCalls.{KnowsItsCall, StartedOnesKnowTheirCall}
use Rattle.async_laws.specs.TakenCalls.{IsUntold, TellCall, Takes, closing, no_call, Serves, NextTakesTheFirst}
use Rattle.async_laws.specs.TakenCalls.{NextTellsTheClosing, WaitsAt, WaitersTakeAtOnce, WaitersHearHangups}
use Rattle.async_laws.proofs.WakeCalls.{IsPresent, ready_number}
use Rattle.async_laws.proofs.WakeFibrils.{present_is}
use Rattle.async_laws.proofs.WakeSlots.{context_set}

-- a register that tells of the call
abbrev IsTold : ℕ → Type 0
IsTold i = (i ≡ 0) ⊎ (((2 ≤ i) × (i ≤ 8)) ⊎ ((16 ≤ i) × (i ≤ 17)))

apart : (k i : ℕ) → IsUntold k → IsTold i → k ≡ i → ⊥
apart k i (inl a) (inl b) e = omega (arith, a, b, e)
apart k i (inl a) (inr (inl b)) e = let c = b.0 in omega (arith, a, c, e)
apart k i (inl a) (inr (inr b)) e = let c = b.0 in omega (arith, a, c, e)
apart k i (inr (inl a)) (inl b) e = let c = a.0 in omega (arith, b, c, e)
apart k i (inr (inl a)) (inr (inl b)) e = let c = a.0 in let d = b.1 in omega (arith, c, d, e)
apart k i (inr (inl a)) (inr (inr b)) e = let c = a.1 in let d = b.0 in omega (arith, c, d, e)
apart k i (inr (inr a)) (inl b) e = omega (arith, a, b, e)
apart k i (inr (inr a)) (inr (inl b)) e = let d = b.1 in omega (arith, a, d, e)
apart k i (inr (inr a)) (inr (inr b)) e = let d = b.1 in omega (arith, a, d, e)

-- the registers after each write
module _ (t : Context) (n : CallNo) (msg : Msg) (label : Label) (many : length t.registers ≡ 32) where
  abbrev r0 : List ℕ
  r0 = slice_set t.registers 0 0

  abbrev r2 : List ℕ
  r2 = slice_set r0 2 n.0

  abbrev r3 : List ℕ
  r3 = slice_set r2 3 msg.method

  abbrev r4 : List ℕ
  r4 = slice_set r3 4 (slice_index msg.args 0)

  abbrev r5 : List ℕ
  r5 = slice_set r4 5 (slice_index msg.args 1)

  abbrev r6 : List ℕ
  r6 = slice_set r5 6 (slice_index msg.args 2)

  abbrev r7 : List ℕ
  r7 = slice_set r6 7 (slice_index msg.args 3)

  abbrev r8 : List ℕ
  r8 = slice_set r7 8 (slice_index msg.args 4)

  abbrev r16 : List ℕ
  r16 = slice_set r8 16 label.task.0

  abbrev r17 : List ℕ
  r17 = slice_set r16 17 label.phone.0

  l0 : length r0 ≡ 32
  l0 = length_set t.registers 0 0 ∙ many

  l2 : length r2 ≡ 32
  l2 = length_set r0 2 n.0 ∙ l0

  l3 : length r3 ≡ 32
  l3 = length_set r2 3 msg.method ∙ l2

  l4 : length r4 ≡ 32
  l4 = length_set r3 4 (slice_index msg.args 0) ∙ l3

  l5 : length r5 ≡ 32
  l5 = length_set r4 5 (slice_index msg.args 1) ∙ l4

  l6 : length r6 ≡ 32
  l6 = length_set r5 6 (slice_index msg.args 2) ∙ l5

  l7 : length r7 ≡ 32
  l7 = length_set r6 7 (slice_index msg.args 3) ∙ l6

  l8 : length r8 ≡ 32
  l8 = length_set r7 8 (slice_index msg.args 4) ∙ l7

  l16 : length r16 ≡ 32
  l16 = length_set r8 16 label.task.0 ∙ l8

  -- what stood in a register before the later writes

  d16 : (j : ℕ) → j < 17 → slice_get r17 j ≡ slice_get r16 j
  d16 j h = set_elsewhere r16 17 j label.phone.0 (λ e. omega (arith, e, h))

  d8 : (j : ℕ) → j < 16 → slice_get r17 j ≡ slice_get r8 j
  d8 j h = d16 j (omega (arith, h)) ∙ set_elsewhere r8 16 j label.task.0 (λ e. omega (arith, e, h))

  d7 : (j : ℕ) → j < 8 → slice_get r17 j ≡ slice_get r7 j
  d7 j h = d8 j (omega (arith, h)) ∙ set_elsewhere r7 8 j (slice_index msg.args 4) (λ e. omega (arith, e, h))

  d6 : (j : ℕ) → j < 7 → slice_get r17 j ≡ slice_get r6 j
  d6 j h = d7 j (omega (arith, h)) ∙ set_elsewhere r6 7 j (slice_index msg.args 3) (λ e. omega (arith, e, h))

  d5 : (j : ℕ) → j < 6 → slice_get r17 j ≡ slice_get r5 j
  d5 j h = d6 j (omega (arith, h)) ∙ set_elsewhere r5 6 j (slice_index msg.args 2) (λ e. omega (arith, e, h))

  d4 : (j : ℕ) → j < 5 → slice_get r17 j ≡ slice_get r4 j
  d4 j h = d5 j (omega (arith, h)) ∙ set_elsewhere r4 5 j (slice_index msg.args 1) (λ e. omega (arith, e, h))

  d3 : (j : ℕ) → j < 4 → slice_get r17 j ≡ slice_get r3 j
  d3 j h = d4 j (omega (arith, h)) ∙ set_elsewhere r3 4 j (slice_index msg.args 0) (λ e. omega (arith, e, h))

  d2 : (j : ℕ) → j < 3 → slice_get r17 j ≡ slice_get r2 j
  d2 j h = d3 j (omega (arith, h)) ∙ set_elsewhere r2 3 j msg.method (λ e. omega (arith, e, h))

  d0 : (j : ℕ) → j < 2 → slice_get r17 j ≡ slice_get r0 j
  d0 j h = d2 j (omega (arith, h)) ∙ set_elsewhere r0 2 j n.0 (λ e. omega (arith, e, h))

  arg : (i : ℕ) → i < 5 → slice_get r17 (4 + i) ≡ Some (slice_index msg.args i)
  arg zero h = d4 4 (omega arith) ∙ set_here r3 4 (slice_index msg.args 0) (omega (arith, l3))
  arg (suc zero) h = d5 5 (omega arith) ∙ set_here r4 5 (slice_index msg.args 1) (omega (arith, l4))
  arg (suc (suc zero)) h = d6 6 (omega arith) ∙ set_here r5 6 (slice_index msg.args 2) (omega (arith, l5))
  arg (suc (suc (suc zero))) h = d7 7 (omega arith) ∙ set_here r6 7 (slice_index msg.args 3) (omega (arith, l6))
  arg (suc (suc (suc (suc zero)))) h = d8 8 (omega arith) ∙ set_here r7 8 (slice_index msg.args 4) (omega (arith, l7))
  arg (suc (suc (suc (suc (suc i))))) h = absurd (omega (arith, h))

  other : (k : ℕ) → IsUntold k → slice_get r17 k ≡ slice_get t.registers k
  other k h =
      set_elsewhere r16 17 k label.phone.0 (apart k 17 h (inr (inr (omega arith, omega arith))))
      ∙ set_elsewhere r8 16 k label.task.0 (apart k 16 h (inr (inr (omega arith, omega arith))))
      ∙ set_elsewhere r7 8 k (slice_index msg.args 4) (apart k 8 h (inr (inl (omega arith, omega arith))))
      ∙ set_elsewhere r6 7 k (slice_index msg.args 3) (apart k 7 h (inr (inl (omega arith, omega arith))))
      ∙ set_elsewhere r5 6 k (slice_index msg.args 2) (apart k 6 h (inr (inl (omega arith, omega arith))))
      ∙ set_elsewhere r4 5 k (slice_index msg.args 1) (apart k 5 h (inr (inl (omega arith, omega arith))))
      ∙ set_elsewhere r3 4 k (slice_index msg.args 0) (apart k 4 h (inr (inl (omega arith, omega arith))))
      ∙ set_elsewhere r2 3 k msg.method (apart k 3 h (inr (inl (omega arith, omega arith))))
      ∙ set_elsewhere r0 2 k n.0 (apart k 2 h (inr (inl (omega arith, omega arith))))
      ∙ set_elsewhere t.registers 0 k 0 (apart k 0 h (inl refl))

  tells : TellCall n msg label t.registers (with_received t n msg label).registers
  tells = record {
    done = d0 0 (omega arith) ∙ set_here t.registers 0 0 (omega (arith, many));
    number = d2 2 (omega arith) ∙ set_here r0 2 n.0 (omega (arith, l0));
    method = d3 3 (omega arith) ∙ set_here r2 3 msg.method (omega (arith, l2));
    args = arg;
    task = d16 16 (omega arith) ∙ set_here r8 16 label.task.0 (omega (arith, l8));
    phone = set_here r16 17 label.phone.0 (omega (arith, l16));
    others = other;
  }

-- what a fibril keeps

pub context_apart : (b : AsyncState) (f g : FibrilNo) (u : Context) → (g.0 - 1 ≡ f.0 - 1 → ⊥) →
    context_at (with_context b f u) g ≡ context_at b g
context_apart b f g u other = by (is_some (context_at b f))
  where
    by : (x : Bool) →
        kept_at (if x then slice_set b.contexts (f.0 - 1) (Some u) else b.contexts) (g.0 - 1) ≡
        kept_at b.contexts (g.0 - 1)
    by true =
        ap (λ (q : Option (Option Context)). kept_in q)
        (set_elsewhere b.contexts (f.0 - 1) (g.0 - 1) (Some u) other)
    by false = refl

takes : (a b : AsyncState) (f : FibrilNo) (t : Context) (n : CallNo) (msg : Msg) (label : Label) →
    suc (f.0 - 1) ≡ f.0 → context_at a f ≡ Some t → length t.registers ≡ 32 → b.contexts ≡ a.contexts →
    Takes f t n msg label a (with_context b f (at_next (with_received t n msg label)))
takes a b f t n msg label own keeps many same = record {
  now = now;
  here = context_set b f t now (ap (λ (ts : List (Option Context)). kept_at ts (f.0 - 1)) same ∙ keeps);
  registers = tells t n msg label many;
  place = λ h. ap (λ (x : Bool). if x then t.place + 1 else t.place) (lt-ltb t.place (2 ^ 62) h);
  rest = refl;
  others = λ g some other.
      context_apart b f g now (λ e. other (omega (arith, e, some, own)))
      ∙ ap (λ (ts : List (Option Context)). kept_at ts (g.0 - 1)) same;
}
  where
    now : Context
    now = at_next (with_received t n msg label)

-- fibrils are numbered from 1

pub waiting_number : (o : FibrilOrder) (n : ℕ) (w : Why) → why_at (fibril_at o n) ≡ Some w → suc (n - 1) ≡ n
waiting_number o zero w h = absurd (cc h)
waiting_number o (suc n) w h = omega arith

pub present_number : (a : AsyncState) (f : FibrilNo) (t : Context) → KeepsWakes a → IsPresent a f t →
    suc (f.0 - 1) ≡ f.0
present_number a f t kept now =
    ready_number a.order f.0 (first_number a.order Ready f kept.order now.current).here

-- what a connection gives

served : (a : AsyncState) (f : FibrilNo) (c : Conn) (t : Context) → KeepsWakes a → Serves f c t a →
    conn_of_fibril f a.conns ≡ Some c
served a f c t kept s =
    subst (λ (g : FibrilNo). conn_of_fibril g a.conns ≡ Some c) s.own
    (fibril_there a.conns s.place c kept.conns s.there)

first_given : (c : Conn) (q : Queued) → slice_get c.queue 0 ≡ Some q →
    take_answer (Some c) ≡ taken.Call q.call q.msg c.label
first_given c q h = by c.queue h
  where
    by : (qs : List Queued) → slice_get qs 0 ≡ Some q → take_from c qs ≡ taken.Call q.call q.msg c.label
    by [] e = absurd (cc e)
    by (x ∷ qs) e =
        let same : x ≡ q = cc e in
        ap (λ (y : Queued). taken.Call y.call y.msg c.label) same

closing_given : (c : Conn) → c.queue ≡ [] → c.closed ≡ true → take_answer (Some c) ≡ taken.HungUp c.label
closing_given c empty closed =
    ap (λ (qs : List Queued). take_from c qs) empty
    ∙ ap (λ (b : Bool). if b then taken.HungUp c.label else taken.Wait) closed

next_is : (a : AsyncState) (o : Outcome) (f : FibrilNo) (t : Context) (c : Conn) (s : Taken) →
    turn_now a ≡ turn.Run f t (Some op.Next) → conn_of_fibril f a.conns ≡ Some c →
    take_answer (Some c) ≡ s → (step a o).state ≡ (next_call (with_taken a f) f t s).state
next_is a o f t c s now own gives =
    ap (λ (r : Turn). (step_in a o r).state) now
    ∙ ap (λ (q : Option Conn). (next_call (with_taken a f) f t (take_answer q)).state) own
    ∙ ap (λ (r : Taken). (next_call (with_taken a f) f t r).state) gives

pub next_takes_the_first : NextTakesTheFirst
next_takes_the_first a o f t c q kept now serves first =
    subst (λ (b : AsyncState). Takes f t q.call q.msg c.label a b)
    (sym (next_is a o f t c (taken.Call q.call q.msg c.label) now (served a f c t kept serves) (first_given c q first)))
    (takes a (with_taken a f) f t q.call q.msg c.label
    (present_number a f t kept (present_is a f t (Some op.Next) a.work now)) serves.keeps serves.many refl)

pub next_tells_the_closing : NextTellsTheClosing
next_tells_the_closing a o f t c kept now serves empty closed =
    subst (λ (b : AsyncState). Takes f t no_call closing c.label a b)
    (sym (next_is a o f t c (taken.HungUp c.label) now (served a f c t kept serves) (closing_given c empty closed)))
    (takes a (with_taken a f) f t no_call closing c.label
    (present_number a f t kept (present_is a f t (Some op.Next) a.work now)) serves.keeps serves.many refl)

-- a fibril that waits

module _ (a : AsyncState) (n : CallNo) (msg : Msg) (label : Label) (f : FibrilNo) (t : Context) (c : Conn)
    (kept : KeepsWakes a) (now : turn_now a ≡ turn.Receive) (w : WaitsAt f c t label a)
    (plain : msg.method ≢ connect_me_to) where
  abbrev cs : List Conn
  cs = conns.route label n msg a.conns

  abbrev b : AsyncState
  b = record a { conns = cs }

  abbrev d : AsyncState
  d = record b { conns = conns.take_next f cs; order = make_ready a.order f }

  quiet : IsQuiet f a.conns
  quiet = kept.wakes f why.Message w.waits

  same : quiet.conn ≡ c
  same = let one = quiet.own in let two = served a f c t kept w.serves in cc (one, two)

  empty : c.queue ≡ []
  empty = subst (λ (x : Conn). x.queue ≡ []) same quiet.empty

  unclosed : c.close_call ≡ None
  unclosed =
      (kept.conns.closed w.serves.place c w.serves.there
      (subst (λ (x : Conn). x.closed ≡ false) same quiet.is_open)).1

  led : leads_to label c ≡ true
  led =
      ap (λ (x : Bool). x && same_label c.label label) w.leads
      ∙ ap (λ (l : Label). same_label l label) w.labelled
      ∙ rw (eq-eqb label.task.0 label.task.0 refl, eq-eqb label.phone.0 label.phone.0 refl) refl

  found : conn_of_label label a.conns ≡ Some c
  found = label_there a.conns w.serves.place c label kept.conns w.serves.there led

  own : conn_of_fibril f cs ≡ Some (route_to n msg c)
  own =
      subst (λ (g : FibrilNo). conn_of_fibril g cs ≡ Some (route_to n msg c)) w.serves.own
      (route_changes a.conns label n msg c kept.conns found).by_fibril

  reached : (x : Bool) → after_route b n (if x then routed.Closed c.fibril else routed.Queued c.fibril) ≡
      reach b c.fibril
  reached true = refl
  reached false = refl

  waiter_is : (s : Taken) → take_answer (Some (route_to n msg c)) ≡ s →
      (step a (outcome.Received n msg label)).state ≡ hand_over d f s (Some t)
  waiter_is s gives =
      ap (λ (r : Turn). (step_in a (outcome.Received n msg label) r).state) now
      ∙ ap (λ (x : Bool). (receive_call_by a n msg label x).state) (ne_eqb msg.method connect_me_to plain)
      ∙ ap (λ (q : Option Conn). after_route b n (route_answer msg.method q)) found
      ∙ reached (closes msg.method c)
      ∙ ap (λ (g : FibrilNo). reach b g) w.serves.own
      ∙ ap (λ (v : Option Why). reach_blocked b f v) w.waits
      ∙ ap (λ (q : Option Conn). hand_over d f (take_answer q) (context_at b f)) own
      ∙ ap (λ (r : Taken). hand_over d f r (context_at b f)) gives
      ∙ ap (λ (q : Option Context). hand_over d f s q) w.serves.keeps

  abbrev call : Queued
  call = record { call = n; msg = msg }

  abbrev routed_if : Bool → Conn
  routed_if x = if x then record c { close_call = Some n; closed = true } else record c { queue = c.queue ++ call ∷ [] }

  given_call : msg.method ≢ 0 → take_answer (Some (route_to n msg c)) ≡ taken.Call n msg label
  given_call other =
      ap (λ (x : Bool). take_answer (Some (routed_if (x && is_open c.close_call)))) (ne_eqb msg.method 0 other)
      ∙ ap (λ (qs : List Queued). take_from (record c { queue = qs ++ call ∷ [] }) (qs ++ call ∷ [])) empty
      ∙ ap (λ (l : Label). taken.Call n msg l) w.labelled

  given_closing : msg.method ≡ 0 → take_answer (Some (route_to n msg c)) ≡ taken.HungUp label
  given_closing none =
      ap (λ (x : Bool). take_answer (Some (routed_if (x && is_open c.close_call)))) (eq-eqb msg.method 0 none)
      ∙ ap (λ (q : Option CallNo). take_answer (Some (routed_if (is_open q)))) unclosed
      ∙ ap (λ (qs : List Queued). take_from (record c { close_call = Some n; closed = true }) qs) empty
      ∙ ap (λ (l : Label). taken.HungUp l) w.labelled

  taken_call : msg.method ≢ 0 → Takes f t n msg label a (step a (outcome.Received n msg label)).state
  taken_call user =
      subst (λ (x : AsyncState). Takes f t n msg label a x)
      (sym (waiter_is (taken.Call n msg label) (given_call user)))
      (takes a d f t n msg label (waiting_number a.order f.0 why.Message w.waits) w.serves.keeps w.serves.many refl)

  taken_closing : msg.method ≡ 0 → Takes f t no_call closing label a (step a (outcome.Received n msg label)).state
  taken_closing none =
      subst (λ (x : AsyncState). Takes f t no_call closing label a x)
      (sym (waiter_is (taken.HungUp label) (given_closing none)))
      (takes a d f t no_call closing label (waiting_number a.order f.0 why.Message w.waits) w.serves.keeps w.serves.many
      refl)

pub waiters_take_at_once : WaitersTakeAtOnce
waiters_take_at_once a n msg label f t c kept now w plain other = taken_call a n msg label f t c kept now w plain other

pub waiters_hear_hangups : WaitersHearHangups
waiters_hear_hangups a n msg label f t c kept now w none =
    taken_closing a n msg label f t c kept now w (λ e. omega (arith, e, none)) none

-- a fibril that a connection starts

with_length : (b : AsyncState) (f : FibrilNo) (u : Context) → length (with_context b f u).contexts ≡ length b.contexts
with_length b f u = by (is_some (context_at b f))
  where
    by : (x : Bool) →
        length (if x then slice_set b.contexts (f.0 - 1) (Some u) else b.contexts) ≡ length b.contexts
    by true = length_set b.contexts (f.0 - 1) (Some u)
    by false = refl

hand_length : (d : AsyncState) (f : FibrilNo) (s : Taken) (q : Option Context) →
    length (hand_over d f s q).contexts ≡ length d.contexts
hand_length d f (taken.Call n msg label) (Some t) = with_length d f (at_next (with_received t n msg label))
hand_length d f (taken.HungUp label) (Some t) = with_length d f (at_next (with_received t no_call closing label))
hand_length d f (taken.Call n msg label) None = refl
hand_length d f (taken.HungUp label) None = refl
hand_length d f taken.Wait q = refl
hand_length d f taken.NoConnection q = refl

reach_length : (b : AsyncState) (f : FibrilNo) (v : Option Why) →
    length (reach_blocked b f v).contexts ≡ length b.contexts
reach_length b f (Some why.Message) =
    hand_length (record b { conns = conns.take_next f b.conns; order = make_ready b.order f }) f
    (take_answer (conn_of_fibril f b.conns)) (context_at b f)
reach_length b f None = refl
reach_length b f (Some (why.Answer n)) = refl
reach_length b f (Some (why.Mutex s)) = refl
reach_length b f (Some why.Phone) = refl

holder_length : (b : AsyncState) (g : Option FibrilNo) → length (reach_holder b g).contexts ≡ length b.contexts
holder_length b None = refl
holder_length b (Some f) = reach_length b f (why_of b.order f)

pub started_ones_know_their_call : StartedOnesKnowTheirCall
started_ones_know_their_call a n msg label body now asks is =
    subst (λ (x : AsyncState). KnowsItsCall n msg label body a x) (sym state) (record {
      now = new;
      here =
          ap (λ (i : ℕ). slice_get (before.contexts ++ Some new ∷ []) i) (sym (holder_length b holder))
          ∙ push_here before.contexts (Some new);
      registers = tells (new_context body) n msg label refl;
      rest = refl;
    })
  where
    new : Context
    new = with_received (new_context body) n msg label

    holder : Option FibrilNo
    holder = fibril_of (conn_of_label (called_label msg) a.conns)

    b : AsyncState
    b = record a { conns = conns.start (called_label msg) (next_number a.order) a.conns }

    before : AsyncState
    before = reach_holder b holder

    state : (step a (outcome.Received n msg label)).state ≡
        (start_connection a n msg label body (called_label msg)).state
    state =
        ap (λ (r : Turn). (step_in a (outcome.Received n msg label) r).state) now
        ∙ ap (λ (x : Bool). (receive_call_by a n msg label x).state) (eq-eqb msg.method connect_me_to asks)
        ∙ ap (λ (p : Option ℕ). (connect_call a n msg label p).state) is
