-- An async task is read again from its words, but for its number, its bodies and how many outcomes it took.
use Rattle.std.proofs.Common.{Option, None, Some, ℕ, zero, suc, ◌≡◌, List, [], ◌∷◌, ◌++◌, refl, ◌∙◌, ap}
use Rattle.ipc_ids.specs.declared.numbers.CallNo.{CallNo}
use Rattle.ipc_ids.specs.declared.numbers.TaskNo.{TaskNo}
use Rattle.ipc_ids.specs.declared.numbers.Code.{Code}
use Rattle.ipc_ids.specs.declared.numbers.ExchangeNo.{ExchangeNo}
use Rattle.ipc_ids.specs.declared.message.Reply.{Reply}
use Rattle.ipc_ids.specs.declared.message.Why.{Why}
use Rattle.ipc_ids.specs.declared.message.Why.TheVariants as why
use Rattle.ipc_ids.specs.declared.message.ExchangeMode.{ExchangeMode}
use Rattle.ipc_ids.specs.declared.message.ExchangeMode.TheVariants.{Atomic, Serialize, Parallel}
use Rattle.ipc_ids.specs.declared.op.Body.{Body}
use Rattle.fibril_core.specs.declared.fibrils.Status.{Status}
use Rattle.fibril_core.specs.declared.fibrils.Status.TheVariants.{Ready, Blocked, Ended}
use Rattle.fibril_core.specs.declared.fibrils.Fibril.{Fibril}
use Rattle.fibril_core.specs.declared.conn.Conn.{Conn}
use Rattle.fibril_core.specs.declared.conn.Queued.{Queued}
use Rattle.fibril_core.specs.Fibrils.{FibrilOrder}
use Rattle.async_sessions.specs.declared.sessions.Session.{Session}
use Rattle.async_sessions.specs.declared.sessions.Held.{Held}
use Rattle.async_sessions.specs.declared.sessions.Held.TheVariants.{By, Idle}
use Rattle.async_sessions.specs.declared.sessions.Exchange.{Exchange}
use Rattle.async_sessions.specs.Sessions.{Open}
use Rattle.async_task.specs.declared.awaited.Awaited.{Awaited}
use Rattle.async_task.specs.declared.context.Context.{Context}
use Rattle.async_task.specs.declared.context.Slot.{Slot}
use Rattle.async_task.specs.declared.context.Slot.TheVariants as slot
use Rattle.async_task.specs.AsyncState.{AsyncState}
use Rattle.async_task.specs.Program.{AsyncTask}
use Rattle.state_words.specs.Words.{number_words, list_words, option_words}
use Rattle.state_words.specs.CallWords.{reply_words}
use Rattle.state_words.proofs.Splits.{Splits, read_splits, number_splits, both, and_split, each_split, some_split, as_split}
use Rattle.state_words.proofs.CallSplits.{label_splits, msg_splits, reply_splits, bool_splits}
use Rattle.state_words.specs.AsyncWords.{why_words, status_words, fibril_words, order_words, slot_words, exchange_number_words, context_words, call_number_words, queued_words, conn_words, mode_words, held_words, session_words, exchange_words, pool_words, awaited_words, owed_words, async_words, async_quiet}

-- ---- fibrils
read_why : List ℕ → Option (Why × List ℕ)
read_why (zero ∷ (n ∷ s)) = Some (why.Answer (record { 0 = n }), s)
read_why (suc zero ∷ (k ∷ s)) = Some (why.Mutex k, s)
read_why (suc (suc zero) ∷ s) = Some (why.Phone, s)
read_why (suc (suc (suc n)) ∷ s) = Some (why.Message, s)
read_why _ = None

why_read : (a : Why) (s : List ℕ) → read_why (why_words a ++ s) ≡ Some (a, s)
unfolding read_why
why_read (why.Answer n) s = refl
why_read (why.Mutex k) s = refl
why_read why.Phone s = refl
why_read why.Message s = refl

read_blocked : Option (Why × List ℕ) → Option (Status × List ℕ)
read_blocked None = None
read_blocked (Some p) = Some (Blocked p.0, p.1)

read_status : List ℕ → Option (Status × List ℕ)
read_status [] = None
read_status (zero ∷ s) = Some (Ready, s)
read_status (suc zero ∷ s) = Some (Ended, s)
read_status (suc (suc n) ∷ s) = read_blocked (read_why s)

status_read : (a : Status) (s : List ℕ) → read_status (status_words a ++ s) ≡ Some (a, s)
unfolding read_status read_blocked
status_read Ready s = refl
status_read Ended s = refl
status_read (Blocked w) s = ap read_blocked (why_read w s)

pub status_splits : Splits status_words
status_splits = read_splits status_words read_status status_read

pub fibril_splits : Splits fibril_words
fibril_splits =
    as_split (and_split number_splits (and_split status_splits number_splits))
    (λ (x : Fibril). (x.number.0, (x.status, x.stamp))) (λ p. record { number = record { 0 = p.0 }; status = p.1.0; stamp = p.1.1 }) (λ _. refl)

pub order_splits : Splits order_words
order_splits =
    as_split (and_split (each_split fibril_splits) number_splits)
    (λ (o : FibrilOrder). (o.fibrils, o.next_stamp)) (λ p. record { fibrils = p.0; next_stamp = p.1 }) (λ _. refl)

-- ---- what a fibril keeps
said : Splits (both number_words reply_words)
said = and_split number_splits reply_splits

answered : (n m : CallNo) (q r : Reply) (s t : List ℕ) → both number_words reply_words (n.0, q) ++ s ≡ both number_words reply_words (m.0, r) ++ t → (slot.Answered n q ≡ slot.Answered m r) × (s ≡ t)
answered n m q r s t e =
    let h = said.split (n.0, q) (m.0, r) s t e in
    (ap (λ (p : ℕ × Reply). slot.Answered (record { 0 = p.0 }) p.1) h.0, h.1)

slot_split : (a b : Slot) (s t : List ℕ) → slot_words a ++ s ≡ slot_words b ++ t → (a ≡ b) × (s ≡ t)
slot_split slot.Closed slot.Closed s t e = (refl, cc)
slot_split slot.Closed (slot.Sent m) s t e = absurd (cc)
slot_split slot.Closed (slot.Answered m r) s t e = absurd (cc)
slot_split (slot.Sent n) slot.Closed s t e = absurd (cc)
slot_split (slot.Sent n) (slot.Sent m) s t e =
    let f : n.0 ≡ m.0 = cc in
    (ap (λ (z : ℕ). slot.Sent (record { 0 = z })) f, cc)
slot_split (slot.Sent n) (slot.Answered m r) s t e = absurd (cc)
slot_split (slot.Answered n q) slot.Closed s t e = absurd (cc)
slot_split (slot.Answered n q) (slot.Sent m) s t e = absurd (cc)
slot_split (slot.Answered n q) (slot.Answered m r) s t e = answered n m q r s t (cc)

pub slot_splits : Splits slot_words
slot_splits = record { split = slot_split }

pub exchange_number_splits : Splits exchange_number_words
exchange_number_splits = as_split number_splits (λ (e : ExchangeNo). e.0) (λ n. record { 0 = n }) (λ _. refl)

pub context_splits : Splits context_words
context_splits =
    as_split (and_split number_splits (and_split number_splits (and_split (each_split number_splits) (and_split (each_split slot_splits) (and_split (each_split (some_split exchange_number_splits)) bool_splits)))))
    (λ (t : Context). (t.body, (t.place, (t.registers, (t.slots, (t.handles, t.short))))))
    (λ p. record { body = p.0; place = p.1.0; registers = p.1.1.0; slots = p.1.1.1.0; handles = p.1.1.1.1.0; short = p.1.1.1.1.1 }) (λ _. refl)

-- ---- connections
pub call_number_splits : Splits call_number_words
call_number_splits = as_split number_splits (λ (n : CallNo). n.0) (λ n. record { 0 = n }) (λ _. refl)

pub queued_splits : Splits queued_words
queued_splits =
    as_split (and_split number_splits msg_splits) (λ (q : Queued). (q.call.0, q.msg)) (λ p. record { call = record { 0 = p.0 }; msg = p.1 }) (λ _. refl)

pub conn_splits : Splits conn_words
conn_splits =
    as_split (and_split number_splits (and_split label_splits (and_split bool_splits (and_split (each_split queued_splits) (and_split bool_splits (some_split call_number_splits))))))
    (λ (c : Conn). (c.fibril.0, (c.label, (c.routes, (c.queue, (c.closed, c.close_call))))))
    (λ p. record { fibril = record { 0 = p.0 }; label = p.1.0; routes = p.1.1.0; queue = p.1.1.1.0; closed = p.1.1.1.1.0; close_call = p.1.1.1.1.1 }) (λ _. refl)

-- ---- sessions and exchanges
read_mode : List ℕ → Option (ExchangeMode × List ℕ)
read_mode [] = None
read_mode (zero ∷ s) = Some (Atomic, s)
read_mode (suc zero ∷ s) = Some (Serialize, s)
read_mode (suc (suc n) ∷ s) = Some (Parallel, s)

mode_read : (a : ExchangeMode) (s : List ℕ) → read_mode (mode_words a ++ s) ≡ Some (a, s)
unfolding read_mode
mode_read Atomic s = refl
mode_read Serialize s = refl
mode_read Parallel s = refl

pub mode_splits : Splits mode_words
mode_splits = read_splits mode_words read_mode mode_read

read_held : List ℕ → Option (Held × List ℕ)
read_held (zero ∷ s) = Some (Idle, s)
read_held (suc n ∷ (f ∷ s)) = Some (By (record { 0 = f }), s)
read_held _ = None

held_read : (a : Held) (s : List ℕ) → read_held (held_words a ++ s) ≡ Some (a, s)
unfolding read_held
held_read Idle s = refl
held_read (By f) s = refl

pub held_splits : Splits held_words
held_splits = read_splits held_words read_held held_read

pub session_splits : Splits session_words
session_splits = as_split (and_split number_splits mode_splits) (λ (x : Session). (x.phone, x.mode)) (λ p. record { phone = p.0; mode = p.1 }) (λ _. refl)

pub exchange_splits : Splits exchange_words
exchange_splits =
    as_split (and_split number_splits (and_split number_splits (and_split number_splits (and_split mode_splits (and_split held_splits number_splits)))))
    (λ (e : Exchange). (e.number.0, (e.session, (e.phone, (e.mode, (e.held, e.stamp))))))
    (λ p. record { number = record { 0 = p.0 }; session = p.1.0; phone = p.1.1.0; mode = p.1.1.1.0; held = p.1.1.1.1.0; stamp = p.1.1.1.1.1 }) (λ _. refl)

pub pool_splits : Splits pool_words
pool_splits =
    as_split (and_split (each_split (some_split session_splits)) (and_split (each_split exchange_splits) (and_split number_splits number_splits)))
    (λ (o : Open). (o.sessions, (o.exchanges, (o.next_number, o.next_stamp))))
    (λ p. record { sessions = p.0; exchanges = p.1.0; next_number = p.1.1.0; next_stamp = p.1.1.1 }) (λ _. refl)

-- ---- what is awaited and owed
pub awaited_splits : Splits awaited_words
awaited_splits =
    as_split (and_split number_splits (and_split number_splits (some_split number_splits)))
    (λ (w : Awaited). (w.call.0, (w.fibril.0, w.slot))) (λ p. record { call = record { 0 = p.0 }; fibril = record { 0 = p.1.0 }; slot = p.1.1 }) (λ _. refl)

pub owed_splits : Splits owed_words
owed_splits = as_split (and_split number_splits number_splits) (λ (p : CallNo × Code). (p.0.0, p.1.0)) (λ p. (record { 0 = p.0 }, record { 0 = p.1 })) (λ _. refl)

-- ---- the task
abbrev Parts : Type 0
Parts = FibrilOrder × (List (Option Context) × (List Conn × (Open × (List Awaited × List (CallNo × Code)))))

abbrev parts_words : Parts → List ℕ
parts_words = both order_words (both (list_words (option_words context_words)) (both (list_words conn_words) (both pool_words (both (list_words awaited_words) (list_words owed_words)))))

parts_splits : Splits parts_words
parts_splits =
    and_split order_splits (and_split (each_split (some_split context_splits)) (and_split (each_split conn_splits) (and_split pool_splits (and_split (each_split awaited_splits) (each_split owed_splits)))))

abbrev parts_of : AsyncState → Parts
parts_of a = (a.order, (a.contexts, (a.conns, (a.pool, (a.awaited, a.work)))))

abbrev task_of : TaskNo → List Body → Parts → AsyncTask
task_of me bodies p =
    record {
      state = record { me = me; bodies = bodies; order = p.0; contexts = p.1.0; conns = p.1.1.0; pool = p.1.1.1.0; awaited = p.1.1.1.1.0; work = p.1.1.1.1.1 };
      taken = 0;
    }

pub async_split : (a b : AsyncTask) (s t : List ℕ) → a.state.me ≡ b.state.me → a.state.bodies ≡ b.state.bodies → async_words a.state ++ s ≡ async_words b.state ++ t → (async_quiet a ≡ async_quiet b) × (s ≡ t)
async_split a b s t e f g =
    let h = parts_splits.split (parts_of a.state) (parts_of b.state) s t g in
    (ap (λ z. task_of z a.state.bodies (parts_of a.state)) e ∙ ap (λ z. task_of b.state.me z (parts_of a.state)) f ∙ ap (task_of b.state.me b.state.bodies) h.0, h.1)
