-- What does nothing, and a hangup, does all that is said of it, and that determines what it does.
use Rattle.std.proofs.Common.{◌≡◌, ℕ, Bool, true, ◌⊎◌, inl, inr, List, [], Option, None, Some, refl, sym, ap, subst, ◌∙◌, ◌+◌, length}
use Rattle.std.proofs.lemmas.Bool.{cases_eq}
use Rattle.ipc_ids.specs.declared.numbers.Code.{Code}
use Rattle.ipc_ids.specs.declared.numbers.CallNo.{CallNo}
use Rattle.ipc_ids.specs.declared.numbers.TaskNo.{TaskNo}
use Rattle.ipc_ids.specs.declared.message.Msg.{Msg}
use Rattle.ipc_ids.specs.declared.message.PhoneState.{PhoneState}
use Rattle.ipc_ids.specs.declared.message.PhoneState.TheVariants.{Connected, HungUp, Slammed}
use Rattle.ipc_ids.specs.declared.message.Request.TheVariants as request
use Rattle.ipc_ids.specs.declared.message.Outcome.{Outcome}
use Rattle.ipc_ids.specs.declared.message.Outcome.TheVariants as outcome
use Rattle.ipc_ids.specs.declared.entry.Entry.{Entry}
use Rattle.ipc_ids.specs.Codes.{enoent, einval}
use Rattle.ipc_ids.proofs.Common.{is_some}
use Rattle.call_slab.specs.declared.call.Call.{Call}
use Rattle.call_slab.specs.declared.call.Place.{Place}
use Rattle.call_slab.specs.declared.call.Place.TheVariants.{Incoming}
use Rattle.answerbox.specs.Calls.{CallTable, enqueue}
use Rattle.phone_table.specs.Phones.{state_at}
use Rattle.switchboard.specs.State.{KernelState, phone_at, with_state_at, Tasks, Transition}
use Rattle.switchboard.specs.Serving.{Served, refusal, telling}
use Rattle.switchboard.specs.Joins.{hangup_call, hang_up}
use Rattle.switchboard.proofs.Keepers.{state_here}
use Rattle.switchboard.proofs.Lookups.{put_here, put_other}
use Rattle.switchboard.proofs.Soundness.{length_rows}
use Rattle.kernel_core.specs.HangingUp.{hangup_over}
use Rattle.kernel_core.specs.Kernel.{serve, and_event}
use Rattle.kernel_determined.specs.Frames.{IsOneEvent, PhonesStay, PhoneComesTo, CallsStay, OneCallMore, IsMade, IsStep, IsQuietEvent, NothingHappens, IsRefusal}
use Rattle.kernel_determined.specs.HangupLaw.{IsNothing, farewell, TellsOfHangup, TellsNobody, IsHangup}
use Rattle.kernel_determined.proofs.Same.{rows_same, table_same, state_same, served_same, one_changed}
use Rattle.cleanup.proofs.KilledPhones.{written_elsewhere}

-- what is determined of a state

pub phones_same : (k a b : KernelState) → IsOneEvent k a → IsOneEvent k b
    → ((u : TaskNo) (q : ℕ) → phone_at a u q ≡ phone_at b u q) → a.tasks.phones ≡ b.tasks.phones
phones_same k a b x y at = rows_same a.tasks.phones b.tasks.phones (x.tasks ∙ sym y.tasks) at

pub stay_same : (k a b : KernelState) → PhonesStay k a → PhonesStay k b → (u : TaskNo) (q : ℕ)
    → phone_at a u q ≡ phone_at b u q
stay_same k a b x y u q = x u q ∙ sym (y u q)

pub come_same : (k a b : KernelState) (t : TaskNo) (p : ℕ) (s : PhoneState) → PhoneComesTo t p s k a
    → PhoneComesTo t p s k b → (u : TaskNo) (q : ℕ) → phone_at a u q ≡ phone_at b u q
come_same k a b t p s x y u q = by_both (cases_eq u.0 t.0) (cases_eq q p) where
  by_both : (u.0 ≡ t.0) ⊎ (u.0 ≡ t.0 → ⊥) → (q ≡ p) ⊎ (q ≡ p → ⊥) → phone_at a u q ≡ phone_at b u q
  by_both (inl e) (inl f) = ap (λ n. state_at a.tasks.phones n q) e ∙ ap (state_at a.tasks.phones t.0) f ∙ x.this
      ∙ sym (ap (λ n. state_at b.tasks.phones n q) e ∙ ap (state_at b.tasks.phones t.0) f ∙ y.this)
  by_both (inr e) d = x.others u q (λ s. e s.0) ∙ sym (y.others u q (λ s. e s.0))
  by_both (inl e) (inr f) = x.others u q (λ s. f s.1) ∙ sym (y.others u q (λ s. f s.1))

pub calls_stay_same : (q a b : CallTable) → CallsStay q a → CallsStay q b → a ≡ b
calls_stay_same q a b x y = table_same a b (λ n. x.each n ∙ sym (y.each n)) (x.numbers ∙ sym y.numbers)
    (x.arrivals ∙ sym y.arrivals)

pub more_same : (q a b : CallTable) (c d : Call) → OneCallMore q a c → OneCallMore q b d → c ≡ d → a ≡ b
more_same q a b c d x y same = one_changed q a b q.next_number (Some c) (Some d) x.made y.made (ap Some same) x.others
    y.others (x.numbers ∙ sym y.numbers) (x.arrivals ∙ sym y.arrivals)

-- calls with the same parts are one
pub call_same : (c d : Call) → c.number ≡ d.number → c.caller ≡ d.caller → c.from ≡ d.from → c.label ≡ d.label
    → c.request ≡ d.request → c.msg ≡ d.msg → c.reply ≡ d.reply → c.discard ≡ d.discard → c.buffer ≡ d.buffer
    → c.reserved ≡ d.reserved → c.place ≡ d.place → c.stamp ≡ d.stamp → c ≡ d
call_same c d number caller from label request msg reply discard buffer reserved place stamp = λ i. record {
  number = number i;
  caller = caller i;
  from = from i;
  label = label i;
  request = request i;
  msg = msg i;
  reply = reply i;
  discard = discard i;
  buffer = buffer i;
  reserved = reserved i;
  place = place i;
  stamp = stamp i;
}

pub made_same : (k : KernelState) (t : TaskNo) (p : ℕ) (msg : Msg) (discard : Bool) (place : Place) (c d : Call)
    → IsMade k t p msg discard place c → IsMade k t p msg discard place d → c.stamp ≡ d.stamp → c ≡ d
made_same k t p msg discard place c d x y stamp = call_same c d
    (ap (λ n. let r : CallNo = record { 0 = n } in r) (x.number ∙ sym y.number)) (x.caller ∙ sym y.caller)
    (x.from ∙ sym y.from) (x.label ∙ sym y.label) (x.request ∙ sym y.request) (x.msg ∙ sym y.msg)
    (x.reply ∙ sym y.reply) (x.discard ∙ sym y.discard) (x.bytes ∙ sym y.bytes) (x.reserved ∙ sym y.reserved)
    (x.place ∙ sym y.place) stamp

pub nothing_same : (k : KernelState) (a b : Served) → NothingHappens k a → NothingHappens k b → a.outcome ≡ b.outcome
    → a ≡ b
nothing_same k a b x y outcomes = served_same a b
    (state_same a.state b.state (x.event.alive ∙ sym y.event.alive)
    (phones_same k a.state b.state x.event y.event (stay_same k a.state b.state x.phones y.phones))
    (calls_stay_same k.calls a.state.calls b.state.calls x.calls y.calls) (x.memory ∙ sym y.memory)
    (x.event.counted ∙ sym y.event.counted))
    outcomes (x.entries ∙ sym y.entries)

pub refusal_same : (code : Code) (k : KernelState) (a b : Served) → IsRefusal code k a → IsRefusal code k b → a ≡ b
refusal_same code k a b x y = nothing_same k a b x.nothing y.nothing (x.told ∙ sym y.told)

pub nothing_is_determined : (k : KernelState) (a b : Served) → IsNothing k a → IsNothing k b → a ≡ b
nothing_is_determined k a b x y = nothing_same k a b x.nothing y.nothing (x.told ∙ sym y.told)

-- two ends are alike in each phone, in the calls, and in what is told
pub record AreAlike (a b : KernelState) (m n : List Entry) : Type 0 where
  pub phones : (u : TaskNo) (q : ℕ) → phone_at a u q ≡ phone_at b u q
  pub calls : a.calls ≡ b.calls
  pub entries : m ≡ n

-- then they are one, after an event that changes no memory, and after a step within one
pub quiet_same : (told : Outcome) (k : KernelState) (a b : Served) → IsQuietEvent told k a → IsQuietEvent told k b
    → AreAlike a.state b.state a.entries b.entries → a ≡ b
quiet_same told k a b x y alike = served_same a b
    (state_same a.state b.state (x.event.alive ∙ sym y.event.alive)
    (phones_same k a.state b.state x.event y.event alike.phones)
    alike.calls (x.memory ∙ sym y.memory) (x.event.counted ∙ sym y.event.counted))
    (x.answer ∙ sym y.answer) alike.entries

pub step_same : (k a b : KernelState) (m n : List Entry) → IsStep k a → IsStep k b → AreAlike a b m n
    → (a ≡ b) × (m ≡ n)
step_same k a b m n x y alike = (
  state_same a b (x.alive ∙ sym y.alive) (rows_same a.tasks.phones b.tasks.phones (x.tasks ∙ sym y.tasks) alike.phones)
      alike.calls (x.memory ∙ sym y.memory) (x.counted ∙ sym y.counted),
  alike.entries,
)

module _ (t : TaskNo) (p : ℕ) (k a b : KernelState) (m n : List Entry) where
  pub tells_same : (u : TaskNo) → TellsOfHangup t p u k a m → TellsOfHangup t p u k b n → AreAlike a b m n
  tells_same u x y = record {
    phones = come_same k a b t p HungUp x.phone y.phone;
    calls = more_same k.calls a.calls b.calls x.call y.call x.calls y.calls
        (made_same k t p farewell true (Incoming u) x.call y.call x.made y.made (x.calls.last ∙ sym y.calls.last));
    entries = x.entries ∙ sym y.entries;
  }

  pub nobody_same : TellsNobody t p k a m → TellsNobody t p k b n → AreAlike a b m n
  nobody_same x y = record {
    phones = come_same k a b t p HungUp x.phone y.phone;
    calls = calls_stay_same k.calls a.calls b.calls x.calls y.calls;
    entries = x.entries ∙ sym y.entries;
  }

pub hangup_is_determined : (o : Option PhoneState) (t : TaskNo) (p : ℕ) (k : KernelState) (a b : Served)
    → IsHangup o t p k a
    → IsHangup o t p k b → a ≡ b
hangup_is_determined None t p k a b x y = refusal_same enoent k a b x y
hangup_is_determined (Some (Connected u)) t p k a b x y =
    quiet_same outcome.Done k a b x.quiet y.quiet (tells_same t p k a.state b.state a.entries b.entries u x.hangup
    y.hangup)
hangup_is_determined (Some Slammed) t p k a b x y =
    quiet_same outcome.Done k a b x.quiet y.quiet (nobody_same t p k a.state b.state a.entries b.entries x.hangup
    y.hangup)
hangup_is_determined _ t p k a b x y = refusal_same einval k a b x y

-- what the definitions do

pub nothing_is_so : (k : KernelState) (o : Outcome)
    → NothingHappens k (and_event (record { state = k; outcome = o; entries = [] }))
nothing_is_so k o = record {
  event = record { counted = refl; alive = refl; tasks = refl };
  phones = λ u q. refl;
  calls = record { each = λ n. refl; numbers = refl; arrivals = refl };
  memory = refl;
  entries = refl;
}

pub refuses : (k : KernelState) (code : Code) → IsRefusal code k (and_event (refusal k code))
refuses k code = record { told = refl; nothing = nothing_is_so k (outcome.Refused code) }

-- one call more comes to a queue
pub comes : (q after : CallTable) (c : Call) → c.number.0 ≡ q.next_number → after ≡ enqueue q c
    → OneCallMore q after (record c { stamp = q.next_stamp })
comes q after c number same =
    let d : Call = record c { stamp = q.next_stamp } in
    subst (λ (r : CallTable). OneCallMore q r d) (sym same) (record {
      made = put_here q c.number.0 q.next_number d number;
      last = refl;
      others = λ n ne. put_other q c.number.0 n d (λ e. ne (sym e ∙ number));
      numbers = refl;
      arrivals = refl;
    })

module _ (k : KernelState) (t : TaskNo) (p : ℕ) (after : KernelState)
    (phones : after.tasks.phones ≡ with_state_at k.tasks.phones t.0 p HungUp) where
  hung_up : (s : PhoneState) → phone_at k t p ≡ Some s → PhoneComesTo t p HungUp k after
  hung_up s is = record {
    this = ap (λ rows. state_at rows t.0 p) phones
        ∙ state_here k.tasks.phones t.0 p HungUp (is_some (phone_at k t p) s is);
    others = λ u q ne. ap (λ rows. state_at rows u.0 q) phones
        ∙ written_elsewhere k.tasks.phones t.0 p u.0 q HungUp ne;
  }

  pub tells : (u : TaskNo) → phone_at k t p ≡ Some (Connected u) → after.calls ≡ enqueue k.calls (hangup_call k t p u)
      → TellsOfHangup t p u k after (hang_up k t p (Some (Connected u))).entries
  tells u is calls =
      let c : Call = record (hangup_call k t p u) { stamp = k.calls.next_stamp } in
      record {
        phone = hung_up (Connected u) is;
        call = c;
        made = record {
          number = refl;
          caller = refl;
          from = refl;
          label = refl;
          request = refl;
          msg = refl;
          reply = refl;
          discard = refl;
          bytes = refl;
          reserved = refl;
          place = refl;
        };
        calls = comes k.calls after.calls (hangup_call k t p u) refl calls;
        entries = refl;
      }

  pub tells_nobody : phone_at k t p ≡ Some Slammed → after.calls ≡ k.calls
      → TellsNobody t p k after (hang_up k t p (Some Slammed)).entries
  tells_nobody is calls = record {
    phone = hung_up Slammed is;
    calls = subst (λ (q : CallTable). CallsStay k.calls q) (sym calls)
        (record { each = λ n. refl; numbers = refl; arrivals = refl });
    entries = refl;
  }

-- it changes no memory, and neither makes nor ends a task
hangup_quiet : (k : KernelState) (t : TaskNo) (p : ℕ) (after : Transition)
    → after.state.tasks ≡ record { alive = k.tasks.alive; phones = with_state_at k.tasks.phones t.0 p HungUp }
    → after.state.memory ≡ k.memory → after.state.events ≡ k.events
    → IsQuietEvent outcome.Done k (and_event (telling after outcome.Done))
hangup_quiet k t p after tasks memory events = record {
  answer = refl;
  event = record {
    counted = ap (λ n. n + 1) events;
    alive = ap (λ (x : Tasks). x.alive) tasks;
    tasks = ap (λ (x : Tasks). length x.phones) tasks ∙ length_rows k.tasks.phones t.0 p HungUp;
  };
  memory = memory;
}

hangs_up : (o : Option PhoneState) (k : KernelState) (t : TaskNo) (p : ℕ) → phone_at k t p ≡ o
    → IsHangup o t p k (and_event (hangup_over k t p o))
hangs_up None k t p is = refuses k enoent
hangs_up (Some (Connected u)) k t p is =
    record { quiet = hangup_quiet k t p _ refl refl refl; hangup = tells k t p _ refl u is refl }
hangs_up (Some Slammed) k t p is =
    record { quiet = hangup_quiet k t p _ refl refl refl; hangup = tells_nobody k t p _ refl is refl }
hangs_up _ k t p is = refuses k einval

pub hangup_is_so : (k : KernelState) (t : TaskNo) (p : ℕ)
    → IsHangup (phone_at k t p) t p k (serve k t (request.Hangup p))
hangup_is_so k t p = hangs_up (phone_at k t p) k t p refl

-- so any machine that does so is the definition
pub hangup_is_served : (k : KernelState) (t : TaskNo) (p : ℕ) (done : Served) → IsHangup (phone_at k t p) t p k done
    → done ≡ serve k t (request.Hangup p)
hangup_is_served k t p done is = hangup_is_determined (phone_at k t p) t p k done (serve k t (request.Hangup p)) is
    (hangup_is_so k t p)

pub nothing_is_served : (k : KernelState) (t : TaskNo) (done : Served) → IsNothing k done
    → done ≡ serve k t request.Nothing
nothing_is_served k t done is = nothing_is_determined k done (serve k t request.Nothing) is
    (record { told = refl; nothing = nothing_is_so k outcome.Done })
