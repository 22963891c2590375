-- The steps that a request and a kill share keep the causes: a hangup, a call that is settled, and one that is over.
use Rattle.std.proofs.Common.{◌≡◌, ℕ, List, ◌∷◌, Option, None, Some, refl, sym, subst, ◌∙◌, inl, inr}
use Rattle.std.specs.Prelude.{◌⊎◌}
use Rattle.std.specs.Option.{option_to_list}
use Rattle.std.proofs.lemmas.Bool.{ne_eqb}
use Rattle.std.proofs.lemmas.Option.{none-some}
use Rattle.ipc_ids.specs.declared.numbers.TaskNo.{TaskNo}
use Rattle.ipc_ids.specs.declared.numbers.Label.{Label}
use Rattle.ipc_ids.specs.declared.numbers.Code.{Code}
use Rattle.ipc_ids.specs.declared.methods.MethodKind.{MethodKind}
use Rattle.ipc_ids.specs.declared.methods.MethodKind.TheVariants.{ConnectToMe, ConnectMeTo}
use Rattle.ipc_ids.specs.declared.message.Msg.{Msg}
use Rattle.ipc_ids.specs.declared.message.Reply.{Reply}
use Rattle.ipc_ids.specs.declared.message.PhoneState.{PhoneState}
use Rattle.ipc_ids.specs.declared.message.PhoneState.TheVariants.{Free, Connecting, Connected, HungUp, Slammed}
use Rattle.ipc_ids.specs.declared.entry.Entry.{Entry}
use Rattle.ipc_ids.specs.declared.entry.Entry.TheVariants as entry
use Rattle.ipc_ids.specs.Codes.{eok}
use Rattle.ipc_ids.specs.Holdings.{on_top, present}
use Rattle.ipc_ids.proofs.Common.{is_some}
use Rattle.call_slab.specs.declared.call.Call.{Call}
use Rattle.call_slab.specs.declared.call.Place.{Place}
use Rattle.call_slab.specs.declared.call.Place.TheVariants.{Incoming, Answers}
use Rattle.answerbox.specs.Calls.{CallTable, enqueue, put_at, without_call}
use Rattle.phone_table.specs.Phones.{state_at}
use Rattle.switchboard.specs.State.{KernelState, Transition, phone_at, label_of, with_calls}
use Rattle.switchboard.specs.Sound.{HaveKeepers}
use Rattle.switchboard.specs.Kept.{AreKept, WaitsIn, keeper_of, kept_of, kept_phone, lent_of, lent_phone, unless_freed, with_kept, kept_note}
use Rattle.switchboard.specs.Board.{IsPendingAt}
use Rattle.switchboard.specs.Serving.{Served}
use Rattle.switchboard.specs.Joins.{vanishing, answer_to, declined, declined_call, drop_answer, passed_call, passage, hang_up, hangup_call}
use Rattle.switchboard.proofs.Usable.{kept_waits, lent_waits}
use Rattle.switchboard.proofs.KeptCalls.{declined_keeps, passed_keeps}
use Rattle.cleanup.proofs.Queues.{IsLive}
use Rattle.route_laws.specs.Leads.{Beginning, phone_in}
use Rattle.route_laws.specs.PhoneLaw.{HangsUp}
use Rattle.route_laws.proofs.PhoneSteps.{state_told}
use Rattle.run_determined.specs.PhoneCauses.{asked_for, lent_for, IsCause, IsWay, DropsUnawaited}
use Rattle.run_determined.proofs.CauseSteps.{IsKeptAs, kind_by, IsPlain, caused, still_kept, same_told, CausesFit, WholeFit, whole_next, whole_code, plain_told, phone_told, less_told, gone_keeps, put_kept, new_kept, kept_before, freed_told}

-- after these entries more, in that state
abbrev pub After : Beginning → List Entry → List Entry → KernelState → Type 0
After b q es j = WholeFit b (on_top es q) j.tasks.phones j.calls

abbrev pub AfterStep : Beginning → List Entry → Transition → Type 0
AfterStep b q step = After b q step.entries step.state

abbrev pub AfterServed : Beginning → List Entry → Served → Type 0
AfterServed b q served = After b q served.entries served.state

-- what holds so far, in this state
abbrev pub Fit : Beginning → List Entry → KernelState → Type 0
Fit b q k = WholeFit b q k.tasks.phones k.calls

-- a call that keeps no phone yet is accepted
pub accepted_told : (b : Beginning) (rows : List (List PhoneState)) (calls : CallTable) (q : List Entry) (d : Call)
    (to : Option TaskNo)
    → IsWay d.request.method to (phone_in b.wires d.from.task.0 d.from.phone.0 q) → kept_phone d ≡ None
    → WholeFit b q rows calls → CausesFit b (entry.Accepted d.number d.from d.request.method to ∷ q) rows
    (enqueue calls d)
accepted_told b rows calls q d to way none f =
    let e : Entry = entry.Accepted d.number d.from d.request.method to in
    record {
      had = (f.fit.had, caused b q e tt (whole_next q e f.whole) tt way tt tt tt);
      phones = f.fit.phones;
      kept = new_kept q (e ∷ q) calls d (λ n ne. (refl, refl)) (λ l has. absurd (none-some l (sym none ∙ has))) f.fit.kept;
    }

-- a hangup, of a request or of a kill
module _ (b : Beginning) (t : TaskNo) (q : List Entry) (k : KernelState) (p : ℕ)
    (may : HangsUp (label_of t p) (present q)) (f : Fit b q k) where
  pub hung_up_slammed : phone_at k t p ≡ Some Slammed → AfterStep b q (hang_up k t p (Some Slammed))
  hung_up_slammed is =
      phone_told b k.tasks.phones k.calls q (label_of t p) HungUp (λ e. cc e) (is_some (phone_at k t p) Slammed is)
      (subst (λ (s : PhoneState). IsCause b.names (label_of t p) q s HungUp)
      (sym (state_told b.wires q k.tasks.phones f.fit.phones t.0 p Slammed is)) may)
      (whole_next q (entry.PhoneIs (label_of t p) HungUp) f.whole) f.fit

  pub hung_up : (u : TaskNo) → phone_at k t p ≡ Some (Connected u)
      → AfterStep b q (hang_up k t p (Some (Connected u)))
  hung_up u is =
      let c : Call = hangup_call k t p u in
      let led : phone_in b.wires t.0 p q ≡ Connected u =
      state_told b.wires q k.tasks.phones f.fit.phones t.0 p (Connected u) is in
      let r : List Entry = entry.Accepted c.number c.from c.request.method (Some u) ∷ q in
      phone_told b k.tasks.phones (enqueue k.calls c) r (label_of t p) HungUp (λ e. cc e)
      (is_some (phone_at k t p) (Connected u) is)
      (subst (λ (s : PhoneState). IsCause b.names (label_of t p) r s HungUp) (sym led) (refl, refl, refl, may))
      (λ _. refl)
      (accepted_told b k.tasks.phones k.calls q c (Some u)
      (subst (IsWay c.request.method (Some u)) (sym led) refl) refl f)

-- ---- a live call

-- the phone that its holder keeps is told as lent
lent_told : (kind : MethodKind) (n : ℕ) (l : Label) (q : List Entry) (c : Call)
    → (kept_of (keeper_of kind) c.from.task c.place c.reply.code c.reserved ≡ Some l → IsKeptAs kind n l q)
    → lent_of (keeper_of kind) c.place c.reserved ≡ Some l → lent_for n q ≡ Some l
lent_told ConnectToMe n l q c told h = told h
lent_told _ n l q c told h = absurd (cc h)

-- one that it keeps at all is told as asked for or as lent
kept_told : (kind : MethodKind) (n : ℕ) (l : Label) (q : List Entry) → IsKeptAs kind n l q
    → (asked_for n q ≡ Some l) ⊎ (lent_for n q ≡ Some l)
kept_told ConnectToMe n l q h = inr h
kept_told ConnectMeTo n l q h = inl h
kept_told _ n l q h = absurd h

-- and at the answers as asked for
asked_told : (kind : MethodKind) (n : ℕ) (l : Label) (t : TaskNo) (q : List Entry) (c : Call)
    → kept_of (keeper_of kind) c.from.task (Answers t) c.reply.code c.reserved ≡ Some l → IsKeptAs kind n l q
    → asked_for n q ≡ Some l
asked_told ConnectToMe n l t q c has h = absurd (cc has)
asked_told ConnectMeTo n l t q c has h = h
asked_told _ n l t q c has h = absurd h

module _ (b : Beginning) (k : KernelState) (c : Call) (live : IsLive k c) (kept : AreKept k.tasks.phones k.calls)
    (q : List Entry) (f : Fit b q k) where
  -- what the entries tell of a phone that it keeps
  told : (l : Label) → kept_phone c ≡ Some l → IsKeptAs (kind_by c) c.number.0 l q
  told l has = f.fit.kept c.number.0 c l live has

  waits : (l : Label) → kept_phone c ≡ Some l → state_at k.tasks.phones l.task.0 l.phone.0 ≡ Some Connecting
  waits l has = subst (WaitsIn k.tasks.phones) has (kept_waits k.tasks.phones k.calls c.number.0 c kept live)

  lent_waits_now : (l : Label) → lent_phone c ≡ Some l → state_at k.tasks.phones l.task.0 l.phone.0 ≡ Some Connecting
  lent_waits_now l has = subst (WaitsIn k.tasks.phones) has (lent_waits k.tasks.phones k.calls c.number.0 c kept live)

  lent : (l : Label) → lent_phone c ≡ Some l → lent_for c.number.0 q ≡ Some l
  lent l has = lent_told (kind_by c) c.number.0 l q c (told l) has

  abbrev pub gone : CallTable
  gone = without_call k.calls c.number.0

  -- it is over, as this entry tells
  pub gone_told : (e : Entry) → IsPlain e → WholeFit b (e ∷ q) k.tasks.phones gone
  gone_told e plain =
      let w : WholeFit b (e ∷ q) k.tasks.phones k.calls = plain_told b k.tasks.phones k.calls q e plain f in
      record {
        fit = record {
          had = w.fit.had;
          phones = w.fit.phones;
          kept = less_told (e ∷ q) k.calls gone (gone_keeps k.calls c.number.0) w.fit.kept;
        };
        whole = w.whole;
      }

  -- and a phone that it kept is free
  over : (e : Entry) → IsPlain e
      → ((l : Label) → IsKeptAs (kind_by c) c.number.0 l q → kept_phone c ≡ Some l
      → IsCause b.names l (e ∷ q) Connecting Free)
      → After b q (e ∷ option_to_list (kept_note (kept_phone c) Free)) (with_calls (with_kept k (kept_phone c) Free) gone)
  over e plain why =
      let w : WholeFit b (e ∷ q) k.tasks.phones gone = gone_told e plain in
      freed_told b k.tasks.phones gone (e ∷ q) (kept_phone c) (λ l has. (waits l has, why l (told l has) has)) w.whole w.fit

  -- it vanishes
  pub vanished : AfterStep b q (vanishing k c)
  vanished = over (entry.Vanished c.number) tt (λ l told has. kept_told (kind_by c) c.number.0 l q told)

  module _ (t : TaskNo) (at : c.place ≡ Answers t) where
    asked : (l : Label) → kept_phone c ≡ Some l → IsKeptAs (kind_by c) c.number.0 l q → asked_for c.number.0 q ≡ Some l
    asked l has =
        asked_told (kind_by c) c.number.0 l t q c
        (subst (λ (place : Place). kept_of
        (keeper_of (kind_by c)) c.from.task place c.reply.code c.reserved ≡ Some l) at has)

    -- its answer is delivered, or dropped
    pub delivered : After b q (entry.Delivered c.number t ∷ option_to_list (kept_note (kept_phone c) Free))
        (with_calls (with_kept k (kept_phone c) Free) gone)
    delivered = over (entry.Delivered c.number t) tt (λ l told has. asked l has told)

    pub dropped : DropsUnawaited q (entry.Dropped c.number t) → AfterStep b q (drop_answer t k c)
    dropped why =
        let e : Entry = entry.Dropped c.number t in
        freed_told b k.tasks.phones gone (e ∷ q) (kept_phone c) (λ l has. (waits l has, asked l has (told l has))) tt
        (record {
          had = (f.fit.had, caused b q e tt (whole_next q e f.whole) tt tt tt tt why);
          phones = f.fit.phones;
          kept = less_told (e ∷ q) k.calls gone (gone_keeps k.calls c.number.0)
              (same_told q (e ∷ q) k.calls (λ n. (refl, refl)) f.fit.kept);
        })

  -- it goes to the answers of its caller with this record, of which the newest entry tells
  pub answered_told : (reply : Reply) (by : Option TaskNo) (d : Call) (u : TaskNo) → d.number ≡ c.number
      → d.request ≡ c.request
      → ((l : Label) → kept_phone (record d { place = Answers u }) ≡ Some l → kept_phone c ≡ Some l)
      → CausesFit b (entry.Answered c.number reply by ∷ q) k.tasks.phones (put_at k.calls d (Answers u))
  answered_told reply by d u number request before =
      let e : Entry = entry.Answered c.number reply by in
      record {
        had = (f.fit.had, caused b q e tt (whole_next q e f.whole) tt tt (whole_code b q reply.code f.whole) tt tt);
        phones = f.fit.phones;
        kept = put_kept q (e ∷ q) k.calls c d (Answers u) number request (λ n ne. (refl, refl))
            (λ l has. still_kept (kind_by c) c.number.0 l q (e ∷ q) (refl, refl) (told l (before l has))) f.fit.kept;
      }

  module _ (keepers : HaveKeepers k.tasks.phones k.calls) (pending : IsPendingAt c.place) where
    -- it is answered so that it is not accepted
    pub declined_told : (reply : Reply) (by : Option TaskNo) (u : TaskNo) → (reply.code ≡ eok → ⊥)
        → AfterStep b q (answer_to (declined k c reply) by u)
    declined_told reply by u not =
        freed_told b k.tasks.phones (put_at k.calls (declined_call c reply) (Answers u))
        (entry.Answered c.number reply by ∷ q) (lent_phone c)
        (λ l has. (lent_waits_now l has, (not, lent l has))) tt
        (answered_told reply by (declined_call c reply) u refl refl
        (λ l has. kept_before k c (record (declined_call c reply) { place = Answers u }) l keepers
        (declined_keeps k c reply u pending) has))

    -- it is passed on
    passed_as : (kind : MethodKind) (l : Label) (to by : TaskNo) (label : Label) (code : Code)
        (reserved : Option Label)
        → kept_of (keeper_of kind) c.from.task
        (Incoming to) code reserved ≡ Some l → IsKeptAs kind c.number.0 l q → IsKeptAs kind c.number.0 l
        (entry.Forwarded c.number by to label ∷ q)
    passed_as ConnectToMe l to by label code reserved has h = absurd (cc has)
    passed_as ConnectMeTo l to by label code reserved has h = h
    passed_as _ l to by label code reserved has h = absurd h

    pub passed : (msg : Msg) (label : Label) (by to : TaskNo) → AfterStep b q (passage msg label by to k c)
    passed msg label by to =
        let d : Call = passed_call msg label c in
        let e : Entry = entry.Forwarded c.number by to label in
        let r : List Entry = e ∷ q in
        freed_told b k.tasks.phones (put_at k.calls d (Incoming to)) r (lent_phone c)
        (λ l has. (lent_waits_now l has, lent l has)) tt
        (record {
          had = (f.fit.had, caused b q e tt (whole_next q e f.whole) tt tt tt tt tt);
          phones = f.fit.phones;
          kept = put_kept q r k.calls c d (Incoming to) refl refl
              (λ n ne. (refl, rw (ne_eqb c.number.0 n ne) refl))
              (λ l has. passed_as (kind_by c) l to by label c.reply.code (unless_freed (lent_phone c) c.reserved) has
              (told l (kept_before k c (record d { place = Incoming to }) l keepers
              (passed_keeps k c msg label to pending) has)))
              f.fit.kept;
        })
