-- Each request keeps what the entries tell of phones.
use Rattle.std.proofs.Common.{◌≡◌, ℕ, Bool, true, false, List, [], ◌∷◌, length, Option, None, Some, Result, Ok, Err, refl, ap, sym, subst, ◌∙◌, inl, inr}
use Rattle.std.specs.Prelude.{⊤}
use Rattle.std.specs.Option.{option_to_list}
use Rattle.ipc_ids.specs.declared.numbers.TaskNo.{TaskNo}
use Rattle.ipc_ids.specs.declared.numbers.StoreNo.{StoreNo}
use Rattle.ipc_ids.specs.declared.numbers.Label.{Label}
use Rattle.ipc_ids.specs.declared.numbers.Code.{Code}
use Rattle.ipc_ids.specs.declared.methods.MethodKind.{MethodKind}
use Rattle.ipc_ids.specs.declared.methods.MethodKind.TheVariants.{ConnectToMe, ConnectMeTo, DataWrite, DataRead, ShareOut, ShareIn}
use Rattle.ipc_ids.specs.declared.message.Msg.{Msg}
use Rattle.ipc_ids.specs.declared.message.Mode.{Mode}
use Rattle.ipc_ids.specs.declared.message.Mode.TheVariants.{Plain, Route}
use Rattle.ipc_ids.specs.declared.message.Reply.{Reply}
use Rattle.ipc_ids.specs.declared.message.Request.{Request}
use Rattle.ipc_ids.specs.declared.message.Request.TheVariants as request
use Rattle.ipc_ids.specs.declared.message.Outcome.{Outcome}
use Rattle.ipc_ids.specs.declared.message.Outcome.TheVariants as outcome
use Rattle.ipc_ids.specs.declared.message.PhoneState.{PhoneState}
use Rattle.ipc_ids.specs.declared.message.PhoneState.TheVariants.{Free, Connecting, Connected, HungUp, Slammed}
use Rattle.ipc_ids.specs.declared.entry.Entry.{Entry}
use Rattle.ipc_ids.specs.declared.entry.Entry.TheVariants as entry
use Rattle.ipc_ids.specs.Codes.{eok, eforward}
use Rattle.ipc_ids.specs.Methods.{kind_of}
use Rattle.ipc_ids.specs.Holdings.{on_top, present, making}
use Rattle.ipc_ids.proofs.LawfulAreas.{on_top-append}
use Rattle.ipc_ids.proofs.Common.{is_some}
use Rattle.call_slab.specs.declared.call.Call.{Call}
use Rattle.call_slab.specs.declared.call.Place.TheVariants.{Incoming, Dispatched, Answers}
use Rattle.answerbox.specs.Calls.{CallTable, call_at, enqueue, put_at, without_call}
use Rattle.forwarding.specs.Forwarding.{msg_after, label_after}
use Rattle.address_space.specs.Memory as spaces
use Rattle.data_hooks.specs.DataMoments.{address_of, count_of, cut_args, write_accept, read_deliver}
use Rattle.share_hooks.specs.ShareMoments.{base_of, pages_of, rights_of, out_accept, in_accept}
use Rattle.switchboard.specs.declared.sharing.Share.TheVariants.{Out, In}
use Rattle.switchboard.specs.State.{KernelState, Transition, phone_at, label_of}
use Rattle.switchboard.specs.Sound.{IsSound}
use Rattle.switchboard.specs.Kept.{AreKept, WaitsIn, kept_phone, lent_phone, kept_note, kept_rows, first_usable_of}
use Rattle.switchboard.specs.Joins.{bare_reply, new_call, acceptance, answer_at_once, reception, delivery, answer_to, declined_call, code_of, settle_for, passage, passed_call, hang_up, hangup_call}
use Rattle.switchboard.specs.Areas.{done_or_refused, made_note, gone_note, wrote_note}
use Rattle.switchboard.specs.Data.{accepted_write, accepted_read, delivered_read}
use Rattle.switchboard.specs.Sharing.{shared_note, accepted_share}
use Rattle.switchboard.specs.Serving.{Handed, Served}
use Rattle.switchboard.proofs.Lookups.{put_here}
use Rattle.switchboard.proofs.Usable.{kept_waits, lent_waits}
use Rattle.cleanup.proofs.Queues.{IsLive, sound_drop}
use Rattle.kernel_core.specs.Moments.{on_receive_of, on_accept_of, cut_down}
use Rattle.kernel_core.specs.Request.{serve_request}
use Rattle.kernel_core.proofs.AreaSteps.{quiet_hand}
use Rattle.kernel_core.proofs.InEvent.{same_task, same_place-true}
use Rattle.kernel_core.proofs.KindsOfCalls.{KindSays, kind_says, same_code, kept_to_me, kept_me_to, maker}
use Rattle.kernel_core.proofs.ByRequest as join
use Rattle.kernel_core.proofs.ByRequest.{own}
use Rattle.route_laws.specs.Leads.{Beginning, phone_in}
use Rattle.route_laws.specs.PhoneLaw.{label_of_call, label_by, PassesOn, ConnectsTwo, Connects, ComesToLead, HangsUp}
use Rattle.route_laws.specs.PhoneLaw as law
use Rattle.route_laws.specs.PhoneHistory.{PhonesFit}
use Rattle.route_laws.proofs.PhoneSteps.{state_told, target_told, AreIdle, waits_idle, usable_idle, IsPlain, ArePlain, TellsLabelOf, plain_told, plains_told, phone_told, idle_told, accepted_told, passed_told, calls_follow, gone_keeps, over_told, put_told}

-- after these entries more, in that state
abbrev pub After : Beginning → List Entry → List Entry → KernelState → Type 0
After b q es j = PhonesFit b (on_top es q) j.tasks.phones j.calls

abbrev pub AfterStep : Beginning → List Entry → Transition → Type 0
AfterStep b q step = After b q step.entries step.state

abbrev pub AfterServed : Beginning → List Entry → Served → Type 0
AfterServed b q served = After b q served.entries served.state

-- entries that tell of memory alone

wrote_plain : (t : TaskNo) (at count : ℕ) (told : Result (Option StoreNo) Code)
    → ArePlain (option_to_list (wrote_note t at count told))
wrote_plain t at count (Ok (Some store)) = (tt, tt)
wrote_plain t at count (Ok None) = tt
wrote_plain t at count (Err code) = tt

made_plain : (t : TaskNo) (base pages rights : ℕ) (told : Result StoreNo Code)
    → ArePlain (made_note t base pages rights told)
made_plain t base pages rights (Ok store) = (tt, tt)
made_plain t base pages rights (Err code) = tt

gone_plain : (t : TaskNo) (base : ℕ) (told : Result Unit Code) → ArePlain (gone_note t base told)
gone_plain t base (Ok done) = (tt, tt)
gone_plain t base (Err code) = tt

shared_plain : (t : TaskNo) (base pages rights : ℕ) (told : Result StoreNo Code)
    → ArePlain (option_to_list (shared_note t base pages rights told))
shared_plain t base pages rights (Ok store) = (tt, tt)
shared_plain t base pages rights (Err code) = tt

-- the entries tell how each live call was made
abbrev pub AreMadeSo : List Entry → CallTable → Type 0
AreMadeSo q calls =
    (n : ℕ) (c : Call) → call_at calls n ≡ Some c → (asked : Option Entry)
    × (making n q ≡ Some (record { caller = c.from.task.0; method = c.request.method; asked = asked }))

-- a hangup, of a request or of a kill
pub hung_up : (b : Beginning) (t : TaskNo) (q : List Entry) (k : KernelState) (p : ℕ) (o : Option PhoneState)
    → phone_at k t p ≡ o → HangsUp (label_of t p) (present q) → PhonesFit b q k.tasks.phones k.calls
    → AfterStep b q (hang_up k t p o)
hung_up b t q k p None is may fits = fits
hung_up b t q k p (Some Free) is may fits = fits
hung_up b t q k p (Some Connecting) is may fits = fits
hung_up b t q k p (Some HungUp) is may fits = fits
hung_up b t q k p (Some Slammed) is may fits =
    phone_told b k.tasks.phones k.calls q (label_of t p) HungUp (is_some (phone_at k t p) Slammed is) tt
    (λ u led. may) fits
hung_up b t q k p (Some (Connected u)) is may fits =
    let c : Call = hangup_call k t p u in
    phone_told b k.tasks.phones (enqueue k.calls c) (entry.Accepted c.number c.from c.request.method (Some u) ∷ q)
    (label_of t p) HungUp (is_some (phone_at k t p) (Connected u) is) tt (λ v led. may)
    (accepted_told b k.tasks.phones k.calls q c (Some u) refl
    (target_told b.wires q k.tasks.phones fits.phones t.0 p (Connected u) is) fits)

-- a live call is settled, in a request or in a kill
pub settled : (b : Beginning) (q : List Entry) (k : KernelState) (c : Call) → IsLive k c
    → AreKept k.tasks.phones k.calls → (reply : Reply) (by o : Option TaskNo) (x : Bool)
    → PhonesFit b q k.tasks.phones k.calls → AfterStep b q (settle_for k c reply by o x)
settled b q k c live kept reply by None x fits = over_told b k c live q (entry.Vanished c.number) tt kept fits
settled b q k c live kept reply by (Some u) false fits = over_told b k c live q (entry.Vanished c.number) tt kept fits
settled b q k c live kept reply by (Some u) true fits =
    put_told b k c live q (entry.Answered c.number reply by) (declined_call c reply) (Answers u) (lent_phone c) Free
    tt refl refl (λ l is. tt)
    (waits_idle k.tasks.phones (lent_phone c) (lent_waits k.tasks.phones k.calls c.number.0 c kept live)) fits

module _
    (b : Beginning) (t : TaskNo) (q : List Entry) (k : KernelState)
    (sound : IsSound k) (fits : PhonesFit b q k.tasks.phones k.calls) where
  -- a call

  module _ (p : ℕ) (msg : Msg) where
    goes_back : (code : Code) → AfterServed b q (answer_at_once k (new_call k t p msg (Answers t)) code)
    goes_back code =
        let c : Call = record (new_call k t p msg (Answers t)) { reply = bare_reply code } in
        plain_told b k.tasks.phones (enqueue k.calls c) (entry.Accepted c.number c.from c.request.method None ∷ q)
        (entry.Answered c.number (bare_reply code) None) tt
        (accepted_told b k.tasks.phones k.calls q c None refl tt fits)

    goes_to :
        (u : TaskNo) → phone_at k t p ≡ Some (Connected u)
        → (args : List ℕ) (seen : Msg) (reserved : Option Label) (bytes : List ℕ) (kept : Option Label)
        → AreIdle k.tasks.phones kept
        → AfterServed b q (acceptance (quiet_hand k (record (new_call k t p msg (Incoming u)) {
          request = record { method = msg.method; args = args };
          msg = seen;
          reserved = reserved;
          buffer = bytes;
        }) kept Connecting) (Some u))
    goes_to u led args seen reserved bytes kept idle =
        let c : Call = record (new_call k t p msg (Incoming u)) {
          request = record { method = msg.method; args = args };
          msg = seen;
          reserved = reserved;
          buffer = bytes;
        } in
        idle_told b k.tasks.phones (enqueue k.calls c)
        (entry.Accepted c.number c.from c.request.method (Some u) ∷ q) kept Connecting (λ l is. tt) idle
        (accepted_told b k.tasks.phones k.calls q c (Some u) refl
        (target_told b.wires q k.tasks.phones fits.phones t.0 p (Connected u) led) fits)

  -- an answer that accepts a call

  module _
      (n : ℕ) (reply : Reply) (now : present q ≡ Some (entry.Head t (request.Answer n reply)))
      (made : AreMadeSo q k.calls) (c : Call) (is : call_at k.calls n ≡ Some c) (held : c.place ≡ Dispatched t) where
    live : IsLive k c
    live = own k n c sound is

    -- the call goes to the answers of its caller with this reply and these bytes, and a phone gets this state
    with_reply :
        (given : Reply) (bytes : List ℕ) (kept : Option Label) (s : PhoneState) (u : TaskNo)
        → ((l : Label) → kept ≡ Some l
        → ComesToLead b (entry.Answered c.number given (Some t) ∷ q) (entry.PhoneIs l s))
        → AreIdle k.tasks.phones kept
        → AfterStep b q (answer_to (quiet_hand k (record c { reply = given; buffer = bytes }) kept s) (Some t) u)
    with_reply given bytes kept s u came idle =
        put_told b k c live q (entry.Answered c.number given (Some t)) (record c { reply = given; buffer = bytes })
        (Answers u) kept s tt refl refl came idle fits

    -- likewise, and entries that tell of memory alone come behind
    noted :
        (given : Reply) (bytes : List ℕ) (es : List Entry) (u : TaskNo) → ArePlain es
        → After b q (entry.Answered c.number given (Some t) ∷ es)
        (answer_to (quiet_hand k (record c { reply = given; buffer = bytes }) None Free) (Some t) u).state
    noted given bytes es u plain =
        plains_told b k.tasks.phones (put_at k.calls (record c { reply = given; buffer = bytes }) (Answers u)) es
        (entry.Answered c.number given (Some t) ∷ q) plain
        (with_reply given bytes None Free u (λ l e. tt) tt)

    module _ (accepted : reply.code ≡ eok) where
      kept_waits_now : WaitsIn k.tasks.phones (kept_phone c)
      kept_waits_now = kept_waits k.tasks.phones k.calls c.number.0 c sound.kept live

      -- the phone that is kept comes to lead to a task
      connected :
          (w : TaskNo) (given : Reply)
          → ((l : Label) → kept_phone c ≡ Some l → ConnectsTwo l w t
          (Some (record { caller = c.from.task.0; method = c.request.method; asked = (made n c is).0 })))
          → (l : Label) → kept_phone c ≡ Some l
          → ComesToLead b (entry.Answered c.number given (Some t) ∷ q) (entry.PhoneIs l (Connected w))
      connected w given two l kept =
          let r : List Entry = entry.Answered c.number given (Some t) ∷ q in
          let waits : phone_in b.wires l.task.0 l.phone.0 q ≡ Connecting =
          state_told b.wires q k.tasks.phones fits.phones l.task.0 l.phone.0 Connecting
          (subst (WaitsIn k.tasks.phones) kept kept_waits_now) in
          let two_told : ConnectsTwo l w t (making n q) =
          subst (ConnectsTwo l w t) (sym (made n c is).1) (two l kept) in
          subst (Connects b r l w) (sym now) (waits, accepted, two_told)

      by_kind :
          (u : TaskNo) → c.caller ≡ Some u → (kind : MethodKind) → kind_of c.request.method ≡ kind
          → KindSays kind c.request.method
          → AfterStep b q (answer_to (on_accept_of kind k c reply t u) (Some t) u)
      by_kind u mine ConnectToMe kind says =
          let given : Reply = record { code = code_of (kept_phone c); args = reply.args } in
          with_reply given c.buffer (kept_phone c) (Connected u) u
          (connected u given (λ l kept. inr (
            says,
            same_task l.task t (kept_to_me t c l kind held kept).1,
            ap (λ (x : TaskNo). x.0) (maker k.tasks c.from u c.caller mine (sound.calls.each n c is).caller),
          )))
          (waits_idle k.tasks.phones (kept_phone c) kept_waits_now)
      by_kind u mine ConnectMeTo kind says =
          with_reply reply c.buffer (kept_phone c) (Connected t) u
          (connected t reply (λ l kept. inl (says, (kept_me_to t c l kind held kept).1, refl)))
          (waits_idle k.tasks.phones (kept_phone c) kept_waits_now)
      by_kind u mine DataWrite kind says =
          let h : Handed = accepted_write k c reply t in
          noted h.call.reply c.buffer (option_to_list h.note) u
          (wrote_plain t (address_of reply.args) (count_of reply.args) (write_accept k.memory t c.buffer reply).told)
      by_kind u mine DataRead kind says =
          let d : Call = (accepted_read k c reply t).call in noted d.reply d.buffer [] u tt
      by_kind u mine ShareOut kind says =
          let h : Handed = accepted_share Out k c reply t u in
          noted h.call.reply c.buffer (option_to_list h.note) u
          (shared_plain t (base_of reply.args) (pages_of c.request.args) (rights_of c.request.args)
          (out_accept k.memory u t c.request.args reply).told)
      by_kind u mine ShareIn kind says =
          let h : Handed = accepted_share In k c reply t u in
          noted h.call.reply c.buffer (option_to_list h.note) u
          (shared_plain u (base_of c.request.args) (pages_of c.request.args) (rights_of c.request.args)
          (in_accept k.memory u t c.request.args reply).told)
      by_kind u mine _ kind says = noted reply c.buffer [] u tt

  -- a forward

  label_is :
      (p : ℕ) (c : Call) (m : Mode) → label_of_call c.number.0 q ≡ Some c.label
      → label_by m (label_of_call c.number.0 q) (law.phone_of t p) ≡ Some (label_after t p m c)
  label_is p c Plain had = had
  label_is p c Route had = refl

  passed :
      (n p : ℕ) (mode : Mode) (change : Option Msg) (c : Call) (to : TaskNo)
      → present q ≡ Some (entry.Head t (request.Forward n p mode change))
      → call_at k.calls n ≡ Some c → phone_at k t p ≡ Some (Connected to)
      → AfterStep b q (passage (msg_after change c) (label_after t p mode c) t to k c)
  passed n p mode change c to now is led =
      let live : IsLive k c = own k n c sound is in
      let number : c.number.0 ≡ n = (sound.calls.each n c is).number in
      let label : Label = label_after t p mode c in
      let d : Call = passed_call (msg_after change c) label c in
      let target = target_told b.wires q k.tasks.phones fits.phones t.0 p (Connected to) led in
      let goes : PassesOn b q c.number.0 t to label (present q) =
      subst (PassesOn b q c.number.0 t to label) (sym now)
      (refl, sym number, target, label_is p c mode (fits.labels c.number.0 c live)) in
      idle_told b k.tasks.phones (put_at k.calls d (Incoming to)) (entry.Forwarded c.number t to label ∷ q)
      (lent_phone c) Free (λ l e. tt)
      (waits_idle k.tasks.phones (lent_phone c) (lent_waits k.tasks.phones k.calls c.number.0 c sound.kept live))
      (passed_told b k.tasks.phones k.calls q d t to (Incoming to) goes fits)

  -- a receive

  taken_as :
      (c : Call) → IsLive k c → (msg : Msg) (reserved kept : Option Label) → AreIdle k.tasks.phones kept
      → AfterServed b q (reception t (quiet_hand k (record c { msg = msg; reserved = reserved }) kept Connecting))
  taken_as c live msg reserved kept idle =
      put_told b k c live q (entry.Received c.number t) (record c { msg = msg; reserved = reserved }) (Dispatched t)
      kept Connecting tt refl refl (λ l e. tt) idle fits

  taken : (c : Call) → IsLive k c → (kind : MethodKind) → AfterServed b q (reception t (on_receive_of kind k c t))
  taken c live ConnectToMe =
      let o : Option Label = first_usable_of k t in taken_as c live _ o o (usable_idle k t o refl)
  taken c live _ = taken_as c live c.msg c.reserved None tt

  brought : (c : Call) → AfterServed b q (delivery t (delivered_read k c t))
  brought c =
      let after : CallTable = without_call k.calls c.number.0 in
      plains_told b k.tasks.phones after (option_to_list (delivered_read k c t).note) (entry.Delivered c.number t ∷ q)
      (wrote_plain t (address_of c.request.args) (length c.buffer)
      (read_deliver k.memory t c.request.args c.buffer).told)
      (plain_told b k.tasks.phones after q (entry.Delivered c.number t) tt
      (calls_follow b k.tasks.phones q k.calls after (gone_keeps k.calls c.number.0) fits))

  -- each join, in a request that has begun; a receive may have dropped answers since
  module _
      (asked : Request)
      (begun : (asked ≡ request.Receive → ⊥)
      → (present q ≡ Some (entry.Head t asked)) × AreMadeSo q k.calls) where
    over : (n : ℕ) (c : Call) (e : Entry) → call_at k.calls n ≡ Some c → IsPlain e
        → PhonesFit b (on_top (option_to_list (kept_note (kept_phone c) Free)) (e ∷ q))
        (kept_rows k.tasks.phones (kept_phone c) Free) (without_call k.calls c.number.0)
    over n c e is plain = over_told b k c (own k n c sound is) q e plain sound.kept fits

    -- the request that stands at the head
    head : (r : Request) → asked ≡ r → (r ≡ request.Receive → ⊥) → present q ≡ Some (entry.Head t r)
    head r is other =
        subst (λ (a : Request). present q ≡ Some (entry.Head t a)) is (begun (λ e. other (sym is ∙ e))).0

    hangs : (p : ℕ) (s : PhoneState) → asked ≡ request.Hangup p → phone_at k t p ≡ Some s
        → AfterStep b q (hang_up k t p (Some s))
    hangs p s is led =
        hung_up b t q k p (Some s) led
        (subst (HangsUp (label_of t p)) (sym (head (request.Hangup p) is (λ e. cc))) (refl, refl)) fits

    joined : (s : Served) → join.Joins t asked k s → AfterServed b q s
    joined s (join.plain o _) = fits
    joined s (join.back p msg _ code _ _ _ _) = goes_back p msg code
    joined s (join.sent p msg u _ may _ _) = goes_to p msg u may.phone msg.args msg None [] None tt
    joined s (join.sent_keeping p msg u l _ may _ first) =
        goes_to p msg u may.phone msg.args _ (Some l) [] (Some l) (usable_idle k t (Some l) first)
    joined s (join.sent_carrying p msg u bytes _ may _ _) =
        goes_to p msg u may.phone (cut_args msg.args) (cut_down msg) None bytes None tt
    joined s (join.sent_cut p msg u _ may _) =
        goes_to p msg u may.phone (cut_args msg.args) (cut_down msg) None [] None tt
    joined s (join.taken n c kind _ at _) = taken c (own k n c sound at.live) kind
    joined s (join.delivered n c _ at _) = over n c (entry.Delivered c.number t) at.live tt
    joined s (join.brought n c _ _ _) = brought c
    joined s (join.vanished n c o _ at _ _) = over n c (entry.Vanished c.number) at.live tt
    joined s (join.turned_down n c reply u _ at _ _ _) =
        settled b q k c (own k n c sound at.live) sound.kept reply (Some t) (Some u) true fits
    joined s (join.bounced n p mode change c u code _ at _ _) =
        settled b q k c (own k n c sound at.live) sound.kept (bare_reply eforward) None (Some u) true fits
    joined s (join.accepted n c reply u kind is at mine _ accepting same) =
        by_kind n reply (head (request.Answer n reply) is (λ e. cc))
        (begun (λ e. let z : request.Answer n reply ≡ request.Receive = sym is ∙ e in cc)).1
        c at.live (same_place-true c.place (Dispatched t) at.here) (same_code reply.code accepting) u mine kind same
        (subst (λ (x : MethodKind). KindSays x c.request.method) same (kind_says c.request.method))
    joined s (join.passed n p mode change c u is at _ led) =
        passed n p mode change c u (head (request.Forward n p mode change) is (λ e. cc)) at.live led
    joined s (join.hung_up p u is led) = hangs p (Connected u) is led
    joined s (join.hung_up_slammed p is led) = hangs p Slammed is led
    joined s (join.made base pages rights _) =
        let told = (spaces.make k.memory t base pages rights).told in
        plains_told b k.tasks.phones k.calls (made_note t base pages rights told) q
        (made_plain t base pages rights told) fits
    joined s (join.dropped base _) =
        let told = (spaces.drop_area k.memory t base).told in
        plains_told b k.tasks.phones k.calls (gone_note t base told) q (gone_plain t base told) fits
    joined s (join.poked at bytes _) =
        let told = (spaces.write k.memory t at bytes).told in
        plains_told b k.tasks.phones k.calls (option_to_list (wrote_note t at (length bytes) told)) q
        (wrote_plain t at (length bytes) told) fits

-- what a task is told of a call tells the label that it has from then on

plain_tells : (calls : CallTable) (o : Outcome) → join.TellsNoCall o → TellsLabelOf calls o
plain_tells calls (outcome.Received n msg label) h = absurd h
plain_tells calls _ h = tt

done_tells : {A : Type 0} (calls : CallTable) (told : Result A Code) → TellsLabelOf calls (done_or_refused told)
done_tells calls (Ok x) = tt
done_tells calls (Err code) = tt

joined_tells :
    (t : TaskNo) (asked : Request) (k : KernelState) (s : Served) → join.Joins t asked k s
    → TellsLabelOf s.state.calls s.outcome
joined_tells t asked k s (join.plain o is) = plain_tells k.calls o is.0
joined_tells t asked k s (join.vanished n c o _ _ _ is) = plain_tells (without_call k.calls c.number.0) o is.0
joined_tells t asked k s (join.taken n c kind _ _ _) =
    let h : Handed = on_receive_of kind k c t in
    let d : Call = record h.call { place = Dispatched t; stamp = h.state.calls.next_stamp } in
    (d, put_here h.state.calls h.call.number.0 h.call.number.0 d refl, refl)
joined_tells t asked k s (join.made base pages rights _) =
    done_tells k.calls (spaces.make k.memory t base pages rights).told
joined_tells t asked k s (join.dropped base _) = done_tells k.calls (spaces.drop_area k.memory t base).told
joined_tells t asked k s (join.poked at bytes _) = done_tells k.calls (spaces.write k.memory t at bytes).told
joined_tells t asked k s _ = tt

pub served_tells :
    (t : TaskNo) (asked : Request) (k : KernelState)
    → TellsLabelOf (serve_request k t asked).state.calls (serve_request k t asked).outcome
served_tells t asked k =
    join.by_request (Unit {0}) (λ es p. p) (λ p. refl) (λ es fs p. refl) t asked
    (λ p j. ⊤) (λ p o j. TellsLabelOf j.calls o)
    (λ _ p j n c _ _ _. tt) (λ p j s _ come. joined_tells t asked j s come) tt k tt

-- a request has begun, and a receive may have dropped answers since
record IsBegun (b : Beginning) (t : TaskNo) (asked : Request) (q : List Entry) (k : KernelState) : Type 0 where
  pub fits : PhonesFit b q k.tasks.phones k.calls
  pub fine : IsSound k
  pub begun : (asked ≡ request.Receive → ⊥) → (present q ≡ Some (entry.Head t asked)) × AreMadeSo q k.calls

-- each request
pub served :
    (b : Beginning) (t : TaskNo) (asked : Request) (q : List Entry) (k : KernelState) → IsSound k
    → AreMadeSo q k.calls → present q ≡ Some (entry.Head t asked) → PhonesFit b q k.tasks.phones k.calls
    → AfterServed b q (serve_request k t asked)
served b t asked q k sound made now fits =
    join.by_request (List Entry) on_top (λ _. refl) (λ xs ys p. on_top-append xs ys p) t asked
    (IsBegun b t asked) (λ r o j. PhonesFit b r j.tasks.phones j.calls)
    (λ is r j n c i at _.
    let live : IsLive j c = own j n c i.fine at.live in
    record {
      fits = over_told b j c live r (entry.Dropped c.number t) tt i.fine.kept i.fits;
      fine = sound_drop j t c i.fine live;
      begun = λ other. absurd (other is);
    })
    (λ r j s i come. joined b t r j i.fine i.fits asked i.begun s come)
    q k (record { fits = fits; fine = sound; begun = λ other. (now, made) })
