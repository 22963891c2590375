-- Each request keeps the causes.
use Rattle.std.proofs.Common.{◌≡◌, ℕ, true, false, not, ◌⊎◌, List, [], ◌∷◌, length, Option, None, Some, Result, Ok, Err, refl, ap, sym, subst, ◌∙◌, inl, inr, nat_le}
use Rattle.std.specs.Prelude.{◌+◌, ◌*◌, ◌==◌}
use Rattle.std.specs.Option.{option_to_list}
use Rattle.std.proofs.lemmas.Bool.{eqb-true, eq-eqb, ne_eqb, false≢true}
use Rattle.std.proofs.lemmas.Option.{none-some, cond_some}
use Rattle.ipc_ids.specs.declared.numbers.TaskNo.{TaskNo}
use Rattle.ipc_ids.specs.declared.numbers.StoreNo.{StoreNo}
use Rattle.ipc_ids.specs.declared.numbers.Label.{Label}
use Rattle.ipc_ids.specs.declared.numbers.Code.{Code}
use Rattle.ipc_ids.specs.declared.methods.MethodKind.{MethodKind}
use Rattle.ipc_ids.specs.declared.methods.MethodKind.TheVariants.{ConnectToMe, ConnectMeTo, DataWrite, DataRead, ShareOut, ShareIn}
use Rattle.ipc_ids.specs.declared.message.Msg.{Msg}
use Rattle.ipc_ids.specs.declared.message.Reply.{Reply}
use Rattle.ipc_ids.specs.declared.message.Request.{Request}
use Rattle.ipc_ids.specs.declared.message.Request.TheVariants as request
use Rattle.ipc_ids.specs.declared.message.PhoneState.{PhoneState}
use Rattle.ipc_ids.specs.declared.message.PhoneState.TheVariants.{Free, Connecting, Connected, HungUp, Slammed}
use Rattle.ipc_ids.specs.declared.entry.Entry.{Entry}
use Rattle.ipc_ids.specs.declared.entry.Entry.TheVariants as entry
use Rattle.ipc_ids.specs.Codes.{eok, enoent, elimit, ehangup, eforward}
use Rattle.ipc_ids.specs.Methods.{kind_of, phone_hungup, connect_to_me, connect_me_to, data_write, data_read}
use Rattle.ipc_ids.specs.Tables.{most_active}
use Rattle.ipc_ids.specs.Tales.{tales}
use Rattle.ipc_ids.specs.Life.{life}
use Rattle.ipc_ids.specs.declared.numbers.CallNo.{CallNo}
use Rattle.ipc_ids.specs.Holdings.{on_top, present, making}
use Rattle.ipc_ids.proofs.LawfulAreas.{on_top-append}
use Rattle.ipc_ids.proofs.Common.{is_some}
use Rattle.call_slab.specs.declared.call.Call.{Call}
use Rattle.call_slab.specs.declared.call.Place.{Place}
use Rattle.call_slab.specs.declared.call.Place.TheVariants.{Incoming, Dispatched, Answers}
use Rattle.answerbox.specs.Calls.{CallTable, call_at, enqueue, put_at, without_call, active_calls, used}
use Rattle.phone_table.specs.Phones.{is_usable, state_at}
use Rattle.forwarding.specs.Forwarding.{msg_after, label_after}
use Rattle.address_space.specs.Memory as spaces
use Rattle.data_hooks.specs.DataMoments.{address_of, count_of, cut_args, write_before_send, read_before_send, write_accept, read_deliver}
use Rattle.share_hooks.specs.ShareMoments.{base_of, pages_of, rights_of, out_before_send, in_before_send, out_accept, in_accept}
use Rattle.switchboard.specs.declared.sharing.Share.TheVariants.{Out, In}
use Rattle.switchboard.specs.State.{KernelState, phone_at, label_of, with_state_at}
use Rattle.switchboard.specs.Sound.{IsSound}
use Rattle.switchboard.specs.Kept.{WaitsIn, accepts, phone_of, keeper_of, kept_of, kept_phone, kept_rows, kept_note, first_usable_of}
use Rattle.switchboard.specs.Joins.{bare_reply, new_call, acceptance, answer_at_once, reception, answer_to, declined, drop_answer, code_of}
use Rattle.switchboard.specs.Areas.{made_note, gone_note, wrote_note}
use Rattle.switchboard.specs.Data.{accepted_write, accepted_read, delivered_read}
use Rattle.switchboard.specs.Sharing.{shared_note, accepted_share}
use Rattle.switchboard.specs.Serving.{Handed, Served}
use Rattle.switchboard.proofs.Repeats.{by_test}
use Rattle.switchboard.proofs.SoundStates.{keeps_none}
use Rattle.switchboard.proofs.SoundJoins.{held_pending}
use Rattle.switchboard.proofs.Usable.{IsUsable, usable_is, kept_waits}
use Rattle.cleanup.proofs.Queues.{IsLive, sound_drop}
use Rattle.kernel_core.specs.History.{life_at}
use Rattle.kernel_core.specs.Moments.{with_fifth, number_of, keeping_to_send, keeping_to_receive, carrying, bringing, asking, before_send_of, on_receive_of, on_accept_of, cut_down}
use Rattle.kernel_core.specs.Calling.{is_callable, sent_to, call_through, call_tested, call_over}
use Rattle.kernel_core.specs.Request.{serve_request}
use Rattle.kernel_core.proofs.AreaSteps.{quiet_hand}
use Rattle.kernel_core.proofs.Serving.{callable_method}
use Rattle.kernel_core.proofs.InEvent.{same_place-true}
use Rattle.kernel_core.proofs.KindsOfCalls.{KindSays, kind_says, same_code, maker}
use Rattle.kernel_core.proofs.ByRequest as join
use Rattle.kernel_core.proofs.ByRequest.{own}
use Rattle.kernel_laws.proofs.Tables.{gone_by}
use Rattle.route_laws.specs.Leads.{Beginning, phone_in}
use Rattle.route_laws.specs.PhoneHistory.{TellPhones}
use Rattle.route_laws.proofs.PhoneSteps.{state_told, written}
use Rattle.route_laws.proofs.PhoneRequests.{AreMadeSo}
use Rattle.route_laws.specs.PhoneLaw.{HangsUp}
use Rattle.run_determined.specs.PhoneCauses.{asked_for, lent_for, IsMadeWith, IsConnectedFor, AnswersFor, IsConnected, IsKept, IsCause, IsHungUpAtOnce, MayFail, IsWay, IsTestedCode, IsCodeBack, HadCause}
use Rattle.run_determined.proofs.CauseSteps.{IsKeptAs, kind_by, TellKept, same_told, CausesFit, WholeFit, whole_next, caused, ArePlain, plains_told, phone_told, put_kept, new_kept}
use Rattle.run_determined.proofs.CauseCodes.{FailsWith, write_tested, read_tested, out_tested, in_tested, is_lowest}
use Rattle.run_determined.proofs.CauseCalls.{After, AfterStep, AfterServed, Fit, accepted_told, hung_up, hung_up_slammed, gone_told, vanished, delivered, dropped, answered_told, declined_told, passed}

-- ---- entries that tell of memory alone

wrote_plain : (t : TaskNo) (at count : ℕ) (told : Result (Option StoreNo) Code)
    → ArePlain (option_to_list (wrote_note t at count told))
wrote_plain t at count (Ok (Some store)) = (tt, tt)
wrote_plain t at count (Ok None) = tt
wrote_plain t at count (Err code) = tt

made_plain : (t : TaskNo) (base pages rights : ℕ) (told : Result StoreNo Code)
    → ArePlain (made_note t base pages rights told)
made_plain t base pages rights (Ok store) = (tt, tt)
made_plain t base pages rights (Err code) = tt

gone_plain : (t : TaskNo) (base : ℕ) (told : Result Unit Code) → ArePlain (gone_note t base told)
gone_plain t base (Ok done) = (tt, tt)
gone_plain t base (Err code) = tt

shared_plain : (t : TaskNo) (base pages rights : ℕ) (told : Result StoreNo Code)
    → ArePlain (option_to_list (shared_note t base pages rights told))
shared_plain t base pages rights (Ok store) = (tt, tt)
shared_plain t base pages rights (Err code) = tt

-- ---- methods

-- a method that a task may call with is none of a hangup
pub no_hangup : (m : ℕ) → not (is_callable (kind_of m)) ≡ false → m ≡ phone_hungup → ⊥
no_hangup m may is = false≢true (callable_method m may ∙ eq-eqb m 0 is)

other_code : (a : Code) → accepts a ≡ false → a ≡ eok → ⊥
other_code a is e = false≢true (sym is ∙ ap accepts e)

-- a phone of task t is that one
one_phone : (t : TaskNo) (l m : Label) → phone_of t (Some l) ≡ Some m → Some l ≡ Some m
one_phone t l m h = ap Some (cond_some (l.task.0 == t.0) l m h).1

-- ---- what is known of calls

-- the entries tell where each live call is
abbrev pub ArePlacedSo : List Entry → CallTable → Type 0
ArePlacedSo q calls = (n : ℕ) (c : Call) → call_at calls n ≡ Some c → life n (tales q) ≡ life_at c.from.task.0 c.place

-- ---- a phone that is kept

-- it was free, or hung up
usable_cause : (names : Option TaskNo) (l : Label) (q : List Entry) (s : PhoneState) (n : ℕ) → is_usable s n ≡ true
    → IsKept l q → IsCause names l q s Connecting
usable_cause names l q Free n is h = h
usable_cause names l q HungUp n is h = h
usable_cause names l q _ n is h = absurd (false≢true is)

-- task t keeps its first usable phone, as the newest entry says why
keeping_told : (b : Beginning) (k : KernelState) (t : TaskNo) (l : Label) (q : List Entry) (calls : CallTable)
    → first_usable_of k t ≡ Some l
    → IsKept l q → IsHungUpAtOnce q (entry.PhoneIs l Connecting) → HadCause b q → TellPhones b.wires q k.tasks.phones
    → TellKept (entry.PhoneIs l Connecting ∷ q) calls → WholeFit b (entry.PhoneIs l Connecting ∷ q)
    (with_state_at k.tasks.phones l.task.0 l.phone.0 Connecting) calls
keeping_told b k t l q calls first why at_once had phones kept =
    let u : IsUsable k t l = usable_is k t l first in
    let is : phone_in b.wires l.task.0 l.phone.0 q ≡ u.state =
    state_told b.wires q k.tasks.phones phones l.task.0 l.phone.0 u.state u.is in
    record {
      fit = record {
        had = (
          had,
          caused b q (entry.PhoneIs l Connecting) (
            subst (λ (s : PhoneState). IsCause b.names l q s Connecting) (sym is)
                (usable_cause b.names l q u.state (active_calls k.calls l) u.usable why),
            is_lowest b q k t l first phones,
          ) at_once tt tt tt tt tt,
        );
        phones = λ x p. written k.tasks.phones l Connecting
            (is_some (state_at k.tasks.phones l.task.0 l.phone.0) u.state u.is) x p (phone_in b.wires x p q)
            (phones x p);
        kept = kept;
      };
      whole = tt;
    }

-- ---- a call

-- the phone that a CONNECT_ME_TO keeps as it is sent is told as asked for
sent_own : (kind : MethodKind) → kind ≡ ConnectMeTo
    → (n : ℕ) (t u v : TaskNo) (code : Code) (l m : Label) (from : Label) (method : ℕ) (q : List Entry)
    → kept_of (keeper_of kind) t (Incoming u) code (Some l) ≡ Some m → IsKeptAs kind n m
    (entry.PhoneIs l Connecting ∷ entry.Accepted (record { 0 = n }) from method (Some v) ∷ q)
sent_own ConnectMeTo is n t u v code l m from method q has = rw (eq-eqb n n refl) (one_phone t l m has)
sent_own _ is n t u v code l m from method q has = absurd (cc is)

module _ (b : Beginning) (t : TaskNo) (q : List Entry) (k : KernelState) (f : Fit b q k) (p : ℕ) (msg : Msg)
    (callable : msg.method ≡ phone_hungup → ⊥) where
  -- the call goes back over a phone in this state, with this code
  goes_back : (s : PhoneState) (code : Code) → phone_at k t p ≡ Some s → IsWay msg.method None s
      → IsCodeBack msg.method code s → AfterServed b q (answer_at_once k (new_call k t p msg (Answers t)) code)
  goes_back s code is way why =
      let c : Call = record (new_call k t p msg (Answers t)) { reply = bare_reply code } in
      let now : phone_in b.wires t.0 p q ≡ s = state_told b.wires q k.tasks.phones f.fit.phones t.0 p s is in
      let r : List Entry = entry.Accepted c.number c.from c.request.method None ∷ q in
      let half : CausesFit b r k.tasks.phones (enqueue k.calls c) =
      accepted_told b k.tasks.phones k.calls q c None (subst (IsWay msg.method None) (sym now) way)
      (keeps_none c refl) f in
      record {
        fit = record {
          had = (
            half.had,
            caused b r (entry.Answered c.number (bare_reply code) None) tt (λ e. absurd (callable e)) tt tt
                (subst (IsCodeBack msg.method code) (sym now) why) tt tt,
          );
          phones = half.phones;
          kept = same_told _ _ (enqueue k.calls c) (λ n. (refl, refl)) half.kept;
        };
        whole = tt;
      }

  module _ (u : TaskNo) (led : phone_at k t p ≡ Some (Connected u)) where
    led_told : phone_in b.wires t.0 p q ≡ Connected u
    led_told = state_told b.wires q k.tasks.phones f.fit.phones t.0 p (Connected u) led

    -- it goes to the task, without a phone that is kept
    goes_to : (args : List ℕ) (seen : Msg) (bytes : List ℕ)
        → AfterServed b q
        (acceptance
        (quiet_hand k
        (record (new_call k t p msg (Incoming u))
        { request = record { method = msg.method; args = args }; msg = seen; buffer = bytes }) None Connecting)
        (Some u))
    goes_to args seen bytes =
        let c : Call =
        record (new_call k t p msg (Incoming u))
        { request = record { method = msg.method; args = args }; msg = seen; buffer = bytes } in
        record {
          fit = accepted_told b k.tasks.phones k.calls q c (Some u)
              (subst (IsWay msg.method (Some u)) (sym led_told) refl) (keeps_none c refl) f;
          whole = callable;
        }

    -- a CONNECT_ME_TO keeps a phone
    keeping : kind_of msg.method ≡ ConnectMeTo → msg.method ≡ connect_me_to → (o : Option Label)
        → first_usable_of k t ≡ o
        → AfterServed b q
        (sent_to u k (new_call k t p msg (Incoming u)) (keeping_to_send k (new_call k t p msg (Incoming u)) o))
    keeping kind says None first = goes_back (Connected u) elimit led (inl says) (inl (says, refl))
    keeping kind says (Some l) first =
        let c : Call = new_call k t p msg (Incoming u) in
        let d : Call = record c { msg = with_fifth c.msg (64 * t.0 + l.phone.0); reserved = Some l } in
        let r : List Entry = entry.Accepted d.number d.from msg.method (Some u) ∷ q in
        let e : Entry = entry.Accepted d.number d.from msg.method (Some u) in
        keeping_told b k t l r (enqueue k.calls d) first (sym (usable_is k t l first).own, says)
        (λ e. absurd (callable e)) (
          f.fit.had,
          caused b q e tt (whole_next q e f.whole) tt (subst (IsWay msg.method (Some u)) (sym led_told) refl) tt tt tt,
        )
        f.fit.phones
        (new_kept q (entry.PhoneIs l Connecting ∷ r) k.calls d
        (λ n ne. (rw (ne_eqb d.number.0 n ne) refl, refl))
        (λ m has. sent_own (kind_of msg.method) kind d.number.0 t u u d.reply.code l m d.from msg.method q has)
        f.fit.kept)

    with_bytes : msg.method ≡ data_write → (told : Result (List ℕ) Code) → FailsWith (IsTestedCode msg.method) told
        → AfterServed b q
        (sent_to u k (new_call k t p msg (Incoming u)) (carrying k (new_call k t p msg (Incoming u)) told))
    with_bytes says (Ok bytes) why = goes_to (cut_args msg.args) (cut_down msg) bytes
    with_bytes says (Err code) why = goes_back (Connected u) code led (inr (inl says)) why

    wanted : msg.method ≡ data_read → (told : Result ℕ Code) → FailsWith (IsTestedCode msg.method) told
        → AfterServed b q
        (sent_to u k (new_call k t p msg (Incoming u)) (bringing k (new_call k t p msg (Incoming u)) told))
    wanted says (Ok count) why = goes_to (cut_args msg.args) (cut_down msg) []
    wanted says (Err code) why = goes_back (Connected u) code led (inr (inr (inl says))) why

    wanting : MayFail msg.method → (told : Result Unit Code) → FailsWith (IsTestedCode msg.method) told
        → AfterServed b q
        (sent_to u k (new_call k t p msg (Incoming u)) (asking k (new_call k t p msg (Incoming u)) told))
    wanting may (Ok done) why = goes_to msg.args msg []
    wanting may (Err code) why = goes_back (Connected u) code led may why

    sent : (kind : MethodKind) → kind_of msg.method ≡ kind → KindSays kind msg.method
        → AfterServed b q
        (sent_to u k (new_call k t p msg (Incoming u)) (before_send_of kind k (new_call k t p msg (Incoming u))))
    sent ConnectMeTo kind says = keeping kind says (first_usable_of k t) refl
    sent DataWrite kind says =
        with_bytes says (write_before_send k.memory t msg.args (used k.calls))
        (write_tested msg.method k.memory t msg.args (used k.calls) says)
    sent DataRead kind says = wanted says (read_before_send msg.args) (read_tested msg.method msg.args says)
    sent ShareOut kind says =
        wanting (inr (inr (inr (inl says)))) (out_before_send k.memory t msg.args)
        (out_tested msg.method k.memory t msg.args says)
    sent ShareIn kind says =
        wanting (inr (inr (inr (inr says)))) (in_before_send msg.args) (in_tested msg.method msg.args says)
    sent _ kind says = goes_to msg.args msg []

  through : (s : PhoneState) → phone_at k t p ≡ Some s → AfterServed b q (call_through k t p msg s)
  through Free is = f
  through Connecting is = f
  through (Connected u) is = sent u is (kind_of msg.method) refl (kind_says msg.method)
  through HungUp is = goes_back HungUp ehangup is tt refl
  through Slammed is = goes_back Slammed enoent is tt refl

module _ (b : Beginning) (t : TaskNo) (q : List Entry) (k : KernelState) (f : Fit b q k) (p : ℕ) (msg : Msg) where
  tested : (s : PhoneState) → phone_at k t p ≡ Some s → AfterServed b q (call_tested k t p msg s)
  tested s is =
      by_test (AfterServed b q) (not (is_callable (kind_of msg.method))) _ _ (λ _. f)
      (λ may. by_test (AfterServed b q) (nat_le most_active (active_calls k.calls (label_of t p))) _ _ (λ _. f)
      (λ _. through b t q k f p msg (no_hangup msg.method may) s is))

  called : (o : Option PhoneState) → phone_at k t p ≡ o → AfterServed b q (call_over k t p msg o)
  called (Some (Connected u)) is = tested (Connected u) is
  called (Some HungUp) is = tested HungUp is
  called (Some Slammed) is = tested Slammed is
  called _ is = f

-- ---- a receive

-- what a call keeps as it is received as it is, it kept before
received_own : (kind : MethodKind) → (kind ≡ ConnectToMe → ⊥)
    → (n : ℕ) (from t : TaskNo) (m : CallNo) (code : Code) (reserved : Option Label) (l : Label) (q : List Entry)
    → kept_of (keeper_of kind) from (Dispatched t) code reserved ≡ Some l →
    (kept_of (keeper_of kind) from (Incoming t) code reserved ≡ Some l → IsKeptAs kind n l q)
    → IsKeptAs kind n l (entry.Received m t ∷ q)
received_own ConnectToMe not n from t m code reserved l q has told = absurd (not refl)
received_own ConnectMeTo not n from t m code reserved l q has told = told has
received_own _ not n from t m code reserved l q has told = absurd (cc has)

-- the phone that its receiver keeps for a CONNECT_TO_ME is told as lent
lent_own : (kind : MethodKind) → kind ≡ ConnectToMe
    → (n : ℕ) (from t : TaskNo) (code : Code) (l m : Label) (q : List Entry)
    → kept_of (keeper_of kind) from (Dispatched t) code (Some l) ≡ Some m → IsKeptAs kind n m
    (entry.PhoneIs l Connecting ∷ entry.Received (record { 0 = n }) t ∷ q)
lent_own ConnectToMe is n from t code l m q has = rw (eq-eqb n n refl) (one_phone t l m has)
lent_own _ is n from t code l m q has = absurd (cc is)

module _ (b : Beginning) (t : TaskNo) (q : List Entry) (k : KernelState) (f : Fit b q k) (c : Call) where
  received_had : HadCause b (entry.Received c.number t ∷ q)
  received_had = (f.fit.had, caused b q (entry.Received c.number t) tt (whole_next q _ f.whole) tt tt tt tt tt)

  module _ (at : c.place ≡ Incoming t) (live : IsLive k c) where
    -- a call is received with this record, and no phone is kept
    received_as : (d : Call) → d.number ≡ c.number → d.request ≡ c.request
        → ((l : Label) → kept_phone (record d { place = Dispatched t }) ≡ Some l → IsKeptAs (kind_by c) c.number.0 l
        (entry.Received c.number t ∷ q))
        → WholeFit b (entry.Received c.number t ∷ q) k.tasks.phones (put_at k.calls d (Dispatched t))
    received_as d number request own = record {
      fit = record {
        had = received_had;
        phones = f.fit.phones;
        kept = put_kept q _ k.calls c d (Dispatched t) number request
            (λ n ne. (refl, rw (ne_eqb c.number.0 n ne) refl)) own f.fit.kept;
      };
      whole = tt;
    }

    -- of a CONNECT_TO_ME its receiver keeps a phone, if one is usable
    keeping_one : kind_by c ≡ ConnectToMe → IsMadeWith connect_to_me (making c.number.0 q) → (o : Option Label)
        → first_usable_of k t ≡ o → AfterServed b q (reception t (keeping_to_receive k c o))
    keeping_one kind made None first =
        let d : Call = record c { msg = with_fifth c.msg (number_of None); reserved = None } in
        received_as d refl refl
        (λ l has. absurd (none-some l (sym (keeps_none (record d { place = Dispatched t }) refl) ∙ has)))
    keeping_one kind made (Some l) first =
        let d : Call = record c { msg = with_fifth c.msg (number_of (Some l)); reserved = Some l } in
        let r : List Entry = entry.Received c.number t ∷ q in
        keeping_told b k t l r (put_at k.calls d (Dispatched t)) first (sym (usable_is k t l first).own, made) tt
        received_had f.fit.phones
        (put_kept q (entry.PhoneIs l Connecting ∷ r) k.calls c d (Dispatched t) refl refl
        (λ n ne. (refl, rw (ne_eqb c.number.0 n ne) refl))
        (λ m has. lent_own (kind_by c) kind c.number.0 c.from.task t c.reply.code l m q has)
        f.fit.kept)

    taken : (kind : MethodKind) → kind_by c ≡ kind → KindSays kind c.request.method → AreMadeSo q k.calls
        → AfterServed b q (reception t (on_receive_of kind k c t))
    taken ConnectToMe kind says made =
        keeping_one kind (subst (IsMadeWith connect_to_me) (sym (made c.number.0 c live).1) says)
        (first_usable_of k t) refl
    taken _ kind says made =
        received_as c refl refl
        (λ l has. received_own (kind_by c) (λ e. cc (sym kind ∙ e)) c.number.0 c.from.task t c.number c.reply.code
        c.reserved l q has
        (λ kept. f.fit.kept c.number.0 c l live
        (subst (λ (place : Place). kept_of
        (keeper_of (kind_by c)) c.from.task place c.reply.code c.reserved ≡ Some l) (sym at) kept)))

-- the entries tell how each call was made after an answer is dropped
dropped_made : (t : TaskNo) (q : List Entry) (k : KernelState) (c : Call) → AreMadeSo q k.calls
    → AreMadeSo (on_top (drop_answer t k c).entries q) (drop_answer t k c).state.calls
dropped_made t q k c made n d is =
    let it = made n d (gone_by k.calls c.number.0 n d is) in (it.0, told (kept_phone c) ∙ it.1)
  where
    told : (o : Option Label)
        → making n (on_top (option_to_list (kept_note o Free)) (entry.Dropped c.number t ∷ q)) ≡ making n q
    told None = refl
    told (Some l) = refl

-- ---- an answer that accepts a call

-- a call whose answer accepts it keeps nothing any more
keeps_nothing : (kind : MethodKind) (from u : TaskNo) (code : Code) (reserved : Option Label)
    → (kind ≡ ConnectMeTo → accepts code ≡ true) → kept_of (keeper_of kind) from (Answers u) code reserved ≡ None
keeps_nothing ConnectMeTo from u code reserved may = rw (may refl) refl
keeps_nothing _ from u code reserved may = refl

module _ (b : Beginning) (t : TaskNo) (n : ℕ) (reply : Reply) (p q : List Entry) (k : KernelState)
    (head : q ≡ entry.Head t (request.Answer n reply) ∷ p) (sound : IsSound k) (made : AreMadeSo q k.calls)
    (placed : ArePlacedSo q k.calls) (f : Fit b q k) (c : Call) (is : call_at k.calls n ≡ Some c)
    (held : c.place ≡ Dispatched t) where
  live : IsLive k c
  live = own k n c sound is

  waits : (l : Label) → kept_phone c ≡ Some l → state_at k.tasks.phones l.task.0 l.phone.0 ≡ Some Connecting
  waits l has = subst (WaitsIn k.tasks.phones) has (kept_waits k.tasks.phones k.calls c.number.0 c sound.kept live)

  -- the call goes to the answers of its caller with this reply and these bytes, and keeps nothing any more
  with_reply : (given : Reply) (bytes : List ℕ) (u : TaskNo) → (kind_by c ≡ ConnectMeTo → accepts given.code ≡ true)
      → CausesFit b (entry.Answered c.number given (Some t) ∷ q) k.tasks.phones
      (put_at k.calls (record c { reply = given; buffer = bytes }) (Answers u))
  with_reply given bytes u may =
      answered_told b k c live sound.kept q f given (Some t) (record c { reply = given; buffer = bytes }) u refl refl
      (λ l has. absurd
      (none-some l (sym (keeps_nothing (kind_by c) c.from.task u given.code c.reserved may) ∙ has)))

  -- likewise, and entries that tell of memory alone come behind
  noted : (kind : MethodKind) → kind_by c ≡ kind → (kind ≡ ConnectMeTo → ⊥) → (given : Reply) (bytes : List ℕ)
      (es : List Entry) (u : TaskNo) → ArePlain es
      → After b q (entry.Answered c.number given (Some t) ∷ es)
      (answer_to (quiet_hand k (record c { reply = given; buffer = bytes }) None Free) (Some t) u).state
  noted kind same other given bytes es u plain =
      plains_told b k.tasks.phones (put_at k.calls (record c { reply = given; buffer = bytes }) (Answers u)) es
      (entry.Answered c.number given (Some t) ∷ q) plain
      (record { fit = with_reply given bytes u (λ e. absurd (other (sym same ∙ e))); whole = tt })

  -- the phone that it kept, where there is one, comes to lead to a task
  connects : (given : Reply) (u w : TaskNo) (o : Option Label)
      → (kind_by c ≡ ConnectMeTo → accepts given.code ≡ true) → kept_phone c ≡ o
      → ((l : Label) → o ≡ Some l → IsConnected l w (entry.Answered c.number given (Some t) ∷ q))
      → WholeFit b (on_top (option_to_list (kept_note o (Connected w))) (entry.Answered c.number given (Some t) ∷ q))
      (kept_rows k.tasks.phones o (Connected w)) (put_at k.calls (record c { reply = given }) (Answers u))
  connects given u w None may keeps why = record { fit = with_reply given c.buffer u may; whole = tt }
  connects given u w (Some l) may keeps why =
      let r : List Entry = entry.Answered c.number given (Some t) ∷ q in
      let waiting : state_at k.tasks.phones l.task.0 l.phone.0 ≡ Some Connecting = waits l keeps in
      phone_told b k.tasks.phones (put_at k.calls (record c { reply = given }) (Answers u)) r l (Connected w)
      (λ e. cc e) (is_some (state_at k.tasks.phones l.task.0 l.phone.0) Connecting waiting)
      (subst (λ (s : PhoneState). IsCause b.names l r s (Connected w))
      (sym (state_told b.wires q k.tasks.phones f.fit.phones l.task.0 l.phone.0 Connecting waiting)) (why l refl))
      tt (with_reply given c.buffer u may)

  module _ (accepted : reply.code ≡ eok) where
    -- the call is held, and was made so
    answers_for : (l : Label) (w : TaskNo) (code : Code) → code ≡ eok
        → ((c.request.method ≡ connect_me_to) × (asked_for c.number.0 p ≡ Some l) × (w ≡ t))
        ⊎ ((c.request.method ≡ connect_to_me) × (lent_for c.number.0 p ≡ Some l) × (w.0 ≡ c.from.task.0))
        → AnswersFor l w t c.number.0 code q
    answers_for l w code done phone =
        let it = made c.number.0 c live in
        let for_it : IsConnectedFor l w t c.number.0 p = record {
          made = record { caller = c.from.task.0; method = c.request.method; asked = it.0 };
          how = sym (ap (making c.number.0) head) ∙ it.1;
          held =
              sym (ap (λ (x : List Entry). life c.number.0 (tales x)) head) ∙ placed c.number.0 c live
              ∙ ap (life_at c.from.task.0) held;
          phone = phone;
        } in
        subst (AnswersFor l w t c.number.0 code) (sym head)
        (refl, sym (sound.calls.each n c is).number, done, accepted, for_it)

    kept_told : (kind : MethodKind) → kind_by c ≡ kind → (l : Label) → kept_phone c ≡ Some l
        → IsKeptAs kind c.number.0 l q
    kept_told kind same l has =
        subst (λ (x : MethodKind). IsKeptAs x c.number.0 l q) same (f.fit.kept c.number.0 c l live has)

    by_kind : (u : TaskNo) → c.caller ≡ Some u → (kind : MethodKind) → kind_by c ≡ kind
        → KindSays kind c.request.method → AfterStep b q (answer_to (on_accept_of kind k c reply t u) (Some t) u)
    by_kind u mine ConnectToMe kind says =
        connects (record { code = code_of (kept_phone c); args = reply.args }) u u (kept_phone c)
        (λ e. absurd (let g : ConnectToMe ≡ ConnectMeTo = sym kind ∙ e in cc g)) refl
        (λ l has. answers_for l u (code_of (kept_phone c)) (ap code_of has) (inr (
          says,
          sym (ap (lent_for c.number.0) head) ∙ kept_told ConnectToMe kind l has,
          ap (λ (x : TaskNo). x.0) (maker k.tasks c.from u c.caller mine (sound.calls.each n c is).caller),
        )))
    by_kind u mine ConnectMeTo kind says =
        connects reply u t (kept_phone c) (λ _. ap accepts accepted) refl
        (λ l has. answers_for l t reply.code accepted
        (inl (says, sym (ap (asked_for c.number.0) head) ∙ kept_told ConnectMeTo kind l has, refl)))
    by_kind u mine DataWrite kind says =
        let h : Handed = accepted_write k c reply t in
        noted DataWrite kind (λ e. cc e) h.call.reply c.buffer (option_to_list h.note) u
        (wrote_plain t (address_of reply.args) (count_of reply.args) (write_accept k.memory t c.buffer reply).told)
    by_kind u mine DataRead kind says =
        let d : Call = (accepted_read k c reply t).call in
        noted DataRead kind (λ e. cc e) d.reply d.buffer [] u tt
    by_kind u mine ShareOut kind says =
        let h : Handed = accepted_share Out k c reply t u in
        noted ShareOut kind (λ e. cc e) h.call.reply c.buffer (option_to_list h.note) u
        (shared_plain t (base_of reply.args) (pages_of c.request.args) (rights_of c.request.args)
        (out_accept k.memory u t c.request.args reply).told)
    by_kind u mine ShareIn kind says =
        let h : Handed = accepted_share In k c reply t u in
        noted ShareIn kind (λ e. cc e) h.call.reply c.buffer (option_to_list h.note) u
        (shared_plain u (base_of c.request.args) (pages_of c.request.args) (rights_of c.request.args)
        (in_accept k.memory u t c.request.args reply).told)
    by_kind u mine kind same says = noted kind same (λ e. cc e) reply c.buffer [] u tt

-- ---- each request

-- a request has begun, and a receive may have dropped answers since
record IsBegun (b : Beginning) (t : TaskNo) (asked : Request) (q : List Entry) (k : KernelState) : Type 0 where
  pub fit : Fit b q k
  pub fine : IsSound k
  pub made : AreMadeSo q k.calls
  pub begun : (asked ≡ request.Receive → ⊥) → (p : List Entry) × (q ≡ entry.Head t asked ∷ p) × ArePlacedSo q k.calls

-- each join but those of a call
module _ (b : Beginning) (t : TaskNo) (asked : Request) (no_call : (p : ℕ) (msg : Msg) → asked ≡ request.Call p msg → ⊥)
    (q : List Entry) (k : KernelState) (i : IsBegun b t asked q k) where
  live_at : (n : ℕ) (c : Call) → call_at k.calls n ≡ Some c → IsLive k c
  live_at n c is = own k n c i.fine is

  hangs : (p : ℕ) → asked ≡ request.Hangup p → HangsUp (label_of t p) (present q)
  hangs p is =
      let it = i.begun (λ e. let z : request.Hangup p ≡ request.Receive = sym is ∙ e in cc) in
      subst (λ (x : List Entry). HangsUp (label_of t p) (present x)) (sym it.1)
      (subst (λ (a : Request). HangsUp (label_of t p) (Some (entry.Head t a))) (sym is) (refl, refl))

  not_accepted : (n : ℕ) (c : Call) → join.Stands k n c (Dispatched t) → (reply : Reply) (by : Option TaskNo)
      (u : TaskNo) → (reply.code ≡ eok → ⊥) → AfterStep b q (answer_to (declined k c reply) by u)
  not_accepted n c at =
      declined_told b k c (live_at n c at.live) i.fine.kept q i.fit i.fine.keepers (held_pending c.place t at.here)

  joined : (s : Served) → join.Joins t asked k s → AfterServed b q s
  joined s (join.plain o _) = i.fit
  joined s (join.back p msg _ code is _ _ _) = absurd (no_call p msg is)
  joined s (join.sent p msg u is _ _ _) = absurd (no_call p msg is)
  joined s (join.sent_keeping p msg u l is _ _ _) = absurd (no_call p msg is)
  joined s (join.sent_carrying p msg u bytes is _ _ _) = absurd (no_call p msg is)
  joined s (join.sent_cut p msg u is _ _) = absurd (no_call p msg is)
  joined s (join.taken n c kind _ at is) =
      taken b t q k i.fit c (same_place-true c.place (Incoming t) at.here) (live_at n c at.live) kind is
      (subst (λ (x : MethodKind). KindSays x c.request.method) is (kind_says c.request.method)) i.made
  joined s (join.delivered n c _ at _) =
      delivered b k c (live_at n c at.live) i.fine.kept q i.fit t (same_place-true c.place (Answers t) at.here)
  joined s (join.brought n c _ at _) =
      plains_told b k.tasks.phones (without_call k.calls c.number.0) (option_to_list (delivered_read k c t).note)
      (entry.Delivered c.number t ∷ q)
      (wrote_plain t (address_of c.request.args) (length c.buffer)
      (read_deliver k.memory t c.request.args c.buffer).told)
      (gone_told b k c (live_at n c at.live) i.fine.kept q i.fit (entry.Delivered c.number t) tt)
  joined s (join.vanished n c o _ at _ _) = vanished b k c (live_at n c at.live) i.fine.kept q i.fit
  joined s (join.turned_down n c reply u _ at _ _ declines) =
      not_accepted n c at reply (Some t) u (other_code reply.code declines)
  joined s (join.bounced n p mode change c u code _ at _ _) =
      not_accepted n c at (bare_reply eforward) None u (other_code eforward refl)
  joined s (join.accepted n c reply u kind is at mine _ accepting same) =
      let it = i.begun (λ e. let z : request.Answer n reply ≡ request.Receive = sym is ∙ e in cc) in
      by_kind b t n reply it.0 q k (it.1 ∙ ap (λ (a : Request). entry.Head t a ∷ it.0) is) i.fine i.made it.2 i.fit c
      at.live (same_place-true c.place (Dispatched t) at.here) (same_code reply.code accepting) u mine kind same
      (subst (λ (x : MethodKind). KindSays x c.request.method) same (kind_says c.request.method))
  joined s (join.passed n p mode change c u _ at _ _) =
      passed b k c (live_at n c at.live) i.fine.kept q i.fit i.fine.keepers (held_pending c.place t at.here)
      (msg_after change c) (label_after t p mode c) t u
  joined s (join.hung_up p u is led) = hung_up b t q k p (hangs p is) i.fit u led
  joined s (join.hung_up_slammed p is led) = hung_up_slammed b t q k p (hangs p is) i.fit led
  joined s (join.made base pages rights _) =
      let told = (spaces.make k.memory t base pages rights).told in
      plains_told b k.tasks.phones k.calls (made_note t base pages rights told) q
      (made_plain t base pages rights told) i.fit
  joined s (join.dropped base _) =
      let told = (spaces.drop_area k.memory t base).told in
      plains_told b k.tasks.phones k.calls (gone_note t base told) q (gone_plain t base told) i.fit
  joined s (join.poked at bytes _) =
      let told = (spaces.write k.memory t at bytes).told in
      plains_told b k.tasks.phones k.calls (option_to_list (wrote_note t at (length bytes) told)) q
      (wrote_plain t at (length bytes) told) i.fit

other_served : (b : Beginning) (t : TaskNo) (asked : Request) → ((p : ℕ) (msg : Msg) → asked ≡ request.Call p msg → ⊥)
    → (q : List Entry) (k : KernelState) → IsBegun b t asked q k → AfterServed b q (serve_request k t asked)
other_served b t asked no_call =
    join.by_request (List Entry) on_top (λ _. refl) (λ xs ys p. on_top-append xs ys p) t asked
    (IsBegun b t asked) (λ r o j. Fit b r j)
    (λ is r j n c i at discards.
    let live : IsLive j c = own j n c i.fine at.live in
    let method : c.request.method ≡ phone_hungup =
    eqb-true c.request.method phone_hungup (sym (i.fine.calls.each c.number.0 c live).discard ∙ discards) in
    record {
      fit = dropped b j c live i.fine.kept r i.fit t (same_place-true c.place (Answers t) at.here)
          (inl (subst (IsMadeWith phone_hungup) (sym (i.made c.number.0 c live).1) method));
      fine = sound_drop j t c i.fine live;
      made = dropped_made t r j c i.made;
      begun = λ other. absurd (other is);
    })
    (λ r j s i come. joined b t asked no_call r j i s come)

pub served : (b : Beginning) (t : TaskNo) (asked : Request) (p : List Entry) (k : KernelState) → IsSound k
    → AreMadeSo p k.calls → ArePlacedSo p k.calls → Fit b (entry.Head t asked ∷ p) k
    → AfterServed b (entry.Head t asked ∷ p) (serve_request k t asked)
served b t (request.Call phone msg) p k sound made placed f = called b t _ k f phone msg (phone_at k t phone) refl
served b t asked p k sound made placed f =
    other_served b t asked (λ phone msg e. cc e) (entry.Head t asked ∷ p) k
    (record { fit = f; fine = sound; made = made; begun = λ _. (p, refl, placed) })
