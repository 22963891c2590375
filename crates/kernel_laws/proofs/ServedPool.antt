-- The pool after a request is the pool before, with what came and without what went.
use Rattle.std.proofs.Common.{◌≡◌, ℕ, ◌+◌, inl, inr, sym, subst, List, [], ◌∷◌, ◌++◌, length, Option, None, Some, Result, Ok, Err, refl, ap, ◌∙◌, arith}
use Rattle.std.specs.Option.{option_to_list}
use Rattle.ipc_ids.specs.declared.numbers.Code.{Code}
use Rattle.ipc_ids.specs.declared.numbers.CallNo.{CallNo}
use Rattle.ipc_ids.specs.declared.numbers.Label.{Label}
use Rattle.ipc_ids.specs.declared.numbers.StoreNo.{StoreNo}
use Rattle.ipc_ids.specs.declared.numbers.TaskNo.{TaskNo}
use Rattle.ipc_ids.specs.declared.message.Msg.{Msg}
use Rattle.ipc_ids.specs.declared.message.Reply.{Reply}
use Rattle.ipc_ids.specs.declared.message.PhoneState.TheVariants.{Free, Connecting, Connected, HungUp}
use Rattle.ipc_ids.specs.declared.message.Request.{Request}
use Rattle.ipc_ids.specs.declared.entry.Entry.{Entry}
use Rattle.ipc_ids.specs.declared.entry.Entry.TheVariants as entry
use Rattle.ipc_ids.specs.declared.methods.MethodKind.{MethodKind}
use Rattle.ipc_ids.specs.declared.methods.MethodKind.TheVariants.{ConnectToMe, ConnectMeTo, DataWrite, DataRead, ShareOut, ShareIn}
use Rattle.ipc_ids.specs.Codes.{eforward}
use Rattle.ipc_ids.specs.Methods.{phone_hungup, kind_of}
use Rattle.call_slab.specs.declared.call.Call.{Call}
use Rattle.call_slab.specs.declared.call.Place.TheVariants.{Incoming, Dispatched, Answers}
use Rattle.answerbox.specs.Calls.{CallTable, call_at, front, enqueue, put_at, used}
use Rattle.answerbox.proofs.Used.{used-enqueue, used-without_call, used-put_at}
use Rattle.forwarding.specs.Forwarding.{msg_after, label_after}
use Rattle.address_space.specs.Memory as spaces
use Rattle.data_hooks.specs.DataMoments.{address_of, count_of, write_accept, read_deliver}
use Rattle.share_hooks.specs.ShareMoments.{pages_of, rights_of, base_of, out_accept, in_accept}
use Rattle.switchboard.specs.declared.sharing.Share.TheVariants.{Out, In}
use Rattle.switchboard.specs.State.{KernelState, Transition, label_of}
use Rattle.switchboard.specs.Sound.{IsSound}
use Rattle.switchboard.specs.Kept.{kept_phone, lent_phone, kept_note, first_usable_of}
use Rattle.switchboard.specs.Areas.{made_note, gone_note, make_area, drop_area, poke}
use Rattle.switchboard.specs.Sharing.{shared_note, accepted_share}
use Rattle.switchboard.specs.Data.{accepted_write, accepted_read, delivered_read}
use Rattle.switchboard.specs.Serving.{Handed, Served, as_it_is}
use Rattle.switchboard.specs.Joins.{bare_reply, new_call, acceptance, answer_at_once, reception, delivery, with_delivery, answer_to, declined, accepted_to_me, accepted_me_to, vanishing, passed_call, passage, drop_answer, hang_up, hangup_call}
use Rattle.switchboard.proofs.Histories.{told_after, none_after, both_after}
use Rattle.switchboard.proofs.Lookups.{put_here}
use Rattle.switchboard.proofs.Repeats.{by_test}
use Rattle.kernel_core.specs.Moments.{on_receive_of, on_accept_of, brings_bytes, reply_of, cut_call}
use Rattle.kernel_core.specs.Receiving.{drop_unawaited, receive_first, receive}
use Rattle.kernel_core.specs.Request.{serve_request}
use Rattle.kernel_core.specs.Kernel.{serve}
use Rattle.kernel_core.proofs.ByRequest as join
use Rattle.kernel_laws.specs.PoolLaws.{bytes_of, carried, accepted_by, answered_by, total, IsBalanced, ended_by}
use Rattle.kernel_laws.proofs.PoolChanges.{pool-used, total-append, IsAccounted, accounted_first, accounted_put, accounted_gone}
use Rattle.kernel_laws.proofs.PoolSteps.{IsSilent, none_silent, more_silent, kept_silent, wrote_silent, Accounts, live_front, dropped}
use Rattle.kernel_laws.proofs.Tables.{none_above}

made_silent : (t : TaskNo) (base pages rights : ℕ) (told : Result StoreNo Code) → IsSilent (made_note t base pages rights told)
made_silent t base pages rights (Ok store) = record { ended = λ q. refl; accepted = λ q. refl; answered = λ q. refl }
made_silent t base pages rights (Err code) = none_silent

gone_silent : (t : TaskNo) (base : ℕ) (told : Result Unit Code) → IsSilent (gone_note t base told)
gone_silent t base (Ok done) = record { ended = λ q. refl; accepted = λ q. refl; answered = λ q. refl }
gone_silent t base (Err code) = none_silent

shared_silent : (t : TaskNo) (base pages rights : ℕ) (told : Result StoreNo Code) → IsSilent (option_to_list (shared_note t base pages rights told))
shared_silent t base pages rights (Ok store) = record { ended = λ q. refl; accepted = λ q. refl; answered = λ q. refl }
shared_silent t base pages rights (Err code) = none_silent

module _ (k : KernelState) where
  abbrev Balances : Served → Type 0
  Balances s = IsBalanced k s.entries s.state

  abbrev StepBalances : Transition → Type 0
  StepBalances s = IsBalanced k s.entries s.state

  -- the calls stay as they are, and nothing is told of one
  quiet : (es : List Entry) (j : KernelState) → j.calls ≡ k.calls → IsSilent es → IsBalanced k es j
  quiet es j same silent =
      let ended = silent.ended k.calls in
      let answered = silent.answered k.calls in
      let came = silent.accepted j.calls in
      let got = silent.answered j.calls in
      let one = pool-used k in
      let two = pool-used j in
      let sum : used j.calls ≡ used k.calls = ap used same in
      omega (arith, ended, answered, came, got, one, two, sum)

  -- one entry, and others that tell of no call: the calls carry what that entry says
  told_by : (e : Entry) (told : List Entry) (j : KernelState) → IsSilent told
      → used j.calls + (ended_by k.calls e + answered_by k.calls e) ≡ used k.calls + (accepted_by j.calls e + answered_by j.calls e)
      → IsBalanced k (e ∷ told) j
  told_by e told j silent sum =
      let ended = silent.ended k.calls in
      let answered = silent.answered k.calls in
      let came = silent.accepted j.calls in
      let got = silent.answered j.calls in
      let one = pool-used k in
      let two = pool-used j in
      omega (arith, ended, answered, came, got, one, two, sum)

  -- an answer, with what it carries
  answered_as : (c : Call) (h : Handed) (by : Option TaskNo) (u : TaskNo) → h.state.calls ≡ k.calls
      → call_at k.calls h.call.number.0 ≡ Some c → IsSilent (option_to_list h.note) → StepBalances (answer_to h by u)
  answered_as c h by u same live silent =
      let d : Call = record h.call { place = Answers u; stamp = k.calls.next_stamp } in
      let j : KernelState = (answer_to h by u).state in
      let is : j.calls ≡ put_at k.calls h.call (Answers u) = ap (λ (q : CallTable). put_at q h.call (Answers u)) same in
      let whole : used j.calls ≡ used (put_at k.calls h.call (Answers u)) = ap used is in
      let sum = used-put_at k.calls c h.call (Answers u) live in
      let had : carried k.calls h.call.number ≡ length c.buffer = ap bytes_of live in
      let has : carried j.calls h.call.number ≡ length h.call.buffer =
      ap (λ (q : CallTable). carried q h.call.number) is
      ∙ ap bytes_of (put_here k.calls h.call.number.0 h.call.number.0 d refl) in
      told_by (entry.Answered h.call.number h.call.reply by) (option_to_list h.note) j silent
      (omega (arith, whole, sum, had, has))

module _ (k : KernelState) (sound : IsSound k) where
  free : (d : Call) → d.number.0 ≡ k.calls.next_number → call_at k.calls d.number.0 ≡ None
  free d next = ap (call_at k.calls) next ∙ none_above k sound k.calls.next_number (omega arith)

  -- a call comes, with what it carries
  come : (j : KernelState) (d : Call) (from : Label) (method : ℕ) (to : Option TaskNo) (told : List Entry)
      → j.calls ≡ enqueue k.calls d → d.number.0 ≡ k.calls.next_number → IsSilent told
      → IsBalanced k (entry.Accepted d.number from method to ∷ told) j
  come j d from method to told is next silent =
      let whole : used j.calls ≡ used (enqueue k.calls d) = ap used is in
      let sum = used-enqueue k.calls d (free d next) in
      let has : carried j.calls d.number ≡ length d.buffer =
      ap (λ (q : CallTable). carried q d.number) is
      ∙ ap bytes_of (put_here k.calls d.number.0 d.number.0 (record d { stamp = k.calls.next_stamp }) refl) in
      told_by k (entry.Accepted d.number from method to) told j silent (omega (arith, whole, sum, has))

  -- one that carries nothing, and is answered at once
  at_once : (c : Call) (code : Code) → c.number.0 ≡ k.calls.next_number → c.buffer ≡ []
      → Balances k (answer_at_once k c code)
  at_once c code next empty =
      let d : Call = record c { reply = bare_reply code } in
      let j : KernelState = (answer_at_once k c code).state in
      let one = pool-used k in
      let two = pool-used j in
      let sum : used j.calls ≡ length c.buffer + used k.calls = used-enqueue k.calls d (free c next) in
      let size : length c.buffer ≡ 0 = ap length empty in
      let had : carried k.calls c.number ≡ 0 = ap bytes_of (free c next) in
      let has : carried j.calls c.number ≡ length c.buffer =
      ap bytes_of (put_here k.calls c.number.0 c.number.0 (record d { stamp = k.calls.next_stamp }) refl) in
      omega (arith, one, two, sum, size, had, has)

  -- one that is sent, as it is handed on
  sent :
      (h : Handed) (u : TaskNo) → h.state.calls ≡ k.calls → h.call.number.0 ≡ k.calls.next_number
      → IsSilent (option_to_list h.note) → Balances k (acceptance h (Some u))
  sent h u calls next silent =
      come (acceptance h (Some u)).state h.call h.call.from h.call.request.method (Some u) (option_to_list h.note)
      (ap (λ (q : CallTable). enqueue q h.call) calls) next silent

  -- a receive: answers that nobody waits for are dropped, and then one call is told

  record IsReceiving (es : List Entry) (j : KernelState) : Type 0 where
    pub accounts : Accounts k sound es j
    pub accepted : (q : CallTable) → total (accepted_by q) es ≡ 0
    pub answers : (q : CallTable) → total (answered_by q) es ≡ 0

  begun : IsReceiving [] k
  begun = record { accounts = accounted_first k sound; accepted = λ q. refl; answers = λ q. refl }

  rest : (t : TaskNo) → IsReceiving (drop_unawaited t k).entries (drop_unawaited t k).state
  rest t =
      join.drops_tell (List Entry) told_after none_after both_after t IsReceiving
      (λ es j n c r at _.
      let live : call_at j.calls c.number.0 ≡ Some c = ap (call_at j.calls) (r.accounts.named n c at.live) ∙ at.live in
      let note = kept_silent (kept_phone c) Free in
      record {
        accounts = dropped k sound es j t c r.accounts live;
        accepted = λ q.
            let a = r.accepted q in
            let n = note.accepted q in
            let s = total-append (accepted_by q) es (drop_answer t j c).entries in
            omega (arith, a, n, s);
        answers = λ q.
            let a = r.answers q in
            let n = note.answered q in
            let s = total-append (answered_by q) es (drop_answer t j c).entries in
            omega (arith, a, n, s);
      })
      [] k begun

  -- what is told at last
  told_last : (es new : List Entry) (j i : KernelState) → IsReceiving es j → IsAccounted k sound (es ++ new) i.calls
      → ((q : CallTable) → total (accepted_by q) new ≡ 0) → ((q : CallTable) → total (answered_by q) new ≡ 0)
      → IsBalanced k (es ++ new) i
  told_last es new j i r a accepted answers =
      let given = a.given in
      let before = pool-used k in
      let after = pool-used i in
      let came = r.accepted i.calls in
      let came_last = accepted i.calls in
      let got = r.answers i.calls in
      let got_last = answers i.calls in
      let had = r.answers k.calls in
      let had_last = answers k.calls in
      let s1 = total-append (accepted_by i.calls) es new in
      let s2 = total-append (answered_by i.calls) es new in
      let s3 = total-append (answered_by k.calls) es new in
      omega (arith, given, before, after, came, came_last, got, got_last, had, had_last, s1, s2, s3)

  module _ (t : TaskNo) (es : List Entry) (j : KernelState) (r : IsReceiving es j) where
    delivered_as : (c : Call) (h : Handed) → call_at j.calls c.number.0 ≡ Some c → h.state.calls ≡ j.calls
        → h.call.number ≡ c.number → IsSilent (option_to_list h.note)
        → IsBalanced k (es ++ (delivery t h).entries) (delivery t h).state
    delivered_as c h live calls number silent =
        told_last es (delivery t h).entries j (delivery t h).state r
        (rw (calls, number) (accounted_gone k sound es (entry.Delivered c.number t ∷ option_to_list h.note) j.calls c
        live (let none = silent.ended k.calls in omega (arith, none)) r.accounts))
        (λ q. let none = silent.accepted q in omega (arith, none))
        (λ q. let none = silent.answered q in omega (arith, none))

    given :
        (c : Call) → call_at j.calls c.number.0 ≡ Some c
        → IsBalanced k (es ++ (delivery t (with_delivery j c (reply_of (kind_of c.request.method) c))).entries)
        (delivery t (with_delivery j c (reply_of (kind_of c.request.method) c))).state
    given c live =
        delivered_as c (with_delivery j c (reply_of (kind_of c.request.method) c)) live refl refl
        (kept_silent (kept_phone c) Free)

    brought :
        (c : Call) → call_at j.calls c.number.0 ≡ Some c
        → IsBalanced k (es ++ (delivery t (delivered_read j c t)).entries) (delivery t (delivered_read j c t)).state
    brought c live =
        delivered_as c (delivered_read j c t) live refl refl
        (wrote_silent t (address_of c.request.args) (length c.buffer)
        (read_deliver j.memory t c.request.args c.buffer).told)

    received_with : (c : Call) (h : Handed) → call_at j.calls c.number.0 ≡ Some c → h.state.calls ≡ j.calls
        → h.call.number ≡ c.number → h.call.buffer ≡ c.buffer → IsSilent (option_to_list h.note)
        → IsBalanced k (es ++ (reception t h).entries) (reception t h).state
    received_with c h live calls number bytes silent =
        let told = more_silent (entry.Received h.call.number t) (option_to_list h.note) (λ q. refl) (λ q. refl) (λ q. refl) silent in
        told_last es (reception t h).entries j (reception t h).state r
        (rw calls (accounted_put k sound es (reception t h).entries j.calls c h.call (Dispatched t)
        (ap (λ (n : CallNo). call_at j.calls n.0) number ∙ live) bytes (told.ended k.calls) r.accounts))
        told.accepted told.answered

    received_as : (c : Call) (kind : MethodKind) → call_at j.calls c.number.0 ≡ Some c
        → IsBalanced k (es ++ (reception t (on_receive_of kind j c t)).entries) (reception t (on_receive_of kind j c t)).state
    received_as c ConnectToMe live = received_with c (on_receive_of ConnectToMe j c t) live refl refl refl (kept_silent (first_usable_of j t) Connecting)
    received_as c _ live = received_with c (as_it_is j c) live refl refl refl none_silent

    received_first :
        (answer incoming : Option Call) → front j.calls (Answers t) ≡ answer → front j.calls (Incoming t) ≡ incoming
        → IsBalanced k (es ++ (receive_first j t answer incoming).entries) (receive_first j t answer incoming).state
    received_first (Some c) incoming one two =
        let live = live_front k sound es j (Answers t) c r.accounts one in
        by_test (λ (h : Handed). IsBalanced k (es ++ (delivery t h).entries) (delivery t h).state) (brings_bytes c) _ _
        (λ _. brought c live) (λ _. given c live)
    received_first None (Some c) one two =
        received_as c (kind_of c.request.method) (live_front k sound es j (Incoming t) c r.accounts two)
    received_first None None one two = told_last es [] j j r (rw (none_after es) r.accounts) (λ q. refl) (λ q. refl)

  received : (t : TaskNo) → Balances k (receive k t)
  received t =
      let d : Transition = drop_unawaited t k in
      received_first t d.entries d.state (rest t) (front d.state.calls (Answers t)) (front d.state.calls (Incoming t))
      refl refl

  -- an answer, and a forward, of a live call
  module _ (c : Call) (live : call_at k.calls c.number.0 ≡ Some c) where
    gone : StepBalances k (vanishing k c)
    gone =
        let sum = used-without_call k.calls c.number.0 c live in
        let had : carried k.calls c.number ≡ length c.buffer = ap bytes_of live in
        told_by k (entry.Vanished c.number) (option_to_list (kept_note (kept_phone c) Free)) (vanishing k c).state
        (kept_silent (kept_phone c) Free) (omega (arith, sum, had))

    declines : (reply : Reply) (by : Option TaskNo) (u : TaskNo) → StepBalances k (answer_to (declined k c reply) by u)
    declines reply by u = answered_as k c (declined k c reply) by u refl live (kept_silent (lent_phone c) Free)

    accepted : (t : TaskNo) (reply : Reply) (u : TaskNo) (kind : MethodKind) → StepBalances k (answer_to (on_accept_of kind k c reply t u) (Some t) u)
    accepted t reply u ConnectToMe = answered_as k c (accepted_to_me k c reply u) (Some t) u refl live (kept_silent (kept_phone c) (Connected u))
    accepted t reply u ConnectMeTo = answered_as k c (accepted_me_to k c reply t) (Some t) u refl live (kept_silent (kept_phone c) (Connected t))
    accepted t reply u DataWrite =
        answered_as k c (accepted_write k c reply t) (Some t) u refl live
        (wrote_silent t (address_of reply.args) (count_of reply.args) (write_accept k.memory t c.buffer reply).told)
    accepted t reply u DataRead = answered_as k c (accepted_read k c reply t) (Some t) u refl live none_silent
    accepted t reply u ShareOut =
        answered_as k c (accepted_share Out k c reply t u) (Some t) u refl live (shared_silent t (base_of reply.args)
        (pages_of c.request.args) (rights_of c.request.args) (out_accept k.memory u t c.request.args reply).told)
    accepted t reply u ShareIn =
        answered_as k c (accepted_share In k c reply t u) (Some t) u refl live (shared_silent u (base_of c.request.args)
        (pages_of c.request.args) (rights_of c.request.args) (in_accept k.memory u t c.request.args reply).told)
    accepted t reply u _ = answered_as k c (as_it_is k (record c { reply = reply })) (Some t) u refl live none_silent

    passed : (msg : Msg) (label : Label) (t to : TaskNo) → StepBalances k (passage msg label t to k c)
    passed msg label t to =
        let sum = used-put_at k.calls c (passed_call msg label c) (Incoming to) live in
        told_by k (entry.Forwarded c.number t to label) (option_to_list (kept_note (lent_phone c) Free))
        (passage msg label t to k c).state (kept_silent (lent_phone c) Free) (omega (arith, sum))

  -- each join
  joined : (t : TaskNo) (asked : Request) (s : Served) → join.Joins t asked k s → Balances k s
  joined t asked s (join.plain o _) = refl
  joined t asked s (join.back p msg _ code _ _ _ _) = at_once (new_call k t p msg (Answers t)) code refl refl
  joined t asked s (join.sent p msg u _ _ _ _) =
      sent (as_it_is k (new_call k t p msg (Incoming u))) u refl refl none_silent
  joined t asked s (join.sent_keeping p msg u l _ _ _ _) =
      sent (join.kept_to_send k (new_call k t p msg (Incoming u)) l) u refl refl (kept_silent (Some l) Connecting)
  joined t asked s (join.sent_carrying p msg u bytes _ _ _ _) =
      sent (as_it_is k (record (cut_call (new_call k t p msg (Incoming u))) { buffer = bytes })) u refl refl none_silent
  joined t asked s (join.sent_cut p msg u _ _ _) =
      sent (as_it_is k (cut_call (new_call k t p msg (Incoming u)))) u refl refl none_silent
  joined t asked s (join.taken n c kind _ at _) = received_as t [] k begun c kind (join.own k n c sound at.live)
  joined t asked s (join.delivered n c _ at _) = given t [] k begun c (join.own k n c sound at.live)
  joined t asked s (join.brought n c _ at _) = brought t [] k begun c (join.own k n c sound at.live)
  joined t asked s (join.vanished n c o _ at _ _) = gone c (join.own k n c sound at.live)
  joined t asked s (join.turned_down n c reply u _ at _ _ _) = declines c (join.own k n c sound at.live) reply (Some t) u
  joined t asked s (join.bounced n p mode change c u code _ at _ _) =
      declines c (join.own k n c sound at.live) (bare_reply eforward) None u
  joined t asked s (join.accepted n c reply u kind _ at _ _ _ _) = accepted c (join.own k n c sound at.live) t reply u kind
  joined t asked s (join.passed n p mode change c u _ at _ _) =
      passed c (join.own k n c sound at.live) (msg_after change c) (label_after t p mode c) t u
  joined t asked s (join.hung_up p u _ _) =
      come (hang_up k t p (Some (Connected u))).state (hangup_call k t p u) (label_of t p) phone_hungup (Some u)
      (entry.PhoneIs (label_of t p) HungUp ∷ []) refl refl
      (record { ended = λ q. refl; accepted = λ q. refl; answered = λ q. refl })
  joined t asked s (join.hung_up_slammed p _ _) = refl
  joined t asked s (join.made base pages rights _) =
      let step : Served = make_area k t base pages rights in
      quiet k step.entries step.state refl (made_silent t base pages rights (spaces.make k.memory t base pages rights).told)
  joined t asked s (join.dropped base _) =
      let step : Served = drop_area k t base in
      quiet k step.entries step.state refl (gone_silent t base (spaces.drop_area k.memory t base).told)
  joined t asked s (join.poked at bytes _) =
      let step : Served = poke k t at bytes in
      quiet k step.entries step.state refl (wrote_silent t at (length bytes) (spaces.write k.memory t at bytes).told)

pub serve_balances :
    (k : KernelState) (t : TaskNo) (asked : Request) → IsSound k
    → IsBalanced k (serve k t asked).entries (serve k t asked).state
serve_balances k t asked sound = elim (join.one_join t k asked) [
  | inl is ↦ subst (λ (a : Request). Balances k (serve_request k t a)) (sym is) (received k sound t)
  | inr come ↦ joined k sound t asked (serve_request k t asked) come
]
