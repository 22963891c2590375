-- By a request calls go where phones lead.
use Rattle.std.proofs.Common.{◌≡◌, ℕ, ◌≤◌, ◌⊎◌, inl, inr, List, [], ◌∷◌, ◌++◌, length, Option, None, Some, Result, Ok, Err, refl, ap, sym, subst, ◌∙◌}
use Rattle.std.specs.Option.{option_to_list}
use Rattle.ipc_ids.specs.declared.numbers.Code.{Code}
use Rattle.ipc_ids.specs.declared.numbers.Label.{Label}
use Rattle.ipc_ids.specs.declared.numbers.StoreNo.{StoreNo}
use Rattle.ipc_ids.specs.declared.numbers.TaskNo.{TaskNo}
use Rattle.ipc_ids.specs.declared.message.Msg.{Msg}
use Rattle.ipc_ids.specs.declared.message.Mode.{Mode}
use Rattle.ipc_ids.specs.declared.message.Mode.TheVariants.{Plain, Route}
use Rattle.ipc_ids.specs.declared.message.Reply.{Reply}
use Rattle.ipc_ids.specs.declared.message.PhoneState.{PhoneState}
use Rattle.ipc_ids.specs.declared.message.PhoneState.TheVariants.{Free, Connecting, Connected}
use Rattle.ipc_ids.specs.declared.message.Outcome.{Outcome}
use Rattle.ipc_ids.specs.declared.message.Outcome.TheVariants as outcome
use Rattle.ipc_ids.specs.declared.message.Request.{Request}
use Rattle.ipc_ids.specs.declared.message.Request.TheVariants as request
use Rattle.ipc_ids.specs.declared.entry.Entry.{Entry}
use Rattle.ipc_ids.specs.declared.entry.Entry.TheVariants as entry
use Rattle.ipc_ids.specs.declared.methods.MethodKind.{MethodKind}
use Rattle.ipc_ids.specs.declared.methods.MethodKind.TheVariants.{ConnectToMe, ConnectMeTo, DataWrite, DataRead, ShareOut, ShareIn}
use Rattle.ipc_ids.specs.Codes.{eforward}
use Rattle.ipc_ids.specs.Methods.{first_user_method}
use Rattle.ipc_ids.proofs.Common.{same_end}
use Rattle.call_slab.specs.declared.call.Call.{Call}
use Rattle.call_slab.specs.declared.call.Place.{Place}
use Rattle.call_slab.specs.declared.call.Place.TheVariants.{Incoming, Dispatched, Answers}
use Rattle.answerbox.specs.Calls.{CallTable, call_at, enqueue, put_at, without_call}
use Rattle.phone_table.specs.Phones.{state_at}
use Rattle.forwarding.specs.Forwarding.{msg_after, label_after}
use Rattle.address_space.specs.Memory as spaces
use Rattle.data_hooks.specs.DataMoments.{address_of, count_of, cut_args, write_accept, read_deliver}
use Rattle.share_hooks.specs.ShareMoments.{pages_of, rights_of, base_of, out_accept, in_accept}
use Rattle.switchboard.specs.declared.sharing.Share.TheVariants.{Out, In}
use Rattle.switchboard.specs.State.{KernelState, Transition, phone_at, label_of}
use Rattle.switchboard.specs.Sound.{IsSound}
use Rattle.switchboard.specs.Kept.{kept_phone, lent_phone, kept_note, kept_rows, first_usable_of}
use Rattle.switchboard.specs.Areas.{made_note, gone_note, wrote_note}
use Rattle.switchboard.specs.Sharing.{shared_note, accepted_share}
use Rattle.switchboard.specs.Data.{accepted_write, accepted_read}
use Rattle.switchboard.specs.Serving.{Handed, Served, as_it_is, telling}
use Rattle.switchboard.specs.Joins.{bare_reply, new_call, acceptance, answer_at_once, reception, answer_to, declined, accepted_to_me, accepted_me_to, vanishing, passed_call, passage, drop_answer, hang_up, hangup_call}
use Rattle.switchboard.proofs.Histories.{told_after, none_after, both_after}
use Rattle.switchboard.proofs.Lookups.{put_here}
use Rattle.switchboard.proofs.Rows.{state_changed_at}
use Rattle.cleanup.proofs.Queues.{sound_drop}
use Rattle.switchboard.proofs.Soundness.{next_free}
use Rattle.kernel_core.specs.Moments.{on_receive_of, on_accept_of, cut_down}
use Rattle.kernel_core.specs.Receiving.{drop_unawaited, receive_now, receive}
use Rattle.kernel_core.specs.Request.{serve_request}
use Rattle.kernel_core.specs.Kernel.{serve}
use Rattle.kernel_core.proofs.InEvent.{same_place-true}
use Rattle.kernel_core.proofs.AreaSteps.{quiet_hand}
use Rattle.kernel_core.proofs.ByRequest as join
use Rattle.kernel_laws.specs.Routes.{Leads, label_by, Comes, GoesThere, GoThere, WaitsThere, GoWherePhonesLead}
use Rattle.kernel_laws.proofs.Methods.{user_kind}
use Rattle.kernel_laws.proofs.Tables.{came_by, put_by, gone_by}

pub not_answers : (t u : TaskNo) → Answers t ≡ Incoming u → ⊥
not_answers t u e = cc

pub not_dispatched : (t u : TaskNo) → Dispatched t ≡ Incoming u → ⊥
not_dispatched t u e = cc

pub same_queue : (t u : TaskNo) → Incoming t ≡ Incoming u → t ≡ u
same_queue t u e = cc

pub one_target : (k : KernelState) (t : TaskNo) (p : ℕ) (s : PhoneState) (u : TaskNo) → phone_at k t p ≡ Some s
    → Leads k t p u → s ≡ Connected u
one_target k t p s u is leads = let same : Some s ≡ Some (Connected u) = sym is ∙ leads in cc

-- entries that tell of no call that goes to a task

module _ (b : KernelState) (a : CallTable) where
  there_both : (xs ys : List Entry) → GoThere b a xs → GoThere b a ys → GoThere b a (xs ++ ys)
  there_both [] ys f g = g
  there_both (x ∷ xs) ys f g = (f.0, there_both xs ys f.1 g)

  kept_there : (kept : Option Label) (s : PhoneState) → GoThere b a (option_to_list (kept_note kept s))
  kept_there None s = tt
  kept_there (Some l) s = (tt, tt)

  wrote_there : (t : TaskNo) (at count : ℕ) (told : Result (Option StoreNo) Code)
      → GoThere b a (option_to_list (wrote_note t at count told))
  wrote_there t at count (Ok (Some store)) = (tt, tt)
  wrote_there t at count (Ok None) = tt
  wrote_there t at count (Err code) = tt

  made_there : (t : TaskNo) (base pages rights : ℕ) (told : Result StoreNo Code)
      → GoThere b a (made_note t base pages rights told)
  made_there t base pages rights (Ok store) = (tt, tt)
  made_there t base pages rights (Err code) = tt

  gone_there : (t : TaskNo) (base : ℕ) (told : Result Unit Code) → GoThere b a (gone_note t base told)
  gone_there t base (Ok done) = (tt, tt)
  gone_there t base (Err code) = tt

  shared_there : (t : TaskNo) (base pages rights : ℕ) (told : Result StoreNo Code)
      → GoThere b a (option_to_list (shared_note t base pages rights told))
  shared_there t base pages rights (Ok store) = (tt, tt)
  shared_there t base pages rights (Err code) = tt

-- what a phone leads to, where one was freed
freed_leads :
    (rows : List (List PhoneState)) (kept : Option Label) (v p : ℕ) (u : TaskNo)
    → state_at (kept_rows rows kept Free) v p ≡ Some (Connected u) → state_at rows v p ≡ Some (Connected u)
freed_leads rows None v p u is = is
freed_leads rows (Some l) v p u is = elim (state_changed_at rows l.task.0 l.phone.0 v p Free (Connected u) is) [
  | inl e ↦ absurd (let never = e.2 in cc)
  | inr e ↦ e.1
]

-- entries that tell so of a state tell so of each whose phones lead there too
module _ (b d : KernelState) (a : CallTable)
    (leads : (v : TaskNo) (p : ℕ) (u : TaskNo) → Leads b v p u → Leads d v p u) where
  goes_before : (e : Entry) → GoesThere b a e → GoesThere d a e
  goes_before (entry.Accepted n from method (Some u)) g = (leads from.task from.phone.0 u g.0, g.1)
  goes_before (entry.Accepted n from method None) g = g
  goes_before (entry.Forwarded n by u label) g = ((g.0.0, leads by g.0.0 u g.0.1), g.1)
  goes_before _ g = tt

  there_before : (es : List Entry) → GoThere b a es → GoThere d a es
  there_before [] g = tt
  there_before (e ∷ es) g = (goes_before e g.0, there_before es g.1)

module _ (k : KernelState) where
  -- each call that waits among these waited before, and is the same, or is so
  abbrev Only : CallTable → (TaskNo → Call → Type 0) → Type 0
  Only q IsSo =
      (n : ℕ) (c : Call) (u : TaskNo) → call_at q n ≡ Some c → c.place ≡ Incoming u
      → (call_at k.calls n ≡ Some c) ⊎ IsSo u c

  only_come : (d : Call) (IsSo : TaskNo → Call → Type 0)
      → ((u : TaskNo) → d.place ≡ Incoming u → IsSo u (record d { stamp = k.calls.next_stamp }))
      → Only (enqueue k.calls d) IsSo
  only_come d IsSo so n c u is at = elim (came_by k.calls d c n is) [
    | inl h ↦ inr (subst (IsSo u) h.1 (so u (ap (λ (x : Call). x.place) h.1 ∙ at)))
    | inr h ↦ inl h
  ]

  only_put : (d : Call) (place : Place) (IsSo : TaskNo → Call → Type 0)
      → ((u : TaskNo) → place ≡ Incoming u → IsSo u (record d { place = place; stamp = k.calls.next_stamp }))
      → Only (put_at k.calls d place) IsSo
  only_put d place IsSo so n c u is at = elim (put_by k.calls d c place n is) [
    | inl h ↦ inr (subst (IsSo u) h.1 (so u (ap (λ (x : Call). x.place) h.1 ∙ at)))
    | inr h ↦ inl h
  ]

module _ (k : KernelState) (sound : IsSound k) (t : TaskNo) where
  -- a call
  module _ (p : ℕ) (msg : Msg) where
    abbrev IsNew : TaskNo → Call → Type 0
    IsNew u c = Comes t (request.Call p msg) k u c

    at_once :
        (code : Code) → ((u : TaskNo) → first_user_method ≤ msg.method → Leads k t p u → ⊥)
        → GoWherePhonesLead t (request.Call p msg) k (answer_at_once k (new_call k t p msg (Answers t)) code)
    at_once code never =
        let d : Call = record (new_call k t p msg (Answers t)) { reply = bare_reply code } in
        let e : Call = record d { stamp = k.calls.next_stamp } in
        record {
          queued = only_come k d IsNew (λ u at. absurd (not_answers t u at));
          told = ((e, put_here k.calls d.number.0 d.number.0 e refl, refl), (tt, tt));
          waits = λ u user leads. absurd (never u user leads);
        }

    abbrev sent_to : TaskNo → List ℕ → Msg → Option Label → List ℕ → Call
    sent_to u args seen reserved bytes = record (new_call k t p msg (Incoming u)) {
      request = record { method = msg.method; args = args };
      msg = seen;
      reserved = reserved;
      buffer = bytes;
    }

    goes_to :
        (u : TaskNo) → phone_at k t p ≡ Some (Connected u)
        → (args : List ℕ) (seen : Msg) (reserved : Option Label) (bytes : List ℕ) (kept : Option Label)
        → GoWherePhonesLead t (request.Call p msg) k
        (acceptance (quiet_hand k (sent_to u args seen reserved bytes) kept Connecting) (Some u))
    goes_to u leads args seen reserved bytes kept =
        let c : Call = sent_to u args seen reserved bytes in
        let d : Call = record c { stamp = k.calls.next_stamp } in
        let q : CallTable = enqueue k.calls c in
        let here : call_at q c.number.0 ≡ Some d = put_here k.calls c.number.0 c.number.0 d refl in
        record {
          queued = only_come k c IsNew (λ v at. subst (λ (w : TaskNo). IsNew w d) (same_queue u v at) (record {
            first = next_free k.tasks k.calls sound.calls;
            leads = leads;
            caller = refl;
            from = refl;
            label = refl;
            asks = refl;
          }));
          told = ((leads, (d, here, refl, refl)), kept_there k q kept Connecting);
          waits = λ v user there. (d, here, ap Incoming (same_end u v (one_target k t p (Connected u) v leads there)));
        }

  -- after a step with these entries no call has come to a queue among these, and the entries tell of none
  record IsQuiet (es : List Entry) (q : CallTable) : Type 0 where
    pub queued : Only k q (λ u c. ⊥)
    pub told : GoThere k q es

  abbrev IsQuietStep : Transition → Type 0
  IsQuietStep s = IsQuiet s.entries s.state.calls

  unmoved : (es : List Entry) → GoThere k k.calls es → IsQuiet es k.calls
  unmoved es told = record { queued = λ n c u is at. inl is; told = told }

  over : (es : List Entry) (m : ℕ) → GoThere k (without_call k.calls m) es → IsQuiet es (without_call k.calls m)
  over es m told = record { queued = λ n c u is at. inl (gone_by k.calls m n c is); told = told }

  -- what is told of it says of no call that it waits
  abbrev WaitsForNone : Request → Outcome → Type 0
  WaitsForNone asked o = (a : CallTable) → WaitsThere t asked k a o

  quietly :
      (asked : Request) (s : Served) → IsQuiet s.entries s.state.calls → WaitsForNone asked s.outcome
      → GoWherePhonesLead t asked k s
  quietly asked s quiet none = record {
    queued = λ n c u is at. elim (quiet.queued n c u is at) [ inl h ↦ inl h | inr x ↦ absurd x ];
    told = quiet.told;
    waits = none s.state.calls;
  }

  plain_waits : (asked : Request) (o : Outcome) → join.IsPlain asked o → WaitsForNone asked o
  plain_waits (request.Call p msg) (outcome.Accepted n) is a = absurd is.0
  plain_waits (request.Forward n p mode change) outcome.Done is a = absurd is.1
  plain_waits _ _ is a = tt

  put_away :
      (h : Handed) (by : Option TaskNo) (u : TaskNo) → h.state.calls ≡ k.calls
      → ((b : KernelState) (a : CallTable) → GoThere b a (option_to_list h.note))
      → IsQuietStep (answer_to h by u)
  put_away h by u same note = record {
    queued =
        subst (λ (q : CallTable). Only k (put_at q h.call (Answers u)) (λ v c. ⊥)) (sym same)
        (only_put k h.call (Answers u) (λ v c. ⊥) (λ v at. not_answers u v at));
    told = (tt, note k (answer_to h by u).state.calls);
  }

  module _ (c : Call) where
    gone : IsQuietStep (vanishing k c)
    gone = over (vanishing k c).entries c.number.0 (tt, kept_there k (vanishing k c).state.calls (kept_phone c) Free)

    declines : (reply : Reply) (by : Option TaskNo) (u : TaskNo) → IsQuietStep (answer_to (declined k c reply) by u)
    declines reply by u = put_away (declined k c reply) by u refl (λ b a. kept_there b a (lent_phone c) Free)

    accepted_as :
        (reply : Reply) (u : TaskNo) (kind : MethodKind)
        → IsQuietStep (answer_to (on_accept_of kind k c reply t u) (Some t) u)
    accepted_as reply u ConnectToMe =
        put_away (accepted_to_me k c reply u) (Some t) u refl (λ b a. kept_there b a (kept_phone c) (Connected u))
    accepted_as reply u ConnectMeTo =
        put_away (accepted_me_to k c reply t) (Some t) u refl (λ b a. kept_there b a (kept_phone c) (Connected t))
    accepted_as reply u DataWrite =
        let told = (write_accept k.memory t c.buffer reply).told in
        put_away (accepted_write k c reply t) (Some t) u refl
        (λ b a. wrote_there b a t (address_of reply.args) (count_of reply.args) told)
    accepted_as reply u DataRead = put_away (accepted_read k c reply t) (Some t) u refl (λ b a. tt)
    accepted_as reply u ShareOut =
        let told = (out_accept k.memory u t c.request.args reply).told in
        put_away (accepted_share Out k c reply t u) (Some t) u refl
        (λ b a. shared_there b a t (base_of reply.args) (pages_of c.request.args) (rights_of c.request.args) told)
    accepted_as reply u ShareIn =
        let told = (in_accept k.memory u t c.request.args reply).told in
        put_away (accepted_share In k c reply t u) (Some t) u refl
        (λ b a. shared_there b a u (base_of c.request.args) (pages_of c.request.args) (rights_of c.request.args) told)
    accepted_as reply u _ = put_away (as_it_is k (record c { reply = reply })) (Some t) u refl (λ b a. tt)

    taken :
        (kind : MethodKind)
        → let s : Served = reception t (on_receive_of kind k c t) in IsQuiet s.entries s.state.calls
    taken ConnectToMe =
        let d : Call = (on_receive_of ConnectToMe k c t).call in
        record {
          queued = only_put k d (Dispatched t) (λ u c. ⊥) (not_dispatched t);
          told = (tt, kept_there k (put_at k.calls d (Dispatched t)) (first_usable_of k t) Connecting);
        }
    taken _ = record { queued = only_put k c (Dispatched t) (λ u c. ⊥) (not_dispatched t); told = (tt, tt) }

  -- a forward
  label_is : (p : ℕ) (c : Call) (mode : Mode) → label_after t p mode c ≡ label_by mode c.label (label_of t p)
  label_is p c Plain = refl
  label_is p c Route = refl

  passed :
      (n p : ℕ) (mode : Mode) (change : Option Msg) (c : Call) (to : TaskNo)
      → join.Stands k n c (Dispatched t) → phone_at k t p ≡ Some (Connected to)
      → GoWherePhonesLead t (request.Forward n p mode change) k
      (telling (passage (msg_after change c) (label_after t p mode c) t to k c) outcome.Done)
  passed n p mode change c to stands leads =
      let d : Call = passed_call (msg_after change c) (label_after t p mode c) c in
      let e : Call = record d { place = Incoming to; stamp = k.calls.next_stamp } in
      let number : c.number.0 ≡ n = (sound.calls.each n c stands.live).number in
      record {
        queued = only_put k d (Incoming to) (Comes t (request.Forward n p mode change) k) (λ u at.
            subst (λ (v : TaskNo). Comes t (request.Forward n p mode change) k v e) (same_queue to u at) (record {
              before = c;
              live = stands.live;
              held = same_place-true c.place (Dispatched t) stands.here;
              leads = leads;
              number = refl;
              caller = refl;
              from = refl;
              label = label_is p c mode;
            }));
        told = (
          ((p, leads), (e, put_here k.calls c.number.0 c.number.0 e refl, refl, refl)),
          kept_there k (put_at k.calls d (Incoming to)) (lent_phone c) Free,
        );
        waits = (to, leads, (e, put_here k.calls c.number.0 n e number, refl));
      }

  -- a hangup
  hung_up :
      (p : ℕ) (u : TaskNo) → phone_at k t p ≡ Some (Connected u)
      → GoWherePhonesLead t (request.Hangup p) k (telling (hang_up k t p (Some (Connected u))) outcome.Done)
  hung_up p u leads =
      let d : Call = hangup_call k t p u in
      let e : Call = record d { stamp = k.calls.next_stamp } in
      record {
        queued = only_come k d (Comes t (request.Hangup p) k) (λ v at.
            subst (λ (w : TaskNo). Comes t (request.Hangup p) k w e) (same_queue u v at) (record {
              first = next_free k.tasks k.calls sound.calls;
              leads = leads;
              caller = refl;
              from = refl;
              label = refl;
              asks = refl;
            }));
        told = ((leads, (e, put_here k.calls d.number.0 d.number.0 e refl, refl, refl)), (tt, tt));
        waits = tt;
      }

  module _ (asked : Request) where
    -- of the request that this one is
    of : {r : Request} {s : Served} → asked ≡ r → GoWherePhonesLead t r k s → GoWherePhonesLead t asked k s
    of {r} {s} is = subst (λ (a : Request). GoWherePhonesLead t a k s) (sym is)

    of_quiet :
        {r : Request} {s : Served} → asked ≡ r → IsQuiet s.entries s.state.calls → WaitsForNone r s.outcome
        → GoWherePhonesLead t asked k s
    of_quiet {r} {s} is quiet none = of is (quietly r s quiet none)

    -- each join
    joined : (s : Served) → join.Joins t asked k s → GoWherePhonesLead t asked k s
    joined s (join.plain o is) = quietly asked _ (unmoved [] tt) (plain_waits asked o is)
    joined s (join.back p msg from code is may none _) =
        of is (at_once p msg code (λ u far leads.
        subst (join.IsNoUsers msg) (one_target k t p from u may.phone leads) none (user_kind msg.method far)))
    joined s (join.sent p msg u is may _ _) = of is (goes_to p msg u may.phone msg.args msg None [] None)
    joined s (join.sent_keeping p msg u l is may _ _) =
        let seen : Msg = (join.kept_to_send k (new_call k t p msg (Incoming u)) l).call.msg in
        of is (goes_to p msg u may.phone msg.args seen (Some l) [] (Some l))
    joined s (join.sent_carrying p msg u bytes is may _ _) =
        of is (goes_to p msg u may.phone (cut_args msg.args) (cut_down msg) None bytes None)
    joined s (join.sent_cut p msg u is may _) =
        of is (goes_to p msg u may.phone (cut_args msg.args) (cut_down msg) None [] None)
    joined s (join.taken n c kind is _ _) = of_quiet is (taken c kind) (λ a. tt)
    joined s (join.delivered n c is _ _) =
        let after : CallTable = without_call k.calls c.number.0 in
        of_quiet is (over _ c.number.0 (tt, kept_there k after (kept_phone c) Free)) (λ a. tt)
    joined s (join.brought n c is _ _) =
        let after : CallTable = without_call k.calls c.number.0 in
        let told = (read_deliver k.memory t c.request.args c.buffer).told in
        let there = wrote_there k after t (address_of c.request.args) (length c.buffer) told in
        of_quiet is (over _ c.number.0 (tt, there)) (λ a. tt)
    joined s (join.vanished n c o _ _ _ is) = quietly asked _ (gone c) (plain_waits asked o is)
    joined s (join.turned_down n c reply u is _ _ _ _) = of_quiet is (declines c reply (Some t) u) (λ a. tt)
    joined s (join.bounced n p mode change c u code is _ _ _) =
        of_quiet is (declines c (bare_reply eforward) None u) (λ a. tt)
    joined s (join.accepted n c reply u kind is _ _ _ _ _) = of_quiet is (accepted_as c reply u kind) (λ a. tt)
    joined s (join.passed n p mode change c u is stands _ leads) = of is (passed n p mode change c u stands leads)
    joined s (join.hung_up p u is leads) = of is (hung_up p u leads)
    joined s (join.hung_up_slammed p is _) = of_quiet is (unmoved _ (tt, tt)) (λ a. tt)
    joined s (join.made base pages rights is) =
        let there = made_there k k.calls t base pages rights (spaces.make k.memory t base pages rights).told in
        of_quiet is (unmoved _ there) (λ a. tt)
    joined s (join.dropped base is) =
        of_quiet is (unmoved _ (gone_there k k.calls t base (spaces.drop_area k.memory t base).told)) (λ a. tt)
    joined s (join.poked at bytes is) =
        let there = wrote_there k k.calls t at (length bytes) (spaces.write k.memory t at bytes).told in
        of_quiet is (unmoved _ there) (λ a. tt)

-- a receive brings no call to a queue, and its drops free phones alone
record IsRest (k : KernelState) (es : List Entry) (j : KernelState) : Type 0 where
  pub fine : IsSound j
  pub left : (n : ℕ) (c : Call) → call_at j.calls n ≡ Some c → call_at k.calls n ≡ Some c
  pub leads : (v : TaskNo) (p : ℕ) (u : TaskNo) → Leads j v p u → Leads k v p u
  pub told : (a : CallTable) → GoThere k a es

rest : (k : KernelState) (t : TaskNo) → IsSound k → IsRest k (drop_unawaited t k).entries (drop_unawaited t k).state
rest k t sound =
    join.drops_tell (List Entry) told_after none_after both_after t (IsRest k)
    (λ es j n c h at _. record {
      fine = sound_drop j t c h.fine (join.own j n c h.fine at.live);
      left = λ i d is. h.left i d (gone_by j.calls c.number.0 i d is);
      leads = λ v p u led. h.leads v p u (freed_leads j.tasks.phones (kept_phone c) v.0 p u led);
      told = λ a. there_both k a es (drop_answer t j c).entries (h.told a) (tt, kept_there k a (kept_phone c) Free);
    })
    [] k (record { fine = sound; left = λ n c is. is; leads = λ v p u led. led; told = λ a. tt })

received : (k : KernelState) (t : TaskNo) → IsSound k → GoWherePhonesLead t request.Receive k (receive k t)
received k t sound =
    let d : Transition = drop_unawaited t k in
    let i : IsRest k d.entries d.state = rest k t sound in
    let s : Served = receive_now t d.state in
    let g : GoWherePhonesLead t request.Receive d.state s =
    joined d.state i.fine t request.Receive s (join.last_join t d.state) in
    record {
      queued = λ n c u is at. elim (g.queued n c u is at) [ inl h ↦ inl (i.left n c h) | inr h ↦ absurd h ];
      told = there_both k s.state.calls d.entries s.entries (i.told s.state.calls)
          (there_before d.state k s.state.calls i.leads s.entries g.told);
      waits = tt;
    }

pub serve_goes :
    (k : KernelState) (t : TaskNo) (asked : Request) → IsSound k → GoWherePhonesLead t asked k (serve k t asked)
serve_goes k t asked sound =
    let g : GoWherePhonesLead t asked k (serve_request k t asked) = elim (join.one_join t k asked) [
      | inl is ↦ subst (λ (a : Request). GoWherePhonesLead t a k (serve_request k t a)) (sym is) (received k t sound)
      | inr come ↦ joined k sound t asked (serve_request k t asked) come
    ] in
    record { queued = g.queued; told = g.told; waits = g.waits }
