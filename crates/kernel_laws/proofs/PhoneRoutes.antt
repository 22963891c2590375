-- After a request phones lead where they did, but for those that it connects and the one that it hangs up.
use Rattle.std.proofs.Common.{◌≡◌, ℕ, true, ◌⊎◌, inl, inr, List, Option, None, Some, refl, ap, sym, subst, ◌∙◌}
use Rattle.std.specs.Prelude.{⊤, IsSome}
use Rattle.std.proofs.lemmas.Bool.{cases_eq, false≢true}
use Rattle.ipc_ids.specs.declared.numbers.Label.{Label}
use Rattle.ipc_ids.specs.declared.numbers.TaskNo.{TaskNo}
use Rattle.ipc_ids.specs.declared.message.Reply.{Reply}
use Rattle.ipc_ids.specs.declared.message.PhoneState.{PhoneState}
use Rattle.ipc_ids.specs.declared.message.PhoneState.TheVariants.{Free, Connecting, Connected, HungUp, Slammed}
use Rattle.ipc_ids.specs.declared.message.Request.{Request}
use Rattle.ipc_ids.specs.declared.message.Request.TheVariants as request
use Rattle.ipc_ids.specs.declared.methods.MethodKind.{MethodKind}
use Rattle.ipc_ids.specs.declared.methods.MethodKind.TheVariants.{ConnectToMe, ConnectMeTo}
use Rattle.ipc_ids.specs.Methods.{kind_of}
use Rattle.ipc_ids.proofs.Common.{is_some, same_end}
use Rattle.call_slab.specs.declared.call.Call.{Call}
use Rattle.call_slab.specs.declared.call.Place.TheVariants.{Dispatched}
use Rattle.answerbox.specs.Calls.{call_at, active_calls}
use Rattle.phone_table.specs.Phones.{state_at, is_usable}
use Rattle.switchboard.specs.State.{KernelState, Transition, phone_at, label_of, with_state_at}
use Rattle.switchboard.specs.Counts.{label_at}
use Rattle.switchboard.specs.Sound.{IsSound}
use Rattle.switchboard.specs.Kept.{WaitsIn, accepts, kept_phone, lent_phone, kept_rows, first_usable_of}
use Rattle.switchboard.specs.Serving.{Served}
use Rattle.switchboard.specs.Joins.{answer_to, hang_up}
use Rattle.switchboard.proofs.Keepers.{same_phone, state_elsewhere, state_here}
use Rattle.switchboard.proofs.Rows.{state_changed_at}
use Rattle.switchboard.proofs.Usable.{IsUsable, usable_is, kept_waits, lent_waits}
use Rattle.cleanup.proofs.Queues.{sound_drop}
use Rattle.kernel_core.specs.Moments.{on_accept_of}
use Rattle.kernel_core.specs.Receiving.{drop_unawaited}
use Rattle.kernel_core.specs.Request.{serve_request}
use Rattle.kernel_core.specs.Kernel.{serve}
use Rattle.kernel_core.proofs.InEvent.{same_task, same_place-true}
use Rattle.kernel_core.proofs.KindsOfCalls.{same_code, kept_to_me, kept_me_to, maker}
use Rattle.kernel_core.proofs.ByRequest as join
use Rattle.kernel_core.proofs.ByRequest.{own}
use Rattle.kernel_laws.specs.Routes.{Leads, IsConnected, LeadWhereConnected}
use Rattle.kernel_laws.proofs.Methods.{method_of}
use Rattle.kernel_laws.proofs.KillRoutes.{IsNowhere, free_nowhere}

-- rows of phones after one of them was written

-- the phone, where there is one, leads nowhere
abbrev pub LeadsNowhere : List (List PhoneState) → Option Label → Type 0
LeadsNowhere rows None = ⊤
LeadsNowhere rows (Some l) = (u : TaskNo) → state_at rows l.task.0 l.phone.0 ≡ Some (Connected u) → ⊥

pub waits_nowhere : (rows : List (List PhoneState)) (kept : Option Label) → WaitsIn rows kept → LeadsNowhere rows kept
waits_nowhere rows None w = tt
waits_nowhere rows (Some l) w = λ u e. let same : Some Connecting ≡ Some (Connected u) = sym w ∙ e in cc

not_usable : (x : PhoneState) (n : ℕ) (u : TaskNo) → is_usable x n ≡ true → Some x ≡ Some (Connected u) → ⊥
not_usable x n u is e =
    let same : x ≡ Connected u = cc in false≢true (sym (ap (λ (y : PhoneState). is_usable y n) same) ∙ is)

pub usable_nowhere : (k : KernelState) (t : TaskNo) (o : Option Label) → first_usable_of k t ≡ o
    → LeadsNowhere k.tasks.phones o
usable_nowhere k t None is = tt
usable_nowhere k t (Some l) is =
    λ u e. let it : IsUsable k t l = usable_is k t l is in not_usable it.state (active_calls k.calls l) u it.usable
    (sym it.is ∙ e)

kept_went : (rows : List (List PhoneState)) (kept : Option Label) (s : PhoneState) → LeadsNowhere rows kept
    → (v p : ℕ) (u : TaskNo) → state_at rows v p ≡ Some (Connected u)
    → state_at (kept_rows rows kept s) v p ≡ Some (Connected u)
kept_went rows None s nowhere v p u is = is
kept_went rows (Some l) s nowhere v p u is =
    state_elsewhere rows l.task.0 l.phone.0 v p s (Connected u) is (λ e. nowhere u (rw (← e.0, ← e.1) is))

pub kept_came : (rows : List (List PhoneState)) (kept : Option Label) (s : PhoneState) (v p : ℕ) (x : PhoneState)
    → state_at (kept_rows rows kept s) v p ≡ Some x
    → (state_at rows v p ≡ Some x) ⊎ ((kept ≡ Some (label_at v p)) × (s ≡ x))
kept_came rows None s v p x is = inl is
kept_came rows (Some l) s v p x is = elim (state_changed_at rows l.task.0 l.phone.0 v p s x is) [
  | inl e ↦ inr (ap Some (same_phone l (label_at v p) (sym e.0) (sym e.1)), e.2)
  | inr e ↦ inl e.1
]

waiting_nowhere : IsNowhere Connecting
waiting_nowhere u e = cc

module _ (k : KernelState) where
  -- these phones lead where those of k do
  record IsAlike (rows : List (List PhoneState)) : Type 0 where
    pub came : (v : TaskNo) (p : ℕ) (u : TaskNo) → state_at rows v.0 p ≡ Some (Connected u) → Leads k v p u
    pub went : (v : TaskNo) (p : ℕ) (u : TaskNo) → Leads k v p u → state_at rows v.0 p ≡ Some (Connected u)

  alike : IsAlike k.tasks.phones
  alike = record { came = λ v p u leads. leads; went = λ v p u leads. leads }

  -- a phone that led nowhere leads nowhere
  wrote :
      (rows : List (List PhoneState)) (kept : Option Label) (s : PhoneState) → LeadsNowhere rows kept
      → IsNowhere s → IsAlike rows → IsAlike (kept_rows rows kept s)
  wrote rows kept s led nowhere h = record {
    came = λ v p u leads. elim (kept_came rows kept s v.0 p (Connected u) leads) [
      | inl e ↦ h.came v p u e
      | inr e ↦ absurd (nowhere u e.1)
    ];
    went = λ v p u leads. kept_went rows kept s led v.0 p u (h.went v p u leads);
  }

  -- nor does the phone that a live call keeps, once it is free
  freed :
      (j : KernelState) (n : ℕ) (c : Call) → IsSound j → call_at j.calls n ≡ Some c → IsAlike j.tasks.phones
      → IsAlike (kept_rows j.tasks.phones (kept_phone c) Free)
  freed j n c sound is =
      wrote j.tasks.phones (kept_phone c) Free (waits_nowhere j.tasks.phones (kept_phone c)
      (kept_waits j.tasks.phones j.calls c.number.0 c sound.kept (own j n c sound is))) free_nowhere

module _ (k : KernelState) (sound : IsSound k) (t : TaskNo) where
  by_alike : (asked : Request) (j : KernelState) → IsAlike k j.tasks.phones → LeadWhereConnected t asked k j
  by_alike asked j h =
      record { came = λ v p u leads. inl (h.came v p u leads); went = λ v p u leads. inl (h.went v p u leads) }

  -- a live call

  module _ (n : ℕ) (c : Call) (is : call_at k.calls n ≡ Some c) where
    gone : IsAlike k (kept_rows k.tasks.phones (kept_phone c) Free)
    gone = freed k k n c sound is (alike k)

    returned : IsAlike k (kept_rows k.tasks.phones (lent_phone c) Free)
    returned =
        wrote k k.tasks.phones (lent_phone c) Free (waits_nowhere k.tasks.phones (lent_phone c)
        (lent_waits k.tasks.phones k.calls c.number.0 c sound.kept (own k n c sound is))) free_nowhere (alike k)

    -- t holds it, and accepts it
    connected :
        (reply : Reply) (w : TaskNo) (j : KernelState)
        → j.tasks.phones ≡ kept_rows k.tasks.phones (kept_phone c) (Connected w)
        → ((v : TaskNo) (p : ℕ) → kept_phone c ≡ Some (label_of v p) → IsConnected t n reply k v p w)
        → LeadWhereConnected t (request.Answer n reply) k j
    connected reply w j same two = record {
      came = λ v p u leads.
          let led = sym (ap (λ rows. state_at rows v.0 p) same) ∙ leads in
          elim (kept_came k.tasks.phones (kept_phone c) (Connected w) v.0 p (Connected u) led) [
            | inl e ↦ inl e
            | inr e ↦ inr (subst (λ (x : TaskNo). IsConnected t n reply k v p x) (same_end w u e.1) (two v p e.0))
          ];
      went =
          λ v p u leads. inl
          (ap (λ rows. state_at rows v.0 p) same ∙ kept_went k.tasks.phones (kept_phone c) (Connected w)
          (waits_nowhere k.tasks.phones (kept_phone c)
          (kept_waits k.tasks.phones k.calls c.number.0 c sound.kept (own k n c sound is))) v.0 p u leads);
    }

    accepted_as :
        (reply : Reply) (u : TaskNo) (kind : MethodKind) → c.place ≡ Dispatched t → c.caller ≡ Some u
        → accepts reply.code ≡ true → kind_of c.request.method ≡ kind
        → LeadWhereConnected t (request.Answer n reply) k
        (answer_to (on_accept_of kind k c reply t u) (Some t) u).state
    accepted_as reply u ConnectToMe held made accepting kind = connected reply u _ refl (λ v p kept.
        let both = kept_to_me t c (label_of v p) kind held kept in
        record {
          call = c;
          live = is;
          held = held;
          accepted = same_code reply.code accepting;
          kept = both.0;
          two = inr (method_of ConnectToMe c.request.method kind, same_task v t both.1, made);
        })
    accepted_as reply u ConnectMeTo held made accepting kind = connected reply t _ refl (λ v p kept.
        let both = kept_me_to t c (label_of v p) kind held kept in
        let of : u ≡ c.from.task = maker k.tasks c.from u c.caller made (sound.calls.each n c is).caller in
        record {
          call = c;
          live = is;
          held = held;
          accepted = same_code reply.code accepting;
          kept = both.0;
          two =
              inl
              (method_of ConnectMeTo c.request.method kind, made ∙ ap Some (of ∙ sym (same_task v c.from.task both.1)), refl);
        })
    accepted_as reply u _ held made accepting kind = by_alike (request.Answer n reply) _ (alike k)

  -- a hangup

  hung : (p : ℕ) (j : KernelState) → j.tasks.phones ≡ with_state_at k.tasks.phones t.0 p HungUp
      → IsSome (phone_at k t p) → LeadWhereConnected t (request.Hangup p) k j
  hung p j is there = record {
    came = λ v q u leads.
        let led = sym (ap (λ rows. state_at rows v.0 q) is) ∙ leads in
        elim (state_changed_at k.tasks.phones t.0 p v.0 q HungUp (Connected u) led) [
          | inl e ↦ absurd (let never = e.2 in cc)
          | inr e ↦ inl e.1
        ];
    went = λ v q u leads. by_phone v q u leads (cases_eq v.0 t.0) (cases_eq q p);
  } where
    now : (v : ℕ) (q : ℕ) (o : Option PhoneState) → state_at (with_state_at k.tasks.phones t.0 p HungUp) v q ≡ o
        → state_at j.tasks.phones v q ≡ o
    now v q o e = ap (λ rows. state_at rows v q) is ∙ e

    by_phone : (v : TaskNo) (q : ℕ) (u : TaskNo) → Leads k v q u → (v.0 ≡ t.0) ⊎ (v.0 ≡ t.0 → ⊥) → (q ≡ p) ⊎ (q ≡ p → ⊥)
        → Leads j v q u ⊎ ((request.Hangup p ≡ request.Hangup q) × (v.0 ≡ t.0) × (phone_at j v q ≡ Some HungUp))
    by_phone v q u leads (inr ne) b =
        inl (now v.0 q (Some (Connected u))
        (state_elsewhere k.tasks.phones t.0 p v.0 q HungUp (Connected u) leads (λ e. ne e.0)))
    by_phone v q u leads (inl a) (inr ne) =
        inl (now v.0 q (Some (Connected u))
        (state_elsewhere k.tasks.phones t.0 p v.0 q HungUp (Connected u) leads (λ e. ne e.1)))
    by_phone v q u leads (inl a) (inl b) =
        let hung = state_here k.tasks.phones t.0 p HungUp there in
        inr (ap request.Hangup (sym b), a, now v.0 q (Some HungUp) (rw (a, b) hung))

  -- each join
  joined : (asked : Request) (s : Served) → join.Joins t asked k s → LeadWhereConnected t asked k s.state
  joined asked s (join.sent_keeping p msg u l _ _ _ first) =
      let nowhere = usable_nowhere k t (Some l) first in
      by_alike asked _ (wrote k k.tasks.phones (Some l) Connecting nowhere waiting_nowhere (alike k))
  joined asked s (join.taken n c ConnectToMe _ _ _) =
      let o : Option Label = first_usable_of k t in
      by_alike asked _ (wrote k k.tasks.phones o Connecting (usable_nowhere k t o refl) waiting_nowhere (alike k))
  joined asked s (join.delivered n c _ at _) = by_alike asked _ (gone n c at.live)
  joined asked s (join.vanished n c o _ at _ _) = by_alike asked _ (gone n c at.live)
  joined asked s (join.turned_down n c reply u _ at _ _ _) = by_alike asked _ (returned n c at.live)
  joined asked s (join.bounced n p mode change c u code _ at _ _) = by_alike asked _ (returned n c at.live)
  joined asked s (join.accepted n c reply u kind is at made _ accepting same) =
      let step : Transition = answer_to (on_accept_of kind k c reply t u) (Some t) u in
      subst (λ (a : Request). LeadWhereConnected t a k step.state) (sym is)
      (accepted_as n c at.live reply u kind (same_place-true c.place (Dispatched t) at.here) made accepting same)
  joined asked s (join.passed n p mode change c u _ at _ _) = by_alike asked _ (returned n c at.live)
  joined asked s (join.hung_up p u is led) =
      subst (λ (a : Request). LeadWhereConnected t a k (hang_up k t p (Some (Connected u))).state) (sym is)
      (hung p _ refl (is_some (phone_at k t p) (Connected u) led))
  joined asked s (join.hung_up_slammed p is led) =
      subst (λ (a : Request). LeadWhereConnected t a k (hang_up k t p (Some Slammed)).state) (sym is)
      (hung p _ refl (is_some (phone_at k t p) Slammed led))
  joined asked s _ = by_alike asked _ (alike k)

-- after the drops of a receive
record IsRest (k j : KernelState) : Type 0 where
  pub fine : IsSound j
  pub alike : IsAlike k j.tasks.phones

rest : (k : KernelState) (t : TaskNo) → IsSound k → IsRest k (drop_unawaited t k).state
rest k t sound =
    join.drops_tell (Unit {0}) (λ es p. p) (λ p. refl) (λ es fs p. refl) t (λ p j. IsRest k j)
    (λ p j n c h at _. record {
      fine = sound_drop j t c h.fine (own j n c h.fine at.live);
      alike = freed k j n c h.fine at.live h.alike;
    })
    tt k (record { fine = sound; alike = alike k })

received : (k : KernelState) (t : TaskNo) → IsSound k
    → LeadWhereConnected t request.Receive k (serve_request k t request.Receive).state
received k t sound =
    let j : KernelState = (drop_unawaited t k).state in
    let i : IsRest k j = rest k t sound in
    let g = joined j i.fine t request.Receive _ (join.last_join t j) in
    record {
      came = λ v p u leads. elim (g.came v p u leads) [ inl h ↦ inl (i.alike.came v p u h) | inr h ↦ absurd h ];
      went = λ v p u leads. elim (g.went v p u (i.alike.went v p u leads)) [ inl h ↦ inl h | inr h ↦ inr h ];
    }

pub serve_leads :
    (k : KernelState) (t : TaskNo) (asked : Request) → IsSound k → LeadWhereConnected t asked k (serve k t asked).state
serve_leads k t asked sound =
    let g : LeadWhereConnected t asked k (serve_request k t asked).state = elim (join.one_join t k asked) [
      | inl is ↦
          subst (λ (a : Request). LeadWhereConnected t a k (serve_request k t a).state) (sym is) (received k t sound)
      | inr come ↦ joined k sound t asked _ come
    ] in
    record { came = g.came; went = g.went }
