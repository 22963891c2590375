-- A kill tells each task that a phone of its task led to, by one call.
use Rattle.std.proofs.Common.{◌≡◌, ℕ, ◌<◌, ◌≤◌, true, ◌⊎◌, inl, inr, Option, None, Some, refl, ap, sym, subst, ◌∙◌, arith}
use Rattle.std.specs.Option.{option_map_or}
use Rattle.std.proofs.lemmas.Bool.{cases_eq}
use Rattle.std.proofs.lemmas.Option.{same_Some}
use Rattle.ipc_ids.specs.declared.numbers.Label.{Label}
use Rattle.ipc_ids.specs.declared.numbers.TaskNo.{TaskNo}
use Rattle.ipc_ids.specs.declared.message.PhoneState.{PhoneState}
use Rattle.ipc_ids.specs.declared.message.PhoneState.TheVariants.{Free, Connected, HungUp, Slammed}
use Rattle.ipc_ids.specs.Codes.{ehangup}
use Rattle.call_slab.specs.declared.call.Call.{Call}
use Rattle.call_slab.specs.declared.call.Place.{Place}
use Rattle.call_slab.specs.declared.call.Place.TheVariants.{Incoming, Answers}
use Rattle.answerbox.specs.Calls.{CallTable, call_at, task_of, enqueue, put_at, with_record, without_call, without_caller, same_place}
use Rattle.phone_table.specs.Phones.{state_at}
use Rattle.switchboard.specs.State.{KernelState, Transition, is_alive, phone_at, label_of, with_phone, with_state_at, mark_ended}
use Rattle.switchboard.specs.Sound.{IsSound}
use Rattle.switchboard.specs.Kept.{kept_phone, lent_phone, kept_rows}
use Rattle.switchboard.specs.Joins.{bare_reply, forget_call, hang_up, hangup_call, declined_call}
use Rattle.switchboard.specs.Areas.{lose_area}
use Rattle.cleanup.specs.Kill.{kill}
use Rattle.switchboard.proofs.Lookups.{put_here, put_other, gone_other}
use Rattle.switchboard.proofs.Rows.{state_changed_at}
use Rattle.kernel_laws.specs.KillLaws.{TellsOfHangup, HasCome, TellsWhereItLed}
use Rattle.kernel_laws.specs.Routes.{Leads}
use Rattle.kernel_laws.proofs.CallRoutes.{not_answers}
use Rattle.kernel_laws.proofs.KillLaws.{kill_closes_phones}
use Rattle.kernel_laws.proofs.KillRoutes.{one_task}
use Rattle.kernel_laws.proofs.Tables.{came_by, put_by, gone_by, forgot_by, none_above}
use Rattle.kernel_core.proofs.ByKill as end

at_one : (p : Place) (t u : TaskNo) → p ≡ Incoming u → task_of p ≡ t.0 → u.0 ≡ t.0
at_one p t u at e = ap task_of (sym at) ∙ e

one_label : (t : TaskNo) (p q : ℕ) → label_of t p ≡ label_of t q → p ≡ q
one_label t p q e = ap (λ (l : Label). l.phone.0) e

same_led : (t u v : TaskNo) (k : KernelState) (p : ℕ) → Leads k t p u → Leads k t p v → u ≡ v
same_led t u v k p a b = cc (a, b)

module _ (k : KernelState) (sound : IsSound k) (t : TaskNo) where
  -- call n tells of phone p
  abbrev IsToldIn : KernelState → ℕ → TaskNo → Type 0
  IsToldIn j p u = (n : ℕ) × (c : Call) × HasCome k j n c × TellsOfHangup t p u c

  -- a state within the kill
  record IsTelling (j : KernelState) : Type 0 where
    pub numbered : (n : ℕ) (c : Call) → call_at j.calls n ≡ Some c → c.number.0 ≡ n
    pub below : (n : ℕ) (c : Call) → call_at j.calls n ≡ Some c → n < j.calls.next_number
    pub later : k.calls.next_number ≤ j.calls.next_number
    pub leads : (p : ℕ) (u : TaskNo) → Leads j t p u → Leads k t p u
    -- a phone that led to another task is not slammed, and where it is hung up, that task is told
    pub told : (p : ℕ) (u : TaskNo) → Leads k t p u → (u.0 ≡ t.0 → ⊥) → (phone_at j t p ≡ Some Slammed → ⊥) × (phone_at j t p ≡ Some HungUp → IsToldIn j p u)
    -- a call that came to wait tells of a phone that leads nowhere now, and no other tells of it
    pub own : (n : ℕ) (c : Call) (u : TaskNo) → HasCome k j n c → c.place ≡ Incoming u → (p : ℕ) × (c.label ≡ label_of t p) × ((v : TaskNo) → Leads j t p v → ⊥)
    pub once : (m n : ℕ) (c d : Call) (u v : TaskNo) → HasCome k j m c → HasCome k j n d → c.place ≡ Incoming u → d.place ≡ Incoming v → c.label ≡ d.label → m ≡ n

  none_new : (n : ℕ) (c : Call) → HasCome k (mark_ended k t) n c → ⊥
  none_new n c h = cc (h.0, h.1)

  first : IsTelling (mark_ended k t)
  first = record {
    numbered = λ n c is. (sound.calls.each n c is).number;
    below = λ n c is. (sound.calls.each n c is).below;
    later = omega arith;
    leads = λ p u l. l;
    told = λ p u l ne. (λ s. absurd (cc (l, s)), λ s. absurd (cc (l, s)));
    own = λ n c u h at. absurd (none_new n c h);
    once = λ m n c d u v h g a b e. absurd (none_new m c h);
  }

  -- ---- steps that bring no call

  -- what a step makes of calls that wait and of the phones of t
  record Changes (j i : KernelState) : Type 0 where
    pub numbered : (n : ℕ) (c : Call) → call_at i.calls n ≡ Some c → c.number.0 ≡ n
    pub live : (n : ℕ) (c : Call) → call_at i.calls n ≡ Some c → (d : Call) × (call_at j.calls n ≡ Some d)
    pub next : i.calls.next_number ≡ j.calls.next_number
    pub came : (n : ℕ) (c : Call) (u : TaskNo) → call_at i.calls n ≡ Some c → c.place ≡ Incoming u → (d : Call) × (call_at j.calls n ≡ Some d) × (d.place ≡ Incoming u) × (d.label ≡ c.label)
    pub stays : (n : ℕ) (d : Call) (u : TaskNo) → call_at j.calls n ≡ Some d → d.place ≡ Incoming u → (u.0 ≡ t.0 → ⊥) → (c : Call) × (call_at i.calls n ≡ Some c) × (c.place ≡ Incoming u) × (c.label ≡ d.label) × (c.request ≡ d.request)
    pub phones : (p : ℕ) (s : PhoneState) → phone_at i t p ≡ Some s → (phone_at j t p ≡ Some s) ⊎ ((s ≡ Free) ⊎ ((s ≡ Slammed) × (v : TaskNo) × Leads j t p v × (v.0 ≡ t.0)))

  changed : (j i : KernelState) → IsTelling j → Changes j i → IsTelling i
  changed j i h x = record {
    numbered = x.numbered;
    below = λ n c is. let d = x.live n c is in let b = h.below n d.0 d.1 in let e = x.next in omega (arith, b, e);
    later = let l = h.later in let e = x.next in omega (arith, l, e);
    leads = λ p u l. h.leads p u (led p u l);
    told = λ p u l ne. (λ s. not_slammed p u l ne (x.phones p Slammed s), λ s. hung p u l ne (x.phones p HungUp s));
    own = λ n c u new at.
        let d = x.came n c u new.1 at in
        let o = h.own n d.0 u (new.0, d.1) d.2 in
        (o.0, sym d.3 ∙ o.1, λ v l. o.2 v (led o.0 v l));
    once = λ m n c d u v new also at there e.
        let a = x.came m c u new.1 at in
        let b = x.came n d v also.1 there in
        h.once m n a.0 b.0 u v (new.0, a.1) (also.0, b.1) a.2 b.2 (a.3 ∙ e ∙ sym b.3);
  } where
    led : (p : ℕ) (u : TaskNo) → Leads i t p u → Leads j t p u
    led p u l = elim (x.phones p (Connected u) l) [
      | inl old ↦ old
      | inr other ↦ absurd (elim other [ inl e ↦ cc e | inr e ↦ (let f = e.0 in cc f) ])
    ]

    not_slammed : (p : ℕ) (u : TaskNo) → Leads k t p u → (u.0 ≡ t.0 → ⊥) → (phone_at j t p ≡ Some Slammed) ⊎ ((Slammed ≡ Free) ⊎ ((Slammed ≡ Slammed) × (v : TaskNo) × Leads j t p v × (v.0 ≡ t.0))) → ⊥
    not_slammed p u l ne (inl old) = (h.told p u l ne).0 old
    not_slammed p u l ne (inr (inl e)) = cc e
    not_slammed p u l ne (inr (inr e)) = ne (ap (λ (w : TaskNo). w.0) (same_led t u e.1 k p l (h.leads p e.1 e.2)) ∙ e.3)

    hung : (p : ℕ) (u : TaskNo) → Leads k t p u → (u.0 ≡ t.0 → ⊥) → (phone_at j t p ≡ Some HungUp) ⊎ ((HungUp ≡ Free) ⊎ ((HungUp ≡ Slammed) × (v : TaskNo) × Leads j t p v × (v.0 ≡ t.0))) → IsToldIn i p u
    hung p u l ne (inl old) =
        let r = (h.told p u l ne).1 old in
        let y = x.stays r.0 r.1 u r.2.1 r.3.place ne in
        (r.0, y.0, (r.2.0, y.1), record { place = y.2; asks = ap (λ m. m.method) y.4 ∙ r.3.asks; label = y.3 ∙ r.3.label })
    hung p u l ne (inr (inl e)) = absurd (cc e)
    hung p u l ne (inr (inr e)) = absurd (let f = e.0 in cc f)

  -- only phones change
  only_phones : (j i : KernelState) → i.calls ≡ j.calls → IsTelling j → ((p : ℕ) (s : PhoneState) → phone_at i t p ≡ Some s → (phone_at j t p ≡ Some s) ⊎ ((s ≡ Free) ⊎ ((s ≡ Slammed) × (v : TaskNo) × Leads j t p v × (v.0 ≡ t.0)))) → IsTelling i
  only_phones j i same h phones = changed j i h (record {
    numbered = λ n c is. h.numbered n c (back n c is);
    live = λ n c is. (c, back n c is);
    next = ap (λ (q : CallTable). q.next_number) same;
    came = λ n c u is at. (c, back n c is, at, refl);
    stays = λ n d u is at ne. (d, ap (λ (q : CallTable). call_at q n) same ∙ is, at, refl, refl);
    phones = phones;
  }) where
    back : (n : ℕ) (c : Call) → call_at i.calls n ≡ Some c → call_at j.calls n ≡ Some c
    back n c is = ap (λ (q : CallTable). call_at q n) (sym same) ∙ is

  -- a phone that leads to t is slammed
  slammed : (u v : TaskNo) (j : KernelState) (p : ℕ) → phone_at j u p ≡ Some (Connected v) → v.0 ≡ t.0 → IsTelling j
      → IsTelling (with_phone j u p Slammed)
  slammed u v j p is own h =
      only_phones j (with_phone j u p Slammed) refl h
      (λ q s at. elim (state_changed_at j.tasks.phones u.0 p t.0 q Slammed s at) [
        | inl e ↦
            let led = ap (λ i. state_at j.tasks.phones i q) e.0 ∙ ap (state_at j.tasks.phones u.0) e.1 ∙ is in
            inr (inr (sym e.2, v, led, own))
        | inr e ↦ inl e.1
      ])

  freed : (j : KernelState) (kept : Option Label) (p : ℕ) (s : PhoneState) → state_at (kept_rows j.tasks.phones kept Free) t.0 p ≡ Some s → (phone_at j t p ≡ Some s) ⊎ ((s ≡ Free) ⊎ ((s ≡ Slammed) × (v : TaskNo) × Leads j t p v × (v.0 ≡ t.0)))
  freed j None p s at = inl at
  freed j (Some l) p s at = elim (state_changed_at j.tasks.phones l.task.0 l.phone.0 t.0 p Free s at) [ inl e ↦ inr (inl (sym e.2)) | inr e ↦ inl e.1 ]

  -- a call at t is over
  over : (j : KernelState) (m : ℕ) (c : Call) (kept : Option Label) → call_at j.calls m ≡ Some c → task_of c.place ≡ t.0 → IsTelling j → IsTelling (record { tasks = record { alive = j.tasks.alive; phones = kept_rows j.tasks.phones kept Free }; calls = without_call j.calls c.number.0; memory = j.memory; events = j.events })
  over j m c kept is here h = changed j _ h (record {
    numbered = λ n d there. h.numbered n d (gone_by j.calls c.number.0 n d there);
    live = λ n d there. (d, gone_by j.calls c.number.0 n d there);
    next = refl;
    came = λ n d u there at. (d, gone_by j.calls c.number.0 n d there, at, refl);
    stays = λ n d u there at ne. (d, gone_other j.calls c.number.0 n (λ e. ne (other n d u there at e)) ∙ there, at, refl, refl);
    phones = freed j kept;
  }) where
    other : (n : ℕ) (d : Call) (u : TaskNo) → call_at j.calls n ≡ Some d → d.place ≡ Incoming u → c.number.0 ≡ n → u.0 ≡ t.0
    other n d u there at e =
        let one : c ≡ d = same_Some c d (sym is ∙ ap (call_at j.calls) (sym (h.numbered m c is) ∙ e) ∙ there) in
        at_one c.place t u (ap (λ (x : Call). x.place) one ∙ at) here

  -- a call at t goes to the answers of its caller
  answered : (j : KernelState) (m : ℕ) (c d : Call) (w : TaskNo) (kept : Option Label) → call_at j.calls m ≡ Some c → task_of c.place ≡ t.0 → d.number ≡ c.number → IsTelling j
      → IsTelling (record { tasks = record { alive = j.tasks.alive; phones = kept_rows j.tasks.phones kept Free }; calls = put_at j.calls d (Answers w); memory = j.memory; events = j.events })
  answered j m c d w kept is here named h = changed j _ h (record {
    numbered = λ n e there. elim (put_by j.calls d e (Answers w) n there) [ inl x ↦ ap (λ (y : Call). y.number.0) (sym x.1) ∙ x.0 | inr x ↦ h.numbered n e x ];
    live = λ n e there. elim (put_by j.calls d e (Answers w) n there) [ inl x ↦ (c, ap (call_at j.calls) (sym x.0 ∙ number) ∙ is) | inr x ↦ (e, x) ];
    next = refl;
    came = λ n e u there at. elim (put_by j.calls d e (Answers w) n there) [ inl x ↦ absurd (not_answers w u (ap (λ (y : Call). y.place) x.1 ∙ at)) | inr x ↦ (e, x, at, refl) ];
    stays = λ n e u there at ne. (e, put_other j.calls d.number.0 n _ (λ f. ne (other n e u there at f)) ∙ there, at, refl, refl);
    phones = freed j kept;
  }) where
    number : d.number.0 ≡ m
    number = ap (λ x. x.0) named ∙ h.numbered m c is

    other : (n : ℕ) (e : Call) (u : TaskNo) → call_at j.calls n ≡ Some e → e.place ≡ Incoming u → d.number.0 ≡ n → u.0 ≡ t.0
    other n e u there at f =
        let one : c ≡ e = same_Some c e (sym is ∙ ap (call_at j.calls) (sym number ∙ f) ∙ there) in
        at_one c.place t u (ap (λ (x : Call). x.place) one ∙ at) here

  -- a call loses its caller
  forgotten : (j : KernelState) (c : Call) → IsTelling j → IsTelling (forget_call j c).state
  forgotten j c h = changed j (forget_call j c).state h (record {
    numbered = λ n e there. elim (back n e there) [
      | inl x ↦ ap (λ (y : Call). y.number.0) (sym x.2) ∙ h.numbered n x.0 x.1
      | inr x ↦ h.numbered n e x
    ];
    live = λ n e there. elim (back n e there) [ inl x ↦ (x.0, x.1) | inr x ↦ (e, x) ];
    next = next_by (call_at j.calls c.number.0);
    came = λ n e u there at. elim (back n e there) [ inl x ↦ (x.0, x.1, ap (λ (y : Call). y.place) x.2 ∙ at, ap (λ (y : Call). y.label) x.2) | inr x ↦ (e, x, at, refl) ];
    stays = λ n d u there at ne. kept n d u there at (call_at j.calls c.number.0) refl;
    phones = λ p s at. inl at;
  }) where
    back : (n : ℕ) (e : Call) → call_at (without_caller j.calls c.number.0) n ≡ Some e → ((d : Call) × (call_at j.calls n ≡ Some d) × (record d { caller = None } ≡ e)) ⊎ (call_at j.calls n ≡ Some e)
    back n e there = elim (forgot_by j.calls c.number.0 n e there) [
      | inl x ↦ inl (x.0, ap (call_at j.calls) (sym x.2 ∙ h.numbered c.number.0 x.0 x.1) ∙ x.1, x.3)
      | inr x ↦ inr x
    ]

    next_by : (o : Option Call) → (option_map_or (λ (d : Call). with_record j.calls (record d { caller = None })) o j.calls).next_number ≡ j.calls.next_number
    next_by None = refl
    next_by (Some d) = refl

    kept : (n : ℕ) (d : Call) (u : TaskNo) → call_at j.calls n ≡ Some d → d.place ≡ Incoming u → (o : Option Call) → call_at j.calls c.number.0 ≡ o → (e : Call) × (call_at (option_map_or (λ (x : Call). with_record j.calls (record x { caller = None })) o j.calls) n ≡ Some e) × (e.place ≡ Incoming u) × (e.label ≡ d.label) × (e.request ≡ d.request)
    kept n d u there at None is = (d, there, at, refl, refl)
    kept n d u there at (Some x) is = elim (cases_eq x.number.0 n) [
      | inl e ↦ (let one : x ≡ d = same_Some x d (sym is ∙ ap (call_at j.calls) (sym (h.numbered c.number.0 x is) ∙ e) ∙ there) in
          (record x { caller = None }, put_here j.calls x.number.0 n _ e, ap (λ (y : Call). y.place) one ∙ at, ap (λ (y : Call). y.label) one, ap (λ (y : Call). y.request) one))
      | inr ne ↦ (d, put_other j.calls x.number.0 n _ ne ∙ there, at, refl, refl)
    ]

  -- ---- a phone of t is hung up

  -- the phones of t after phone p was hung up
  written : (j : KernelState) (p q : ℕ) (s : PhoneState) → state_at (with_state_at j.tasks.phones t.0 p HungUp) t.0 q ≡ Some s → ((q ≡ p) × (HungUp ≡ s)) ⊎ (phone_at j t q ≡ Some s)
  written j p q s at = elim (state_changed_at j.tasks.phones t.0 p t.0 q HungUp s at) [ inl e ↦ inl (e.1, e.2) | inr e ↦ inr e.1 ]

  led : (j : KernelState) (p q : ℕ) (u : TaskNo) → state_at (with_state_at j.tasks.phones t.0 p HungUp) t.0 q ≡ Some (Connected u) → Leads j t q u
  led j p q u l = elim (written j p q (Connected u) l) [ inl e ↦ absurd (let f = e.1 in cc f) | inr old ↦ old ]

  called : (j : KernelState) (p : ℕ) (u : TaskNo) → Leads j t p u → IsTelling j → IsTelling (hang_up j t p (Some (Connected u))).state
  called j p u is h = record {
    numbered = λ n c there. elim (came n c there) [ inl x ↦ ap (λ (y : Call). y.number.0) (sym x.1) ∙ x.0 | inr x ↦ h.numbered n c x ];
    below = λ n c there. elim (came n c there) [ inl x ↦ (let e = x.0 in omega (arith, e)) | inr x ↦ (let b = h.below n c x in omega (arith, b)) ];
    later = let l = h.later in omega (arith, l);
    leads = λ q v l. h.leads q v (led j p q v l);
    told = λ q v l ne. (
      λ s. elim (written j p q Slammed s) [ inl e ↦ (let f = e.1 in cc f) | inr old ↦ (h.told q v l ne).0 old ],
      λ s. elim (written j p q HungUp s) [ inl e ↦ now q v l e.0 | inr old ↦ still q v ((h.told q v l ne).1 old) ],
    );
    own = λ n c v new at. elim (came n c new.1) [
      | inl x ↦ (p, ap (λ (y : Call). y.label) (sym x.1), λ w l. no_more w l)
      | inr x ↦ (let o = h.own n c v (new.0, x) at in (o.0, o.1, λ w l. o.2 w (led j p o.0 w l)))
    ];
    once = λ m n c d v w new also at there e. elim (came m c new.1) [
      | inl x ↦ elim (came n d also.1) [
        | inl y ↦ sym x.0 ∙ y.0
        | inr y ↦ absurd (other n d w (also.0, y) there (ap (λ (z : Call). z.label) x.1 ∙ e))
      ]
      | inr x ↦ elim (came n d also.1) [
        | inl y ↦ absurd (other m c v (new.0, x) at (ap (λ (z : Call). z.label) y.1 ∙ sym e))
        | inr y ↦ h.once m n c d v w (new.0, x) (also.0, y) at there e
      ]
    ];
  } where
    d : Call
    d = hangup_call j t p u

    new_one : Call
    new_one = record d { stamp = j.calls.next_stamp }

    came : (n : ℕ) (c : Call) → call_at (enqueue j.calls d) n ≡ Some c → ((j.calls.next_number ≡ n) × (new_one ≡ c)) ⊎ (call_at j.calls n ≡ Some c)
    came n c there = came_by j.calls d c n there

    no_more : (w : TaskNo) → state_at (with_state_at j.tasks.phones t.0 p HungUp) t.0 p ≡ Some (Connected w) → ⊥
    no_more w l = elim (state_changed_at j.tasks.phones t.0 p t.0 p HungUp (Connected w) l) [ inl e ↦ (let f = e.2 in cc f) | inr e ↦ e.0 (refl, refl) ]

    -- no earlier call tells of this phone
    other : (n : ℕ) (c : Call) (v : TaskNo) → HasCome k j n c → c.place ≡ Incoming v → label_of t p ≡ c.label → ⊥
    other n c v new at e =
        let o = h.own n c v new at in
        o.2 u (subst (λ q. Leads j t q u) (one_label t p o.0 (e ∙ o.1)) is)

    now : (q : ℕ) (v : TaskNo) → Leads k t q v → q ≡ p → IsToldIn (hang_up j t p (Some (Connected u))).state q v
    now q v l e =
        let one : v ≡ u = same_led t v u k q l (subst (λ x. Leads k t x u) (sym e) (h.leads p u is)) in
        (j.calls.next_number, new_one, (none_above k sound j.calls.next_number h.later, put_here j.calls j.calls.next_number j.calls.next_number new_one refl), record { place = ap Incoming (sym one); asks = refl; label = ap (label_of t) (sym e) })

    still : (q : ℕ) (v : TaskNo) → IsToldIn j q v → IsToldIn (hang_up j t p (Some (Connected u))).state q v
    still q v r =
        let b = h.below r.0 r.1 r.2.1 in
        (r.0, r.1, (r.2.0, put_other j.calls j.calls.next_number r.0 new_one (λ e. omega (arith, b, e)) ∙ r.2.1), r.3)

  -- a phone that was slammed is hung up
  hung_up : (j : KernelState) (p : ℕ) → phone_at j t p ≡ Some Slammed → IsTelling j
      → IsTelling (hang_up j t p (Some Slammed)).state
  hung_up j p is h = record {
    numbered = h.numbered;
    below = h.below;
    later = h.later;
    leads = λ q u l. h.leads q u (led j p q u l);
    told = λ q u l ne. (
      λ s. elim (written j p q Slammed s) [ inl e ↦ (let f = e.1 in cc f) | inr old ↦ (h.told q u l ne).0 old ],
      λ s. elim (written j p q HungUp s) [
        | inl e ↦ absurd ((h.told q u l ne).0 (ap (phone_at j t) e.0 ∙ is))
        | inr old ↦ (h.told q u l ne).1 old
      ],
    );
    own = λ n c u new at. let o = h.own n c u new at in (o.0, o.1, λ v l. o.2 v (led j p o.0 v l));
    once = h.once;
  }

  -- a call that waits at t, or that t holds, stands at t
  at_task : (c : Call) (place : Place) → end.IsSettled t place → same_place c.place place ≡ true → task_of c.place ≡ t.0
  at_task c place settled here = one_task c.place place here ∙ elim settled [ inl e ↦ ap task_of e | inr e ↦ ap task_of e ]

  -- each part of the kill
  ended : (j : KernelState) (s : Transition) → IsTelling j → end.Ends t j s → IsTelling s.state
  ended j s h (end.hung_up p u is) = called j p u is h
  ended j s h (end.hung_up_slammed p is) = hung_up j p is h
  ended j s h (end.slammed u v p is own) = slammed u v j p is own h
  ended j s h (end.vanished n c place settled at _) =
      over j n c (kept_phone c) at.live (at_task c place settled at.here) h
  ended j s h (end.bounced n c u place settled at _ _) =
      answered j n c (declined_call c (bare_reply ehangup)) u (lent_phone c) at.live (at_task c place settled at.here) refl h
  ended j s h (end.dropped n c at) = over j n c (kept_phone c) at.live (one_task c.place (Answers t) at.here) h
  ended j s h (end.forgotten c _) = forgotten j c h
  ended j s h (end.lost base _) = only_phones j (lose_area t j base).state refl h (λ p s at. inl at)

  kill_told : IsTelling (kill k t).state
  kill_told = end.states_by_kill t IsTelling ended k first

pub kill_tells_where_it_led : (k : KernelState) (t : TaskNo) → IsSound k → is_alive k t ≡ true → TellsWhereItLed t k (kill k t).state
kill_tells_where_it_led k t sound alive = record {
  told = λ p u leads ne. ((kill_told k sound t).told p u leads ne).1 ((kill_closes_phones k t sound alive).own p (Connected u) leads tt);
  once = (kill_told k sound t).once;
}
