-- In a kill no phone comes to lead anywhere, and no call comes to a queue but those that tell of its phones.
use Rattle.std.proofs.Common.{◌≡◌, ℕ, ◌≤◌, ◌⊎◌, inl, inr, Option, None, Some, refl, ap, sym, subst, ◌∙◌, arith}
use Rattle.std.specs.Prelude.{true}
use Rattle.std.specs.Option.{option_map_or}
use Rattle.ipc_ids.specs.declared.numbers.Label.{Label}
use Rattle.ipc_ids.specs.declared.numbers.TaskNo.{TaskNo}
use Rattle.ipc_ids.specs.declared.message.PhoneState.{PhoneState}
use Rattle.ipc_ids.specs.declared.message.PhoneState.TheVariants.{Free, Connected, HungUp, Slammed}
use Rattle.ipc_ids.specs.Codes.{ehangup}
use Rattle.call_slab.specs.declared.call.Call.{Call}
use Rattle.call_slab.specs.declared.call.Place.{Place}
use Rattle.call_slab.specs.declared.call.Place.TheVariants.{Incoming, Answers}
use Rattle.answerbox.specs.Calls.{call_at, task_of, same_place, with_record, without_call}
use Rattle.phone_table.specs.Phones.{state_at}
use Rattle.switchboard.specs.State.{KernelState, Transition, phone_at, with_state_at, with_phone, mark_ended}
use Rattle.switchboard.specs.Sound.{IsSound}
use Rattle.switchboard.specs.Kept.{kept_phone, lent_phone, kept_rows, unless_freed}
use Rattle.switchboard.specs.Joins.{bare_reply, answer_to, declined, forget_call, hang_up, hangup_call}
use Rattle.cleanup.specs.Kill.{kill}
use Rattle.switchboard.proofs.Rows.{state_changed_at}
use Rattle.kernel_core.specs.Kernel.{kill_event}
use Rattle.kernel_core.proofs.InEvent.{same_place-true}
use Rattle.kernel_core.proofs.ByKill as end
use Rattle.kernel_laws.specs.Routes.{Leads, Stands, IsFarewell, OnlyFarewellsCome, NoneCameToLead}
use Rattle.kernel_laws.proofs.CallRoutes.{not_answers, same_queue}
use Rattle.kernel_laws.proofs.Tables.{came_by, put_by, gone_by, forgot_by, none_above}

-- a phone that is written to lead nowhere

abbrev pub IsNowhere : PhoneState → Type 0
IsNowhere s = (u : TaskNo) → s ≡ Connected u → ⊥

pub free_nowhere : IsNowhere Free
free_nowhere u e = cc

hung_up_nowhere : IsNowhere HungUp
hung_up_nowhere u e = cc

slammed_nowhere : IsNowhere Slammed
slammed_nowhere u e = cc

-- the task of two places that are one
pub one_task : (p q : Place) → same_place p q ≡ true → task_of p ≡ task_of q
one_task p q h = ap task_of (same_place-true p q h)

module _ (k : KernelState) (sound : IsSound k) (t : TaskNo) where
  -- a state within the kill
  record IsLeaving (j : KernelState) : Type 0 where
    pub phones : (v : TaskNo) (p : ℕ) (u : TaskNo) → Leads j v p u → Leads k v p u
    pub later : k.calls.next_number ≤ j.calls.next_number
    pub numbered : (n : ℕ) (c : Call) → call_at j.calls n ≡ Some c → c.number.0 ≡ n
    pub waiting : (n : ℕ) (c : Call) (u : TaskNo) → call_at j.calls n ≡ Some c → c.place ≡ Incoming u
        → Stands k.calls n (Incoming u) ⊎ IsFarewell t k u c

  first : IsLeaving (mark_ended k t)
  first = record {
    phones = λ v p u leads. leads;
    later = omega arith;
    numbered = λ n c is. (sound.calls.each n c is).number;
    waiting = λ n c u is at. inl (c, is, at);
  }

  -- phones

  phone_written : (j : KernelState) (a b : ℕ) (s : PhoneState) → IsNowhere s → IsLeaving j
      → (v : TaskNo) (p : ℕ) (u : TaskNo) → state_at (with_state_at j.tasks.phones a b s) v.0 p ≡ Some (Connected u)
      → Leads k v p u
  phone_written j a b s nowhere h v p u leads = elim (state_changed_at j.tasks.phones a b v.0 p s (Connected u) leads) [ inl e ↦ absurd (nowhere u e.2) | inr e ↦ h.phones v p u e.1 ]

  freed : (j : KernelState) (kept : Option Label) → IsLeaving j → (v : TaskNo) (p : ℕ) (u : TaskNo)
      → state_at (kept_rows j.tasks.phones kept Free) v.0 p ≡ Some (Connected u) → Leads k v p u
  freed j None h = h.phones
  freed j (Some l) h = phone_written j l.task.0 l.phone.0 Free free_nowhere h

  written : (j : KernelState) (u : TaskNo) (p : ℕ) (s : PhoneState) → IsNowhere s → IsLeaving j
      → IsLeaving (with_phone j u p s)
  written j u p s nowhere h = record {
    phones = phone_written j u.0 p s nowhere h;
    later = h.later;
    numbered = h.numbered;
    waiting = h.waiting;
  }

  hung_up :
      (j : KernelState) (p : ℕ) (u : TaskNo) → phone_at j t p ≡ Some (Connected u) → IsLeaving j
      → IsLeaving (hang_up j t p (Some (Connected u))).state
  hung_up j p u is h =
      let d : Call = hangup_call j t p u in
      let e : Call = record d { stamp = j.calls.next_stamp } in
      record {
        phones = phone_written j t.0 p HungUp hung_up_nowhere h;
        later = let l = h.later in omega (arith, l);
        numbered = λ n c there. elim (came_by j.calls d c n there) [ inl x ↦ ap (λ (y : Call). y.number.0) (sym x.1) ∙ x.0 | inr x ↦ h.numbered n c x ];
        waiting = λ n c v there at. elim (came_by j.calls d c n there) [
          | inl x ↦ inr (subst (IsFarewell t k v) x.1 (subst (λ (w : TaskNo). IsFarewell t k w e) (same_queue u v (ap (λ (y : Call). y.place) x.1 ∙ at)) (record {
            first = none_above k sound j.calls.next_number h.later;
            phone = p;
            leads = h.phones t p u is;
            from = refl;
            label = refl;
            method = refl;
          })))
          | inr x ↦ h.waiting n c v x at
        ];
      }

  -- calls

  over : (j : KernelState) (m : ℕ) (kept : Option Label) → IsLeaving j → IsLeaving (record { tasks = record { alive = j.tasks.alive; phones = kept_rows j.tasks.phones kept Free }; calls = without_call j.calls m; memory = j.memory; events = j.events })
  over j m kept h = record {
    phones = freed j kept h;
    later = h.later;
    numbered = λ n c there. h.numbered n c (gone_by j.calls m n c there);
    waiting = λ n c u there at. h.waiting n c u (gone_by j.calls m n c there) at;
  }

  bounced :
      (j : KernelState) (c : Call) (u : TaskNo) → IsLeaving j
      → IsLeaving (answer_to (declined j c (bare_reply ehangup)) None u).state
  bounced j c u h =
      let d : Call = record c { reply = bare_reply ehangup; reserved = unless_freed (lent_phone c) c.reserved } in
      record {
        phones = freed j (lent_phone c) h;
        later = h.later;
        numbered = λ n e there. elim (put_by j.calls d e (Answers u) n there) [ inl x ↦ ap (λ (y : Call). y.number.0) (sym x.1) ∙ x.0 | inr x ↦ h.numbered n e x ];
        waiting = λ n e v there at. elim (put_by j.calls d e (Answers u) n there) [ inl x ↦ absurd (not_answers u v (ap (λ (y : Call). y.place) x.1 ∙ at)) | inr x ↦ h.waiting n e v x at ];
      }

  forgotten : (j : KernelState) (c : Call) → IsLeaving j → IsLeaving (forget_call j c).state
  forgotten j c h = record {
    phones = h.phones;
    later = by_call (call_at j.calls c.number.0);
    numbered = λ n e there. elim (forgot_by j.calls c.number.0 n e there) [
      | inl x ↦ ap (λ (y : Call). y.number.0) (sym x.3) ∙ x.2
      | inr x ↦ h.numbered n e x
    ];
    waiting = λ n e u there at. elim (forgot_by j.calls c.number.0 n e there) [
      | inl x ↦ elim (h.waiting n x.0 u (had n x.0 x.1 x.2) (ap (λ (y : Call). y.place) x.3 ∙ at)) [
        | inl w ↦ inl w
        | inr w ↦ inr (subst (IsFarewell t k u) x.3 (record {
          first = w.first;
          phone = w.phone;
          leads = w.leads;
          from = w.from;
          label = w.label;
          method = w.method;
        }))
      ]
      | inr x ↦ h.waiting n e u x at
    ];
  } where
    had : (n : ℕ) (d : Call) → call_at j.calls c.number.0 ≡ Some d → d.number.0 ≡ n → call_at j.calls n ≡ Some d
    had n d is number = ap (call_at j.calls) (sym number ∙ h.numbered c.number.0 d is) ∙ is

    by_call : (o : Option Call) → k.calls.next_number ≤ (option_map_or (λ (d : Call). with_record j.calls (record d { caller = None })) o j.calls).next_number
    by_call None = h.later
    by_call (Some d) = h.later

  -- each part of the kill
  ended : (j : KernelState) (s : Transition) → IsLeaving j → end.Ends t j s → IsLeaving s.state
  ended j s h (end.hung_up p u is) = hung_up j p u is h
  ended j s h (end.hung_up_slammed p _) = written j t p HungUp hung_up_nowhere h
  ended j s h (end.slammed u v p _ _) = written j u p Slammed slammed_nowhere h
  ended j s h (end.vanished n c place _ _ _) = over j c.number.0 (kept_phone c) h
  ended j s h (end.bounced n c u place _ _ _ _) = bounced j c u h
  ended j s h (end.dropped n c _) = over j c.number.0 (kept_phone c) h
  ended j s h (end.forgotten c _) = forgotten j c h
  ended j s h (end.lost base _) =
      record { phones = h.phones; later = h.later; numbered = h.numbered; waiting = h.waiting }

  kill_left : IsLeaving (kill k t).state
  kill_left = end.states_by_kill t IsLeaving ended k first

pub kill_goes : (k : KernelState) (t : TaskNo) → IsSound k → OnlyFarewellsCome t k (kill_event k t).state
kill_goes k t sound = (kill_left k sound t).waiting

pub kill_leads : (k : KernelState) (t : TaskNo) → IsSound k → NoneCameToLead k (kill_event k t).state
kill_leads k t sound = (kill_left k sound t).phones
