-- A forward is determined by what is said of it.
use Rattle.std.proofs.Common.{◌≡◌, ℕ, ◌⊎◌, inl, inr, ◌∷◌, Option, None, Some, refl, sym, ap, subst, ◌∙◌}
use Rattle.std.proofs.lemmas.Bool.{cases_eq, cases_lt}
use Rattle.std.proofs.lemmas.Option.{same_Some}
use Rattle.ipc_ids.specs.declared.numbers.Code.{Code}
use Rattle.ipc_ids.specs.declared.numbers.Label.{Label}
use Rattle.ipc_ids.specs.declared.numbers.TaskNo.{TaskNo}
use Rattle.ipc_ids.specs.declared.message.Mode.{Mode}
use Rattle.ipc_ids.specs.declared.message.Msg.{Msg}
use Rattle.ipc_ids.specs.declared.message.PhoneState.TheVariants.{Free, Connected}
use Rattle.ipc_ids.specs.declared.message.Outcome.TheVariants as outcome
use Rattle.ipc_ids.specs.declared.entry.Entry.TheVariants as entry
use Rattle.ipc_ids.specs.Codes.{enoent, eperm, eforward}
use Rattle.ipc_ids.specs.Methods.{connect_to_me, connect_me_to, first_user_method}
use Rattle.call_slab.specs.declared.call.Call.{Call}
use Rattle.switchboard.specs.State.{KernelState, phone_at, label_of}
use Rattle.switchboard.specs.Serving.{Served}
use Rattle.kernel_laws.specs.CallCodes.{own_reply}
use Rattle.kernel_laws.specs.HeldCalls.{IsHeld, MayPass}
use Rattle.kernel_laws.specs.Routes.{Leads, label_by}
use Rattle.kernel_determined.specs.Frames.{IsOneEvent, MayCome}
use Rattle.kernel_determined.specs.ForwardLaw.{IsOther, IsNewMessage, passed_call, Passes, Fails, MayNotForward, ForwardsNowhere, Forwards, IsForward}
use Rattle.kernel_determined.proofs.Same.{state_same, served_same, msg_same}
use Rattle.kernel_determined.proofs.HangupDetermined.{phones_same, refusal_same, quiet_same}
use Rattle.kernel_determined.proofs.SettleDetermined.{moves_same, back_same, may_come_same, settled_same}
use Rattle.kernel_determined.proofs.ReceiveDetermined.{args_same}

pub parts_same : (k : KernelState) (a b : Served) → IsOneEvent k a.state → IsOneEvent k b.state
    → ((u : TaskNo) (q : ℕ) → phone_at a.state u q ≡ phone_at b.state u q) → a.state.calls ≡ b.state.calls
    → a.state.memory ≡ b.state.memory → a.outcome ≡ b.outcome → a.entries ≡ b.entries → a ≡ b
parts_same k a b x y phones calls memory outcomes entries =
    served_same a b (state_same a.state b.state (x.alive ∙ sym y.alive) (phones_same k a.state b.state x y phones)
    calls memory (x.counted ∙ sym y.counted)) outcomes entries

-- a message

message_same : (change : Option Msg) (c : Call) (m n : Msg) → IsNewMessage change c m → IsNewMessage change c n → m ≡ n
message_same None c m n x y = x.unchanged refl ∙ sym (y.unchanged refl)
message_same (Some new) c m n x y = elim (cases_lt c.request.method first_user_method) [
  | inr user ↦ x.user new refl user ∙ sym (y.user new refl user)
  | inl system ↦ elim (cases_eq c.request.method connect_to_me) [
    | inl e ↦ connected (inl e)
    | inr ne ↦ elim (cases_eq c.request.method connect_me_to) [
      | inl e ↦ connected (inr e)
      | inr other ↦ let is : IsOther c.request.method = record { to_me = ne; me_to = other; system = system } in
          x.others new refl is ∙ sym (y.others new refl is)
    ]
  ]
] where
  connected : (c.request.method ≡ connect_to_me) ⊎ (c.request.method ≡ connect_me_to) → m ≡ n
  connected h =
      let u = x.connect new refl h in
      let v = y.connect new refl h in
      msg_same m n (u.0 ∙ sym v.0) (args_same _ new.args m.args n.args u.1 v.1)

fails_same : (n : ℕ) (c : Call) (code : Code) (k : KernelState) (a b : Served) → Fails n c code k a → Fails n c code k b
    → a ≡ b
fails_same n c code k a b x y = quiet_same (outcome.Refused code) k a b x.quiet y.quiet
    (settled_same n c k a.state b.state a.entries b.entries (own_reply eforward) None x.settled y.settled)

module _ (t : TaskNo) (n p : ℕ) (mode : Mode) (change : Option Msg) (k : KernelState) (a b : Served) where
  passes_same : (c : Call) (u : TaskNo) → Passes t n p mode change c u k a → Passes t n p mode change c u k b → a ≡ b
  passes_same c u x y =
      let over : Label = label_by mode c.label (label_of t p) in
      let two = back_same c x.freed y.freed x.rest y.rest x.back y.back in
      let msg = message_same change c x.msg y.msg x.message y.message in
      let phones = may_come_same y.freed Free k a.state b.state x.note y.note
      (subst (λ o. MayCome o Free k a.state x.note) two.0 x.phones) y.phones in
      let rest : Option Label → Msg → Call = λ o m. passed_call k c m over o u in
      quiet_same outcome.Done k a b x.quiet y.quiet (record {
        phones = phones.0;
        calls = moves_same k.calls a.state.calls b.state.calls n _ _ x.calls y.calls
            (ap (λ o. rest o x.msg) two.1 ∙ ap (rest y.rest) msg);
        entries = x.entries ∙ ap (λ es. entry.Forwarded c.number t u over ∷ es) phones.1 ∙ sym y.entries;
      })

  one_held : (c d : Call) → IsHeld t k n c → IsHeld t k n d → c ≡ d
  one_held c d x y = same_Some c d (sym x.0 ∙ y.0)

  one_lead : (u v : TaskNo) → Leads k t p u → Leads k t p v → u ≡ v
  one_lead u v x y = let e : Some (Connected u) ≡ Some (Connected v) = sym x ∙ y in cc

  forbidden_same : MayNotForward t n change k a → MayNotForward t n change k b → a ≡ b
  forbidden_same x y = fails_same n y.call eperm k a b
      (subst (λ (c : Call). Fails n c eperm k a) (one_held x.call y.call x.held y.held) x.fails) y.fails

  nowhere_same : ForwardsNowhere t n p change k a → ForwardsNowhere t n p change k b → a ≡ b
  nowhere_same x y = fails_same n y.call enoent k a b (subst (λ (c : Call). Fails n c enoent k a)
      (one_held x.call y.call x.held y.held) x.fails) y.fails

  forwards_same : Forwards t n p mode change k a → Forwards t n p mode change k b → a ≡ b
  forwards_same x y =
      let one = one_held x.call y.call x.held y.held in
      let to = one_lead x.to y.to x.leads y.leads in
      passes_same y.call y.to (subst (λ (u : TaskNo). Passes t n p mode change y.call u k a) to
      (subst (λ (c : Call). Passes t n p mode change c x.to k a) one x.passes)) y.passes

  other_may : (c d : Call) → IsHeld t k n c → IsHeld t k n d → (MayPass change c → ⊥) → MayPass change d → ⊥
  other_may c d x y forbidden may = forbidden (subst (MayPass change) (one_held d c y x) may)

  pub forward_is_determined : IsForward t n p mode change k a → IsForward t n p mode change k b → a ≡ b
  forward_is_determined (inl x) (inl y) = refusal_same enoent k a b x.refusal y.refusal
  forward_is_determined (inl x) (inr (inl y)) = absurd (x.unheld y.call y.held)
  forward_is_determined (inl x) (inr (inr (inl y))) = absurd (x.unheld y.call y.held)
  forward_is_determined (inl x) (inr (inr (inr y))) = absurd (x.unheld y.call y.held)
  forward_is_determined (inr (inl x)) (inl y) = absurd (y.unheld x.call x.held)
  forward_is_determined (inr (inl x)) (inr (inl y)) = forbidden_same x y
  forward_is_determined (inr (inl x)) (inr (inr (inl y))) =
      absurd (other_may x.call y.call x.held y.held x.forbidden y.may)
  forward_is_determined (inr (inl x)) (inr (inr (inr y))) =
      absurd (other_may x.call y.call x.held y.held x.forbidden y.may)
  forward_is_determined (inr (inr (inl x))) (inl y) = absurd (y.unheld x.call x.held)
  forward_is_determined (inr (inr (inl x))) (inr (inl y)) =
      absurd (other_may y.call x.call y.held x.held y.forbidden x.may)
  forward_is_determined (inr (inr (inl x))) (inr (inr (inl y))) = nowhere_same x y
  forward_is_determined (inr (inr (inl x))) (inr (inr (inr y))) = absurd (x.nowhere y.to y.leads)
  forward_is_determined (inr (inr (inr x))) (inl y) = absurd (y.unheld x.call x.held)
  forward_is_determined (inr (inr (inr x))) (inr (inl y)) =
      absurd (other_may y.call x.call y.held x.held y.forbidden x.may)
  forward_is_determined (inr (inr (inr x))) (inr (inr (inl y))) = absurd (y.nowhere x.to x.leads)
  forward_is_determined (inr (inr (inr x))) (inr (inr (inr y))) = forwards_same x y
