-- A call is determined by what is said of it.
use Rattle.std.proofs.Common.{◌≡◌, ℕ, ◌+◌, ◌*◌, ◌<◌, ◌≤◌, inl, inr, false, List, ◌∷◌, Option, None, Some, refl, sym, ap, subst, ◌∙◌, arith, length}
use Rattle.std.specs.Prelude.{Ok}
use Rattle.ipc_ids.specs.declared.numbers.Code.{Code}
use Rattle.ipc_ids.specs.declared.numbers.CallNo.{CallNo}
use Rattle.ipc_ids.specs.declared.numbers.TaskNo.{TaskNo}
use Rattle.ipc_ids.specs.declared.message.Msg.{Msg}
use Rattle.ipc_ids.specs.declared.message.PhoneState.{PhoneState}
use Rattle.ipc_ids.specs.declared.message.PhoneState.TheVariants.{Connecting, Connected, HungUp, Slammed}
use Rattle.ipc_ids.specs.declared.entry.Entry.TheVariants as entry
use Rattle.ipc_ids.specs.Codes.{enoent, eperm, elimit, ehangup}
use Rattle.ipc_ids.specs.Methods.{connect_me_to, data_write, data_read}
use Rattle.call_slab.specs.declared.call.Call.{Call}
use Rattle.call_slab.specs.declared.call.Place.{Place}
use Rattle.call_slab.specs.declared.call.Place.TheVariants.{Incoming, Answers}
use Rattle.switchboard.specs.State.{KernelState, phone_at, label_of}
use Rattle.address_space.specs.Sound as spaces
use Rattle.switchboard.specs.Serving.{Served}
use Rattle.kernel_laws.specs.PoolLaws.{pool}
use Rattle.kernel_laws.specs.CallCodes.{IsNoWay, IsNoCall}
use Rattle.kernel_laws.specs.ActiveCalls.{AreTheActive}
use Rattle.kernel_laws.proofs.ActiveCalls.{active_count}
use Rattle.kernel_determined.specs.Frames.{IsMade, HasFifth, MayCome}
use Rattle.kernel_determined.specs.CallLaw.{IsAnsweredAtOnce, Content, KeepsPhone, BringsBytes, WantsBytes, IsAsMade, IsContent, IsSent, Goes, GoesOver, IsAccepted, IsCall}
use Rattle.kernel_determined.proofs.HangupDetermined.{stay_same, call_same, refusal_same, more_same}
use Rattle.kernel_determined.proofs.ReceiveDetermined.{args_same, one_least}
use Rattle.kernel_determined.proofs.SettleDetermined.{may_come_same}
use Rattle.kernel_determined.proofs.ForwardDetermined.{parts_same}
use Rattle.kernel_determined.proofs.ChecksDetermined.{copy_same, cut_same, check_same}
use Rattle.kernel_determined.proofs.Same.{msg_same}
use Rattle.kernel_laws.specs.UsablePhones.{IsUsable}

content_parts : (c d : Content) → c.request ≡ d.request → c.seen ≡ d.seen → c.bytes ≡ d.bytes → c.kept ≡ d.kept → c ≡ d
content_parts c d request seen bytes kept =
    λ i. record { request = request i; seen = seen i; bytes = bytes i; kept = kept i }

-- ---- what is sent

module _ (k : KernelState) (sound : spaces.IsSound k.memory) (t : TaskNo) (msg : Msg) (c d : Content) where
  keeps_same : KeepsPhone k t msg c → KeepsPhone k t msg d → c ≡ d
  keeps_same x y =
      let same = one_least (IsUsable k k.calls t) x.phone y.phone x.usable y.usable x.least y.least in
      let names = subst (λ p. HasFifth (64 * t.0 + p) msg.args c.seen.args) same x.names in
      content_parts c d (x.request ∙ sym y.request) (msg_same c.seen d.seen (x.method ∙ sym y.method)
      (args_same _ msg.args c.seen.args d.seen.args names y.names)) (x.bytes ∙ sym y.bytes)
      (x.kept ∙ ap (λ p. Some (label_of t p)) same ∙ sym y.kept)

  brings_same : BringsBytes k t msg c → BringsBytes k t msg d → c ≡ d
  brings_same x y =
      let request = msg_same c.request d.request (x.method ∙ sym y.method)
      (cut_same msg.args c.request.args d.request.args x.cut y.cut) in
      content_parts c d request (x.seen ∙ request ∙ sym y.seen)
      (let e = copy_same k.memory t msg.args (pool k) (Ok c.bytes) (Ok d.bytes) (x.copied sound) (y.copied sound)
      in cc)
      (x.kept ∙ sym y.kept)

  wants_same : WantsBytes k t msg c → WantsBytes k t msg d → c ≡ d
  wants_same x y =
      let request = msg_same c.request d.request (x.method ∙ sym y.method)
      (cut_same msg.args c.request.args d.request.args x.cut y.cut) in
      content_parts c d request (x.seen ∙ request ∙ sym y.seen) (x.bytes ∙ sym y.bytes) (x.kept ∙ sym y.kept)

  made_same_content : IsAsMade msg c → IsAsMade msg d → c ≡ d
  made_same_content x y = content_parts c d (x.request ∙ sym y.request) (x.seen ∙ sym y.seen) (x.bytes ∙ sym y.bytes)
      (x.kept ∙ sym y.kept)

  two : (m n : ℕ) → msg.method ≡ m → msg.method ≡ n → m ≡ n
  two m n e f = sym e ∙ f

  content_same : IsContent k t msg c → IsContent k t msg d → c ≡ d
  content_same (inl x) (inl y) = keeps_same x y
  content_same (inl x) (inr (inl y)) = let e = two connect_me_to data_write x.asks y.asks in absurd (omega (arith, e))
  content_same (inl x) (inr (inr (inl y))) = let e = two connect_me_to data_read x.asks y.asks in
      absurd (omega (arith, e))
  content_same (inl x) (inr (inr (inr y))) = absurd (y.no_phone x.asks)
  content_same (inr (inl x)) (inl y) = let e = two data_write connect_me_to x.asks y.asks in absurd (omega (arith, e))
  content_same (inr (inl x)) (inr (inl y)) = brings_same x y
  content_same (inr (inl x)) (inr (inr (inl y))) = let e = two data_write data_read x.asks y.asks in
      absurd (omega (arith, e))
  content_same (inr (inl x)) (inr (inr (inr y))) = absurd (y.no_write x.asks)
  content_same (inr (inr (inl x))) (inl y) = let e = two data_read connect_me_to x.asks y.asks in
      absurd (omega (arith, e))
  content_same (inr (inr (inl x))) (inr (inl y)) = let e = two data_read data_write x.asks y.asks in
      absurd (omega (arith, e))
  content_same (inr (inr (inl x))) (inr (inr (inl y))) = wants_same x y
  content_same (inr (inr (inl x))) (inr (inr (inr y))) = absurd (y.no_read x.asks)
  content_same (inr (inr (inr x))) (inl y) = absurd (x.no_phone y.asks)
  content_same (inr (inr (inr x))) (inr (inl y)) = absurd (x.no_write y.asks)
  content_same (inr (inr (inr x))) (inr (inr (inl y))) = absurd (x.no_read y.asks)
  content_same (inr (inr (inr x))) (inr (inr (inr y))) = made_same_content x y

-- ---- what is accepted

module _ (k : KernelState) (t : TaskNo) (p : ℕ) (msg : Msg) (a b : Served) (sound : spaces.IsSound k.memory) where
  number_same : (place : Place) (c d : Call) → IsMade k t p msg false place c → IsMade k t p msg false place d
      → c.number ≡ d.number
  number_same place c d x y = ap (λ n. let r : CallNo = record { 0 = n } in r) (x.number ∙ sym y.number)

  at_once_same : (code : Code) → IsAnsweredAtOnce k t p msg code a → IsAnsweredAtOnce k t p msg code b → a ≡ b
  at_once_same code x y =
      let u = x.made in let v = y.made in
      parts_same k a b x.event y.event (stay_same k a.state b.state x.phones y.phones)
      (more_same k.calls a.state.calls b.state.calls _ _ x.calls y.calls
      (call_same _ _ (number_same (Answers t) x.call y.call u v) (u.caller ∙ sym v.caller) (u.from ∙ sym v.from)
      (u.label ∙ sym v.label) (u.request ∙ sym v.request) (u.msg ∙ sym v.msg) refl (u.discard ∙ sym v.discard)
      (u.bytes ∙ sym v.bytes) (u.reserved ∙ sym v.reserved) (u.place ∙ sym v.place) refl))
      (x.memory ∙ sym y.memory) (x.told ∙ sym y.told) (x.entries ∙ sym y.entries)

  sent_same : (w : TaskNo) → IsSent k t p msg w a → IsSent k t p msg w b → a ≡ b
  sent_same w x y =
      let same : x.content ≡ y.content = content_same k sound t msg x.content y.content x.lawful y.lawful in
      let u = x.made in let v = y.made in
      let phones = may_come_same y.content.kept Connecting k a.state b.state x.note y.note
      (subst (λ (c : Content). MayCome c.kept Connecting k a.state x.note) same x.phones) y.phones in
      parts_same k a b x.event y.event phones.0
      (more_same k.calls a.state.calls b.state.calls _ _ x.calls y.calls
      (call_same _ _ (number_same (Incoming w) x.call y.call u v) (u.caller ∙ sym v.caller) (u.from ∙ sym v.from)
      (u.label ∙ sym v.label) (ap (λ (c : Content). c.request) same) (ap (λ (c : Content). c.seen) same)
      (u.reply ∙ sym v.reply) (u.discard ∙ sym v.discard) (ap (λ (c : Content). c.bytes) same)
      (ap (λ (c : Content). c.kept) same) (u.place ∙ sym v.place) refl))
      (x.memory ∙ sym y.memory) (x.told ∙ sym y.told) (x.entries
      ∙ ap (λ es. entry.Accepted (record { 0 = k.calls.next_number }) (label_of t p) msg.method (Some w) ∷ es)
      phones.1 ∙ sym y.entries)

  goes_same : (w : TaskNo) (cause : Option Code) → Goes k t p msg w cause a → Goes k t p msg w cause b → a ≡ b
  goes_same w None x y = sent_same w x y
  goes_same w (Some code) x y = at_once_same code x y

  module _ where
    over_same : (w : TaskNo) → (IsNoCall msg.method → ⊥) → GoesOver k t p msg w a → GoesOver k t p msg w b → a ≡ b
    over_same w may x y =
        let same = check_same k t msg sound may x.cause y.cause x.check y.check in
        goes_same w y.cause (subst (λ cause. Goes k t p msg w cause a) same x.goes) y.goes

    accepted_same : IsAccepted t p msg k a → IsAccepted t p msg k b → a ≡ b
    accepted_same x y = by_phone (phone_at k t p) refl where
      dead : (o : Option PhoneState) → phone_at k t p ≡ o → IsNoWay o → ⊥
      dead o e none = x.way (subst IsNoWay (sym e) none)

      by_phone : (o : Option PhoneState) → phone_at k t p ≡ o → a ≡ b
      by_phone (Some (Connected w)) e = over_same w x.may (x.leads w e) (y.leads w e)
      by_phone (Some HungUp) e = at_once_same ehangup (x.hung_up e) (y.hung_up e)
      by_phone (Some Slammed) e = at_once_same enoent (x.slammed e) (y.slammed e)
      by_phone o e = absurd (dead o e tt)

    too_many : (ns : List ℕ) × AreTheActive k.calls t p ns × (64 ≤ length ns)
        → (ms : List ℕ) × AreTheActive k.calls t p ms × (length ms < 64) → ⊥
    too_many x y =
        let some = active_count k.calls t p x.0 x.1 in
        let same = active_count k.calls t p y.0 y.1 in
        let many = x.2 in
        let few = y.2 in
        omega (arith, some, same, many, few)

    pub call_is_determined : IsCall t p msg k a → IsCall t p msg k b → a ≡ b
    call_is_determined (inl x) (inl y) = refusal_same enoent k a b x.refusal y.refusal
    call_is_determined (inl x) (inr (inl y)) = absurd (y.way x.nowhere)
    call_is_determined (inl x) (inr (inr (inl y))) = absurd (y.way x.nowhere)
    call_is_determined (inl x) (inr (inr (inr y))) = absurd (y.way x.nowhere)
    call_is_determined (inr (inl x)) (inl y) = absurd (x.way y.nowhere)
    call_is_determined (inr (inl x)) (inr (inl y)) = refusal_same eperm k a b x.refusal y.refusal
    call_is_determined (inr (inl x)) (inr (inr (inl y))) = absurd (y.may x.none)
    call_is_determined (inr (inl x)) (inr (inr (inr y))) = absurd (y.may x.none)
    call_is_determined (inr (inr (inl x))) (inl y) = absurd (x.way y.nowhere)
    call_is_determined (inr (inr (inl x))) (inr (inl y)) = absurd (x.may y.none)
    call_is_determined (inr (inr (inl x))) (inr (inr (inl y))) = refusal_same elimit k a b x.refusal y.refusal
    call_is_determined (inr (inr (inl x))) (inr (inr (inr y))) = absurd (too_many x.many y.few)
    call_is_determined (inr (inr (inr x))) (inl y) = absurd (x.way y.nowhere)
    call_is_determined (inr (inr (inr x))) (inr (inl y)) = absurd (x.may y.none)
    call_is_determined (inr (inr (inr x))) (inr (inr (inl y))) = absurd (too_many y.many x.few)
    call_is_determined (inr (inr (inr x))) (inr (inr (inr y))) = accepted_same x y
