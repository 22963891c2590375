-- A receive tells what is first: of the answers that are awaited, or else of the calls that wait. It follows from the
-- law of a receive alone: what is dropped before are answers of hangups, and no phone changes by that.
use Rattle.std.proofs.Common.{◌≡◌, ℕ, ◌<◌, ◌≤◌, inl, inr, List, [], ◌∷◌, Option, None, Some, refl, sym, ap, subst, ◌∙◌, arith}
use Rattle.std.specs.Prelude.{⊤}
use Rattle.std.proofs.lemmas.Bool.{cases_eq, cases_lt}
use Rattle.ipc_ids.specs.declared.numbers.Label.{Label}
use Rattle.ipc_ids.specs.declared.numbers.TaskNo.{TaskNo}
use Rattle.ipc_ids.specs.declared.message.Msg.{Msg}
use Rattle.ipc_ids.specs.declared.message.Reply.{Reply}
use Rattle.ipc_ids.specs.declared.message.Outcome.TheVariants as outcome
use Rattle.ipc_ids.specs.declared.message.PhoneState.TheVariants.{Free}
use Rattle.ipc_ids.specs.declared.entry.Entry.{Entry}
use Rattle.ipc_ids.specs.Methods.{phone_hungup, connect_me_to}
use Rattle.call_slab.specs.declared.call.Call.{Call}
use Rattle.call_slab.specs.declared.call.Place.{Place}
use Rattle.call_slab.specs.declared.call.Place.TheVariants.{Incoming, Answers}
use Rattle.answerbox.specs.Calls.{call_at}
use Rattle.switchboard.specs.State.{KernelState}
use Rattle.switchboard.specs.Sound.{IsSound}
use Rattle.switchboard.specs.Serving.{Served}
use Rattle.kernel_laws.specs.ReceiveLaws.{IsAwaited, IsFirst, HasNone}
use Rattle.kernel_determined.specs.Frames.{PhonesStay, MayCome}
use Rattle.kernel_determined.specs.SettleLaw.{DropsAnswer}
use Rattle.kernel_determined.specs.Turns.{IsAmong, InTurn}
use Rattle.kernel_determined.specs.ReceiveLaw.{IsDropped, DropsHangups, IsDelivery, IsReception, IsAnswerAt, IsWaitingAt, TakesAnswer, TakesCall, Takes, with_entries, IsReceive, TellsTheFirst}
use Rattle.std.proofs.lemmas.Option.{none-some, same_Some}

-- what the turn of each such thing keeps, all turns keep
turns_hold : {A : Type 0} (Turn : KernelState → A → KernelState → List Entry → Type 0) (I : KernelState → Type 0)
    (IsSo : A → Type 0)
    → ((k : KernelState) (x : A) (a : KernelState) (m : List Entry) → I k → IsSo x → Turn k x a m → I a)
    → (xs : List A) → ((x : A) → IsAmong x xs → IsSo x) → (k a : KernelState) (m : List Entry) → I k
    → InTurn Turn xs k a m → I a
turns_hold Turn I IsSo one [] so k a m i f = subst I (sym f.0) i
turns_hold Turn I IsSo one (x ∷ xs) so k a m i f =
    turns_hold Turn I IsSo one xs (λ y h. so y (inr h)) f.0 a f.2 (one k x f.0 f.1 i (so x (inl refl)) f.3) f.4

-- ---- what is left once answers of hangups were dropped

-- every phone is as it was, and each call was there before
pub record IsLeft (k j : KernelState) : Type 0 where
  pub phones : PhonesStay k j
  pub calls : (n : ℕ) (c : Call) → call_at j.calls n ≡ Some c → call_at k.calls n ≡ Some c

no_connection : connect_me_to ≡ phone_hungup → ⊥
no_connection e = omega (arith, e)

two_places : (t : TaskNo) (place : Place) → place ≡ Incoming t → place ≡ Answers t → ⊥
two_places t place a b = let e : Incoming t ≡ Answers t = sym a ∙ b in cc

module _ (t : TaskNo) (k : KernelState) where
  drop_leaves : (j : KernelState) (n : ℕ) (a : KernelState) (m : List Entry) → IsLeft k j → IsDropped t k.calls n
      → DropsAnswer t j n a m → IsLeft k a
  drop_leaves j n a m h d x =
      let same : x.call ≡ d.call = same_Some x.call d.call (sym (h.calls n x.call x.live) ∙ d.live) in
      let asks : x.call.request.method ≡ phone_hungup =
      ap (λ (c : Call). c.request.method) same ∙ d.answer.hangup in
      let none : x.kept ≡ None = x.keeps.others (λ l u. no_connection (sym u.asks ∙ asks)) in
      record {
        phones = λ u q. (subst (λ (o : Option Label). MayCome o Free j a x.note) none x.phones).0 u q ∙ h.phones u q;
        calls = λ i c is. elim (cases_eq i n) [
          | inl e ↦ absurd (none-some c (sym x.calls.gone ∙ ap (call_at a.calls) (sym e) ∙ is))
          | inr ne ↦ h.calls i c (sym (x.calls.others i ne) ∙ is)
        ];
      }

  module _ (j : KernelState) (m : List Entry) (x : DropsHangups t k j m) where
    pub is_left : IsLeft k j
    is_left =
        turns_hold (DropsAnswer t) (IsLeft k) (IsDropped t k.calls) drop_leaves x.things x.each k j m
        (record { phones = λ u q. refl; calls = λ n c is. is }) x.turns

    -- a call that is not dropped is left
    still_there : (n : ℕ) (c : Call) → call_at k.calls n ≡ Some c → (IsDropped t k.calls n → ⊥)
        → call_at j.calls n ≡ Some c
    still_there n c is not =
        turns_hold (DropsAnswer t) (λ (i : KernelState). call_at i.calls n ≡ Some c) (IsDropped t k.calls)
        (λ i p a es live d y. y.calls.others n (λ e. not (subst (IsDropped t k.calls) (sym e) d)) ∙ live)
        x.things x.each k j m is x.turns

  -- and one that is dropped is gone
  stays_gone : (n : ℕ) (xs : List ℕ) (i a : KernelState) (m : List Entry) → call_at i.calls n ≡ None
      → InTurn (DropsAnswer t) xs i a m → call_at a.calls n ≡ None
  stays_gone n xs i a m none f =
      turns_hold (DropsAnswer t) (λ (j : KernelState). call_at j.calls n ≡ None) (λ p. ⊤)
      (λ j p b es gone so y. elim (cases_eq n p) [
        | inl e ↦ ap (call_at b.calls) e ∙ y.calls.gone
        | inr ne ↦ y.calls.others n ne ∙ gone
      ])
      xs (λ p h. tt) i a m none f

  all_gone : (n : ℕ) (xs : List ℕ) (i a : KernelState) (m : List Entry) → IsAmong n xs
      → InTurn (DropsAnswer t) xs i a m → call_at a.calls n ≡ None
  all_gone n [] i a m h f = absurd h
  all_gone n (p ∷ xs) i a m (inl e) f = stays_gone n xs f.0 a f.2 (ap (call_at f.0.calls) e ∙ f.3.calls.gone) f.4
  all_gone n (p ∷ xs) i a m (inr h) f = all_gone n xs f.0 a f.2 h f.4

-- ---- what is told

delivered_told : (t : TaskNo) (j : KernelState) (c : Call) (done : Served) → IsDelivery t j c done
    → (reply : Reply) × (done.outcome ≡ outcome.Answered c.number reply)
delivered_told t j c done (inl x) = (_, x.delivers.told)
delivered_told t j c done (inr (inl x)) = (_, x.delivers.told)
delivered_told t j c done (inr (inr (inl x))) = (_, x.delivers.told)
delivered_told t j c done (inr (inr (inr x))) = (_, x.delivers.told)

received_told : (t : TaskNo) (j : KernelState) (c : Call) (done : Served) → IsReception t j c done
    → (msg : Msg) × (done.outcome ≡ outcome.Received c.number msg c.label)
received_told t j c done (inl x) = (_, x.receives.told)
received_told t j c done (inr (inl x)) = (_, x.receives.told)
received_told t j c done (inr (inr x)) = (_, x.receives.told)

module _ (t : TaskNo) (k : KernelState) (sound : IsSound k) (done : Served) (x : IsReceive t k done) where
  abbrev j : KernelState
  j = x.left

  left : IsLeft k j
  left = is_left t k j x.dropped x.drops

  awaited_left : (n : ℕ) (c : Call) → call_at k.calls n ≡ Some c → IsAwaited t c → call_at j.calls n ≡ Some c
  awaited_left n c is a = still_there t k j x.dropped x.drops n c is
      (λ d. a.wanted (ap (λ (y : Call). y.request.method) (same_Some c d.call (sym is ∙ d.live)) ∙ d.answer.hangup))

  waiting_left : (n : ℕ) (c : Call) → call_at k.calls n ≡ Some c → IsWaitingAt t c → call_at j.calls n ≡ Some c
  waiting_left n c is at = still_there t k j x.dropped x.drops n c is
      (λ d. two_places t c.place at
      (ap (λ (y : Call). y.place) (same_Some c d.call (sym is ∙ d.live)) ∙ d.answer.place))

  -- the answer of a hangup that is left did not come before all awaited ones
  not_early : (n : ℕ) (d : Call) → call_at j.calls n ≡ Some d → IsAnswerAt t d → d.request.method ≡ phone_hungup
      → ((m : ℕ) (e : Call) → call_at k.calls m ≡ Some e → IsAwaited t e → d.stamp < e.stamp) → ⊥
  not_early n d live at hangup early =
      let it : IsDropped t k.calls n = record {
        call = d;
        live = left.calls n d live;
        answer = record { place = at; hangup = hangup };
        early = early;
      } in
      none-some d (sym (all_gone t k n x.drops.things k j x.dropped (x.drops.all n it) x.drops.turns) ∙ live)

  -- two that are first are one
  one_call : (c d : Call) → call_at k.calls c.number.0 ≡ Some c → call_at k.calls d.number.0 ≡ Some d
      → c.stamp ≤ d.stamp → d.stamp ≤ c.stamp → c ≡ d
  one_call c d a b le ge =
      let n = sound.calls.stamps_differ c.number.0 d.number.0 c d a b (omega (arith, le, ge)) in
      same_Some c d (sym a ∙ ap (call_at k.calls) n ∙ b)

  answer_told : (c : Call) → IsFirst k.calls (IsAwaited t) c
      → (reply : Reply) × (done.outcome ≡ outcome.Answered c.number reply)
  answer_told c first = by x.takes where
    here : call_at j.calls c.number.0 ≡ Some c
    here = awaited_left c.number.0 c first.live first.so

    no_earlier : (n : ℕ) (d : Call) → call_at j.calls n ≡ Some d → IsAnswerAt t d → c.stamp ≤ d.stamp
    no_earlier n d live at = elim (cases_eq d.request.method phone_hungup) [
      | inr ne ↦ first.least n d (left.calls n d live) (record { place = at; wanted = ne })
      | inl e ↦ elim (cases_lt d.stamp c.stamp) [
        | inl less ↦ absurd (not_early n d live at e
            (λ m f is a. let le = first.least m f is a in omega (arith, less, le)))
        | inr le ↦ le
      ]
    ]

    same : (y : TakesAnswer t j (with_entries done x.told)) → y.call ≡ c
    same y = one_call y.call c (left.calls y.call.number.0 y.call y.first.live) first.live
        (y.first.least c.number.0 c here first.so.place)
        (no_earlier y.call.number.0 y.call y.first.live y.first.so)

    by : Takes t j (with_entries done x.told) → (reply : Reply) × (done.outcome ≡ outcome.Answered c.number reply)
    by (inl y) = delivered_told t j c (with_entries done x.told)
        (subst (λ (d : Call). IsDelivery t j d (with_entries done x.told)) (same y) y.delivery)
    by (inr (inl y)) = absurd (y.none c.number.0 c here first.so.place)
    by (inr (inr y)) = absurd (y.none c.number.0 c here first.so.place)

  -- where no answer is awaited, none is left
  none_left : HasNone k.calls (IsAwaited t) → HasNone j.calls (IsAnswerAt t)
  none_left none n d live at = elim (cases_eq d.request.method phone_hungup) [
    | inr ne ↦ none n d (left.calls n d live) (record { place = at; wanted = ne })
    | inl e ↦ not_early n d live at e (λ m f is a. absurd (none m f is a))
  ]

  call_told : (c : Call) → HasNone k.calls (IsAwaited t) → IsFirst k.calls (IsWaitingAt t) c
      → (msg : Msg) × (done.outcome ≡ outcome.Received c.number msg c.label)
  call_told c none first = by x.takes where
    here : call_at j.calls c.number.0 ≡ Some c
    here = waiting_left c.number.0 c first.live first.so

    same : (y : TakesCall t j (with_entries done x.told)) → y.call ≡ c
    same y =
        let live = left.calls y.call.number.0 y.call y.first.live in
        one_call y.call c live first.live (y.first.least c.number.0 c here first.so)
        (first.least y.call.number.0 y.call live y.first.so)

    by : Takes t j (with_entries done x.told) → (msg : Msg) × (done.outcome ≡ outcome.Received c.number msg c.label)
    by (inl y) = absurd (none_left none y.call.number.0 y.call y.first.live y.first.so)
    by (inr (inl y)) = received_told t j c (with_entries done x.told)
        (subst (λ (d : Call). IsReception t j d (with_entries done x.told)) (same y) y.reception)
    by (inr (inr y)) = absurd (y.neither c.number.0 c here first.so)

  nothing_told : HasNone k.calls (IsAwaited t) → HasNone k.calls (IsWaitingAt t) → done.outcome ≡ outcome.Empty
  nothing_told none neither = by x.takes where
    by : Takes t j (with_entries done x.told) → done.outcome ≡ outcome.Empty
    by (inl y) = absurd (none_left none y.call.number.0 y.call y.first.live y.first.so)
    by (inr (inl y)) = absurd (neither y.call.number.0 y.call
        (left.calls y.call.number.0 y.call y.first.live) y.first.so)
    by (inr (inr y)) = y.told

  empty_told : done.outcome ≡ outcome.Empty → HasNone k.calls (IsAwaited t) × HasNone k.calls (IsWaitingAt t)
  empty_told e = by x.takes where
    by : Takes t j (with_entries done x.told) → HasNone k.calls (IsAwaited t) × HasNone k.calls (IsWaitingAt t)
    by (inl y) = let told = delivered_told t j y.call (with_entries done x.told) y.delivery in
        absurd (let f : outcome.Empty ≡ outcome.Answered y.call.number told.0 = sym e ∙ told.1 in cc)
    by (inr (inl y)) = let told = received_told t j y.call (with_entries done x.told) y.reception in
        absurd (let f : outcome.Empty ≡ outcome.Received y.call.number told.0 y.call.label = sym e ∙ told.1 in cc)
    by (inr (inr y)) = (
      λ n c is a. y.none n c (awaited_left n c is a) a.place,
      λ n c is at. y.neither n c (waiting_left n c is at) at,
    )

  pub receive_tells_first : TellsTheFirst t k done
  receive_tells_first = record { answer = answer_told; call = call_told; nothing = nothing_told; empty = empty_told }
