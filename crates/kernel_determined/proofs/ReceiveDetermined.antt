-- A receive is determined by what is said of it.
use Rattle.std.proofs.Common.{◌≡◌, ℕ, ◌<◌, ◌≤◌, ◌⊎◌, inl, inr, List, [], ◌∷◌, ◌++◌, length, Option, None, Some, refl, sym, ap, subst, ◌∙◌, arith}
use Rattle.std.specs.Prelude.{slice_get}
use Rattle.std.proofs.lemmas.Bool.{cases_eq, cases_lt}
use Rattle.ipc_ids.specs.declared.numbers.Label.{Label}
use Rattle.ipc_ids.specs.declared.numbers.TaskNo.{TaskNo}
use Rattle.ipc_ids.specs.declared.numbers.StoreNo.{StoreNo}
use Rattle.ipc_ids.specs.declared.message.Reply.{Reply}
use Rattle.ipc_ids.specs.declared.message.PhoneState.TheVariants.{Free, Connecting}
use Rattle.ipc_ids.specs.declared.entry.Entry.{Entry}
use Rattle.ipc_ids.specs.declared.entry.Entry.TheVariants as entry
use Rattle.ipc_ids.specs.Methods.{connect_me_to, data_read}
use Rattle.call_slab.specs.declared.call.Call.{Call}
use Rattle.answerbox.specs.Calls.{CallTable, call_at}
use Rattle.address_space.specs.Memory.{Memory, Step}
use Rattle.switchboard.specs.State.{KernelState, phone_at, label_of}
use Rattle.switchboard.specs.Sound.{IsSound}
use Rattle.switchboard.specs.Serving.{Served}
use Rattle.kernel_laws.specs.DataLaws.{code_after, first}
use Rattle.kernel_laws.specs.MemoryRequests.{written}
use Rattle.kernel_laws.specs.ReceiveLaws.{IsFirst, HasNone}
use Rattle.kernel_determined.specs.Frames.{PhoneComesTo, HasFifth, CameBefore}
use Rattle.kernel_determined.specs.SettleLaw.{DropsAnswer}
use Rattle.kernel_determined.specs.ReceiveLaw.{IsDropped, Delivers, DeliversBytes, DeliversRefusal, DeliversPhone, IsDelivery, Receives, ReceivesWithPhone, ReceivesWithout, IsReception, IsAnswerAt, IsWaitingAt, TakesAnswer, TakesCall, Takes, with_entries, IsReceive}
use Rattle.kernel_determined.proofs.Same.{list_same, state_same, served_same, one_changed}
use Rattle.kernel_determined.proofs.OneOrder.{came_apart, IsDetermined, each_same, each_keeps}
use Rattle.kernel_determined.proofs.SettleDetermined.{drop_same}
use Rattle.kernel_determined.proofs.WriteDetermined.{write_is_determined}
use Rattle.kernel_determined.proofs.HangupDetermined.{phones_same, stay_same, come_same, nothing_same}
use Rattle.std.proofs.lemmas.Option.{slice_get_past, none-some, same_Some}
use Rattle.kernel_laws.specs.UsablePhones.{IsUsable}

-- ---- what is dropped

-- each call that is left was there before
abbrev AreLeftOf : KernelState → KernelState → Type 0
AreLeftOf k j = (n : ℕ) (c : Call) → call_at j.calls n ≡ Some c → call_at k.calls n ≡ Some c

drops_left : (t : TaskNo) (k : KernelState) → IsDetermined (DropsAnswer t) (AreLeftOf k)
drops_left t k = record {
  same = λ j i a b m n h x y. drop_same t i j a b m n x y;
  keeps = λ j i a m h x n c is. elim (cases_eq n i) [
    | inl e ↦ absurd (let f : None ≡ Some c = sym x.calls.gone ∙ ap (call_at a.calls) (sym e) ∙ is in cc)
    | inr ne ↦ h n c (sym (x.calls.others n ne) ∙ is)
  ];
}

-- ---- arguments

-- of two numbers that pass a test, and are the least that do
pub one_least : (IsSo : ℕ → Type 0) (m n : ℕ) → IsSo m → IsSo n → ((i : ℕ) → i < m → IsSo i → ⊥)
    → ((i : ℕ) → i < n → IsSo i → ⊥) → m ≡ n
one_least IsSo m n here there first least = elim (cases_lt m n) [
  | inl less ↦ absurd (least m less here)
  | inr le ↦ elim (cases_lt n m) [ inl less ↦ absurd (first n less there) | inr ge ↦ omega (arith, le, ge) ]
]

pub args_same : (number : ℕ) (given xs ys : List ℕ) → HasFifth number given xs → HasFifth number given ys → xs ≡ ys
args_same number given xs ys f g = list_same xs ys (λ i. by i (cases_eq i 4) (cases_lt 4 (length given))) where
  by : (i : ℕ) → (i ≡ 4) ⊎ (i ≡ 4 → ⊥) → (4 < length given) ⊎ (length given ≤ 4) → slice_get xs i ≡ slice_get ys i
  by i (inr ne) h = f.others i ne ∙ sym (g.others i ne)
  by i (inl e) (inl more) = ap (slice_get xs) e ∙ f.fifth more ∙ sym (g.fifth more) ∙ ap (slice_get ys) (sym e)
  by i (inl e) (inr few) = let x = f.many in let y = g.many in slice_get_past xs i (omega (arith, x, e, few))
      ∙ sym (slice_get_past ys i (omega (arith, y, e, few)))

-- ---- a delivery

module _ (t : TaskNo) (k : KernelState) (c : Call) (a b : Served) where
  delivers_same : (r : Reply) (m : Memory) (note : List Entry) → Delivers t k c r m note a → Delivers t k c r m note b
      → ((u : TaskNo) (q : ℕ) → phone_at a.state u q ≡ phone_at b.state u q) → a ≡ b
  delivers_same r m note x y phones = served_same a b
      (state_same a.state b.state (x.event.alive ∙ sym y.event.alive)
      (phones_same k a.state b.state x.event y.event phones)
      (one_changed k.calls a.state.calls b.state.calls c.number.0 None None x.gone y.gone refl x.others y.others
      (x.numbers ∙ sym y.numbers) (x.arrivals ∙ sym y.arrivals))
      (x.memory_after ∙ sym y.memory_after) (x.event.counted ∙ sym y.event.counted))
      (x.told ∙ sym y.told) (x.entries ∙ sym y.entries)

  bytes_same : DeliversBytes t k c a → DeliversBytes t k c b → a ≡ b
  bytes_same x y =
      let same : x.step ≡ y.step = write_is_determined k.memory t (first c.request.args) c.buffer x.step y.step
      x.write y.write in
      let d = subst (λ (s : Step (Option StoreNo)). Delivers t k c
      (record { code = code_after s.told; args = c.reply.args }) s.memory
      (written t (first c.request.args) (length c.buffer) s.told) a) same x.delivers in
      delivers_same _ y.step.memory (written t (first c.request.args) (length c.buffer) y.step.told) d y.delivers
      (stay_same k a.state b.state x.phones y.phones)

  one_label : (l m : Label) → c.reserved ≡ Some l → c.reserved ≡ Some m → l ≡ m
  one_label l m e f = let g : Some l ≡ Some m = sym e ∙ f in cc

  refusal_same : DeliversRefusal t k c a → DeliversRefusal t k c b → a ≡ b
  refusal_same x y =
      let same : x.phone ≡ y.phone = one_label x.phone y.phone x.unconnected.kept y.unconnected.kept in
      let d = subst (λ (l : Label). Delivers t k c c.reply k.memory (entry.PhoneIs l Free ∷ []) a) same x.delivers in
      let free = subst (λ (l : Label). PhoneComesTo l.task l.phone.0 Free k a.state) same x.free in
      delivers_same c.reply k.memory (entry.PhoneIs y.phone Free ∷ []) d y.delivers
      (come_same k a.state b.state y.phone.task y.phone.phone.0 Free free y.free)

  phone_same : DeliversPhone t k c a → DeliversPhone t k c b → a ≡ b
  phone_same x y =
      let same : x.phone ≡ y.phone = one_label x.phone y.phone x.kept y.kept in
      let names = subst (λ (l : Label). HasFifth l.phone.0 c.reply.args x.args) same x.names in
      let args : x.args ≡ y.args = args_same y.phone.phone.0 c.reply.args x.args y.args names y.names in
      let d = subst (λ (r : List ℕ). Delivers t k c (record { code = c.reply.code; args = r }) k.memory [] a) args
      x.delivers in
      delivers_same _ k.memory [] d y.delivers (stay_same k a.state b.state x.phones y.phones)

  two_methods : connect_me_to ≡ data_read → ⊥
  two_methods e = omega (arith, e)

  pub delivery_same : IsDelivery t k c a → IsDelivery t k c b → a ≡ b
  delivery_same (inl x) (inl y) = bytes_same x y
  delivery_same (inl x) (inr (inl y)) = absurd (y.refused x.brought.accepted)
  delivery_same (inl x) (inr (inr (inl y))) = absurd (two_methods (sym y.asks ∙ x.brought.asks))
  delivery_same (inl x) (inr (inr (inr y))) = absurd (y.bare x.brought)
  delivery_same (inr (inl x)) (inl y) = absurd (x.refused y.brought.accepted)
  delivery_same (inr (inl x)) (inr (inl y)) = refusal_same x y
  delivery_same (inr (inl x)) (inr (inr (inl y))) = absurd (x.refused y.accepted)
  delivery_same (inr (inl x)) (inr (inr (inr y))) = absurd
      (none-some x.phone (sym (y.unkept x.unconnected.asks) ∙ x.unconnected.kept))
  delivery_same (inr (inr (inl x))) (inl y) = absurd (two_methods (sym x.asks ∙ y.brought.asks))
  delivery_same (inr (inr (inl x))) (inr (inl y)) = absurd (y.refused x.accepted)
  delivery_same (inr (inr (inl x))) (inr (inr (inl y))) = phone_same x y
  delivery_same (inr (inr (inl x))) (inr (inr (inr y))) = absurd (none-some x.phone (sym (y.unkept x.asks) ∙ x.kept))
  delivery_same (inr (inr (inr x))) (inl y) = absurd (x.bare y.brought)
  delivery_same (inr (inr (inr x))) (inr (inl y)) = absurd
      (none-some y.phone (sym (x.unkept y.unconnected.asks) ∙ y.unconnected.kept))
  delivery_same (inr (inr (inr x))) (inr (inr (inl y))) = absurd (none-some y.phone (sym (x.unkept y.asks) ∙ y.kept))
  delivery_same (inr (inr (inr x))) (inr (inr (inr y))) =
      delivers_same c.reply k.memory [] x.delivers y.delivers (stay_same k a.state b.state x.phones y.phones)

  -- ---- a reception

  receives_same : (args : List ℕ) (kept : Option Label) (note : List Entry) → Receives t k c args kept note a
      → Receives t k c args kept note b → ((u : TaskNo) (q : ℕ) → phone_at a.state u q ≡ phone_at b.state u q) → a ≡ b
  receives_same args kept note x y phones = served_same a b
      (state_same a.state b.state (x.event.alive ∙ sym y.event.alive)
      (phones_same k a.state b.state x.event y.event phones)
      (one_changed k.calls a.state.calls b.state.calls c.number.0 _ _ x.held y.held refl x.others y.others
      (x.numbers ∙ sym y.numbers) (x.arrivals ∙ sym y.arrivals))
      (x.memory ∙ sym y.memory) (x.event.counted ∙ sym y.event.counted))
      (x.told ∙ sym y.told) (x.entries ∙ sym y.entries)

  with_phone_same : ReceivesWithPhone t k c a → ReceivesWithPhone t k c b → a ≡ b
  with_phone_same x y =
      let same : x.phone ≡ y.phone =
      one_least (IsUsable k k.calls t) x.phone y.phone x.usable y.usable x.least y.least in
      let names = subst (λ p. HasFifth p c.msg.args x.args) same x.names in
      let args : x.args ≡ y.args = args_same y.phone c.msg.args x.args y.args names y.names in
      let waits = subst (λ p. PhoneComesTo t p Connecting k a.state) same x.waits in
      let r = subst (λ p. Receives t k c x.args (Some (label_of t p)) (entry.PhoneIs (label_of t p) Connecting ∷ [])
      a) same x.receives in
      let s = subst (λ xs. Receives t k c xs (Some (label_of t y.phone))
      (entry.PhoneIs (label_of t y.phone) Connecting ∷ []) a) args r in
      receives_same y.args _ _ s y.receives (come_same k a.state b.state t y.phone Connecting waits y.waits)

  without_same : ReceivesWithout t k c a → ReceivesWithout t k c b → a ≡ b
  without_same x y =
      let args : x.args ≡ y.args = args_same 64 c.msg.args x.args y.args x.names y.names in
      let r = subst (λ xs. Receives t k c xs None [] a) args x.receives in
      receives_same y.args None [] r y.receives (stay_same k a.state b.state x.phones y.phones)

  pub reception_same : IsReception t k c a → IsReception t k c b → a ≡ b
  reception_same (inl x) (inl y) = with_phone_same x y
  reception_same (inl x) (inr (inl y)) = absurd (y.none x.phone x.usable)
  reception_same (inl x) (inr (inr y)) = absurd (y.others x.asks)
  reception_same (inr (inl x)) (inl y) = absurd (x.none y.phone y.usable)
  reception_same (inr (inl x)) (inr (inl y)) = without_same x y
  reception_same (inr (inl x)) (inr (inr y)) = absurd (y.others x.asks)
  reception_same (inr (inr x)) (inl y) = absurd (x.others y.asks)
  reception_same (inr (inr x)) (inr (inl y)) = absurd (x.others y.asks)
  reception_same (inr (inr x)) (inr (inr y)) = receives_same c.msg.args c.reserved [] x.receives y.receives
      (stay_same k a.state b.state x.phones y.phones)

-- ---- of what is left the first

-- no two calls came at once
abbrev pub CameApart : CallTable → Type 0
CameApart calls = (m n : ℕ) (c d : Call) → call_at calls m ≡ Some c → call_at calls n ≡ Some
    d → c.stamp ≡ d.stamp → m ≡ n

first_same : (q : CallTable) (IsSo : Call → Type 0) (c d : Call) → CameApart q → IsFirst q IsSo c → IsFirst q IsSo d
    → c ≡ d
first_same q IsSo c d apart x y =
    let le = x.least d.number.0 d y.live y.so in
    let ge = y.least c.number.0 c x.live x.so in
    let n : c.number.0 ≡ d.number.0 = apart c.number.0 d.number.0 c d x.live y.live (omega (arith, le, ge)) in
    same_Some c d (sym x.live ∙ ap (call_at q) n ∙ y.live)

module _ (t : TaskNo) (k : KernelState) (apart : CameApart k.calls) (a b : Served) where
  answer_same : TakesAnswer t k a → TakesAnswer t k b → a ≡ b
  answer_same x y =
      let same : x.call ≡ y.call = first_same k.calls (IsAnswerAt t) x.call y.call apart x.first y.first in
      delivery_same t k y.call a b (subst (λ (c : Call). IsDelivery t k c a) same x.delivery) y.delivery

  call_taken_same : TakesCall t k a → TakesCall t k b → a ≡ b
  call_taken_same x y =
      let same : x.call ≡ y.call = first_same k.calls (IsWaitingAt t) x.call y.call apart x.first y.first in
      reception_same t k y.call a b (subst (λ (c : Call). IsReception t k c a) same x.reception) y.reception

  one_is : (IsSo : Call → Type 0) (c : Call) → IsFirst k.calls IsSo c → HasNone k.calls IsSo → ⊥
  one_is IsSo c f none = none c.number.0 c f.live f.so

  pub takes_same : Takes t k a → Takes t k b → a ≡ b
  takes_same (inl x) (inl y) = answer_same x y
  takes_same (inl x) (inr (inl y)) = absurd (one_is (IsAnswerAt t) x.call x.first y.none)
  takes_same (inl x) (inr (inr y)) = absurd (one_is (IsAnswerAt t) x.call x.first y.none)
  takes_same (inr (inl x)) (inl y) = absurd (one_is (IsAnswerAt t) y.call y.first x.none)
  takes_same (inr (inl x)) (inr (inl y)) = call_taken_same x y
  takes_same (inr (inl x)) (inr (inr y)) = absurd (one_is (IsWaitingAt t) x.call x.first y.neither)
  takes_same (inr (inr x)) (inl y) = absurd (one_is (IsAnswerAt t) y.call y.first x.none)
  takes_same (inr (inr x)) (inr (inl y)) = absurd (one_is (IsWaitingAt t) y.call y.first x.neither)
  takes_same (inr (inr x)) (inr (inr y)) = nothing_same k a b x.nothing y.nothing (x.told ∙ sym y.told)

-- ---- a receive

pub receive_is_determined : (t : TaskNo) (k : KernelState) (a b : Served) → IsSound k → IsReceive t k a
    → IsReceive t k b → a ≡ b
receive_is_determined t k a b sound x y =
    let drops = each_same (DropsAnswer t) (AreLeftOf k) (drops_left t k) (IsDropped t k.calls) (CameBefore k.calls)
    (came_apart k.calls) k x.left y.left x.dropped y.dropped (λ n c is. is) x.drops y.drops in
    let still : AreLeftOf k y.left = each_keeps (DropsAnswer t) (AreLeftOf k) (drops_left t k) (IsDropped t k.calls)
    (CameBefore k.calls) (came_apart k.calls) k y.left y.dropped (λ n c is. is) y.drops in
    let apart : CameApart y.left.calls =
    λ m n c d e f g. sound.calls.stamps_differ m n c d (still m c e) (still n d f) g in
    let takes : Takes t y.left (with_entries a x.told) =
    subst (λ (j : KernelState). Takes t j (with_entries a x.told)) drops.0 x.takes in
    let same : with_entries a x.told ≡ with_entries b y.told =
    takes_same t y.left apart (with_entries a x.told) (with_entries b y.told) takes y.takes in
    served_same a b (ap (λ (s : Served). s.state) same) (ap (λ (s : Served). s.outcome) same)
    (x.entries ∙ ap (λ es. es ++ x.told) drops.1 ∙ ap (λ es. y.dropped ++ es) (ap (λ (s : Served). s.entries) same)
    ∙ sym y.entries)
