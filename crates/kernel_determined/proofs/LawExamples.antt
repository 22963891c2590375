-- Wrong machines that a field of a law refuses, each on any or on one small state.
use Rattle.std.proofs.Common.{◌≡◌, ℕ, ◌<◌, ◌≤◌, true, inl, List, [], ◌∷◌, length, Option, None, Some, refl, sym, ap, ◌∙◌, arith}
use Rattle.ipc_ids.specs.declared.numbers.Label.{Label}
use Rattle.ipc_ids.specs.declared.numbers.TaskNo.{TaskNo}
use Rattle.ipc_ids.specs.declared.message.Msg.{Msg}
use Rattle.ipc_ids.specs.declared.message.PhoneState.TheVariants.{Free}
use Rattle.ipc_ids.specs.Codes.{elimit}
use Rattle.ipc_ids.specs.Methods.{connect_me_to}
use Rattle.call_slab.specs.declared.call.Call.{Call}
use Rattle.answerbox.specs.Calls.{no_calls}
use Rattle.address_space.specs.Memory.{no_memory}
use Rattle.switchboard.specs.State.{KernelState, label_of}
use Rattle.switchboard.specs.Serving.{Served}
use Rattle.kernel_laws.specs.ActiveCalls.{AreTheActive}
use Rattle.kernel_laws.specs.CallCodes.{IsCheck}
use Rattle.kernel_determined.proofs.StateLaws.{as_many}
use Rattle.kernel_laws.specs.DataLaws.{second, AreCutDown}
use Rattle.kernel_determined.specs.CallLaw.{Content, KeepsPhone, CallsTooMuch, IsAccepted}
use Rattle.kernel_determined.specs.ReceiveLaw.{ReceivesWithPhone, ReceivesWithout}

-- ---- the limit

-- a machine that refuses a call where 63 are active, and one that accepts it where 64 are
refuses_63 : (k : KernelState) (t : TaskNo) (p : ℕ) (msg : Msg) (done : Served) (ns : List ℕ) → length ns ≡ 63
    → AreTheActive k.calls t p ns → CallsTooMuch t p msg k done → ⊥
refuses_63 k t p msg done ns count those law =
    let same = as_many k.calls t p ns law.many.0 those law.many.1 in
    let most = law.many.2 in
    omega (arith, count, same, most)

accepts_64 : (k : KernelState) (t : TaskNo) (p : ℕ) (msg : Msg) (done : Served) (ns : List ℕ) → length ns ≡ 64
    → AreTheActive k.calls t p ns → IsAccepted t p msg k done → ⊥
accepts_64 k t p msg done ns count those law =
    let same = as_many k.calls t p ns law.few.0 those law.few.1 in
    let less = law.few.2 in
    omega (arith, count, same, less)

-- ---- the arguments of a data call

-- a machine that sends four arguments of a call that it cuts down, and one that changes a call which asks for few bytes
sends_four : (args sent : List ℕ) → 65536 < second args → length sent ≡ 4 → AreCutDown args sent → ⊥
sends_four args sent large four law = let five = law.five large in omega (arith, four, five)

changes_a_small_one : (args sent : List ℕ) → second args ≤ 65536 → (sent ≡ args → ⊥) → AreCutDown args sent → ⊥
changes_a_small_one args sent small other law = other (law.few small)

-- ---- the least phone

abbrev one : TaskNo
one = record { 0 = 1 }

-- a task with two free phones
abbrev both_free : KernelState
both_free = record {
  tasks = record { alive = true ∷ []; phones = (Free ∷ Free ∷ []) ∷ [] };
  calls = no_calls;
  memory = no_memory;
  events = 0;
}

abbrev number_in : Option Label → ℕ
number_in None = 0
number_in (Some l) = l.phone.0

-- the second is kept as a call is sent, and as one is received
sent_with_second : (msg : Msg) (c : Content) → c.kept ≡ Some (label_of one 1) → KeepsPhone both_free one msg c → ⊥
sent_with_second msg c kept law =
    let same : 1 ≡ law.phone = ap number_in (sym kept ∙ law.kept) in
    law.least 0 (omega (arith, same)) (inl refl)

received_with_second : (c : Call) (done : Served) (law : ReceivesWithPhone one both_free c done) → law.phone ≡ 1 → ⊥
received_with_second c done law same = law.least 0 (omega (arith, same)) (inl refl)

-- none is kept, though one is free
sent_without : (msg : Msg) → msg.method ≡ connect_me_to → IsCheck both_free one msg (Some elimit) → ⊥
sent_without msg asks law = (law.connect asks).1.0 refl (0, inl refl)

received_without : (c : Call) (done : Served) → ReceivesWithout one both_free c done → ⊥
received_without c done law = law.none 0 (inl refl)
