-- Connect calls keep their phones, and the active calls of a phone have one count.
use Rattle.std.proofs.Common.{◌≡◌, ℕ, inr, List, length, Some, refl, ap, sym, subst, ◌∙◌}
use Rattle.ipc_ids.specs.declared.numbers.Label.{Label}
use Rattle.ipc_ids.specs.declared.numbers.TaskNo.{TaskNo}
use Rattle.ipc_ids.specs.declared.methods.MethodKind.{MethodKind}
use Rattle.ipc_ids.specs.declared.methods.MethodKind.TheVariants.{ConnectToMe, ConnectMeTo}
use Rattle.ipc_ids.specs.Methods.{connect_me_to, kind_of}
use Rattle.call_slab.specs.declared.call.Call.{Call}
use Rattle.call_slab.specs.declared.call.Place.{Place}
use Rattle.call_slab.specs.declared.call.Place.TheVariants.{Incoming, Dispatched, Answers}
use Rattle.answerbox.specs.Calls.{CallTable, call_at}
use Rattle.switchboard.specs.State.{KernelState}
use Rattle.switchboard.specs.Board.{IsPendingAt}
use Rattle.switchboard.specs.Kept.{keeper_of, kept_phone}
use Rattle.switchboard.specs.Sound.{IsSound, IsCaller, IsLentAt, IsReservedAt}
use Rattle.switchboard.proofs.Keepers.{kept_of_call}
use Rattle.kernel_laws.specs.ActiveCalls.{AreTheActive}
use Rattle.kernel_laws.specs.Connecting.{IsUnconnected}
use Rattle.kernel_laws.proofs.ActiveCalls.{active_count}
use Rattle.kernel_determined.specs.StateLaws.{KeepTheirPhones}
use Rattle.kernel_determined.proofs.SettleSo.{kept_is, waits}

-- ---- phones that are kept

module _ (k : KernelState) (sound : IsSound k) (n : ℕ) (c : Call) (is : call_at k.calls n ≡ Some c) (l : Label)
    (kept : c.reserved ≡ Some l) where
  owner : (kind : MethodKind) → kind_of c.request.method ≡ kind → IsReservedAt (keeper_of kind) c.from.task c.place l
  owner kind asks =
      subst (λ (x : MethodKind). IsReservedAt (keeper_of x) c.from.task c.place l) asks
      ((sound.calls.each n c is).reserved.owner l kept)

  of_caller : (u : TaskNo) → c.caller ≡ Some u → c.request.method ≡ connect_me_to → l.task ≡ u
  of_caller u made asks =
      let from = subst (IsCaller k.tasks c.from) made (sound.calls.each n c is).caller in
      owner ConnectMeTo (ap kind_of asks) ∙ sym from.0

  kept_as : (place : Place) → c.place ≡ place → IsUnconnected c l → kept_phone c ≡ Some l
  kept_as (Answers u) at it =
      waits k.tasks.alive u k (record { sound = sound }) c
      (ap (call_at k.calls) (sound.calls.each n c is).number ∙ is) at l it
  kept_as (Incoming u) at it =
      (kept_is k k.tasks refl n c (sound.calls.each n c is) (subst IsPendingAt (sym at) tt)).connect (inr it.asks)
      ∙ kept
  kept_as (Dispatched u) at it =
      (kept_is k k.tasks refl n c (sound.calls.each n c is) (subst IsPendingAt (sym at) tt)).connect (inr it.asks)
      ∙ kept

pub keep_their_phones : (k : KernelState) → IsSound k → KeepTheirPhones k
keep_their_phones k sound = record {
  caller = λ n c u l is asks made kept. of_caller k sound n c is l kept u made asks;
  waits = λ n c l is it.
      sound.kept.waits n l (kept_of_call k.calls n c is ∙ kept_as k sound n c is l it.kept c.place refl it);
  holder = λ t n c l held asks kept.
      subst (λ (p : Place). IsLentAt p l) held.1 (owner k sound n c held.0 l kept ConnectToMe (ap kind_of asks));
}

-- ---- active calls

pub as_many : (q : CallTable) (t : TaskNo) (p : ℕ) (ns ms : List ℕ) → AreTheActive q t p ns → AreTheActive q t p ms
    → length ns ≡ length ms
as_many q t p ns ms a b = sym (active_count q t p ns a) ∙ active_count q t p ms b
