-- A forward is refused by the first cause in any state.
use Rattle.std.proofs.Common.{◌≡◌, ℕ, Bool, true, false, Option, None, Some, Err, refl, ap, sym, subst, ◌∙◌}
use Rattle.std.specs.Prelude.{if◌then◌else◌}
use Rattle.std.specs.Option.{option_map_or}
use Rattle.std.proofs.lemmas.Bool.{false≢true}
use Rattle.std.proofs.lemmas.Option.{same_Some}
use Rattle.ipc_ids.specs.declared.numbers.Code.{Code}
use Rattle.ipc_ids.specs.declared.numbers.TaskNo.{TaskNo}
use Rattle.ipc_ids.specs.declared.message.Msg.{Msg}
use Rattle.ipc_ids.specs.declared.message.Mode.{Mode}
use Rattle.ipc_ids.specs.declared.message.PhoneState.{PhoneState}
use Rattle.ipc_ids.specs.declared.message.PhoneState.TheVariants.{Connected}
use Rattle.ipc_ids.specs.Codes.{enoent, eperm, eforward}
use Rattle.call_slab.specs.declared.call.Call.{Call}
use Rattle.call_slab.specs.declared.call.Place.TheVariants.{Dispatched, Answers}
use Rattle.answerbox.specs.Calls.{CallTable, call_at}
use Rattle.forwarding.specs.declared.passing.ForwardFault.TheVariants.{NotHeld, NotForwardable}
use Rattle.forwarding.specs.Forwarding.{is_held, is_forwardable}
use Rattle.forwarding.specs.Routes.{callee_of, receiver_of, as_forwarded}
use Rattle.switchboard.specs.State.{KernelState, is_alive, phone_at}
use Rattle.switchboard.specs.Serving.{Served, refusal}
use Rattle.switchboard.specs.Joins.{lives, settle_for, declined_call}
use Rattle.switchboard.proofs.Lookups.{put_here}
use Rattle.kernel_core.specs.Forward.{failed_forward, forward_told, forward}
use Rattle.kernel_laws.specs.CallCodes.{own_reply}
use Rattle.kernel_laws.specs.HeldCalls.{IsHeld, MayPass}
use Rattle.kernel_laws.specs.Routes.{Leads}
use Rattle.kernel_laws.proofs.HeldCalls.{may_pass, may_not_pass}
use Rattle.kernel_determined.specs.ForwardCauses.{IsFailed, HasFirstCause}
use Rattle.kernel_laws.proofs.Places.{stands_true}
use Rattle.kernel_core.proofs.InEvent.{same_place-true}

module _ (k : KernelState) (t : TaskNo) (n p : ℕ) (mode : Mode) (change : Option Msg) where
  abbrev Comes : Served → Type 0
  Comes s = HasFirstCause t n p change k s

  module _ (c : Call) (live : call_at k.calls n ≡ Some c) where
    abbrev IsAnsweredBy : TaskNo → CallTable → Type 0
    IsAnsweredBy u calls =
        (d : Call) × (call_at calls c.number.0 ≡ Some d) × (d.place ≡ Answers u) × (d.reply ≡ own_reply eforward)

    same_live : (d : Call) → call_at k.calls n ≡ Some d → c ≡ d
    same_live d is = same_Some c d (sym live ∙ is)

    answered : (o : Option TaskNo) (b : Bool) → lives k o ≡ b → (u : TaskNo) → o ≡ Some u → is_alive k u ≡ true
        → IsAnsweredBy u (settle_for k c (own_reply eforward) None o b).state.calls
    answered None b is u made alive = absurd (cc made)
    answered (Some w) false is u made alive =
        let same : w ≡ u = cc in absurd (false≢true (sym is ∙ ap (is_alive k) same ∙ alive))
    answered (Some w) true is u made alive =
        let same : w ≡ u = cc in
        let d : Call = declined_call c (own_reply eforward) in
        let e : Call = record d { place = Answers w; stamp = k.calls.next_stamp } in
        (e, put_here k.calls c.number.0 c.number.0 e refl, ap Answers same, refl)

    failed : (code : Code) → IsFailed code c k (failed_forward k (Some c) code)
    failed code = record {
      told = refl;
      answered = λ u made alive. answered c.caller (lives k c.caller) refl u made alive;
    }

    failed_as : (code : Code) (d : Call) → call_at k.calls n ≡ Some d
        → IsFailed code d k (failed_forward k (Some c) code)
    failed_as code d is =
        subst (λ (x : Call). IsFailed code x k (failed_forward k (Some c) code)) (same_live d is) (failed code)

    unheld : is_held t c ≡ false → Comes (refusal k enoent)
    unheld is = record {
      unheld = λ none. record { told = refl; calls = refl };
      forbidden = λ d h no. absurd (not_this d h);
      dead = λ d h may none. absurd (not_this d h);
      passed = λ d u h may leads. absurd (not_this d h);
    } where
      not_this : (d : Call) → IsHeld t k n d → ⊥
      not_this d h = false≢true (sym is ∙ ap (is_held t) (same_live d h.0) ∙ stands_true (Dispatched t) d.place h.1)

    module _ (held : is_held t c ≡ true) where
      here : IsHeld t k n c
      here = (live, same_place-true c.place (Dispatched t) held)

      forbidden : is_forwardable change c ≡ false → Comes (failed_forward k (Some c) eperm)
      forbidden is = record {
        unheld = λ none. absurd (none c here);
        forbidden = λ d h no. failed_as eperm d h.0;
        dead = λ d h may none. absurd (never d h may);
        passed = λ d u h may leads. absurd (never d h may);
      } where
        never : (d : Call) → IsHeld t k n d → MayPass change d → ⊥
        never d h may = may_not_pass change c is (subst (MayPass change) (sym (same_live d h.0)) may)

      module _ (may : is_forwardable change c ≡ true) where
        able : (d : Call) → IsHeld t k n d → MayPass change d
        able d h = subst (MayPass change) (same_live d h.0) (may_pass change c may)

        dead : ((u : TaskNo) → Leads k t p u → ⊥) → Comes (failed_forward k (Some c) enoent)
        dead none = record {
          unheld = λ no. absurd (no c here);
          forbidden = λ d h no. absurd (no (able d h));
          dead = λ d h able none. failed_as enoent d h.0;
          passed = λ d u h able leads. absurd (none u leads);
        }

        by_phone : (o : Option PhoneState) → phone_at k t p ≡ o
            → Comes (forward_told k t p mode change (Some c) (as_forwarded n (callee_of o)))
        by_phone (Some (Connected v)) is = record {
          unheld = λ no. absurd (no c here);
          forbidden = λ d h no. absurd (no (able d h));
          dead = λ d h able none. absurd (none v is);
          passed = λ d u h able leads. refl;
        }
        by_phone _ is = dead (λ u leads. let e = sym is ∙ leads in cc)

    by_tests : (held may : Bool) → is_held t c ≡ held → is_forwardable change c ≡ may
        → Comes (forward_told k t p mode change (Some c) (as_forwarded n
        (if held then (if may then callee_of (phone_at k t p) else Err NotForwardable) else Err NotHeld)))
    by_tests false may is able = unheld is
    by_tests true false is able = forbidden is able
    by_tests true true is able = by_phone is able (phone_at k t p) refl

  by_call : (o : Option Call) → call_at k.calls n ≡ o
      → Comes (forward_told k t p mode change o (as_forwarded n
      (option_map_or (receiver_of t (phone_at k t p) change) o (Err NotHeld))))
  by_call None is = record {
    unheld = λ none. record { told = refl; calls = refl };
    forbidden = λ d h no. absurd (none d h.0);
    dead = λ d h may no. absurd (none d h.0);
    passed = λ d u h may leads. absurd (none d h.0);
  } where
    none : (d : Call) → call_at k.calls n ≡ Some d → ⊥
    none d e = let f = sym is ∙ e in cc
  by_call (Some c) is = by_tests c is (is_held t c) (is_forwardable change c) refl refl

pub forwards_are_told : (k : KernelState) (t : TaskNo) (n p : ℕ) (mode : Mode) (change : Option Msg)
    → HasFirstCause t n p change k (forward k t n p mode change)
forwards_are_told k t n p mode change = by_call k t n p mode change (call_at k.calls n) refl
