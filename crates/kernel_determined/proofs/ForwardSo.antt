-- The definition of a forward does what is said of it.
use Rattle.std.proofs.Common.{◌≡◌, ℕ, Bool, true, false, ◌⊎◌, inl, inr, Option, None, Some, refl, sym, ap, subst, ◌∙◌, arith, nat_lt}
use Rattle.std.specs.Prelude.{◌==◌, if◌then◌else◌, slice_index, Err}
use Rattle.std.specs.Option.{option_map_or, option_to_list}
use Rattle.std.proofs.lemmas.Bool.{false≢true}
use Rattle.std.proofs.lemmas.Bool.Decides.{nat_tests}
use Rattle.ipc_ids.specs.declared.numbers.Code.{Code}
use Rattle.ipc_ids.specs.declared.numbers.TaskNo.{TaskNo}
use Rattle.ipc_ids.specs.declared.message.Mode.{Mode}
use Rattle.ipc_ids.specs.declared.message.Mode.TheVariants.{Plain, Route}
use Rattle.ipc_ids.specs.declared.message.Msg.{Msg}
use Rattle.ipc_ids.specs.declared.message.PhoneState.{PhoneState}
use Rattle.ipc_ids.specs.declared.message.PhoneState.TheVariants.{Free, Connected}
use Rattle.ipc_ids.specs.declared.message.Request.TheVariants as request
use Rattle.ipc_ids.specs.declared.message.Outcome.TheVariants as outcome
use Rattle.ipc_ids.specs.declared.methods.MethodKind.{MethodKind}
use Rattle.ipc_ids.specs.declared.methods.MethodKind.TheVariants.{PhoneHungUp, ConnectToMe, ConnectMeTo, DataWrite, DataRead, ShareOut, ShareIn, Unused, User}
use Rattle.ipc_ids.specs.Codes.{enoent, eperm, eforward}
use Rattle.ipc_ids.specs.Methods.{kind_of, connect_to_me, connect_me_to}
use Rattle.call_slab.specs.declared.call.Call.{Call}
use Rattle.call_slab.specs.declared.call.Place.TheVariants.{Incoming, Dispatched}
use Rattle.answerbox.specs.Calls.{call_at}
use Rattle.forwarding.specs.declared.passing.ForwardFault.TheVariants.{NotHeld, NotForwardable}
use Rattle.forwarding.specs.Forwarding.{is_held, is_forwardable, changed_msg, msg_after, label_after}
use Rattle.forwarding.specs.Routes.{callee_of, receiver_of, as_forwarded}
use Rattle.switchboard.specs.State.{KernelState, phone_at, label_of}
use Rattle.switchboard.specs.Sound.{IsSound, IsSoundCall}
use Rattle.switchboard.specs.Kept.{lent_phone, kept_note, unless_freed}
use Rattle.switchboard.specs.Board.{IsPendingAt}
use Rattle.switchboard.specs.Joins.{bare_reply, passage, passed_call}
use Rattle.switchboard.specs.Serving.{Served, telling, refusal}
use Rattle.kernel_core.specs.Forward.{failed_forward, forward_told}
use Rattle.kernel_core.specs.Kernel.{and_event, serve}
use Rattle.kernel_laws.specs.HeldCalls.{IsHeld, MayPass}
use Rattle.kernel_laws.specs.Routes.{label_by}
use Rattle.kernel_laws.proofs.HeldCalls.{may_pass, may_not_pass}
use Rattle.kernel_laws.proofs.Methods.{method_of, user_kind}
use Rattle.kernel_determined.specs.Frames.{HasFifth}
use Rattle.kernel_determined.specs.ForwardLaw.{IsOther, IsNewMessage, Passes, Fails, IsForward}
use Rattle.kernel_determined.proofs.SettleSo.{may_come, as_many, moves, lent_is, lent_there, settle_quiet, settled_is}
use Rattle.kernel_determined.proofs.TakesSo.{has_fifth}
use Rattle.kernel_determined.proofs.ForwardDetermined.{forward_is_determined}
use Rattle.kernel_laws.proofs.Places.{stands_true}
use Rattle.kernel_core.proofs.InEvent.{same_place-true}
use Rattle.std.proofs.lemmas.Option.{same_Some}
use Rattle.kernel_determined.proofs.HangupDetermined.{refuses}

-- a call that task t holds
module _ (k : KernelState) (sound : IsSound k) (t : TaskNo) (n : ℕ) (c : Call) (is : call_at k.calls n ≡ Some c)
    (at : c.place ≡ Dispatched t) where
  pending : IsPendingAt c.place
  pending = subst IsPendingAt (sym at) tt

  its : IsSoundCall k.tasks k.calls.next_number k.calls.next_stamp n c
  its = sound.calls.each n c is

  -- the forward fails
  fails : (code : Code) → Fails n c code k (and_event (failed_forward k (Some c) code))
  fails code = record {
    quiet = settle_quiet k c (bare_reply eforward) None (outcome.Refused code);
    settled = settled_is k k.tasks refl n c its pending _ (bare_reply eforward) None
        (record { phones = refl; calls = refl });
  }

  -- ---- the call is passed on

  system_kind : (m : ℕ) → IsOther m → (change msg : Msg) → changed_msg (kind_of m) change msg ≡ msg
  system_kind m other change msg = by_kind (kind_of m) refl where
    user_method : kind_of m ≡ User → ⊥
    user_method e = user (m == 0) (m == 1) (m == 2) (m == 3) (m == 4) (m == 5) (m == 6) (nat_lt m 512)
        (let low = other.system in grind (arith, nat_tests, low)) e where
          user : (a b c d e f g h : Bool) → h ≡ true
              → (if a then PhoneHungUp else if b then ConnectToMe else if c then ConnectMeTo else if d then DataWrite
              else if e then DataRead else if f then ShareOut else if g then ShareIn else if h then Unused else User)
              ≡ User → ⊥
          user false false false false false false false false is x = cc is
          user a b c d e f g h is x = cc x

    by_kind : (kind : MethodKind) → kind_of m ≡ kind → changed_msg kind change msg ≡ msg
    by_kind User e = absurd (user_method e)
    by_kind ConnectToMe e = absurd (other.to_me (method_of ConnectToMe m e))
    by_kind ConnectMeTo e = absurd (other.me_to (method_of ConnectMeTo m e))
    by_kind _ e = refl

  message : (change : Option Msg) → IsNewMessage change c (msg_after change c)
  message None = record {
    unchanged = λ _. refl;
    user = λ new e. absurd (cc e);
    connect = λ new e. absurd (cc e);
    others = λ new e. absurd (cc e);
  }
  message (Some change) = record {
    unchanged = λ e. absurd (cc e);
    user = λ new e user. ap (λ kind. changed_msg kind change c.msg) (user_kind c.request.method user)
        ∙ same_Some change new e;
    connect = λ new e asks. subst (λ (x : Msg). ((msg_after (Some change) c).method ≡ c.msg.method) × HasFifth
        (slice_index c.msg.args 4) x.args (msg_after (Some change) c).args) (same_Some change new e) (connected asks);
    others = λ new e other. system_kind c.request.method other change c.msg;
  } where
    of_kind : (kind : MethodKind) → (kind ≡ ConnectToMe) ⊎ (kind ≡ ConnectMeTo)
        → ((changed_msg kind change c.msg).method ≡ c.msg.method)
        × HasFifth (slice_index c.msg.args 4) change.args (changed_msg kind change c.msg).args
    of_kind ConnectToMe h = (refl, has_fifth (slice_index c.msg.args 4) change.args)
    of_kind ConnectMeTo h = (refl, has_fifth (slice_index c.msg.args 4) change.args)
    of_kind _ h = absurd (elim h [ inl e ↦ cc e | inr e ↦ cc e ])

    connected : (c.request.method ≡ connect_to_me) ⊎ (c.request.method ≡ connect_me_to)
        → ((msg_after (Some change) c).method ≡ c.msg.method)
        × HasFifth (slice_index c.msg.args 4) change.args (msg_after (Some change) c).args
    connected h =
        of_kind (kind_of c.request.method) (elim h [ inl asks ↦ inl (ap kind_of asks) | inr asks ↦ inr (ap kind_of asks) ])

  label_is : (p : ℕ) (mode : Mode) → label_after t p mode c ≡ label_by mode c.label (label_of t p)
  label_is p Plain = refl
  label_is p Route = refl

  passed : (p : ℕ) (mode : Mode) (change : Option Msg) (u : TaskNo)
      → Passes t n p mode change c u k
      (and_event (telling (passage (msg_after change c) (label_after t p mode c) t u k c) outcome.Done))
  passed p mode change u =
      subst (λ l. Passes t n p mode change c u k (and_event
      (telling (passage (msg_after change c) l t u k c) outcome.Done)))
      (sym (label_is p mode)) (record {
        quiet = record {
          answer = refl;
          event = record { counted = refl; alive = refl; tasks = as_many k.tasks.phones (lent_phone c) Free };
          memory = refl;
        };
        msg = msg_after change c;
        message = message change;
        freed = lent_phone c;
        rest = unless_freed (lent_phone c) c.reserved;
        back = lent_is k k.tasks refl n c its pending;
        note = option_to_list (kept_note (lent_phone c) Free);
        phones = may_come k (lent_phone c) Free _ refl (lent_there k k.tasks refl n c its pending);
        calls = moves k.calls _ n (passed_call (msg_after change c) (label_by mode c.label (label_of t p)) c)
            (Incoming u)
            its.number refl;
        entries = refl;
      })

-- ---- a forward

module _ (k : KernelState) (sound : IsSound k) (t : TaskNo) (n p : ℕ) (mode : Mode) (change : Option Msg) where
  abbrev Comes : Served → Type 0
  Comes done = IsForward t n p mode change k (and_event done)

  unheld : ((c : Call) → IsHeld t k n c → ⊥) → Comes (refusal k enoent)
  unheld none = inl (record { unheld = none; refusal = refuses k enoent })

  module _ (c : Call) (is : call_at k.calls n ≡ Some c) where
    module _ (at : c.place ≡ Dispatched t) (may : MayPass change c) where
      nowhere : ((u : TaskNo) → phone_at k t p ≡ Some (Connected u) → ⊥) → Comes (failed_forward k (Some c) enoent)
      nowhere none = inr (inr (inl (record {
        call = c;
        held = (is, at);
        may = may;
        nowhere = none;
        fails = fails k sound t n c is at enoent;
      })))

      by_phone : (o : Option PhoneState) → phone_at k t p ≡ o
          → Comes (forward_told k t p mode change (Some c) (as_forwarded n (callee_of o)))
      by_phone (Some (Connected u)) e = inr (inr (inr (record {
        call = c;
        held = (is, at);
        may = may;
        to = u;
        leads = e;
        passes = passed k sound t n c is at p mode change u;
      })))
      by_phone _ e = nowhere (λ u leads. let f = sym e ∙ leads in cc)

    by_tests : (held may : Bool) → is_held t c ≡ held → is_forwardable change c ≡ may
        → Comes (forward_told k t p mode change (Some c) (as_forwarded n
        (if held then (if may then callee_of (phone_at k t p) else Err NotForwardable) else Err NotHeld)))
    by_tests true true e f = by_phone (same_place-true c.place (Dispatched t) e) (may_pass change c f) (phone_at k t p) refl
    by_tests true false e f = inr (inl (record {
      call = c;
      held = (is, same_place-true c.place (Dispatched t) e);
      forbidden = may_not_pass change c f;
      fails = fails k sound t n c is (same_place-true c.place (Dispatched t) e) eperm;
    }))
    by_tests false may e f = unheld (λ d h. false≢true
        (sym e ∙ ap (is_held t) (same_Some c d (sym is ∙ h.0)) ∙ stands_true (Dispatched t) d.place h.1))

  by_call : (o : Option Call) → call_at k.calls n ≡ o
      → Comes (forward_told k t p mode change o
      (as_forwarded n (option_map_or (receiver_of t (phone_at k t p) change) o (Err NotHeld))))
  by_call None is = unheld (λ c h. let g : None ≡ Some c = sym is ∙ h.0 in cc)
  by_call (Some c) is = by_tests c is (is_held t c) (is_forwardable change c) refl refl

  pub forward_is_so : IsForward t n p mode change k (serve k t (request.Forward n p mode change))
  forward_is_so = by_call (call_at k.calls n) refl

pub forward_is_served : (k : KernelState) (t : TaskNo) (n p : ℕ) (mode : Mode) (change : Option Msg) (done : Served)
    → IsSound k → IsForward t n p mode change k done → done ≡ serve k t (request.Forward n p mode change)
forward_is_served k t n p mode change done sound is = forward_is_determined t n p mode change k done
    (serve k t (request.Forward n p mode change)) is (forward_is_so k sound t n p mode change)
