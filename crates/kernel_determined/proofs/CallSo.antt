-- The definition of a call does what is said of it.
use Rattle.std.proofs.Common.{◌≡◌, ℕ, ◌+◌, ◌*◌, ◌<◌, false, not, inl, inr, List, [], ◌∷◌, length, Option, None, Some, refl, sym, ap, subst, ◌∙◌, arith, nat_le, ◌≤◌}
use Rattle.std.specs.Prelude.{IsSome, slice_set, Result, Ok, Err}
use Rattle.std.specs.Option.{option_to_list}
use Rattle.std.proofs.lemmas.Bool.Decides.{nat_tests}
use Rattle.ipc_ids.specs.declared.numbers.Code.{Code}
use Rattle.ipc_ids.specs.declared.numbers.Label.{Label}
use Rattle.ipc_ids.specs.declared.numbers.TaskNo.{TaskNo}
use Rattle.ipc_ids.specs.declared.message.Msg.{Msg}
use Rattle.ipc_ids.specs.declared.message.PhoneState.{PhoneState}
use Rattle.ipc_ids.specs.declared.message.PhoneState.TheVariants.{Free, Connecting, Connected, HungUp, Slammed}
use Rattle.ipc_ids.specs.declared.message.Request.TheVariants as request
use Rattle.ipc_ids.specs.declared.methods.MethodKind.{MethodKind}
use Rattle.ipc_ids.specs.declared.methods.MethodKind.TheVariants.{PhoneHungUp, ConnectToMe, ConnectMeTo, DataWrite, DataRead, ShareOut, ShareIn, Unused, User}
use Rattle.ipc_ids.specs.declared.entry.Entry.TheVariants as entry
use Rattle.ipc_ids.specs.Codes.{enoent, eperm, elimit, ehangup}
use Rattle.ipc_ids.specs.Methods.{kind_of}
use Rattle.ipc_ids.specs.Tables.{most_active}
use Rattle.call_slab.specs.declared.call.Call.{Call}
use Rattle.call_slab.specs.declared.call.Place.{Place}
use Rattle.call_slab.specs.declared.call.Place.TheVariants.{Incoming, Answers}
use Rattle.answerbox.specs.Calls.{active_calls, used}
use Rattle.phone_table.specs.Phones.{state_at}
use Rattle.data_hooks.specs.DataMoments.{write_before_send, read_before_send}
use Rattle.share_hooks.specs.ShareMoments.{out_before_send, in_before_send}
use Rattle.address_space.specs.Sound as spaces
use Rattle.switchboard.specs.State.{KernelState, phone_at, label_of}
use Rattle.switchboard.specs.Sound.{IsSound}
use Rattle.switchboard.specs.Kept.{first_usable_of, kept_note}
use Rattle.switchboard.specs.Joins.{new_call, acceptance, answer_at_once, bare_reply}
use Rattle.switchboard.specs.Serving.{Served, refusal, as_it_is}
use Rattle.switchboard.proofs.Repeats.{by_test}
use Rattle.switchboard.proofs.Soundness.{length_rows}
use Rattle.kernel_core.specs.Moments.{keeping_to_send, carrying, bringing, asking, cut_call, before_send_of}
use Rattle.kernel_core.specs.Calling.{is_callable, sent_to, call_through, call_tested, call_over}
use Rattle.kernel_core.specs.Kernel.{and_event, serve}
use Rattle.kernel_laws.specs.PoolLaws.{pool}
use Rattle.kernel_laws.specs.CallCodes.{IsNoWay, IsNoCall, IsCheck}
use Rattle.kernel_laws.specs.DataLaws.{IsLawfulCopy, IsLawfulAsking, IsLawfulOffer, IsLawfulWish}
use Rattle.kernel_laws.proofs.Methods.{method_of}
use Rattle.kernel_laws.proofs.LawfulCalls.{method_test, some_usable, none_usable, check_by}
use Rattle.kernel_laws.proofs.LawfulData.{copy_is_lawful, asking_is_lawful, cut_is_lawful}
use Rattle.kernel_laws.proofs.LawfulShares.{offer_is_lawful, wish_is_lawful}
use Rattle.kernel_laws.proofs.PoolChanges.{pool-used}
use Rattle.kernel_laws.proofs.UsablePhones.{own, usable_one, least_one}
use Rattle.kernel_laws.specs.ActiveCalls.{AreTheActive}
use Rattle.kernel_laws.proofs.ActiveCalls.{has_active, active_count}
use Rattle.kernel_determined.specs.Frames.{IsMade, MayCome}
use Rattle.kernel_determined.specs.CallLaw.{IsAnsweredAtOnce, Content, IsContent, GoesOver, IsAccepted, IsCall}
use Rattle.kernel_determined.proofs.TakesSo.{has_fifth}
use Rattle.kernel_determined.proofs.SettleSo.{may_come, usable_there}
use Rattle.kernel_determined.proofs.CallDetermined.{call_is_determined}
use Rattle.std.proofs.lemmas.Bool.{not-true, not-false}
use Rattle.kernel_determined.proofs.HangupDetermined.{refuses, comes}
use Rattle.kernel_core.proofs.ByRequest as join

module _ (k : KernelState) (t : TaskNo) (p : ℕ) (msg : Msg) where
  made : (place : Place) → IsMade k t p msg false place (new_call k t p msg place)
  made place = record {
    number = refl;
    caller = refl;
    from = refl;
    label = refl;
    request = refl;
    msg = refl;
    reply = refl;
    discard = refl;
    bytes = refl;
    reserved = refl;
    place = refl;
  }

  at_once : (code : Code)
      → IsAnsweredAtOnce k t p msg code (and_event (answer_at_once k (new_call k t p msg (Answers t)) code))
  at_once code = record {
    told = refl;
    event = record { counted = refl; alive = refl; tasks = refl };
    phones = λ u q. refl;
    call = new_call k t p msg (Answers t);
    made = made (Answers t);
    calls = comes k.calls _ (record (new_call k t p msg (Answers t)) { reply = bare_reply code }) refl refl;
    memory = refl;
    entries = refl;
  }

  module _ (u : TaskNo) where
    abbrev new : Call
    new = new_call k t p msg (Incoming u)

    abbrev Over : Served → Type 0
    Over done = GoesOver k t p msg u (and_event done)

    refused_by : (code : Code) → IsCheck k t msg (Some code)
        → Over (answer_at_once k (record new { place = Answers t }) code)
    refused_by code check = record { cause = Some code; check = check; goes = at_once code }

    -- sent with this content, and no phone is kept
    sent : (c : Content) → IsContent k t msg c → c.kept ≡ None → IsCheck k t msg None → c.request.method ≡ msg.method
        → Over (acceptance (as_it_is k
        (record new { request = c.request; msg = c.seen; buffer = c.bytes; reserved = c.kept })) (Some u))
    sent c lawful none check method = record {
      cause = None;
      check = check;
      goes = record {
        told = refl;
        event = record { counted = refl; alive = refl; tasks = refl };
        call = new;
        made = made (Incoming u);
        content = c;
        lawful = lawful;
        note = [];
        phones = subst (λ o. MayCome o Connecting k (and_event
            (acceptance (as_it_is k (record new {
              request = c.request;
              msg = c.seen;
              buffer = c.bytes;
              reserved = c.kept;
            })) (Some u))).state []) (sym none) (λ v q. refl, refl);
        calls = comes k.calls _
            (record new { request = c.request; msg = c.seen; buffer = c.bytes; reserved = c.kept }) refl refl;
        memory = refl;
        entries = ap (λ m. entry.Accepted (record { 0 = k.calls.next_number }) (label_of t p) m (Some u) ∷ []) method;
      };
    }

    whole : (kind : MethodKind) → kind_of msg.method ≡ kind → (kind ≡ ConnectMeTo → ⊥) → (kind ≡ DataWrite → ⊥)
        → (kind ≡ DataRead → ⊥) → IsCheck k t msg None → Over (acceptance (as_it_is k new) (Some u))
    whole kind is n1 n2 n3 check = sent (record { request = msg; seen = msg; bytes = []; kept = None })
        (inr (inr (inr (record {
          no_phone = λ e. n1 (sym is ∙ ap kind_of e);
          no_write = λ e. n2 (sym is ∙ ap kind_of e);
          no_read = λ e. n3 (sym is ∙ ap kind_of e);
          request = refl;
          seen = refl;
          bytes = refl;
          kept = refl;
        })))) refl check refl

    module _ where
      by_copy : kind_of msg.method ≡ DataWrite → (told : Result (List ℕ) Code)
          → (spaces.IsSound k.memory → IsLawfulCopy k.memory t msg.args (pool k) told)
          → Over (sent_to u k new (carrying k new told))
      by_copy is (Ok bytes) law = sent (record {
        request = (cut_call new).request;
        seen = (cut_call new).request;
        bytes = bytes;
        kept = None;
      })
          (inr (inl (record {
            asks = method_of DataWrite msg.method is;
            copied = law;
            method = refl;
            cut = cut_is_lawful msg.args;
            seen = refl;
            kept = refl;
          }))) refl
          (check_by k t p msg DataWrite is None (λ sound. (Ok bytes, law sound, refl))) refl
      by_copy is (Err code) law = refused_by code (check_by k t p msg DataWrite is (Some code)
          (λ sound. (Err code, law sound, refl)))

      by_asking : kind_of msg.method ≡ DataRead → (told : Result ℕ Code) → IsLawfulAsking msg.args told
          → Over (sent_to u k new (bringing k new told))
      by_asking is (Ok count) law = sent (record {
        request = (cut_call new).request;
        seen = (cut_call new).request;
        bytes = [];
        kept = None;
      })
          (inr (inr (inl (record {
            asks = method_of DataRead msg.method is;
            bytes = refl;
            method = refl;
            cut = cut_is_lawful msg.args;
            seen = refl;
            kept = refl;
          })))) refl
          (check_by k t p msg DataRead is None (Ok count, law, refl)) refl
      by_asking is (Err code) law = refused_by code (check_by k t p msg DataRead is (Some code)
          (Err code, law, refl))

      by_offer : kind_of msg.method ≡ ShareOut → (told : Result Unit Code)
          → (spaces.IsSound k.memory → IsLawfulOffer k.memory t msg.args told)
          → Over (sent_to u k new (asking k new told))
      by_offer is (Ok done) law = whole ShareOut is (λ f. cc f) (λ f. cc f) (λ f. cc f)
          (check_by k t p msg ShareOut is None (λ sound. (Ok done, law sound, refl)))
      by_offer is (Err code) law = refused_by code (check_by k t p msg ShareOut is (Some code)
          (λ sound. (Err code, law sound, refl)))

      by_wish : kind_of msg.method ≡ ShareIn → (told : Result Unit Code) → IsLawfulWish msg.args told
          → Over (sent_to u k new (asking k new told))
      by_wish is (Ok done) law = whole ShareIn is (λ f. cc f) (λ f. cc f) (λ f. cc f)
          (check_by k t p msg ShareIn is None (Ok done, law, refl))
      by_wish is (Err code) law = refused_by code (check_by k t p msg ShareIn is (Some code)
          (Err code, law, refl))

      kept : (l : Label) → kind_of msg.method ≡ ConnectMeTo → first_usable_of k t ≡ Some l
          → Over (sent_to u k new (keeping_to_send k new (Some l)))
      kept l is e =
          let q : ℕ = l.phone.0 in
          let some = some_usable k t l e in
          subst (λ (m : Label). Over (sent_to u k new (keeping_to_send k new (Some m)))) (sym (own k t l e))
          (record {
            cause = None;
            check = check_by k t p msg ConnectMeTo is None
                ((λ _. some, λ _. refl), (λ x. absurd (cc x), λ none. absurd (none some)));
            goes = record {
              told = refl;
              event = record { counted = refl; alive = refl; tasks = length_rows k.tasks.phones t.0 q Connecting };
              call = new;
              made = made (Incoming u);
              content = record {
                request = msg;
                seen = record { method = msg.method; args = slice_set msg.args 4 (64 * t.0 + q) };
                bytes = [];
                kept = Some (label_of t q);
              };
              lawful = inl (record {
                asks = method_of ConnectMeTo msg.method is;
                phone = q;
                usable = usable_one k t l e;
                least = least_one k t l e;
                kept = refl;
                request = refl;
                method = refl;
                names = has_fifth (64 * t.0 + q) msg.args;
                bytes = refl;
              });
              note = option_to_list (kept_note (Some (label_of t q)) Connecting);
              phones = may_come k (Some (label_of t q)) Connecting _ refl (λ m x. there m x);
              calls = comes k.calls _ (join.kept_to_send k new (label_of t q)).call refl refl;
              memory = refl;
              entries = refl;
            };
          }) where
            there : (m : Label) → Some (label_of t l.phone.0) ≡ Some m
                → IsSome (state_at k.tasks.phones m.task.0 m.phone.0)
            there m x = let same : label_of t l.phone.0 ≡ m = cc x in
                subst (λ (n : Label). IsSome (state_at k.tasks.phones n.task.0 n.phone.0)) same
                (usable_there k t l.phone.0 (usable_one k t l e))

      by_phone : kind_of msg.method ≡ ConnectMeTo → (o : Option Label) → first_usable_of k t ≡ o
          → Over (sent_to u k new (keeping_to_send k new o))
      by_phone is None none = refused_by elimit (check_by k t p msg ConnectMeTo is (Some elimit)
          ((λ e. absurd (cc e), λ h. absurd (none_usable k t none h)), (λ _. none_usable k t none, λ _. refl)))
      by_phone is (Some l) usable = kept l is usable

      over : (kind : MethodKind) → kind_of msg.method ≡ kind → Over (sent_to u k new (before_send_of kind k new))
      over DataWrite is = by_copy is (write_before_send k.memory t msg.args (used k.calls))
          (λ sound. subst
          (λ n. IsLawfulCopy k.memory t msg.args n (write_before_send k.memory t msg.args (used k.calls)))
          (sym (pool-used k)) (copy_is_lawful k.memory t msg.args (used k.calls) sound))
      over DataRead is = by_asking is (read_before_send msg.args) (asking_is_lawful msg.args)
      over ShareOut is = by_offer is (out_before_send k.memory t msg.args)
          (λ sound. offer_is_lawful k.memory t msg.args sound)
      over ShareIn is = by_wish is (in_before_send msg.args) (wish_is_lawful msg.args)
      over ConnectMeTo is = by_phone is (first_usable_of k t) refl
      over ConnectToMe is = whole ConnectToMe is (λ f. cc f) (λ f. cc f) (λ f. cc f)
          (check_by k t p msg ConnectToMe is None refl)
      over User is = whole User is (λ f. cc f) (λ f. cc f) (λ f. cc f) (check_by k t p msg User is None refl)
      over PhoneHungUp is = whole PhoneHungUp is (λ f. cc f) (λ f. cc f) (λ f. cc f)
          (check_by k t p msg PhoneHungUp is None tt)
      over Unused is = whole Unused is (λ f. cc f) (λ f. cc f) (λ f. cc f)
          (check_by k t p msg Unused is None tt)

  -- ---- the tests

  module _ where
    abbrev Comes : Served → Type 0
    Comes done = IsCall t p msg k (and_event done)

    abbrev active : ℕ
    active = active_calls k.calls (label_of t p)

    -- the numbers of the active calls, as many as are counted
    these : (ns : List ℕ) × AreTheActive k.calls t p ns × (active ≡ length ns)
    these = let h = has_active k.calls t p in (h.0, h.1, active_count k.calls t p h.0 h.1)

    through : (s : PhoneState) → phone_at k t p ≡ Some s → (IsNoWay (Some s) → ⊥) → (IsNoCall msg.method → ⊥)
        → (ns : List ℕ) × AreTheActive k.calls t p ns × (length ns < 64) → Comes (call_through k t p msg s)
    through s e way may few = inr (inr (inr (by s e way))) where
      other : (r s : PhoneState) → phone_at k t p ≡ Some r → phone_at k t p ≡ Some s → r ≡ s
      other r s e f = let g : Some r ≡ Some s = sym e ∙ f in cc

      by : (s : PhoneState) → phone_at k t p ≡ Some s → (IsNoWay (Some s) → ⊥)
          → IsAccepted t p msg k (and_event (call_through k t p msg s))
      by Free e way = absurd (way tt)
      by Connecting e way = absurd (way tt)
      by HungUp e way = record {
        way = λ h. way (subst IsNoWay e h);
        may = may;
        few = few;
        hung_up = λ _. at_once ehangup;
        slammed = λ f. let g = other HungUp Slammed e f in absurd (cc g);
        leads = λ u f. let g = other HungUp (Connected u) e f in absurd (cc g);
      }
      by Slammed e way = record {
        way = λ h. way (subst IsNoWay e h);
        may = may;
        few = few;
        hung_up = λ f. let g = other Slammed HungUp e f in absurd (cc g);
        slammed = λ _. at_once enoent;
        leads = λ u f. let g = other Slammed (Connected u) e f in absurd (cc g);
      }
      by (Connected w) e way = record {
        way = λ h. way (subst IsNoWay e h);
        may = may;
        few = few;
        hung_up = λ f. let g = other (Connected w) HungUp e f in absurd (cc g);
        slammed = λ f. let g = other (Connected w) Slammed e f in absurd (cc g);
        leads = λ u f. let g : w ≡ u = let h = other (Connected w) (Connected u) e f in cc in
            subst (λ (v : TaskNo). GoesOver k t p msg v (and_event (call_through k t p msg (Connected w)))) g
            (over w (kind_of msg.method) refl);
      }

    tested : (s : PhoneState) → phone_at k t p ≡ Some s → (IsNoWay (Some s) → ⊥) → Comes (call_tested k t p msg s)
    tested s e way =
        by_test Comes (not (is_callable (kind_of msg.method))) _ _
        (λ h. inr (inl (record {
          way = λ x. way (subst IsNoWay e x);
          none = (method_test msg.method).0 (not-true _ h);
          refusal = refuses k eperm;
        })))
        (λ h.
        let may = (method_test msg.method).1 (not-false _ h) in
        by_test Comes (nat_le most_active active) _ _
        (λ full. inr (inr (inl (record {
          way = λ x. way (subst IsNoWay e x);
          may = may;
          many = (
            these.0,
            these.1,
            (let same = these.2 in let over : 64 ≤ active = grind (arith, nat_tests, full) in
                omega (arith, same, over)),
          );
          refusal = refuses k elimit;
        }))))
        (λ few. through s e way may (
          these.0,
          these.1,
          (let same = these.2 in let under : active < 64 = grind (arith, nat_tests, few) in
              omega (arith, same, under)),
        )))

    none : (o : Option PhoneState) → phone_at k t p ≡ o → IsNoWay o → Comes (refusal k enoent)
    none o e h = inl (record { nowhere = subst IsNoWay (sym e) h; refusal = refuses k enoent })

    called : (o : Option PhoneState) → phone_at k t p ≡ o → Comes (call_over k t p msg o)
    called (Some (Connected u)) e = tested (Connected u) e (λ h. h)
    called (Some HungUp) e = tested HungUp e (λ h. h)
    called (Some Slammed) e = tested Slammed e (λ h. h)
    called o e = none o e tt

    pub call_is_so : IsCall t p msg k (serve k t (request.Call p msg))
    call_is_so = called (phone_at k t p) refl

pub call_is_served : (k : KernelState) (t : TaskNo) (p : ℕ) (msg : Msg) (done : Served) → IsSound k
    → IsCall t p msg k done → done ≡ serve k t (request.Call p msg)
call_is_served k t p msg done sound is = call_is_determined k t p msg done (serve k t (request.Call p msg))
    sound.memory.spaces is (call_is_so k t p msg)
