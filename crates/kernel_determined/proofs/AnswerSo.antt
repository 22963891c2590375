-- The definition of an answer does what is said of it.
use Rattle.std.proofs.Common.{◌≡◌, ℕ, ◌<◌, ◌≤◌, Bool, true, false, ◌⊎◌, inl, inr, List, [], ◌∷◌, length, Option, None, Some, refl, sym, ap, subst, ◌∙◌, arith, nat_lt}
use Rattle.std.specs.Prelude.{if◌then◌else◌, IsSome, Result, Ok, Err, take}
use Rattle.std.specs.Option.{option_to_list}
use Rattle.std.proofs.lemmas.Bool.{false≢true}
use Rattle.std.proofs.lemmas.Bool.Decides.{nat_tests}
use Rattle.std.proofs.lemmas.Option.{same_Some}
use Rattle.ipc_ids.specs.declared.numbers.Code.{Code}
use Rattle.ipc_ids.specs.declared.numbers.Label.{Label}
use Rattle.ipc_ids.specs.declared.numbers.StoreNo.{StoreNo}
use Rattle.ipc_ids.specs.declared.numbers.TaskNo.{TaskNo}
use Rattle.ipc_ids.specs.declared.message.Reply.{Reply}
use Rattle.ipc_ids.specs.declared.message.PhoneState.TheVariants.{Connected}
use Rattle.ipc_ids.specs.declared.message.Request.TheVariants as request
use Rattle.ipc_ids.specs.declared.message.Outcome.TheVariants as outcome
use Rattle.ipc_ids.specs.declared.entry.Entry.{Entry}
use Rattle.ipc_ids.specs.declared.entry.Entry.TheVariants as entry
use Rattle.ipc_ids.specs.declared.methods.MethodKind.{MethodKind}
use Rattle.ipc_ids.specs.declared.methods.MethodKind.TheVariants.{PhoneHungUp, ConnectToMe, ConnectMeTo, DataWrite, DataRead, ShareOut, ShareIn, Unused, User}
use Rattle.ipc_ids.specs.Codes.{eok, enoent, elimit}
use Rattle.ipc_ids.specs.Methods.{kind_of}
use Rattle.call_slab.specs.declared.call.Call.{Call}
use Rattle.call_slab.specs.declared.call.Place.TheVariants.{Dispatched, Answers}
use Rattle.answerbox.specs.Calls.{call_at, used}
use Rattle.address_space.specs.Memory.{Memory, Step, write, refused}
use Rattle.address_space.specs.Sound as spaces
use Rattle.data_hooks.specs.DataMoments.{write_accept, read_accept}
use Rattle.share_hooks.specs.ShareMoments.{out_accept, in_accept}
use Rattle.forwarding.specs.Forwarding.{is_held}
use Rattle.switchboard.specs.Board.{IsPendingAt}
use Rattle.switchboard.specs.State.{KernelState, is_alive}
use Rattle.switchboard.specs.Sound.{IsSound, IsSoundCall, NeedsPhone}
use Rattle.switchboard.specs.Kept.{keeper_of, kept_phone, kept_note, with_kept, accepts, who_keeps}
use Rattle.switchboard.specs.Serving.{Served, Handed, telling, refusal, as_it_is}
use Rattle.switchboard.specs.Joins.{lives, answer_to, code_of, accepted_me_to, vanishing, settle}
use Rattle.switchboard.specs.Data.{code_told, bytes_told, accepted_read}
use Rattle.switchboard.specs.Sharing.{shared_note}
use Rattle.switchboard.proofs.Soundness.{value_of}
use Rattle.kernel_core.specs.Answering.{accept_for, answer_call, answer_held, held_call}
use Rattle.kernel_core.specs.Moments.{on_accept_of}
use Rattle.kernel_core.specs.Kernel.{and_event, serve}
use Rattle.kernel_laws.specs.DataLaws.{code_after, first, second, third, IsLawfulTaking}
use Rattle.kernel_laws.specs.MemoryRequests.{made}
use Rattle.kernel_laws.specs.HeldCalls.{IsHeld}
use Rattle.kernel_laws.proofs.PoolChanges.{pool-used}
use Rattle.kernel_laws.proofs.AnswerWords.{same_told, accepts_eok}
use Rattle.kernel_laws.proofs.LawfulData.{length_taken, taking_is_lawful}
use Rattle.kernel_laws.proofs.Lists.{get_take}
use Rattle.kernel_laws.proofs.MemoryRequests.{written_is, added}
use Rattle.kernel_laws.proofs.Methods.{method_of}
use Rattle.kernel_determined.specs.Frames.{PhoneComesTo}
use Rattle.kernel_determined.specs.SettleLaw.{IsWanted}
use Rattle.kernel_determined.specs.AnswerLaw.{IsWholePlacing, bytes_after, Reaches, ConnectsTo, ConnectsNothing, WritesBytes, TakesBytes, SharesArea, IsPlain, AnswersPlainly, Accepts, AnswersDeclining, AnswersNobody, AnswersAccepting, IsAnswer}
use Rattle.kernel_determined.proofs.HangupDetermined.{refuses}
use Rattle.kernel_determined.proofs.TakesSo.{write_is_whole}
use Rattle.kernel_determined.proofs.ShareDetermined.{share_is_whole}
use Rattle.kernel_determined.proofs.SettleSo.{may_come, as_many, moves, kept_is, kept_there, ended_is, settle_quiet, vanish_quiet, settled_is}
use Rattle.kernel_determined.proofs.AnswerDetermined.{answer_is_determined, holder_lives}
use Rattle.kernel_laws.proofs.Places.{stands_true}
use Rattle.kernel_core.proofs.InEvent.{same_place-true}
use Rattle.kernel_core.proofs.KindsOfCalls.{same_code}

-- ---- what is done to memory

pub placing_is_whole : (m : Memory) (t : TaskNo) (brought : List ℕ) (reply : Reply) → spaces.IsSound m
    → IsWholePlacing m t brought reply (write_accept m t brought reply)
placing_is_whole m t brought reply sound = by_many (nat_lt (length brought) (second reply.args)) refl where
  by_many : (b : Bool) → nat_lt (length brought) (second reply.args) ≡ b → IsWholePlacing m t brought reply
      (if b then refused m elimit else write m t (first reply.args) (take (second reply.args) brought))
  by_many true is =
      let many : length brought < second reply.args = grind (arith, nat_tests, is) in
      record { more = λ _. (refl, refl); placed = λ few. absurd (omega (arith, many, few)) }
  by_many false is =
      let few : second reply.args ≤ length brought = grind (arith, nat_tests, is) in
      record {
        more = λ many. absurd (omega (arith, many, few));
        placed = λ _. (
          take (second reply.args) brought,
          record {
            many = length_taken brought (second reply.args) few;
            each = λ i less. get_take brought (second reply.args) i less;
          },
          write_is_whole m t (first reply.args) (take (second reply.args) brought) sound,
        );
      }

bytes_after_is : (told : Result (List ℕ) Code) (carried : List ℕ) → bytes_told told carried ≡ bytes_after told carried
bytes_after_is (Ok bytes) carried = refl
bytes_after_is (Err code) carried = refl

shared_is : (t : TaskNo) (base pages rights : ℕ) (told : Result StoreNo Code)
    → option_to_list (shared_note t base pages rights told) ≡ made t base pages rights told
shared_is t base pages rights (Ok store) = refl
shared_is t base pages rights (Err code) = refl

-- ---- a call that task t holds

module _ (k : KernelState) (sound : IsSound k) (t : TaskNo) (n : ℕ) (reply : Reply) (c : Call)
    (is : call_at k.calls n ≡ Some c) (at : c.place ≡ Dispatched t) where
  pending : IsPendingAt c.place
  pending = subst IsPendingAt (sym at) tt

  its : IsSoundCall k.tasks k.calls.next_number k.calls.next_stamp n c
  its = sound.calls.each n c is

  module _ (u : TaskNo) (lives_u : is_alive k u ≡ true) where
    abbrev Answered : Handed → Served
    Answered h = and_event (telling (answer_to h (Some t) u) outcome.Done)

    abbrev with_code : Code → List ℕ → Call
    with_code code bytes = record c { reply = record { code = code; args = reply.args }; buffer = bytes }

    -- the call reaches its caller, by a moment that changes the memory alone
    reaches : (code : Code) (bytes : List ℕ) (memory : Memory) (noted : Option Entry)
        → Reaches t n reply c u code bytes memory
        (option_to_list noted) k (Answered (record {
          state = record { tasks = k.tasks; calls = k.calls; memory = memory; events = k.events };
          call = with_code code bytes;
          note = noted;
        }))
    reaches code bytes memory noted = record {
      told = refl;
      event = record { counted = refl; alive = refl; tasks = refl };
      calls = moves k.calls _ n (with_code code bytes) (Answers u) its.number refl;
      memory_after = refl;
      entries = refl;
    }

    -- with what is told of a change of memory
    reaches_told : {A : Type 0} (told : Result A Code) (bytes : List ℕ) (memory : Memory) (noted : Option Entry)
        (es : List Entry) → option_to_list noted ≡ es
        → Reaches t n reply c u (code_after told) bytes memory es k (Answered (record {
          state = record { tasks = k.tasks; calls = k.calls; memory = memory; events = k.events };
          call = with_code (code_told told) bytes;
          note = noted;
        }))
    reaches_told told bytes memory noted es same =
        let done : Served = Answered (record {
          state = record { tasks = k.tasks; calls = k.calls; memory = memory; events = k.events };
          call = with_code (code_told told) bytes;
          note = noted;
        }) in
        subst (λ (x : List Entry). Reaches t n reply c u (code_after told) bytes memory x k done) same
        (subst (λ (code : Code). Reaches t n reply c u code bytes memory (option_to_list noted) k done) (same_told told)
        (reaches (code_told told) bytes memory noted))

    -- or by one that changes a phone
    reaches_with : (to : TaskNo) (code : Code) (kept : Option Label) → Reaches t n reply c u code c.buffer k.memory
        (option_to_list (kept_note kept (Connected to))) k (Answered (record {
          state = with_kept k kept (Connected to);
          call = with_code code c.buffer;
          note = kept_note kept (Connected to);
        }))
    reaches_with to code kept = record {
      told = refl;
      event = record { counted = refl; alive = refl; tasks = as_many k.tasks.phones kept (Connected to) };
      calls = moves k.calls _ n (with_code code c.buffer) (Answers u) its.number refl;
      memory_after = refl;
      entries = refl;
    }

    -- what is done by the kind of the method
    abbrev AcceptsOf : MethodKind → Served → Type 0
    AcceptsOf ConnectToMe done = ConnectsTo u t n reply c u k done ⊎ ConnectsNothing t n reply c u k done
    AcceptsOf ConnectMeTo done = ConnectsTo t t n reply c u k done
    AcceptsOf DataWrite done = WritesBytes t n reply c u k done
    AcceptsOf DataRead done = TakesBytes t n reply c u k done
    AcceptsOf ShareOut done = SharesArea u (first c.request.args) t (first reply.args) t n reply c u k done
    AcceptsOf ShareIn done = SharesArea t (first reply.args) u (first c.request.args) t n reply c u k done
    AcceptsOf PhoneHungUp done = AnswersPlainly t n reply c u k done
    AcceptsOf Unused done = AnswersPlainly t n reply c u k done
    AcceptsOf User done = AnswersPlainly t n reply c u k done

    plainly : (kind : MethodKind) → kind_of c.request.method ≡ kind → (done : Served) → AcceptsOf kind done
        → IsPlain c.request.method → AnswersPlainly t n reply c u k done
    plainly ConnectToMe e done h p = absurd (p.to_me (method_of ConnectToMe c.request.method e))
    plainly ConnectMeTo e done h p = absurd (p.me_to (method_of ConnectMeTo c.request.method e))
    plainly DataWrite e done h p = absurd (p.write (method_of DataWrite c.request.method e))
    plainly DataRead e done h p = absurd (p.read (method_of DataRead c.request.method e))
    plainly ShareOut e done h p = absurd (p.out (method_of ShareOut c.request.method e))
    plainly ShareIn e done h p = absurd (p.inward (method_of ShareIn c.request.method e))
    plainly _ e done h p = h

    accept_by : (kind : MethodKind) → kind_of c.request.method ≡ kind → (done : Served) → AcceptsOf kind done
        → Accepts t n reply c u k done
    accept_by kind e done h = record {
      to_me = λ asks. subst (λ x. AcceptsOf x done) (sym e ∙ ap kind_of asks) h;
      me_to = λ asks. subst (λ x. AcceptsOf x done) (sym e ∙ ap kind_of asks) h;
      write = λ asks. subst (λ x. AcceptsOf x done) (sym e ∙ ap kind_of asks) h;
      read = λ asks. subst (λ x. AcceptsOf x done) (sym e ∙ ap kind_of asks) h;
      out = λ asks. subst (λ x. AcceptsOf x done) (sym e ∙ ap kind_of asks) h;
      inward = λ asks. subst (λ x. AcceptsOf x done) (sym e ∙ ap kind_of asks) h;
      others = plainly kind e done h;
    }

    -- a phone comes to lead to a task
    leads : (to : TaskNo) (l : Label) (noted : Option Entry) (call : Call) → c.reserved ≡ Some l
        → kept_phone c ≡ c.reserved
        → PhoneComesTo l.task l.phone.0 (Connected to) k
        (Answered (record { state = with_kept k (Some l) (Connected to); call = call; note = noted })).state
    leads to l noted call r kept = (may_come k (Some l) (Connected to) _ refl (λ m e.
        kept_there k k.tasks refl n c its pending m (kept ∙ r ∙ e))).0

    by_kept : kind_of c.request.method ≡ ConnectToMe → (o : Option Label) → c.reserved ≡ o → kept_phone c ≡ c.reserved
        → AcceptsOf ConnectToMe (Answered (record {
          state = with_kept k o (Connected u);
          call = with_code (code_of o) c.buffer;
          note = kept_note o (Connected u);
        }))
    by_kept kind None r kept = inr (record { none = r; phones = λ v q. refl; reaches = reaches_with u elimit None })
    by_kept kind (Some l) r kept = inl (record {
      phone = l;
      kept = r;
      leads = leads u l (kept_note (Some l) (Connected u)) (with_code eok c.buffer) r kept;
      reaches = reaches_with u eok (Some l);
    })

    as_given : reply.code ≡ eok → AnswersPlainly t n reply c u k (Answered (as_it_is k (record c { reply = reply })))
    as_given ok = record {
      phones = λ v q. refl;
      reaches = subst (λ (code : Code). Reaches t n reply c u code c.buffer k.memory [] k
          (Answered (as_it_is k (record c { reply = reply })))) ok (reaches reply.code c.buffer k.memory None);
    }

    accepted : reply.code ≡ eok → (kind : MethodKind) → kind_of c.request.method ≡ kind
        → AcceptsOf kind (Answered (on_accept_of kind k c reply t u))
    accepted ok ConnectToMe e =
        let kept = (kept_is k k.tasks refl n c its pending).connect (inl (method_of ConnectToMe c.request.method e)) in
        subst (λ (o : Option Label). AcceptsOf ConnectToMe (Answered (record {
          state = with_kept k o (Connected u);
          call = with_code (code_of o) c.buffer;
          note = kept_note o (Connected u);
        }))) (sym kept) (by_kept e c.reserved refl kept)
    accepted ok ConnectMeTo e = me_to (value_of c.reserved some) where
      kept : kept_phone c ≡ c.reserved
      kept = (kept_is k k.tasks refl n c its pending).connect (inr (method_of ConnectMeTo c.request.method e))

      some : IsSome c.reserved
      some = its.reserved.needed (subst (λ p. NeedsPhone (who_keeps c) p c.reply.code) (sym at)
          (subst (λ x. NeedsPhone x (Dispatched t) c.reply.code) (sym (ap keeper_of e)) tt))

      me_to : (l : Label) × (c.reserved ≡ Some l) → ConnectsTo t t n reply c u k (Answered (accepted_me_to k c reply t))
      me_to f =
          let l : Label = f.0 in
          subst (λ (o : Option Label). ConnectsTo t t n reply c u k (Answered (record {
            state = with_kept k o (Connected t);
            call = record c { reply = reply };
            note = kept_note o (Connected t);
          }))) (sym (kept ∙ f.1)) (record {
            phone = l;
            kept = f.1;
            leads = leads t l (kept_note (Some l) (Connected t)) (record c { reply = reply }) f.1 kept;
            reaches = subst (λ (code : Code). Reaches t n reply c u code c.buffer k.memory
                (entry.PhoneIs l (Connected t) ∷ []) k (Answered (record {
                  state = with_kept k (Some l) (Connected t);
                  call = record c { reply = reply };
                  note = kept_note (Some l) (Connected t);
                }))) ok (reaches_with t reply.code (Some l));
          })
    accepted ok DataWrite e =
        let step : Step (Option StoreNo) = write_accept k.memory t c.buffer reply in
        record {
          step = step;
          placing = placing_is_whole k.memory t c.buffer reply sound.memory.spaces;
          phones = λ v q. refl;
          reaches = reaches_told step.told c.buffer step.memory _ _
              (written_is t (first reply.args) (second reply.args) step.told);
        }
    accepted ok DataRead e =
        let told : Result (List ℕ) Code = read_accept k.memory t c.request.args reply (used k.calls) in
        record {
          told = told;
          taking = subst (λ m. IsLawfulTaking k.memory t c.request.args reply m told) (sym (pool-used k))
              (taking_is_lawful k.memory t c.request.args reply (used k.calls) sound.memory.spaces);
          phones = λ v q. refl;
          reaches = subst (λ (bytes : List ℕ). Reaches t n reply c u (code_after told) bytes k.memory [] k
              (Answered (accepted_read k c reply t)))
              (bytes_after_is told c.buffer) (reaches_told told (bytes_told told c.buffer) k.memory None [] refl);
        }
    accepted ok ShareOut e =
        let pages : ℕ = second c.request.args in
        let rights : ℕ = third c.request.args in
        let step : Step StoreNo = out_accept k.memory u t c.request.args reply in
        record {
          step = step;
          share = share_is_whole k.memory u (first c.request.args) t (first reply.args) pages rights sound.memory.spaces
              (added k t sound (holder_lives k sound t n c (is, at)));
          phones = λ v q. refl;
          reaches = reaches_told step.told c.buffer step.memory _ _
              (shared_is t (first reply.args) pages rights step.told);
        }
    accepted ok ShareIn e =
        let pages : ℕ = second c.request.args in
        let rights : ℕ = third c.request.args in
        let step : Step StoreNo = in_accept k.memory u t c.request.args reply in
        record {
          step = step;
          share = share_is_whole k.memory t (first reply.args) u (first c.request.args) pages rights sound.memory.spaces
              (added k u sound lives_u);
          phones = λ v q. refl;
          reaches = reaches_told step.told c.buffer step.memory _ _
              (shared_is u (first c.request.args) pages rights step.told);
        }
    accepted ok _ e = as_given ok

  -- ---- an answer

  abbrev Answering : Served → Type 0
  Answering done = AnswersDeclining t n reply c k done
      ⊎ (AnswersNobody n reply c k done ⊎ AnswersAccepting t n reply c k done)

  declining : accepts reply.code ≡ false → Answering (and_event (telling (settle k c reply (Some t)) outcome.Done))
  declining refuses = inl (record {
    declines = λ e. false≢true (sym refuses ∙ accepts_eok reply.code e);
    quiet = settle_quiet k c reply (Some t) outcome.Done;
    settled = settled_is k k.tasks refl n c its pending _ reply (Some t) (record { phones = refl; calls = refl });
  })

  nobody : reply.code ≡ eok → (IsWanted k c → ⊥) → Answering (and_event (telling (vanishing k c) outcome.Done))
  nobody ok unwanted = inr (inl (record {
    accepts = ok;
    unwanted = unwanted;
    quiet = vanish_quiet k c outcome.Done;
    ended = ended_is k k.tasks refl n c its pending _ refl refl;
  }))

  accepting : reply.code ≡ eok → (o : Option TaskNo) → c.caller ≡ o → (b : Bool) → lives k o ≡ b
      → Answering (and_event (telling (accept_for k t reply c o b) outcome.Done))
  accepting ok None e b f = nobody ok (λ w. let g : None ≡ Some w.0 = sym e ∙ w.1 in cc)
  accepting ok (Some u) e false f = nobody ok (λ w.
      let same : u ≡ w.0 = let g : Some u ≡ Some w.0 = sym e ∙ w.1 in cc in
      false≢true (sym f ∙ ap (is_alive k) same ∙ w.2))
  accepting ok (Some u) e true f = inr (inr (record {
    accepts = ok;
    to = u;
    caller = e;
    lives = f;
    accepted = accept_by u f (kind_of c.request.method) refl _ (accepted u f ok (kind_of c.request.method) refl);
  }))

  answering : Answering (and_event (telling (answer_call k t reply c) outcome.Done))
  answering = by_code (accepts reply.code) refl where
    by_code : (b : Bool) → accepts reply.code ≡ b → Answering (and_event (telling
        (if b then accept_for k t reply c c.caller (lives k c.caller) else settle k c reply (Some t)) outcome.Done))
    by_code true e = accepting (same_code reply.code e) c.caller refl (lives k c.caller) refl
    by_code false e = declining e

module _ (k : KernelState) (t : TaskNo) (n : ℕ) (reply : Reply) (sound : IsSound k) where
  abbrev Comes : Served → Type 0
  Comes done = IsAnswer t n reply k (and_event done)

  unheld : ((c : Call) → IsHeld t k n c → ⊥) → Comes (refusal k enoent)
  unheld none = inl (record { unheld = none; refusal = refuses k enoent })

  by_held : (c : Call) → call_at k.calls n ≡ Some c → (b : Bool) → is_held t c ≡ b
      → Comes (answer_held k t reply (if b then Some c else None))
  by_held c is true e = inr (record {
    call = c;
    held = (is, same_place-true c.place (Dispatched t) e);
    answers = answering k sound t n reply c is (same_place-true c.place (Dispatched t) e);
  })
  by_held c is false e =
      unheld (λ d h. false≢true (sym e ∙ ap (is_held t) (same_Some c d (sym is ∙ h.0)) ∙ stands_true (Dispatched t) d.place h.1))

  by_call : (o : Option Call) → call_at k.calls n ≡ o → Comes (answer_held k t reply (held_call t o))
  by_call None is = unheld (λ c h. let g : None ≡ Some c = sym is ∙ h.0 in cc)
  by_call (Some c) is = by_held c is (is_held t c) refl

  pub answer_is_so : IsAnswer t n reply k (serve k t (request.Answer n reply))
  answer_is_so = by_call (call_at k.calls n) refl

pub answer_is_served : (k : KernelState) (t : TaskNo) (n : ℕ) (reply : Reply) (done : Served) → IsSound k
    → IsAnswer t n reply k done → done ≡ serve k t (request.Answer n reply)
answer_is_served k t n reply done sound is =
    answer_is_determined t n reply k done (serve k t (request.Answer n reply)) sound is (answer_is_so k t n reply sound)
