-- The definitions bring a call to its end as it is said.
use Rattle.std.proofs.Common.{◌≡◌, ℕ, Bool, true, false, inl, inr, List, ◌∷◌, length, Option, None, Some, refl, sym, ap, subst, ◌∙◌}
use Rattle.std.specs.Prelude.{IsSome, if◌then◌else◌}
use Rattle.std.specs.Option.{option_to_list}
use Rattle.std.proofs.lemmas.Bool.{cases_eq, false≢true}
use Rattle.ipc_ids.specs.declared.numbers.Label.{Label}
use Rattle.ipc_ids.specs.declared.numbers.TaskNo.{TaskNo}
use Rattle.ipc_ids.specs.declared.message.Reply.{Reply}
use Rattle.ipc_ids.specs.declared.message.PhoneState.{PhoneState}
use Rattle.ipc_ids.specs.declared.message.PhoneState.TheVariants.{Free, Connecting, HungUp}
use Rattle.ipc_ids.specs.declared.message.Outcome.{Outcome}
use Rattle.ipc_ids.specs.declared.entry.Entry.TheVariants as entry
use Rattle.ipc_ids.specs.declared.methods.MethodKind.{MethodKind}
use Rattle.ipc_ids.specs.declared.methods.MethodKind.TheVariants.{ConnectToMe, ConnectMeTo}
use Rattle.ipc_ids.specs.Methods.{kind_of, connect_to_me, connect_me_to}
use Rattle.ipc_ids.proofs.Common.{is_some}
use Rattle.call_slab.specs.declared.call.Call.{Call}
use Rattle.call_slab.specs.declared.call.Place.{Place}
use Rattle.call_slab.specs.declared.call.Place.TheVariants.{Incoming, Dispatched, Answers}
use Rattle.answerbox.specs.Calls.{CallTable, call_at, put_at, without_call}
use Rattle.phone_table.specs.Phones.{state_at}
use Rattle.switchboard.specs.Board.{IsPendingAt}
use Rattle.switchboard.specs.State.{Tasks, KernelState, is_alive, phone_at}
use Rattle.switchboard.specs.Sound.{IsSoundCall, IsReservedAt}
use Rattle.switchboard.specs.Kept.{keeper_of, kept_of, lent_of, held_phone, kept_phone, lent_phone, kept_rows, kept_note, phone_of, unless_freed, accepts, WaitsIn}
use Rattle.switchboard.specs.Serving.{telling}
use Rattle.switchboard.specs.Joins.{lives, settle, settle_for, vanishing, declined_call, drop_answer}
use Rattle.kernel_core.specs.Kernel.{and_event}
use Rattle.switchboard.proofs.Keepers.{state_here}
use Rattle.cleanup.proofs.KilledPhones.{written_elsewhere}
use Rattle.switchboard.proofs.Lookups.{put_here, put_other, gone_here, gone_other}
use Rattle.cleanup.proofs.Silence.{IsEnding}
use Rattle.switchboard.proofs.Usable.{kept_waits}
use Rattle.switchboard.proofs.Soundness.{length_rows}
use Rattle.switchboard.proofs.SoundJoins.{own_phone}
use Rattle.kernel_laws.specs.Connecting.{IsUnconnected}
use Rattle.kernel_laws.proofs.AnswerWords.{accepts_eok}
use Rattle.kernel_laws.proofs.Methods.{method_of}
use Rattle.kernel_determined.specs.Frames.{MayCome, Moves, IsOver, IsQuietEvent}
use Rattle.kernel_determined.specs.SettleLaw.{IsGivenBack, IsKeptFor, IsWanted, IsAnswered, IsEnded, IsSettled, DropsAnswer}
use Rattle.kernel_core.proofs.KindsOfCalls.{same_code}
use Rattle.std.proofs.lemmas.Option.{none-some}
use Rattle.kernel_laws.specs.UsablePhones.{IsUsable}

-- ---- the parts of a step

-- a phone, where there is one, comes to a state
pub may_come : (k : KernelState) (o : Option Label) (s : PhoneState) (after : KernelState)
    → after.tasks.phones ≡ kept_rows k.tasks.phones o s
    → ((l : Label) → o ≡ Some l → IsSome (state_at k.tasks.phones l.task.0 l.phone.0))
    → MayCome o s k after (option_to_list (kept_note o s))
may_come k None s after rows there = (λ u q. ap (λ r. state_at r u.0 q) rows, refl)
may_come k (Some l) s after rows there = (
  record {
    this = ap (λ r. state_at r l.task.0 l.phone.0) rows ∙ state_here k.tasks.phones l.task.0 l.phone.0 s (there l refl);
    others = λ u q ne. ap (λ r. state_at r u.0 q) rows ∙ written_elsewhere k.tasks.phones l.task.0 l.phone.0 u.0 q s ne;
  },
  refl,
)

pub usable_there : (k : KernelState) (t : TaskNo) (p : ℕ) → IsUsable k k.calls t p → IsSome (phone_at k t p)
usable_there k t p (inl free) = is_some (phone_at k t p) Free free
usable_there k t p (inr hung) = is_some (phone_at k t p) HungUp hung.0

pub as_many : (rows : List (List PhoneState)) (o : Option Label) (s : PhoneState)
    → length (kept_rows rows o s) ≡ length rows
as_many rows None s = refl
as_many rows (Some l) s = length_rows rows l.task.0 l.phone.0 s

-- a call goes to the end of a place
pub moves : (q after : CallTable) (n : ℕ) (c : Call) (place : Place) → c.number.0 ≡ n → after ≡ put_at q c place
    → Moves q after n (record c { place = place; stamp = q.next_stamp })
moves q after n c place number same =
    let d : Call = record c { place = place; stamp = q.next_stamp } in
    subst (λ (r : CallTable). Moves q r n d) (sym same) (record {
      moved = put_here q c.number.0 n d number;
      last = refl;
      others = λ m ne. put_other q c.number.0 m d (λ s. ne (sym s ∙ number));
      numbers = refl;
      arrivals = refl;
    })

-- and one is over
pub is_over : (q after : CallTable) (n m : ℕ) → m ≡ n → after ≡ without_call q m → IsOver q after n
is_over q after n m number same = subst (λ (r : CallTable). IsOver q r n) (sym same) (record {
  gone = gone_here q m n number;
  others = λ i ne. gone_other q m i (λ s. ne (sym s ∙ number));
  numbers = refl;
  arrivals = refl;
})

-- a step that settles a call, or ends it, changes no memory, and neither makes nor ends a task
pub vanish_quiet : (k : KernelState) (c : Call) (told : Outcome)
    → IsQuietEvent told k (and_event (telling (vanishing k c) told))
vanish_quiet k c told = record {
  answer = refl;
  event = record { counted = refl; alive = refl; tasks = as_many k.tasks.phones (kept_phone c) Free };
  memory = refl;
}

pub settle_quiet : (k : KernelState) (c : Call) (reply : Reply) (by : Option TaskNo) (told : Outcome)
    → IsQuietEvent told k (and_event (telling (settle k c reply by) told))
settle_quiet k c reply by told = by_caller c.caller (lives k c.caller) where
  by_caller : (o : Option TaskNo) (b : Bool)
      → IsQuietEvent told k (and_event (telling (settle_for k c reply by o b) told))
  by_caller None b = vanish_quiet k c told
  by_caller (Some u) false = vanish_quiet k c told
  by_caller (Some u) true = record {
    answer = refl;
    event = record { counted = refl; alive = refl; tasks = as_many k.tasks.phones (lent_phone c) Free };
    memory = refl;
  }

-- ---- a call that was not answered yet

module _ (k : KernelState) (tasks : Tasks) (rows : tasks.phones ≡ k.tasks.phones) (n : ℕ) (c : Call)
    (s : IsSoundCall tasks k.calls.next_number k.calls.next_stamp n c) (pending : IsPendingAt c.place) where
  lent_by : (kind : MethodKind) → kind_of c.request.method ≡ kind
      → lent_phone c ≡ lent_of (keeper_of kind) c.place c.reserved
  lent_by kind e = ap (λ m. lent_of (keeper_of m) c.place c.reserved) e

  kept_by : (kind : MethodKind) → kind_of c.request.method ≡ kind
      → kept_phone c ≡ kept_of (keeper_of kind) c.from.task c.place c.reply.code c.reserved
  kept_by kind e = ap (λ m. kept_of (keeper_of m) c.from.task c.place c.reply.code c.reserved) e

  -- the phone of a CONNECT_TO_ME is its holder's
  held : kind_of c.request.method ≡ ConnectToMe → held_phone c.place c.reserved ≡ c.reserved
  held e = by c.place pending c.reserved (λ l r. owner l r) where
    owner : (l : Label) → c.reserved ≡ Some l → IsReservedAt (keeper_of ConnectToMe) c.from.task c.place l
    owner l r = subst (λ k. IsReservedAt k c.from.task c.place l) (ap keeper_of e) (s.reserved.owner l r)

    by : (place : Place) → IsPendingAt place → (o : Option Label)
        → ((l : Label) → o ≡ Some l → IsReservedAt (keeper_of ConnectToMe) c.from.task place l) → held_phone place o ≡ o
    by (Incoming t) p None own = refl
    by (Incoming t) p (Some l) own = absurd (own l refl)
    by (Dispatched t) p None own = refl
    by (Dispatched t) p (Some l) own = own_phone t l (own l refl)
    by (Answers t) p o own = absurd p

  -- and that of a CONNECT_ME_TO its caller's
  asked : kind_of c.request.method ≡ ConnectMeTo
      → kept_of (keeper_of ConnectMeTo) c.from.task c.place c.reply.code c.reserved ≡ c.reserved
  asked e = by c.place pending c.reserved (λ l r. owner l r) where
    owner : (l : Label) → c.reserved ≡ Some l → IsReservedAt (keeper_of ConnectMeTo) c.from.task c.place l
    owner l r = subst (λ k. IsReservedAt k c.from.task c.place l) (ap keeper_of e) (s.reserved.owner l r)

    of_caller : (place : Place) (o : Option Label)
        → ((l : Label) → o ≡ Some l → IsReservedAt (keeper_of ConnectMeTo) c.from.task place l)
        → phone_of c.from.task o ≡ o
    of_caller place None own = refl
    of_caller place (Some l) own = own_phone c.from.task l (own l refl)

    by : (place : Place) → IsPendingAt place → (o : Option Label)
        → ((l : Label) → o ≡ Some l → IsReservedAt (keeper_of ConnectMeTo) c.from.task place l)
        → kept_of (keeper_of ConnectMeTo) c.from.task place c.reply.code o ≡ o
    by (Incoming t) p o own = of_caller (Incoming t) o own
    by (Dispatched t) p o own = of_caller (Dispatched t) o own
    by (Answers t) p o own = absurd p

  freed_all : (o : Option Label) → unless_freed o o ≡ None
  freed_all None = refl
  freed_all (Some l) = refl

  pub lent_is : IsGivenBack c (lent_phone c) (unless_freed (lent_phone c) c.reserved)
  lent_is = by_kind (kind_of c.request.method) refl where
    by_kind : (kind : MethodKind) → kind_of c.request.method ≡ kind
        → IsGivenBack c (lent_phone c) (unless_freed (lent_phone c) c.reserved)
    by_kind ConnectToMe e =
        let freed = lent_by ConnectToMe e ∙ held e in
        record {
          to_me = λ _. (freed, ap (λ o. unless_freed o c.reserved) freed ∙ freed_all c.reserved);
          others = λ ne. absurd (ne (method_of ConnectToMe c.request.method e));
        }
    by_kind kind e = record {
      to_me = λ asks. absurd (let x : kind ≡ ConnectToMe = sym e ∙ ap kind_of asks in cc);
      others = λ _. (lent_by kind e, ap (λ o. unless_freed o c.reserved) (lent_by kind e));
    }

  pub kept_is : IsKeptFor c (kept_phone c)
  kept_is = by_kind (kind_of c.request.method) refl where
    by_kind : (kind : MethodKind) → kind_of c.request.method ≡ kind → IsKeptFor c (kept_phone c)
    by_kind ConnectToMe e = record {
      connect = λ _. kept_by ConnectToMe e ∙ held e;
      others = λ ne _. absurd (ne (method_of ConnectToMe c.request.method e));
    }
    by_kind ConnectMeTo e = record {
      connect = λ _. kept_by ConnectMeTo e ∙ asked e;
      others = λ _ ne. absurd (ne (method_of ConnectMeTo c.request.method e));
    }
    by_kind kind e = record {
      connect = λ h. elim h [
        | inl asks ↦ absurd (let x : kind ≡ ConnectToMe = sym e ∙ ap kind_of asks in cc)
        | inr asks ↦ absurd (let x : kind ≡ ConnectMeTo = sym e ∙ ap kind_of asks in cc)
      ];
      others = λ _ _. kept_by kind e;
    }

  -- both are phones that are there
  reserved_there : (l : Label) → c.reserved ≡ Some l → IsSome (state_at k.tasks.phones l.task.0 l.phone.0)
  reserved_there l r = subst (λ x. IsSome (state_at x l.task.0 l.phone.0)) rows (s.reserved.there l r)

  pub lent_there : (l : Label) → lent_phone c ≡ Some l → IsSome (state_at k.tasks.phones l.task.0 l.phone.0)
  lent_there l e = elim (cases_eq c.request.method connect_to_me) [
    | inl asks ↦ reserved_there l (sym (lent_is.to_me asks).0 ∙ e)
    | inr ne ↦ absurd (none-some l (sym (lent_is.others ne).0 ∙ e))
  ]

  pub kept_there : (l : Label) → kept_phone c ≡ Some l → IsSome (state_at k.tasks.phones l.task.0 l.phone.0)
  kept_there l e = elim (cases_eq c.request.method connect_to_me) [
    | inl asks ↦ reserved_there l (sym (kept_is.connect (inl asks)) ∙ e)
    | inr ne ↦ elim (cases_eq c.request.method connect_me_to) [
      | inl asks ↦ reserved_there l (sym (kept_is.connect (inr asks)) ∙ e)
      | inr other ↦ absurd (none-some l (sym (kept_is.others ne other) ∙ e))
    ]
  ]

  -- ---- the call is over, or is answered

  module _ (after : KernelState) where
    pub ended_is : after.tasks.phones ≡ kept_rows k.tasks.phones (kept_phone c) Free
        → after.calls ≡ without_call k.calls c.number.0
        → IsEnded n c k after (entry.Vanished c.number ∷ option_to_list (kept_note (kept_phone c) Free))
    ended_is phones calls = record {
      kept = kept_phone c;
      keeps = kept_is;
      note = option_to_list (kept_note (kept_phone c) Free);
      phones = may_come k (kept_phone c) Free after phones kept_there;
      calls = is_over k.calls after.calls n c.number.0 s.number calls;
      entries = refl;
    }

    pub answered_is : (reply : Reply) (by : Option TaskNo) (u : TaskNo) → c.caller ≡ Some u
        → after.tasks.phones ≡ kept_rows k.tasks.phones (lent_phone c) Free
        → after.calls ≡ put_at k.calls (declined_call c reply) (Answers u)
        → IsAnswered n c reply by k after
        (entry.Answered c.number reply by ∷ option_to_list (kept_note (lent_phone c) Free))
    answered_is reply by u caller phones calls = record {
      to = u;
      caller = caller;
      freed = lent_phone c;
      rest = unless_freed (lent_phone c) c.reserved;
      back = lent_is;
      note = option_to_list (kept_note (lent_phone c) Free);
      phones = may_come k (lent_phone c) Free after phones lent_there;
      calls = moves k.calls after.calls n (declined_call c reply) (Answers u) s.number calls;
      entries = refl;
    }

    -- what the step left, in phones and calls
    pub record IsLeft (left : KernelState) : Type 0 where
      pub phones : after.tasks.phones ≡ left.tasks.phones
      pub calls : after.calls ≡ left.calls

    none_caller : (o : Option TaskNo) → o ≡ None → c.caller ≡ o → IsWanted k c → ⊥
    none_caller o none e w = let f : None ≡ Some w.0 = sym none ∙ sym e ∙ w.1 in cc

    pub settled_is : (reply : Reply) (by : Option TaskNo) → IsLeft (settle k c reply by).state
        → IsSettled n c reply by k after (settle k c reply by).entries
    settled_is reply by left = by_caller c.caller refl (lives k c.caller) refl left where
      by_caller : (o : Option TaskNo) → c.caller ≡ o → (b : Bool) → lives k o ≡ b
          → IsLeft (settle_for k c reply by o b).state
          → IsSettled n c reply by k after (settle_for k c reply by o b).entries
      by_caller None e b f l = inr (none_caller None refl e, ended_is l.phones l.calls)
      by_caller (Some u) e false f l = inr (unwanted, ended_is l.phones l.calls) where
        unwanted : IsWanted k c → ⊥
        unwanted w =
            let same : u ≡ w.0 = let g : Some u ≡ Some w.0 = sym e ∙ w.1 in cc in
            false≢true (sym f ∙ ap (is_alive k) same ∙ w.2)
      by_caller (Some u) e true f l = inl ((u, e, f), answered_is reply by u e l.phones l.calls)

-- ---- an answer that is dropped

-- the phone that an answer keeps, by the kind of its method
pub kept_at : (t : TaskNo) (c : Call) → c.place ≡ Answers t → (kind : MethodKind) → kind_of c.request.method ≡ kind
    → kept_phone c ≡ kept_of (keeper_of kind) c.from.task (Answers t) c.reply.code c.reserved
kept_at t c at kind e = ap (λ m. kept_of (keeper_of m) c.from.task c.place c.reply.code c.reserved) e
    ∙ ap (λ p. kept_of (keeper_of kind) c.from.task p c.reply.code c.reserved) at

module _ (marks : List Bool) (t : TaskNo) (k : KernelState) (ending : IsEnding marks k) (c : Call)
    (live : call_at k.calls c.number.0 ≡ Some c) (at : c.place ≡ Answers t) where
  owner : kind_of c.request.method ≡ ConnectMeTo → (l : Label) → c.reserved ≡ Some l
      → phone_of c.from.task (Some l) ≡ Some l
  owner e l r = own_phone c.from.task l (subst (λ x. IsReservedAt x c.from.task c.place l) (ap keeper_of e)
      ((ending.sound.calls.each c.number.0 c live).reserved.owner l r))

  pub waits : (l : Label) → IsUnconnected c l → kept_phone c ≡ Some l
  waits l x =
      let kind : kind_of c.request.method ≡ ConnectMeTo = ap kind_of x.asks in
      kept_at t c at ConnectMeTo kind
      ∙ by (accepts c.reply.code) (λ h. x.unaccepted t at (same_code c.reply.code h))
      ∙ ap (phone_of c.from.task) x.kept ∙ owner kind l x.kept
    where
      by : (b : Bool) → (b ≡ true → ⊥)
          → (if b then None else phone_of c.from.task c.reserved) ≡ phone_of c.from.task c.reserved
      by true never = absurd (never refl)
      by false never = refl

  none_kept : ((l : Label) → IsUnconnected c l → ⊥) → (kind : MethodKind) → kind_of c.request.method ≡ kind
      → kept_phone c ≡ None
  none_kept none ConnectMeTo e = kept_at t c at ConnectMeTo e ∙ by (accepts c.reply.code) refl c.reserved refl where
    by : (b : Bool) → accepts c.reply.code ≡ b → (o : Option Label) → c.reserved ≡ o
        → (if b then None else phone_of c.from.task o) ≡ None
    by true a o r = refl
    by false a None r = refl
    by false a (Some l) r = absurd (none l (record {
      asks = method_of ConnectMeTo c.request.method e;
      kept = r;
      unaccepted = λ u p code. false≢true (sym a ∙ accepts_eok c.reply.code code);
    }))
  none_kept none kind e = kept_at t c at kind e

  kept_is_there : (l : Label) → kept_phone c ≡ Some l → IsSome (state_at k.tasks.phones l.task.0 l.phone.0)
  kept_is_there l e = is_some (state_at k.tasks.phones l.task.0 l.phone.0) Connecting
      (subst (WaitsIn k.tasks.phones) e (kept_waits k.tasks.phones k.calls c.number.0 c ending.sound.kept live))

  pub drops : DropsAnswer t k c.number.0 (drop_answer t k c).state (drop_answer t k c).entries
  drops = record {
    call = c;
    live = live;
    step = record { alive = refl; tasks = as_many k.tasks.phones (kept_phone c) Free; memory = refl; counted = refl };
    kept = kept_phone c;
    keeps = record { waits = waits; others = λ none. none_kept none (kind_of c.request.method) refl };
    note = option_to_list (kept_note (kept_phone c) Free);
    phones = may_come k (kept_phone c) Free _ refl kept_is_there;
    calls = is_over k.calls _ c.number.0 c.number.0 refl refl;
    entries = refl;
  }
