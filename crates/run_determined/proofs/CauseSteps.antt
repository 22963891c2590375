-- What each kind of entry, and each change of a phone or a call, keeps of the causes.
use Rattle.std.proofs.Common.{◌≡◌, ℕ, inl, inr, List, [], ◌∷◌, Option, None, Some, refl, ap, sym, subst, ◌∙◌}
use Rattle.std.specs.Prelude.{⊤, IsSome}
use Rattle.std.specs.Option.{option_to_list}
use Rattle.ipc_ids.specs.declared.numbers.CallNo.{CallNo}
use Rattle.ipc_ids.specs.declared.numbers.Code.{Code}
use Rattle.ipc_ids.specs.declared.numbers.Label.{Label}
use Rattle.ipc_ids.specs.declared.message.Msg.{Msg}
use Rattle.ipc_ids.specs.declared.methods.MethodKind.{MethodKind}
use Rattle.ipc_ids.specs.declared.methods.MethodKind.TheVariants.{ConnectToMe, ConnectMeTo}
use Rattle.ipc_ids.specs.declared.message.PhoneState.{PhoneState}
use Rattle.ipc_ids.specs.declared.message.PhoneState.TheVariants.{Free, Connecting}
use Rattle.ipc_ids.specs.declared.entry.Entry.{Entry}
use Rattle.ipc_ids.specs.declared.entry.Entry.TheVariants as entry
use Rattle.ipc_ids.specs.Methods.{kind_of}
use Rattle.ipc_ids.specs.Holdings.{on_top}
use Rattle.ipc_ids.proofs.Common.{is_some}
use Rattle.call_slab.specs.declared.call.Call.{Call}
use Rattle.call_slab.specs.declared.call.Place.{Place}
use Rattle.answerbox.specs.Calls.{CallTable, call_at, enqueue, put_at, without_call, with_record}
use Rattle.phone_table.specs.Phones.{state_at}
use Rattle.switchboard.specs.State.{KernelState, with_state_at}
use Rattle.switchboard.specs.Sound.{HaveKeepers}
use Rattle.switchboard.specs.Kept.{IsLoosePhone, IsLoose, MayKeep, kept_phone, kept_rows, kept_note}
use Rattle.kernel_laws.proofs.Tables.{came_in, gone_by}
use Rattle.route_laws.specs.Leads.{Beginning, phone_in}
use Rattle.route_laws.specs.PhoneHistory.{TellPhones}
use Rattle.route_laws.proofs.PhoneSteps.{IsLiveIn, state_told, written}
use Rattle.run_determined.specs.PhoneCauses.{asked_for, lent_for, IsCause, IsLowest, ChangesForCause, IsHungUpAtOnce, IsDoneAsTold, GoesItsWay, TellsBack, GoesBackWithCode, TellsItsCall, DropsUnawaited, HasItsCause, IsWhole, HadCause}

-- ---- what the entries tell of the phones that calls keep

-- phone l is kept for call n, which is of this kind
abbrev pub IsKeptAs : MethodKind → ℕ → Label → List Entry → Type 0
IsKeptAs ConnectToMe n l q = lent_for n q ≡ Some l
IsKeptAs ConnectMeTo n l q = asked_for n q ≡ Some l
IsKeptAs _ n l q = ⊥

abbrev pub kind_by : Call → MethodKind
kind_by c = kind_of c.request.method

-- so is each phone that a live call keeps
abbrev pub TellKept : List Entry → CallTable → Type 0
TellKept q calls =
    (n : ℕ) (c : Call) (l : Label) → call_at calls n ≡ Some c → kept_phone c ≡ Some l → IsKeptAs (kind_by c) n l q

-- the longer list tells the same of the phone of call n
abbrev pub TellsSame : ℕ → List Entry → List Entry → Type 0
TellsSame n q r = (asked_for n r ≡ asked_for n q) × (lent_for n r ≡ lent_for n q)

pub still_kept : (kind : MethodKind) (n : ℕ) (l : Label) (q r : List Entry) → TellsSame n q r → IsKeptAs kind n l q
    → IsKeptAs kind n l r
still_kept ConnectToMe n l q r same h = same.1 ∙ h
still_kept ConnectMeTo n l q r same h = same.0 ∙ h
still_kept _ n l q r same h = absurd h

pub same_told : (q r : List Entry) (calls : CallTable) → ((n : ℕ) → TellsSame n q r) → TellKept q calls
    → TellKept r calls
same_told q r calls same told n c l is has = still_kept (kind_by c) n l q r (same n) (told n c l is has)

-- ---- what holds so far

-- the entries so far had their causes, and tell the states of phones and the phones that calls keep
pub record CausesFit (b : Beginning) (q : List Entry) (rows : List (List PhoneState))
    (calls : CallTable) : Type 0 where
  pub had : HadCause b q
  pub phones : TellPhones b.wires q rows
  pub kept : TellKept q calls

-- likewise, and the newest is no half
pub record WholeFit (b : Beginning) (q : List Entry) (rows : List (List PhoneState))
    (calls : CallTable) : Type 0 where
  pub fit : CausesFit b q rows calls
  pub whole : IsWhole q

pub whole_next : (q : List Entry) (e : Entry) → IsWhole q → IsHungUpAtOnce q e
whole_next [] e w = tt
whole_next (entry.Accepted n from method None ∷ q) e w = absurd w
whole_next (entry.Accepted n from method (Some u) ∷ q) e w = λ is. absurd (w is)
whole_next (_ ∷ q) e w = tt

pub whole_code : (b : Beginning) (q : List Entry) (code : Code) → IsWhole q → TellsBack b code q
whole_code b [] code w = tt
whole_code b (entry.Accepted n from method None ∷ q) code w = absurd w
whole_code b (entry.Accepted n from method (Some u) ∷ q) code w = tt
whole_code b (_ ∷ q) code w = tt

-- an entry has its cause, by each of the laws in turn
pub caused : (b : Beginning) (q : List Entry) (e : Entry) → ChangesForCause b q e → IsHungUpAtOnce q e
    → IsDoneAsTold q e → GoesItsWay b q e → GoesBackWithCode b q e → TellsItsCall q e → DropsUnawaited q e
    → HasItsCause b q e
caused b q e changes hung_up done way code told dropped = record {
  changes = changes;
  hung_up = hung_up;
  done = done;
  way = way;
  code = code;
  told = told;
  dropped = dropped;
}

-- an entry that tells of no phone, of no call that is accepted, received, passed on, answered or dropped, and of no
-- outcome
abbrev pub IsPlain : Entry → Type 0
IsPlain (entry.Accepted n from method to) = ⊥
IsPlain (entry.Received n t) = ⊥
IsPlain (entry.Forwarded n t to label) = ⊥
IsPlain (entry.Answered n reply by) = ⊥
IsPlain (entry.Dropped n t) = ⊥
IsPlain (entry.PhoneIs label state) = ⊥
IsPlain (entry.Outcome told) = ⊥
IsPlain _ = ⊤

abbrev pub ArePlain : List Entry → Type 0
ArePlain [] = ⊤
ArePlain (e ∷ es) = IsPlain e × ArePlain es

module _ (b : Beginning) (rows : List (List PhoneState)) where
  module _ (calls : CallTable) where
    pub plain_told : (q : List Entry) (e : Entry) → IsPlain e → WholeFit b q rows calls
        → WholeFit b (e ∷ q) rows calls
    plain_told q (entry.Accepted n from method to) h f = absurd h
    plain_told q (entry.Received n t) h f = absurd h
    plain_told q (entry.Forwarded n t to label) h f = absurd h
    plain_told q (entry.Answered n reply by) h f = absurd h
    plain_told q (entry.Dropped n t) h f = absurd h
    plain_told q (entry.PhoneIs label state) h f = absurd h
    plain_told q (entry.Outcome told) h f = absurd h
    plain_told q e h f = record {
      fit = record {
        had = (f.fit.had, caused b q e tt (whole_next q e f.whole) tt tt tt tt tt);
        phones = f.fit.phones;
        kept = same_told q (e ∷ q) calls (λ n. (refl, refl)) f.fit.kept;
      };
      whole = tt;
    }

    pub plains_told : (es q : List Entry) → ArePlain es → WholeFit b q rows calls
        → WholeFit b (on_top es q) rows calls
    plains_told [] q h f = f
    plains_told (e ∷ es) q h f = plains_told es (e ∷ q) h.1 (plain_told q e h.0 f)

    -- a phone comes to a state in which no call keeps it
    pub phone_told : (q : List Entry) (l : Label) (s : PhoneState) → (s ≡ Connecting → ⊥)
        → IsSome (state_at rows l.task.0 l.phone.0)
        → IsCause b.names l q (phone_in b.wires l.task.0 l.phone.0 q) s → IsHungUpAtOnce q (entry.PhoneIs l s)
        → CausesFit b q rows calls → WholeFit b (entry.PhoneIs l s ∷ q)
        (with_state_at rows l.task.0 l.phone.0 s) calls
    phone_told q l s not there cause at_once f = record {
      fit = record {
        had = (f.had, caused b q (entry.PhoneIs l s) (cause, no_choice s not) at_once tt tt tt tt tt);
        phones = λ t p. written rows l s there t p (phone_in b.wires t p q) (f.phones t p);
        kept = same_told q (entry.PhoneIs l s ∷ q) calls (λ n. words n s not) f.kept;
      };
      whole = tt;
    } where
      no_choice : (s : PhoneState) → (s ≡ Connecting → ⊥) → IsLowest b l q s
      no_choice Connecting other = absurd (other refl)
      no_choice _ other = tt

      words : (n : ℕ) (s : PhoneState) → (s ≡ Connecting → ⊥) → TellsSame n q (entry.PhoneIs l s ∷ q)
      words n Connecting other = absurd (other refl)
      words n _ other = (refl, refl)

-- ---- calls

-- each phone that is kept was kept before, by the same call
abbrev pub KeepNoMore : CallTable → CallTable → Type 0
KeepNoMore old new =
    (n : ℕ) (d : Call) (l : Label) → call_at new n ≡ Some d → kept_phone d ≡ Some l
    → (c : Call) × (call_at old n ≡ Some c) × (kept_phone c ≡ Some l) × (kind_by d ≡ kind_by c)

pub less_told : (q : List Entry) (old new : CallTable) → KeepNoMore old new → TellKept q old → TellKept q new
less_told q old new less told n d l is has =
    let back = less n d l is has in
    subst (λ (kind : MethodKind). IsKeptAs kind n l q) (sym back.3) (told n back.0 l back.1 back.2)

pub gone_keeps : (q : CallTable) (m : ℕ) → KeepNoMore q (without_call q m)
gone_keeps q m n d l is has = (d, gone_by q m n d is, has, refl)

pub record_keeps : (q : CallTable) (c d : Call) → IsLiveIn q c → d.number ≡ c.number → kept_phone d ≡ kept_phone c
    → kind_by d ≡ kind_by c → KeepNoMore q (with_record q d)
record_keeps q c d live number same kind n x l is has = elim (came_in q d.number.0 n d x is) [
  | inl h ↦ (
    c,
    ap (call_at q) (sym (ap (λ (y : CallNo). y.0) (sym number) ∙ h.0)) ∙ live,
    sym same ∙ ap kept_phone h.1 ∙ has,
    ap kind_by (sym h.1) ∙ kind,
  )
  | inr h ↦ (x, h.1, has, refl)
]

-- call c goes to another place with this record: what is told of the others stays, and of it what it keeps now
pub put_kept : (q r : List Entry) (calls : CallTable) (c d : Call) (at : Place) → d.number ≡ c.number
    → d.request ≡ c.request
    → ((n : ℕ) → (c.number.0 ≡ n → ⊥) → TellsSame n q r)
    → ((l : Label) → kept_phone (record d { place = at }) ≡ Some l → IsKeptAs (kind_by c) c.number.0 l r)
    → TellKept q calls → TellKept r (put_at calls d at)
put_kept q r calls c d at number request others own told n x l is has =
    let e : Call = record d { place = at; stamp = calls.next_stamp } in
    elim (came_in calls d.number.0 n e x is) [
      | inl h ↦
          let kind : kind_by c ≡ kind_by x = sym (ap (λ (m : Msg). kind_of m.method) request) ∙ ap kind_by h.1 in
          subst (λ (kind : MethodKind). IsKeptAs kind n l r) kind
          (subst (λ (m : ℕ). IsKeptAs (kind_by c) m l r) (ap (λ (y : CallNo). y.0) (sym number) ∙ h.0)
          (own l (ap kept_phone h.1 ∙ has)))
      | inr h ↦
          still_kept (kind_by x) n l q r (others n (λ same. h.0 (ap (λ (y : CallNo). y.0) number ∙ same)))
          (told n x l h.1 has)
    ]

-- call d is made
pub new_kept : (q r : List Entry) (calls : CallTable) (d : Call) → ((n : ℕ) → (d.number.0 ≡ n → ⊥) → TellsSame n q r)
    → ((l : Label) → kept_phone d ≡ Some l → IsKeptAs (kind_by d) d.number.0 l r)
    → TellKept q calls → TellKept r (enqueue calls d)
new_kept q r calls d others own told n x l is has =
    elim (came_in calls d.number.0 n (record d { stamp = calls.next_stamp }) x is) [
      | inl h ↦
          subst (λ (kind : MethodKind). IsKeptAs kind n l r) (ap kind_by h.1)
          (subst (λ (m : ℕ). IsKeptAs (kind_by d) m l r) h.0 (own l (ap kept_phone h.1 ∙ has)))
      | inr h ↦ still_kept (kind_by x) n l q r (others n h.0) (told n x l h.1 has)
    ]

-- what a call may keep after a change it kept before, since each phone that waits is kept by a call
pub kept_before : (k : KernelState) (c d : Call) (l : Label) → HaveKeepers k.tasks.phones k.calls → MayKeep k c d
    → kept_phone d ≡ Some l → kept_phone c ≡ Some l
kept_before k c d l keepers (inl same) has = sym same ∙ has
kept_before k c d l keepers (inr loose) has =
    let it : IsLoosePhone k l = subst (IsLoose k) has loose in
    let who = keepers.each l.task.0 l.phone.0 it.waits in
    absurd (it.unkept who.0 who.1)

-- a phone that waits, where there is one, is free from now on
pub freed_told : (b : Beginning) (rows : List (List PhoneState)) (calls : CallTable) (q : List Entry)
    (kept : Option Label)
    → ((l : Label) → kept ≡ Some l → (state_at rows l.task.0 l.phone.0 ≡ Some Connecting)
    × IsCause b.names l q Connecting Free)
    → IsWhole q → CausesFit b q rows calls → WholeFit b (on_top (option_to_list (kept_note kept Free)) q)
    (kept_rows rows kept Free) calls
freed_told b rows calls q None cause w f = record { fit = f; whole = w }
freed_told b rows calls q (Some l) cause w f =
    let it = cause l refl in
    phone_told b rows calls q l Free (λ e. cc e) (is_some (state_at rows l.task.0 l.phone.0) Connecting it.0)
    (subst (λ (s : PhoneState). IsCause b.names l q s Free)
    (sym (state_told b.wires q rows f.phones l.task.0 l.phone.0 Connecting it.0)) it.1)
    (whole_next q (entry.PhoneIs l Free) w) f
