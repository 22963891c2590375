-- What each kind of entry, and each change of a phone or a call, keeps of what the entries tell of them.
use Rattle.std.proofs.Common.{◌≡◌, ℕ, true, false, ◌⊎◌, inl, inr, List, [], ◌∷◌, Option, None, Some, refl, ap, sym, ◌∙◌}
use Rattle.std.specs.Prelude.{⊤, ◌==◌, if◌then◌else◌, IsSome, unwrap_or}
use Rattle.std.specs.Option.{option_to_list}
use Rattle.std.proofs.lemmas.Bool.{cases_eq, eq-eqb, ne_eqb, false≢true}
use Rattle.std.proofs.lemmas.Option.{same_Some}
use Rattle.ipc_ids.specs.declared.numbers.TaskNo.{TaskNo}
use Rattle.ipc_ids.specs.declared.numbers.CallNo.{CallNo}
use Rattle.ipc_ids.specs.declared.numbers.Label.{Label}
use Rattle.ipc_ids.specs.declared.message.PhoneState.{PhoneState}
use Rattle.ipc_ids.specs.declared.message.PhoneState.TheVariants.{Free, Connecting, Connected, HungUp, Slammed}
use Rattle.ipc_ids.specs.declared.message.Outcome.{Outcome}
use Rattle.ipc_ids.specs.declared.message.Outcome.TheVariants as outcome
use Rattle.ipc_ids.specs.declared.entry.Entry.{Entry}
use Rattle.ipc_ids.specs.declared.entry.Entry.TheVariants as entry
use Rattle.ipc_ids.specs.Holdings.{on_top}
use Rattle.ipc_ids.proofs.Common.{and_false, is_some}
use Rattle.call_slab.specs.declared.call.Call.{Call}
use Rattle.call_slab.specs.declared.call.Place.{Place}
use Rattle.answerbox.specs.Calls.{CallTable, call_at, enqueue, put_at, without_call, with_record, active_calls}
use Rattle.phone_table.specs.Phones.{state_at, is_usable}
use Rattle.switchboard.specs.State.{KernelState, with_state_at}
use Rattle.switchboard.specs.Kept.{AreKept, WaitsIn, kept_phone, kept_rows, kept_note, first_usable_of}
use Rattle.switchboard.proofs.Lookups.{at_insert, at_remove, chosen}
use Rattle.switchboard.proofs.Keepers.{state_here}
use Rattle.cleanup.proofs.KilledPhones.{written_elsewhere}
use Rattle.switchboard.proofs.Usable.{IsUsable, usable_is, kept_waits}
use Rattle.cleanup.proofs.Queues.{IsLive}
use Rattle.route_laws.specs.Leads.{Lead, Beginning, is_phone, phone_in, target, leads}
use Rattle.route_laws.specs.PhoneLaw.{GoesThere, GoesOnThere, TellsLabel, ComesToLead, CeasesToLead, AreCutOff, IsRouted}
use Rattle.route_laws.specs.PhoneHistory.{TellPhones, PhonesFit}

-- the phone of an entry, and another

here : (l : Label) (t p : ℕ) → l.task.0 ≡ t → l.phone.0 ≡ p → is_phone t p l ≡ true
here l t p a b = rw (eq-eqb l.task.0 t a, eq-eqb l.phone.0 p b) refl

elsewhere : (l : Label) (t p : ℕ) → ((t ≡ l.task.0) × (p ≡ l.phone.0) → ⊥) → is_phone t p l ≡ false
elsewhere l t p ne = elim (cases_eq l.task.0 t) [
  | inl a ↦ elim (cases_eq l.phone.0 p) [ inl c ↦ absurd (ne (sym a, sym c)) | inr nc ↦ rw (ne_eqb l.phone.0 p nc) (and_false (l.task.0 == t)) ]
  | inr na ↦ rw (ne_eqb l.task.0 t na) refl
]

-- what is told of a phone

pub state_told : (wires : List Lead) (q : List Entry) (rows : List (List PhoneState)) → TellPhones wires q rows → (t p : ℕ) (s : PhoneState) → state_at rows t p ≡ Some s → phone_in wires t p q ≡ s
state_told wires q rows tells t p s is = tells t p ∙ ap (λ (o : Option PhoneState). unwrap_or o Free) is

pub target_told : (wires : List Lead) (q : List Entry) (rows : List (List PhoneState)) → TellPhones wires q rows → (t p : ℕ) (s : PhoneState) → state_at rows t p ≡ Some s → leads wires t p q ≡ target s
target_told wires q rows tells t p s is = ap target (state_told wires q rows tells t p s is)

pub none_leads : (u : TaskNo) (o : Option TaskNo) → o ≡ None → o ≡ Some u → ⊥
none_leads u o a b = cc

-- a phone is written: it is in this state from then on, and each other in the one before
pub written : (rows : List (List PhoneState)) (l : Label) (s : PhoneState) → IsSome (state_at rows l.task.0 l.phone.0) → (t p : ℕ) (before : PhoneState) → before ≡ unwrap_or (state_at rows t p) Free → (if is_phone t p l then s else before) ≡ unwrap_or (state_at (with_state_at rows l.task.0 l.phone.0 s) t p) Free
written rows l s there t p before was = by_place (cases_eq t l.task.0) (cases_eq p l.phone.0) where
  away : ((t ≡ l.task.0) × (p ≡ l.phone.0) → ⊥) → (if is_phone t p l then s else before) ≡ unwrap_or (state_at (with_state_at rows l.task.0 l.phone.0 s) t p) Free
  away ne = rw (elsewhere l t p ne, written_elsewhere rows l.task.0 l.phone.0 t p s ne) was

  by_place : (t ≡ l.task.0) ⊎ (t ≡ l.task.0 → ⊥) → (p ≡ l.phone.0) ⊎ (p ≡ l.phone.0 → ⊥) → (if is_phone t p l then s else before) ≡ unwrap_or (state_at (with_state_at rows l.task.0 l.phone.0 s) t p) Free
  by_place (inr ne) b = away (λ z. ne z.0)
  by_place (inl a) (inr ne) = away (λ z. ne z.1)
  by_place (inl a) (inl c) =
      rw (here l t p (sym a) (sym c))
      (sym (ap (λ (o : Option PhoneState). unwrap_or o Free) (ap (λ i. state_at (with_state_at rows l.task.0 l.phone.0 s) i p) a ∙ ap (state_at (with_state_at rows l.task.0 l.phone.0 s) l.task.0) c ∙ state_here rows l.task.0 l.phone.0 s there)))

-- the phone, where there is one, is there and leads nowhere

pub record IsIdlePhone (rows : List (List PhoneState)) (l : Label) : Type 0 where
  pub state : PhoneState
  pub is : state_at rows l.task.0 l.phone.0 ≡ Some state
  pub nowhere : target state ≡ None

abbrev pub AreIdle : List (List PhoneState) → Option Label → Type 0
AreIdle rows None = ⊤
AreIdle rows (Some l) = IsIdlePhone rows l

pub waits_idle : (rows : List (List PhoneState)) (kept : Option Label) → WaitsIn rows kept → AreIdle rows kept
waits_idle rows None w = tt
waits_idle rows (Some l) w = record { state = Connecting; is = w; nowhere = refl }

usable_nowhere : (s : PhoneState) (n : ℕ) → is_usable s n ≡ true → target s ≡ None
usable_nowhere Free n h = refl
usable_nowhere Connecting n h = refl
usable_nowhere (Connected u) n h = absurd (false≢true h)
usable_nowhere HungUp n h = refl
usable_nowhere Slammed n h = refl

pub usable_idle : (k : KernelState) (t : TaskNo) (o : Option Label) → first_usable_of k t ≡ o → AreIdle k.tasks.phones o
usable_idle k t None first = tt
usable_idle k t (Some l) first = let it : IsUsable k t l = usable_is k t l first in record { state = it.state; is = it.is; nowhere = usable_nowhere it.state (active_calls k.calls l) it.usable }

-- calls

-- the record is that of a live call of the table, under its own number
abbrev pub IsLiveIn : CallTable → Call → Type 0
IsLiveIn q c = call_at q c.number.0 ≡ Some c

-- each of these calls was live before, with the same label
abbrev pub KeepLabels : CallTable → CallTable → Type 0
KeepLabels old new = (n : ℕ) (d : Call) → call_at new n ≡ Some d → (c : Call) × (call_at old n ≡ Some c) × (d.label ≡ c.label)

pub gone_keeps : (q : CallTable) (m : ℕ) → KeepLabels q (without_call q m)
gone_keeps q m n d is = elim (chosen m n None (call_at q n) (Some d) (sym (at_remove q.records m n) ∙ is)) [
  | inl h ↦ absurd (cc h.1)
  | inr h ↦ (d, h.1, refl)
]

pub put_keeps : (q : CallTable) (c d : Call) (at : Place) → IsLiveIn q c → d.number ≡ c.number → d.label ≡ c.label → KeepLabels q (put_at q d at)
put_keeps q c d at live number label n x is =
    let e : Call = record d { place = at; stamp = q.next_stamp } in
    elim (chosen d.number.0 n (Some e) (call_at q n) (Some x) (sym (at_insert q.records d.number.0 n e) ∙ is)) [
      | inl h ↦ (c, ap (call_at q) (sym (ap (λ (y : CallNo). y.0) (sym number) ∙ h.0)) ∙ live, ap (λ (y : Call). y.label) (sym (same_Some e x h.1)) ∙ label)
      | inr h ↦ (x, h.1, refl)
    ]

pub record_keeps : (q : CallTable) (c d : Call) → IsLiveIn q c → d.number ≡ c.number → d.label ≡ c.label → KeepLabels q (with_record q d)
record_keeps q c d live number label n x is =
    elim (chosen d.number.0 n (Some d) (call_at q n) (Some x) (sym (at_insert q.records d.number.0 n d) ∙ is)) [
      | inl h ↦ (c, ap (call_at q) (sym (ap (λ (y : CallNo). y.0) (sym number) ∙ h.0)) ∙ live, ap (λ (y : Call). y.label) (sym (same_Some d x h.1)) ∙ label)
      | inr h ↦ (x, h.1, refl)
    ]

-- entries

-- an entry that begins no event, and tells of no phone, of no call that is accepted or passed on, and of no outcome
abbrev pub IsPlain : Entry → Type 0
IsPlain (entry.Head t asked) = ⊥
IsPlain (entry.Kill t) = ⊥
IsPlain (entry.Gone t) = ⊥
IsPlain (entry.Spawn t) = ⊥
IsPlain (entry.Accepted n from method to) = ⊥
IsPlain (entry.Forwarded n t to label) = ⊥
IsPlain (entry.PhoneIs label state) = ⊥
IsPlain (entry.Outcome told) = ⊥
IsPlain _ = ⊤

abbrev pub ArePlain : List Entry → Type 0
ArePlain [] = ⊤
ArePlain (e ∷ es) = IsPlain e × ArePlain es

-- an outcome that tells of a call tells the label that it has among these
abbrev pub TellsLabelOf : CallTable → Outcome → Type 0
TellsLabelOf calls (outcome.Received n msg label) = (c : Call) × (call_at calls n.0 ≡ Some c) × (c.label ≡ label)
TellsLabelOf calls _ = ⊤

-- the head of an event
abbrev pub IsHeadEntry : Entry → Type 0
IsHeadEntry (entry.Head t asked) = ⊤
IsHeadEntry (entry.Kill t) = ⊤
IsHeadEntry (entry.Gone t) = ⊤
IsHeadEntry (entry.Spawn t) = ⊤
IsHeadEntry _ = ⊥

-- there is nothing to say of a plain entry
pub plain_routed : (b : Beginning) (q : List Entry) (e : Entry) → IsPlain e → IsRouted b q e
plain_routed b q (entry.Head t asked) h = absurd h
plain_routed b q (entry.Kill t) h = absurd h
plain_routed b q (entry.Gone t) h = absurd h
plain_routed b q (entry.Spawn t) h = absurd h
plain_routed b q (entry.Accepted n from method to) h = absurd h
plain_routed b q (entry.Forwarded n t to label) h = absurd h
plain_routed b q (entry.PhoneIs label state) h = absurd h
plain_routed b q (entry.Outcome told) h = absurd h
plain_routed b q _ h = record { goes = tt; passed = tt; seen = tt; came = tt; went = tt; cut = tt }

pub head_routed : (b : Beginning) (q : List Entry) (e : Entry) → IsHeadEntry e → AreCutOff b q → IsRouted b q e
head_routed b q (entry.Head t asked) h cut = record { goes = tt; passed = tt; seen = tt; came = tt; went = tt; cut = cut }
head_routed b q (entry.Kill t) h cut = record { goes = tt; passed = tt; seen = tt; came = tt; went = tt; cut = cut }
head_routed b q (entry.Gone t) h cut = record { goes = tt; passed = tt; seen = tt; came = tt; went = tt; cut = cut }
head_routed b q (entry.Spawn t) h cut = record { goes = tt; passed = tt; seen = tt; came = tt; went = tt; cut = cut }
head_routed b q _ h cut = absurd h

module _ (b : Beginning) (rows : List (List PhoneState)) where
  pub calls_follow : (q : List Entry) (old new : CallTable) → KeepLabels old new → PhonesFit b q rows old → PhonesFit b q rows new
  calls_follow q old new keep fits = record {
    lawful = fits.lawful;
    phones = fits.phones;
    labels = λ n d is. let back = keep n d is in fits.labels n back.0 back.1 ∙ ap (λ (l : Label). Some l) (sym back.2);
  }

  module _ (calls : CallTable) where
    pub plain_told : (q : List Entry) (e : Entry) → IsPlain e → PhonesFit b q rows calls → PhonesFit b (e ∷ q) rows calls
    plain_told q (entry.Head t asked) h fits = absurd h
    plain_told q (entry.Kill t) h fits = absurd h
    plain_told q (entry.Gone t) h fits = absurd h
    plain_told q (entry.Spawn t) h fits = absurd h
    plain_told q (entry.Accepted n from method to) h fits = absurd h
    plain_told q (entry.Forwarded n t to label) h fits = absurd h
    plain_told q (entry.PhoneIs label state) h fits = absurd h
    plain_told q (entry.Outcome told) h fits = absurd h
    plain_told q _ h fits = record { lawful = (fits.lawful, plain_routed b q _ h); phones = fits.phones; labels = fits.labels }

    pub plains_told : (es q : List Entry) → ArePlain es → PhonesFit b q rows calls → PhonesFit b (on_top es q) rows calls
    plains_told [] q h fits = fits
    plains_told (e ∷ es) q h fits = plains_told es (e ∷ q) h.1 (plain_told q e h.0 fits)

    -- an event begins
    pub head_told : (q : List Entry) (e : Entry) → IsHeadEntry e → AreCutOff b q → PhonesFit b q rows calls → PhonesFit b (e ∷ q) rows calls
    head_told q (entry.Head t asked) h cut fits = record { lawful = (fits.lawful, head_routed b q (entry.Head t asked) h cut); phones = fits.phones; labels = fits.labels }
    head_told q (entry.Kill t) h cut fits = record { lawful = (fits.lawful, head_routed b q (entry.Kill t) h cut); phones = fits.phones; labels = fits.labels }
    head_told q (entry.Gone t) h cut fits = record { lawful = (fits.lawful, head_routed b q (entry.Gone t) h cut); phones = fits.phones; labels = fits.labels }
    head_told q (entry.Spawn t) h cut fits = record { lawful = (fits.lawful, head_routed b q (entry.Spawn t) h cut); phones = fits.phones; labels = fits.labels }
    head_told q _ h cut fits = absurd h

    -- a task is told this
    pub outcome_told : (q : List Entry) (o : Outcome) → TellsLabelOf calls o → PhonesFit b q rows calls → PhonesFit b (entry.Outcome o ∷ q) rows calls
    outcome_told q o told fits = record { lawful = (fits.lawful, record { goes = tt; passed = tt; seen = label_told o told; came = tt; went = tt; cut = tt }); phones = fits.phones; labels = fits.labels } where
      label_told : (o : Outcome) → TellsLabelOf calls o → TellsLabel q (entry.Outcome o)
      label_told (outcome.Received n msg label) h = fits.labels n.0 h.0 h.1 ∙ ap (λ (l : Label). Some l) h.2
      label_told _ h = tt

    -- a phone is in this state from now on
    pub phone_told : (q : List Entry) (l : Label) (s : PhoneState) → IsSome (state_at rows l.task.0 l.phone.0) → ComesToLead b q (entry.PhoneIs l s) → CeasesToLead b q (entry.PhoneIs l s) → PhonesFit b q rows calls → PhonesFit b (entry.PhoneIs l s ∷ q) (with_state_at rows l.task.0 l.phone.0 s) calls
    phone_told q l s there came went fits = record {
      lawful = (fits.lawful, record { goes = tt; passed = tt; seen = tt; came = came; went = went; cut = tt });
      phones = λ t p. written rows l s there t p (phone_in b.wires t p q) (fits.phones t p);
      labels = fits.labels;
    }

    -- likewise a phone, where there is one, that led nowhere
    pub idle_told : (q : List Entry) (kept : Option Label) (s : PhoneState) → ((l : Label) → kept ≡ Some l → ComesToLead b q (entry.PhoneIs l s)) → AreIdle rows kept → PhonesFit b q rows calls → PhonesFit b (on_top (option_to_list (kept_note kept s)) q) (kept_rows rows kept s) calls
    idle_told q None s came idle fits = fits
    idle_told q (Some l) s came idle fits =
        phone_told q l s (is_some (state_at rows l.task.0 l.phone.0) idle.state idle.is) (came l refl)
        (λ u led. absurd (none_leads u (leads b.wires l.task.0 l.phone.0 q) (target_told b.wires q rows fits.phones l.task.0 l.phone.0 idle.state idle.is ∙ idle.nowhere) led)) fits

    -- a call is accepted, which has this record from then on
    pub accepted_told : (q : List Entry) (d : Call) (to : Option TaskNo) → d.label ≡ d.from → GoesThere b q (entry.Accepted d.number d.from d.request.method to) → PhonesFit b q rows calls → PhonesFit b (entry.Accepted d.number d.from d.request.method to ∷ q) rows (enqueue calls d)
    accepted_told q d to label goes fits =
        let e : Call = record d { stamp = calls.next_stamp } in
        record {
          lawful = (fits.lawful, record { goes = goes; passed = tt; seen = tt; came = tt; went = tt; cut = tt });
          phones = fits.phones;
          labels = λ n x is. elim (chosen d.number.0 n (Some e) (call_at calls n) (Some x) (sym (at_insert calls.records d.number.0 n e) ∙ is)) [
            | inl h ↦ rw (eq-eqb d.number.0 n h.0) (ap (λ (l : Label). Some l) (sym label ∙ ap (λ (y : Call). y.label) (same_Some e x h.1)))
            | inr h ↦ rw (ne_eqb d.number.0 n h.0) (fits.labels n x h.1)
          ];
        }

    -- a call is passed on, which has this record from then on
    pub passed_told : (q : List Entry) (d : Call) (by to : TaskNo) (at : Place) → GoesOnThere b q (entry.Forwarded d.number by to d.label) → PhonesFit b q rows calls → PhonesFit b (entry.Forwarded d.number by to d.label ∷ q) rows (put_at calls d at)
    passed_told q d by to at goes fits =
        let e : Call = record d { place = at; stamp = calls.next_stamp } in
        record {
          lawful = (fits.lawful, record { goes = tt; passed = goes; seen = tt; came = tt; went = tt; cut = tt });
          phones = fits.phones;
          labels = λ n x is. elim (chosen d.number.0 n (Some e) (call_at calls n) (Some x) (sym (at_insert calls.records d.number.0 n e) ∙ is)) [
            | inl h ↦ rw (eq-eqb d.number.0 n h.0) (ap (λ (l : Label). Some l) (ap (λ (y : Call). y.label) (same_Some e x h.1)))
            | inr h ↦ rw (ne_eqb d.number.0 n h.0) (fits.labels n x h.1)
          ];
        }

-- a live call

module _ (b : Beginning) (k : KernelState) (c : Call) (live : IsLive k c) where
  -- it is over, and a phone that it keeps is free
  pub over_told : (q : List Entry) (e : Entry) → IsPlain e → AreKept k.tasks.phones k.calls → PhonesFit b q k.tasks.phones k.calls
      → PhonesFit b (on_top (option_to_list (kept_note (kept_phone c) Free)) (e ∷ q)) (kept_rows k.tasks.phones (kept_phone c) Free) (without_call k.calls c.number.0)
  over_told q e plain kept fits =
      let after : CallTable = without_call k.calls c.number.0 in
      idle_told b k.tasks.phones after (e ∷ q) (kept_phone c) Free (λ l is. tt)
      (waits_idle k.tasks.phones (kept_phone c) (kept_waits k.tasks.phones k.calls c.number.0 c kept live))
      (plain_told b k.tasks.phones after q e plain (calls_follow b k.tasks.phones q k.calls after (gone_keeps k.calls c.number.0) fits))

  -- it goes to another place, as this record, and a phone that leads nowhere, where there is one, gets this state
  pub put_told : (q : List Entry) (e : Entry) (d : Call) (at : Place) (kept : Option Label) (s : PhoneState) → IsPlain e → d.number ≡ c.number → d.label ≡ c.label
      → ((l : Label) → kept ≡ Some l → ComesToLead b (e ∷ q) (entry.PhoneIs l s)) → AreIdle k.tasks.phones kept → PhonesFit b q k.tasks.phones k.calls
      → PhonesFit b (on_top (option_to_list (kept_note kept s)) (e ∷ q)) (kept_rows k.tasks.phones kept s) (put_at k.calls d at)
  put_told q e d at kept s plain number label came idle fits =
      let after : CallTable = put_at k.calls d at in
      idle_told b k.tasks.phones after (e ∷ q) kept s came idle
      (plain_told b k.tasks.phones after q e plain (calls_follow b k.tasks.phones q k.calls after (put_keeps k.calls c d at live number label) fits))
