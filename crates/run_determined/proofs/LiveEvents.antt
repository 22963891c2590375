-- Each event keeps that a call which a fibril sent was made by its task, and that a delivered answer was given to it.
use Rattle.std.proofs.Common.{◌≡◌, ℕ, Bool, true, false, ◌⊎◌, inl, inr, List, [], ◌∷◌, ◌++◌, Option, None, Some, refl, ap, sym, subst, ◌∙◌}
use Rattle.std.specs.Prelude.{◌==◌, ◌&&◌, ◌||◌, if◌then◌else◌}
use Rattle.std.proofs.lemmas.Bool.{cases_eq, eq-eqb, ne_eqb, eqb-true, false≢true}
use Rattle.std.proofs.lemmas.Option.{same_Some}
use Rattle.ipc_ids.specs.declared.numbers.TaskNo.{TaskNo}
use Rattle.ipc_ids.specs.declared.numbers.CallNo.{CallNo}
use Rattle.ipc_ids.specs.declared.message.Request.{Request}
use Rattle.ipc_ids.specs.declared.message.Outcome.{Outcome}
use Rattle.ipc_ids.specs.declared.message.Outcome.TheVariants as outcome
use Rattle.ipc_ids.specs.declared.entry.Entry.{Entry}
use Rattle.ipc_ids.specs.declared.entry.Entry.TheVariants as entry
use Rattle.ipc_ids.specs.Tales.{Event, Step, Receive, Delivered, Tale, Head, ask, tale, tales}
use Rattle.ipc_ids.specs.Life.{Life, Answers, life, event, Allowed}
use Rattle.ipc_ids.specs.Facts as fact
use Rattle.ipc_ids.specs.Facts.{Fact, if_mine, outcome_fact, facts_onto, facts}
use Rattle.ipc_ids.specs.Replies.{Waiter, is_mine, sent}
use Rattle.ipc_ids.specs.Holdings.{on_top, newest_first, present, Making, making}
use Rattle.ipc_ids.proofs.LawfulAreas.{on_top-append, newest_first-append}
use Rattle.ipc_ids.specs.Effects.{is_effect, AreEffects, is_delivery, has_delivery, IsAnswerOf, IsHonest}
use Rattle.async_laws.specs.Links.{is_own, AreOwn}
use Rattle.async_laws.specs.KeptAnswers.{given}
use Rattle.async_laws.proofs.EventsFit.{facts_append}
use Rattle.route_laws.specs.Leads.{Beginning}
use Rattle.run_determined.specs.PhoneCauses.{IsJustMade, TellsItsCall, HadCause}
use Rattle.run_determined.proofs.AsyncSteps.{IsSentAs, AreSentAs}
use Rattle.run_determined.proofs.CauseEvents.{had_before, effects_now}
use Rattle.run_determined.proofs.LiveCalls.{AreLawful, is_delivered, IsMadeBy, lawful_before, made_stays}

-- ---- calls that fibrils send

-- a fibril of task t sends call n among these entries
abbrev SentIn : ℕ → ℕ → List Entry → Type 0
SentIn t n [] = ⊥
SentIn t n (entry.Sent u f m slot ∷ es) = ((u.0 ≡ t) × (m.0 ≡ n)) ⊎ SentIn t n es
SentIn t n (_ ∷ es) = SentIn t n es

passes : (n : ℕ) (p : List Fact) (b : Bool) (x : Fact) → sent n (x ∷ p) ≡ sent n p
    → sent n (if_mine b x ∷ p) ≡ sent n p
passes n p true x h = h
passes n p false x h = refl

outcome_passes : (n : ℕ) (p : List Fact) (o : Outcome) → sent n (outcome_fact o ∷ p) ≡ sent n p
outcome_passes n p (outcome.Answered m reply) = refl
outcome_passes n p _ = refl

sent_one : (t n : ℕ) (d : Waiter) (e : Entry) (es : List Entry) (p : List Fact) → sent n (fact.fact t e ∷ p) ≡ Some d
    → (sent n p ≡ Some d) ⊎ SentIn t n (e ∷ es)
sent_one t n d (entry.Sent u f m slot) es p h = by_task (u.0 == t) refl h where
  by_number : u.0 ≡ t → (b : Bool) → (m.0 == n) ≡ b
      → (if b then Some (record { fibril = f.0; slot = slot }) else sent n p) ≡ Some d
      → (sent n p ≡ Some d) ⊎ SentIn t n (entry.Sent u f m slot ∷ es)
  by_number own true is g = inr (inl (own, eqb-true m.0 n is))
  by_number own false is g = inl g

  by_task : (b : Bool) → (u.0 == t) ≡ b → sent n (if_mine b (fact.Sent f.0 m.0 slot) ∷ p) ≡ Some d
      → (sent n p ≡ Some d) ⊎ SentIn t n (entry.Sent u f m slot ∷ es)
  by_task true is g = by_number (eqb-true u.0 t is) (m.0 == n) refl g
  by_task false is g = inl g
sent_one t n d (entry.Outcome o) es p h = inl (sym (outcome_passes n p o) ∙ h)
sent_one t n d (entry.Gets u f m slot reply) es p h =
    inl (sym (passes n p (u.0 == t) (fact.Gets f.0 m.0 slot reply) refl) ∙ h)
sent_one t n d (entry.Ends u f) es p h = inl (sym (passes n p (u.0 == t) (fact.Ends f.0) refl) ∙ h)
sent_one t n d (entry.Begins u f e mode session phone) es p h =
    inl (sym (passes n p (u.0 == t)
    (fact.Begins f.0 e.0 (record { mode = mode; session = session; phone = phone })) refl) ∙ h)
sent_one t n d (entry.ExchangeEnds u f e) es p h = inl (sym (passes n p (u.0 == t) (fact.EndsExchange e.0) refl) ∙ h)
sent_one t n d (entry.Drops u f e) es p h = inl (sym (passes n p (u.0 == t) (fact.Drops e.0) refl) ∙ h)
sent_one t n d _ es p h = inl h

sent_later : (t n : ℕ) (e : Entry) (es : List Entry) → SentIn t n es → SentIn t n (e ∷ es)
sent_later t n (entry.Sent u f m slot) es h = inr h
sent_later t n _ es h = h

sent_in : (t n : ℕ) (d : Waiter) (es : List Entry) (p : List Fact) → sent n (facts_onto t es p) ≡ Some d
    → (sent n p ≡ Some d) ⊎ SentIn t n es
sent_in t n d [] p h = inl h
sent_in t n d (e ∷ es) p h =
    elim (sent_in t n d es (fact.fact t e ∷ p) h)
    [ inl g ↦ sent_one t n d e es p g | inr g ↦ inr (sent_later t n e es g) ]

both_sent : (t n : ℕ) (es fs : List Entry) → SentIn t n (es ++ fs) → SentIn t n es ⊎ SentIn t n fs
both_sent t n [] fs h = inr h
both_sent t n (e ∷ es) fs h = by_entry e h (both_sent t n es fs) where
  later : (e : Entry) → SentIn t n es ⊎ SentIn t n fs → SentIn t n (e ∷ es) ⊎ SentIn t n fs
  later e (inl g) = inl (sent_later t n e es g)
  later e (inr g) = inr g

  by_entry : (e : Entry) → SentIn t n (e ∷ (es ++ fs)) → (SentIn t n (es ++ fs) → SentIn t n es ⊎ SentIn t n fs)
      → SentIn t n (e ∷ es) ⊎ SentIn t n fs
  by_entry (entry.Sent u f m slot) (inl g) rest = inl (inl g)
  by_entry (entry.Sent u f m slot) (inr g) rest = later (entry.Sent u f m slot) (rest g)
  by_entry x g rest = later x (rest g)

effects_send_none : (t n : ℕ) (es : List Entry) → AreEffects es → SentIn t n es → ⊥
effects_send_none t n [] effects h = h
effects_send_none t n (e ∷ es) effects h = by_entry e effects.0 h (effects_send_none t n es effects.1) where
  by_entry : (e : Entry) → is_effect e ≡ true → SentIn t n (e ∷ es) → (SentIn t n es → ⊥) → ⊥
  by_entry (entry.Sent u f m slot) is g rest = cc is
  by_entry _ is g rest = rest g

own_sends : (u t n : ℕ) (o : Outcome) (es : List Entry) → AreOwn u es → AreSentAs o es → SentIn t n es
    → (u ≡ t) × (o ≡ outcome.Accepted (record { 0 = n }))
own_sends u t n o [] own told h = absurd h
own_sends u t n o (e ∷ es) own told h = by_entry e own.0 told.0 h (own_sends u t n o es own.1 told.1) where
  call_is : (m : CallNo) → m.0 ≡ n → outcome.Accepted m ≡ outcome.Accepted (record { 0 = n })
  call_is m same = ap (λ (x : ℕ). let c : CallNo = record { 0 = x } in outcome.Accepted c) same

  by_entry : (e : Entry) → is_own u e ≡ true → IsSentAs o e → SentIn t n (e ∷ es)
      → (SentIn t n es → (u ≡ t) × (o ≡ outcome.Accepted (record { 0 = n }))) → (u ≡ t)
      × (o ≡ outcome.Accepted (record { 0 = n }))
  by_entry (entry.Sent v f m slot) mine is (inl g) rest = (sym (eqb-true v.0 u mine) ∙ g.0, is ∙ call_is m g.1)
  by_entry (entry.Sent v f m slot) mine is (inr g) rest = rest g
  by_entry _ mine is g rest = rest g

-- ---- answers that are given

given_one : (n : ℕ) (p : List Fact) (x : Fact) → given n p ≡ true → given n (x ∷ p) ≡ true
given_one n p (fact.Answer m reply) h = by_test ((m == n) && is_mine p) where
  by_test : (b : Bool) → (if b then true else given n p) ≡ true
  by_test true = refl
  by_test false = h
given_one n p _ h = h

given_kept : (t n : ℕ) (es : List Entry) (p : List Fact) → given n p ≡ true → given n (facts_onto t es p) ≡ true
given_kept t n [] p h = h
given_kept t n (e ∷ es) p h = given_kept t n es (fact.fact t e ∷ p) (given_one n p (fact.fact t e) h)

mine_kept : (t : ℕ) (es : List Entry) (p : List Fact) → AreEffects es → is_mine (facts_onto t es p) ≡ is_mine p
mine_kept t [] p effects = refl
mine_kept t (e ∷ es) p effects = mine_kept t es (fact.fact t e ∷ p) effects.1 ∙ one e effects.0 where
  one : (e : Entry) → is_effect e ≡ true → is_mine (fact.fact t e ∷ p) ≡ is_mine p
  one (entry.Accepted n from method to) is = refl
  one (entry.Received n u) is = refl
  one (entry.Forwarded n u to label) is = refl
  one (entry.Answered n reply by) is = refl
  one (entry.Vanished n) is = refl
  one (entry.Delivered n u) is = refl
  one (entry.Dropped n u) is = refl
  one (entry.Forgotten n) is = refl
  one (entry.PhoneIs phone state) is = refl
  one (entry.AreaMade u base pages rights store) is = refl
  one (entry.AreaGone u base) is = refl
  one (entry.Wrote u at count store) is = refl
  one _ is = absurd (cc is)

-- the outcome of an event of the task gives the answer
answer_given : (n : ℕ) (o : Outcome) (p : List Fact) → IsAnswerOf n o → is_mine p ≡ true
    → given n (outcome_fact o ∷ p) ≡ true
answer_given n (outcome.Answered m reply) p is mine = rw (eq-eqb m.0 n is, mine) refl
answer_given n _ p is mine = absurd is

-- ---- answers that are delivered

-- an answer is delivered in a receive of its task
pub delivered_by : (p : List Tale) (m v : ℕ) (l : Life) → Allowed p m (Delivered v) l → event p ≡ Some (Step v Receive)
delivered_by p m v (Answers u) a = a.1 ∙ ap (λ (x : ℕ). Some (Step x Receive)) (sym a.0)
delivered_by p m v _ a = absurd a

event_kept : (q : List Entry) (e : Entry) → is_effect e ≡ true → event (tales (e ∷ q)) ≡ event (tales q)
event_kept q (entry.Head t asked) is = absurd (cc is)
event_kept q (entry.Kill t) is = absurd (cc is)
event_kept q (entry.Gone t) is = absurd (cc is)
event_kept q (entry.Spawn t) is = absurd (cc is)
event_kept q _ is = refl

-- what is delivered among effects
effects_deliver : (t n : ℕ) (x : Event) (es q : List Entry) → AreEffects es → event (tales q) ≡ Some x
    → AreLawful (on_top es q) → is_delivered n t (on_top es q) ≡ true
    → (is_delivered n t q ≡ true) ⊎ ((Some x ≡ Some (Step t Receive)) × (has_delivery n es ≡ true))
effects_deliver t n x [] q effects now l h = inl h
effects_deliver t n x (e ∷ es) q effects now l h =
    elim (effects_deliver t n x es (e ∷ q) effects.1 (event_kept q e effects.0 ∙ now) l h) [
      | inl g ↦ by_entry e (lawful_before es (e ∷ q) l) g
      | inr g ↦ inr (g.0, later (is_delivery n e) g.1)
    ]
  where
    later : (b : Bool) → has_delivery n es ≡ true → (b || has_delivery n es) ≡ true
    later true g = refl
    later false g = g

    by_entry : (e : Entry) → AreLawful (e ∷ q) → is_delivered n t (e ∷ q) ≡ true
        → (is_delivered n t q ≡ true) ⊎ ((Some x ≡ Some (Step t Receive)) × (has_delivery n (e ∷ es) ≡ true))
    by_entry (entry.Delivered m v) l g = by_number (cases_eq m.0 n) (cases_eq v.0 t) where
      by_number : (m.0 ≡ n) ⊎ (m.0 ≡ n → ⊥) → (v.0 ≡ t) ⊎ (v.0 ≡ t → ⊥)
          → (is_delivered n t q ≡ true)
          ⊎ ((Some x ≡ Some (Step t Receive)) × (has_delivery n (entry.Delivered m v ∷ es) ≡ true))
      by_number (inr other) s = inl (rw (ne_eqb m.0 n other) at g)
      by_number (inl same) (inr other) = inl (rw (eq-eqb m.0 n same, ne_eqb v.0 t other) at g)
      by_number (inl same) (inl task) = inr (
        sym now ∙ delivered_by (tales q) m.0 v.0 (life m.0 (tales q)) l.2.0
            ∙ ap (λ (y : ℕ). Some (Step y Receive)) task,
        rw (eq-eqb m.0 n same) refl,
      )
    by_entry _ l g = inl g

own_deliver : (t n u : ℕ) (es q : List Entry) → AreOwn u es → is_delivered n t (on_top es q) ≡ is_delivered n t q
own_deliver t n u [] q own = refl
own_deliver t n u (e ∷ es) q own = own_deliver t n u es (e ∷ q) own.1 ∙ one e own.0 where
  one : (e : Entry) → is_own u e ≡ true → is_delivered n t (e ∷ q) ≡ is_delivered n t q
  one (entry.Delivered m v) mine = absurd (cc mine)
  one _ mine = refl

-- ---- what each event keeps

-- a call that a fibril of task t sent was made by it, and an answer that was delivered to it was given to it
pub record KeepsSends (t : ℕ) (h : List Entry) : Type 0 where
  pub sends : (n : ℕ) (d : Waiter) → sent n (facts t h) ≡ Some d → IsMadeBy t n (making n (newest_first h))
  pub gives : (n : ℕ) → is_delivered n t (newest_first h) ≡ true → given n (facts t h) ≡ true

pub start_sends : (t : ℕ) → KeepsSends t []
start_sends t = record { sends = λ n d h. absurd (cc h); gives = λ n h. absurd (false≢true h) }

still_made : (t n : ℕ) (es q : List Entry) → AreLawful (on_top es q) → IsMadeBy t n (making n q)
    → IsMadeBy t n (making n (on_top es q))
still_made t n es q l it =
    record { made = it.made; how = made_stays n es q it.made l it.how; caller = it.caller; plain = it.plain }

just_by : (u : TaskNo) (asked : Request) (n : ℕ) (o : Option Making) → IsJustMade (Some (entry.Head u asked)) o
    → IsMadeBy u.0 n o
just_by u asked n None it = absurd it
just_by u asked n (Some made) it = record { made = made; how = refl; caller = it.1; plain = it.2 }

module _ (b : Beginning) (t : ℕ) (h : List Entry) (kept : KeepsSends t h) where
  abbrev q : List Entry
  q = newest_first h

  -- a request of task u, with these effects, this outcome and the entries of its program
  module _ (u : TaskNo) (asked : Request) (es : List Entry) (o : Outcome) (own : List Entry) (honest : IsHonest es o)
      (mine : AreOwn u.0 own) (told : AreSentAs o own) where
    abbrev whole : List Entry
    whole = entry.Head u asked ∷ (es ++ (entry.Outcome o ∷ own))

    abbrev r : List Entry
    r = on_top es (entry.Head u asked ∷ q)

    in_parts : on_top whole q ≡ on_top own (entry.Outcome o ∷ r)
    in_parts = on_top-append es (entry.Outcome o ∷ own) (entry.Head u asked ∷ q)

    abbrev fs : List Fact
    fs = facts_onto t es (fact.Head (u.0 == t) ∷ facts t h)

    facts_in_parts : facts t (h ++ whole) ≡ facts_onto t own (outcome_fact o ∷ fs)
    facts_in_parts =
        facts_append t h whole [] ∙ facts_append t es (entry.Outcome o ∷ own) (fact.Head (u.0 == t) ∷ facts t h)

    step_sends_kept : AreLawful (on_top whole q) → HadCause b (on_top whole q) → (n : ℕ) (d : Waiter)
        → sent n (facts t (h ++ whole)) ≡ Some d → IsMadeBy t n (making n (on_top whole q))
    step_sends_kept l had n d g =
        elim (sent_in t n d whole (facts t h)
        (subst (λ (y : List Fact). sent n y ≡ Some d) (facts_append t h whole []) g)) [
          | inl old ↦ still_made t n whole q l (kept.sends n d old)
          | inr new ↦ elim (both_sent t n es (entry.Outcome o ∷ own) new) [
            | inl x ↦ absurd (effects_send_none t n es honest.effects x)
            | inr x ↦
                let is = own_sends u.0 t n o own mine told x in
                let m : HadCause b (entry.Outcome o ∷ r) =
                had_before b own (entry.Outcome o ∷ r) (subst (HadCause b) in_parts had) in
                let call : TellsItsCall r (entry.Outcome (outcome.Accepted (record { 0 = n }))) =
                subst (λ (y : Outcome). TellsItsCall r (entry.Outcome y)) is.1 m.1.told in
                let now : present r ≡ Some (entry.Head u asked) =
                effects_now es (entry.Head u asked ∷ q) honest.effects in
                let made : IsMadeBy u.0 n (making n r) =
                just_by u asked n (making n r) (subst (λ (y : Option Entry). IsJustMade y (making n r)) now call) in
                let later : IsMadeBy u.0 n (making n (on_top own (entry.Outcome o ∷ r))) =
                still_made u.0 n (entry.Outcome o ∷ own) r
                (subst AreLawful in_parts l) made in
                subst (λ (y : List Entry). IsMadeBy t n (making n y)) (sym in_parts)
                (subst (λ (y : ℕ). IsMadeBy y n (making n (on_top own (entry.Outcome o ∷ r)))) is.0 later)
          ]
        ]

    step_gives_kept : AreLawful (on_top whole q) → (n : ℕ) → is_delivered n t (on_top whole q) ≡ true
        → given n (facts t (h ++ whole)) ≡ true
    step_gives_kept l n g =
        let m : AreLawful (entry.Outcome o ∷ r) =
        lawful_before own (entry.Outcome o ∷ r) (subst AreLawful in_parts l) in
        let there : is_delivered n t r ≡ true =
        sym (own_deliver t n u.0 own (entry.Outcome o ∷ r) mine) ∙ sym (ap (is_delivered n t) in_parts) ∙ g in
        elim (effects_deliver t n (Step u.0 (ask asked)) es (entry.Head u asked ∷ q) honest.effects refl m.0 there) [
          | inl old ↦
              subst (λ (y : List Fact). given n y ≡ true) (sym (facts_append t h whole []))
              (given_kept t n whole (facts t h) (kept.gives n old))
          | inr new ↦
              let task : u.0 ≡ t = task_is (same_Some (Step u.0 (ask asked)) (Step t Receive) new.0) in
              let own_event : is_mine fs ≡ true =
              mine_kept t es (fact.Head (u.0 == t) ∷ facts t h) honest.effects ∙ eq-eqb u.0 t task in
              subst (λ (y : List Fact). given n y ≡ true) (sym facts_in_parts)
              (given_kept t n own (outcome_fact o ∷ fs) (answer_given n o fs (honest.answered n new.1) own_event))
        ]
      where
        task_is : Step u.0 (ask asked) ≡ Step t Receive → u.0 ≡ t
        task_is e = cc

    pub step_kept : AreLawful (newest_first (h ++ whole)) → HadCause b (newest_first (h ++ whole))
        → KeepsSends t (h ++ whole)
    step_kept l had = record {
      sends = λ n d g. subst (λ (y : List Entry). IsMadeBy t n (making n y)) (sym (newest_first-append h whole))
          (step_sends_kept (subst AreLawful (newest_first-append h whole) l)
          (subst (HadCause b) (newest_first-append h whole) had) n d g);
      gives = λ n g. step_gives_kept (subst AreLawful (newest_first-append h whole) l) n
          (ap (is_delivered n t) (sym (newest_first-append h whole)) ∙ g);
    }

  -- an event with this head, which asks for nothing, and these effects
  pub quiet_kept : (e : Entry) (x : Event) (es : List Entry) → tale e ≡ Head x
      → ((n : ℕ) → sent n (fact.fact t e ∷ facts t h) ≡ sent n (facts t h))
      → ((n : ℕ) → is_delivered n t (e ∷ q) ≡ is_delivered n t q)
      → ((n : ℕ) → SentIn t n (e ∷ es) → SentIn t n es) → (x ≡ Step t Receive → ⊥) → AreEffects es
      → AreLawful (newest_first (h ++ e ∷ es)) → KeepsSends t (h ++ e ∷ es)
  quiet_kept e x es head same delivered sends other effects l =
      let lawful : AreLawful (on_top (e ∷ es) q) =
      subst AreLawful (newest_first-append h (e ∷ es)) l in
      record {
        sends = λ n d g. elim
            (sent_in t n d (e ∷ es) (facts t h)
            (subst (λ (y : List Fact). sent n y ≡ Some d) (facts_append t h (e ∷ es) []) g)) [
              | inl old ↦
                  subst (λ (y : List Entry). IsMadeBy t n (making n y)) (sym (newest_first-append h (e ∷ es)))
                  (still_made t n (e ∷ es) q lawful (kept.sends n d old))
              | inr new ↦ absurd (effects_send_none t n es effects (sends n new))
            ];
        gives = λ n g. elim
            (effects_deliver t n x es (e ∷ q) effects (now x head) lawful
            (ap (is_delivered n t) (sym (newest_first-append h (e ∷ es))) ∙ g)) [
              | inl old ↦
                  subst (λ (y : List Fact). given n y ≡ true) (sym (facts_append t h (e ∷ es) []))
                  (given_kept t n (e ∷ es) (facts t h) (kept.gives n (sym (delivered n) ∙ old)))
              | inr new ↦ absurd (other (same_Some x (Step t Receive) new.0))
            ];
      }
    where
      now : (x : Event) → tale e ≡ Head x → event (tales (e ∷ q)) ≡ Some x
      now x is = rw is refl
