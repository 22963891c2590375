-- Each event keeps it that a call that came to a task, and was not passed on, is settled; so a call
-- that comes is new to the task.
use Rattle.std.proofs.Common.{ℕ, ◌≡◌, Bool, true, false, List, [], ◌∷◌, ◌++◌, Some, refl, sym, subst, ap, ◌∙◌, arith}
use Rattle.std.specs.Prelude.{◌==◌, ◌||◌, if◌then◌else◌}
use Rattle.std.proofs.lemmas.Bool.{eq-eqb, eqb-true}
use Rattle.ipc_ids.specs.declared.numbers.TaskNo.{TaskNo}
use Rattle.ipc_ids.specs.declared.message.Request.{Request}
use Rattle.ipc_ids.specs.declared.message.Request.TheVariants as request
use Rattle.ipc_ids.specs.declared.message.Outcome.{Outcome}
use Rattle.ipc_ids.specs.declared.message.Outcome.TheVariants as outcome
use Rattle.ipc_ids.specs.declared.entry.Entry.{Entry}
use Rattle.ipc_ids.specs.declared.entry.Entry.TheVariants as entry
use Rattle.ipc_ids.specs.Tales.{Step, Kill, Spawn, Ask, Forward, To, At_once, Note, Accepted, Received, Forwarded, Answered, Vanished, Forgotten, Delivered, Dropped, Tale, Head, On, Other, ask, tale, tales, onto, past}
use Rattle.ipc_ids.specs.Life.{Life, Nowhere, Back, Incoming, Dispatched, life, after, event, Allowed}
use Rattle.ipc_ids.specs.Lawful.{Lawful}
use Rattle.ipc_ids.specs.Holdings.{newest_first, on_top}
use Rattle.ipc_ids.specs.Doings.{Doing, Asks, Told, is_own_event, doings_of, doings, is_kept, IsNewTo}
use Rattle.ipc_ids.specs.KeptCalls.{IsSettled, KeepsCalls, is_within, AreWithin, is_receipt_of, has_receipt, TellsReceipt, served, did}
use Rattle.ipc_ids.proofs.LawfulLists.{lawful_before}
use Rattle.ipc_ids.proofs.LawfulAreas.{newest_first-append, on_top-append}
use Rattle.ipc_ids.proofs.Pasts.{past-append, tales-append, onto-append}

abbrev below : List Entry → List Tale → List Tale
below es l = onto (tales es) l

first_of : (e : Entry) (es : List Entry) (l : List Tale) → Lawful (below es (tale e ∷ l)) → Lawful (tale e ∷ l)
first_of e es l law = lawful_before (tales es) (tale e ∷ l) law

-- the present event is not that the task passes the call on
abbrev IsNoForward : ℕ → ℕ → List Tale → Type 0
IsNoForward t n l = event l ≡ Some (Step t (Forward n)) → ⊥

-- a note that is allowed leaves a settled call settled
settled_note : (w : Note) (l : List Tale) (n t : ℕ) (x : Life) → Allowed l n w x → IsNoForward t n l → IsSettled t x → IsSettled t (after w x)
settled_note (Forwarded u v) l n t (Dispatched c s) may none h = absurd (none (may.1 ∙ ap (λ (k : ℕ). Some (Step k (Forward n))) (sym may.0 ∙ h)))
settled_note (Accepted u phone method (To s)) l n t Nowhere may none h = absurd h
settled_note (Accepted u phone method At_once) l n t Nowhere may none h = absurd h
settled_note (Answered code by) l n t x may none h = tt
settled_note Vanished l n t x may none h = tt
settled_note Forgotten l n t x may none h = h
settled_note (Delivered u) l n t x may none h = tt
settled_note (Dropped u) l n t x may none h = tt
settled_note (Received u) l n t (Incoming c s) may none h = absurd h
settled_note (Received u) l n t Nowhere may none h = absurd h
settled_note (Received u) l n t (Back c) may none h = absurd h
settled_note (Received u) l n t _ may none h = absurd may
settled_note _ l n t _ may none h = absurd may

settled_stays : (x : Tale) (l : List Tale) (n t : ℕ) → Lawful (x ∷ l) → IsNoForward t n l → IsSettled t (life n l) → IsSettled t (life n (x ∷ l))
settled_stays (Head e) l n t law none h = h
settled_stays Other l n t law none h = h
settled_stays (On m w) l n t law none h = by_call (m == n) refl where
  allowed : m ≡ n → Allowed l n w (life n l)
  allowed same = subst (λ (k : ℕ). Allowed l k w (life k l)) same law.2.0

  by_call : (b : Bool) → (m == n) ≡ b → IsSettled t (if b then after w (life n l) else life n l)
  by_call true is = settled_note w l n t (life n l) (allowed (eqb-true m n is)) none h
  by_call false is = h

within_event : (e : Entry) (l : List Tale) → is_within e ≡ true → event (tale e ∷ l) ≡ event l
within_event e l h = grind arith

settled_through : (es : List Entry) (l : List Tale) (n t : ℕ) → AreWithin es → Lawful (below es l) → IsNoForward t n l → IsSettled t (life n l) → IsSettled t (life n (below es l))
settled_through [] l n t h law none s = s
settled_through (e ∷ es) l n t h law none s =
    settled_through es (tale e ∷ l) n t h.1 law (λ i. none (sym (within_event e l h.0) ∙ i)) (settled_stays (tale e) l n t (first_of e es l law) none s)

-- a receipt: the call was not settled, and it is from then on
not_settled : (e : Entry) (l : List Tale) (n t : ℕ) → is_receipt_of n e ≡ true → Lawful (tale e ∷ l) → IsSettled t (life n l) → ⊥
not_settled e l n t h law s = grind (arith, eqb-true)

receipt_event : (e : Entry) (l : List Tale) (n t m : ℕ) → is_receipt_of n e ≡ true → Lawful (tale e ∷ l) → IsNoForward t m l
receipt_event e l n t m h law i = grind (arith, eqb-true, i)

receipt_settles : (e : Entry) (l : List Tale) (n t : ℕ) (a : Ask) → event l ≡ Some (Step t a) → is_receipt_of n e ≡ true → Lawful (tale e ∷ l) → IsSettled t (life n (tale e ∷ l))
receipt_settles e l n t a at h law = grind (arith, eqb-true, eq-eqb, at)

-- of a list of effects, in an event that is a step of task t
event_through : (es : List Entry) (l : List Tale) → AreWithin es → event (below es l) ≡ event l
event_through [] l h = refl
event_through (e ∷ es) l h = event_through es (tale e ∷ l) h.1 ∙ within_event e l h.0

-- a call that is settled is not received
received_is_new : (es : List Entry) (l : List Tale) (n t : ℕ) → AreWithin es → Lawful (below es l) → IsNoForward t n l → IsSettled t (life n l) → has_receipt n es ≡ true → ⊥
received_is_new [] l n t h law none s has = absurd (cc has)
received_is_new (e ∷ es) l n t h law none s has = by_first (is_receipt_of n e) refl has (received_is_new es (tale e ∷ l) n t h.1 law (λ i. none (sym (within_event e l h.0) ∙ i)) (settled_stays (tale e) l n t (first_of e es l law) none s)) where
  by_first : (b : Bool) → is_receipt_of n e ≡ b → (b || has_receipt n es) ≡ true → (has_receipt n es ≡ true → ⊥) → ⊥
  by_first true is has_it rest = not_settled e l n t is (first_of e es l law) s
  by_first false is has_it rest = rest has_it

-- in an event with a receipt no call is passed on
receives_only : (es : List Entry) (l : List Tale) (n t m : ℕ) → AreWithin es → Lawful (below es l) → has_receipt n es ≡ true → IsNoForward t m l
receives_only [] l n t m h law has i = absurd (cc has)
receives_only (e ∷ es) l n t m h law has i = by_first (is_receipt_of n e) refl has (λ more. receives_only es (tale e ∷ l) n t m h.1 law more (within_event e l h.0 ∙ i)) where
  by_first : (b : Bool) → is_receipt_of n e ≡ b → (b || has_receipt n es) ≡ true → (has_receipt n es ≡ true → ⊥) → ⊥
  by_first true is has_it rest = receipt_event e l n t m is (first_of e es l law) i
  by_first false is has_it rest = rest has_it

-- a call that is received is settled
received_settles : (es : List Entry) (l : List Tale) (n t : ℕ) (a : Ask) → AreWithin es → Lawful (below es l) → event l ≡ Some (Step t a) → IsNoForward t n l → has_receipt n es ≡ true → IsSettled t (life n (below es l))
received_settles [] l n t a h law at none has = absurd (cc has)
received_settles (e ∷ es) l n t a h law at none has =
    by_first (is_receipt_of n e) refl has (λ more. received_settles es (tale e ∷ l) n t a h.1 law (within_event e l h.0 ∙ at) (λ i. none (sym (within_event e l h.0) ∙ i)) more)
  where
    by_first : (b : Bool) → is_receipt_of n e ≡ b → (b || has_receipt n es) ≡ true → (has_receipt n es ≡ true → IsSettled t (life n (below es (tale e ∷ l)))) → IsSettled t (life n (below es (tale e ∷ l)))
    by_first true is has_it rest =
        settled_through es (tale e ∷ l) n t h.1 law (λ i. none (sym (within_event e l h.0) ∙ i))
        (receipt_settles e l n t a at is (first_of e es l law))
    by_first false is has_it rest = rest has_it

-- what a task did, as entries are put on
doings_within : (t : ℕ) (es q : List Entry) → AreWithin es → (doings_of t (on_top es q) ≡ doings_of t q) × (is_own_event t (on_top es q) ≡ is_own_event t q)
doings_within t [] q h = (refl, refl)
doings_within t (e ∷ es) q h =
    let rest = doings_within t es (e ∷ q) h.1 in
    (rest.0 ∙ one_doing e h.0, rest.1 ∙ one_own e h.0)
  where
    one_doing : (e : Entry) → is_within e ≡ true → doings_of t (e ∷ q) ≡ doings_of t q
    one_doing e i = grind arith

    one_own : (e : Entry) → is_within e ≡ true → is_own_event t (e ∷ q) ≡ is_own_event t q
    one_own e i = grind arith

-- a request that is served
pub doings_served : (h es own : List Entry) (t : ℕ) (u : TaskNo) (asked : Request) (o : Outcome) → AreWithin es → AreWithin own
    → doings t (h ++ served u asked es o own) ≡ did (u.0 == t) asked o (doings t h)
doings_served h es own t u asked o quiet quiet_own =
    ap (doings_of t) (newest_first-append h (served u asked es o own) ∙ on_top-append es (entry.Outcome o ∷ own) (entry.Head u asked ∷ newest_first h))
    ∙ (doings_within t own (entry.Outcome o ∷ on_top es (entry.Head u asked ∷ newest_first h)) quiet_own).0
    ∙ outcome_by (u.0 == t) refl
  where
    inside : (doings_of t (on_top es (entry.Head u asked ∷ newest_first h)) ≡ doings_of t (entry.Head u asked ∷ newest_first h)) × (is_own_event t (on_top es (entry.Head u asked ∷ newest_first h)) ≡ (u.0 == t))
    inside = doings_within t es (entry.Head u asked ∷ newest_first h) quiet

    outcome_by : (b : Bool) → (u.0 == t) ≡ b → doings_of t (entry.Outcome o ∷ on_top es (entry.Head u asked ∷ newest_first h)) ≡ did b asked o (doings t h)
    outcome_by true is = rw (inside.1, is, inside.0, is) refl
    outcome_by false is = rw (inside.1, is, inside.0, is) refl

-- a request that is asked keeps all calls but the one that it passes on
asked_kept : (asked : Request) (p : List Doing) (n : ℕ) → is_kept n (Asks asked ∷ p) ≡ true → (is_kept n p ≡ true) × (ask asked ≡ Forward n → ⊥)
asked_kept (request.Forward call phone mode change) p n h = by_call (call == n) refl h where
  same_call : (a b : ℕ) → Forward a ≡ Forward b → a ≡ b
  same_call a b i = cc i

  by_call : (b : Bool) → (call == n) ≡ b → (if b then false else is_kept n p) ≡ true → (is_kept n p ≡ true) × (Forward call ≡ Forward n → ⊥)
  by_call true is kept = absurd (cc kept)
  by_call false is kept = (kept, λ i. absurd (cc (is, eq-eqb call n (same_call call n i))))
asked_kept asked p n h = (h, λ i. cc i)

-- the tales of a request that is served
tales_parts : (es own : List Entry) (o : Outcome) (l : List Tale) → below (es ++ (entry.Outcome o ∷ own)) l ≡ below own (Other ∷ below es l)
tales_parts es own o l = ap (λ (x : List Tale). onto x l) (tales-append es (entry.Outcome o ∷ own)) ∙ onto-append (tales es) (Other ∷ tales own) l

module _ (h es own : List Entry) (u : TaskNo) (asked : Request) (o : Outcome) (law : Lawful (past (h ++ served u asked es o own))) (quiet : AreWithin es) (quiet_own : AreWithin own) where
  abbrev begun : List Tale
  begun = Head (Step u.0 (ask asked)) ∷ past h

  past_is : past (h ++ served u asked es o own) ≡ below own (Other ∷ below es begun)
  past_is = past-append h (served u asked es o own) ∙ tales_parts es own o begun

  last_law : Lawful (below own (Other ∷ below es begun))
  last_law = subst Lawful past_is law

  middle_law : Lawful (below es begun)
  middle_law = (lawful_before (tales own) (Other ∷ below es begun) last_law).0

  -- what is settled once the effects are told is so in the end
  to_the_end : (t n : ℕ) → IsNoForward t n begun → IsSettled t (life n (below es begun)) → IsSettled t (life n (past (h ++ served u asked es o own)))
  to_the_end t n none s =
      subst (λ (l : List Tale). IsSettled t (life n l)) (sym past_is)
      (settled_through own (Other ∷ below es begun) n t quiet_own last_law (λ i. none (sym (event_through es begun quiet) ∙ i)) s)

  was_settled : (t n : ℕ) → IsNoForward t n begun → IsSettled t (life n (past h)) → IsSettled t (life n (past (h ++ served u asked es o own)))
  was_settled t n none s = to_the_end t n none (settled_through es begun n t quiet middle_law none s)

  step_parts : (a b : ℕ) (x y : Ask) → Some (Step a x) ≡ Some (Step b y) → (a ≡ b) × (x ≡ y)
  step_parts a b x y i = (cc i, cc i)

  asked_settled : (n : ℕ) → KeepsCalls h u.0 → is_kept n (Asks asked ∷ doings u.0 h) ≡ true → IsSettled u.0 (life n (past (h ++ served u asked es o own)))
  asked_settled n keeps kept =
      let it = asked_kept asked (doings u.0 h) n kept in
      was_settled u.0 n (λ i. it.1 (step_parts u.0 u.0 (ask asked) (Forward n) i).1) (keeps n it.0)

  told_settled : (n : ℕ) (told : Outcome) → TellsReceipt es told → KeepsCalls h u.0 → is_kept n (Told told ∷ (Asks asked ∷ doings u.0 h)) ≡ true → IsSettled u.0 (life n (past (h ++ served u asked es o own)))
  told_settled n (outcome.Received m msg label) tells keeps kept = by_call (m.0 == n) refl kept where
    by_call : (b : Bool) → (m.0 == n) ≡ b → (if b then true else is_kept n (Asks asked ∷ doings u.0 h)) ≡ true → IsSettled u.0 (life n (past (h ++ served u asked es o own)))
    by_call true is kept_so =
        let has : has_receipt n es ≡ true = subst (λ (k : ℕ). has_receipt k es ≡ true) (eqb-true m.0 n is) tells in
        let none : IsNoForward u.0 n begun = receives_only es begun n u.0 n quiet middle_law has in
        to_the_end u.0 n none (received_settles es begun n u.0 (ask asked) quiet middle_law refl none has)
    by_call false is kept_so = asked_settled n keeps kept_so
  told_settled n _ tells keeps kept = asked_settled n keeps kept

  pub served_keeps : (t : ℕ) → TellsReceipt es o → KeepsCalls h t → KeepsCalls (h ++ served u asked es o own) t
  served_keeps t tells keeps n kept = by_task (u.0 == t) refl (subst (λ (p : List Doing). is_kept n p ≡ true) (doings_served h es own t u asked o quiet quiet_own) kept) where
    by_task : (b : Bool) → (u.0 == t) ≡ b → is_kept n (did b asked o (doings t h)) ≡ true → IsSettled t (life n (past (h ++ served u asked es o own)))
    by_task true is kept_so =
        let same : u.0 ≡ t = eqb-true u.0 t is in
        subst (λ (k : ℕ). IsSettled k (life n (past (h ++ served u asked es o own)))) same
        (told_settled n o tells (subst (KeepsCalls h) (sym same) keeps) (subst (λ (k : ℕ). is_kept n (Told o ∷ (Asks asked ∷ doings k h)) ≡ true) (sym same) kept_so))
    by_task false is kept_so = was_settled t n (λ i. absurd (cc (is, eq-eqb u.0 t (step_parts u.0 t (ask asked) (Forward n) i).0))) (keeps n kept_so)

  -- a call that comes is new
  pub told_is_new : TellsReceipt es o → KeepsCalls h u.0 → IsNewTo (doings u.0 h) o
  told_is_new tells keeps = new o tells where
    new : (told : Outcome) → TellsReceipt es told → IsNewTo (doings u.0 h) told
    new (outcome.Received m msg label) has = by_kept (is_kept m.0 (doings u.0 h)) refl where
      by_kept : (b : Bool) → is_kept m.0 (doings u.0 h) ≡ b → b ≡ false
      by_kept true is = absurd (received_is_new es begun m.0 u.0 quiet middle_law (receives_only es begun m.0 u.0 m.0 quiet middle_law has) (keeps m.0 is) has)
      by_kept false is = refl
    new _ has = tt

-- a kill
pub doings_killed : (h es : List Entry) (t : ℕ) (u : TaskNo) → AreWithin es → doings t (h ++ (entry.Kill u ∷ es)) ≡ doings t h
doings_killed h es t u quiet = ap (doings_of t) (newest_first-append h (entry.Kill u ∷ es)) ∙ (doings_within t es (entry.Kill u ∷ newest_first h) quiet).0

pub killed_keeps : (h es : List Entry) (t : ℕ) (u : TaskNo) → Lawful (past (h ++ (entry.Kill u ∷ es))) → AreWithin es → KeepsCalls h t → KeepsCalls (h ++ (entry.Kill u ∷ es)) t
killed_keeps h es t u law quiet keeps n kept =
    let begun : List Tale = Head (Kill u.0) ∷ past h in
    let is : past (h ++ (entry.Kill u ∷ es)) ≡ below es begun = past-append h (entry.Kill u ∷ es) in
    subst (λ (l : List Tale). IsSettled t (life n l)) (sym is)
    (settled_through es begun n t quiet (subst Lawful is law) (λ i. absurd (cc i)) (keeps n (subst (λ (p : List Doing). is_kept n p ≡ true) (doings_killed h es t u quiet) kept)))

-- an event of a task that has ended
pub doings_gone : (h : List Entry) (t : ℕ) (u : TaskNo) → doings t (h ++ (entry.Gone u ∷ [])) ≡ doings t h
doings_gone h t u = ap (doings_of t) (newest_first-append h (entry.Gone u ∷ []))

pub gone_keeps : (h : List Entry) (t : ℕ) (u : TaskNo) → KeepsCalls h t → KeepsCalls (h ++ (entry.Gone u ∷ [])) t
gone_keeps h t u keeps n kept =
    subst (λ (l : List Tale). IsSettled t (life n l)) (sym (past-append h (entry.Gone u ∷ []))) (keeps n (subst (λ (p : List Doing). is_kept n p ≡ true) (doings_gone h t u) kept))

-- a spawn
pub doings_spawned : (h es : List Entry) (t : ℕ) (u : TaskNo) → AreWithin es → doings t (h ++ (entry.Spawn u ∷ es)) ≡ doings t h
doings_spawned h es t u quiet = ap (doings_of t) (newest_first-append h (entry.Spawn u ∷ es)) ∙ (doings_within t es (entry.Spawn u ∷ newest_first h) quiet).0

pub spawned_keeps : (h es : List Entry) (t : ℕ) (u : TaskNo) → Lawful (past (h ++ (entry.Spawn u ∷ es))) → AreWithin es → KeepsCalls h t → KeepsCalls (h ++ (entry.Spawn u ∷ es)) t
spawned_keeps h es t u law quiet keeps n kept =
    let begun : List Tale = Head (Spawn u.0) ∷ past h in
    let is : past (h ++ (entry.Spawn u ∷ es)) ≡ below es begun = past-append h (entry.Spawn u ∷ es) in
    subst (λ (l : List Tale). IsSettled t (life n l)) (sym is)
    (settled_through es begun n t quiet (subst Lawful is law) (λ i. absurd (cc i)) (keeps n (subst (λ (p : List Doing). is_kept n p ≡ true) (doings_spawned h es t u quiet) kept)))

-- before the first event
pub start_keeps : (t : ℕ) → KeepsCalls [] t
start_keeps t n kept = absurd (cc kept)
