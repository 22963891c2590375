-- A call that a task was told of as accepted is on its way, or its answer was delivered to the task, by any entries
-- that keep the laws of lives and of causes.
use Rattle.std.proofs.Common.{◌≡◌, ℕ, Bool, true, false, ◌⊎◌, inl, inr, List, [], ◌∷◌, Option, None, Some, refl, ap, sym, subst, ◌∙◌}
use Rattle.std.specs.Prelude.{⊤, ◌==◌, ◌&&◌, if◌then◌else◌}
use Rattle.std.proofs.lemmas.Bool.{cases_eq, eq-eqb, ne_eqb, false≢true}
use Rattle.ipc_ids.specs.declared.numbers.TaskNo.{TaskNo}
use Rattle.ipc_ids.specs.declared.entry.Entry.{Entry}
use Rattle.ipc_ids.specs.declared.entry.Entry.TheVariants as entry
use Rattle.ipc_ids.specs.Methods.{phone_hungup}
use Rattle.ipc_ids.specs.Tales.{Way, To, At_once, way, author, Kernel, Task, Note, Accepted, Received, Forwarded, Answered, Vanished, Forgotten, Delivered, Dropped, Tale, Head, On, Other, tale, tales}
use Rattle.ipc_ids.specs.Life.{Life, Nowhere, Back, Incoming, Dispatched, Answers, Over, caller_of, after, life, is_kill_of, is_killed, Allowed}
use Rattle.ipc_ids.specs.Lawful.{Lawful}
use Rattle.ipc_ids.specs.Holdings.{on_top, present, Making, making}
use Rattle.route_laws.specs.Leads.{Beginning}
use Rattle.run_determined.specs.PhoneCauses.{IsMadeWith, DropsUnawaited, HadCause}

-- ---- words

-- these entries, the newest first, keep the law of lives
abbrev pub AreLawful : List Entry → Type 0
AreLawful q = Lawful (tales q)

-- the answer of call n was delivered to task t
abbrev pub is_delivered : ℕ → ℕ → List Entry → Bool
is_delivered n t [] = false
is_delivered n t (entry.Delivered m u ∷ q) = if (m.0 == n) && (u.0 == t) then true else is_delivered n t q
is_delivered n t (_ ∷ q) = is_delivered n t q

-- the call is one of task t, and its life lasts
abbrev pub IsOnItsWay : ℕ → Life → Type 0
IsOnItsWay t (Back caller) = caller ≡ t
IsOnItsWay t (Incoming caller holder) = caller ≡ t
IsOnItsWay t (Dispatched caller holder) = caller ≡ t
IsOnItsWay t (Answers caller) = caller ≡ t
IsOnItsWay t _ = ⊥

-- or it is over, and its answer was delivered
abbrev pub IsOwnCall : ℕ → ℕ → List Entry → Type 0
IsOwnCall t n q = IsOnItsWay t (life n (tales q)) ⊎ ((life n (tales q) ≡ Over) × (is_delivered n t q ≡ true))

-- ---- what a note does

caller_is : (t : ℕ) (l : Life) → IsOnItsWay t l → caller_of l ≡ t
caller_is t Nowhere h = absurd h
caller_is t Over h = absurd h
caller_is t _ h = h

killed_caller : (t u : ℕ) (p : List Tale) → u ≡ t → is_killed u p ≡ true → is_killed t p ≡ false → ⊥
killed_caller t u p same killed alive = false≢true (sym alive ∙ sym (ap (λ (x : ℕ). is_killed x p) same) ∙ killed)

-- after a note that its life allows the call is still on its way, or the note ends it
on_its_way : (t : ℕ) (p : List Tale) (n : ℕ) (w : Note) (l : Life) → Allowed p n w l → is_killed t p ≡ false
    → IsOnItsWay t l
    → IsOnItsWay t (after w l) ⊎ ((w ≡ Delivered t) ⊎ (w ≡ Dropped t))
on_its_way t p n (Received s) l a alive h = inl (caller_is t l h)
on_its_way t p n (Forwarded s v) l a alive h = inl (caller_is t l h)
on_its_way t p n (Answered code by) l a alive h = inl (caller_is t l h)
on_its_way t p n Forgotten l a alive h = inl h
on_its_way t p n Vanished (Incoming v s) a alive h = absurd (killed_caller t v p h a.0 alive)
on_its_way t p n Vanished (Dispatched v s) a alive h = absurd (killed_caller t v p h a.0 alive)
on_its_way t p n (Delivered v) (Answers u) a alive h = inr (inl (ap Delivered (a.0 ∙ h)))
on_its_way t p n (Dropped v) (Answers u) a alive h = inr (inr (ap Dropped (a.0 ∙ h)))
on_its_way t p n w Nowhere a alive h = absurd h
on_its_way t p n w Over a alive h = absurd h
on_its_way t p n _ _ a alive h = absurd a

-- no note comes on a call that is over
none_over : (p : List Tale) (n : ℕ) (w : Note) → Allowed p n w Over → ⊥
none_over p n (Answered code Kernel) a = a
none_over p n (Answered code (Task u)) a = a
none_over p n _ a = a

-- ---- entries

-- after the past p this tale is allowed by the life of its call
abbrev IsAllowed : List Tale → Tale → Type 0
IsAllowed p (Head e) = ⊤
IsAllowed p (On n w) = Allowed p n w (life n p)
IsAllowed p Other = ⊤

allowed : (p : List Tale) (e : Tale) → Lawful (e ∷ p) → IsAllowed p e
allowed p (Head e) l = tt
allowed p (On n w) l = l.2.0
allowed p Other l = tt

-- a task that was not killed had not been
alive_before : (t : ℕ) (p : List Tale) (e : Tale) → is_killed t (e ∷ p) ≡ false → is_killed t p ≡ false
alive_before t p (Head e) h = by_kill (is_kill_of t e) h where
  by_kill : (b : Bool) → (if b then true else is_killed t p) ≡ false → is_killed t p ≡ false
  by_kill true g = absurd (false≢true (sym g))
  by_kill false g = g
alive_before t p (On n w) h = h
alive_before t p Other h = h

-- in a kill of a task it has been killed
killed_now : (t : TaskNo) (q : List Entry) → present q ≡ Some (entry.Kill t) → is_killed t.0 (tales q) ≡ true
killed_now t [] h = absurd (cc h)
killed_now t (entry.Head u asked ∷ q) h = absurd (cc h)
killed_now t (entry.Kill u ∷ q) h = rw (eq-eqb u.0 t.0 (task_is h)) refl where
  task_is : ◌≡◌ {A = Option Entry} (Some (entry.Kill u)) (Some (entry.Kill t)) → u.0 ≡ t.0
  task_is e = let same : u ≡ t = cc in ap (λ (x : TaskNo). x.0) same
killed_now t (entry.Gone u ∷ q) h = absurd (cc h)
killed_now t (entry.Spawn u ∷ q) h = absurd (cc h)
killed_now t (_ ∷ q) h = killed_now t q h

-- a later entry on a call that is over, or one on another, changes nothing of it
still_over : (t n : ℕ) (q : List Entry) (e : Entry) → IsAllowed (tales q) (tale e) → life n (tales q) ≡ Over
    → life n (tales (e ∷ q)) ≡ Over
still_over t n q e a over = by_tale (tale e) a where
  by_tale : (x : Tale) → IsAllowed (tales q) x → life n (x ∷ tales q) ≡ Over
  by_tale (Head e) a = over
  by_tale Other a = over
  by_tale (On m w) a = elim (cases_eq m n) [
    | inl same ↦
        absurd (none_over (tales q) m w
        (subst (λ (l : Life). Allowed (tales q) m w l) (ap (λ (x : ℕ). life x (tales q)) same ∙ over) a))
    | inr other ↦ rw (ne_eqb m n other) over
  ]

still_delivered : (t n : ℕ) (q : List Entry) (e : Entry) → is_delivered n t q ≡ true → is_delivered n t (e ∷ q) ≡ true
still_delivered t n q (entry.Delivered m u) h = by_test ((m.0 == n) && (u.0 == t)) where
  by_test : (b : Bool) → (if b then true else is_delivered n t q) ≡ true
  by_test true = refl
  by_test false = h
still_delivered t n q _ h = h

-- an entry that says that an answer is dropped
drop_of : (t m : ℕ) (q : List Entry) (e : Entry) → tale e ≡ On m (Dropped t) → DropsUnawaited q e
    → is_killed t (tales q) ≡ false → IsMadeWith phone_hungup (making m q)
drop_of t m q (entry.Dropped k u) is drops alive =
    let parts : On k.0 (Dropped u.0) ≡ On m (Dropped t) = is in
    let number : k.0 ≡ m = cc in
    let task : u.0 ≡ t = cc in
    elim drops [
      | inl h ↦ subst (λ (x : ℕ). IsMadeWith phone_hungup (making x q)) number h
      | inr h ↦ absurd (killed_caller t u.0 (tales q) task (killed_now u q h) alive)
    ]
drop_of t m q _ is drops alive = absurd (cc is)

-- one that says that it is delivered
delivery_of : (t m : ℕ) (q : List Entry) (e : Entry) → tale e ≡ On m (Delivered t) → is_delivered m t (e ∷ q) ≡ true
delivery_of t m q (entry.Delivered k u) is =
    let parts : On k.0 (Delivered u.0) ≡ On m (Delivered t) = is in
    let number : k.0 ≡ m = cc in
    let task : u.0 ≡ t = cc in
    rw (eq-eqb k.0 m number, eq-eqb u.0 t task) refl
delivery_of t m q _ is = absurd (cc is)

-- a call of task t, which is no hangup, after one entry more
own_next : (t n : ℕ) (q : List Entry) (e : Entry) → IsAllowed (tales q) (tale e) → DropsUnawaited q e
    → is_killed t (tales q) ≡ false → (IsMadeWith phone_hungup (making n q) → ⊥)
    → IsOwnCall t n q → IsOwnCall t n (e ∷ q)
own_next t n q e a drops alive plain (inr h) = inr (still_over t n q e a h.0, still_delivered t n q e h.1)
own_next t n q e a drops alive plain (inl h) = by_tale (tale e) refl a where
  by_tale : (x : Tale) → tale e ≡ x → IsAllowed (tales q) x → IsOwnCall t n (e ∷ q)
  by_tale (Head v) is a = inl (rw is h)
  by_tale Other is a = inl (rw is h)
  by_tale (On m w) is a = elim (cases_eq m n) [
    | inr other ↦ inl (rw (is, ne_eqb m n other) h)
    | inl same ↦
        let on : IsOnItsWay t (life m (tales q)) = subst (λ (x : ℕ). IsOnItsWay t (life x (tales q))) (sym same) h in
        elim (on_its_way t (tales q) m w (life m (tales q)) a alive on) [
          | inl goes_on ↦
              inl (rw (is, eq-eqb m n same)
              (subst (λ (x : ℕ). IsOnItsWay t (after w (life x (tales q)))) same goes_on))
          | inr (inl ends) ↦ inr (
            rw (is, eq-eqb m n same) (ap (λ (v : Note). after v (life n (tales q))) ends),
            subst (λ (x : ℕ). is_delivered x t (e ∷ q) ≡ true) same (delivery_of t m q e (is ∙ ap (On m) ends)),
          )
          | inr (inr ends) ↦
              absurd (plain
              (subst (λ (x : ℕ). IsMadeWith phone_hungup (making x q)) same
              (drop_of t m q e (is ∙ ap (On m) ends) drops alive)))
        ]
  ]

-- ---- how a call was made

-- task t made call n, and it is no hangup
pub record IsMadeBy (t n : ℕ) (o : Option Making) : Type 0 where
  pub made : Making
  pub how : o ≡ Some made
  pub caller : made.caller ≡ t
  pub plain : made.method ≡ phone_hungup → ⊥

no_hangup_made : (t n : ℕ) (o : Option Making) → IsMadeBy t n o → IsMadeWith phone_hungup o → ⊥
no_hangup_made t n o it h = it.plain (subst (IsMadeWith phone_hungup) it.how h)

accepted_life : (u phone method : ℕ) (w : Way) (l : Life) → after (Accepted u phone method w) l ≡ Nowhere → ⊥
accepted_life u phone method (To v) l e = cc
accepted_life u phone method At_once l e = cc

-- a call on which there is a note is somewhere
note_life : (w : Note) (l : Life) → (l ≡ Nowhere → ⊥) → after w l ≡ Nowhere → ⊥
note_life (Accepted u phone method way) l there e = accepted_life u phone method way l e
note_life Forgotten l there e = there e
note_life _ l there e = cc

-- a call that was made is somewhere
made_life : (n : ℕ) (q : List Entry) (m : Making) → making n q ≡ Some m → life n (tales q) ≡ Nowhere → ⊥
made_life n [] m how e = cc how
made_life n (x ∷ q) m how e = by_entry x how e (made_life n q m) where
  later : (k : ℕ) (w : Note) → (making n q ≡ Some m → life n (tales q) ≡ Nowhere → ⊥) → making n q ≡ Some m
      → (if k == n then after w (life n (tales q)) else life n (tales q)) ≡ Nowhere → ⊥
  later k w before how = by_test (k == n) where
    by_test : (b : Bool) → (if b then after w (life n (tales q)) else life n (tales q)) ≡ Nowhere → ⊥
    by_test true g = note_life w (life n (tales q)) (before how) g
    by_test false g = before how g

  by_entry : (x : Entry) → making n (x ∷ q) ≡ Some m → life n (tales (x ∷ q)) ≡ Nowhere
      → (making n q ≡ Some m → life n (tales q) ≡ Nowhere → ⊥) → ⊥
  by_entry (entry.Accepted k from method to) how e before = by_test (k.0 == n) how e where
    by_test : (b : Bool)
        → (if b then Some (record { caller = from.task.0; method = method; asked = present q }) else making n q) ≡
        Some m
        → (if b then after (Accepted from.task.0 from.phone.0 method (way to)) (life n (tales q)) else life n
        (tales q)) ≡ Nowhere → ⊥
    by_test true how e = accepted_life from.task.0 from.phone.0 method (way to) (life n (tales q)) e
    by_test false how e = before how e
  by_entry (entry.Received k t) how e before = later k.0 (Received t.0) before how e
  by_entry (entry.Forwarded k t to label) how e before = later k.0 (Forwarded t.0 to.0) before how e
  by_entry (entry.Answered k reply by) how e before = later k.0 (Answered reply.code.0 (author by)) before how e
  by_entry (entry.Vanished k) how e before = later k.0 Vanished before how e
  by_entry (entry.Forgotten k) how e before = later k.0 Forgotten before how e
  by_entry (entry.Delivered k t) how e before = later k.0 (Delivered t.0) before how e
  by_entry (entry.Dropped k t) how e before = later k.0 (Dropped t.0) before how e
  by_entry _ how e before = before how e

-- so it is not made again
made_next : (n : ℕ) (q : List Entry) (e : Entry) (m : Making) → IsAllowed (tales q) (tale e) → making n q ≡ Some m
    → making n (e ∷ q) ≡ Some m
made_next n q (entry.Accepted k from method to) m a how = elim (cases_eq k.0 n) [
  | inr other ↦ rw (ne_eqb k.0 n other) how
  | inl same ↦
      absurd (made_life n q m how
      (only (life n (tales q))
      (subst (λ (x : ℕ). Allowed (tales q) k.0 (Accepted from.task.0 from.phone.0 method (way to))
      (life x (tales q))) same a)))
] where
  only : (l : Life) → Allowed (tales q) k.0 (Accepted from.task.0 from.phone.0 method (way to)) l → l ≡ Nowhere
  only Nowhere a = refl
  only _ a = absurd a
made_next n q _ m a how = how

-- ---- lists

pub lawful_before : (es q : List Entry) → AreLawful (on_top es q) → AreLawful q
lawful_before [] q l = l
lawful_before (e ∷ es) q l = let m : AreLawful (e ∷ q) = lawful_before es (e ∷ q) l in m.0

pub made_stays : (n : ℕ) (es q : List Entry) (m : Making) → AreLawful (on_top es q) → making n q ≡ Some m
    → making n (on_top es q) ≡ Some m
made_stays n [] q m l how = how
made_stays n (e ∷ es) q m l how =
    made_stays n es (e ∷ q) m l (made_next n q e m (allowed (tales q) (tale e) (lawful_before es (e ∷ q) l)) how)

abbrev caller_in : Option Making → ℕ
caller_in None = 0
caller_in (Some m) = m.caller

-- a call that task t made, and which is no hangup, is on its way, or was delivered to the task
pub own_call : (b : Beginning) (t n : ℕ) (q : List Entry) → AreLawful q → HadCause b q
    → is_killed t (tales q) ≡ false → IsMadeBy t n (making n q) → IsOwnCall t n q
own_call b t n [] l had alive it = absurd (let e : None ≡ Some it.made = it.how in cc e)
own_call b t n (e ∷ q) l had alive it =
    by_entry e l had.1.dropped (alive_before t (tales q) (tale e) alive) it
    (own_call b t n q l.0 had.0 (alive_before t (tales q) (tale e) alive)) where
      later : (e : Entry) → AreLawful (e ∷ q) → DropsUnawaited q e → is_killed t (tales q) ≡ false
          → IsMadeBy t n (making n q) → (IsMadeBy t n (making n q) → IsOwnCall t n q) → IsOwnCall t n (e ∷ q)
      later e l drops before it own =
          own_next t n q e (allowed (tales q) (tale e) l) drops before (no_hangup_made t n (making n q) it) (own it)

      new : (u phone method : ℕ) (w : Way) (l : Life) → u ≡ t → IsOnItsWay t (after (Accepted u phone method w) l)
      new u phone method (To v) l same = same
      new u phone method At_once l same = same

      by_entry : (e : Entry) → AreLawful (e ∷ q) → DropsUnawaited q e → is_killed t (tales q) ≡ false
          → IsMadeBy t n (making n (e ∷ q)) → (IsMadeBy t n (making n q) → IsOwnCall t n q) → IsOwnCall t n (e ∷ q)
      by_entry (entry.Accepted k from method to) l drops before it own = elim (cases_eq k.0 n) [
        | inl same ↦
            let made : Some (record { caller = from.task.0; method = method; asked = present q }) ≡ Some it.made =
            rw (eq-eqb k.0 n same) at it.how in
            let caller : from.task.0 ≡ t = ap caller_in made ∙ it.caller in
            inl (rw (eq-eqb k.0 n same) (new from.task.0 from.phone.0 method (way to) (life n (tales q)) caller))
        | inr other ↦
            later (entry.Accepted k from method to) l drops before (subst (IsMadeBy t n) (made_other k.0 other) it) own
      ] where
        made_other : (k : ℕ) → (k ≡ n → ⊥)
            → (if k == n then Some (record { caller = from.task.0; method = method; asked = present q })
            else making n q)
            ≡ making n q
        made_other k other = rw (ne_eqb k n other) refl
      by_entry x l drops before it own = later x l drops before it own
