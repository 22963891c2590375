-- An entry comes in turn: the laws of lives and of causes lead from it back to the head of its event, or to an earlier
-- entry on its phone, which came in turn.
use Rattle.std.proofs.Common.{◌≡◌, ℕ, suc, Bool, true, false, ◌⊎◌, inl, inr, List, [], ◌∷◌, Option, None, Some, refl, ap, sym, subst, ◌∙◌, arith}
use Rattle.std.specs.Prelude.{⊤, ◌==◌, if◌then◌else◌}
use Rattle.std.proofs.lemmas.Bool.{eqb-true, and_parts}
use Rattle.std.proofs.lemmas.Option.{none-some, same_Some}
use Rattle.ipc_ids.specs.declared.numbers.TaskNo.{TaskNo}
use Rattle.ipc_ids.specs.declared.numbers.Label.{Label}
use Rattle.ipc_ids.specs.declared.message.Request.TheVariants as request
use Rattle.ipc_ids.specs.declared.message.PhoneState.{PhoneState}
use Rattle.ipc_ids.specs.declared.message.PhoneState.TheVariants.{Free, Connecting, Connected, HungUp, Slammed}
use Rattle.ipc_ids.specs.declared.entry.Entry.{Entry}
use Rattle.ipc_ids.specs.declared.entry.Entry.TheVariants as entry
use Rattle.ipc_ids.specs.Tales.{Event, Step, Kill, Receive, Answer, Forward, Way, way, Task, Accepted, Received, Forwarded, Answered, Dropped, Tale, tales}
use Rattle.ipc_ids.specs.Life.{Life, Nowhere, Incoming, Dispatched, Answers, life, event, task_of, Allowed}
use Rattle.ipc_ids.specs.Life as lives
use Rattle.ipc_ids.specs.Actors as actors
use Rattle.ipc_ids.specs.Actors.{actor}
use Rattle.route_laws.specs.Leads.{Lead, Beginning, is_phone, wired, phone_in}
use Rattle.run_determined.specs.PhoneCauses.{is_sent, is_received, asked_for, lent_for, IsKept, AnswersFor, IsConnected, IsMadeLeading, IsLetGo, IsCause, HasItsCause}
use Rattle.run_determined.specs.TasksInTurn.{count_after, IsOneOf, IsInTurn, CameInTurn}
use Rattle.run_determined.proofs.LiveCalls.{AreLawful}
use Rattle.run_determined.proofs.LiveEvents.{delivered_by}

-- ---- what earlier entries say

-- the task that the present event names
event_in_turn : (n : ℕ) (q : List Entry) (x : Event) → CameInTurn n q → event (tales q) ≡ Some x
    → IsOneOf (count_after n q) (task_of x)
event_in_turn n [] x came h = absurd (cc h)
event_in_turn n (e ∷ q) x came h = by_entry e came.1 h (event_in_turn n q x came.0) where
  at : (m : ℕ) (y : Event) → Some y ≡ Some x → IsOneOf m (task_of y) → IsOneOf m (task_of x)
  at m y g it = subst (λ (z : Event). IsOneOf m (task_of z)) (same_Some y x g) it

  by_entry : (e : Entry) → IsInTurn n q e → event (tales (e ∷ q)) ≡ Some x
      → (event (tales q) ≡ Some x → IsOneOf (count_after n q) (task_of x))
      → IsOneOf (count_after n (e ∷ q)) (task_of x)
  by_entry (entry.Head u asked) turn h before = at (count_after n q) _ h (turn u.0 refl)
  by_entry (entry.Kill u) turn h before = at (count_after n q) _ h (turn u.0 refl)
  by_entry (entry.Gone u) turn h before = at (count_after n q) _ h (turn u.0 refl)
  by_entry (entry.Spawn u) turn h before =
      at (suc (count_after n q)) _ h (let it : u.0 ≡ suc (count_after n q) = turn in (omega arith, omega arith))
  by_entry _ turn h before = before h

-- tasks stay there
more : (n : ℕ) (e : Entry) (q : List Entry) (t : ℕ) → IsOneOf (count_after n q) t → IsOneOf (count_after n (e ∷ q)) t
more n (entry.Spawn u) q t it = let a = it.0 in let b = it.1 in (a, omega (arith, b))
more n _ q t it = it

-- what these entries tell of a phone with one entry more: what they told before, or the phone of that entry
abbrev TellsOfPhone : Label → Option Label → Entry → Type 0
TellsOfPhone l before e = (before ≡ Some l) ⊎ ((s : PhoneState) × (e ≡ entry.PhoneIs l s))

-- a phone that some word on entries tells is one of a task that is there
told_in_turn : (n : ℕ) (word : List Entry → Option Label) → (word [] ≡ None)
    → ((l : Label) (e : Entry) (q : List Entry) → word (e ∷ q) ≡ Some l → TellsOfPhone l (word q) e)
    → (l : Label) (q : List Entry) → CameInTurn n q → word q ≡ Some l → IsOneOf (count_after n q) l.task.0
told_in_turn n word none next l [] came h = absurd (none-some l (sym none ∙ h))
told_in_turn n word none next l (e ∷ q) came h = elim (next l e q h) [
  | inl before ↦ more n e q l.task.0 (told_in_turn n word none next l q came.0 before)
  | inr now ↦ of_phone e now.0 now.1 came.1
] where
  of_phone : (e : Entry) (s : PhoneState) → e ≡ entry.PhoneIs l s → IsInTurn n q e
      → IsOneOf (count_after n (e ∷ q)) l.task.0
  of_phone e s is turn =
      subst (λ (x : Entry). IsOneOf (count_after n (x ∷ q)) l.task.0) (sym is)
      ((subst (IsInTurn n q) is turn) l.task.0 refl)

by_choice : (b : Bool) (x l : Label) (o : Option Label) (s : PhoneState) → (if b then Some x else o) ≡ Some l
    → TellsOfPhone l o (entry.PhoneIs x s)
by_choice true x l o s h = inr (s, ap (λ (y : Label). entry.PhoneIs y s) (same_Some x l h))
by_choice false x l o s h = inl h

unless : (b : Bool) (o : Option Label) (l : Label) → (if b then None else o) ≡ Some l → o ≡ Some l
unless true o l h = absurd (none-some l h)
unless false o l h = h

-- so the phone that was kept for a call
asked_next : (m : ℕ) (l : Label) (e : Entry) (q : List Entry) → asked_for m (e ∷ q) ≡ Some l
    → TellsOfPhone l (asked_for m q) e
asked_next m l (entry.PhoneIs x Connecting) q h = by_choice (is_sent m q) x l (asked_for m q) Connecting h
asked_next m l _ q h = inl h

lent_next : (m : ℕ) (l : Label) (e : Entry) (q : List Entry) → lent_for m (e ∷ q) ≡ Some l
    → TellsOfPhone l (lent_for m q) e
lent_next m l (entry.PhoneIs x Connecting) q h = by_choice (is_received m q) x l (lent_for m q) Connecting h
lent_next m l (entry.Received k u) q h = inl (unless (k.0 == m) (lent_for m q) l h)
lent_next m l (entry.Forwarded k u to label) q h = inl (unless (k.0 == m) (lent_for m q) l h)
lent_next m l _ q h = inl h

asked_in_turn : (n m : ℕ) (l : Label) (q : List Entry) → CameInTurn n q → asked_for m q ≡ Some l
    → IsOneOf (count_after n q) l.task.0
asked_in_turn n m = told_in_turn n (asked_for m) refl (asked_next m)

lent_in_turn : (n m : ℕ) (l : Label) (q : List Entry) → CameInTurn n q → lent_for m q ≡ Some l
    → IsOneOf (count_after n q) l.task.0
lent_in_turn n m = told_in_turn n (lent_for m) refl (lent_next m)

-- each of these wires begins at one of so many tasks
abbrev pub BeginAt : ℕ → List Lead → Type 0
BeginAt n [] = ⊤
BeginAt n (w ∷ wires) = IsOneOf n w.phone.task.0 × BeginAt n wires

-- a wired phone that is not free is one of a wire
wired_in_turn : (n : ℕ) (wires : List Lead) (t p : ℕ) (s : PhoneState) → BeginAt n wires → IsOneOf n t ⊎ (s ≡ Free)
    → (wired wires t p s ≡ Free → ⊥) → IsOneOf n t
wired_in_turn n [] t p s begins (inl it) not = it
wired_in_turn n [] t p s begins (inr free) not = absurd (not free)
wired_in_turn n (w ∷ wires) t p s begins before not =
    wired_in_turn n wires t p (if is_phone t p w.phone then Connected w.to else s) begins.1
    (by_phone (is_phone t p w.phone) refl) not where
      by_phone : (b : Bool) → is_phone t p w.phone ≡ b → IsOneOf n t ⊎ ((if b then Connected w.to else s) ≡ Free)
      by_phone true is =
          inl (subst (IsOneOf n)
          (eqb-true w.phone.task.0 t (and_parts (w.phone.task.0 == t) (w.phone.phone.0 == p) is).0) begins.0)
      by_phone false is = before

-- a phone that is not free is one of a task that is there
phone_in_turn : (n : ℕ) (wires : List Lead) (t p : ℕ) (q : List Entry) → BeginAt n wires → CameInTurn n q
    → (phone_in wires t p q ≡ Free → ⊥) → IsOneOf (count_after n q) t
phone_in_turn n wires t p [] begins came not = wired_in_turn n wires t p Free begins (inr refl) not
phone_in_turn n wires t p (e ∷ q) begins came not =
    by_entry e came.1 not (phone_in_turn n wires t p q begins came.0) where
      by_entry : (e : Entry) → IsInTurn n q e → (phone_in wires t p (e ∷ q) ≡ Free → ⊥)
          → ((phone_in wires t p q ≡ Free → ⊥) → IsOneOf (count_after n q) t) → IsOneOf (count_after n (e ∷ q)) t
      by_entry (entry.PhoneIs l s) turn not before = by_phone (is_phone t p l) refl not where
        by_phone : (b : Bool) → is_phone t p l ≡ b → ((if b then s else phone_in wires t p q) ≡ Free → ⊥)
            → IsOneOf (count_after n q) t
        by_phone true is not = turn t (eqb-true l.task.0 t (and_parts (l.task.0 == t) (l.phone.0 == p) is).0)
        by_phone false is not = before not
      by_entry (entry.Spawn u) turn not before = more n (entry.Spawn u) q t (before not)
      by_entry _ turn not before = before not

-- ---- what an entry is of

-- the present event names task t
abbrev Names : ℕ → List Tale → Type 0
Names t p = (x : Event) × (event p ≡ Some x) × (task_of x ≡ t)

names_of : (t : ℕ) (o : Option Event) → lives.IsOf t o → (x : Event) × (o ≡ Some x) × (task_of x ≡ t)
names_of t None h = absurd h
names_of t (Some x) h = (x, refl, h)

-- who acts on a call is the task that the event names

accepted_by : (p : List Tale) (m t phone method : ℕ) (w : Way) (l : Life) → Allowed p m (Accepted t phone method w) l
    → Names t p
accepted_by p m t phone method w Nowhere a = names_of t (event p) a.1
accepted_by p m t phone method w _ a = absurd a

received_by : (p : List Tale) (m t : ℕ) (l : Life) → Allowed p m (Received t) l → Names t p
received_by p m t (Incoming u s) a = (Step t Receive, a.1, refl)
received_by p m t _ a = absurd a

forwarded_by : (p : List Tale) (m t v : ℕ) (l : Life) → Allowed p m (Forwarded t v) l → Names t p
forwarded_by p m t v (Dispatched u s) a = (Step t (Forward m), a.1, refl)
forwarded_by p m t v _ a = absurd a

answered_by : (p : List Tale) (m code t : ℕ) (l : Life) → Allowed p m (Answered code (Task t)) l → Names t p
answered_by p m code t (Dispatched u s) a = (Step t (Answer m), a.1, refl)
answered_by p m code t _ a = absurd a

dropped_by : (p : List Tale) (m t : ℕ) (l : Life) → Allowed p m (Dropped t) l → Names t p
dropped_by p m t (Answers u) a = elim a.1 [ inl h ↦ (Step u Receive, h, sym a.0) | inr h ↦ (Kill u, h, sym a.0) ]
dropped_by p m t _ a = absurd a

-- a task that it names is one of those that are there
named : (n : ℕ) (q : List Entry) → CameInTurn n q → (t : ℕ) → Names t (tales q) → (u : ℕ) → t ≡ u
    → IsOneOf (count_after n q) u
named n q came t it u is = subst (IsOneOf (count_after n q)) (it.2 ∙ is) (event_in_turn n q it.0 came it.1)

-- an entry that makes no task
abbrev pub IsNoSpawn : Entry → Type 0
IsNoSpawn (entry.Spawn t) = ⊥
IsNoSpawn _ = ⊤

module _ (b : Beginning) (n : ℕ) (begins : BeginAt n b.wires) where
  kept_phone_in_turn : (l : Label) (q : List Entry) → CameInTurn n q → IsKept l q → IsOneOf (count_after n q) l.task.0
  kept_phone_in_turn l [] came h = absurd h
  kept_phone_in_turn l (entry.Accepted k from method (Some u) ∷ q) came h =
      came.1 l.task.0 (ap (λ (t : TaskNo). t.0) h.0)
  kept_phone_in_turn l (entry.Received k t ∷ q) came h = came.1 l.task.0 (ap (λ (u : TaskNo). u.0) h.0)
  kept_phone_in_turn l (_ ∷ q) came h = absurd h

  connected_in_turn : (l : Label) (u : TaskNo) (q : List Entry) → CameInTurn n q → IsConnected l u q
      → IsOneOf (count_after n q) l.task.0
  connected_in_turn l u [] came h = absurd h
  connected_in_turn l u (entry.Answered k reply (Some t) ∷ q) came h = by_head q came.0 h where
    by_head : (q : List Entry) → CameInTurn n q → AnswersFor l u t k.0 reply.code q
        → IsOneOf (count_after n q) l.task.0
    by_head [] came h = absurd h
    by_head (entry.Head s (request.Answer m given) ∷ p) came h = elim h.4.phone [
      | inl x ↦ asked_in_turn n k.0 l p came.0 x.1
      | inr x ↦ lent_in_turn n k.0 l p came.0 x.1
    ]
    by_head (_ ∷ p) came h = absurd h
  connected_in_turn l u (_ ∷ q) came h = absurd h

  made_in_turn : (names : Option TaskNo) (l : Label) (u : TaskNo) (q : List Entry) → CameInTurn n q
      → IsMadeLeading names l u q → IsOneOf (count_after n q) l.task.0
  made_in_turn names l u [] came h = absurd h
  made_in_turn names l u (entry.Spawn t ∷ q) came h =
      let number : l.task.0 ≡ t.0 = ap (λ (x : TaskNo). x.0) h.0 in
      let next : t.0 ≡ suc (count_after n q) = came.1 in
      (omega (arith, number, next), omega (arith, number, next))
  made_in_turn names l u (_ ∷ q) came h = absurd h

  let_go_in_turn : (l : Label) (q : List Entry) → CameInTurn n q → IsLetGo l q → IsOneOf (count_after n q) l.task.0
  let_go_in_turn l [] came h = absurd h
  let_go_in_turn l (entry.Forwarded k by to label ∷ q) came h = lent_in_turn n k.0 l q came.0 h
  let_go_in_turn l (entry.Answered k reply by ∷ q) came h = lent_in_turn n k.0 l q came.0 h.1
  let_go_in_turn l (entry.Vanished k ∷ q) came h =
      elim h [ inl x ↦ asked_in_turn n k.0 l q came.0 x | inr x ↦ lent_in_turn n k.0 l q came.0 x ]
  let_go_in_turn l (entry.Delivered k t ∷ q) came h = asked_in_turn n k.0 l q came.0 h
  let_go_in_turn l (entry.Dropped k t ∷ q) came h = asked_in_turn n k.0 l q came.0 h
  let_go_in_turn l (_ ∷ q) came h = absurd h

  -- a phone that is in a state other than free
  not_free : (l : Label) (q : List Entry) (s : PhoneState) → CameInTurn n q
      → phone_in b.wires l.task.0 l.phone.0 q ≡ s → (s ≡ Free → ⊥) → IsOneOf (count_after n q) l.task.0
  not_free l q s came is not = phone_in_turn n b.wires l.task.0 l.phone.0 q begins came (λ free. not (sym is ∙ free))

  caused_in_turn : (l : Label) (q : List Entry) → CameInTurn n q → (old new : PhoneState)
      → phone_in b.wires l.task.0 l.phone.0 q ≡ old → IsCause b.names l q old new → IsOneOf (count_after n q) l.task.0
  caused_in_turn l q came Free Connecting is h = kept_phone_in_turn l q came h
  caused_in_turn l q came Free (Connected u) is h = made_in_turn b.names l u q came h
  caused_in_turn l q came Free Free is h = absurd h
  caused_in_turn l q came Free HungUp is h = absurd h
  caused_in_turn l q came Free Slammed is h = absurd h
  caused_in_turn l q came s new is h = not_free l q s came is (λ e. cc e)

  pub in_turn : (q : List Entry) (e : Entry) → CameInTurn n q → IsNoSpawn e → AreLawful (e ∷ q)
      → HasItsCause b q e → actors.IsOneOf (count_after n q) (actor e) → IsInTurn n q e
  in_turn q (entry.Spawn t) came plain l had known = absurd plain
  in_turn q (entry.Accepted k from method to) came plain l had known =
      named n q came from.task.0
      (accepted_by (tales q) k.0 from.task.0 from.phone.0 method (way to) (life k.0 (tales q)) l.2.0)
  in_turn q (entry.Received k u) came plain l had known =
      named n q came u.0 (received_by (tales q) k.0 u.0 (life k.0 (tales q)) l.2.0)
  in_turn q (entry.Forwarded k u to label) came plain l had known =
      named n q came u.0 (forwarded_by (tales q) k.0 u.0 to.0 (life k.0 (tales q)) l.2.0)
  in_turn q (entry.Answered k reply None) came plain l had known = λ t it. absurd it
  in_turn q (entry.Answered k reply (Some u)) came plain l had known =
      named n q came u.0 (answered_by (tales q) k.0 reply.code.0 u.0 (life k.0 (tales q)) l.2.0)
  in_turn q (entry.Delivered k u) came plain l had known =
      named n q came u.0 (Step u.0 Receive, delivered_by (tales q) k.0 u.0 (life k.0 (tales q)) l.2.0, refl)
  in_turn q (entry.Dropped k u) came plain l had known =
      named n q came u.0 (dropped_by (tales q) k.0 u.0 (life k.0 (tales q)) l.2.0)
  in_turn q (entry.PhoneIs l s) came plain lawful had known =
      λ t it. subst (IsOneOf (count_after n q)) it
      (caused_in_turn l q came (phone_in b.wires l.task.0 l.phone.0 q) s refl had.changes.0)
  in_turn q (entry.Vanished k) came plain l had known = λ t it. absurd it
  in_turn q (entry.Forgotten k) came plain l had known = λ t it. absurd it
  in_turn q (entry.AreaMade u base pages rights store) came plain l had known = λ t it. absurd it
  in_turn q (entry.AreaGone u base) came plain l had known = λ t it. absurd it
  in_turn q (entry.Wrote u at count store) came plain l had known = λ t it. absurd it
  in_turn q (entry.Outcome o) came plain l had known = λ t it. absurd it
  in_turn q _ came plain l had known = λ t it. subst (IsOneOf (count_after n q)) it known
