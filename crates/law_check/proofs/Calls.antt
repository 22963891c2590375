-- What is known of calls, as a call comes to another place and as one is accepted.
use Rattle.std.proofs.Common.{ℕ, suc, ◌≡◌, ◌-◌, Bool, true, false, Option, Some, None, List, [], ◌∷◌, length, refl, sym, ap, subst, ◌∙◌, inl, inr, arith, eq-eqb, ne_eqb, add-one}
use Rattle.std.specs.Prelude.{◌+◌, ◌==◌, ◌&&◌, nat_lt, if◌then◌else◌}
use Rattle.std.proofs.lemmas.Bool.{cases_eq, eqb-true}
use Rattle.ipc_ids.specs.Tales.{Event, Kill, Note, Way, Accepted, Forgotten, Tale, Head, On, Other}
use Rattle.ipc_ids.specs.Life.{Life, Nowhere, Allowed, IsOf, event, life, after, is_kill_of, is_killed, last_number, number_after, task_of}
use Rattle.ipc_ids.specs.Lawful.{Follows}
use Rattle.law_check.specs.declared.lives.Place.{Place}
use Rattle.law_check.specs.declared.lives.KnownCall.{KnownCall}
use Rattle.law_check.specs.declared.lives.PresentEvent.{PresentEvent}
use Rattle.law_check.specs.declared.lives.Lives.{Lives}
use Rattle.law_check.specs.Kills.{kill_of}
use Rattle.law_check.proofs.Kept.{kept_set, kept_set_other, kept_push, kept_push_other, length_set, length_push}
use Rattle.law_check.specs.Lives.{at, known, life_at, IsLive, Puts, Pushes, BringsTo, Names, Knows, goes_back, back_of, is_first, is_nothing, event_of, kills, is_kill, kill_at}

-- a note on a call that is accepted
same_count : (n : ℕ) (w : Note) (x : Place) (l : Life) (last : ℕ) → BringsTo w x l → number_after n w last ≡ last
same_count n w x l last m = grind arith

not_back : (n : ℕ) (w : Note) (x : Place) (l : Life) (p : List Tale) → BringsTo w x l → back_of (On n w ∷ p) ≡ None
not_back n w x l p m = grind arith

comes : (w : Note) (x : Place) (l : Life) (k : KnownCall) → BringsTo w x l → known (Some k) ≡ l → after w l ≡ known (Some (record k { place = x }))
comes w x l k m e = grind arith

not_first : (n : ℕ) (w : Note) (x : Place) (p : List Tale) → BringsTo w x (life n p) → is_first p ≡ is_first (On n w ∷ p)
not_first n w x [] m = grind arith
not_first n w x (e ∷ p) m = refl

gone_in : (u phone method : ℕ) (to : Way) (l : Life) (x : Place) → after (Accepted u phone method to) Nowhere ≡ at u x → after (Accepted u phone method to) l ≡ at u x
gone_in u phone method to l x e = grind arith

last_back : (n u phone method : ℕ) (to : Way) (p : List Tale) → back_of (On n (Accepted u phone method to) ∷ p) ≡ (if goes_back to then Some n else None)
last_back n u phone method to p = grind arith

pub knows_at_place :
    (p : List Tale) (n : ℕ) (w : Note) (x : Place) (k : KnownCall) (old new : Lives) → Knows p old →
    known (Some k) ≡ life_at old.calls.items n → IsLive n old.calls.items → BringsTo w x (life n p) →
    Puts n (record k { place = x }) old new → Knows (On n w ∷ p) new
knows_at_place p n w x k old new knows here live m puts =
    record {
      count = ap length puts.calls ∙ length_set old.calls.items (n - 1) (record k { place = x }) ∙ knows.count ∙ sym (same_count n w x (life n p) (last_number p) m);
      lives = λ i. elim (cases_eq n i) [
        | inl e ↦ subst (λ (j : ℕ). life j (On n w ∷ p) ≡ life_at new.calls.items j) e (rw (puts.calls, ap known (kept_set n (record k { place = x }) old.calls.items live), eq-eqb n n refl) (comes w x (life n p) k m (here ∙ sym (knows.lives n))))
        | inr apart ↦ rw (puts.calls, ne_eqb n i apart, kept_set_other n i (record k { place = x }) old.calls.items live (λ e. apart (sym e))) (knows.lives i)
      ];
      events = rw (puts.events) knows.events;
      last_kill = rw (puts.tasks) knows.last_kill;
      earlier_kill = rw (puts.event, puts.earlier, puts.tasks) knows.earlier_kill;
      killed = rw (puts.tasks) knows.killed;
      named = rw (puts.tasks) knows.named;
      event = rw (puts.event) knows.event;
      back = rw (puts.back) (not_back n w x (life n p) p m);
      first = rw (puts.event) (knows.first ∙ not_first n w x p m);
    }

-- an event is under way
begun : (u : ℕ) (e : Option Event) → IsOf u e → is_nothing e ≡ false
begun u None h = absurd h
begun u (Some e) h = refl

pub knows_accepted :
    (p : List Tale) (n u phone method : ℕ) (to : Way) (x : Place) (old new : Lives) → Knows p old → IsOf u (event p) →
    n ≡ suc (last_number p) → after (Accepted u phone method to) Nowhere ≡ at u x →
    Pushes (record { caller = u; place = x }) (goes_back to) old new → Knows (On n (Accepted u phone method to) ∷ p) new
knows_accepted p n u phone method to x old new knows now next there pushes =
    let k : KnownCall = record { caller = u; place = x } in
    let here : n ≡ suc (length old.calls.items) = next ∙ ap suc (sym knows.count) in
    record {
      count = ap length pushes.calls ∙ length_push old.calls.items k ∙ sym here;
      lives = λ i. elim (cases_eq n i) [
        | inl e ↦ subst (λ (j : ℕ). life j (On n (Accepted u phone method to) ∷ p) ≡ life_at new.calls.items j) e (rw (pushes.calls, eq-eqb n n refl) (gone_in u phone method to (life n p) x there ∙ sym (rw (here) (ap known (kept_push old.calls.items k)))))
        | inr apart ↦ rw (pushes.calls, ne_eqb n i apart, kept_push_other i old.calls.items k (λ e. apart (here ∙ sym e))) (knows.lives i)
      ];
      events = rw (pushes.events) knows.events;
      last_kill = rw (pushes.tasks) knows.last_kill;
      earlier_kill = rw (pushes.event, pushes.earlier, pushes.tasks) knows.earlier_kill;
      killed = rw (pushes.tasks) knows.killed;
      named = rw (pushes.tasks) knows.named;
      event = rw (pushes.event) knows.event;
      back = rw (pushes.back) (last_back n u phone method to p);
      first = rw (pushes.event) (sym (ap is_nothing knows.event) ∙ begun u (event p) now);
    }

-- ---- an event begins
-- a task was killed where an event has the number of its last kill
was_killed : (u : ℕ) (p : List Tale) → is_killed u p ≡ nat_lt 0 (kill_of u p)
was_killed u [] = refl
was_killed u (e ∷ p) = grind (arith, was_killed u p)

same_kill : (u : ℕ) (x : PresentEvent) (e : Event) → event_of x ≡ Some e → is_kill u x ≡ is_kill_of u e
same_kill u x e h = grind arith

named_kill : (u : ℕ) (x : PresentEvent) (e : Event) → event_of x ≡ Some e → (task_of e == u) && kills x ≡ is_kill_of u e
named_kill u x e h = grind arith

-- the number of the last kill, as a head comes
kill_comes :
    (p : List Tale) (e : Event) (t u : ℕ) (x : PresentEvent) (old new : Lives) → Knows p old → event_of x ≡ Some e → task_of e ≡ t →
    Names t (kills x) old new → new.events ≡ old.events + 1 → kill_of u (Head e ∷ p) ≡ kill_at new.tasks u
kill_comes p e t u x old new knows here of names more =
    sym (names.last_kill u ∙ rw (← of, named_kill u x e here, more, knows.events, ← knows.last_kill u, add-one) refl)

-- the one before it
earlier_comes :
    (p : List Tale) (e : Event) (t u : ℕ) (x : PresentEvent) (old new : Lives) (b : Bool) → Knows p old → event_of x ≡ Some e →
    task_of e ≡ t → Names t (kills x) old new → is_kill_of u e ≡ b →
    (if b then new.earlier else kill_at new.tasks u) ≡ kill_of u p
earlier_comes p e t u x old new true knows here of names is =
    names.earlier (kills_one u x e here is) ∙ ap (kill_at old.tasks) (sym of ∙ killed_task u e is) ∙ sym (knows.last_kill u)
  where
    kills_one : (u : ℕ) (x : PresentEvent) (e : Event) → event_of x ≡ Some e → is_kill_of u e ≡ true → kills x ≡ true
    kills_one u x e here is = grind arith

    killed_task : (u : ℕ) (e : Event) → is_kill_of u e ≡ true → task_of e ≡ u
    killed_task u (Kill t) h = eqb-true t u h
    killed_task u _ h = cc
earlier_comes p e t u x old new false knows here of names is =
    names.last_kill u ∙ rw (← of, named_kill u x e here, is) (sym (knows.last_kill u))

pub knows_begun :
    (p : List Tale) (e : Event) (t : ℕ) (x : PresentEvent) (old named new : Lives) → Knows p old → event_of x ≡ Some e →
    task_of e ≡ t → Names t (kills x) old named → named.events ≡ old.events + 1 → new.calls ≡ named.calls →
    new.tasks ≡ named.tasks → new.events ≡ named.events → new.earlier ≡ named.earlier → new.event ≡ x → new.back ≡ false →
    Knows (Head e ∷ p) new
knows_begun p e t x old named new knows here of names more calls tasks events earlier now back =
    let kill : (u : ℕ) → kill_of u (Head e ∷ p) ≡ kill_at new.tasks u = λ u. rw (tasks) (kill_comes p e t u x old named knows here of names more) in
    record {
      count = rw (calls, names.calls) knows.count;
      lives = rw (calls, names.calls) knows.lives;
      events = events ∙ more ∙ rw (knows.events, add-one) refl;
      last_kill = kill;
      earlier_kill = λ u. sym (rw (now, tasks, earlier, same_kill u x e here) (earlier_comes p e t u x old named (is_kill_of u e) knows here of names refl));
      killed = λ u. was_killed u (Head e ∷ p) ∙ ap (nat_lt 0) (kill u);
      named = λ u. rw (tasks, names.named u, of, knows.named u) refl;
      event = rw (now) (sym here);
      back = rw (back) refl;
      first = rw (now, here) refl;
    }

-- ---- the entry is no head, and changes no call's place
abbrev pub is_quiet : Tale → Bool
is_quiet Other = true
is_quiet (On n Forgotten) = true
is_quiet _ = false

quiet_life : (i n : ℕ) (p : List Tale) → life i p ≡ life i (On n Forgotten ∷ p)
quiet_life i n p = elim (cases_eq n i) [ inl e ↦ rw (eq-eqb n i e) refl | inr apart ↦ rw (ne_eqb n i apart) refl ]

none_back : (p : List Tale) (y : Tale) → is_quiet y ≡ true → Follows p y → back_of p ≡ None
none_back [] y q f = refl
none_back (e ∷ p) y q f = grind arith

some_before : (p : List Tale) (y : Tale) → is_quiet y ≡ true → Follows p y → is_first p ≡ false
some_before [] y q f = absurd (grind arith)
some_before (e ∷ p) y q f = refl

pub stays : (p : List Tale) (s : Lives) (y : Tale) → is_quiet y ≡ true → Knows p s → Follows p y → Knows (y ∷ p) s
stays p s Other q k f =
    record {
      count = k.count;
      lives = k.lives;
      events = k.events;
      last_kill = k.last_kill;
      earlier_kill = k.earlier_kill;
      killed = k.killed;
      named = k.named;
      event = k.event;
      back = sym (none_back p Other q f) ∙ k.back;
      first = k.first ∙ some_before p Other q f;
    }
stays p s (On n Forgotten) q k f =
    record {
      count = k.count;
      lives = λ i. sym (quiet_life i n p) ∙ k.lives i;
      events = k.events;
      last_kill = k.last_kill;
      earlier_kill = k.earlier_kill;
      killed = k.killed;
      named = k.named;
      event = k.event;
      back = sym (none_back p (On n Forgotten) q f) ∙ k.back;
      first = k.first ∙ some_before p (On n Forgotten) q f;
    }
stays p s _ q k f = cc

-- what is allowed of an acceptance
pub was_next :
    (p : List Tale) (n u phone method : ℕ) (to : Way) (l : Life) → Allowed p n (Accepted u phone method to) l →
    (n ≡ suc (last_number p)) × IsOf u (event p)
was_next p n u phone method to l a = grind arith
