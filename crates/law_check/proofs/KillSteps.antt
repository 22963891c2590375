-- What is kept to tell whether kills are lawful, as entries come.
use Rattle.std.proofs.Common.{ℕ, suc, ◌≡◌, ◌<◌, ◌≤◌, ◌+◌, ◌-◌, ◌==◌, ◌⊎◌, ◌↔◌, Bool, true, false, List, [], ◌∷◌, ◌++◌, length, slice_set, refl, sym, ap, subst, ◌∙◌, inl, inr, arith, eq-eqb, ne_eqb}
use Rattle.std.specs.Prelude.{if◌then◌else◌, nat_lt, not, unwrap_or, ◌&&◌}
use Rattle.std.proofs.lemmas.Bool.{cases_eq, false_from_ne_true}
use Rattle.ipc_ids.specs.Tales.{Note, Way, Accepted, Forgotten, Tale, Head, On, Other}
use Rattle.ipc_ids.specs.Life.{Life, Nowhere, Incoming, Dispatched, Answers, Allowed, life, last_number, number_after}
use Rattle.ipc_ids.specs.Lawful.{StandsAt}
use Rattle.ipc_ids.specs.Laws.{IsAllowed, IsHeldBy}
use Rattle.law_check.specs.declared.lives.KnownCall.{KnownCall}
use Rattle.law_check.specs.declared.kills.Kind.TheVariants as of
use Rattle.law_check.specs.declared.kills.Kills.{Kills}
use Rattle.law_check.specs.Lives.{Knows, known, kept_at, life_at, IsLive, kill_at, earlier_kill_at}
use Rattle.law_check.specs.Kills.{heads, kill_of, since, since_after, NoneIsLate}
use Rattle.law_check.specs.KillState.{KnowsKills, TakesKill, number_at, is_late, is_dead, kind, since_put}
use Rattle.law_check.proofs.Kept.{kept_set, kept_set_other, kept_push, kept_push_other, length_set, length_push, live_or_not}

pub passed :
    (p : List Tale) (y : Tale) (old new : Kills) → KnowsKills p old → kind y ≡ of.Other → Knows (y ∷ p) new.lives →
    new.since ≡ old.since → KnowsKills (y ∷ p) new
passed p (On n w) old new knows is lives since = cc
passed p (Head e) old new knows is lives since =
    record { lives = lives; count = rw (since) knows.count; since_when = rw (since) knows.since_when }
passed p Other old new knows is lives since =
    record { lives = lives; count = rw (since) knows.count; since_when = rw (since) knows.since_when }

-- a call whose life has begun is kept
is_live : (n : ℕ) (calls : List KnownCall) (l : Life) → l ≡ life_at calls n → (l ≡ Nowhere → ⊥) → IsLive n calls
is_live n calls l h there =
    elim (live_or_not n calls) [ inl live ↦ live | inr none ↦ absurd (there (h ∙ ap known none)) ]

put_since :
    (p : List Tale) (n i now : ℕ) (xs : List ℕ) → IsLive n xs → ((j : ℕ) → since j p ≡ number_at xs j) → now ≡ heads p →
    (if n == i then heads p else since i p) ≡ number_at (slice_set xs (n - 1) now) i
put_since p n i now xs live h e =
    elim (cases_eq n i) [
      | inl same ↦ rw (eq-eqb n i same) (subst (λ (j : ℕ). heads p ≡ number_at (slice_set xs (n - 1) now) j) same (sym e ∙ sym (ap (λ o. unwrap_or o 0) (kept_set n now xs live))))
      | inr apart ↦ rw (ne_eqb n i apart) (h i ∙ sym (ap (λ o. unwrap_or o 0) (kept_set_other n i now xs live (λ k. apart (sym k)))))
    ]

push_since :
    (p : List Tale) (n i now : ℕ) (xs : List ℕ) → n ≡ suc (length xs) → ((j : ℕ) → since j p ≡ number_at xs j) → now ≡ heads p →
    (if n == i then heads p else since i p) ≡ number_at (xs ++ now ∷ []) i
push_since p n i now xs next h e =
    elim (cases_eq n i) [
      | inl same ↦ rw (eq-eqb n i same) (sym e ∙ sym (ap (λ o. unwrap_or o 0) (ap (λ j. kept_at (xs ++ now ∷ []) j) (sym same ∙ next) ∙ kept_push xs now)))
      | inr apart ↦ rw (ne_eqb n i apart) (h i ∙ sym (ap (λ o. unwrap_or o 0) (kept_push_other i xs now (λ k. apart (next ∙ sym k)))))
    ]

put_fits : (n now : ℕ) (xs : List ℕ) → IsLive n xs → (if nat_lt 0 n && not (nat_lt (length xs) n) then slice_set xs (n - 1) now else xs) ≡ slice_set xs (n - 1) now
put_fits n now xs live = grind (arith, live.0, live.1)

same_since : (p : List Tale) (n i : ℕ) → (if n == i then since i p else since i p) ≡ since i p
same_since p n i = grind arith

next_number : (p : List Tale) (n u phone method : ℕ) (to : Way) (l : Life) → Allowed p n (Accepted u phone method to) l → n ≡ suc (last_number p)
next_number p n u phone method to l a = grind arith

-- the note is an acceptance, or says that a call is forgotten, or brings one that is kept to a place
pub data Sort (n : ℕ) (w : Note) (p : List Tale) (now : ℕ) (xs : List ℕ) : Type 0 where
  accepts : (n ≡ suc (last_number p)) → (number_after n w (last_number p) ≡ n) → (since_put (On n w) n now xs ≡ xs ++ now ∷ []) → ((a b : ℕ) → since_after w a b ≡ a) → Sort n w p now xs
  forgets : (number_after n w (last_number p) ≡ last_number p) → (since_put (On n w) n now xs ≡ xs) → ((a b : ℕ) → since_after w a b ≡ b) → Sort n w p now xs
  brings : (life n p ≡ Nowhere → ⊥) → (number_after n w (last_number p) ≡ last_number p) → (since_put (On n w) n now xs ≡ (if nat_lt 0 n && not (nat_lt (length xs) n) then slice_set xs (n - 1) now else xs)) → ((a b : ℕ) → since_after w a b ≡ a) → Sort n w p now xs

is_acceptance : Note → Bool
is_acceptance (Accepted u phone method to) = true
is_acceptance w = false

no_life : (p : List Tale) (n : ℕ) (w : Note) (l : Life) → Allowed p n w l → is_acceptance w ≡ false → l ≡ Nowhere → ⊥
unfolding is_acceptance
no_life p n w l a k h = grind arith

renamed : (p : List Tale) (n i a : ℕ) (w : Note) → since_after w (heads p) (since i p) ≡ a → since i (On n w ∷ p) ≡ (if n == i then a else since i p)
renamed p n i a w e = ap (λ x. if n == i then x else since i p) e

sort_of : (p : List Tale) (n : ℕ) (w : Note) (now : ℕ) (xs : List ℕ) → Allowed p n w (life n p) → Sort n w p now xs
unfolding is_acceptance
sort_of p n (Accepted u phone method to) now xs a = accepts (next_number p n u phone method to (life n p) a) refl refl (λ x y. refl)
sort_of p n Forgotten now xs a = forgets refl refl (λ x y. refl)
sort_of p n w now xs a = brings (no_life p n w (life n p) a refl) refl refl (λ x y. refl)

note_since :
    (p : List Tale) (n i now : ℕ) (w : Note) (xs : List ℕ) (calls : List KnownCall) → Sort n w p now xs →
    length xs ≡ last_number p → length calls ≡ last_number p → (life n p ≡ life_at calls n) →
    ((j : ℕ) → since j p ≡ number_at xs j) → now ≡ heads p →
    since i (On n w ∷ p) ≡ number_at (since_put (On n w) n now xs) i
note_since p n i now w xs calls (accepts next last put after) many known_many there h e =
    renamed p n i (heads p) w (after (heads p) (since i p))
    ∙ push_since p n i now xs (next ∙ ap suc (sym many)) h e
    ∙ sym (ap (λ l. number_at l i) put)
note_since p n i now w xs calls (forgets last put after) many known_many there h e =
    renamed p n i (since i p) w (after (heads p) (since i p)) ∙ same_since p n i ∙ h i ∙ sym (ap (λ l. number_at l i) put)
note_since p n i now w xs calls (brings alive last put after) many known_many there h e =
    let kept : IsLive n calls = is_live n calls (life n p) there alive in
    let live : IsLive n xs = (kept.0, subst (λ (m : ℕ). n ≤ m) (known_many ∙ sym many) kept.1) in
    renamed p n i (heads p) w (after (heads p) (since i p))
    ∙ put_since p n i now xs live h e
    ∙ sym (ap (λ l. number_at l i) (put ∙ put_fits n now xs live))

note_count :
    (p : List Tale) (n now : ℕ) (w : Note) (xs : List ℕ) (calls : List KnownCall) → Sort n w p now xs →
    length xs ≡ last_number p → length calls ≡ last_number p → (life n p ≡ life_at calls n) →
    length (since_put (On n w) n now xs) ≡ number_after n w (last_number p)
note_count p n now w xs calls (accepts next last put after) many known_many there =
    ap length put ∙ length_push xs now ∙ ap suc many ∙ sym next ∙ sym last
note_count p n now w xs calls (forgets last put after) many known_many there = ap length put ∙ many ∙ sym last
note_count p n now w xs calls (brings alive last put after) many known_many there =
    let kept : IsLive n calls = is_live n calls (life n p) there alive in
    let live : IsLive n xs = (kept.0, subst (λ (m : ℕ). n ≤ m) (known_many ∙ sym many) kept.1) in
    ap length (put ∙ put_fits n now xs live) ∙ length_set xs (n - 1) now ∙ many ∙ sym last

knows_after_note_on :
    (p : List Tale) (n : ℕ) (w : Note) (old new : Kills) → KnowsKills p old → Allowed p n w (life n p) →
    Knows (On n w ∷ p) new.lives → new.since.items ≡ since_put (On n w) n old.lives.events old.since.items →
    KnowsKills (On n w ∷ p) new
knows_after_note_on p n w old new knows a lives put =
    let sort = sort_of p n w old.lives.events old.since.items a in
    record {
      lives = lives;
      count = ap length put ∙ note_count p n old.lives.events w old.since.items old.lives.calls.items sort knows.count knows.lives.count (knows.lives.lives n);
      since_when = λ i. note_since p n i old.lives.events w old.since.items old.lives.calls.items sort knows.count knows.lives.count (knows.lives.lives n) knows.since_when knows.lives.events
          ∙ sym (ap (λ l. number_at l i) put);
    }

pub knows_after_note :
    (p : List Tale) (n : ℕ) (y : Tale) (old new : Kills) → KnowsKills p old → kind y ≡ of.On n → IsAllowed p y →
    Knows (y ∷ p) new.lives → new.since.items ≡ since_put y n old.lives.events old.since.items → KnowsKills (y ∷ p) new
knows_after_note p n (Head e) old new knows is a lives put = cc
knows_after_note p n Other old new knows is a lives put = cc
knows_after_note p n (On m w) old new knows is a lives put =
    let same : n ≡ m = same_call n m (sym is) in
    knows_after_note_on p m w old new knows a lives
    (subst (λ (i : ℕ). new.since.items ≡ since_put (On m w) i old.lives.events old.since.items) same put)
  where
    same_call : (n m : ℕ) → of.On n ≡ of.On m → n ≡ m
    same_call n m h = cc

-- what the tests mean
abbrev pub Due : Life → ℕ → ℕ → ℕ → Type 0
Due l s t kill = (IsHeldBy t l × (s ≤ kill)) ⊎ ((l ≡ Answers t) × (s < kill))

late_gives : (l : Life) (s : ℕ) (k : ℕ → ℕ) → is_late l s k ≡ true → (t : ℕ) × Due l s t (k t)
late_gives (Incoming u t) s k late = (t, inl (refl, grind arith))
late_gives (Dispatched u t) s k late = (t, inl (refl, grind arith))
late_gives (Answers u) s k late = (u, inr (refl, grind arith))
late_gives _ s k late = cc

not_late_gives : (l : Life) (s : ℕ) (k : ℕ → ℕ) → is_late l s k ≡ false → (t : ℕ) → Due l s t (k t) → ⊥
not_late_gives l s k late t due = grind arith

dead_gives : (l : Life) (k : ℕ → ℕ) → is_dead l k ≡ true → (t : ℕ) × StandsAt t l × (k t ≡ 0 → ⊥)
dead_gives (Incoming u t) k dead = (t, refl, λ e. grind (arith, e))
dead_gives (Dispatched u t) k dead = (t, refl, λ e. grind (arith, e))
dead_gives (Answers u) k dead = (u, refl, λ e. grind (arith, e))
dead_gives _ k dead = cc

not_dead_gives : (l : Life) (k : ℕ → ℕ) → is_dead l k ≡ false → (t : ℕ) → StandsAt t l → k t ≡ 0
not_dead_gives l k dead t stands = grind arith

-- the test of what is late, of a call that is kept
kept_late : (p : List Tale) (n : ℕ) (s : Kills) → KnowsKills p s → (b : Bool) → is_late (life_at s.lives.calls.items n) (number_at s.since.items n) (earlier_kill_at s.lives) ≡ b → is_late (life n p) (since n p) (earlier_kill_at s.lives) ≡ b
kept_late p n s knows b h = rw (knows.lives.lives n, knows.since_when n) h

pub refused :
    (p : List Tale) (y : Tale) (n : ℕ) (s new : Kills) → KnowsKills p s → kind y ≡ of.On n →
    is_late (life_at s.lives.calls.items n) (number_at s.since.items n) (earlier_kill_at s.lives) ≡ true → TakesKill p y new false
refused p (Head e) n s new knows is late = cc
refused p Other n s new knows is late = cc
refused p (On m w) n s new knows is late =
    let same : n ≡ m = same_call n m (sym is) in
    let due = late_gives (life m p) (since m p) (earlier_kill_at s.lives) (subst (λ (i : ℕ). is_late (life i p) (since i p) (earlier_kill_at s.lives) ≡ true) same (kept_late p n s knows true late)) in
    λ may fine. fine due.0 (subst (λ (k : ℕ). Due (life m p) (since m p) due.0 k) (sym (knows.lives.earlier_kill due.0)) due.1)
  where
    same_call : (n m : ℕ) → of.On n ≡ of.On m → n ≡ m
    same_call n m h = cc

settled_on :
    (p : List Tale) (n : ℕ) (w : Note) (old new : Kills) → KnowsKills p old → KnowsKills (On n w ∷ p) new →
    is_late (life_at old.lives.calls.items n) (number_at old.since.items n) (earlier_kill_at old.lives) ≡ false →
    (b : Bool) → b ≡ is_dead (life_at new.lives.calls.items n) (earlier_kill_at new.lives) → TakesKill p (On n w) new (not b)
settled_on p n w old new knows after late true dead =
    let d = dead_gives (life n (On n w ∷ p)) (earlier_kill_at new.lives) (rw (after.lives.lives n) (sym dead)) in
    λ may fine. d.2 (sym (after.lives.earlier_kill d.0) ∙ may d.0 d.1)
settled_on p n w old new knows after late false dead = (
  λ t stands. after.lives.earlier_kill t ∙ not_dead_gives (life n (On n w ∷ p)) (earlier_kill_at new.lives) (rw (after.lives.lives n) (sym dead)) t stands,
  λ t due. not_late_gives (life n p) (since n p) (earlier_kill_at old.lives) (kept_late p n old knows false late) t
      (subst (λ (k : ℕ). Due (life n p) (since n p) t k) (knows.lives.earlier_kill t) due),
  after,
)

pub settled :
    (p : List Tale) (y : Tale) (n : ℕ) (old new : Kills) → KnowsKills p old → KnowsKills (y ∷ p) new → kind y ≡ of.On n →
    is_late (life_at old.lives.calls.items n) (number_at old.since.items n) (earlier_kill_at old.lives) ≡ false →
    (b : Bool) → b ≡ is_dead (life_at new.lives.calls.items n) (earlier_kill_at new.lives) → TakesKill p y new (not b)
settled p (Head e) n old new knows after is late b dead = cc
settled p Other n old new knows after is late b dead = cc
settled p (On m w) n old new knows after is late b dead =
    let same : n ≡ m = same_call n m (sym is) in
    settled_on p m w old new knows after
    (subst (λ (i : ℕ). is_late (life_at old.lives.calls.items i) (number_at old.since.items i) (earlier_kill_at old.lives) ≡ false) same late) b
    (subst (λ (i : ℕ). b ≡ is_dead (life_at new.lives.calls.items i) (earlier_kill_at new.lives)) same dead)
  where
    same_call : (n m : ℕ) → of.On n ≡ of.On m → n ≡ m
    same_call n m h = cc

-- nothing is late, with the present event at its end
pub none_late :
    (p : List Tale) (s : Kills) (k : ℕ → ℕ) → KnowsKills p s → ((t : ℕ) → k t ≡ kill_at s.lives.tasks t) →
    ((n : ℕ) → is_late (life_at s.lives.calls.items n) (number_at s.since.items n) k ≡ false) ↔ NoneIsLate p
none_late p s k knows ended = (
  λ h n t due. not_late_gives (life n p) (since n p) k (rw (knows.lives.lives n, knows.since_when n) (h n)) t
      (subst (λ (m : ℕ). Due (life n p) (since n p) t m) (ends_so t) due),
  λ none n. false_from_ne_true (is_late (life_at s.lives.calls.items n) (number_at s.since.items n) k)
      (λ late. let d = late_gives (life n p) (since n p) k (rw (knows.lives.lives n, knows.since_when n) late) in
      none n d.0 (subst (λ (m : ℕ). Due (life n p) (since n p) d.0 m) (sym (ends_so d.0)) d.1)),
)
  where
    ends_so : (t : ℕ) → kill_of t p ≡ k t
    ends_so t = knows.lives.last_kill t ∙ sym (ended t)
