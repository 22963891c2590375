-- What a survey of lists of moves lists, in events.
use Rattle.std.proofs.Common.{ℕ, zero, suc, ◌≡◌, ◌<◌, ◌≤◌, Bool, true, false, ◌&&◌, List, [], ◌∷◌, length, map, None, Some, slice_get, refl, sym, ◌∙◌, ap, subst, arith}
use Rattle.std.specs.Prelude.{IsSome, is_some, if◌then◌else◌}
use Rattle.std.proofs.lemmas.Bool.{false≢true, and_parts}
use Rattle.std.proofs.lemmas.Option.{none-some, same_Some}
use Rattle.ipc_ids.specs.declared.message.Event.{Event}
use Rattle.search_core.specs.Moves.{AreMoves, IsBefore}
use Rattle.search_core.specs.Survey as core
use Rattle.schedule_search.specs.Search.{Search, IsSound, Made, may_try, state_behind, events_of}
use Rattle.schedule_search.specs.Meeting.{is_at_rest}
use Rattle.schedule_search.specs.Code.{words_behind, rest_words}
use Rattle.schedule_search.specs.Survey.{IsFirstAtRest, IsListed, Lists}
use Rattle.schedule_search.proofs.Words.{words_tell}
use Rattle.schedule_search.proofs.Behind.{moves_are_of, events_counted, spawned_by, reached, reached_alike}
use Rattle.schedule_search.proofs.Alike.{AreToldAlike, behind_alike, rest_alike}
use Rattle.schedule_search.proofs.Paths.{Numbered, numbered}

-- ---- elements of a list that was made from another

pub record IsMade {A B : Type 0} (f : A → B) (xs : List A) (k : ℕ) (y : B) : Type 0 where
  pub from : A
  pub there : slice_get xs k ≡ Some from
  pub is : f from ≡ y

pub made_at : {A B : Type 0} (f : A → B) (xs : List A) (k : ℕ) (y : B) → slice_get (map f xs) k ≡ Some y → IsMade f xs k y
made_at f [] k y h = absurd (none-some y h)
made_at f (x ∷ xs) zero y h = record { from = x; there = refl; is = same_Some (f x) y h }
made_at f (x ∷ xs) (suc k) y h =
    let later : IsMade f xs k y = made_at f xs k y h in
    record { from = later.from; there = later.there; is = later.is }

pub at_made : {A B : Type 0} (f : A → B) (xs : List A) (k : ℕ) (x : A) → slice_get xs k ≡ Some x
    → slice_get (map f xs) k ≡ Some (f x)
at_made f [] k x h = absurd (none-some x h)
at_made f (y ∷ xs) zero x h = ap (λ z. Some (f z)) (same_Some y x h)
at_made f (y ∷ xs) (suc k) x h = at_made f xs k x h

-- ---- words at rest

has_words : (b : Bool) (words : List ℕ) → IsSome (if b then Some words else None) → b ≡ true
has_words true words h = refl
has_words false words h = absurd (false≢true h)

module _ (s : Search) (es : List Event) where
  -- where there are words, they are those of the state, which is at rest
  pub record Rests : Type 0 where
    pub tried : may_try s es ≡ true
    pub rests : is_at_rest (state_behind s es) ≡ true
    pub words : rest_words s es ≡ Some (words_behind s es)

  pub words_of_rest : may_try s es ≡ true → is_at_rest (state_behind s es) ≡ true
      → rest_words s es ≡ Some (words_behind s es)
  words_of_rest tried rests =
      ap (λ (z : Bool). if z && is_at_rest (state_behind s es) then Some (words_behind s es) else None) tried
      ∙ ap (λ (z : Bool). if z then Some (words_behind s es) else None) rests

  pub at_rest : IsSome (rest_words s es) → Rests
  at_rest h =
      let both : (may_try s es && is_at_rest (state_behind s es)) ≡ true =
      has_words (may_try s es && is_at_rest (state_behind s es)) (words_behind s es) h in
      let parts : (may_try s es ≡ true) × (is_at_rest (state_behind s es) ≡ true) =
      and_parts (may_try s es) (is_at_rest (state_behind s es)) both in
      record { tried = parts.0; rests = parts.1; words = words_of_rest parts.0 parts.1 }

-- of so many moves are so many events, and the other way round
events_within : (s : Search) (most : ℕ) (p : List ℕ) → length p ≤ most → length (events_of s.moves p) ≤ most
events_within s most p l =
    let long : length (events_of s.moves p) ≡ length p = events_counted s.moves p in
    omega arith

pub moves_within : (s : Search) (most : ℕ) (p : List ℕ) → length (events_of s.moves p) ≤ most → length p ≤ most
moves_within s most p l =
    let long : length (events_of s.moves p) ≡ length p = events_counted s.moves p in
    omega arith

module _ (s : Search) (sound : IsSound s) (most : ℕ) (by_moves : List ℕ → Type 0) (counts : List Event → Type 0)
    (listed : List (List ℕ))
    (lists : core.Lists (length s.moves) (λ p. rest_words s (events_of s.moves p)) most by_moves listed)
    (moves_count : (p : List ℕ) → counts (events_of s.moves p) → by_moves p) where
  abbrev IsFirst : List ℕ → Type 0
  IsFirst p = core.IsFirstOf (length s.moves) (λ p. rest_words s (events_of s.moves p)) most p

  first_made : (p : List ℕ) → IsFirst p → Made s (events_of s.moves p)
  first_made p h =
      record {
        of_moves = moves_are_of s.moves p h.are_moves;
        tried = (at_rest s (events_of s.moves p) h.has_label).tried;
      }

  -- events that lead to the words of a listed place have its label
  same_rest : (p : List ℕ) → IsFirst p → (others : List Event) → Made s others
      → words_behind s others ≡ words_behind s (events_of s.moves p)
      → rest_words s others ≡ rest_words s (events_of s.moves p)
  same_rest p h others made same =
      let es : List Event = events_of s.moves p in
      let here : Rests s es = at_rest s es h.has_label in
      let told : AreToldAlike s others es = behind_alike s others es same in
      let alike : is_at_rest (state_behind s others) ≡ is_at_rest (state_behind s es) =
      rest_alike s.plan (spawned_by s others) (words_tell s.plan (spawned_by s others) sound.script) (state_behind s others)
      (state_behind s es) (reached s sound others made.tried) (reached_alike s sound others es told.spawns here.tried) told.words in
      words_of_rest s others made.tried (alike ∙ here.rests) ∙ ap Some same ∙ sym here.words

  no_fewer : (p : List ℕ) → IsFirst p → (others : List Event) → Made s others
      → words_behind s others ≡ words_behind s (events_of s.moves p) → length (events_of s.moves p) ≤ length others
  no_fewer p h others made same =
      let q : Numbered s.moves others = numbered s.moves others made.of_moves in
      let label : rest_words s (events_of s.moves q.numbers) ≡ rest_words s (events_of s.moves p) =
      ap (rest_words s) q.by ∙ same_rest p h others made same in
      let least : length p ≤ length q.numbers = h.shortest q.numbers q.are_moves label in
      let long : length (events_of s.moves p) ≡ length p = events_counted s.moves p in
      let there : length (events_of s.moves q.numbers) ≡ length q.numbers = events_counted s.moves q.numbers in
      let as_long : length (events_of s.moves q.numbers) ≡ length others = ap (λ (z : List Event). length z) q.by in
      omega arith

  none_before : (p : List ℕ) → IsFirst p → (others : List ℕ) → AreMoves (length s.moves) others
      → Made s (events_of s.moves others)
      → words_behind s (events_of s.moves others) ≡ words_behind s (events_of s.moves p) → IsBefore others p → ⊥
  none_before p h others are made same before =
      h.first others are (same_rest p h (events_of s.moves others) made same) before

  first_of : (p : List ℕ) → IsFirst p → IsFirstAtRest s most (events_of s.moves p)
  first_of p h =
      record {
        made = first_made p h;
        within = events_within s most p h.within;
        rests = (at_rest s (events_of s.moves p) h.has_label).rests;
        shortest = no_fewer p h;
        numbers = p;
        are_moves = h.are_moves;
        by = refl;
        first = none_before p h;
      }

  each_of : (k : ℕ) (es : List Event) → slice_get (map (events_of s.moves) listed) k ≡ Some es → IsFirstAtRest s most es
  each_of k es e =
      let m : IsMade (events_of s.moves) listed k es = made_at (events_of s.moves) listed k es e in
      subst (λ (z : List Event). IsFirstAtRest s most z) m.is (first_of m.from (lists.each k m.from m.there))

  apart_of : (j k : ℕ) (es others : List Event) → slice_get (map (events_of s.moves) listed) j ≡ Some es
      → slice_get (map (events_of s.moves) listed) k ≡ Some others → j < k
      → words_behind s es ≡ words_behind s others → ⊥
  apart_of j k es others e f l same =
      let a : IsMade (events_of s.moves) listed j es = made_at (events_of s.moves) listed j es e in
      let b : IsMade (events_of s.moves) listed k others = made_at (events_of s.moves) listed k others f in
      let x : Rests s (events_of s.moves a.from) = at_rest s (events_of s.moves a.from) (lists.each j a.from a.there).has_label in
      let y : Rests s (events_of s.moves b.from) = at_rest s (events_of s.moves b.from) (lists.each k b.from b.there).has_label in
      let words : words_behind s (events_of s.moves a.from) ≡ words_behind s (events_of s.moves b.from) =
      ap (words_behind s) a.is ∙ same ∙ sym (ap (words_behind s) b.is) in
      lists.apart j k a.from b.from a.there b.there l (x.words ∙ ap Some words ∙ sym y.words)

  all_of : (es : List Event) → Made s es → counts es → is_at_rest (state_behind s es) ≡ true
      → IsListed s (map (events_of s.moves) listed) (words_behind s es)
  all_of es made c rests =
      let q : Numbered s.moves es = numbered s.moves es made.of_moves in
      let label : rest_words s (events_of s.moves q.numbers) ≡ Some (words_behind s es) =
      ap (rest_words s) q.by ∙ words_of_rest s es made.tried rests in
      let some : IsSome (rest_words s (events_of s.moves q.numbers)) = ap is_some label in
      let by : by_moves q.numbers = moves_count q.numbers (subst counts (sym q.by) c) in
      let found = lists.all q.numbers q.are_moves by some in
      let p : List ℕ = found.1 in
      let other : Rests s (events_of s.moves p) = at_rest s (events_of s.moves p) (lists.each found.0 p found.2).has_label in
      let same : words_behind s (events_of s.moves p) ≡ words_behind s es =
      same_Some (words_behind s (events_of s.moves p)) (words_behind s es) (sym other.words ∙ found.3 ∙ label) in
      (found.0, events_of s.moves p, at_made (events_of s.moves) listed found.0 p found.2, same)

  listed_right : Lists s most counts (map (events_of s.moves) listed)
  listed_right = record { each = each_of; apart = apart_of; all = all_of }

  pub schedules_right : (schedules : List (List Event)) → schedules ≡ map (events_of s.moves) listed → Lists s most counts schedules
  schedules_right schedules is = subst (λ (z : List (List Event)). Lists s most counts z) (sym is) listed_right
