-- What a search over lists of moves answers, in events.
use Rattle.std.proofs.Common.{ℕ, ◌≡◌, ◌≤◌, List, length, refl, sym, ◌∙◌, ap, subst, arith}
use Rattle.ipc_ids.specs.declared.message.Event.{Event}
use Rattle.search_core.specs.Moves.{AreMoves}
use Rattle.search_core.specs.Right as core
use Rattle.schedule_search.specs.Search.{Search, events_of}
use Rattle.schedule_search.specs.Meeting.{Finds}
use Rattle.schedule_search.specs.Right.{IsFirst}
use Rattle.schedule_search.proofs.Behind.{events_counted}
use Rattle.schedule_search.proofs.Paths.{Numbered, numbered}

module _ (s : Search) where
  -- what is looked for, by moves
  abbrev by_moves : List ℕ → Type 0
  by_moves p = Finds s (events_of s.moves p)

  -- events that find it have numbers that do, and are as long
  by_numbers : (es : List Event) → Finds s es → (q : Numbered s.moves es) → by_moves q.numbers
  by_numbers es finds q = subst (Finds s) (sym q.by) finds

  as_long : (es : List Event) (q : Numbered s.moves es) → length q.numbers ≡ length es
  as_long es q = sym (events_counted s.moves q.numbers) ∙ ap (λ (z : List Event). length z) q.by

  first_of : (most : ℕ) (p : List ℕ) → core.IsFirst (length s.moves) by_moves most p → IsFirst s most (events_of s.moves p)
  first_of most p h =
      let long : length (events_of s.moves p) ≡ length p = events_counted s.moves p in
      let few : length p ≤ most = h.within in
      record {
        finds = h.met;
        within = omega arith;
        shortest = λ (others : List Event) (finds : Finds s others).
            (let q : Numbered s.moves others = numbered s.moves others finds.made.of_moves in
            let least : length p ≤ length q.numbers = h.shortest q.numbers q.are_moves (by_numbers others finds q) in
            let same : length q.numbers ≡ length others = as_long others q in
            omega arith);
        numbers = p;
        are_moves = h.are_moves;
        by = refl;
        first = h.first;
      }

  -- the events of the moves that were found are the first
  pub first_is : (most : ℕ) (p : List ℕ) (es : List Event) → core.IsFirst (length s.moves) by_moves most p
      → es ≡ events_of s.moves p → IsFirst s most es
  first_is most p es h is = subst (IsFirst s most) (sym is) (first_of most p h)

  pub none_within : (most : ℕ) → ((q : List ℕ) → AreMoves (length s.moves) q → length q ≤ most → by_moves q → ⊥)
      → (es : List Event) → length es ≤ most → Finds s es → ⊥
  none_within most none es within finds =
      let q : Numbered s.moves es = numbered s.moves es finds.made.of_moves in
      let same : length q.numbers ≡ length es = as_long es q in
      none q.numbers q.are_moves (omega arith) (by_numbers es finds q)

  pub none_at_all : ((q : List ℕ) → AreMoves (length s.moves) q → by_moves q → ⊥) → (es : List Event) → Finds s es → ⊥
  none_at_all none es finds =
      let q : Numbered s.moves es = numbered s.moves es finds.made.of_moves in
      none q.numbers q.are_moves (by_numbers es finds q)
