-- The events of a path, which has the numbers of its moves, the oldest first.
use Rattle.std.proofs.Common.{ℕ, zero, suc, ◌≡◌, ◌<◌, ◌+◌, ◌^◌, true, List, [], ◌∷◌, ◌++◌, length, take, get_or, reverse, refl, sym, ◌∙◌, ap, subst, arith}
use Rattle.std.proofs.lemmas.List.{take_more, reverse-append, length-reverse}
use Rattle.std.proofs.lemmas.Option.{get_or_from_slice_get, slice_get_within, slice_get-get_or}
use Rattle.ipc_ids.specs.declared.message.Event.{Event}
use Rattle.ipc_ids.specs.declared.message.Event.TheVariants.{Spawn}
use Rattle.search_core.specs.Moves.{AreMoves}
use Rattle.schedule_search.specs.Search.{Search, IsSound, AreOf, may_try, event_at, events_of}
use Rattle.schedule_search.specs.Problem.{CanTry, CanDo}
use Rattle.schedule_search.proofs.Behind.{moves_are_of, events_counted}

-- ---- one move more of a path

both : (n : ℕ) (p q : List ℕ) → AreMoves n (p ++ q) → AreMoves n p × AreMoves n q
both n [] q h = (tt, h)
both n (m ∷ p) q h = let k = both n p q h.1 in ((h.0, k.0), k.1)

oldest_and_later : (n m : ℕ) (path : List ℕ) → AreMoves n (reverse (m ∷ path)) → AreMoves n (reverse path) × AreMoves n (m ∷ [])
oldest_and_later n m path h = both n (reverse path) (m ∷ []) (subst (AreMoves n) (reverse-append (m ∷ []) path) h)

pub move_within : (n : ℕ) (path : List ℕ) (i d : ℕ) → AreMoves n (reverse path) → i < length path → get_or path i d < n
move_within n [] i d h l = absurd (omega arith)
move_within n (m ∷ path) zero d h l = (oldest_and_later n m path h).1.0
move_within n (m ∷ path) (suc i) d h l = move_within n path i d (oldest_and_later n m path h).0 (omega arith)

pub taken_more : (path : List ℕ) (i d : ℕ) → i < length path → reverse (take (i + 1) path) ≡ get_or path i d ∷ reverse (take i path)
taken_more path i d l = ap reverse (take_more path i d l) ∙ reverse-append (take i path) (get_or path i d ∷ [])

-- what is read at a place is the event of that move
pub read_at : (moves : List Event) (m : ℕ) (e d : Event) → m < length moves → e ≡ get_or moves m d → e ≡ event_at moves m
read_at moves m e d l is = is ∙ sym (get_or_from_slice_get moves m (get_or moves m d) (Spawn 0) (slice_get-get_or moves m d l))

pub event_more : (moves : List Event) (path : List ℕ) (i d : ℕ) (so_far now : List Event) (e : Event) → i < length path
    → so_far ≡ events_of moves (reverse (take i path)) → e ≡ event_at moves (get_or path i d) → now ≡ so_far ++ e ∷ []
    → now ≡ events_of moves (reverse (take (i + 1) path))
event_more moves path i d so_far now e l is at pushed =
    pushed
    ∙ ap (λ (z : List Event). z ++ e ∷ []) is
    ∙ ap (λ (z : Event). events_of moves (reverse (take i path)) ++ z ∷ []) at
    ∙ ap (events_of moves) (sym (taken_more path i d l))

-- ---- the events of a path can be tried, and done where the test holds

pub done : (s : Search) (es : List Event) → CanTry s es → may_try s es ≡ true → CanDo s es
done s es can tried = record { sound = can.sound; of_moves = can.of_moves; few = can.few; tried = tried }

pub can_try : (s : Search) (path : List ℕ) (es : List Event) → IsSound s → AreMoves (length s.moves) (reverse path)
    → length path < 2 ^ 20 → es ≡ events_of s.moves (reverse path) → CanTry s es
can_try s path es sound moves few is =
    let long : length es ≡ length (events_of s.moves (reverse path)) = ap (λ (z : List Event). length z) is in
    let same : length (events_of s.moves (reverse path)) ≡ length (reverse path) = events_counted s.moves (reverse path) in
    let again : length (reverse path) ≡ length path = length-reverse path in
    record {
      sound = sound;
      of_moves = subst (AreOf s.moves) (sym is) (moves_are_of s.moves (reverse path) moves);
      few = omega arith;
    }

-- ---- events of moves have the numbers of these

pub record Numbered (moves es : List Event) : Type 0 where
  pub numbers : List ℕ
  pub are_moves : AreMoves (length moves) numbers
  pub by : events_of moves numbers ≡ es

oldest_more : (moves : List Event) (p : List ℕ) (m : ℕ) → events_of moves (p ++ m ∷ []) ≡ event_at moves m ∷ events_of moves p
oldest_more moves [] m = refl
oldest_more moves (n ∷ p) m = ap (λ (z : List Event). z ++ event_at moves n ∷ []) (oldest_more moves p m)

pub oldest_is : (n : ℕ) (p : List ℕ) (m : ℕ) → m < n → AreMoves n p → AreMoves n (p ++ m ∷ [])
oldest_is n [] m l h = (l, tt)
oldest_is n (k ∷ p) m l h = (h.0, oldest_is n p m l h.1)

pub numbered : (moves es : List Event) → AreOf moves es → Numbered moves es
numbered moves [] h = record { numbers = []; are_moves = tt; by = refl }
numbered moves (e ∷ es) h =
    let later : Numbered moves es = numbered moves es h.1 in
    record {
      numbers = later.numbers ++ h.0.0 ∷ [];
      are_moves = oldest_is (length moves) later.numbers h.0.0 (slice_get_within moves h.0.0 e h.0.1) later.are_moves;
      by = oldest_more moves later.numbers h.0.0
          ∙ ap (λ (z : Event). z ∷ events_of moves later.numbers) (get_or_from_slice_get moves h.0.0 e (Spawn 0) h.0.1)
          ∙ ap (λ (z : List Event). e ∷ z) later.by;
    }
