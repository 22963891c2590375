-- Events for tasks that are chosen, one task more at a time.
use Rattle.std.proofs.Common.{◌≡◌, ℕ, zero, suc, ◌+◌, ◌≤◌, ◌<◌, Bool, true, false, cond, List, [], ◌∷◌, ◌++◌, length, refl, sym, ap, ◌∙◌, append_assoc, add-one, length-append, arith}
use Rattle.std.specs.Prelude.{All, map, filter, nat_lt}
use Rattle.std.specs.List.{AllByRecursion, range_with_len}
use Rattle.std.proofs.lemmas.Bool.{ltb-false}
use Rattle.std.proofs.lemmas.List.{length-map, map-append}
use Rattle.std.proofs.lemmas.List.Elements.{All-from_recursion, All-filter, All-map, filter-append}
use Rattle.std.proofs.lemmas.List.FromFn.{length-range_with_len}
use Rattle.ipc_ids.specs.declared.message.Event.{Event}
use Rattle.ipc_ids.specs.declared.message.Event.TheVariants.{Spawn}
use Rattle.ipc_ids.proofs.Common.{range_more}
use Rattle.script_reader.specs.Schedule.{MayAllCome}
use Rattle.script_reader.proofs.EventTasks.{IsOn, all_may}
use Rattle.schedule_search.specs.declared.problem.MostMade.{MostMade}
use Rattle.hipc_search.specs.Moves.{is_living, is_killed, step_by, kill_of, for_chosen, living_steps, all_made, most_ever, spawns_in, moves_of}

map_chosen : (event : ℕ → Event) (b : Bool) (t : ℕ) → map event (cond b (t ∷ []) []) ≡ cond b (event t ∷ []) []
map_chosen event true t = refl
map_chosen event false t = refl

module _ (event : ℕ → Event) (chosen : ℕ → Bool) (n : ℕ) where
  pub chosen_more : for_chosen event chosen (n + 1) ≡ for_chosen event chosen n ++ cond (chosen (n + 1)) (event (n + 1) ∷ []) []
  chosen_more =
      let last : 1 + n ≡ n + 1 = omega arith in
      ap (for_chosen event chosen) (add-one n)
      ∙ ap (λ (ts : List ℕ). map event (filter chosen ts))
      (range_more 1 n ∙ ap (λ (t : ℕ). range_with_len 1 n ++ t ∷ []) last)
      ∙ ap (map event) (filter-append chosen (range_with_len 1 n) ((n + 1) ∷ []))
      ∙ map-append event (filter chosen (range_with_len 1 n)) (cond (chosen (n + 1)) ((n + 1) ∷ []) [])
      ∙ ap (λ (es : List Event). for_chosen event chosen n ++ es) (map_chosen event (chosen (n + 1)) (n + 1))

  -- a task more, behind what stood before
  pub one_more : (old so_far new : List Event) (b : Bool) (e : Event) → so_far ≡ old ++ for_chosen event chosen n
      → b ≡ chosen (n + 1) → e ≡ event (n + 1) → new ≡ so_far ++ cond b (e ∷ []) []
      → new ≡ old ++ for_chosen event chosen (n + 1)
  one_more old so_far new b e way test same added =
      added
      ∙ ap (λ (es : List Event). es ++ cond b (e ∷ []) []) way
      ∙ ap (λ (c : Bool). (old ++ for_chosen event chosen n) ++ cond c (e ∷ []) []) test
      ∙ ap (λ (x : Event). (old ++ for_chosen event chosen n) ++ cond (chosen (n + 1)) (x ∷ []) []) same
      ∙ append_assoc old (for_chosen event chosen n) (cond (chosen (n + 1)) (event (n + 1) ∷ []) [])
      ∙ ap (λ (es : List Event). old ++ es) (sym chosen_more)

-- ---- each is on a task

in_range : (P : ℕ → Type 0) (a n : ℕ) → ((t : ℕ) → a ≤ t → t < a + n → P t) → AllByRecursion P (range_with_len a n)
in_range P a zero h = tt
in_range P a (suc n) h =
    (h a (omega arith) (omega arith), in_range P (a + 1) n (λ (t : ℕ) (l : a + 1 ≤ t) (m : t < a + 1 + n). h t (omega arith) (omega arith)))

chosen_on : (event : ℕ → Event) (chosen : ℕ → Bool) (n : ℕ) → ((t : ℕ) → 1 ≤ t → t ≤ n → IsOn n (event t))
    → All (IsOn n) (for_chosen event chosen n)
chosen_on event chosen n h =
    All-map (IsOn n) event (filter chosen (range_with_len 1 n))
    (All-filter chosen (λ (t : ℕ). IsOn n (event t)) (range_with_len 1 n)
    (All-from_recursion (λ (t : ℕ). IsOn n (event t)) (range_with_len 1 n)
    (in_range (λ (t : ℕ). IsOn n (event t)) 1 n (λ (t : ℕ) (l : 1 ≤ t) (m : t < 1 + n). h t l (omega arith)))))

filter_fewer : (p : ℕ → Bool) (xs : List ℕ) → length (filter p xs) ≤ length xs
filter_fewer p [] = omega arith
filter_fewer p (x ∷ xs) = by_test (p x) (filter_fewer p xs) where
  by_test : (b : Bool) → length (filter p xs) ≤ length xs → length (cond b (x ∷ filter p xs) (filter p xs)) ≤ suc (length xs)
  by_test true less = omega (arith, less)
  by_test false less = omega (arith, less)

chosen_few : (event : ℕ → Event) (chosen : ℕ → Bool) (n : ℕ) → length (for_chosen event chosen n) ≤ n
chosen_few event chosen n =
    let all = length-map (filter chosen (range_with_len 1 n)) event in
    let less = filter_fewer chosen (range_with_len 1 n) in
    let long = length-range_with_len 1 n in
    omega (arith, all, less, long)

-- so they may come
pub living_come : (first later : List Event) (n templates : ℕ) → MayAllCome n templates (living_steps first later n)
living_come first later n templates =
    all_may n templates (living_steps first later n)
    (chosen_on step_by (is_living first later) n (λ (t : ℕ) (l : 1 ≤ t) (m : t ≤ n). (l, m)))

pub living_few : (first later : List Event) (n : ℕ) → length (living_steps first later n) ≤ n
living_few first later n = chosen_few step_by (is_living first later) n

-- ---- how many moves there are

most_few : (n : ℕ) (bounds : List MostMade) → n ≤ 64 → most_ever n bounds ≤ 64
most_few n bounds few = by_test (nat_lt 64 (n + all_made bounds)) refl where
  by_test : (b : Bool) → nat_lt 64 (n + all_made bounds) ≡ b → cond b 64 (n + all_made bounds) ≤ 64
  by_test true e = omega arith
  by_test false e = let all = ltb-false 64 (n + all_made bounds) e in omega (arith, all)

pub moves_few : (n : ℕ) (killed hangups : List Event) (bounds : List MostMade) → n ≤ 64
    → length (moves_of n killed hangups bounds) ≤ 128 + length hangups + length bounds
moves_few n killed hangups bounds few =
    let steps : List Event = living_steps [] [] (most_ever n bounds) in
    let kills : List Event = for_chosen kill_of (is_killed killed) n in
    let a = length-append ((steps ++ kills) ++ hangups) (spawns_in bounds) in
    let b = length-append (steps ++ kills) hangups in
    let c = length-append steps kills in
    let d = length-map bounds (λ (bound : MostMade). Spawn bound.place) in
    let e = living_few [] [] (most_ever n bounds) in
    let f = chosen_few kill_of (is_killed killed) n in
    let g = most_few n bounds few in
    omega (arith, a, b, c, d, e, f, g, few)
