-- The states behind the events of moves.
use Rattle.std.proofs.Common.{ℕ, ◌≡◌, ◌<◌, ◌+◌, true, List, [], ◌∷◌, ◌++◌, length, length-append, refl, sym, subst, arith, Some, slice_get}
use Rattle.std.proofs.lemmas.Grind.{flat_map-append}
use Rattle.std.proofs.lemmas.Option.{slice_get-get_or}
use Rattle.schedule_replay.proofs.UnderWay.{after_append}
use Rattle.ipc_ids.specs.declared.message.Event.{Event}
use Rattle.ipc_ids.specs.declared.message.Event.TheVariants.{Spawn}
use Rattle.script_reader.specs.Schedule.{MayAllCome}
use Rattle.task_system.specs.Run.{RunState, start, turn, state_after, MayAllHappen}
use Rattle.run_laws.proofs.RunHistories.{may_from, may_on}
use Rattle.search_core.specs.Moves.{AreMoves}
use Rattle.run_words.specs.Reached.{IsReached, spawn_of, spawns_of}
use Rattle.schedule_search.specs.Search.{Search, IsSound, AreOf, first_tasks, may_try, first_state, state_behind, event_at, events_of}
use Rattle.schedule_search.proofs.Tries.{all_come, come_both, tried_parts}

-- ---- one event more

-- ---- the events of moves

event_is : (moves : List Event) (m : ℕ) → m < length moves → slice_get moves m ≡ Some (event_at moves m)
event_is moves m l = slice_get-get_or moves m (Spawn 0) l

of_both : (moves es fs : List Event) → AreOf moves es → AreOf moves fs → AreOf moves (es ++ fs)
of_both moves [] fs h k = k
of_both moves (e ∷ es) fs h k = (h.0, of_both moves es fs h.1 k)

pub moves_are_of : (moves : List Event) (p : List ℕ) → AreMoves (length moves) p → AreOf moves (events_of moves p)
moves_are_of moves [] h = tt
moves_are_of moves (m ∷ p) h = of_both moves (events_of moves p) (event_at moves m ∷ []) (moves_are_of moves p h.1) ((m, event_is moves m h.0), tt)

pub events_counted : (moves : List Event) (p : List ℕ) → length (events_of moves p) ≡ length p
events_counted moves [] = refl
events_counted moves (m ∷ p) =
    let a : length (events_of moves p ++ event_at moves m ∷ []) ≡ length (events_of moves p) + 1 = length-append (events_of moves p) (event_at moves m ∷ []) in
    let b : length (events_of moves p) ≡ length p = events_counted moves p in
    omega arith

-- ---- they may come

-- what may come behind other events may come behind the state that they leave
pub may_behind : (now : RunState) (xs ys : List Event) → MayAllHappen now (xs ++ ys) → MayAllHappen (state_after now xs) ys
may_behind now [] ys may = may
may_behind now (x ∷ xs) ys may =
    may_behind (turn now x).state xs ys (may_on now (turn now x).state x (x ∷ xs ++ ys) (xs ++ ys) refl refl may)

-- ---- what is reached

-- the templates of the tasks that the first events make, and then these, in turn
abbrev pub spawned_by : Search → List Event → List ℕ
spawned_by s es = spawns_of s.from ++ spawns_of es

module _ (s : Search) (sound : IsSound s) where
  abbrev tasks : ℕ
  tasks = length s.plan.tasks

  -- events that may be tried may come behind the first
  pub may_here : (es : List Event) → may_try s es ≡ true → MayAllCome (first_tasks s) (length s.plan.templates) es
  may_here es tried = all_come (first_tasks s) (length s.plan.templates) es (tried_parts s es tried).come

  pub may_all : (es : List Event) → may_try s es ≡ true → MayAllCome tasks (length s.plan.templates) (s.from ++ es)
  may_all es tried = come_both tasks (length s.plan.templates) s.from es sound.may (may_here es tried)

  all_spawns : (es : List Event) → spawns_of (s.from ++ es) ≡ spawned_by s es
  all_spawns es = flat_map-append spawn_of s.from es

  pub reached : (es : List Event) → may_try s es ≡ true → IsReached s.plan (spawned_by s es) (state_behind s es)
  reached es tried =
      record {
        events = s.from ++ es;
        may = may_all es tried;
        spawns = all_spawns es;
        state = sym (after_append (start s.plan) s.from es);
      }

  -- by all events
  pub reached_by_all : (es : List Event) → may_try s es ≡ true → IsReached s.plan (spawns_of (s.from ++ es)) (state_behind s es)
  reached_by_all es tried = subst (λ (z : List ℕ). IsReached s.plan z (state_behind s es)) (sym (all_spawns es)) (reached es tried)

  -- where others make the same tasks
  pub reached_alike : (es fs : List Event) → spawns_of es ≡ spawns_of fs → may_try s fs ≡ true
      → IsReached s.plan (spawned_by s es) (state_behind s fs)
  reached_alike es fs same tried =
      subst (λ (z : List ℕ). IsReached s.plan (spawns_of s.from ++ z) (state_behind s fs)) (sym same) (reached fs tried)

  -- the first events may come at the start, and those that may be tried behind them
  pub first_may : (now : RunState) → now ≡ start s.plan → MayAllHappen now s.from
  first_may now is = may_from s.plan s.from now is sound.may

  pub moves_may : (now : RunState) (es : List Event) → now ≡ first_state s → may_try s es ≡ true → MayAllHappen now es
  moves_may now es is tried =
      let all : MayAllHappen (start s.plan) (s.from ++ es) =
      may_from s.plan (s.from ++ es) (start s.plan) refl (may_all es tried) in
      subst (λ (z : RunState). MayAllHappen z es) (sym is) (may_behind (start s.plan) s.from es all)

  pub all_may : (now : RunState) (es : List Event) → now ≡ start s.plan → may_try s es ≡ true
      → MayAllHappen now (s.from ++ es)
  all_may now es is tried = may_from s.plan (s.from ++ es) now is (may_all es tried)
