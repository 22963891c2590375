-- One event of several, and what is left of them.
use Rattle.std.proofs.Common.{ℕ, ◌≡◌, ◌≤◌, ◌<◌, ◌+◌, Bool, true, false, ◌&&◌, List, [], ◌∷◌, ◌++◌, length, take, drop, get_or, sym, ◌∙◌, ap}
use Rattle.std.proofs.lemmas.Grind.{flat_map-append}
use Rattle.std.proofs.lemmas.List.{append-nil, drop_more, drop_all, take_more, take_all}
use Rattle.ipc_ids.specs.declared.message.Event.{Event}
use Rattle.task_system.specs.Run.{RunState, turn, state_after, MayHappen, MayAllHappen}
use Rattle.run_laws.proofs.RunHistories.{may_now, may_on}
use Rattle.script_reader.specs.Schedule.{tasks_after}
use Rattle.run_words.specs.Reached.{spawn_of, spawns_of}
use Rattle.search_goals.specs.Writing.{tasks_behind}
use Rattle.schedule_search.specs.Search.{may_come, may_all_come}

module _ (events : List Event) (i : ℕ) (e d : Event) (within : i < length events) (is : e ≡ get_or events i d) where
  left_is : drop i events ≡ e ∷ drop (i + 1) events
  left_is = drop_more events i d within ∙ ap (λ (z : Event). z ∷ drop (i + 1) events) (sym is)

  pub may_first : (now : RunState) → MayAllHappen now (drop i events) → MayHappen now e
  may_first now may = may_now now e (drop i events) (drop (i + 1) events) left_is may

  pub may_later : (now next : RunState) → next ≡ (turn now e).state → MayAllHappen now (drop i events) → MayAllHappen next (drop (i + 1) events)
  may_later now next to may = may_on now next e (drop i events) (drop (i + 1) events) left_is to may

  pub state_later : (now next whole : RunState) → next ≡ (turn now e).state → state_after now (drop i events) ≡ whole
      → state_after next (drop (i + 1) events) ≡ whole
  state_later now next whole to h =
      ap (λ (z : RunState). state_after z (drop (i + 1) events)) to ∙ ap (state_after now) (sym left_is) ∙ h

  -- the same of how many tasks there are, and of what may come
  pub tasks_later : (now next whole : ℕ) → next ≡ tasks_after now e → tasks_behind now (drop i events) ≡ whole
      → tasks_behind next (drop (i + 1) events) ≡ whole
  tasks_later now next whole to h =
      ap (λ (n : ℕ). tasks_behind n (drop (i + 1) events)) to ∙ ap (tasks_behind now) (sym left_is) ∙ h

  pub come_later : (now next templates : ℕ) (whole : Bool) → next ≡ tasks_after now e → may_come now templates e ≡ true
      → may_all_come now templates (drop i events) ≡ whole → may_all_come next templates (drop (i + 1) events) ≡ whole
  come_later now next templates whole to may h =
      ap (λ (n : ℕ). may_all_come n templates (drop (i + 1) events)) to
      ∙ ap (λ (b : Bool). b && may_all_come (tasks_after now e) templates (drop (i + 1) events)) (sym may)
      ∙ ap (may_all_come now templates) (sym left_is) ∙ h

  pub come_not : (now templates : ℕ) (whole : Bool) → may_come now templates e ≡ false
      → may_all_come now templates (drop i events) ≡ whole → false ≡ whole
  come_not now templates whole may h =
      ap (λ (b : Bool). b && may_all_come (tasks_after now e) templates (drop (i + 1) events)) (sym may)
      ∙ ap (may_all_come now templates) (sym left_is) ∙ h

  -- and of the templates of tasks that were made
  pub spawns_later : (old new : List ℕ) → old ≡ spawns_of (take i events) → new ≡ old ++ spawn_of e
      → new ≡ spawns_of (take (i + 1) events)
  spawns_later old new so_far pushed =
      pushed
      ∙ ap (λ (z : List ℕ). z ++ spawn_of e) so_far
      ∙ ap (λ (z : List ℕ). spawns_of (take i events) ++ z) (sym (append-nil (spawn_of e)))
      ∙ ap (λ (z : Event). spawns_of (take i events) ++ spawns_of (z ∷ [])) is
      ∙ sym (flat_map-append spawn_of (take i events) (get_or events i d ∷ []))
      ∙ ap spawns_of (sym (take_more events i d within))

module _ (events : List Event) (i : ℕ) (over : length events ≤ i) where
  pub tasks_there : (now whole : ℕ) → tasks_behind now (drop i events) ≡ whole → now ≡ whole
  tasks_there now whole h = ap (tasks_behind now) (sym (drop_all i events over)) ∙ h

  pub come_there : (now templates : ℕ) (whole : Bool) → may_all_come now templates (drop i events) ≡ whole → true ≡ whole
  come_there now templates whole h = ap (may_all_come now templates) (sym (drop_all i events over)) ∙ h

  pub spawns_there : (so_far : List ℕ) → so_far ≡ spawns_of (take i events) → so_far ≡ spawns_of events
  spawns_there so_far is = is ∙ ap spawns_of (take_all i events over)

  pub state_there : (now whole : RunState) → state_after now (drop i events) ≡ whole → now ≡ whole
  state_there now whole h = ap (state_after now) (sym (drop_all i events over)) ∙ h
