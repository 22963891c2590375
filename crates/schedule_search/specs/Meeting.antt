-- When events lead to what a search looks for.
use Rattle.std.specs.Prelude.{ℕ, ◌≡◌, Bool, true, ◌&&◌, List, [], ◌∷◌, ◌++◌, length, nat_eq}
use Rattle.std.specs.Cmp.Lexicographic.{pointwise}
use Rattle.std.specs.List.{list_all, range_with_len}
use Rattle.ipc_ids.specs.declared.entry.Entry.{Entry}
use Rattle.ipc_ids.specs.declared.message.Event.{Event}
use Rattle.ipc_ids.specs.declared.message.Event.TheVariants.{Step}
use Rattle.task_system.specs.Run.{RunState, turn, state_after}
use Rattle.run_words.specs.RunWords.{run_words}
use Rattle.search_goals.specs.Goals.{meets_line}
use Rattle.search_goals.specs.GoalText.{Asked, LosesCall, IsRest, IsStuck, HoldAll, HasLine}
use Rattle.schedule_search.specs.Holding.{all_hold}
use Rattle.schedule_search.specs.Search.{Search, Made, first_state, last_told}
use Rattle.schedule_search.specs.OpenCalls.{has_open_call}
use Rattle.schedule_search.specs.Lost.{HasLostCall}

-- a step of this task changes nothing but counters, and stamps of one order: the words of the state are the same
abbrev pub changes_nothing : RunState → ℕ → Bool
changes_nothing now t = pointwise nat_eq (run_words (turn now (Step (record { 0 = t }))).state) (run_words now)

-- no step of any task does; one of a task that has ended never does
abbrev pub is_at_rest : RunState → Bool
is_at_rest now = list_all (changes_nothing now) (range_with_len 1 (length now.kernel.tasks.alive))

-- what is looked for is in this state, or in the entries of the event that led there
abbrev pub IsMet : Asked → RunState → List Entry → Type 0
IsMet LosesCall now told = HasLostCall now
IsMet IsRest now told = is_at_rest now ≡ true
IsMet (IsStuck task) now told = (has_open_call task now.kernel.calls && is_at_rest now) ≡ true
IsMet (HoldAll conditions) now told = all_hold conditions now ≡ true
IsMet (HasLine head asked) now told = meets_line head asked told ≡ true

-- behind a state and the entries of the event that led there, events lead to what is looked for, and before that, in
-- turn, to each of these: some of the events lead to the first of them, and those behind them to the others. Of the
-- entries that were told by then none counts any more, so a line is one of a later event; a state may be the same
abbrev pub MeetInTurn : (earlier : List Asked) (asked : Asked) → RunState → List Entry → List Event → Type 0
MeetInTurn [] asked now told es = IsMet asked (state_after now es) (last_told told now es)
MeetInTurn (goal ∷ earlier) asked now told es =
    (some : List Event) × (others : List Event) × (some ++ others ≡ es)
    × IsMet goal (state_after now some) (last_told told now some)
    × MeetInTurn earlier asked (state_after now some) [] others

-- these events lead to what is looked for
abbrev pub Meets : Search → List Event → Type 0
Meets s es = MeetInTurn s.earlier s.asked (first_state s) [] es

-- a search may try these events, and they lead to what is looked for
pub record Finds (s : Search) (es : List Event) : Type 0 where
  pub made : Made s es
  pub met : Meets s es
