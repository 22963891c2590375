-- The lines that are answered where no schedule is.
use Rattle.std.specs.Prelude.{ℕ, ◌==◌, ◌++◌, List, codes, decimal, if◌then◌else◌}
use Rattle.script_lines.specs.declared.fault.Reason.{Reason}
use Rattle.script_lines.specs.Text.{text_of_reason}

-- the line for words that are no command
abbrev pub usage_line : List ℕ
usage_line =
    codes "usage: hipc-search SCRIPT [GOAL | --survey] [--kill NAME,..] [--kills N] "
    ++ codes "[--hangup NAME.PHONE,..] [--spawn TEMPLATE:N,..] [--from SCHEDULE] [--events N] [--states N] "
    ++ codes "[--then GOAL]..\n"

-- the line of a first fault: where it is, as `script line` or `goal word`, the number, and the reason
abbrev pub fault_line : List ℕ → ℕ × Reason → List ℕ
fault_line place fault =
    place ++ codes " " ++ decimal fault.0 ++ codes ": " ++ text_of_reason fault.1 ++ codes "\n"

-- where a goal is at fault: the first, or one behind `--then`, which has a number
abbrev pub goal_place : ℕ → List ℕ
goal_place n = if n == 1 then codes "goal word" else codes "goal " ++ decimal n ++ codes " word"

-- nothing leads to what is looked for, and there are so many states
abbrev pub none_line : ℕ → List ℕ
none_line states = codes "# none, of any length: " ++ decimal states ++ codes " states\n"

abbrev pub none_within_start : ℕ → List ℕ
none_within_start most = codes "# none within " ++ decimal most ++ codes " events: "

abbrev pub states_end : ℕ → List ℕ
states_end states = decimal states ++ codes " states\n"

-- no schedule of so many events does; so many states were seen
abbrev pub none_within_line : (most states : ℕ) → List ℕ
none_within_line most states = none_within_start most ++ states_end states

-- there are more states than so many, and nothing is known
abbrev pub not_known_line : ℕ → List ℕ
not_known_line room = codes "# not known: more than " ++ decimal room ++ codes " states\n"
