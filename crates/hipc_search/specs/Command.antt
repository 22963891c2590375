-- Which search the words of a command line ask for.
use Rattle.std.specs.Prelude.{ℕ, List, [], ◌∷◌, ◌++◌, Bool, false, not, ◌||◌, Option, None, Some, codes, nat_eq, nat_le, if◌then◌else◌}
use Rattle.std.specs.List.{list_any, starts_with}
use Rattle.std.specs.Option.{option_map, option_and_then}
use Rattle.std.specs.Str.{bytes_eq}
use Rattle.command_line.specs.Command.{texts}
use Rattle.script_lines.specs.Word.{number}
use Rattle.hipc_search.specs.declared.command.Asks.{Asks as GivenAsks}
use Rattle.hipc_search.specs.declared.command.Asks.TheVariants as asked
use Rattle.hipc_search.specs.declared.command.Command.{Command as GivenCommand}

abbrev pub is_then : List ℕ → Bool
is_then word = bytes_eq word (codes "--then")

-- the goals of words that are `--then` and a goal, again and again
abbrev pub goals_behind : List (List ℕ) → Option (List (List ℕ))
goals_behind [] = Some []
goals_behind (word ∷ []) = None
goals_behind (word ∷ goal ∷ others) =
    if is_then word then option_map (λ goals. goal ∷ goals) (goals_behind others) else None

-- ---- the options

-- for the tasks that may be killed, the phones that may be hung up, the templates of which tasks may be made, the file
-- of the events that come first, how many kills there may be, how many events behind the first, and how many states
abbrev pub option_names : List (List ℕ)
option_names =
    codes "--kill"
    ∷ codes "--hangup"
    ∷ codes "--spawn"
    ∷ codes "--from"
    ∷ codes "--kills"
    ∷ codes "--events"
    ∷ codes "--states"
    ∷ []

-- a word is the name of an option
unfoldable pub is_known : List ℕ → Bool
is_known word = list_any (λ name. bytes_eq name word) option_names

-- what stands behind the option of this name, of words that are options, each with its value behind it, and then goals
abbrev pub value_of : (name : List ℕ) → List (List ℕ) → Option (List ℕ)
value_of name [] = None
value_of name (option ∷ []) = None
value_of name (option ∷ value ∷ others) =
    if is_then option then None else (if bytes_eq option name then Some value else value_of name others)

-- an option is known, and comes once; `again` is its value among the words behind it, where it comes there too
abbrev pub comes_once : (option : List ℕ) → (again : Option (List ℕ)) → Bool
comes_once option None = is_known option
comes_once option (Some value) = false

-- the goals behind words that are options, each of which is known, comes once and has its value behind it
abbrev pub later_goals : List (List ℕ) → Option (List (List ℕ))
later_goals [] = Some []
later_goals (option ∷ []) = None
later_goals (option ∷ value ∷ others) =
    if is_then option then goals_behind (option ∷ value ∷ others)
    else (if comes_once option (value_of option others) then later_goals others else None)

-- ---- the command

-- what is asked of the schedules: the first that meets the goals of these texts in turn, or each state at rest
pub data Asks : Type 0 where
  Goals : (first : List ℕ) (later : List (List ℕ)) → Asks
  Survey : Asks

-- the texts of goals as a comment has them
abbrev pub goals_text : (first : List ℕ) (later : List (List ℕ)) → List ℕ
goals_text first [] = first
goals_text first (goal ∷ later) = goals_text (first ++ (codes ", then " ++ goal)) later

-- what is searched: the script by the name of its file, what is asked, and what the options say, where the numbers of
-- events and of states are there
pub record Command : Type 0 where
  pub script : List ℕ
  pub asks : Asks
  pub kill : Option (List ℕ)
  pub hangup : Option (List ℕ)
  pub spawn : Option (List ℕ)
  pub from : Option (List ℕ)
  pub kills : Option ℕ
  pub events : ℕ
  pub states : ℕ

-- a number of at most so many
abbrev pub up_to : ℕ → Option ℕ → Option ℕ
up_to most None = None
up_to most (Some n) = if nat_le n most then Some n else None

-- the number that the value of an option spells, of at most so many; another where the option does not come
abbrev pub given_or : (most other : ℕ) → Option (List ℕ) → Option ℕ
given_or most other None = Some other
given_or most other (Some value) = up_to most (number value)

-- the same, or none where the option does not come
abbrev pub given : ℕ → Option (List ℕ) → Option (Option ℕ)
given most None = Some None
given most (Some value) = option_map (λ n. Some n) (up_to most (number value))

-- with these numbers, and the values of the other options among the words
abbrev pub command_by : List ℕ → Asks → List (List ℕ) → Option ℕ → (events states : ℕ) → Command
command_by script asks words kills events states =
    record {
      script = script;
      asks = asks;
      kill = value_of (codes "--kill") words;
      hangup = value_of (codes "--hangup") words;
      spawn = value_of (codes "--spawn") words;
      from = value_of (codes "--from") words;
      kills = kills;
      events = events;
      states = states;
    }

-- at most 65,536 kills, or any number; at most 10,000 events, or 64; at most 100,000,000 states, or 1,000,000
unfoldable pub command_for : List ℕ → Asks → List (List ℕ) → Option Command
command_for script asks words =
    option_and_then
    (λ kills. option_and_then
    (λ events. option_map
    (λ states. command_by script asks words kills events states)
    (given_or 100000000 1000000 (value_of (codes "--states") words)))
    (given_or 10000 64 (value_of (codes "--events") words)))
    (given 65536 (value_of (codes "--kills") words))

-- an option begins so, and nothing else does
abbrev pub is_option : List ℕ → Bool
is_option word = starts_with nat_eq word (codes "--")

-- a word that says what is asked: a goal, or `--survey`
abbrev pub is_asked : List ℕ → Bool
is_asked word = bytes_eq word (codes "--survey") || not (is_option word)

-- the word that says what is asked, where the words begin with one, else `lost`; and the words that are left
abbrev pub first_and_others : List (List ℕ) → List ℕ × List (List ℕ)
first_and_others [] = (codes "lost", [])
first_and_others (word ∷ words) = if is_asked word then (word, words) else (codes "lost", word ∷ words)

-- a survey, behind which no goals come
abbrev pub survey_with : (later : List (List ℕ)) → Option Asks
survey_with [] = Some Survey
survey_with (goal ∷ later) = None

-- what is asked by that word, and by the goals that come later
abbrev pub asks_for : (first : List ℕ) (later : List (List ℕ)) → Option Asks
asks_for first later = if bytes_eq first (codes "--survey") then survey_with later else Some (Goals first later)

-- for the name of a script, the word that says what is asked, options, and the goals behind them
abbrev pub command_with : List ℕ → List ℕ × List (List ℕ) → List (List ℕ) → Option Command
command_with script words later =
    option_and_then (λ asks. command_for script asks words.1) (asks_for words.0 later)

-- likewise, where the options have goals behind them
abbrev pub command_behind : List ℕ → List ℕ × List (List ℕ) → Option Command
command_behind script words = option_and_then (command_with script words) (later_goals words.1)

-- the words are `SCRIPT`, `SCRIPT GOAL` or `SCRIPT --survey`, options, and then goals, each behind `--then`; or they are
-- no command
abbrev pub command_of : List (List ℕ) → Option Command
command_of [] = None
command_of (script ∷ words) = if is_option script then None else command_behind script (first_and_others words)

-- of words, each second: what stands behind each `--then`
abbrev pub goals_in : List (List ℕ) → List (List ℕ)
goals_in [] = []
goals_in (word ∷ []) = []
goals_in (word ∷ goal ∷ others) = goal ∷ goals_in others

abbrev pub said_asks : GivenAsks → Asks
said_asks (asked.Goals first later) = Goals first.now (goals_in (texts later.now))
said_asks asked.Survey = Survey

abbrev pub said : GivenCommand → Command
said c =
    record {
      script = c.script.now;
      asks = said_asks c.asks;
      kill = option_map (λ w. w.now) c.kill;
      hangup = option_map (λ w. w.now) c.hangup;
      spawn = option_map (λ w. w.now) c.spawn;
      from = option_map (λ w. w.now) c.from;
      kills = c.kills;
      events = c.events;
      states = c.states;
    }
