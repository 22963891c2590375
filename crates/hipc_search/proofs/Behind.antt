-- Words of a command line that are options, and goals, each behind `--then`.
use Rattle.std.proofs.Common.{◌≡◌, ℕ, ◌-◌, ◌<◌, ◌≤◌, Bool, true, false, List, [], ◌∷◌, length, take, drop, get_or, Option, Some, None, refl, sym, ap, ◌∙◌, arith}
use Rattle.std.specs.Prelude.{codes, is_some, String, string_bytes, if◌then◌else◌}
use Rattle.std.specs.declared.alloc.Global.{Global}
use Rattle.std.specs.Option.{option_map, option_and_then}
use Rattle.std.proofs.lemmas.List.{length-map, length-drop, take_all}
use Rattle.command_line.specs.Command.{texts}
use Rattle.hipc_search.specs.Command.{Asks, Survey, Command, is_then, goals_behind, value_of, later_goals, goals_in, survey_with}
use Rattle.hipc_search.specs.Command.{given, given_or, command_by, command_for, is_option, first_and_others, asks_for, command_with, command_behind, command_of}

-- ---- words at the front

-- what a slice has behind the first
abbrev behind : List (String Global) → List (String Global)
behind words = take (length words - 1) (drop 1 words)

all_behind : (words : List (String Global)) → texts (drop 1 words) ≡ texts (behind words)
all_behind words =
    let long = length-drop 1 words in ap texts (sym (take_all (length words - 1) (drop 1 words) (omega (arith, long))))

first_word : (words : List (String Global)) (first : String Global) (text : List ℕ) → 1 ≤ length words
    → first ≡ get_or words 0 first → text ≡ string_bytes first → texts words ≡ text ∷ texts (drop 1 words)
first_word [] first text l is said = absurd (omega (arith, l))
first_word (w ∷ words) first text l is said =
    ap (λ (t : List ℕ). t ∷ texts words) (sym (said ∙ ap string_bytes is))

pub one_word : (words : List (String Global)) (first : String Global) (text : List ℕ) → 1 ≤ length words
    → first ≡ get_or words 0 first → text ≡ string_bytes first → texts words ≡ text ∷ texts (behind words)
one_word words first text l is said =
    first_word words first text l is said ∙ ap (λ (ts : List (List ℕ)). text ∷ ts) (all_behind words)

-- ---- fewer than two words

few_texts : (words : List (String Global)) → length words < 2 → length (texts words) < 2
few_texts words l = let same = length-map words string_bytes in omega (arith, l, same)

no_value : (name : List ℕ) (ws : List (List ℕ)) → length ws < 2 → None ≡ value_of name ws
no_value name [] l = refl
no_value name (w ∷ []) l = refl
no_value name (w ∷ v ∷ ws) l = absurd (omega (arith, l))

-- none of them is a value
pub value_none : (name : List ℕ) (words : List (String Global)) → length words < 2 → None ≡ value_of name (texts words)
value_none name words l = no_value name (texts words) (few_texts words l)

few_later : (ws : List (List ℕ)) → length ws < 2 → goals_behind ws ≡ later_goals ws
few_later [] l = refl
few_later (w ∷ []) l = refl
few_later (w ∷ v ∷ ws) l = absurd (omega (arith, l))

-- all that are left are goals, or there are none
pub later_left : (words : List (String Global)) → length words < 2 → goals_behind (texts words) ≡ later_goals (texts words)
later_left words l = few_later (texts words) (few_texts words l)

no_goals : (ws : List (List ℕ)) → length ws < 2 → [] ≡ goals_in ws
no_goals [] l = refl
no_goals (w ∷ []) l = refl
no_goals (w ∷ v ∷ ws) l = absurd (omega (arith, l))

-- a survey has none
pub survey_alone : (words : List (String Global)) → length words < 2 → Some Survey ≡ survey_with (goals_in (texts words))
survey_alone words l = ap survey_with (no_goals (texts words) (few_texts words l))

-- ---- words that are goals

one_more : (b : Bool) (goal : List ℕ) (o : Option (List (List ℕ))) (goals : List (List ℕ))
    → (is_some o ≡ true → o ≡ Some goals)
    → is_some (if b then option_map (λ (goals : List (List ℕ)). goal ∷ goals) o else None) ≡ true
    → (if b then option_map (λ (goals : List (List ℕ)). goal ∷ goals) o else None) ≡ Some (goal ∷ goals)
one_more true goal None goals f h = absurd (cc h)
one_more true goal (Some more) goals f h = ap (option_map (λ (goals : List (List ℕ)). goal ∷ goals)) (f refl)
one_more false goal o goals f h = absurd (cc h)

goals_are : (ws : List (List ℕ)) → is_some (goals_behind ws) ≡ true → goals_behind ws ≡ Some (goals_in ws)
goals_are [] h = refl
goals_are (w ∷ []) h = absurd (cc h)
goals_are (w ∷ goal ∷ ws) h = one_more (is_then w) goal (goals_behind ws) (goals_in ws) (goals_are ws) h

pub with_goals : (ws : List (List ℕ)) → is_some (goals_behind ws) ≡ true → Some (goals_in ws) ≡ goals_behind ws
with_goals ws h = sym (goals_are ws h)

-- ---- the command

module _ (script : List ℕ) (asks : Asks) (ws : List (List ℕ)) (kills : Option ℕ) (events states : ℕ) where
  abbrev with_texts : (kill hangup spawn from : Option (List ℕ)) → Option Command
  with_texts kill hangup spawn from =
      Some (record {
        script = script;
        asks = asks;
        kill = kill;
        hangup = hangup;
        spawn = spawn;
        from = from;
        kills = kills;
        events = events;
        states = states;
      })

  abbrev kill_told : Option (List ℕ)
  kill_told = value_of (codes "--kill") ws

  abbrev hangup_told : Option (List ℕ)
  hangup_told = value_of (codes "--hangup") ws

  abbrev spawn_told : Option (List ℕ)
  spawn_told = value_of (codes "--spawn") ws

  abbrev from_told : Option (List ℕ)
  from_told = value_of (codes "--from") ws

  -- the values are those of the options
  texts_read : (kill hangup spawn from : Option (List ℕ)) → kill ≡ kill_told → hangup ≡ hangup_told → spawn ≡ spawn_told
      → from ≡ from_told → with_texts kill hangup spawn from ≡ with_texts kill_told hangup_told spawn_told from_told
  texts_read kill hangup spawn from e f g h =
      ap (λ (t : Option (List ℕ)). with_texts t hangup spawn from) e
      ∙ ap (λ (t : Option (List ℕ)). with_texts kill_told t spawn from) f
      ∙ ap (λ (t : Option (List ℕ)). with_texts kill_told hangup_told t from) g
      ∙ ap (λ (t : Option (List ℕ)). with_texts kill_told hangup_told spawn_told t) h

  abbrev kills_given : Option (Option ℕ)
  kills_given = given 65536 (value_of (codes "--kills") ws)

  abbrev events_given : Option ℕ
  events_given = given_or 10000 64 (value_of (codes "--events") ws)

  abbrev states_given : Option ℕ
  states_given = given_or 100000000 1000000 (value_of (codes "--states") ws)

  numbers_read : Some kills ≡ kills_given → Some events ≡ events_given → Some states ≡ states_given
      → Some (command_by script asks ws kills events states) ≡ command_for script asks ws
  unfolding command_for
  numbers_read e f g =
      ap (λ (o : Option ℕ). option_map (λ (n : ℕ). command_by script asks ws kills events n) o) g
      ∙ ap
      (λ (o : Option ℕ). option_and_then
      (λ (m : ℕ). option_map (λ (n : ℕ). command_by script asks ws kills m n) states_given) o)
      f
      ∙ ap
      (λ (o : Option (Option ℕ)). option_and_then
      (λ (k : Option ℕ). option_and_then
      (λ (m : ℕ). option_map (λ (n : ℕ). command_by script asks ws k m n) states_given) events_given) o)
      e

  -- what the options say was read
  pub options_read : (kill hangup spawn from : Option (List ℕ)) → kill ≡ kill_told → hangup ≡ hangup_told
      → spawn ≡ spawn_told → from ≡ from_told → Some kills ≡ kills_given → Some events ≡ events_given
      → Some states ≡ states_given → with_texts kill hangup spawn from ≡ command_for script asks ws
  options_read kill hangup spawn from e f g h k m n =
      texts_read kill hangup spawn from e f g h ∙ numbers_read k m n

-- what the words behind the name of a script ask was read
pub command_is : (script : List ℕ) (words : List (List ℕ)) (behind : List ℕ × List (List ℕ)) (later : List (List ℕ))
    (asks : Asks) (command : Option Command) → is_option script ≡ false → behind ≡ first_and_others words
    → Some later ≡ later_goals behind.1 → Some asks ≡ asks_for behind.0 later
    → command ≡ command_for script asks behind.1 → command ≡ command_of (script ∷ words)
command_is script words behind later asks command plain is more asked same =
    same
    ∙ ap (λ (o : Option Asks). option_and_then (λ (a : Asks). command_for script a behind.1) o) asked
    ∙ ap (λ (o : Option (List (List ℕ))). option_and_then (command_with script behind) o) more
    ∙ ap (command_behind script) is
    ∙ ap (λ (b : Bool). if b then None else command_behind script (first_and_others words)) (sym plain)
