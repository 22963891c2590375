-- What the code has of the lists of a command: kills, hangups, and how many tasks are made from a template at most.
use Rattle.std.specs.Prelude.{ℕ, ◌≡◌, ⊤, List, Result, Ok, Err, codes}
use Rattle.ipc_ids.specs.declared.message.Event.{Event}
use Rattle.script_lines.specs.declared.fault.Reason.{Reason}
use Rattle.search_goals.specs.declared.goal.GoalFault.{GoalFault}
use Rattle.search_goals.specs.declared.goal.GoalFault.TheVariants as words
use Rattle.schedule_search.specs.declared.problem.MostMade.{MostMade}
use Rattle.hipc_search.specs.declared.lists.ListName.{ListName}
use Rattle.hipc_search.specs.declared.lists.ListName.TheVariants.{Kill, Hangup, Spawn}
use Rattle.hipc_search.specs.declared.lists.Lists.{Lists}
use Rattle.hipc_search.specs.declared.lists.ListsFault.{ListsFault}
use Rattle.hipc_search.specs.declared.lists.ListsFault.TheVariants.{Bad, NoMemory}

-- where a list is at fault
abbrev pub list_place : ListName → List ℕ
list_place Kill = codes "kill word"
list_place Hangup = codes "hangup word"
list_place Spawn = codes "spawn word"

-- what the code has, where this list is at fault
abbrev pub list_fault : ListName → GoalFault → ListsFault
list_fault list (words.Bad word reason) = Bad list word reason
list_fault list words.NoMemory = NoMemory

-- this list is the first at fault, and that is its first fault
abbrev pub IsListFault : (killed hangups : Result (List Event) (ℕ × Reason)) → Result (List MostMade) (ℕ × Reason)
    → ListName → ℕ × Reason → Type 0
IsListFault killed hangups bounds Kill fault = killed ≡ Err fault
IsListFault killed hangups bounds Hangup fault =
    (listed : List Event) × (killed ≡ Ok listed) × (hangups ≡ Err fault)
IsListFault killed hangups bounds Spawn fault =
    (listed more : List Event) × (killed ≡ Ok listed) × (hangups ≡ Ok more) × (bounds ≡ Err fault)

-- the answer is what the lists say, unless memory ran out
abbrev pub AnswersLists : Result Lists ListsFault → (killed hangups : Result (List Event) (ℕ × Reason))
    → Result (List MostMade) (ℕ × Reason) → Type 0
AnswersLists (Ok lists) killed hangups bounds =
    (killed ≡ Ok lists.killed.items) × (hangups ≡ Ok lists.hangups.items) × (bounds ≡ Ok lists.bounds.items)
AnswersLists (Err (Bad list word reason)) killed hangups bounds = IsListFault killed hangups bounds list (word, reason)
AnswersLists (Err NoMemory) killed hangups bounds = ⊤
