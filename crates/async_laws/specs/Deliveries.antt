-- An event of a task has the answer of a call as its outcome exactly where the answer is delivered
-- to the task in it.
use Rattle.std.specs.Prelude.{ℕ, ◌≡◌, ◌==◌, ◌&&◌, Bool, true, false, if◌then◌else◌, List, [], ◌∷◌, ⊤}
use Rattle.std.specs.List.{list_any}
use Rattle.ipc_ids.specs.declared.message.Outcome.{Outcome}
use Rattle.ipc_ids.specs.declared.message.Outcome.TheVariants as outcome
use Rattle.ipc_ids.specs.declared.entry.Entry.{Entry}
use Rattle.ipc_ids.specs.declared.entry.Entry.TheVariants as entry

-- whether an event begins with the entry
abbrev pub is_head : Entry → Bool
is_head (entry.Head u asked) = true
is_head (entry.Kill u) = true
is_head (entry.Gone u) = true
is_head (entry.Spawn u) = true
is_head _ = false

-- whether an event of task t does
abbrev pub is_head_of : ℕ → Entry → Bool
is_head_of t (entry.Head u asked) = u.0 == t
is_head_of t (entry.Kill u) = u.0 == t
is_head_of t (entry.Gone u) = u.0 == t
is_head_of t (entry.Spawn u) = u.0 == t
is_head_of t _ = false

-- the first entries, up to the head of the next event
abbrev pub rest_of_event : List Entry → List Entry
rest_of_event [] = []
rest_of_event (e ∷ es) = if is_head e then [] else e ∷ rest_of_event es

-- whether the outcome is the answer of call n
abbrev pub is_answer : ℕ → Outcome → Bool
is_answer n (outcome.Answered m reply) = m.0 == n
is_answer n _ = false

-- whether the entry is that outcome
abbrev pub tells_answer : ℕ → Entry → Bool
tells_answer n (entry.Outcome o) = is_answer n o
tells_answer n _ = false

-- whether the entry says that the answer of call n is delivered to task t
abbrev pub is_delivered_to : ℕ → ℕ → Entry → Bool
is_delivered_to t n (entry.Delivered m u) = (m.0 == n) && (u.0 == t)
is_delivered_to t n _ = false

-- the answer of a call is an outcome among these entries exactly where it is delivered to task t
-- among them
abbrev pub AgreeOnAnswers : ℕ → List Entry → Type 0
AgreeOnAnswers t es = (n : ℕ) → list_any (tells_answer n) es ≡ list_any (is_delivered_to t n) es

-- so it is in each event of task t
abbrev pub AnswersAreDelivered : ℕ → List Entry → Type 0
AnswersAreDelivered t [] = ⊤
AnswersAreDelivered t (e ∷ es) =
    (is_head_of t e ≡ true → AgreeOnAnswers t (rest_of_event es)) × AnswersAreDelivered t es
