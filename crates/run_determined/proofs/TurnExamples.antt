-- The law of turns at work on short lists, of a script with one task: one that keeps it, and lists of wrong machines.
use Rattle.std.proofs.Common.{ℕ, suc, ◌≡◌, ◌≤◌, ◌++◌, List, [], ◌∷◌, refl, subst, arith}
use Rattle.route_laws.proofs.PhoneExamples.{apart}
use Rattle.ipc_ids.specs.declared.numbers.TaskNo.{TaskNo}
use Rattle.ipc_ids.specs.declared.numbers.Label.{Label}
use Rattle.ipc_ids.specs.declared.message.PhoneState.TheVariants.{Connected}
use Rattle.ipc_ids.specs.declared.message.Request.TheVariants as request
use Rattle.ipc_ids.specs.declared.message.Outcome.TheVariants as outcome
use Rattle.ipc_ids.specs.declared.entry.Entry.{Entry}
use Rattle.ipc_ids.specs.declared.entry.Entry.TheVariants as entry
use Rattle.run_determined.specs.TasksInTurn.{IsOneOf, TasksComeInTurn}

abbrev task : ℕ → TaskNo
task t = record { 0 = t }

abbrev phone : ℕ → Label
phone t = record { task = task t; phone = record { 0 = 0 } }

-- an event in which nothing is asked
abbrev rests : ℕ → List Entry
rests t = entry.Head (task t) request.Nothing ∷ entry.Outcome outcome.Done ∷ []

-- task t is made, and its phone 0 leads to task 1
abbrev spawns : ℕ → List Entry
spawns t = entry.Spawn (task t) ∷ entry.PhoneIs (phone t) (Connected (task 1)) ∷ []

one_of : (n t u : ℕ) → u ≡ t → 1 ≤ u → u ≤ n → IsOneOf n t
one_of n t u same some few = subst (IsOneOf n) same (some, few)

-- the first entry comes in its turn, and so do the others
first_of : {A B : Type 0} → A → B → A × B
first_of a b = (a, b)

in_turn : TasksComeInTurn 1 (rests 1 ++ (spawns 2 ++ rests 2))
in_turn =
    first_of (λ t is. one_of 1 t 1 is (omega arith) (omega arith))
    (first_of (λ t is. absurd is) (first_of refl
    (first_of (λ t is. one_of 2 t 2 is (omega arith) (omega arith))
    (first_of (λ t is. one_of 2 t 2 is (omega arith) (omega arith)) (first_of (λ t is. absurd is) tt)))))

too_many : (n t : ℕ) → suc n ≤ t → IsOneOf n t → ⊥
too_many n t more it = let few : t ≤ n = it.1 in omega (arith, more, few)

-- an event of a task stands before the one that makes it
an_event_before : TasksComeInTurn 1 (rests 2 ++ spawns 2) → ⊥
an_event_before l = too_many 1 2 (omega arith) (l.0 2 refl)

-- likewise a state of its phone
a_phone_before : TasksComeInTurn 1 (rests 1 ++ (entry.PhoneIs (phone 2) (Connected (task 1)) ∷ (spawns 2))) → ⊥
a_phone_before l = too_many 1 2 (omega arith) (l.1.1.0 2 refl)

-- or what is told of a call
a_call_before : TasksComeInTurn 1
    (entry.Head (task 1) request.Receive ∷ entry.Delivered (record { 0 = 1 }) (task 2) ∷ spawns 2) → ⊥
a_call_before l = too_many 1 2 (omega arith) (l.1.0 2 refl)

-- a number is skipped, or given twice
a_number_skipped : TasksComeInTurn 1 (spawns 3) → ⊥
a_number_skipped l = apart 3 2 l.0 refl

a_number_twice : TasksComeInTurn 1 (spawns 2 ++ spawns 2) → ⊥
a_number_twice l = apart 2 3 l.1.1.0 refl
