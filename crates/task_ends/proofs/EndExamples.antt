-- The law of ends at work on short lists of entries: one that keeps it, and some that break it. Task 1
-- is the naming service, task 3 introduces itself, and task 2 waits for its end.
use Rattle.std.proofs.Common.{◌≡◌, ℕ, List, [], ◌∷◌, ◌++◌, Some, refl, sym, subst, ap, inl, inr, arith}
use Rattle.std.specs.Prelude.{get_or}
use Rattle.ipc_ids.specs.declared.numbers.TaskNo.{TaskNo}
use Rattle.ipc_ids.specs.declared.numbers.Label.{Label}
use Rattle.ipc_ids.specs.declared.message.Reply.{Reply}
use Rattle.ipc_ids.specs.declared.message.Request.TheVariants as request
use Rattle.ipc_ids.specs.declared.message.Outcome.TheVariants as outcome
use Rattle.ipc_ids.specs.declared.entry.Entry.{Entry}
use Rattle.ipc_ids.specs.declared.entry.Entry.TheVariants as entry
use Rattle.ipc_ids.specs.Codes.{eok}
use Rattle.ipc_ids.specs.Methods.{phone_hungup}
use Rattle.ipc_ids.specs.Doings.{Asks, Told, doings, Came}
use Rattle.task_ends.specs.EndLaw.{introduce_self, leave_value, wait_for, story, TellsEnd, EndsWereLawful, WaitersGetTheSameEnd}
use Rattle.ipc_ids.proofs.KeptCalls.{doings_served}
use Rattle.task_ends.proofs.LawfulEnds.{waiters_are_told}
use Rattle.task_ends.proofs.LeftEnds.{left_is_told}

abbrev names : TaskNo
names = record { 0 = 1 }

abbrev label_of : (task phone : ℕ) → Label
label_of task phone = record { task = record { 0 = task }; phone = record { 0 = phone } }

-- the naming service receives call n, with this method and this first argument
abbrev receives : ℕ → Label → (method first : ℕ) → List Entry
receives n from method first =
    entry.Head names request.Receive
    ∷ entry.Received (record { 0 = n }) names
    ∷ entry.Outcome (outcome.Received (record { 0 = n }) (record { method = method; args = first ∷ 0 ∷ 0 ∷ 0 ∷ 0 ∷ [] }) from)
    ∷ []

abbrev end_of : (has value : ℕ) → Reply
end_of has value = record { code = eok; args = has ∷ value ∷ 0 ∷ 0 ∷ 0 ∷ [] }

-- it answers call 4 with success, and tells of this end
abbrev tells : (has value : ℕ) → List Entry
tells has value =
    entry.Head names (request.Answer 4 (end_of has value))
    ∷ entry.Answered (record { 0 = 4 }) (end_of has value) (Some names)
    ∷ entry.Outcome outcome.Done
    ∷ []

-- a task introduces itself
abbrev introduced : (n task : ℕ) → List Entry
introduced n task = receives n (label_of task 0) introduce_self 0

-- task 2 waits for the end of task 3
abbrev waits : List Entry
waits = receives 4 (label_of 2 0) wait_for 3

-- a task leaves a value
abbrev leaves : (n task value : ℕ) → List Entry
leaves n task value = receives n (label_of task 0) leave_value value

-- a phone of task 3 is hung up
abbrev hangs_up : (phone : ℕ) → List Entry
hangs_up phone = receives 9 (label_of 3 phone) phone_hungup 0

-- task 3 introduces itself, task 2 waits for it, and it leaves 42
abbrev alive : List Entry
alive = introduced 3 3 ++ (waits ++ leaves 5 3 42)

-- then it ends
abbrev ended : List Entry
ended = alive ++ hangs_up 0

-- who waits for it is told of 42
keeps_the_law : WaitersGetTheSameEnd 1 (ended ++ tells 1 42)
keeps_the_law = waiters_are_told (doings 1 (ended ++ tells 1 42)) lawful where
  awaited : (w : ℕ) → Came wait_for 4 w (doings 1 ended) → 3 ≡ w
  awaited w came = grind arith

  told : (w : ℕ) → eok ≡ eok → Came wait_for 4 w (doings 1 ended) → TellsEnd (end_of 1 42).args (story w (doings 1 ended))
  told w ok came = subst (λ (v : ℕ). TellsEnd (end_of 1 42).args (story v (doings 1 ended))) (awaited w came) (refl, refl)

  lawful : EndsWereLawful (doings 1 (ended ++ tells 1 42))
  lawful = grind (arith, told)

-- where the call came, and the doings before its answer tell no such end, the law is broken
breaks : (before : List Entry) (has value : ℕ) → Came wait_for 4 3 (doings 1 before) → (TellsEnd (end_of has value).args (story 3 (doings 1 before)) → ⊥)
    → WaitersGetTheSameEnd 1 (before ++ tells has value) → ⊥
breaks before has value came wrong law =
    let asked = request.Answer 4 (end_of has value) in
    let at : doings 1 (before ++ tells has value) ≡ Told outcome.Done ∷ (Asks asked ∷ doings 1 before) =
    doings_served before (entry.Answered (record { 0 = 4 }) (end_of has value) (Some names) ∷ []) [] 1 names asked outcome.Done (refl, tt) tt in
    let came_before = subst (Came wait_for 4 3) (sym at) (inr (inr came)) in
    wrong (left_is_told 3 (doings 1 before) (end_of has value).args
    (law (Told outcome.Done ∷ []) (doings 1 before) 4 3 has value (end_of has value) at refl came_before))

abbrev told_value : List ℕ → ℕ
told_value args = get_or args 1 0

-- who waits is told before the hangup
answer_before_the_hangup : WaitersGetTheSameEnd 1 (alive ++ tells 1 42) → ⊥
answer_before_the_hangup = breaks alive 1 42 (inr (inr (inl (refl, refl, refl)))) (λ it. absurd (cc it.0))

-- who waits for task 3 is told of 7, which task 4 left
abbrev another_leaves : List Entry
another_leaves = introduced 6 4 ++ (leaves 7 4 7 ++ ended)

value_of_another_task : WaitersGetTheSameEnd 1 (another_leaves ++ tells 1 7) → ⊥
value_of_another_task = breaks another_leaves 1 7 (inr (inr (inr (inr (inl (refl, refl, refl)))))) (λ it. let e : 7 ≡ 42 = ap told_value it.1 in omega arith)

-- who waits is told of 43, which was left when the task had ended
abbrev leaves_later : List Entry
leaves_later = ended ++ leaves 6 3 43

value_left_after_the_end : WaitersGetTheSameEnd 1 (leaves_later ++ tells 1 43) → ⊥
value_left_after_the_end = breaks leaves_later 1 43 (inr (inr (inr (inr (inr (inr (inl (refl, refl, refl)))))))) (λ it. let e : 43 ≡ 42 = ap told_value it.1 in omega arith)

-- the phone that is hung up is not the one over which the task introduced itself
abbrev other_phone : List Entry
other_phone = alive ++ hangs_up 1

end_with_another_label : WaitersGetTheSameEnd 1 (other_phone ++ tells 1 42) → ⊥
end_with_another_label = breaks other_phone 1 42 (inr (inr (inr (inr (inl (refl, refl, refl)))))) (λ it. absurd (cc it.0))

-- task 3 leaves a value and hangs up, and never introduced itself
abbrev unknown : List Entry
unknown = waits ++ (leaves 5 3 42 ++ hangs_up 0)

end_of_an_unknown_task : WaitersGetTheSameEnd 1 (unknown ++ tells 1 42) → ⊥
end_of_an_unknown_task = breaks unknown 1 42 (inr (inr (inr (inr (inl (refl, refl, refl)))))) (λ it. it)
