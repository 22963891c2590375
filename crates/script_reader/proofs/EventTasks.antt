-- An event that a line names is on a task whose name is known.
use Rattle.std.proofs.Common.{◌≡◌, ℕ, suc, ◌+◌, ◌≤◌, ◌<◌, List, [], ◌∷◌, length, Option, Some, None, Ok, refl, sym, ap, subst, arith}
use Rattle.std.specs.Prelude.{All, option_map}
use Rattle.std.specs.Option.{ok_or}
use Rattle.std.specs.Str.{bytes_eq}
use Rattle.std.proofs.lemmas.List.Quantifiers.{position-Some}
use Rattle.ipc_ids.specs.declared.numbers.TaskNo.{TaskNo}
use Rattle.ipc_ids.specs.declared.message.Event.{Event}
use Rattle.ipc_ids.specs.declared.message.Event.TheVariants as events
use Rattle.script_lines.specs.declared.fault.Reason.TheVariants.{UnknownName}
use Rattle.script_lines.specs.Names.{task_named, place_of}
use Rattle.script_lines.specs.Operation.{needed}
use Rattle.script_reader.specs.Schedule.{MayCome, MayAllCome, tasks_after, task_of_event, count_of, step_with, step_of, kill_of, hangup_of}
use Rattle.script_lines.specs.Sound.{IsTask}
use Rattle.script_lines.specs.Word.{name_of, number}
use Rattle.script_lines.proofs.Faultless.{then_ok, found_is}
use Rattle.script_lines.proofs.Soundness.{made_is}

-- ---- the task of one event

-- an event on one of so many tasks
abbrev pub IsOn : ℕ → Event → Type 0
IsOn count event = IsTask count (task_of_event event).0

numbered : (count : ℕ) (o : Option ℕ) (t : TaskNo) → ((i : ℕ) → o ≡ Some i → i < count) → option_map (λ place. record { 0 = place + 1 }) o ≡ Some t → IsTask count t.0
numbered count None t within e = absurd cc
numbered count (Some i) t within e =
    let is : i + 1 ≡ t.0 = ap (λ (o : Option TaskNo). number_of o) e in
    let below = within i refl in
    (omega (arith, is), omega (arith, is, below)) where
      number_of : Option TaskNo → ℕ
      number_of None = 0
      number_of (Some n) = n.0

named_is_task : (names : List (List ℕ)) (name : List ℕ) (t : TaskNo) → task_named names name ≡ Some t → IsTask (length names) t.0
unfolding task_named
named_is_task names name t e =
    numbered (length names) (place_of names name) t (λ i is. (position-Some (λ known. bytes_eq name known) names i [] is).0) e

step_on : (names : List (List ℕ)) (name : List ℕ) (count : Option ℕ) (x : Event × ℕ) → step_with names name count ≡ Ok x → IsOn (length names) x.0
unfolding step_with
step_on names name count x e =
    let known = then_ok (needed (name_of name)) _ x e in
    let counted = then_ok (needed count) _ x known.2 in
    let found = then_ok (ok_or (task_named names known.0) UnknownName) _ x counted.2 in
    subst (λ (y : Event × ℕ). IsOn (length names) y.0) (made_is _ x found.2) (named_is_task names known.0 found.0 (found_is _ found.0 found.1))

pub steps_on : (names words : List (List ℕ)) (x : Event × ℕ) → step_of names words ≡ Ok x → IsOn (length names) x.0
unfolding step_of
steps_on names (name ∷ []) x e = step_on names name (Some 1) x e
steps_on names (name ∷ times ∷ count ∷ []) x e = step_on names name (count_of times count) x e
steps_on names _ x e = absurd cc

pub kill_on : (names words : List (List ℕ)) (x : Event × ℕ) → kill_of names words ≡ Ok x → IsOn (length names) x.0
unfolding kill_of
kill_on names (name ∷ []) x e =
    let known = then_ok (needed (name_of name)) _ x e in
    let found = then_ok (ok_or (task_named names known.0) UnknownName) _ x known.2 in
    subst (λ (y : Event × ℕ). IsOn (length names) y.0) (made_is _ x found.2) (named_is_task names known.0 found.0 (found_is _ found.0 found.1))
kill_on names _ x e = absurd cc

pub hangup_on : (names words : List (List ℕ)) (x : Event × ℕ) → hangup_of names words ≡ Ok x → IsOn (length names) x.0
unfolding hangup_of
hangup_on names (name ∷ phone ∷ []) x e =
    let known = then_ok (needed (name_of name)) _ x e in
    let numbered = then_ok (needed (number phone)) _ x known.2 in
    let found = then_ok (ok_or (task_named names known.0) UnknownName) _ x numbered.2 in
    subst (λ (y : Event × ℕ). IsOn (length names) y.0) (made_is _ x found.2) (named_is_task names known.0 found.0 (found_is _ found.0 found.1))
hangup_on names _ x e = absurd cc

-- ---- what may come

-- an event on a task may come, and makes none
pub may_on : (n t : ℕ) (e : Event) → IsTask n (task_of_event e).0 → MayCome n t e × (tasks_after n e ≡ n)
may_on n t (events.Step task) on = (on, refl)
may_on n t (events.Kill task) on = (on, refl)
may_on n t (events.Hangup task phone) on = (on, refl)
may_on n t (events.Spawn place) on = absurd (let some : 1 ≤ 0 = on.0 in omega (arith, some))

pub all_may : (n t : ℕ) (es : List Event) → All (IsOn n) es → MayAllCome n t es
all_may n t [] on = tt
all_may n t (e ∷ es) on =
    let one = may_on n t e (on 0 e (omega arith)) in
    (one.0, subst (λ (m : ℕ). MayAllCome m t es) (sym one.1) (all_may n t es (λ k d lt. on (suc k) d (omega (arith, lt)))))
