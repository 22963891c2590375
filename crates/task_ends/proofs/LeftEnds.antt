-- What the law of ends says of an answer is what the doings tell of the task: so a list on which they
-- tell something else breaks the law.
use Rattle.std.proofs.Common.{ℕ, ◌≡◌, true, false, List, [], ◌∷◌, ◌++◌, Some, None, refl, ap, arith}
use Rattle.std.proofs.lemmas.Bool.{eq-eqb, eqb-true}
use Rattle.ipc_ids.specs.declared.numbers.Label.{Label}
use Rattle.ipc_ids.specs.declared.message.Outcome.TheVariants as outcome
use Rattle.ipc_ids.specs.Methods.{phone_hungup}
use Rattle.ipc_ids.specs.Doings.{Doing, Told}
use Rattle.task_ends.specs.declared.introduced.End.{End}
use Rattle.task_ends.specs.declared.introduced.Introduced.{Introduced}
use Rattle.task_ends.specs.Ends.{newcomer}
use Rattle.task_ends.specs.EndLaw.{introduce_self, IsCallFrom, IsIntroductionOf, HasNone, last_left, HasLeft, story, TellsEnd}
use Rattle.task_ends.proofs.LawfulEnds.{label_is, closed_stays}

-- a task that left this end so far, and one that has ended
abbrev open_with : Label → End → Introduced
open_with label end = record { label = label; end = end; ended = false }

abbrev ended_with : Label → End → Introduced
ended_with label end = record { label = label; end = end; ended = true }

nobody_yet : (w : ℕ) (p : List Doing) → HasNone (IsIntroductionOf w) p → story w p ≡ None
nobody_yet w [] none = refl
nobody_yet w (Told (outcome.Received n msg label) ∷ p) none =
    grind (arith, eqb-true, none.0, nobody_yet w p none.1)
nobody_yet w (x ∷ p) none = nobody_yet w p none.1

introduced_here : (w : ℕ) (from : Label) (d : Doing) (p : List Doing) → IsCallFrom introduce_self from d → from.task.0 ≡ w → story w p ≡ None → story w (d ∷ p) ≡ Some (newcomer from)
introduced_here w from (Told (outcome.Received n msg label)) p is task none =
    grind (arith, eq-eqb, is.0, is.1, task, none)
introduced_here w from _ p is task none = absurd is

open_since : (w : ℕ) (from : Label) (between p : List Doing) → HasNone (IsCallFrom phone_hungup from) between → story w p ≡ Some (newcomer from) → story w (between ++ p) ≡ Some (open_with from (last_left from between))
open_since w from [] p none is = is
open_since w from (Told (outcome.Received n msg label) ∷ between) p none is =
    grind (arith, eqb-true, label_is, none.0, open_since w from between p none.1 is)
open_since w from (x ∷ between) p none is = open_since w from between p none.1 is

ended_here : (w : ℕ) (from : Label) (end : End) (d : Doing) (p : List Doing) → IsCallFrom phone_hungup from d → story w p ≡ Some (open_with from end) → story w (d ∷ p) ≡ Some (ended_with from end)
ended_here w from end (Told (outcome.Received n msg label)) p is at =
    grind (arith, eq-eqb, is.0, is.1, at)
ended_here w from end _ p is at = absurd is

ended_since : (w : ℕ) (x : Introduced) (since p : List Doing) → x.ended ≡ true → story w p ≡ Some x → story w (since ++ p) ≡ Some x
ended_since w x [] p done is = is
ended_since w x (Told (outcome.Received n msg label) ∷ since) p done is =
    rw (ended_since w x since p done is) (ap (λ (y : Introduced). Some y) (closed_stays msg label x done))
ended_since w x (d ∷ since) p done is = ended_since w x since p done is

pub left_is_told : (w : ℕ) (p : List Doing) (arguments : List ℕ) → HasLeft w p arguments → TellsEnd arguments (story w p)
left_is_told w p arguments it =
    let new = introduced_here w it.from it.introduction it.before it.introduces it.task (nobody_yet w it.before it.first) in
    let open_then = open_since w it.from it.between (it.introduction ∷ it.before) it.no_earlier new in
    let ended_then = ended_here w it.from (last_left it.from it.between) it.hangup (it.between ++ (it.introduction ∷ it.before)) it.hangs_up open_then in
    let now = ended_since w (ended_with it.from (last_left it.from it.between)) it.since (it.hangup ∷ (it.between ++ (it.introduction ∷ it.before))) refl ended_then in
    rw (it.split, now) (refl, it.left)
