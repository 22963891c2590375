use Rattle.std.proofs.Common.{◌≡◌, true, List, length, refl, sym, ap, subst, arith}
use Rattle.ipc_ids.specs.declared.message.Event.{Event}
use Rattle.schedule_search.specs.declared.outcome.Outcome.TheVariants as outcomes
use Rattle.schedule_search.specs.Problem.{search_of}
use Rattle.schedule_search.specs.Search.{may_try}
use Rattle.hipc_search.specs.Schedule.{IsSchedule}
use Rattle.hipc_search.proofs.answer.search_answer.Goals as goal

pub search_schedules-requires-clause-sound : goal.search_schedules-requires-clause-sound
search_schedules-requires-clause-sound c = c.requires.may.sound

pub found_text-requires-clause-tried : goal.found_text-requires-clause-tried
found_text-requires-clause-tried c =
    let right = rw c.in-Found.is at c.in_ok-outcome.ensures in
    subst (λ (es : List Event). may_try (search_of c.args.problem.now) es ≡ true) (sym c.as_slice.ensures.value) right.finds.made.tried

pub found_text-requires-clause-few : goal.found_text-requires-clause-few
found_text-requires-clause-few c =
    let right = rw c.in-Found.is at c.in_ok-outcome.ensures in
    let within = right.within in
    let long = ap (λ (es : List Event). length es) c.as_slice.ensures.value in
    let most = c.requires.few in
    omega (arith, within, long, most)

pub returns-in_ok-text-in-Found : goal.returns-in_ok-text-in-Found
returns-in_ok-text-in-Found c =
    let right = rw c.in-Found.is at c.in_ok-outcome.ensures in
    let written =
    subst (λ (es : List Event). IsSchedule (search_of c.args.problem.now) c.args.before.now c.args.goal.now es c.in_ok-text-in-Found.text.items)
    c.as_slice.ensures.value c.in_ok-text-in-Found.ensures in
    (outcomes.Found c.in-Found.events, right, (refl, written))

pub returns-in_ok-text-in-NoneWithin : goal.returns-in_ok-text-in-NoneWithin
returns-in_ok-text-in-NoneWithin c =
    let right = rw c.in-NoneWithin.is at c.in_ok-outcome.ensures in
    (outcomes.NoneWithin c.in-NoneWithin.states, right, (refl, c.in_ok-text-in-NoneWithin.ensures))

pub returns-in_ok-text-in-NoneAtAll : goal.returns-in_ok-text-in-NoneAtAll
returns-in_ok-text-in-NoneAtAll c =
    let right = rw c.in-NoneAtAll.is at c.in_ok-outcome.ensures in
    (outcomes.NoneAtAll c.in-NoneAtAll.states, right, (refl, c.in_ok-text-in-NoneAtAll.ensures))

pub returns-in_ok-text-in-NoRoom : goal.returns-in_ok-text-in-NoRoom
returns-in_ok-text-in-NoRoom c = (outcomes.NoRoom, tt, (refl, c.in_ok-text-in-NoRoom.ensures))
