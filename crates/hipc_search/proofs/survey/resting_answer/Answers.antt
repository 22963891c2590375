use Rattle.std.proofs.Common.{ℕ, ◌≤◌, List, length, refl, subst, ◌∙◌}
use Rattle.std.specs.Prelude.{⊤, codes}
use Rattle.ipc_ids.specs.declared.message.Event.{Event}
use Rattle.schedule_search.specs.declared.at_rest.RestingStates.{RestingStates}
use Rattle.schedule_search.specs.declared.at_rest.RestingStates.TheVariants as surveys
use Rattle.schedule_search.specs.Problem.{search_of}
use Rattle.schedule_search.specs.Survey.{IsSurvey}
use Rattle.hipc_search.specs.Survey.{all_within_start}
use Rattle.hipc_search.proofs.Answering.{due_for}
use Rattle.hipc_search.proofs.States.{few_listed, listing_is}
use Rattle.hipc_search.proofs.survey.resting_answer.Goals as goal

abbrev all_start : List ℕ
all_start = codes "# all states at rest, of any length: "

pub listing-requires-clause-listed : goal.listing-requires-clause-listed
listing-requires-clause-listed c =
    few_listed (search_of c.args.problem.now) c.args.command.now.events (λ (es : List Event). ⊤)
    c.in-All.schedules.items c.as_slice-schedules.result.now
    (subst (λ (r : RestingStates). IsSurvey (search_of c.args.problem.now) c.args.command.now.events r) c.in-All.is
    c.requires.right)
    c.as_slice-schedules.ensures.value c.requires.few

pub listing-requires-in-Within-clause-listed : goal.listing-requires-in-Within-clause-listed
listing-requires-in-Within-clause-listed c =
    few_listed (search_of c.args.problem.now) c.args.command.now.events
    (λ (es : List Event). length es ≤ c.args.command.now.events) c.in-Within.schedules.items
    c.as_slice-schedules-in-Within.result.now
    (subst (λ (r : RestingStates). IsSurvey (search_of c.args.problem.now) c.args.command.now.events r) c.in-Within.is
    c.requires.right)
    c.as_slice-schedules-in-Within.ensures.value c.requires.few

pub returns-in_ok-text-in-All : goal.returns-in_ok-text-in-All
returns-in_ok-text-in-All c =
    due_for (search_of c.args.problem.now) c.args.command.now.events c.args.command.now.states c.args.before.now
    c.args.resting.now (surveys.All c.in-All.schedules c.in-All.states) _ c.in_ok-text-in-All.text.items c.in-All.is (
      refl,
      listing_is (search_of c.args.problem.now) c.args.before.now c.in-All.schedules.items
          c.as_slice-schedules.result.now all_start all_start c.in_ok-text-in-All.text.items c.in-All.states
          c.as_slice-schedules.ensures.value refl c.in_ok-text-in-All.ensures,
    )

pub returns-in_ok-text-in-Within : goal.returns-in_ok-text-in-Within
returns-in_ok-text-in-Within c =
    due_for (search_of c.args.problem.now) c.args.command.now.events c.args.command.now.states c.args.before.now
    c.args.resting.now (surveys.Within c.in-Within.schedules c.in-Within.states) _ c.in_ok-text-in-Within.text.items
    c.in-Within.is (
      refl,
      listing_is (search_of c.args.problem.now) c.args.before.now c.in-Within.schedules.items
          c.as_slice-schedules-in-Within.result.now c.as_slice.result.now
          (all_within_start c.args.command.now.events) c.in_ok-text-in-Within.text.items c.in-Within.states
          c.as_slice-schedules-in-Within.ensures.value
          (c.as_slice.ensures.value ∙ c.in_ok-start-in-Within.ensures) c.in_ok-text-in-Within.ensures,
    )

pub returns-in_ok-text-in-NoRoom : goal.returns-in_ok-text-in-NoRoom
returns-in_ok-text-in-NoRoom c =
    due_for (search_of c.args.problem.now) c.args.command.now.events c.args.command.now.states c.args.before.now
    c.args.resting.now surveys.NoRoom _ c.in_ok-text-in-NoRoom.text.items c.in-NoRoom.is
    (refl, c.in_ok-text-in-NoRoom.ensures)
