use Rattle.std.proofs.Common.{ℕ, ◌≡◌, ◌∙◌, List, length, reverse, ap, sym, subst, arith}
use Rattle.std.specs.Prelude.{None}
use Rattle.std.proofs.lemmas.Bool.{both_ways}
use Rattle.std.proofs.lemmas.List.{length-reverse}
use Rattle.ipc_ids.specs.declared.message.Event.{Event}
use Rattle.answerbox.specs.Calls.{CallTable, call_at}
use Rattle.run_words.specs.RunWords.{run_words}
use Rattle.task_system.specs.Run.{RunState, state_after, MayAllHappen}
use Rattle.schedule_search.specs.Search.{state_behind}
use Rattle.schedule_search.specs.OpenCalls.{is_open}
use Rattle.schedule_search.specs.Problem.{search_of}
use Rattle.schedule_search.specs.Ahead.{ahead, steps_of}
use Rattle.schedule_search.proofs.Losses.{closed_told, open_told}
use Rattle.schedule_search.proofs.Steps.{steps_counted}
use Rattle.schedule_search.proofs.ahead.Ahead.visit_there.Goals as goal

pub do_events-done-requires-clause-few : goal.do_events-done-requires-clause-few
do_events-done-requires-clause-few c =
    let long = ap (λ (z : List Event). length z) (c.as_slice.ensures.value ∙ c.in_ok-steps.ensures) in
    let same = steps_counted (reverse c.args.path.now) in
    let back = length-reverse c.args.path.now in
    omega (arith, long, same, back, c.requires.few, c.in_ok-lead.ensures.count, c.requires.fits.can.few)

pub do_events-done-requires-clause-may : goal.do_events-done-requires-clause-may
do_events-done-requires-clause-may c =
    subst (λ (z : List Event). MayAllHappen c.lead.new.replay.state z)
    (sym (c.as_slice.ensures.value ∙ c.in_ok-steps.ensures))
    (subst (λ (z : RunState). MayAllHappen z (steps_of (reverse c.args.path.now))) (sym c.in_ok-lead.ensures.state)
    (c.requires.fits.may (reverse c.args.path.now) c.requires.moves))

-- where the steps lead
there : (c : goal.In_ok-code) → c.do_events-done.new.replay.state
    ≡ ahead (state_behind (search_of c.args.self.now.problem.now) c.args.self.now.events.now) (reverse c.args.path.now)
there c =
    c.in_ok-done.ensures.state
    ∙ ap (λ (z : RunState). state_after z c.as_slice.result.now) c.in_ok-lead.ensures.state
    ∙ ap (state_after (state_behind (search_of c.args.self.now.problem.now) c.args.self.now.events.now))
    (c.as_slice.ensures.value ∙ c.in_ok-steps.ensures)

-- the call is open there if the code has found it so
open_there : (c : goal.In_ok-code) → is_open None
    (call_at (ahead (state_behind (search_of c.args.self.now.problem.now) c.args.self.now.events.now)
    (reverse c.args.path.now)).kernel.calls c.args.self.now.call.0) ≡ c.is_open-open.result
open_there c =
    let n : ℕ = c.args.self.now.call.0 in
    ap (λ (z : RunState). is_open None (call_at z.kernel.calls n)) (sym (there c))
    ∙ ap (λ (z : CallTable). is_open None (call_at z n)) (sym c.all_calls.ensures)
    ∙ ap (is_open None) (sym c.get.ensures.call) ∙ sym c.is_open-open.ensures

pub returns-clause-met : goal.returns-clause-met
returns-clause-met c = λ is. open_there c ∙ closed_told c.is_open-open.result is

pub returns-clause-unmet : goal.returns-clause-unmet
returns-clause-unmet c = λ is closed. both_ways _ closed (open_there c ∙ open_told c.is_open-open.result is)

pub returns-clause-code : goal.returns-clause-code
returns-clause-code c = c.in_ok-code.ensures ∙ ap run_words (there c)
