use Rattle.std.proofs.Common.{◌≡◌, ◌≤◌, ℕ, List, length, Result, Ok, sym, ap, subst, ◌∙◌, arith}
use Rattle.std.specs.Prelude.{IfOk}
use Rattle.ipc_ids.specs.declared.message.Event.{Event}
use Rattle.script_reader.specs.EventLine.{EventsAndNames}
use Rattle.search_goals.specs.declared.goal.Goal.{Goal}
use Rattle.search_goals.specs.GoalText.{said as said_goal}
use Rattle.search_goals.specs.GoalList.{Sought, all_precede, said_all, sought_by}
use Rattle.schedule_search.specs.declared.problem.MostMade.{MostMade}
use Rattle.schedule_search.specs.Search.{Search}
use Rattle.hipc_search.specs.Asking.{search_with}
use Rattle.hipc_search.specs.Command.{Command, said}
use Rattle.hipc_search.specs.Due.{DueForAsked}
use Rattle.hipc_search.specs.Moves.{moves_of}
use Rattle.hipc_search.proofs.Answering.{list_at_fault, search_is, search_sound}
use Rattle.hipc_search.proofs.due.with_goals.Goals as goal

pub returns-in-Err-Bad : goal.returns-in-Err-Bad
returns-in-Err-Bad c =
    let command : Command = said c.args.command.now in
    let first : EventsAndNames = record { events = c.args.from.now; names = c.args.names.now } in
    let fault = c.in-Err-Bad in
    subst
    (λ (r : Result Search (List ℕ)). IfOk c.fault_answer.result
    (λ answer. DueForAsked command c.args.before.now r answer.status answer.text.items))
    (sym (list_at_fault command c.args.script.now first (sought_by c.args.goals.now) fault.list (fault.word, fault.reason)
    (rw fault.field-0-is at fault.ensures.said)))
    (rw c.list_place.ensures at c.fault_answer.ensures)

pub asks_answer-requires-clause-may : goal.asks_answer-requires-clause-may
asks_answer-requires-clause-may c =
    let lists = c.in-Ok.lists in
    let moves : List Event = c.as_slice-4.result.now in
    let earlier : List Goal = c.as_slice-6.result.now in
    let tasks : ℕ = length c.args.names.now in
    let count = c.len.ensures.count in
    let some : tasks ≤ 64 = (let few = c.len.ensures.few in omega (arith, few, count)) in
    let is : moves ≡ moves_of tasks lists.killed.items lists.hangups.items c.as_slice-5.result.now =
    c.as_slice-4.ensures.value
    ∙ rw (count, c.as_slice.ensures.value, c.as_slice-2.ensures.value, c.as_slice-3.ensures.value) at c.in_ok-moves.ensures
    ∙ ap (moves_of tasks lists.killed.items lists.hangups.items) (sym c.as_slice-5.ensures.value) in
    let few : length c.as_slice-5.result.now ≤ 64 =
    (let long = ap (λ (b : List MostMade). length b) c.as_slice-5.ensures.value in
    let most = c.in-Ok.ensures.few_bounds in
    omega (arith, long, most)) in
    record {
      sound =
          search_sound c.args.script.now c.args.from.now moves c.args.command.now.kills
          (record { earlier = said_all earlier; last = said_goal c.args.goals.now.last }) tasks lists.killed.items
          lists.hangups.items c.as_slice-5.result.now c.in-Ok.ensures.sound c.requires.may c.requires.few some
          c.in-Ok.ensures.few_hangups few is
          (ap (λ (goals : List Goal). all_precede (said_all goals)) c.as_slice-6.ensures.value ∙ c.requires.precede);
      named = c.requires.named;
      few_first = c.requires.few;
      short = c.requires.short;
      first = c.requires.first;
    }

pub returns : goal.returns
returns c =
    let command : Command = said c.args.command.now in
    let first : EventsAndNames = record { events = c.args.from.now; names = c.args.names.now } in
    let lists = c.in-Ok.lists in
    let told = c.in-Ok.ensures.said in
    let tasks : ℕ = length c.args.names.now in
    let moves : List Event = c.as_slice-4.result.now in
    let sought : Sought = record { earlier = said_all c.as_slice-6.result.now; last = said_goal c.args.goals.now.last } in
    let same : sought ≡ sought_by c.args.goals.now =
    ap (λ (goals : List Goal). record { earlier = said_all goals; last = said_goal c.args.goals.now.last }) c.as_slice-6.ensures.value in
    let is : moves ≡ moves_of tasks lists.killed.items lists.hangups.items c.as_slice-5.result.now =
    c.as_slice-4.ensures.value
    ∙ rw (c.len.ensures.count, c.as_slice.ensures.value, c.as_slice-2.ensures.value, c.as_slice-3.ensures.value)
    at c.in_ok-moves.ensures
    ∙ ap (moves_of tasks lists.killed.items lists.hangups.items) (sym c.as_slice-5.ensures.value) in
    subst
    (λ (r : Result Search (List ℕ)). IfOk c.asks_answer.result
    (λ answer. DueForAsked command c.args.before.now r answer.status answer.text.items))
    (sym (ap (λ (z : Sought). search_with command c.args.script.now first (Ok z)) (sym same)
    ∙ search_is command c.args.script.now first sought lists.killed.items lists.hangups.items moves c.as_slice-5.result.now
    told.0 told.1 (told.2 ∙ ap (λ (b : List MostMade). Ok b) (sym c.as_slice-5.ensures.value)) is))
    c.asks_answer.ensures
