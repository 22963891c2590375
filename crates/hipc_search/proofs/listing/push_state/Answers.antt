use Rattle.std.proofs.Common.{◌≡◌, ℕ, List, length, sym, ap, subst, ◌∙◌, arith}
use Rattle.ipc_ids.proofs.Common.{then_on_ok}
use Rattle.script_lines.specs.Names.{task_names}
use Rattle.script_reader.specs.EventLine.{EventsAndNames}
use Rattle.script_reader.specs.Schedule.{MayAllCome}
use Rattle.search_goals.specs.Writing.{Writes}
use Rattle.schedule_search.specs.Problem.{search_of}
use Rattle.schedule_search.proofs.Behind.{may_here}
use Rattle.hipc_search.proofs.Following.{names_first}
use Rattle.hipc_search.proofs.States.{adds_state}
use Rattle.hipc_search.proofs.listing.push_state.Goals as goal

pub names_behind-requires : goal.names_behind-requires
names_behind-requires c = c.requires.may.1.named.tasks

pub push_events-requires-clause-named : goal.push_events-requires-clause-named
push_events-requires-clause-named c = c.requires.may.1.named.templates

pub push_events-requires-clause-may : goal.push_events-requires-clause-may
push_events-requires-clause-may c =
    let may = c.requires.may.1 in
    let first : EventsAndNames = record { events = c.args.problem.now.from.now; names = c.requires.may.0 } in
    let short = may.short in
    let few = may.few_first in
    let same : c.in_ok-names.names ≡ first.names =
    names_first c.args.problem.now.script.now c.args.before.now first c.in_ok-names.names may.first
    (omega (arith, short)) (omega (arith, few)) c.in_ok-names.ensures in
    subst (λ (n : ℕ). MayAllCome n (length c.args.problem.now.script.now.templates) c.args.events.now)
    (sym (ap (λ (ns : List (List ℕ)). length ns) same ∙ may.first.all_named))
    (may_here (search_of c.args.problem.now) may.sound c.args.events.now c.requires.made.tried)

pub push_outcomes_behind-requires : goal.push_outcomes_behind-requires
push_outcomes_behind-requires c =
    let few = c.requires.few in
    record {
      can = record {
        sound = c.requires.may.1.sound;
        of_moves = c.requires.made.of_moves;
        few = omega (arith, few);
        tried = c.requires.made.tried;
      };
    }

pub returns : goal.returns
returns c =
    let may = c.requires.may.1 in
    let first : EventsAndNames = record { events = c.args.problem.now.from.now; names = c.requires.may.0 } in
    let short = may.short in
    let few = may.few_first in
    let same : c.in_ok-names.names ≡ first.names =
    names_first c.args.problem.now.script.now c.args.before.now first c.in_ok-names.names may.first
    (omega (arith, short)) (omega (arith, few)) c.in_ok-names.ensures in
    then_on_ok c.push_outcomes_behind.result c.push_outcomes_behind.ensures
    (λ told.
    adds_state (search_of c.args.problem.now) c.args.before.now c.args.place c.args.count c.args.events.now first.names
    c.push_events.new.names c.args.text.now.items
    c.push_heading.new.text.items c.extend_from_slice.new.self.items c.push_events.new.text.items
    c.push_outcomes_behind.new.text.items c.ranges.place.fits c.ranges.count.fits may.few_first may.short may.first
    c.requires.few c.in_ok-push_heading.ensures c.in_ok-extend_from_slice.ensures.items
    (subst
    (λ (ns : List (List ℕ)). Writes (task_names c.args.problem.now.script.now.templates) ns c.extend_from_slice.new.self.items
    c.push_events.new.text.items c.args.events.now c.push_events.new.names)
    same c.in_ok-push_events.ensures)
    told)
