use Rattle.std.proofs.Common.{ℕ, ◌≡◌, ◌+◌, List, length, Some, slice_get, sym, ap, subst, ◌∙◌, arith}
use Rattle.std.specs.Global.{Vec}
use Rattle.std.proofs.lemmas.List.{length-map}
use Rattle.std.proofs.lemmas.Option.{slice_get-get_or}
use Rattle.ipc_ids.specs.declared.message.Event.{Event}
use Rattle.schedule_search.specs.Problem.{search_of}
use Rattle.schedule_search.specs.Search.{Made}
use Rattle.schedule_search.specs.Survey.{schedules_of}
use Rattle.schedule_search.proofs.Resters.{at_made}
use Rattle.hipc_search.specs.Survey.{IsState}
use Rattle.hipc_search.proofs.States.{begins, state_more, states_there}
use Rattle.hipc_search.proofs.listing.states_text.Goals as goal

pub loop-place-init : goal.loop-place-init
loop-place-init c =
    begins (search_of c.args.problem.now) c.args.before.now (length (schedules_of c.args.schedules.now))
    (schedules_of c.args.schedules.now) c.new-text.result.items c.new-text.ensures.items

pub push_state-requires-clause-made : goal.push_state-requires-clause-made
push_state-requires-clause-made c =
    let v : Vec Event = c.index-schedules-place.result in
    let at : slice_get c.args.schedules.now c.loop-place.place ≡ Some v =
    slice_get-get_or c.args.schedules.now c.loop-place.place v c.loop-place-test.true ∙ ap Some (sym c.index-schedules-place.is) in
    let listed = c.requires.listed c.loop-place.place v.items (at_made (λ (w : Vec Event). w.items) c.args.schedules.now c.loop-place.place v at) in
    subst (λ (es : List Event). Made (search_of c.args.problem.now) es) (sym c.as_slice.ensures.value) listed.0

pub push_state-requires-clause-few : goal.push_state-requires-clause-few
push_state-requires-clause-few c =
    let v : Vec Event = c.index-schedules-place.result in
    let at : slice_get c.args.schedules.now c.loop-place.place ≡ Some v =
    slice_get-get_or c.args.schedules.now c.loop-place.place v c.loop-place-test.true ∙ ap Some (sym c.index-schedules-place.is) in
    let listed = c.requires.listed c.loop-place.place v.items (at_made (λ (w : Vec Event). w.items) c.args.schedules.now c.loop-place.place v at) in
    let long = ap (λ (es : List Event). length es) c.as_slice.ensures.value in
    omega (arith, listed.1, long)

pub loop-place-preserved : goal.loop-place-preserved
loop-place-preserved c =
    let s = search_of c.args.problem.now in
    let before = c.args.before.now in
    let v : Vec Event = c.index-schedules-place.result in
    let count : length c.args.schedules.now ≡ length (schedules_of c.args.schedules.now) =
    sym (length-map c.args.schedules.now (λ (w : Vec Event). w.items)) in
    let added = c.in_ok-push_state.ensures in
    let is : IsState s before (c.loop-place.place + 1) (length (schedules_of c.args.schedules.now)) v.items added.0 =
    subst (λ (n : ℕ). IsState s before (c.loop-place.place + 1) n v.items added.0) count
    (subst (λ (es : List Event). IsState s before (c.loop-place.place + 1) (length c.args.schedules.now) es added.0)
    c.as_slice.ensures.value added.2) in
    state_more s before (length (schedules_of c.args.schedules.now)) (schedules_of c.args.schedules.now) c.args.schedules.now
    c.loop-place.place v c.loop-place.text.items added.0 c.push_state.new.text.items
    c.loop-place-test.true c.index-schedules-place.is is added.1 c.loop-place.invariant

pub returns : goal.returns
returns c =
    states_there (search_of c.args.problem.now) c.args.before.now (length (schedules_of c.args.schedules.now))
    (schedules_of c.args.schedules.now) c.args.schedules.now c.loop-place.place c.loop-place.text.items c.loop-place-test.false
    c.loop-place.invariant
