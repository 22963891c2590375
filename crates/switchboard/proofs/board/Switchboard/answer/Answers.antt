use Rattle.std.proofs.Common.{◌≡◌, Some, None, arith, refl, inr}
use Rattle.call_slab.specs.declared.call.Call.{Call}
use Rattle.call_slab.specs.declared.call.Place.TheVariants.{Answers}
use Rattle.answerbox.specs.Calls.{call_at}
use Rattle.switchboard.specs.Kept.{kept_phone}
use Rattle.switchboard.proofs.Inner.{inner}
use Rattle.switchboard.proofs.KeptCalls.{kept_put}
use Rattle.switchboard.proofs.Live.{called, live_reply}
use Rattle.switchboard.proofs.Switched.{switched_put}
use Rattle.switchboard.proofs.board.Switchboard.answer.Goals as goal

pub invariant_of-self : goal.invariant_of-self
invariant_of-self c =
    let i = c.self.inside in
    let found = called (call_at i.boxes.calls c.args.found.number.0) c.args.caller (rw (← c.self.view_is) at c.requires.called) in
    let r : Call = found.0 in
    let is : call_at i.boxes.calls c.args.found.number.0 ≡ Some r = found.1 in
    let none : kept_phone (record r { reply = c.args.reply.now; place = Answers c.args.caller }) ≡ None = rw is at (rw (← c.self.view_is) at c.requires.unkept) in
    rw (c.go_uncounted.ensures.calls, c.go_uncounted.ensures.tasks, is)
    (switched_put c.args.found.number.0 r (record r { reply = c.args.reply.now }) (Answers c.args.caller) c.self.invariant.0 is refl refl refl refl (kept_put (inner i) c.args.found.number.0 r (record r { reply = c.args.reply.now }) (Answers c.args.caller) c.self.invariant.0.kept is (c.self.invariant.0.has_counts.numbered c.args.found.number.0 r is) (inr (rw none tt))), c.self.invariant.1)

pub returns-clause-room : goal.returns-clause-room
returns-clause-room c =
    let i = c.self.inside in
    let found = called (call_at i.boxes.calls c.args.found.number.0) c.args.caller (rw (← c.self.view_is) at c.requires.called) in
    let is : call_at i.boxes.calls c.args.found.number.0 ≡ Some found.0 = found.1 in
    let l = live_reply i.phones.states i.phones.counts i.boxes.calls c.args.found.number.0 c.self.invariant.0.has_counts (rw is refl) c.args.reply.now c.args.caller in
    rw (← c.self.view_is, c.go_uncounted.ensures.calls, is) (record { live = omega (arith, rw is at l); calls = omega (arith, c.go_uncounted.ensures.spare); places = c.go_uncounted.ensures.tasks })
