use Rattle.std.proofs.Common.{rules, ◌≡◌, arith, refl}
use Rattle.call_slab.specs.declared.call.Place.TheVariants.{Incoming}
use Rattle.answerbox.specs.Calls.{put_at}
use Rattle.switchboard.specs.Kept.{lent_phone}
use Rattle.switchboard.specs.Board.{IsPendingAt}
use Rattle.switchboard.specs.Joins.{passed_call}
use Rattle.switchboard.proofs.Inner.{inner}
use Rattle.switchboard.proofs.KeptCalls.{kept_put, passed_keeps, put_loose}
use Rattle.switchboard.proofs.Live.{live_passed}
use Rattle.switchboard.proofs.Switched.{switched_put}
use Rattle.switchboard.proofs.board.Switchboard.readdress.Goals as goal

pub invariant_of-self : goal.invariant_of-self
invariant_of-self c =
    let i = c.self.inside in
    let r = c.go_by.ensures.record_was in
    let is = c.go_by.ensures.there in
    let number = c.self.invariant.0.has_counts.numbered c.args.found.number.0 r is in
    let pending : IsPendingAt r.place = rw is at (rw (← c.self.view_is) at c.requires.pending) in
    let d = passed_call c.args.msg c.args.label r in
    let goes : c.go_by.new.self.calls ≡ put_at i.boxes.calls (passed_call c.args.msg c.args.label r) (Incoming c.args.to) = search rules in
    rw (goes, c.go_by.ensures.goes.tasks)
    (switched_put c.args.found.number.0 r d (Incoming c.args.to) c.self.invariant.0 is refl refl refl refl (kept_put (inner i) c.args.found.number.0 r d (Incoming c.args.to) c.self.invariant.0.kept is number (passed_keeps (inner i) r c.args.msg c.args.label c.args.to pending)), c.self.invariant.1)

pub returns-clause-loose : goal.returns-clause-loose
returns-clause-loose c =
    let i = c.self.inside in
    let r = c.go_by.ensures.record_was in
    let is = c.go_by.ensures.there in
    let number = c.self.invariant.0.has_counts.numbered c.args.found.number.0 r is in
    let goes : c.go_by.new.self.calls ≡ put_at i.boxes.calls (passed_call c.args.msg c.args.label r) (Incoming c.args.to) = search rules in
    let lent : c.go_by.result ≡ lent_phone r = search rules in
    rw (goes, lent)
    (put_loose (inner i) c.args.found.number.0 r (passed_call c.args.msg c.args.label r) (Incoming c.args.to) c.self.invariant.0.kept is number refl (λ t e. cc))

pub returns-clause-room : goal.returns-clause-room
returns-clause-room c =
    let i = c.self.inside in
    let r = c.go_by.ensures.record_was in
    let is = c.go_by.ensures.there in
    let l = live_passed i.phones.states i.phones.counts i.boxes.calls c.args.found.number.0 c.self.invariant.0.has_counts (rw is refl) c.args.msg c.args.label c.args.to in
    let goes : c.go_by.new.self.calls ≡ put_at i.boxes.calls (passed_call c.args.msg c.args.label r) (Incoming c.args.to) = search rules in
    rw (← c.self.view_is, goes) (record { live = omega (arith, rw is at l); calls = omega (arith, c.go_by.ensures.goes.spare); places = c.go_by.ensures.goes.tasks })
