use Rattle.std.proofs.Common.{rules, ◌≡◌, arith, refl}
use Rattle.call_slab.specs.declared.call.Place.TheVariants.{Answers}
use Rattle.answerbox.specs.Calls.{put_at}
use Rattle.switchboard.specs.Board.{IsPendingAt}
use Rattle.switchboard.specs.Kept.{lent_phone}
use Rattle.switchboard.specs.Joins.{declined_call}
use Rattle.switchboard.proofs.Inner.{inner}
use Rattle.switchboard.proofs.KeptCalls.{declined_keeps, kept_put, put_loose}
use Rattle.switchboard.proofs.Live.{live_declined}
use Rattle.switchboard.proofs.Switched.{switched_put}
use Rattle.switchboard.proofs.board.Switchboard.decline.Goals as goal

pub invariant_of-self : goal.invariant_of-self
invariant_of-self c =
    let i = c.self.inside in
    let r = c.go_by.ensures.record_was in
    let is = c.go_by.ensures.there in
    let number = c.self.invariant.0.has_counts.numbered c.args.found.number.0 r is in
    let pending : IsPendingAt r.place = rw is at (rw (← c.self.view_is) at c.requires.pending) in
    let goes : c.go_by.new.self.calls ≡ put_at i.boxes.calls (declined_call r c.args.reply) (Answers c.args.caller) = search rules in
    rw (goes, c.go_by.ensures.goes.tasks)
    (switched_put c.args.found.number.0 r (declined_call r c.args.reply) (Answers c.args.caller) c.self.invariant.0 is refl refl refl refl (kept_put (inner i) c.args.found.number.0 r (declined_call r c.args.reply) (Answers c.args.caller) c.self.invariant.0.kept is number (declined_keeps (inner i) r c.args.reply c.args.caller pending)), c.self.invariant.1)

pub returns-clause-loose : goal.returns-clause-loose
returns-clause-loose c =
    let i = c.self.inside in
    let r = c.go_by.ensures.record_was in
    let is = c.go_by.ensures.there in
    let number = c.self.invariant.0.has_counts.numbered c.args.found.number.0 r is in
    let goes : c.go_by.new.self.calls ≡ put_at i.boxes.calls (declined_call r c.args.reply) (Answers c.args.caller) = search rules in
    let lent : c.go_by.result ≡ lent_phone r = search rules in
    rw (goes, lent)
    (put_loose (inner i) c.args.found.number.0 r (declined_call r c.args.reply) (Answers c.args.caller) c.self.invariant.0.kept is number refl (λ t e. cc))

pub returns-clause-room : goal.returns-clause-room
returns-clause-room c =
    let i = c.self.inside in
    let r = c.go_by.ensures.record_was in
    let is = c.go_by.ensures.there in
    let goes : c.go_by.new.self.calls ≡ put_at i.boxes.calls (declined_call r c.args.reply) (Answers c.args.caller) = search rules in
    let l = live_declined i.phones.states i.phones.counts i.boxes.calls c.args.found.number.0 c.self.invariant.0.has_counts (rw is refl) c.args.reply c.args.caller in
    rw (← c.self.view_is, goes) (record { live = omega (arith, rw is at l); calls = omega (arith, c.go_by.ensures.goes.spare); places = c.go_by.ensures.goes.tasks })
