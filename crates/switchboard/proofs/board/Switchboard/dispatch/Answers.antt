use Rattle.std.proofs.Common.{rules, ◌≡◌, ℕ, arith, ap, refl}
use Rattle.call_slab.specs.declared.call.Place.TheVariants.{Dispatched}
use Rattle.answerbox.specs.Calls.{put_at}
use Rattle.switchboard.specs.Kept.{MayKeep}
use Rattle.switchboard.proofs.Inner.{inner}
use Rattle.switchboard.proofs.KeptCalls.{kept_put}
use Rattle.switchboard.proofs.Live.{live_received}
use Rattle.switchboard.proofs.Switched.{switched_put}
use Rattle.switchboard.proofs.board.Switchboard.dispatch.Goals as goal

pub invariant_of-self : goal.invariant_of-self
invariant_of-self c =
    let i = c.self.inside in
    let r = c.go_by.ensures.record_was in
    let is = c.go_by.ensures.there in
    let goes : c.go_by.new.self.calls ≡ put_at i.boxes.calls (record r { msg = c.args.msg; reserved = c.args.reserved }) (Dispatched c.args.by) = search rules in
    let may : MayKeep (inner i) r (record r { reserved = c.args.reserved; place = Dispatched c.args.by }) = rw is at (rw (← c.self.view_is) at c.requires.reserved) in
    rw (goes, c.go_by.ensures.goes.tasks)
    (switched_put c.args.found.number.0 r (record r { msg = c.args.msg; reserved = c.args.reserved }) (Dispatched c.args.by) c.self.invariant.0 is refl refl refl refl (kept_put (inner i) c.args.found.number.0 r (record r { msg = c.args.msg; reserved = c.args.reserved }) (Dispatched c.args.by) c.self.invariant.0.kept is (c.self.invariant.0.has_counts.numbered c.args.found.number.0 r is) may), c.self.invariant.1)

pub returns-clause-room : goal.returns-clause-room
returns-clause-room c =
    let i = c.self.inside in
    let r = c.go_by.ensures.record_was in
    let is = c.go_by.ensures.there in
    let goes : c.go_by.new.self.calls ≡ put_at i.boxes.calls (record r { msg = c.args.msg; reserved = c.args.reserved }) (Dispatched c.args.by) = search rules in
    let l = live_received i.phones.states i.phones.counts i.boxes.calls c.args.found.number.0 c.self.invariant.0.has_counts (rw (← c.self.view_is) at c.requires.live) c.args.msg c.args.reserved (Dispatched c.args.by) in
    rw (← c.self.view_is, goes) (record { live = omega (arith, rw is at l); calls = omega (arith, c.go_by.ensures.goes.spare); places = c.go_by.ensures.goes.tasks })

pub returns-clause-number : goal.returns-clause-number
returns-clause-number c = rw (← c.self.view_is, c.go_by.ensures.there) (ap (λ (n : ℕ). record { 0 = n }) (c.self.invariant.0.has_counts.numbered c.args.found.number.0 c.go_by.ensures.record_was c.go_by.ensures.there))
