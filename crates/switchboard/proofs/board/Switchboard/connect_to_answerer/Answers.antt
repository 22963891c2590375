use Rattle.std.proofs.Common.{rules, ◌≡◌, arith, refl, inr, length}
use Rattle.ipc_ids.specs.declared.message.PhoneState.TheVariants.{Connected}
use Rattle.ipc_ids.specs.declared.methods.MethodKind.TheVariants.{ConnectMeTo}
use Rattle.call_slab.specs.declared.call.Place.TheVariants.{Answers}
use Rattle.answerbox.specs.Calls.{put_at}
use Rattle.switchboard.specs.Board.{IsAdded, IsHeldCall}
use Rattle.switchboard.specs.Kept.{kept_phone}
use Rattle.switchboard.proofs.Inner.{inner}
use Rattle.switchboard.proofs.Keepers.{waiting_there}
use Rattle.switchboard.proofs.KeptCalls.{answerer_keeps, kept_put, put_unkept}
use Rattle.switchboard.proofs.Live.{live_reply}
use Rattle.switchboard.proofs.Switched.{leads_here, switched_kept, switched_put}
use Rattle.switchboard.proofs.Usable.{kept_waits}
use Rattle.switchboard.proofs.board.Switchboard.connect_to_answerer.Goals as goal

pub connect_to_answerer-requires : goal.connect_to_answerer-requires
connect_to_answerer-requires c =
    let i = c.self.inside in
    let r = c.go_by-kept.ensures.record_was in
    let is = c.go_by-kept.ensures.there in
    let keeps : c.go_by-kept.result ≡ kept_phone r = search rules in
    record { waits = rw keeps (kept_waits i.phones.states i.boxes.calls c.args.found.number.0 r c.self.invariant.0.kept is) }

pub invariant_of-self : goal.invariant_of-self
invariant_of-self c =
    let i = c.self.inside in
    let r = c.go_by-kept.ensures.record_was in
    let is = c.go_by-kept.ensures.there in
    let held : IsHeldCall r ConnectMeTo c.args.t c.args.caller = rw is at (rw (← c.self.view_is) at c.requires.held) in
    let added : IsAdded (inner i) c.args.t = rw (← c.self.view_is) at c.requires.added in
    let number = c.self.invariant.0.has_counts.numbered c.args.found.number.0 r is in
    let none = answerer_keeps r c.args.t c.args.caller c.args.reply.now held c.requires.accepts in
    let kept = kept_put (inner i) c.args.found.number.0 r (record r { reply = c.args.reply.now }) (Answers c.args.caller) c.self.invariant.0.kept is number (inr (rw none tt)) in
    let goes : c.go_by-kept.new.self.calls ≡ put_at i.boxes.calls (record r { reply = c.args.reply.now }) (Answers c.args.caller) = search rules in
    let keeps : c.go_by-kept.result ≡ kept_phone r = search rules in
    rw (goes, c.go_by-kept.ensures.goes.tasks, c.connect_to_answerer.ensures.states, c.connect_to_answerer.ensures.counts, keeps) (
      switched_kept (kept_phone r) (Connected c.args.t)
          (switched_put c.args.found.number.0 r (record r { reply = c.args.reply.now }) (Answers c.args.caller) c.self.invariant.0 is refl refl refl refl kept)
          (waiting_there i.phones.states (kept_phone r) (kept_waits i.phones.states i.boxes.calls c.args.found.number.0 r c.self.invariant.0.kept is))
          (leads_here c.args.t (length i.alive.items) added.task)
          (put_unkept (inner i) c.args.found.number.0 r (record r { reply = c.args.reply.now }) (Answers c.args.caller) c.self.invariant.0.kept is number none),
      c.self.invariant.1,
    )

pub returns-clause-room : goal.returns-clause-room
returns-clause-room c =
    let i = c.self.inside in
    let r = c.go_by-kept.ensures.record_was in
    let is = c.go_by-kept.ensures.there in
    let l = live_reply i.phones.states i.phones.counts i.boxes.calls c.args.found.number.0 c.self.invariant.0.has_counts (rw is refl) c.args.reply.now c.args.caller in
    let goes : c.go_by-kept.new.self.calls ≡ put_at i.boxes.calls (record r { reply = c.args.reply.now }) (Answers c.args.caller) = search rules in
    rw (← c.self.view_is, goes) (record { live = omega (arith, rw is at l); calls = omega (arith, c.go_by-kept.ensures.goes.spare); places = c.go_by-kept.ensures.goes.tasks })
