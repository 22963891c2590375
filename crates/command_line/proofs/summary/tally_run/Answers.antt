use Rattle.std.proofs.Common.{◌≡◌, ◌+◌, ◌∙◌, arith, ap, length, refl, sym, add-one}
use Rattle.schedule_replay.specs.Replay.{ReplayState}
use Rattle.run_laws.proofs.RunHistories.{may_from, may_now, may_on}
use Rattle.command_line.proofs.Tallies.{one_more_event, no_more_events}
use Rattle.command_line.proofs.summary.tally_run.Goals as goal

pub loop-event-init : goal.loop-event-init
loop-event-init g c =
    let is = ap (λ (r : ReplayState). r.state) c.in_ok-replay.ensures.state in
    record {
      tally = rw (c.in_ok-replay.ensures.state) refl;
      may = may_from c.args.script.now (g.F.Feed.left c.args.feed.now) c.in_ok-replay.replay.state is c.requires.may;
      few = omega (arith, c.in_ok-replay.ensures.no_event, c.requires.few);
    }

pub loop-event-preserved : goal.loop-event-preserved
loop-event-preserved g c =
    let one : length (g.F.Feed.left c.loop-event.feed) ≡ length (g.F.Feed.left c.next.new.self) + 1 = ap length c.in-Some.ensures ∙ sym (add-one (length (g.F.Feed.left c.next.new.self))) in
    record {
      tally =
          rw
          (c.in-Ok-add_all.ensures, c.entries.ensures, c.in-Ok.ensures.entries, c.in-Ok.ensures.state, c.clear.ensures.entries)
          (one_more_event c.loop-event.replay.state c.in-Some.event (g.F.Feed.left c.loop-event.feed) (g.F.Feed.left c.next.new.self) _ _ c.in-Some.ensures c.loop-event.invariant.tally);
      may = may_on c.loop-event.replay.state _ c.in-Some.event (g.F.Feed.left c.loop-event.feed) (g.F.Feed.left c.next.new.self) c.in-Some.ensures (ap (λ (r : ReplayState). r.state) c.in-Ok.ensures.state) c.loop-event.invariant.may;
      few = omega (arith, c.loop-event.invariant.few, c.in-Ok.ensures.events);
    }

pub step-requires-clause-may : goal.step-requires-clause-may
step-requires-clause-may g c = may_now c.loop-event.replay.state c.in-Some.event (g.F.Feed.left c.loop-event.feed) (g.F.Feed.left c.next.new.self) c.in-Some.ensures c.loop-event.invariant.may

pub returns : goal.returns
returns g c = no_more_events c.loop-event.replay.state (g.F.Feed.left c.loop-event.feed) _ _ c.in_default.ensures.0 c.loop-event.invariant.tally
