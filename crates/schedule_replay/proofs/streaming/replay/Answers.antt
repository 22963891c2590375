use Rattle.std.proofs.Common.{◌≡◌, ◌≤◌, ◌+◌, ◌∙◌, ◌++◌, refl, sym, ap, length, take, arith, add-one}
use Rattle.trace_print.specs.Text.{text_of}
use Rattle.task_system.specs.Run.{turn}
use Rattle.schedule_replay.specs.Replay.{ReplayState}
use Rattle.run_laws.proofs.RunHistories.{may_from, may_now, may_on}
use Rattle.run_laws.proofs.LawfulRuns.{lawful_of_script}
use Rattle.schedule_replay.proofs.Sending.{on_error}
use Rattle.schedule_replay.proofs.UnderWay.{begun, stepped, ended, part_waiting, part_stepped, keeps_up_at, keeps_up_ended, keeps_up_or}
use Rattle.schedule_replay.proofs.streaming.replay.Goals as goal

pub loop-event-init : goal.loop-event-init
loop-event-init g c = record {
  under_way = begun c.args.script.now (g.F.Feed.left c.args.feed.now) _ (g.K.Sink.written c.args.sink.now) _ (ap (λ (r : ReplayState). r.state) c.in_ok-replay.ensures.state) c.new-buffer.ensures;
  few = omega (arith, c.in_ok-replay.ensures.no_event, c.requires.few);
  may = may_from c.args.script.now (g.F.Feed.left c.args.feed.now) _ (ap (λ (r : ReplayState). r.state) c.in_ok-replay.ensures.state) c.requires.may;
  none = refl;
}

pub loop-event-preserved : goal.loop-event-preserved
loop-event-preserved g c =
    let made = (turn c.loop-event.replay.state c.in-Some.event).entries in
    let told : c.entries.result.now ≡ made = c.entries.ensures ∙ c.in-Ok.ensures.entries ∙ ap (λ v. v ++ made) c.clear.ensures.entries in
    let one : length (g.F.Feed.left c.loop-event.feed) ≡ length (g.F.Feed.left c.next.new.self) + 1 = ap length c.in-Some.ensures ∙ sym (add-one (length (g.F.Feed.left c.next.new.self))) in
    record {
      under_way = stepped _ _ _ _ _ _ _ _ _ _ _ _ _ c.loop-event.invariant.under_way c.in-Some.ensures (ap (λ (r : ReplayState). r.state) c.in-Ok.ensures.state) told c.in-Ok-write_entries.ensures.ok;
      few = omega (arith, c.loop-event.invariant.few, c.in-Ok.ensures.events);
      may = may_on c.loop-event.replay.state _ c.in-Some.event (g.F.Feed.left c.loop-event.feed) (g.F.Feed.left c.next.new.self) c.in-Some.ensures (ap (λ (r : ReplayState). r.state) c.in-Ok.ensures.state) c.loop-event.invariant.may;
      none = c.in-Ok-write_entries.ensures.none ∙ c.loop-event.invariant.none;
    }

pub step-requires-clause-may : goal.step-requires-clause-may
step-requires-clause-may g c = may_now c.loop-event.replay.state c.in-Some.event (g.F.Feed.left c.loop-event.feed) (g.F.Feed.left c.next.new.self) c.in-Some.ensures c.loop-event.invariant.may

-- want of memory in an event

pub returns-in-Err-clause-err : goal.returns-in-Err-clause-err
returns-in-Err-clause-err g c = part_waiting _ _ _ _ _ (g.K.Sink.written c.loop-event.sink) (g.K.Sink.written c.try_flush.new.sink) _ c.loop-event.invariant.under_way c.try_flush.ensures.part

pub returns-in-Err-clause-keeps_up : goal.returns-in-Err-clause-keeps_up
returns-in-Err-clause-keeps_up g c =
    let part = c.try_flush.ensures.part in
    let written = take part.0 c.loop-event.buffer in
    let short : length c.loop-event.buffer ≤ length written + 4096 = omega (arith, c.try_flush.ensures.short) in
    keeps_up_at 4096 _ _ _ _ _ _ _ (g.K.Sink.written c.loop-event.sink) (g.K.Sink.written c.try_flush.new.sink) _ written c.loop-event.invariant.under_way c.in-Some.ensures short part.1

pub returns-in-Err-clause-memory : goal.returns-in-Err-clause-memory
returns-in-Err-clause-memory g c = λ _. rw (sym c.loop-event.invariant.none) (keeps_up_or _ _ _ _ _ _ _ _ (g.K.Sink.written c.loop-event.sink) (g.K.Sink.written c.try_flush.new.sink) _ c.loop-event.invariant.under_way c.in-Some.ensures c.try_flush.ensures.whole)

-- a put failed in an event

pub returns-in-Err-write_entries-clause-err : goal.returns-in-Err-write_entries-clause-err
returns-in-Err-write_entries-clause-err g c =
    let made = (turn c.loop-event.replay.state c.in-Some.event).entries in
    let told : c.entries.result.now ≡ made = c.entries.ensures ∙ c.in-Ok.ensures.entries ∙ ap (λ v. v ++ made) c.clear.ensures.entries in
    part_stepped _ _ _ _ _ _ c.entries.result.now _ (g.K.Sink.written c.loop-event.sink) (g.K.Sink.written c.write_entries.new.sink) _ c.loop-event.invariant.under_way c.in-Some.ensures told c.in-Err-write_entries.ensures.err

pub returns-in-Err-write_entries-clause-keeps_up :
    goal.returns-in-Err-write_entries-clause-keeps_up
returns-in-Err-write_entries-clause-keeps_up g c =
    let part = c.in-Err-write_entries.ensures.err in
    let written = take part.0 (c.loop-event.buffer ++ text_of c.entries.result.now) in
    let short : length c.loop-event.buffer ≤ length written + 4096 = omega (arith, c.write_entries.ensures.short) in
    keeps_up_at 4096 _ _ _ _ _ _ _ (g.K.Sink.written c.loop-event.sink) (g.K.Sink.written c.write_entries.new.sink) _ written c.loop-event.invariant.under_way c.in-Some.ensures short part.1

-- the last put failed

pub returns-in_err-flush-clause-err : goal.returns-in_err-flush-clause-err
returns-in_err-flush-clause-err g c = on_error _ _ c.from_residual-in_err-flush.result _ (part_waiting _ _ _ _ _ (g.K.Sink.written c.loop-event.sink) (g.K.Sink.written c.flush.new.sink) _ c.loop-event.invariant.under_way c.in_err-flush.ensures.part)

pub returns-in_err-flush-clause-keeps_up : goal.returns-in_err-flush-clause-keeps_up
returns-in_err-flush-clause-keeps_up g c =
    let part = c.in_err-flush.ensures.part in
    let written = take part.0 c.loop-event.buffer in
    let short : length c.loop-event.buffer ≤ length written + 4096 = omega (arith, c.flush.ensures.short) in
    on_error _ _ c.from_residual-in_err-flush.result _ (keeps_up_ended 4096 _ _ _ _ _ _ (g.K.Sink.written c.loop-event.sink) (g.K.Sink.written c.flush.new.sink) _ written c.loop-event.invariant.under_way c.in_default.ensures.0 c.in_default.ensures.1 short part.1)

-- no event is left

pub returns-clause-ok : goal.returns-clause-ok
returns-clause-ok g c = ended _ _ _ _ _ (g.K.Sink.written c.loop-event.sink) (g.K.Sink.written c.flush.new.sink) _ c.loop-event.invariant.under_way c.in_default.ensures.0 c.in_ok-flush.ensures.ok

-- the run keeps the laws, however the replay ends

pub returns-in_err-replay-clause-lawful : goal.returns-in_err-replay-clause-lawful
returns-in_err-replay-clause-lawful g c = lawful_of_script _ c.args.script.now (g.F.Feed.left c.args.feed.now) c.script.view_is c.script.invariant c.requires.may

pub returns-in-Err-clause-lawful : goal.returns-in-Err-clause-lawful
returns-in-Err-clause-lawful g c = lawful_of_script _ c.args.script.now (g.F.Feed.left c.args.feed.now) c.script.view_is c.script.invariant c.requires.may

pub returns-in-Err-write_entries-clause-lawful : goal.returns-in-Err-write_entries-clause-lawful
returns-in-Err-write_entries-clause-lawful g c = lawful_of_script _ c.args.script.now (g.F.Feed.left c.args.feed.now) c.script.view_is c.script.invariant c.requires.may

pub returns-in_err-flush-clause-lawful : goal.returns-in_err-flush-clause-lawful
returns-in_err-flush-clause-lawful g c = lawful_of_script _ c.args.script.now (g.F.Feed.left c.args.feed.now) c.script.view_is c.script.invariant c.requires.may

pub returns-clause-lawful : goal.returns-clause-lawful
returns-clause-lawful g c = lawful_of_script _ c.args.script.now (g.F.Feed.left c.args.feed.now) c.script.view_is c.script.invariant c.requires.may
