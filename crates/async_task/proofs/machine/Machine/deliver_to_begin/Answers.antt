use Rattle.fibril_core.specs.Fibrils.{why_of}
use Rattle.async_task.specs.AsyncState.{Transition, context_or_new, without_entries}
use Rattle.async_task.specs.Answers.{answer_begin, is_for}
use Rattle.async_task.proofs.Delivered.{delivered, rested, gone_rests, over_rests, begin_takes}
use Rattle.async_task.proofs.Delivered.{other_rests}
use Rattle.async_task.proofs.machine.Machine.deliver_to_begin.Goals as goal

pub returns-in-Begin : goal.returns-in-Begin
returns-in-Begin c =
    let a = c.args.self.now.state in
    let m = c.end_wait.new.self in
    let out = c.end_wait.new.out in
    let f = c.args.awaited.fibril in
    let woken = is_for c.args.call (why_of a.order f) in
    let b = c.in-Begin in
    let given : Transition =
    answer_begin m.state f (context_or_new m.state f) b.handle b.session c.args.reply.now in
    delivered a c.args.awaited c.args.call c.args.reply.now m c.answer_begin.new.self c.args.out.now out
    c.answer_begin.new.out given c.requires.begin c.end_wait.ensures.ended
    (begin_takes m.state f c.args.call c.args.reply.now woken c.in-Some.t.now c.in-Some-present_op.op.now b.handle b.session
    c.in-Some.ensures c.in-Some-present_op.ensures b.is)
    c.answer_begin.ensures

pub returns-in_default : goal.returns-in_default
returns-in_default c =
    let a = c.args.self.now.state in
    let m = c.end_wait.new.self in
    let out = c.end_wait.new.out in
    let f = c.args.awaited.fibril in
    let woken = is_for c.args.call (why_of a.order f) in
    delivered a c.args.awaited c.args.call c.args.reply.now m m c.args.out.now out out (without_entries m.state)
    c.requires.begin c.end_wait.ensures.ended
    (gone_rests m.state f c.args.call c.args.reply.now woken c.in_default.ensures) (rested m out)

pub returns-in_default-present_op : goal.returns-in_default-present_op
returns-in_default-present_op c =
    let a = c.args.self.now.state in
    let m = c.end_wait.new.self in
    let out = c.end_wait.new.out in
    let f = c.args.awaited.fibril in
    let woken = is_for c.args.call (why_of a.order f) in
    delivered a c.args.awaited c.args.call c.args.reply.now m m c.args.out.now out out (without_entries m.state)
    c.requires.begin c.end_wait.ensures.ended
    (over_rests m.state f c.args.call c.args.reply.now woken c.in-Some.t.now c.in-Some.ensures c.in_default-present_op.ensures)
    (rested m out)

pub returns-in_default-op : goal.returns-in_default-op
returns-in_default-op c =
    let a = c.args.self.now.state in
    let m = c.end_wait.new.self in
    let out = c.end_wait.new.out in
    let f = c.args.awaited.fibril in
    let woken = is_for c.args.call (why_of a.order f) in
    delivered a c.args.awaited c.args.call c.args.reply.now m m c.args.out.now out out (without_entries m.state)
    c.requires.begin c.end_wait.ensures.ended
    (other_rests m.state f c.args.call c.args.reply.now woken c.in-Some.t.now c.in-Some-present_op.op.now c.in-Some.ensures
    c.in-Some-present_op.ensures c.in_default-op.not-Begin)
    (rested m out)
