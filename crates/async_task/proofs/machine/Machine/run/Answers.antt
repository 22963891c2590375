use Rattle.std.proofs.Common.{◌++◌, OnOk, sym, ap, subst, ◌∙◌}
use Rattle.std.proofs.lemmas.List.{append-nil}
use Rattle.ipc_ids.specs.declared.op.Op.TheVariants as op
use Rattle.async_task.specs.AsyncState.{Transition, Does}
use Rattle.async_task.proofs.Present.{other_op, other_turn, own_turn}
use Rattle.async_task.proofs.machine.Machine.run.Goals as goal

pub returns-in-CallSlot-clause-ok : goal.returns-in-CallSlot-clause-ok
returns-in-CallSlot-clause-ok c =
    let a = c.args.self.now.state in
    let p = c.in-Some-present_op.op.now in
    let same = own_turn a c.args.f c.in-Some.t.now p (op.CallSlot c.in-CallSlot.slot c.in-CallSlot.phone c.in-CallSlot.method c.in-CallSlot.args)
    c.args.got.now c.in-Some.ensures c.in-Some-present_op.ensures c.in-CallSlot.is in
    subst (λ (s : Transition). OnOk c.call_slot.result (Does c.call_slot.new.self c.args.out.now c.call_slot.new.out s))
    same c.call_slot.ensures.ok

pub returns-in-Wait-clause-ok : goal.returns-in-Wait-clause-ok
returns-in-Wait-clause-ok c =
    let a = c.args.self.now.state in
    let p = c.in-Some-present_op.op.now in
    let same = own_turn a c.args.f c.in-Some.t.now p (op.Wait c.in-Wait.slot)
    c.args.got.now c.in-Some.ensures c.in-Some-present_op.ensures c.in-Wait.is in
    subst (λ (s : Transition). Does c.wait_slot.new.self c.args.out.now c.wait_slot.new.out s)
    same c.wait_slot.ensures

pub returns-in-Next-clause-ok : goal.returns-in-Next-clause-ok
returns-in-Next-clause-ok c =
    let a = c.args.self.now.state in
    let p = c.in-Some-present_op.op.now in
    let same = own_turn a c.args.f c.in-Some.t.now p op.Next
    c.args.got.now c.in-Some.ensures c.in-Some-present_op.ensures c.in-Next.is in
    subst (λ (s : Transition). Does c.next_call.new.self c.args.out.now c.next_call.new.out s)
    same c.next_call.ensures

pub returns-in-Close-clause-ok : goal.returns-in-Close-clause-ok
returns-in-Close-clause-ok c =
    let a = c.args.self.now.state in
    let p = c.in-Some-present_op.op.now in
    let same = own_turn a c.args.f c.in-Some.t.now p (op.Close c.in-Close.session)
    c.args.got.now c.in-Some.ensures c.in-Some-present_op.ensures c.in-Close.is in
    subst (λ (s : Transition). Does c.close_op.new.self c.args.out.now c.close_op.new.out s)
    same c.close_op.ensures

pub returns-in-Yield-clause-ok : goal.returns-in-Yield-clause-ok
returns-in-Yield-clause-ok c =
    let a = c.args.self.now.state in
    let p = c.in-Some-present_op.op.now in
    let same = own_turn a c.args.f c.in-Some.t.now p op.Yield
    c.args.got.now c.in-Some.ensures c.in-Some-present_op.ensures c.in-Yield.is in
    subst (λ (s : Transition). Does c.yield_op.new.self c.args.out.now c.args.out.now s)
    same (record {
      state = c.yield_op.ensures;
      entries = sym (append-nil c.args.out.now.entries);
    })

pub returns-in_default-op : goal.returns-in_default-op
returns-in_default-op c =
    let a = c.args.self.now.state in
    let t = c.in-Some.t.now in
    let p = c.in-Some-present_op.op.now in
    let other = c.in_default-op in
    let does = other_op a c.args.f t p c.args.got.now other.not-CallSlot other.not-Send other.not-Wait
    other.not-Next other.not-Yield other.not-OpenSession other.not-Begin other.not-End other.not-Close in
    let same = sym (other_turn a c.args.f t p c.args.got.now c.in-Some.ensures c.in-Some-present_op.ensures does) in
    record {
      ok = record {
        state = c.raw_at.ensures.state ∙ ap (λ (s : Transition). s.state) same;
        entries =
            sym (append-nil c.args.out.now.entries)
            ∙ ap (λ (s : Transition). c.args.out.now.entries ++ s.entries) same;
      };
      unchanged = tt;
    }
