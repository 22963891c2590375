use Rattle.std.proofs.Common.{ℕ, ◌≡◌, ◌<◌, ◌≤◌, ◌+◌, ◌-◌, true, false, ap, sym, ◌∙◌, subst, arith}
use Rattle.answerbox.specs.Calls.{call_at}
use Rattle.schedule_search.specs.OpenCalls.{is_open, has_open_call}
use Rattle.schedule_search.proofs.Ranges.{any_on, any_here, none_seen}
use Rattle.schedule_search.proofs.open_calls.has_open_call.Goals as goal

pub loop-n-preserved : goal.loop-n-preserved
loop-n-preserved c =
    let calls = c.args.boxes.now.calls in
    let n : ℕ = c.loop-n.n in
    let l : n < calls.next_number = subst (λ (z : ℕ). n < z) c.next_number-next.ensures.number c.loop-n-test.true in
    let fails : is_open c.args.asked (call_at calls n) ≡ false = ap (is_open c.args.asked) (sym c.get.ensures.call) ∙ sym c.is_open.ensures ∙ c.if-is_open.false in
    any_on (λ (k : ℕ). is_open c.args.asked (call_at calls k)) n (calls.next_number - n) (calls.next_number - (n + 1)) (has_open_call c.args.asked calls)
    (omega arith) fails c.loop-n.invariant

pub returns-then-is_open : goal.returns-then-is_open
returns-then-is_open c =
    let calls = c.args.boxes.now.calls in
    let n : ℕ = c.loop-n.n in
    let l : n < calls.next_number = subst (λ (z : ℕ). n < z) c.next_number-next.ensures.number c.loop-n-test.true in
    let holds : is_open c.args.asked (call_at calls n) ≡ true = ap (is_open c.args.asked) (sym c.get.ensures.call) ∙ sym c.is_open.ensures ∙ c.if-is_open.true in
    any_here (λ (k : ℕ). is_open c.args.asked (call_at calls k)) n (calls.next_number - n) (calls.next_number - (n + 1)) (has_open_call c.args.asked calls)
    (omega arith) holds c.loop-n.invariant

pub returns : goal.returns
returns c =
    let calls = c.args.boxes.now.calls in
    let n : ℕ = c.loop-n.n in
    let l : calls.next_number ≤ n = subst (λ (z : ℕ). z ≤ n) c.next_number-next.ensures.number c.loop-n-test.false in
    none_seen (λ (k : ℕ). is_open c.args.asked (call_at calls k)) n (calls.next_number - n) (has_open_call c.args.asked calls)
    (omega arith) c.loop-n.invariant
