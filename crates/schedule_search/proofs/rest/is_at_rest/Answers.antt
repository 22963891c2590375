use Rattle.std.proofs.Common.{ℕ, ◌≡◌, ◌<◌, ◌≤◌, ◌+◌, ◌-◌, true, false, length, ap, sym, ◌∙◌, subst, arith}
use Rattle.script_lines.specs.Sound.{IsTask}
use Rattle.task_system.specs.Run.{RunState}
use Rattle.schedule_search.specs.Meeting.{changes_nothing, is_at_rest}
use Rattle.schedule_search.proofs.Ranges.{all_on, not_all, all_seen}
use Rattle.schedule_search.proofs.rest.is_at_rest.Goals as goal

pub changes_nothing-requires-clause-there : goal.changes_nothing-requires-clause-there
changes_nothing-requires-clause-there c =
    let t : ℕ = c.loop-t.t in
    let n : ℕ = length c.args.replay.now.state.kernel.tasks.alive in
    let l : t < n = subst (λ (z : ℕ). t < z) c.tasks-count.ensures c.loop-t-test.true in
    let one : IsTask n (t + 1) = (omega arith, omega arith) in
    subst (λ (z : RunState). IsTask (length z.kernel.tasks.alive) (t + 1)) c.requires.here one

pub loop-t-preserved : goal.loop-t-preserved
loop-t-preserved c =
    let now : RunState = c.args.replay.now.state in
    let t : ℕ = c.loop-t.t in
    let n : ℕ = length now.kernel.tasks.alive in
    let l : t < n = subst (λ (z : ℕ). t < z) c.tasks-count.ensures c.loop-t-test.true in
    let holds : changes_nothing now (t + 1) ≡ true = ap (λ (z : RunState). changes_nothing z (t + 1)) c.requires.here ∙ sym c.in_ok-same.ensures ∙ c.if-not-same.false in
    all_on (changes_nothing now) (t + 1) (n - t) (n - (t + 1)) (is_at_rest now) (omega arith) holds c.loop-t.invariant

pub returns-then-not-same : goal.returns-then-not-same
returns-then-not-same c =
    let now : RunState = c.args.replay.now.state in
    let t : ℕ = c.loop-t.t in
    let n : ℕ = length now.kernel.tasks.alive in
    let l : t < n = subst (λ (z : ℕ). t < z) c.tasks-count.ensures c.loop-t-test.true in
    let fails : changes_nothing now (t + 1) ≡ false = ap (λ (z : RunState). changes_nothing z (t + 1)) c.requires.here ∙ sym c.in_ok-same.ensures ∙ c.if-not-same.true in
    not_all (changes_nothing now) (t + 1) (n - t) (n - (t + 1)) (is_at_rest now) (omega arith) fails c.loop-t.invariant

pub returns : goal.returns
returns c =
    let now : RunState = c.args.replay.now.state in
    let t : ℕ = c.loop-t.t in
    let n : ℕ = length now.kernel.tasks.alive in
    let l : n ≤ t = subst (λ (z : ℕ). z ≤ t) c.tasks-count.ensures c.loop-t-test.false in
    all_seen (changes_nothing now) (t + 1) (n - t) (is_at_rest now) (omega arith) c.loop-t.invariant
