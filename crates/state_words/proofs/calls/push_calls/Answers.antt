use Rattle.std.proofs.Common.{◌≡◌, ◌<◌, ℕ, List, ◌++◌, Option, subst, ◌∙◌, ap}
use Rattle.state_words.specs.Words.{option_words}
use Rattle.state_words.specs.CallWords.{call_words}
use Rattle.call_slab.specs.declared.call.Call.{Call}
use Rattle.answerbox.specs.Calls.{call_at}
use Rattle.state_words.specs.declared.stands.Stand.{Stand}
use Rattle.state_words.specs.Order.{stands}
use Rattle.state_words.proofs.Left.{left_calls, one_more}
use Rattle.state_words.proofs.calls.push_calls.Goals as goal

-- what was written of a call, where it and those that stand are known by other names
written_as : (new out : List ℕ) (m n : List Stand) (o p : Option Call) → new ≡ out ++ option_words (call_words m) o → m ≡ n → o ≡ p → new ≡ out ++ option_words (call_words n) p
written_as new out m n o p e f g =
    e ∙ ap (λ (z : List Stand). out ++ option_words (call_words z) o) f ∙ ap (λ (z : Option Call). out ++ option_words (call_words n) z) g

pub loop-n-preserved : goal.loop-n-preserved
loop-n-preserved c =
    let calls = c.args.boxes.now.calls in
    let l : c.loop-n.n < calls.next_number = subst (λ (z : ℕ). c.loop-n.n < z) c.next_number-next.ensures.number c.loop-n-test.true in
    let now = written_as _ c.loop-n.out.items c.deref.result.now (stands calls) _ (call_at calls c.loop-n.n) c.in_ok-push_found.ensures (c.deref.ensures.value ∙ c.in_ok-stands.ensures) c.get.ensures.call in
    one_more _ _ _ _ _ _ c.loop-n.invariant (left_calls (stands calls) calls c.loop-n.n _ l) now
