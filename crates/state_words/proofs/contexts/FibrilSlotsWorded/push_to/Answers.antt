use Rattle.std.proofs.Common.{◌<◌, ◌++◌, ◌∙◌, ℕ, ap, subst}
use Rattle.state_words.proofs.Left.{left_words, one_more}
use Rattle.state_words.specs.AsyncWords.{slot_words}
use Rattle.state_words.proofs.Places.{slot_there}
use Rattle.state_words.proofs.contexts.FibrilSlotsWorded.push_to.Goals as goal

pub loop-slot-preserved : goal.loop-slot-preserved
loop-slot-preserved c =
    let slots = c.args.self.now in
    let k = c.loop-slot.slot in
    one_more _ _ _ _ _ _ c.loop-slot.invariant
    (left_words slot_words slots k _ (slot_there slots k (subst (λ (n : ℕ). k < n) c.count-count.ensures c.loop-slot-test.true)))
    (c.in_ok-push_to.ensures ∙ ap (λ z. c.loop-slot.out.items ++ slot_words z) c.get.ensures)
