use Rattle.std.proofs.Common.{refl, sym, ap, ◌∙◌, arith}
use Rattle.answerbox.proofs.Keeping.{new_keeps, new_is}
use Rattle.std.specs.Ordering.{nat_cmp}
use Rattle.std.specs.FinMap.{len, len-empty}
use Rattle.call_slab.specs.declared.call.Call.{Call}
use Rattle.answerbox.specs.Calls.{bytes_in}
use Rattle.answerbox.specs.Stored.{calls_in}
use Rattle.answerbox.proofs.Used.{sum-none}
use Rattle.answerbox.proofs.boxes.Boxes.new.Goals as goal

pub invariant_of-result : goal.invariant_of-result
invariant_of-result c =
    (new_keeps c.new.result c.new-2.result.items c.new-3.result.items c.new.ensures.slots c.new.ensures.keys c.new.ensures.last c.new-2.ensures.items c.new-3.ensures.items, sym (sum-none bytes_in (calls_in c.new.result) (ap len (new_is c.new.result c.new-2.result.items c.new-3.result.items c.new.ensures.slots c.new.ensures.keys c.new-2.ensures.items c.new-3.ensures.items) ∙ len-empty nat_cmp Call)), omega arith)

pub returns-clause-calls : goal.returns-clause-calls
returns-clause-calls c = rw (new_is c.new.result c.new-2.result.items c.new-3.result.items c.new.ensures.slots c.new.ensures.keys c.new-2.ensures.items c.new-3.ensures.items) refl
