use Rattle.std.proofs.Common.{ℕ, Some, None, Option, IfSome, IsSome}
use Rattle.std.specs.FinMap.{get}
use Rattle.answerbox.specs.declared.chains.Chain.{Chain}
use Rattle.answerbox.specs.Chain.{Slots, next_put, next_link}
use Rattle.answerbox.proofs.Chain.{live_cores, cores-next_put}
use Rattle.answerbox.proofs.chains.pass_over.Goals as goal

still : (ch : Chain) (m : Slots) (b a p : Option ℕ) → IfSome p (λ k. IsSome (get m k)) → IfSome p (λ k. IsSome (get (next_put ch m b a) k))
still ch m b a None h = h
still ch m b a (Some k) h = live_cores (next_put ch m b a) m k (cores-next_put ch m b a k) h

pub put_previous-requires : goal.put_previous-requires
put_previous-requires g c = rw (c.put_next.ensures.calls, c.next-2.ensures) (record { live = still c.args.chain c.args.calls.now.slots c.previous.result c.next.result (next_link c.args.chain c.args.links.now) c.requires.after })
