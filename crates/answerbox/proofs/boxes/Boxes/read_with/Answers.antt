use Rattle.answerbox.proofs.Names.{live_key}
use Rattle.answerbox.proofs.Keeping.{call_is}
use Rattle.answerbox.proofs.boxes.Boxes.read_with.Goals as goal

pub key_for-key-requires : goal.key_for-key-requires
key_for-key-requires g c = record { live = live_key c.self.inside.calls c.args.found.number.0 c.self.invariant.0.named (rw (← c.self.view_is) at c.requires.live) }

pub returns-clause-call : goal.returns-clause-call
returns-clause-call g c = rw (← c.self.view_is) (call_is c.self.inside.calls c.args.found.number.0 c.key_for-key.result c.get.result.now c.self.invariant.0.named c.key_for-key.ensures.key c.get.ensures.call)
