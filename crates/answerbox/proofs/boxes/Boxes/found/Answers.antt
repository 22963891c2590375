use Rattle.answerbox.proofs.Names.{live_key}
use Rattle.answerbox.proofs.boxes.Boxes.found.Goals as goal

pub unwrap-key-requires : goal.unwrap-key-requires
unwrap-key-requires g c = rw c.key_of.ensures.key (live_key c.self.inside.calls c.args.call.0 c.self.invariant.0.named (rw (← c.self.view_is) at c.requires.live))
