use Rattle.state_words.proofs.Left.{left_at, one_more}
use Rattle.state_words.specs.ProgramWords.{entry_words}
use Rattle.state_words.proofs.naming.push_registry.Goals as goal

pub loop-place-preserved : goal.loop-place-preserved
loop-place-preserved c = one_more _ _ _ _ _ _ c.loop-place.invariant (left_at entry_words c.args.registry.now.entries c.loop-place.place) c.in_ok-push_entry_at.ensures
