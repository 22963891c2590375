use Rattle.state_words.proofs.MemorySplits.{parts_split}
use Rattle.state_words.proofs.laws.words_tell_kernels_apart.Goals as goal

pub returns : goal.returns
returns c = parts_split
