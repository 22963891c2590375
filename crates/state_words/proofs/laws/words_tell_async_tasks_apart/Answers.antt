use Rattle.state_words.proofs.AsyncSplits.{async_split}
use Rattle.state_words.proofs.laws.words_tell_async_tasks_apart.Goals as goal

pub returns : goal.returns
returns c = async_split
