use Rattle.run_words.proofs.KernelSplits.{kernel_split}
use Rattle.run_words.proofs.kernels.words_tell_sound_kernels_apart.Goals as goal

pub returns : goal.returns
returns c = kernel_split
