-- What is written of the state of the kernel: all but how many events there were and what the stamps of calls are,
-- of which only their order within each place is told; and what it says that two kernels go on alike.
use Rattle.std.specs.Prelude.{ℕ, ◌≡◌, List}
use Rattle.switchboard.specs.State.{KernelState, Transition}
use Rattle.switchboard.specs.Serving.{Served}
use Rattle.state_words.specs.KernelWords.{parts_words}
use Rattle.state_words.specs.Order.{AreOfOneOrder}

-- who is alive, the phones, the live calls with their order within each place, and the memory
abbrev pub kernel_words : KernelState → List ℕ
kernel_words k = parts_words k.tasks.alive k.tasks.phones k.calls k.memory

-- two states differ in how many events there were, and in stamps of calls that stand in one order within each place, alone
pub record AreAlikeKernels (a b : KernelState) : Type 0 where
  pub tasks : a.tasks ≡ b.tasks
  pub calls : AreOfOneOrder a.calls b.calls
  pub memory : a.memory ≡ b.memory

-- two steps have the same entries, and leave states of the same words
pub record AreAlikeSteps (a b : Transition) : Type 0 where
  pub entries : a.entries ≡ b.entries
  pub words : kernel_words a.state ≡ kernel_words b.state

-- two requests come to the same outcome, likewise
pub record AreServedAlike (a b : Served) : Type 0 where
  pub outcome : a.outcome ≡ b.outcome
  pub entries : a.entries ≡ b.entries
  pub words : kernel_words a.state ≡ kernel_words b.state
