-- A sound state of the kernel is read again from its words, but for how many events there were, and for the stamps of
-- calls, of which the order within each place is read.
use Rattle.std.proofs.Common.{ℕ, ◌≡◌, Bool, List, ◌++◌, ◌∙◌, ap}
use Rattle.ipc_ids.specs.declared.message.PhoneState.{PhoneState}
use Rattle.switchboard.specs.State.{Tasks, KernelState}
use Rattle.switchboard.specs.Sound.{IsSound}
use Rattle.state_words.specs.Apart.{AreBelow}
use Rattle.state_words.proofs.MemorySplits.{parts_split}
use Rattle.run_words.specs.Kernel.{kernel_words, AreAlikeKernels}

-- no live call has a number that is still to come
below : (k : KernelState) → IsSound k → AreBelow k.calls
below k h n c e = (h.calls.each n c e).below

-- the tasks, of these parts
abbrev tasks_of : List Bool → List (List PhoneState) → Tasks
tasks_of alive phones = record { alive = alive; phones = phones }

pub kernel_split : (a b : KernelState) (s t : List ℕ) → IsSound a → IsSound b
    → kernel_words a ++ s ≡ kernel_words b ++ t → AreAlikeKernels a b × (s ≡ t)
kernel_split a b s t h k e =
    let same = parts_split a.tasks.alive b.tasks.alive a.tasks.phones b.tasks.phones a.calls b.calls a.memory b.memory s t
    (below a h) (below b k) h.memory.held.old k.memory.held.old e in (
      record {
        tasks = ap (λ (z : List Bool). tasks_of z a.tasks.phones) same.alive ∙ ap (tasks_of b.tasks.alive) same.phones;
        calls = same.calls;
        memory = same.spaces;
      },
      same.rest,
    )
