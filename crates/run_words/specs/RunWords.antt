-- What is written of the state of a run: its kernel and its programs. Nothing is written of what no event changes, as
-- of which kind a program is, nor of how many events there were and how many outcomes each program took, nor of the
-- stamps of calls but their order within each place.
use Rattle.std.specs.Prelude.{ℕ, List, ◌++◌}
use Rattle.std.specs.List.{flat_map}
use Rattle.task_system.specs.declared.any.AnyProgram.{AnyProgram}
use Rattle.task_system.specs.declared.any.AnyProgram.TheVariants as any
use Rattle.task_system.specs.Run.{RunState}
use Rattle.state_words.specs.ProgramWords.{raw_words, naming_words, block_words}
use Rattle.state_words.specs.AsyncWords.{async_words}
use Rattle.run_words.specs.Kernel.{kernel_words}

-- a program, by its kind
abbrev pub any_words : AnyProgram → List ℕ
any_words (any.Raw p) = raw_words p
any_words (any.Naming p) = naming_words p
any_words (any.Async p) = async_words p.state
any_words (any.Block p) = block_words p

-- the kernel, and then the program of each task in turn
abbrev pub run_words : RunState → List ℕ
run_words now = kernel_words now.kernel ++ flat_map any_words now.programs
