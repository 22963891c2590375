-- States of a run that differ in counts alone: in how many events there were, and in how many outcomes each program
-- took.
use Rattle.std.specs.Prelude.{List, map, ◌≡◌}
use Rattle.raw_program.specs.Raw.{RawState}
use Rattle.naming_service.specs.Naming.{NamingState}
use Rattle.async_task.specs.Program.{AsyncTask}
use Rattle.block_server.specs.Blocks.{BlockState}
use Rattle.task_system.specs.declared.any.AnyProgram.{AnyProgram}
use Rattle.task_system.specs.declared.any.AnyProgram.TheVariants as any
use Rattle.task_system.specs.Run.{RunState, RunTransition}
use Rattle.run_words.specs.Counted.{with_count}

-- a program of each kind, as if it had taken no outcome
abbrev pub uncounted_raw : RawState → RawState
uncounted_raw p = record { ops = p.ops; place = p.place; registers = p.registers; taken = 0 }

abbrev pub uncounted_naming : NamingState → NamingState
uncounted_naming p = record { registry = p.registry; pending = p.pending; ends = p.ends; work = p.work; taken = 0 }

abbrev pub uncounted_async : AsyncTask → AsyncTask
uncounted_async p = record { state = p.state; taken = 0 }

abbrev pub uncounted_block : BlockState → BlockState
uncounted_block p = record { blocks = p.blocks; slots = p.slots; work = p.work; taken = 0 }

abbrev pub uncounted_program : AnyProgram → AnyProgram
uncounted_program (any.Raw p) = any.Raw (uncounted_raw p)
uncounted_program (any.Naming p) = any.Naming (uncounted_naming p)
uncounted_program (any.Async p) = any.Async (uncounted_async p)
uncounted_program (any.Block p) = any.Block (uncounted_block p)

-- each of the programs likewise
abbrev pub uncounted_programs : List AnyProgram → List AnyProgram
uncounted_programs programs = map uncounted_program programs

-- the state, as if there had been no event, and no program had taken an outcome
abbrev pub uncounted : RunState → RunState
uncounted now =
    record {
      kernel = with_count 0 now.kernel;
      programs = uncounted_programs now.programs;
      templates = now.templates;
      names = now.names;
    }

-- the programs differ in how many outcomes they took alone
abbrev pub AreAlikePrograms : AnyProgram → AnyProgram → Type 0
AreAlikePrograms p q = uncounted_program p ≡ uncounted_program q

-- the states differ in these counts alone
abbrev pub AreAlikeStates : RunState → RunState → Type 0
AreAlikeStates a b = uncounted a ≡ uncounted b

-- the events have the same entries, and leave states that differ in these counts alone
pub record AreAlikeTurns (a b : RunTransition) : Type 0 where
  pub entries : a.entries ≡ b.entries
  pub state : AreAlikeStates a.state b.state
