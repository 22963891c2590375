-- What is written of a program: all but what is constant and how many outcomes it took.
use Rattle.std.specs.Prelude.{ℕ, List, [], ◌∷◌, ◌++◌}
use Rattle.task_ends.specs.declared.introduced.Introduced.{Introduced}
use Rattle.task_ends.specs.declared.introduced.Wait.{Wait}
use Rattle.task_ends.specs.Ends.{EndsState}
use Rattle.raw_program.specs.Raw.{RawState}
use Rattle.naming_service.specs.declared.received.ReceivedCall.{ReceivedCall}
use Rattle.naming_service.specs.declared.received.Work.{Work}
use Rattle.naming_service.specs.declared.received.Work.TheVariants.{Answer, Forward}
use Rattle.naming_service.specs.Naming.{NamingState}
use Rattle.block_server.specs.declared.received.Work as block
use Rattle.block_server.specs.declared.received.Work.TheVariants as todo
use Rattle.block_server.specs.Blocks.{BlockState}
use Rattle.state_words.specs.Words.{number_words, bool_words, list_words, option_words}
use Rattle.state_words.specs.CallWords.{label_words, msg_words, reply_words}

-- ---- a raw program

-- the number of its next operation, and its registers
abbrev pub raw_words : RawState → List ℕ
raw_words p = number_words p.place ++ list_words number_words p.registers

-- ---- the naming service

-- a service and its phone
abbrev pub entry_words : ℕ × ℕ → List ℕ
entry_words e = e.0 ∷ e.1 ∷ []

-- a call that was received
abbrev pub received_words : ReceivedCall → List ℕ
received_words r = number_words r.number.0 ++ (msg_words r.msg ++ label_words r.label)

-- a piece of work, which is told by its first word
abbrev pub work_words : Work → List ℕ
work_words (Answer call reply) = 0 ∷ call.0 ∷ reply_words reply
work_words (Forward call phone msg) = 1 ∷ call.0 ∷ phone ∷ msg_words msg

-- a task that introduced itself
abbrev pub introduced_words : Introduced → List ℕ
introduced_words x =
    label_words x.label ++ (bool_words x.end.has ++ (number_words x.end.value ++ bool_words x.ended))

-- a call that waits for an end
abbrev pub wait_words : Wait → List ℕ
wait_words w = w.call.0 ∷ w.task ∷ []

-- the tasks that introduced themselves, and who waits for their ends
abbrev pub ends_words : EndsState → List ℕ
ends_words e = list_words introduced_words e.introduced ++ list_words wait_words e.waits

-- the services, the calls that wait for one, the ends, and what is to be done
abbrev pub naming_words : NamingState → List ℕ
naming_words s =
    list_words entry_words s.registry
    ++ (list_words received_words s.pending ++ (ends_words s.ends ++ list_words work_words s.work))

-- ---- a block server

-- a piece of work, which is told by its first word
abbrev pub block_work_words : block.Work → List ℕ
block_work_words (todo.Offer service) = 0 ∷ service ∷ []
block_work_words (todo.Drop base) = 1 ∷ base ∷ []
block_work_words (todo.Answer call reply) = 2 ∷ call.0 ∷ reply_words reply
block_work_words (todo.Show call at b) = 3 ∷ call.0 ∷ at ∷ b ∷ []
block_work_words (todo.Fetch call at b) = 4 ∷ call.0 ∷ at ∷ b ∷ []

-- the blocks, who has which window, and what is to be done
abbrev pub block_words : BlockState → List ℕ
block_words s =
    list_words (list_words number_words) s.blocks
    ++ (list_words (option_words label_words) s.slots ++ list_words block_work_words s.work)
