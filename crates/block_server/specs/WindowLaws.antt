-- What a block server does with its blocks, windows and slots, in the words of states, requests and outcomes.
use Rattle.std.specs.Prelude.{ℕ, ◌≡◌, ◌<◌, List, [], ◌∷◌, Option, None, Some, length, slice_get}
use Rattle.ipc_ids.specs.declared.numbers.CallNo.{CallNo}
use Rattle.ipc_ids.specs.declared.numbers.Code.{Code}
use Rattle.ipc_ids.specs.declared.numbers.Label.{Label}
use Rattle.ipc_ids.specs.declared.message.Outcome.{Outcome}
use Rattle.ipc_ids.specs.declared.message.Outcome.TheVariants as outcome
use Rattle.ipc_ids.specs.declared.message.Request.TheVariants as request
use Rattle.ipc_ids.specs.Codes.{eok}
use Rattle.block_server.specs.declared.received.ReceivedCall.{ReceivedCall}
use Rattle.block_server.specs.declared.received.Work.TheVariants.{Drop}
use Rattle.block_server.specs.Blocks.{BlockState, answering, window, first_work, wanted, after, code_of}

-- the outcome that tells of a received call
abbrev pub receipt : ReceivedCall → Outcome
receipt r = outcome.Received r.number r.msg r.label

-- the slot is that of the client
abbrev pub IsSlotOf : List (Option Label) → ℕ → Label → Type 0
IsSlotOf slots slot label = slice_get slots slot ≡ Some (Some label)

-- no two slots have one label
abbrev pub SlotsDiffer : List (Option Label) → Type 0
SlotsDiffer slots = (i j : ℕ) (label : Label) → IsSlotOf slots i label → IsSlotOf slots j label → i ≡ j

-- a read pokes the bytes of the block, changes no block, and is answered by what came of it
pub record ReadsBlock (s : BlockState) (call : CallNo) (at block : ℕ) : Type 0 where
  pub pokes : (bytes : List ℕ) → slice_get s.blocks block ≡ Some bytes → wanted s ≡ request.Poke at bytes
  pub blocks : (o : Outcome) → (after s o).blocks ≡ s.blocks
  pub answers : (o : Outcome) → first_work (after s o) ≡ Some (answering call (code_of o))

-- a write peeks 64 bytes; they become the block, and no other changes; a refusal changes none
pub record WritesBlock (s : BlockState) (call : CallNo) (at block : ℕ) : Type 0 where
  pub peeks : wanted s ≡ request.Peek at 64
  pub taken : (bytes : List ℕ) → block < length s.blocks → slice_get (after s (outcome.Bytes bytes)).blocks block ≡ Some bytes
  pub others : (o : Outcome) (other : ℕ) → (other ≡ block → ⊥) → slice_get (after s o).blocks other ≡ slice_get s.blocks other
  pub refused : (code : Code) → (after s (outcome.Refused code)).blocks ≡ s.blocks
  pub answers : (o : Outcome) → first_work (after s o) ≡ Some (answering call (code_of o))

-- the client of this slot is gone: its window is dropped before the hangup is answered, and its slot is free
pub record LetsGo (s now : BlockState) (r : ReceivedCall) (slot : ℕ) : Type 0 where
  pub work : now.work ≡ Drop (window slot) ∷ answering r.number eok ∷ []
  pub free : slice_get now.slots slot ≡ Some None
  pub others : (other : ℕ) → (other ≡ slot → ⊥) → slice_get now.slots other ≡ slice_get s.slots other
  pub blocks : now.blocks ≡ s.blocks
