-- What the entries so far, the newest first, tell of areas and of how calls were made, in the state
-- of the kernel between two events.
use Rattle.std.specs.Prelude.{ℕ, suc, ◌≡◌, ◌≤◌, ◌⊎◌, List, Option, None, Some}
use Rattle.ipc_ids.specs.declared.numbers.TaskNo.{TaskNo}
use Rattle.ipc_ids.specs.declared.message.Request.TheVariants as request
use Rattle.ipc_ids.specs.declared.entry.Entry.{Entry}
use Rattle.ipc_ids.specs.declared.entry.Entry.TheVariants as entry
use Rattle.ipc_ids.specs.Methods.{share_out, share_in}
use Rattle.ipc_ids.specs.Holdings as entries
use Rattle.ipc_ids.specs.Holdings.{Holding, last_store, making}
use Rattle.ipc_ids.specs.AreaLaw.{WereLawful}
use Rattle.call_slab.specs.declared.call.Call.{Call}
use Rattle.answerbox.specs.Calls.{call_at}
use Rattle.address_space.specs.Areas.{Area}
use Rattle.address_space.specs.Memory.{area_at}
use Rattle.switchboard.specs.State.{KernelState}

-- an area, as entries tell of it
abbrev pub holding : Option Area → Option Holding
holding None = None
holding (Some a) = Some (record { pages = a.pages; rights = a.rights; store = a.store })

-- this is the head of a call with these arguments
abbrev pub Asks : List ℕ → Option Entry → Type 0
Asks args (Some (entry.Head t (request.Call phone msg))) = msg.args ≡ args
Asks args _ = ⊥

-- this is the method of a share call
abbrev pub IsShare : ℕ → Type 0
IsShare method = (method ≡ share_out) ⊎ (method ≡ share_in)

-- the entries tell how call n was made, as its record c does
pub record IsMadeAs (q : List Entry) (n : ℕ) (c : Call) : Type 0 where
  pub number : c.number.0 ≡ n
  pub asked : Option Entry
  pub made : making n q ≡ Some (record { caller = c.from.task.0; method = c.request.method; asked = asked })
  -- where it shares, a task asked for it with these arguments; a data call may have been cut down
  pub arguments : IsShare c.request.method → Asks c.request.args asked

-- the entries so far fit the memory and the calls of the state
pub record AreasFit (q : List Entry) (k : KernelState) : Type 0 where
  -- each was lawful as it came
  pub lawful : WereLawful q
  -- the areas that are held are those of the tasks, with pages, rights and store
  pub held : (t : TaskNo) (base : ℕ) → 1 ≤ t.0 → entries.held t.0 base q ≡ holding (area_at k.memory t base)
  -- the next store has the number after the greatest so far
  pub stores : suc (last_store q) ≡ k.memory.next_store
  pub calls : (n : ℕ) (c : Call) → call_at k.calls n ≡ Some c → IsMadeAs q n c
