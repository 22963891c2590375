-- Messages and answers have five arguments: so the operations of scripts do, and so programs ask.
use Rattle.std.specs.Prelude.{◌≡◌, ℕ, ⊤, All, List, [], ◌∷◌, length, Option, None, Some}
use Rattle.ipc_ids.specs.declared.message.Request.{Request}
use Rattle.ipc_ids.specs.declared.message.Request.TheVariants as ask
use Rattle.ipc_ids.specs.declared.message.Outcome.{Outcome}
use Rattle.ipc_ids.specs.declared.op.Op.{Op}
use Rattle.ipc_ids.specs.declared.op.Op.TheVariants.{Call, Answer, ForwardWith, CallSlot, Send}
use Rattle.ipc_ids.specs.declared.op.Body.{Body}
use Rattle.script_lines.specs.Plan.{Plan}
use Rattle.naming_service.specs.Naming as naming
use Rattle.block_server.specs.Blocks as block

-- an operation that gives arguments gives five
abbrev pub GivesFive : Op → Type 0
GivesFive (Call phone method args) = length args ≡ 5
GivesFive (Answer call code args) = length args ≡ 5
GivesFive (ForwardWith call phone mode method args) = length args ≡ 5
GivesFive (CallSlot slot phone method args) = length args ≡ 5
GivesFive (Send slot handle method args) = length args ≡ 5
GivesFive _ = ⊤

-- so does each operation of these bodies
abbrev pub GiveFive : List Body → Type 0
GiveFive bodies = All (λ body. All GivesFive body.ops) bodies

-- so does each operation of a script
pub record ScriptGivesFive (plan : Plan) : Type 0 where
  pub tasks : All (λ task. GiveFive task.bodies) plan.tasks
  pub templates : All (λ template. GiveFive template.bodies) plan.templates

-- the message or the answer that is asked with, where there is one, has five arguments
abbrev pub CarriesFive : Request → Type 0
CarriesFive (ask.Call phone msg) = length msg.args ≡ 5
CarriesFive (ask.Answer call reply) = length reply.args ≡ 5
CarriesFive (ask.Forward call phone mode None) = ⊤
CarriesFive (ask.Forward call phone mode (Some msg)) = length msg.args ≡ 5
CarriesFive _ = ⊤

-- the naming service, once it was told these outcomes, the newest first
abbrev pub naming_after : List Outcome → naming.NamingState
naming_after [] = naming.started
naming_after (o ∷ told) = naming.after (naming_after told) o

-- likewise a block server of so many blocks, and maybe the number of its service
abbrev pub server_after : ℕ → Option ℕ → List Outcome → block.BlockState
server_after blocks service [] = block.started blocks service
server_after blocks service (o ∷ told) = block.after (server_after blocks service told) o
