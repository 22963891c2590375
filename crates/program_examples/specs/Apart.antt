-- Values for examples, all apart: what is put in the place of another is seen.
use Rattle.std.specs.Prelude.{ℕ, zero, suc, ◌+◌, List, [], ◌∷◌}
use Rattle.ipc_ids.specs.declared.numbers.CallNo.{CallNo}
use Rattle.ipc_ids.specs.declared.numbers.Code.{Code}
use Rattle.ipc_ids.specs.declared.numbers.Label.{Label}
use Rattle.ipc_ids.specs.declared.message.Msg.{Msg}
use Rattle.ipc_ids.specs.declared.message.Reply.{Reply}
use Rattle.ipc_ids.specs.declared.op.Value.{Value}
use Rattle.ipc_ids.specs.declared.op.Value.TheVariants.{Number, Register}

-- so many numbers, from one on
abbrev pub from : ℕ → ℕ → List ℕ
from first zero = []
from first (suc n) = first ∷ from (first + 1) n

-- five numbers
abbrev pub five : (a b c d e : ℕ) → List ℕ
five a b c d e = a ∷ b ∷ c ∷ d ∷ e ∷ []

-- five values of an operation: three registers, and two numbers between them
abbrev pub five_values : List Value
five_values = Register 11 ∷ Number 52 ∷ Register 13 ∷ Number 54 ∷ Register 15 ∷ []

-- call n
abbrev pub call_number : ℕ → CallNo
call_number n = record { 0 = n }

-- the code with this number
abbrev pub code : ℕ → Code
code n = record { 0 = n }

-- a message, and a reply
abbrev pub message : ℕ → List ℕ → Msg
message method args = record { method = method; args = args }

abbrev pub reply : ℕ → List ℕ → Reply
reply n args = record { code = code n; args = args }

-- this phone of this task
abbrev pub label : (task phone : ℕ) → Label
label task phone = record { task = record { 0 = task }; phone = record { 0 = phone } }

-- 64 of one number
abbrev pub block_of : ℕ → List ℕ
block_of n =
    n ∷ n ∷ n ∷ n ∷ n ∷ n ∷ n ∷ n ∷ n ∷ n ∷ n ∷ n ∷ n ∷ n ∷ n ∷ n
    ∷ n ∷ n ∷ n ∷ n ∷ n ∷ n ∷ n ∷ n ∷ n ∷ n ∷ n ∷ n ∷ n ∷ n ∷ n ∷ n
    ∷ n ∷ n ∷ n ∷ n ∷ n ∷ n ∷ n ∷ n ∷ n ∷ n ∷ n ∷ n ∷ n ∷ n ∷ n ∷ n
    ∷ n ∷ n ∷ n ∷ n ∷ n ∷ n ∷ n ∷ n ∷ n ∷ n ∷ n ∷ n ∷ n ∷ n ∷ n ∷ n ∷ []
