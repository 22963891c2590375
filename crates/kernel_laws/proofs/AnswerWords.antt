-- Codes of answers, and which answers bring bytes.
use Rattle.std.proofs.Common.{◌≡◌, true, Result, Ok, Err, refl, ap}
use Rattle.ipc_ids.specs.declared.numbers.Code.{Code}
use Rattle.ipc_ids.specs.declared.methods.MethodKind.{MethodKind}
use Rattle.ipc_ids.specs.declared.methods.MethodKind.TheVariants.{ConnectMeTo, DataRead}
use Rattle.ipc_ids.specs.Codes.{eok}
use Rattle.ipc_ids.specs.Methods.{kind_of}
use Rattle.call_slab.specs.declared.call.Call.{Call}
use Rattle.switchboard.specs.Kept.{accepts}
use Rattle.switchboard.specs.Data.{code_told}
use Rattle.kernel_core.specs.Moments.{brings_bytes_of, brings_bytes, reply_of}
use Rattle.kernel_laws.specs.DataLaws.{code_after, IsBrought}
use Rattle.kernel_laws.proofs.Methods.{method_of}
use Rattle.kernel_core.proofs.KindsOfCalls.{same_code}

pub same_told : {A : Type 0} (told : Result A Code) → code_told told ≡ code_after told
same_told (Ok x) = refl
same_told (Err code) = refl

pub accepts_eok : (code : Code) → code ≡ eok → accepts code ≡ true
accepts_eok code e = ap accepts e

brought_kind : (kind : MethodKind) (code : Code) → brings_bytes_of kind code ≡ true → (kind ≡ DataRead) × (accepts code ≡ true)
brought_kind DataRead code h = (refl, h)
brought_kind _ code h = absurd (cc h)

pub brings : (c : Call) → IsBrought c → brings_bytes c ≡ true
brings c b = rw (b.asks) (accepts_eok c.reply.code b.accepted)

pub is_brought : (c : Call) → brings_bytes c ≡ true → IsBrought c
is_brought c h = let b = brought_kind (kind_of c.request.method) c.reply.code h in record { asks = method_of DataRead c.request.method b.0; accepted = same_code c.reply.code b.1 }
