-- What the connecting methods do to the phones of a task, moment by moment of their calls.
use Rattle.std.specs.Prelude.{◌≡◌, ℕ, ⊤, Option, None, Some, Result, Ok, Err, slice_get}
use Rattle.ipc_ids.specs.declared.numbers.Code.{Code}
use Rattle.ipc_ids.specs.declared.numbers.PhoneNo.{PhoneNo}
use Rattle.ipc_ids.specs.declared.numbers.TaskNo.{TaskNo}
use Rattle.ipc_ids.specs.declared.message.PhoneState.TheVariants.{Connecting, Connected}
use Rattle.ipc_ids.specs.Codes.{eok, elimit}
use Rattle.phone_table.specs.Phones.{Row, with_phone, first_usable}

-- the phones after a moment, and what it tells
pub record Moment (A : Type 0) : Type 0 where
  pub phones : Row
  pub told : A

-- the code did just this
pub record Did {A : Type 0} (new : Row) (result : A) (moment : Moment A) : Type 0 where
  pub phones : new ≡ moment.phones
  pub told : result ≡ moment.told

-- the caller keeps its first usable phone before a CONNECT_ME_TO is sent
abbrev pub send_over : Row → Option ℕ → Moment (Result PhoneNo Code)
send_over row None = record { phones = row; told = Err elimit }
send_over row (Some p) = record { phones = with_phone row p Connecting; told = Ok (record { 0 = p }) }

abbrev pub before_send : Row → Moment (Result PhoneNo Code)
before_send row = send_over row (first_usable row)

-- the receiver keeps its first usable phone at a CONNECT_TO_ME
abbrev pub receive_over : Row → Option ℕ → Moment (Option PhoneNo)
receive_over row None = record { phones = row; told = None }
receive_over row (Some p) = record { phones = with_phone row p Connecting; told = Some (record { 0 = p }) }

abbrev pub on_receive : Row → Moment (Option PhoneNo)
on_receive row = receive_over row (first_usable row)

-- the phone that the receiver kept leads to the caller; where it kept none the answer says so
abbrev pub accept_to_me : Row → Option PhoneNo → TaskNo → Moment Code
accept_to_me row None caller = record { phones = row; told = elimit }
accept_to_me row (Some p) caller = record { phones = with_phone row p.0 (Connected caller); told = eok }

-- a phone that is kept waits for its connection
abbrev pub IsKept : Row → Option PhoneNo → Type 0
IsKept row None = ⊤
IsKept row (Some p) = slice_get row.states p.0 ≡ Some Connecting
