-- Fibrils by number, and since when each is ready or blocked.
use Rattle.std.specs.Prelude.{ℕ, suc, zero, ◌+◌, ◌-◌, ◌^◌, ◌<◌, ◌==◌, Bool, false, true, if◌then◌else◌, List, [], ◌∷◌, ◌++◌, length, Option, None, Some, nat_lt, slice_get, slice_set, fold}
use Rattle.ipc_ids.specs.declared.numbers.FibrilNo.{FibrilNo}
use Rattle.ipc_ids.specs.declared.message.Why.{Why}
use Rattle.ipc_ids.specs.declared.message.Why.TheVariants as why
use Rattle.fibril_core.specs.declared.fibrils.Status.{Status}
use Rattle.fibril_core.specs.declared.fibrils.Status.TheVariants.{Ready, Blocked, Ended}
use Rattle.fibril_core.specs.declared.fibrils.Fibril.{Fibril}

-- the fibrils by rising number, from 1 on, and the next stamp
pub record FibrilOrder : Type 0 where
  pub fibrils : List Fibril
  pub next_stamp : ℕ

-- the fibrils, and how many more there is room for
pub record FibrilsState : Type 0 where
  pub order : FibrilOrder
  pub spare : ℕ

-- there is a number and a stamp for whatever comes next
pub record IsWithinBounds (o : FibrilOrder) : Type 0 where
  pub fibrils : length o.fibrils < 2 ^ 32
  pub stamps : o.next_stamp < 2 ^ 62

-- no fibrils; stamps begin with 1
abbrev pub no_fibrils : FibrilOrder
no_fibrils = record { fibrils = []; next_stamp = 1 }

-- whether two reasons to block are one
abbrev pub same_why : Why → Why → Bool
same_why (why.Answer n) (why.Answer m) = n.0 == m.0
same_why (why.Mutex s) (why.Mutex r) = s == r
same_why why.Phone why.Phone = true
same_why why.Message why.Message = true
same_why _ _ = false

-- whether two statuses are one
abbrev pub same_status : Status → Status → Bool
same_status Ready Ready = true
same_status (Blocked v) (Blocked w) = same_why v w
same_status Ended Ended = true
same_status _ _ = false

-- of two fibrils the one with the smaller stamp
abbrev pub sooner : Option Fibril → Fibril → Option Fibril
sooner None x = Some x
sooner (Some best) x = if nat_lt x.stamp best.stamp then Some x else Some best

-- the fibril that has had this status longest
abbrev pub first_with : Status → List Fibril → Option Fibril
first_with status xs = fold (λ best x. if same_status x.status status then sooner best x else best) None xs

-- its number
abbrev pub number_of : Option Fibril → Option FibrilNo
number_of None = None
number_of (Some x) = Some x.number

-- the present fibril
abbrev pub current : FibrilOrder → Option FibrilNo
current o = number_of (first_with Ready o.fibrils)

-- the fibril that blocked first on that
abbrev pub first_blocked : FibrilOrder → Why → Option FibrilNo
first_blocked o w = number_of (first_with (Blocked w) o.fibrils)

-- what a status is blocked on
abbrev pub why_in : Status → Option Why
why_in Ready = None
why_in (Blocked w) = Some w
why_in Ended = None

-- what a fibril is blocked on, if there is one
abbrev pub why_at : Option Fibril → Option Why
why_at None = None
why_at (Some x) = why_in x.status

-- the fibril with this number
abbrev pub fibril_at : FibrilOrder → ℕ → Option Fibril
fibril_at o zero = None
fibril_at o (suc i) = slice_get o.fibrils i

-- what the fibril with this number is blocked on
abbrev pub why_of : FibrilOrder → FibrilNo → Option Why
why_of o f = why_at (fibril_at o f.0)

-- the number of the next fibril
abbrev pub next_number : FibrilOrder → FibrilNo
next_number o = record { 0 = length o.fibrils + 1 }

-- a new fibril is ready behind the others
abbrev pub spawned : FibrilOrder → FibrilOrder
spawned o =
    record {
      fibrils = o.fibrils ++ record { number = next_number o; status = Ready; stamp = o.next_stamp } ∷ [];
      next_stamp = o.next_stamp + 1;
    }

-- the record stands under its number, where there is a fibril of this number
abbrev pub put_fibril : FibrilOrder → Fibril → FibrilOrder
put_fibril o x =
    record {
      fibrils = if nat_lt (x.number.0 - 1) (length o.fibrils) then slice_set o.fibrils (x.number.0 - 1) x else o.fibrils;
      next_stamp = o.next_stamp;
    }

-- the fibril has this status from now on
abbrev pub with_status : FibrilOrder → FibrilNo → Status → FibrilOrder
with_status o f status =
    record {
      fibrils = (put_fibril o (record { number = f; status = status; stamp = o.next_stamp })).fibrils;
      next_stamp = o.next_stamp + 1;
    }

-- the fibril is ready behind the others
abbrev pub make_ready : FibrilOrder → FibrilNo → FibrilOrder
make_ready o f = with_status o f Ready

-- the fibril that is found has this status from now on
abbrev pub found_with : FibrilOrder → Status → Option FibrilNo → FibrilOrder
found_with o status None = o
found_with o status (Some f) = with_status o f status

-- the present fibril blocks
abbrev pub block_on : FibrilOrder → Why → FibrilOrder
block_on o w = found_with o (Blocked w) (current o)

-- the present fibril is ready behind the others
abbrev pub yield_now : FibrilOrder → FibrilOrder
yield_now o = found_with o Ready (current o)

-- the fibril that is found ends, and nothing but its number is kept
abbrev pub found_over : FibrilOrder → Option Fibril → FibrilOrder
found_over o None = o
found_over o (Some x) = put_fibril o (record x { status = Ended; stamp = 0 })

-- the present fibril ends
abbrev pub end_current : FibrilOrder → FibrilOrder
end_current o = found_over o (first_with Ready o.fibrils)

-- the fibril that blocked first on that is ready behind the others
abbrev pub wake_first : FibrilOrder → Why → FibrilOrder
wake_first o w = found_with o Ready (first_blocked o w)

-- so n times
abbrev pub wake_times : ℕ → FibrilOrder → Why → FibrilOrder
wake_times zero o w = o
wake_times (suc n) o w = wake_first (wake_times n o w) w

-- all fibrils that are blocked on that are ready behind the others, in the order of their blocking
abbrev pub wake_all : FibrilOrder → Why → FibrilOrder
wake_all o w = wake_times (length o.fibrils) o w
