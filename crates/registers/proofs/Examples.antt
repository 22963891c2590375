-- What operations read from registers that hold 100 to 131, what they and their outcomes write there, and where they go
-- on from place 2.
use Rattle.std.proofs.Common.{◌≡◌, ℕ, zero, suc, ◌+◌, ◌^◌, List, [], ◌∷◌, ◌++◌, None, Some, refl}
use Rattle.ipc_ids.specs.declared.message.Mode.TheVariants.{Plain, Route}
use Rattle.ipc_ids.specs.declared.message.Request.TheVariants as ask
use Rattle.ipc_ids.specs.declared.message.Outcome.{Outcome}
use Rattle.ipc_ids.specs.declared.message.Outcome.TheVariants as got
use Rattle.ipc_ids.specs.declared.op.Value.{Value}
use Rattle.ipc_ids.specs.declared.op.Value.TheVariants.{Number, Register}
use Rattle.ipc_ids.specs.declared.op.Op.{Op}
use Rattle.ipc_ids.specs.declared.op.Op.TheVariants as op
use Rattle.registers.specs.Registers.{value_in, request_in, told, registers_after, next_place, place_after}

-- so many numbers, from the first one on
abbrev from : ℕ → ℕ → List ℕ
from n zero = []
from n (suc count) = n ∷ from (n + 1) count

abbrev before : List ℕ
before = from 100 32

-- ---- values and requests

values : value_in before (Number 7) ∷ value_in before (Register 31) ∷ value_in before (Register 32) ∷ []
    ≡ 7 ∷ 131 ∷ 0 ∷ []
values = refl

abbrev five : List Value
five = Register 11 ∷ Number 52 ∷ Register 13 ∷ Number 54 ∷ Register 15 ∷ []

abbrev given : List ℕ
given = 111 ∷ 52 ∷ 113 ∷ 54 ∷ 115 ∷ []

answer_asks : request_in before (op.Answer (Register 21) (Register 22) five)
    ≡ ask.Answer 121 (record { code = record { 0 = 122 }; args = given })
answer_asks = refl

forward_asks : request_in before (op.Forward (Register 21) (Number 8) Plain) ≡ ask.Forward 121 8 Plain None
forward_asks = refl

forward_with_asks : request_in before (op.ForwardWith (Number 7) (Register 22) Route (Register 23) five)
    ≡ ask.Forward 7 122 Route (Some (record { method = 123; args = given }))
forward_with_asks = refl

area_asks : request_in before (op.Area (Register 21) (Register 22) (Number 3)) ≡ ask.AreaMake 121 122 3
area_asks = refl

unarea_asks : request_in before (op.Unarea (Register 21)) ≡ ask.AreaDrop 121
unarea_asks = refl

poke_asks : request_in before (op.Poke (Register 21) (10 ∷ 255 ∷ [])) ≡ ask.Poke 121 (10 ∷ 255 ∷ [])
poke_asks = refl

peek_asks : request_in before (op.Peek (Register 21) (Register 22)) ≡ ask.Peek 121 122
peek_asks = refl

jump_asks : request_in before (op.Jump 7) ≡ ask.Nothing
jump_asks = refl

-- ---- outcomes

done : told before got.Done ≡ 0 ∷ from 101 31
done = refl

refused : told before (got.Refused (record { 0 = 5 })) ≡ 5 ∷ from 101 31
refused = refl

accepted : told before (got.Accepted (record { 0 = 9 })) ≡ 0 ∷ 9 ∷ from 102 30
accepted = refl

received : told before
    (got.Received (record { 0 = 9 }) (record { method = 600; args = given })
    (record { task = record { 0 = 7 }; phone = record { 0 = 8 } }))
    ≡ 0 ∷ 101 ∷ 9 ∷ 600 ∷ given ++ from 109 7 ++ 7 ∷ 8 ∷ from 118 14
received = refl

answered : told before (got.Answered (record { 0 = 9 }) (record { code = record { 0 = 5 }; args = given }))
    ≡ 0 ∷ from 101 8 ++ 9 ∷ 5 ∷ given ++ from 116 16
answered = refl

bytes : told before (got.Bytes (10 ∷ 255 ∷ [])) ≡ 0 ∷ from 101 31
bytes = refl

empty : told before got.Empty ≡ before
empty = refl

-- ---- operations

set_to_a_number : registers_after before (op.Set 31 (Number 7)) got.Done ≡ from 100 31 ++ 7 ∷ []
set_to_a_number = refl

set_to_a_register : registers_after before (op.Set 5 (Register 6)) got.Done ≡ from 100 5 ++ 106 ∷ from 106 26
set_to_a_register = refl

set_no_register : registers_after before (op.Set 32 (Number 7)) got.Done ≡ before
set_no_register = refl

jump_sets_none : registers_after before (op.Jump 7) got.Done ≡ before
jump_sets_none = refl

refusal_is_told : registers_after before op.Receive (got.Refused (record { 0 = 5 })) ≡ 5 ∷ from 101 31
refusal_is_told = refl

-- the place after an operation of this outcome at place 2
abbrev leads : Op → Outcome → ℕ
leads operation outcome = place_after before 2 operation outcome

set_goes_on : leads (op.Set 31 (Number 7)) got.Done ≡ 3
set_goes_on = refl

jump : leads (op.Jump 7) got.Done ≡ 7
jump = refl

equal : leads (op.JumpEqual (Register 3) (Number 103) 7) got.Done ≡ 7
equal = refl

not_equal : leads (op.JumpEqual (Register 3) (Register 4) 7) got.Done ≡ 3
not_equal = refl

differ : leads (op.JumpDiffer (Register 3) (Register 4) 7) got.Done ≡ 7
differ = refl

not_differ : leads (op.JumpDiffer (Register 3) (Number 103) 7) got.Done ≡ 3
not_differ = refl

goes_on_where_it_is_refused : leads op.Receive (got.Refused (record { 0 = 5 })) ≡ 3
goes_on_where_it_is_refused = refl

stays_where_nothing_came : leads op.Receive got.Empty ≡ 2
stays_where_nothing_came = refl

last_place : next_place (2 ^ 62) ≡ 2 ^ 62
last_place = refl
