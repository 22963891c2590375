-- What the line of each operation says, in a raw task and in an async one.
use Rattle.std.proofs.Common.{◌≡◌, [], ◌∷◌, Some, Ok, Err, codes, refl}
use Rattle.ipc_ids.specs.declared.message.Mode.TheVariants.{Plain, Route}
use Rattle.ipc_ids.specs.declared.message.ExchangeMode.TheVariants.{Atomic, Serialize, Parallel}
use Rattle.ipc_ids.specs.declared.op.Value.TheVariants.{Number, Register}
use Rattle.ipc_ids.specs.declared.op.Op.TheVariants as op
use Rattle.script_lines.specs.declared.plan.Kind.TheVariants.{Raw, Async}
use Rattle.script_lines.specs.declared.word.OpVerb.TheVariants as verb
use Rattle.script_lines.specs.declared.fault.Reason.TheVariants.{OutOfPlace, WrongCount, BadWord}
use Rattle.ipc_ids.specs.Digits.{in_base}
use Rattle.script_lines.specs.Word.{number, number_below, named, register, register_number, value, hex_digit, bytes_of, mode_of, exchange_mode_of}
use Rattle.script_lines.specs.Operation.{op_in, arguments, two_and_arguments, call_op, answer_op, receive_op, forward_op, hangup_op, area_op, unarea_op, poke_op, peek_op, set_op, jump_op, two_and_place, jump_equal_op, jump_differ_op, slot_of, handle_of, session_of, call_slot_op, send_op, wait_op, next_op, yield_op, open_op, begin_op, end_op, close_op}

-- call 0 512
raw_call_1 : op_in (Some Raw) verb.Call (codes "0" ∷ codes "512" ∷ []) ≡ Ok (op.Call (Number 0) (Number 512) (Number 0 ∷ Number 0 ∷ Number 0 ∷ Number 0 ∷ Number 0 ∷ []))
unfolding value number in_base register register_number named number_below hex_digit bytes_of mode_of exchange_mode_of arguments two_and_arguments two_and_place slot_of handle_of session_of call_op
raw_call_1 = refl

-- call r1 DATA_WRITE 1 2 3 4 r31
raw_call_2 : op_in (Some Raw) verb.Call (codes "r1" ∷ codes "DATA_WRITE" ∷ codes "1" ∷ codes "2" ∷ codes "3" ∷ codes "4" ∷ codes "r31" ∷ []) ≡ Ok (op.Call (Register 1) (Number 3) (Number 1 ∷ Number 2 ∷ Number 3 ∷ Number 4 ∷ Register 31 ∷ []))
unfolding value number in_base register register_number named number_below hex_digit bytes_of mode_of exchange_mode_of arguments two_and_arguments two_and_place slot_of handle_of session_of call_op
raw_call_2 = refl

-- receive
raw_receive_3 : op_in (Some Raw) verb.Receive ([]) ≡ Ok (op.Receive)
unfolding value number in_base register register_number named number_below hex_digit bytes_of mode_of exchange_mode_of arguments two_and_arguments two_and_place slot_of handle_of session_of receive_op
raw_receive_3 = refl

-- answer r2 EOK
raw_answer_4 : op_in (Some Raw) verb.Answer (codes "r2" ∷ codes "EOK" ∷ []) ≡ Ok (op.Answer (Register 2) (Number 0) (Number 0 ∷ Number 0 ∷ Number 0 ∷ Number 0 ∷ Number 0 ∷ []))
unfolding value number in_base register register_number named number_below hex_digit bytes_of mode_of exchange_mode_of arguments two_and_arguments two_and_place slot_of handle_of session_of answer_op
raw_answer_4 = refl

-- answer r2 ELIMIT 1 2 3 4 5
raw_answer_5 : op_in (Some Raw) verb.Answer (codes "r2" ∷ codes "ELIMIT" ∷ codes "1" ∷ codes "2" ∷ codes "3" ∷ codes "4" ∷ codes "5" ∷ []) ≡ Ok (op.Answer (Register 2) (Number 5) (Number 1 ∷ Number 2 ∷ Number 3 ∷ Number 4 ∷ Number 5 ∷ []))
unfolding value number in_base register register_number named number_below hex_digit bytes_of mode_of exchange_mode_of arguments two_and_arguments two_and_place slot_of handle_of session_of answer_op
raw_answer_5 = refl

-- forward r2 0 plain
raw_forward_6 : op_in (Some Raw) verb.Forward (codes "r2" ∷ codes "0" ∷ codes "plain" ∷ []) ≡ Ok (op.Forward (Register 2) (Number 0) Plain)
unfolding value number in_base register register_number named number_below hex_digit bytes_of mode_of exchange_mode_of arguments two_and_arguments two_and_place slot_of handle_of session_of forward_op
raw_forward_6 = refl

-- forward r2 0 route
raw_forward_7 : op_in (Some Raw) verb.Forward (codes "r2" ∷ codes "0" ∷ codes "route" ∷ []) ≡ Ok (op.Forward (Register 2) (Number 0) Route)
unfolding value number in_base register register_number named number_below hex_digit bytes_of mode_of exchange_mode_of arguments two_and_arguments two_and_place slot_of handle_of session_of forward_op
raw_forward_7 = refl

-- forward r2 0 plain 600
raw_forward_8 : op_in (Some Raw) verb.Forward (codes "r2" ∷ codes "0" ∷ codes "plain" ∷ codes "600" ∷ []) ≡ Ok (op.ForwardWith (Register 2) (Number 0) Plain (Number 600) (Number 0 ∷ Number 0 ∷ Number 0 ∷ Number 0 ∷ Number 0 ∷ []))
unfolding value number in_base register register_number named number_below hex_digit bytes_of mode_of exchange_mode_of arguments two_and_arguments two_and_place slot_of handle_of session_of forward_op
raw_forward_8 = refl

-- forward r2 0 route 600 1 2 3 4 5
raw_forward_9 : op_in (Some Raw) verb.Forward (codes "r2" ∷ codes "0" ∷ codes "route" ∷ codes "600" ∷ codes "1" ∷ codes "2" ∷ codes "3" ∷ codes "4" ∷ codes "5" ∷ []) ≡ Ok (op.ForwardWith (Register 2) (Number 0) Route (Number 600) (Number 1 ∷ Number 2 ∷ Number 3 ∷ Number 4 ∷ Number 5 ∷ []))
unfolding value number in_base register register_number named number_below hex_digit bytes_of mode_of exchange_mode_of arguments two_and_arguments two_and_place slot_of handle_of session_of forward_op
raw_forward_9 = refl

-- hangup 63
raw_hangup_10 : op_in (Some Raw) verb.Hangup (codes "63" ∷ []) ≡ Ok (op.Hangup (Number 63))
unfolding value number in_base register register_number named number_below hex_digit bytes_of mode_of exchange_mode_of arguments two_and_arguments two_and_place slot_of handle_of session_of hangup_op
raw_hangup_10 = refl

-- area 4096 1 RW
raw_area_11 : op_in (Some Raw) verb.Area (codes "4096" ∷ codes "1" ∷ codes "RW" ∷ []) ≡ Ok (op.Area (Number 4096) (Number 1) (Number 3))
unfolding value number in_base register register_number named number_below hex_digit bytes_of mode_of exchange_mode_of arguments two_and_arguments two_and_place slot_of handle_of session_of area_op
raw_area_11 = refl

-- unarea 4096
raw_unarea_12 : op_in (Some Raw) verb.Unarea (codes "4096" ∷ []) ≡ Ok (op.Unarea (Number 4096))
unfolding value number in_base register register_number named number_below hex_digit bytes_of mode_of exchange_mode_of arguments two_and_arguments two_and_place slot_of handle_of session_of unarea_op
raw_unarea_12 = refl

-- poke 4096 0aff
raw_poke_13 : op_in (Some Raw) verb.Poke (codes "4096" ∷ codes "0aff" ∷ []) ≡ Ok (op.Poke (Number 4096) (10 ∷ 255 ∷ []))
unfolding value number in_base register register_number named number_below hex_digit bytes_of mode_of exchange_mode_of arguments two_and_arguments two_and_place slot_of handle_of session_of poke_op
raw_poke_13 = refl

-- peek 4096 2
raw_peek_14 : op_in (Some Raw) verb.Peek (codes "4096" ∷ codes "2" ∷ []) ≡ Ok (op.Peek (Number 4096) (Number 2))
unfolding value number in_base register register_number named number_below hex_digit bytes_of mode_of exchange_mode_of arguments two_and_arguments two_and_place slot_of handle_of session_of peek_op
raw_peek_14 = refl

-- set r20 7
raw_set_15 : op_in (Some Raw) verb.Set (codes "r20" ∷ codes "7" ∷ []) ≡ Ok (op.Set 20 (Number 7))
unfolding value number in_base register register_number named number_below hex_digit bytes_of mode_of exchange_mode_of arguments two_and_arguments two_and_place slot_of handle_of session_of set_op
raw_set_15 = refl

-- jump 65535
raw_jump_16 : op_in (Some Raw) verb.Jump (codes "65535" ∷ []) ≡ Ok (op.Jump 65535)
unfolding value number in_base register register_number named number_below hex_digit bytes_of mode_of exchange_mode_of arguments two_and_arguments two_and_place slot_of handle_of session_of jump_op
raw_jump_16 = refl

-- jumpeq r0 0 7
raw_jumpeq_17 : op_in (Some Raw) verb.JumpEqual (codes "r0" ∷ codes "0" ∷ codes "7" ∷ []) ≡ Ok (op.JumpEqual (Register 0) (Number 0) 7)
unfolding value number in_base register register_number named number_below hex_digit bytes_of mode_of exchange_mode_of arguments two_and_arguments two_and_place slot_of handle_of session_of jump_equal_op
raw_jumpeq_17 = refl

-- jumpne r3 512 7
raw_jumpne_18 : op_in (Some Raw) verb.JumpDiffer (codes "r3" ∷ codes "512" ∷ codes "7" ∷ []) ≡ Ok (op.JumpDiffer (Register 3) (Number 512) 7)
unfolding value number in_base register register_number named number_below hex_digit bytes_of mode_of exchange_mode_of arguments two_and_arguments two_and_place slot_of handle_of session_of jump_differ_op
raw_jumpne_18 = refl

-- call 7 0 512 1 2 3 4 5
async_call_1 : op_in (Some Async) verb.Call (codes "7" ∷ codes "0" ∷ codes "512" ∷ codes "1" ∷ codes "2" ∷ codes "3" ∷ codes "4" ∷ codes "5" ∷ []) ≡ Ok (op.CallSlot 7 (Number 0) (Number 512) (Number 1 ∷ Number 2 ∷ Number 3 ∷ Number 4 ∷ Number 5 ∷ []))
unfolding value number in_base register register_number named number_below hex_digit bytes_of mode_of exchange_mode_of arguments two_and_arguments two_and_place slot_of handle_of session_of call_slot_op
async_call_1 = refl

-- send 0 7 600
async_send_2 : op_in (Some Async) verb.Send (codes "0" ∷ codes "7" ∷ codes "600" ∷ []) ≡ Ok (op.Send 0 7 (Number 600) (Number 0 ∷ Number 0 ∷ Number 0 ∷ Number 0 ∷ Number 0 ∷ []))
unfolding value number in_base register register_number named number_below hex_digit bytes_of mode_of exchange_mode_of arguments two_and_arguments two_and_place slot_of handle_of session_of send_op
async_send_2 = refl

-- send 0 0 600 1 2 3 4 5
async_send_3 : op_in (Some Async) verb.Send (codes "0" ∷ codes "0" ∷ codes "600" ∷ codes "1" ∷ codes "2" ∷ codes "3" ∷ codes "4" ∷ codes "5" ∷ []) ≡ Ok (op.Send 0 0 (Number 600) (Number 1 ∷ Number 2 ∷ Number 3 ∷ Number 4 ∷ Number 5 ∷ []))
unfolding value number in_base register register_number named number_below hex_digit bytes_of mode_of exchange_mode_of arguments two_and_arguments two_and_place slot_of handle_of session_of send_op
async_send_3 = refl

-- wait 7
async_wait_4 : op_in (Some Async) verb.Wait (codes "7" ∷ []) ≡ Ok (op.Wait 7)
unfolding value number in_base register register_number named number_below hex_digit bytes_of mode_of exchange_mode_of arguments two_and_arguments two_and_place slot_of handle_of session_of wait_op
async_wait_4 = refl

-- next
async_next_5 : op_in (Some Async) verb.Next ([]) ≡ Ok (op.Next)
unfolding value number in_base register register_number named number_below hex_digit bytes_of mode_of exchange_mode_of arguments two_and_arguments two_and_place slot_of handle_of session_of next_op
async_next_5 = refl

-- yield
async_yield_6 : op_in (Some Async) verb.Yield ([]) ≡ Ok (op.Yield)
unfolding value number in_base register register_number named number_below hex_digit bytes_of mode_of exchange_mode_of arguments two_and_arguments two_and_place slot_of handle_of session_of yield_op
async_yield_6 = refl

-- open 15 0 atomic
async_open_7 : op_in (Some Async) verb.Open (codes "15" ∷ codes "0" ∷ codes "atomic" ∷ []) ≡ Ok (op.OpenSession 15 (Number 0) Atomic)
unfolding value number in_base register register_number named number_below hex_digit bytes_of mode_of exchange_mode_of arguments two_and_arguments two_and_place slot_of handle_of session_of open_op
async_open_7 = refl

-- open 0 r1 serialize
async_open_8 : op_in (Some Async) verb.Open (codes "0" ∷ codes "r1" ∷ codes "serialize" ∷ []) ≡ Ok (op.OpenSession 0 (Register 1) Serialize)
unfolding value number in_base register register_number named number_below hex_digit bytes_of mode_of exchange_mode_of arguments two_and_arguments two_and_place slot_of handle_of session_of open_op
async_open_8 = refl

-- open 0 0 parallel
async_open_9 : op_in (Some Async) verb.Open (codes "0" ∷ codes "0" ∷ codes "parallel" ∷ []) ≡ Ok (op.OpenSession 0 (Number 0) Parallel)
unfolding value number in_base register register_number named number_below hex_digit bytes_of mode_of exchange_mode_of arguments two_and_arguments two_and_place slot_of handle_of session_of open_op
async_open_9 = refl

-- begin 7 15
async_begin_10 : op_in (Some Async) verb.Begin (codes "7" ∷ codes "15" ∷ []) ≡ Ok (op.Begin 7 15)
unfolding value number in_base register register_number named number_below hex_digit bytes_of mode_of exchange_mode_of arguments two_and_arguments two_and_place slot_of handle_of session_of begin_op
async_begin_10 = refl

-- end 7
async_end_11 : op_in (Some Async) verb.End (codes "7" ∷ []) ≡ Ok (op.End 7)
unfolding value number in_base register register_number named number_below hex_digit bytes_of mode_of exchange_mode_of arguments two_and_arguments two_and_place slot_of handle_of session_of end_op
async_end_11 = refl

-- close 15
async_close_12 : op_in (Some Async) verb.Close (codes "15" ∷ []) ≡ Ok (op.Close 15)
unfolding value number in_base register register_number named number_below hex_digit bytes_of mode_of exchange_mode_of arguments two_and_arguments two_and_place slot_of handle_of session_of close_op
async_close_12 = refl

-- call 0
call_without_a_method : op_in (Some Raw) verb.Call (codes "0" ∷ []) ≡ Err WrongCount
unfolding value number in_base register register_number named number_below hex_digit bytes_of mode_of exchange_mode_of arguments two_and_arguments two_and_place slot_of handle_of session_of call_op
call_without_a_method = refl

-- call 0 512 1 2 3 4 5 6
call_with_six_arguments : op_in (Some Raw) verb.Call (codes "0" ∷ codes "512" ∷ codes "1" ∷ codes "2" ∷ codes "3" ∷ codes "4" ∷ codes "5" ∷ codes "6" ∷ []) ≡ Err WrongCount
unfolding value number in_base register register_number named number_below hex_digit bytes_of mode_of exchange_mode_of arguments two_and_arguments two_and_place slot_of handle_of session_of call_op
call_with_six_arguments = refl

-- call x 512
call_over_a_word : op_in (Some Raw) verb.Call (codes "x" ∷ codes "512" ∷ []) ≡ Err BadWord
unfolding value number in_base register register_number named number_below hex_digit bytes_of mode_of exchange_mode_of arguments two_and_arguments two_and_place slot_of handle_of session_of call_op
call_over_a_word = refl

-- wait 8
slot_out_of_range : op_in (Some Async) verb.Wait (codes "8" ∷ []) ≡ Err BadWord
unfolding value number in_base register register_number named number_below hex_digit bytes_of mode_of exchange_mode_of arguments two_and_arguments two_and_place slot_of handle_of session_of wait_op
slot_out_of_range = refl

-- close 16
session_out_of_range : op_in (Some Async) verb.Close (codes "16" ∷ []) ≡ Err BadWord
unfolding value number in_base register register_number named number_below hex_digit bytes_of mode_of exchange_mode_of arguments two_and_arguments two_and_place slot_of handle_of session_of close_op
session_out_of_range = refl

raw_tasks_do_not_wait : op_in (Some Raw) verb.Wait (codes "0" ∷ []) ≡ Err OutOfPlace
raw_tasks_do_not_wait = refl

async_tasks_do_not_receive : op_in (Some Async) verb.Receive [] ≡ Err OutOfPlace
async_tasks_do_not_receive = refl
