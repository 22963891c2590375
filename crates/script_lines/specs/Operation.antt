-- What an operation's line says, from the words behind the first.
use Rattle.std.specs.Prelude.{ℕ, ◌-◌, None, List, [], ◌∷◌, ◌++◌, length, replicate, Option, Some, Result, Ok, Err, option_map, nat_le, if◌then◌else◌}
use Rattle.std.specs.Option.{option_and_then, ok_or}
use Rattle.ipc_ids.specs.declared.op.Value.{Value}
use Rattle.ipc_ids.specs.declared.op.Value.TheVariants.{Number}
use Rattle.ipc_ids.specs.declared.op.Op.{Op}
use Rattle.ipc_ids.specs.declared.op.Op.TheVariants as ops
use Rattle.script_lines.specs.declared.fault.Reason.{Reason}
use Rattle.script_lines.specs.declared.fault.Reason.TheVariants.{OutOfPlace, WrongCount, BadWord}
use Rattle.script_lines.specs.declared.plan.Kind.{Kind}
use Rattle.script_lines.specs.declared.plan.Kind.TheVariants.{Naming, Raw, Async, Block}
use Rattle.script_lines.specs.declared.word.OpVerb.{OpVerb}
use Rattle.script_lines.specs.declared.word.OpVerb.TheVariants as verbs
use Rattle.script_lines.specs.Word.{value, register, mode_of, exchange_mode_of, number_below, bytes_of}

-- a step that may be at fault
infixl 10 ◌>>=◌
abbrev pub ◌>>=◌ : {A B : Type 0} → Result A Reason → (A → Result B Reason) → Result B Reason
(Ok x) >>= f = f x
(Err e) >>= f = Err e

-- a word of its kind
abbrev pub needed : {A : Type 0} → Option A → Result A Reason
needed word = ok_or word BadWord

-- each word is a value
abbrev pub values : List (List ℕ) → Option (List Value)
values [] = Some []
values (word ∷ words) = option_and_then (λ v. option_map (λ vs. v ∷ vs) (values words)) (value word)

-- five arguments, 0 where they are left out
abbrev pub padded : List Value → List Value
padded vs = vs ++ replicate (5 - length vs) (Number 0)

unfoldable pub arguments : List (List ℕ) → Option (List Value)
arguments words = option_map padded (values words)

-- V V [V up to five]
unfoldable pub two_and_arguments : List (List ℕ) → Result (Value × Value × List Value) Reason
two_and_arguments (first ∷ second ∷ others) =
    if nat_le (length others) 5 then (do
      first ← needed (value first)
      second ← needed (value second)
      args ← needed (arguments others)
      Ok (first, second, args))
    else Err WrongCount
two_and_arguments (first ∷ []) = Err WrongCount
two_and_arguments [] = Err WrongCount

-- phone, method, arguments
unfoldable pub call_op : List (List ℕ) → Result Op Reason
call_op words = two_and_arguments words >>= λ (phone, method, args). Ok (ops.Call phone method args)

-- call, code, arguments
unfoldable pub answer_op : List (List ℕ) → Result Op Reason
answer_op words = two_and_arguments words >>= λ (call, code, args). Ok (ops.Answer call code args)

-- no words
unfoldable pub receive_op : List (List ℕ) → Result Op Reason
receive_op [] = Ok ops.Receive
receive_op (_ ∷ _) = Err WrongCount

-- V V MODE, or V V MODE V [V up to five]
unfoldable pub forward_op : List (List ℕ) → Result Op Reason
forward_op (call ∷ phone ∷ mode ∷ []) = do
  call ← needed (value call)
  phone ← needed (value phone)
  mode ← needed (mode_of mode)
  Ok (ops.Forward call phone mode)
forward_op (call ∷ phone ∷ mode ∷ method ∷ others) =
    if nat_le (length others) 5 then (do
      call ← needed (value call)
      phone ← needed (value phone)
      mode ← needed (mode_of mode)
      method ← needed (value method)
      args ← needed (arguments others)
      Ok (ops.ForwardWith call phone mode method args))
    else Err WrongCount
forward_op _ = Err WrongCount

-- V
unfoldable pub hangup_op : List (List ℕ) → Result Op Reason
hangup_op (phone ∷ []) = needed (value phone) >>= λ phone. Ok (ops.Hangup phone)
hangup_op _ = Err WrongCount

-- V V V: base, pages, rights
unfoldable pub area_op : List (List ℕ) → Result Op Reason
area_op (base ∷ pages ∷ rights ∷ []) = do
  base ← needed (value base)
  pages ← needed (value pages)
  rights ← needed (value rights)
  Ok (ops.Area base pages rights)
area_op _ = Err WrongCount

-- V
unfoldable pub unarea_op : List (List ℕ) → Result Op Reason
unarea_op (base ∷ []) = needed (value base) >>= λ base. Ok (ops.Unarea base)
unarea_op _ = Err WrongCount

-- V HEX
unfoldable pub poke_op : List (List ℕ) → Result Op Reason
poke_op (at ∷ bytes ∷ []) = do
  at ← needed (value at)
  bytes ← needed (bytes_of bytes)
  Ok (ops.Poke at bytes)
poke_op _ = Err WrongCount

-- V V: address, count
unfoldable pub peek_op : List (List ℕ) → Result Op Reason
peek_op (at ∷ count ∷ []) = do
  at ← needed (value at)
  count ← needed (value count)
  Ok (ops.Peek at count)
peek_op _ = Err WrongCount

-- R V
unfoldable pub set_op : List (List ℕ) → Result Op Reason
set_op (target ∷ source ∷ []) = do
  target ← needed (register target)
  source ← needed (value source)
  Ok (ops.Set target source)
set_op _ = Err WrongCount

-- K
unfoldable pub jump_op : List (List ℕ) → Result Op Reason
jump_op (to ∷ []) = needed (number_below 65536 to) >>= λ to. Ok (ops.Jump to)
jump_op _ = Err WrongCount

-- V V K
unfoldable pub two_and_place : List (List ℕ) → Result (Value × Value × ℕ) Reason
two_and_place (left ∷ right ∷ to ∷ []) = do
  left ← needed (value left)
  right ← needed (value right)
  to ← needed (number_below 65536 to)
  Ok (left, right, to)
two_and_place _ = Err WrongCount

unfoldable pub jump_equal_op : List (List ℕ) → Result Op Reason
jump_equal_op words = two_and_place words >>= λ (left, right, to). Ok (ops.JumpEqual left right to)

unfoldable pub jump_differ_op : List (List ℕ) → Result Op Reason
jump_differ_op words = two_and_place words >>= λ (left, right, to). Ok (ops.JumpDiffer left right to)

-- one of the 8 slots of a fibril
unfoldable pub slot_of : List ℕ → Option ℕ
slot_of word = number_below 8 word

-- one of the 8 handles of a fibril
unfoldable pub handle_of : List ℕ → Option ℕ
handle_of word = number_below 8 word

-- one of the 16 sessions of a task
unfoldable pub session_of : List ℕ → Option ℕ
session_of word = number_below 16 word

-- SLOT V V [V up to five]
unfoldable pub call_slot_op : List (List ℕ) → Result Op Reason
call_slot_op (slot ∷ phone ∷ method ∷ others) =
    if nat_le (length others) 5 then (do
      slot ← needed (slot_of slot)
      phone ← needed (value phone)
      method ← needed (value method)
      args ← needed (arguments others)
      Ok (ops.CallSlot slot phone method args))
    else Err WrongCount
call_slot_op _ = Err WrongCount

-- SLOT HANDLE V [V up to five]
unfoldable pub send_op : List (List ℕ) → Result Op Reason
send_op (slot ∷ handle ∷ method ∷ others) =
    if nat_le (length others) 5 then (do
      slot ← needed (slot_of slot)
      handle ← needed (handle_of handle)
      method ← needed (value method)
      args ← needed (arguments others)
      Ok (ops.Send slot handle method args))
    else Err WrongCount
send_op _ = Err WrongCount

-- SLOT
unfoldable pub wait_op : List (List ℕ) → Result Op Reason
wait_op (slot ∷ []) = needed (slot_of slot) >>= λ slot. Ok (ops.Wait slot)
wait_op _ = Err WrongCount

-- no words
unfoldable pub next_op : List (List ℕ) → Result Op Reason
next_op [] = Ok ops.Next
next_op (_ ∷ _) = Err WrongCount

-- no words
unfoldable pub yield_op : List (List ℕ) → Result Op Reason
yield_op [] = Ok ops.Yield
yield_op (_ ∷ _) = Err WrongCount

-- SESSION V MODE
unfoldable pub open_op : List (List ℕ) → Result Op Reason
open_op (session ∷ phone ∷ mode ∷ []) = do
  session ← needed (session_of session)
  phone ← needed (value phone)
  mode ← needed (exchange_mode_of mode)
  Ok (ops.OpenSession session phone mode)
open_op _ = Err WrongCount

-- HANDLE SESSION
unfoldable pub begin_op : List (List ℕ) → Result Op Reason
begin_op (handle ∷ session ∷ []) = do
  handle ← needed (handle_of handle)
  session ← needed (session_of session)
  Ok (ops.Begin handle session)
begin_op _ = Err WrongCount

-- HANDLE
unfoldable pub end_op : List (List ℕ) → Result Op Reason
end_op (handle ∷ []) = needed (handle_of handle) >>= λ handle. Ok (ops.End handle)
end_op _ = Err WrongCount

-- SESSION
unfoldable pub close_op : List (List ℕ) → Result Op Reason
close_op (session ∷ []) = needed (session_of session) >>= λ session. Ok (ops.Close session)
close_op _ = Err WrongCount

-- the form of each first word in a raw task
abbrev pub raw_op_of : OpVerb → List (List ℕ) → Result Op Reason
raw_op_of verbs.Call words = call_op words
raw_op_of verbs.Receive words = receive_op words
raw_op_of verbs.Answer words = answer_op words
raw_op_of verbs.Forward words = forward_op words
raw_op_of verbs.Hangup words = hangup_op words
raw_op_of verbs.Area words = area_op words
raw_op_of verbs.Unarea words = unarea_op words
raw_op_of verbs.Poke words = poke_op words
raw_op_of verbs.Peek words = peek_op words
raw_op_of verbs.Set words = set_op words
raw_op_of verbs.Jump words = jump_op words
raw_op_of verbs.JumpEqual words = jump_equal_op words
raw_op_of verbs.JumpDiffer words = jump_differ_op words
raw_op_of verbs.Wait words = Err OutOfPlace
raw_op_of verbs.Next words = Err OutOfPlace
raw_op_of verbs.Yield words = Err OutOfPlace
raw_op_of verbs.Send words = Err OutOfPlace
raw_op_of verbs.Open words = Err OutOfPlace
raw_op_of verbs.Begin words = Err OutOfPlace
raw_op_of verbs.End words = Err OutOfPlace
raw_op_of verbs.Close words = Err OutOfPlace

-- the form of each first word in an async task
abbrev pub async_op_of : OpVerb → List (List ℕ) → Result Op Reason
async_op_of verbs.Call words = call_slot_op words
async_op_of verbs.Receive words = Err OutOfPlace
async_op_of verbs.Answer words = answer_op words
async_op_of verbs.Forward words = forward_op words
async_op_of verbs.Hangup words = Err OutOfPlace
async_op_of verbs.Area words = area_op words
async_op_of verbs.Unarea words = unarea_op words
async_op_of verbs.Poke words = poke_op words
async_op_of verbs.Peek words = peek_op words
async_op_of verbs.Set words = set_op words
async_op_of verbs.Jump words = jump_op words
async_op_of verbs.JumpEqual words = jump_equal_op words
async_op_of verbs.JumpDiffer words = jump_differ_op words
async_op_of verbs.Wait words = wait_op words
async_op_of verbs.Next words = next_op words
async_op_of verbs.Yield words = yield_op words
async_op_of verbs.Send words = send_op words
async_op_of verbs.Open words = open_op words
async_op_of verbs.Begin words = begin_op words
async_op_of verbs.End words = end_op words
async_op_of verbs.Close words = close_op words

-- the form of each first word in a task of this kind, if one takes operations
abbrev pub op_in : Option Kind → OpVerb → List (List ℕ) → Result Op Reason
op_in None verb words = Err OutOfPlace
op_in (Some Naming) verb words = Err OutOfPlace
op_in (Some Raw) verb words = raw_op_of verb words
op_in (Some Async) verb words = async_op_of verb words
op_in (Some Block) verb words = Err OutOfPlace
