-- What a line spells in a task is an operation of the task's kind, whose registers, slots, handles, sessions and
-- places are there.
use Rattle.std.proofs.Common.{◌≡◌, ◌<◌, ◌++◌, ℕ, Bool, true, false, cond, ltb, List, [], ◌∷◌, length, drop, Option, Some, None, Result, Ok, Err, refl}
use Rattle.std.specs.Prelude.{All, IfOk, IfSome, option_map, replicate, nat_eq, nat_le, ◌-◌, ◌&&◌, ◌||◌, ◌==◌, codes}
use Rattle.std.specs.List.{starts_with}
use Rattle.std.specs.Option.{option_and_then, option_or}
use Rattle.std.proofs.lemmas.List.Elements.{All-append, All-cons, All-nil, All-replicate}
use Rattle.std.proofs.lemmas.Bool.{ltb-true}
use Rattle.script_lines.proofs.Steps.{Any, any, some_then, ok_then}
use Rattle.ipc_ids.specs.Digits.{in_base}
use Rattle.ipc_ids.specs.declared.op.Value.{Value}
use Rattle.ipc_ids.specs.declared.op.Value.TheVariants.{Number, Register}
use Rattle.ipc_ids.specs.declared.op.Op.{Op}
use Rattle.script_lines.specs.declared.fault.Reason.{Reason}
use Rattle.script_lines.specs.declared.fault.Reason.TheVariants.{WrongCount}
use Rattle.script_lines.specs.declared.plan.Kind.{Kind}
use Rattle.script_lines.specs.declared.plan.Kind.TheVariants.{Raw, Async}
use Rattle.script_lines.specs.declared.word.OpVerb.{OpVerb}
use Rattle.script_lines.specs.declared.word.OpVerb.TheVariants as verbs
use Rattle.script_lines.specs.Ranges.{IsInRange, IsRawOp, IsAsyncOp, IsOpOf}
use Rattle.script_lines.specs.Word.{number, register_number, register, named, value, number_below, bytes_of, mode_of, exchange_mode_of}
use Rattle.script_lines.specs.Operation.{values, arguments, two_and_arguments, call_op, answer_op, receive_op, forward_op, hangup_op, area_op, unarea_op, poke_op, peek_op, set_op, jump_op, two_and_place, jump_equal_op, jump_differ_op, slot_of, handle_of, session_of, call_slot_op, send_op, wait_op, next_op, yield_op, open_op, begin_op, end_op, close_op, raw_op_of, async_op_of}

-- ---- one step of reading

few : {A : Type 0} (Q : A → Type 0) (b : Bool) (r : Result A Reason) → IfOk r Q → IfOk (cond b r (Err WrongCount)) Q
few Q true r is = is
few Q false r is = tt

weaker : {A : Type 0} (P Q : A → Type 0) (r : Result A Reason) → ((x : A) → P x → Q x) → IfOk r P → IfOk r Q
weaker P Q (Ok x) goes is = goes x is
weaker P Q (Err reason) goes is = tt

-- ---- one word

kept : (limit n : ℕ) (other : Bool) → IfSome (cond (ltb n limit && other) (Some n) None) (λ k. k < limit)
kept limit n other = go (ltb n limit) other refl where
  go : (b other : Bool) → ltb n limit ≡ b → IfSome (cond (b && other) (Some n) None) (λ k. k < limit)
  go true true is = ltb-true n limit is
  go true false is = tt
  go false other is = tt

kept_alone : (limit n : ℕ) → IfSome (cond (ltb n limit) (Some n) None) (λ k. k < limit)
kept_alone limit n = go (ltb n limit) refl where
  go : (b : Bool) → ltb n limit ≡ b → IfSome (cond b (Some n) None) (λ k. k < limit)
  go true is = ltb-true n limit is
  go false is = tt

below_fits : (limit : ℕ) (word : List ℕ) → IfSome (number_below limit word) (λ n. n < limit)
unfolding number_below
below_fits limit word = go (number word) where
  go : (o : Option ℕ) → IfSome (option_and_then (λ n. cond (ltb n limit) (Some n) None) o) (λ n. n < limit)
  go (Some n) = kept_alone limit n
  go None = tt

slot_fits : (word : List ℕ) → IfSome (slot_of word) (λ n. n < 8)
unfolding slot_of
slot_fits word = below_fits 8 word

handle_fits : (word : List ℕ) → IfSome (handle_of word) (λ n. n < 8)
unfolding handle_of
handle_fits word = below_fits 8 word

session_fits : (word : List ℕ) → IfSome (session_of word) (λ n. n < 16)
unfolding session_of
session_fits word = below_fits 16 word

register_fits : (word : List ℕ) → IfSome (register word) (λ n. n < 32)
unfolding register register_number
register_fits word = go (starts_with nat_eq word (codes "r")) (in_base 10 2 (drop 1 word)) where
  go : (b : Bool) (o : Option ℕ) → IfSome (cond b (option_and_then (λ n. cond (ltb n 32 && (length (drop 1 word) == 1 || nat_le 10 n)) (Some n) None) o) None) (λ n. n < 32)
  go true (Some n) = kept 32 n (length (drop 1 word) == 1 || nat_le 10 n)
  go true None = tt
  go false o = tt

value_fits : (word : List ℕ) → IfSome (value word) IsInRange
unfolding value
value_fits word = go (number word) (register word) (named word) (register_fits word) where
  go : (n r m : Option ℕ) → IfSome r (λ k. k < 32) → IfSome (option_or (option_map Number n) (option_or (option_map Register r) (option_map Number m))) IsInRange
  go (Some n) r m is = tt
  go None (Some r) m is = is
  go None None (Some m) is = tt
  go None None None is = tt

-- ---- up to five arguments

values_fit : (words : List (List ℕ)) → IfSome (values words) (All IsInRange)
values_fit [] = All-nil IsInRange
values_fit (word ∷ words) = go (value word) (values words) (value_fits word) (values_fit words) where
  go : (v : Option Value) (vs : Option (List Value)) → IfSome v IsInRange → IfSome vs (All IsInRange) → IfSome (option_and_then (λ v. option_map (λ vs. v ∷ vs) vs) v) (All IsInRange)
  go (Some v) (Some vs) is are = All-cons IsInRange v vs is are
  go (Some v) None is are = tt
  go None vs is are = tt

arguments_fit : (words : List (List ℕ)) → IfSome (arguments words) (All IsInRange)
unfolding arguments
arguments_fit words = go (values words) (values_fit words) where
  go : (o : Option (List Value)) → IfSome o (All IsInRange) → IfSome (option_map (λ vs. vs ++ replicate (5 - length vs) (Number 0)) o) (All IsInRange)
  go (Some vs) are = All-append IsInRange vs _ are (All-replicate IsInRange (5 - length vs) (Number 0) tt)
  go None are = tt

abbrev InRanges : Value × Value × List Value → Type 0
InRanges x = IsInRange x.0 × IsInRange x.1 × All IsInRange x.2

pub two_and_arguments_fit : (words : List (List ℕ)) → IfOk (two_and_arguments words) (λ x. IsInRange x.0 × IsInRange x.1 × All IsInRange x.2)
unfolding two_and_arguments
two_and_arguments_fit [] = tt
two_and_arguments_fit (_ ∷ []) = tt
two_and_arguments_fit (first ∷ second ∷ others) = few InRanges (nat_le (length others) 5) _
    (some_then IsInRange InRanges (value first) _ (value_fits first) (λ x px.
    some_then IsInRange InRanges (value second) _ (value_fits second) (λ y py.
    some_then (All IsInRange) InRanges (arguments others) _ (arguments_fit others) (λ zs pzs. (px, py, pzs)))))

two_and_place_fit : (words : List (List ℕ)) → IfOk (two_and_place words) (λ x. IsInRange x.0 × IsInRange x.1 × (x.2 < 65536))
unfolding two_and_place
two_and_place_fit (left ∷ right ∷ to ∷ []) =
    some_then IsInRange (λ (x : Value × Value × ℕ). IsInRange x.0 × IsInRange x.1 × (x.2 < 65536)) (value left) _ (value_fits left) (λ x px.
    some_then IsInRange (λ (x : Value × Value × ℕ). IsInRange x.0 × IsInRange x.1 × (x.2 < 65536)) (value right) _ (value_fits right) (λ y py.
    some_then (λ n. n < 65536) (λ (x : Value × Value × ℕ). IsInRange x.0 × IsInRange x.1 × (x.2 < 65536)) (number_below 65536 to) _ (below_fits 65536 to) (λ n pn. (px, py, pn))))
two_and_place_fit _ = tt

-- ---- operations of raw tasks and of async tasks

abbrev IsOfBoth : Op → Type 0
IsOfBoth op = IsRawOp op × IsAsyncOp op

raw : (r : Result Op Reason) → IfOk r IsOfBoth → IfOk r IsRawOp
raw r is = weaker IsOfBoth IsRawOp r (λ op both. both.0) is

fibril : (r : Result Op Reason) → IfOk r IsOfBoth → IfOk r IsAsyncOp
fibril r is = weaker IsOfBoth IsAsyncOp r (λ op both. both.1) is

answer_fits : (words : List (List ℕ)) → IfOk (answer_op words) IsOfBoth
unfolding answer_op
answer_fits words = ok_then InRanges IsOfBoth (two_and_arguments words) _ (two_and_arguments_fit words) (λ x is. ((refl, is), (refl, is)))

forward_fits : (words : List (List ℕ)) → IfOk (forward_op words) IsOfBoth
unfolding forward_op
forward_fits (call ∷ phone ∷ mode ∷ []) =
    some_then IsInRange IsOfBoth (value call) _ (value_fits call) (λ c pc.
    some_then IsInRange IsOfBoth (value phone) _ (value_fits phone) (λ p pp.
    some_then Any IsOfBoth (mode_of mode) _ (any (mode_of mode)) (λ m _. ((refl, (pc, pp)), (refl, (pc, pp))))))
forward_fits (call ∷ phone ∷ mode ∷ method ∷ others) = few IsOfBoth (nat_le (length others) 5) _
    (some_then IsInRange IsOfBoth (value call) _ (value_fits call) (λ c pc.
    some_then IsInRange IsOfBoth (value phone) _ (value_fits phone) (λ p pp.
    some_then Any IsOfBoth (mode_of mode) _ (any (mode_of mode)) (λ m _.
    some_then IsInRange IsOfBoth (value method) _ (value_fits method) (λ n pn.
    some_then (All IsInRange) IsOfBoth (arguments others) _ (arguments_fit others) (λ vs pvs. ((refl, (pc, pp, pn, pvs)), (refl, (pc, pp, pn, pvs)))))))))
forward_fits _ = tt

area_fits : (words : List (List ℕ)) → IfOk (area_op words) IsOfBoth
unfolding area_op
area_fits (base ∷ pages ∷ rights ∷ []) =
    some_then IsInRange IsOfBoth (value base) _ (value_fits base) (λ b pb.
    some_then IsInRange IsOfBoth (value pages) _ (value_fits pages) (λ p pp.
    some_then IsInRange IsOfBoth (value rights) _ (value_fits rights) (λ r pr. ((refl, (pb, pp, pr)), (refl, (pb, pp, pr))))))
area_fits _ = tt

unarea_fits : (words : List (List ℕ)) → IfOk (unarea_op words) IsOfBoth
unfolding unarea_op
unarea_fits (base ∷ []) = some_then IsInRange IsOfBoth (value base) _ (value_fits base) (λ b pb. ((refl, pb), (refl, pb)))
unarea_fits _ = tt

poke_fits : (words : List (List ℕ)) → IfOk (poke_op words) IsOfBoth
unfolding poke_op
poke_fits (at ∷ bytes ∷ []) =
    some_then IsInRange IsOfBoth (value at) _ (value_fits at) (λ a pa.
    some_then Any IsOfBoth (bytes_of bytes) _ (any (bytes_of bytes)) (λ bs _. ((refl, pa), (refl, pa))))
poke_fits _ = tt

peek_fits : (words : List (List ℕ)) → IfOk (peek_op words) IsOfBoth
unfolding peek_op
peek_fits (at ∷ count ∷ []) =
    some_then IsInRange IsOfBoth (value at) _ (value_fits at) (λ a pa.
    some_then IsInRange IsOfBoth (value count) _ (value_fits count) (λ c pc. ((refl, (pa, pc)), (refl, (pa, pc)))))
peek_fits _ = tt

set_fits : (words : List (List ℕ)) → IfOk (set_op words) IsOfBoth
unfolding set_op
set_fits (target ∷ source ∷ []) =
    some_then (λ n. n < 32) IsOfBoth (register target) _ (register_fits target) (λ t pt.
    some_then IsInRange IsOfBoth (value source) _ (value_fits source) (λ s ps. ((refl, (pt, ps)), (refl, (pt, ps)))))
set_fits _ = tt

jump_fits : (words : List (List ℕ)) → IfOk (jump_op words) IsOfBoth
unfolding jump_op
jump_fits (to ∷ []) = some_then (λ n. n < 65536) IsOfBoth (number_below 65536 to) _ (below_fits 65536 to) (λ n pn. ((refl, pn), (refl, pn)))
jump_fits _ = tt

jump_equal_fits : (words : List (List ℕ)) → IfOk (jump_equal_op words) IsOfBoth
unfolding jump_equal_op
jump_equal_fits words = ok_then (λ (x : Value × Value × ℕ). IsInRange x.0 × IsInRange x.1 × (x.2 < 65536)) IsOfBoth (two_and_place words) _ (two_and_place_fit words) (λ x is. ((refl, is), (refl, is)))

jump_differ_fits : (words : List (List ℕ)) → IfOk (jump_differ_op words) IsOfBoth
unfolding jump_differ_op
jump_differ_fits words = ok_then (λ (x : Value × Value × ℕ). IsInRange x.0 × IsInRange x.1 × (x.2 < 65536)) IsOfBoth (two_and_place words) _ (two_and_place_fit words) (λ x is. ((refl, is), (refl, is)))

-- ---- operations of raw tasks alone

call_fits : (words : List (List ℕ)) → IfOk (call_op words) IsRawOp
unfolding call_op
call_fits words = ok_then InRanges IsRawOp (two_and_arguments words) _ (two_and_arguments_fit words) (λ x is. (refl, is))

receive_fits : (words : List (List ℕ)) → IfOk (receive_op words) IsRawOp
unfolding receive_op
receive_fits [] = (refl, tt)
receive_fits (_ ∷ _) = tt

hangup_fits : (words : List (List ℕ)) → IfOk (hangup_op words) IsRawOp
unfolding hangup_op
hangup_fits (phone ∷ []) = some_then IsInRange IsRawOp (value phone) _ (value_fits phone) (λ p pp. (refl, pp))
hangup_fits _ = tt

raw_op_fits : (verb : OpVerb) (words : List (List ℕ)) → IfOk (raw_op_of verb words) IsRawOp
raw_op_fits verbs.Call words = call_fits words
raw_op_fits verbs.Receive words = receive_fits words
raw_op_fits verbs.Answer words = raw (answer_op words) (answer_fits words)
raw_op_fits verbs.Forward words = raw (forward_op words) (forward_fits words)
raw_op_fits verbs.Hangup words = hangup_fits words
raw_op_fits verbs.Area words = raw (area_op words) (area_fits words)
raw_op_fits verbs.Unarea words = raw (unarea_op words) (unarea_fits words)
raw_op_fits verbs.Poke words = raw (poke_op words) (poke_fits words)
raw_op_fits verbs.Peek words = raw (peek_op words) (peek_fits words)
raw_op_fits verbs.Set words = raw (set_op words) (set_fits words)
raw_op_fits verbs.Jump words = raw (jump_op words) (jump_fits words)
raw_op_fits verbs.JumpEqual words = raw (jump_equal_op words) (jump_equal_fits words)
raw_op_fits verbs.JumpDiffer words = raw (jump_differ_op words) (jump_differ_fits words)
raw_op_fits verbs.Wait words = tt
raw_op_fits verbs.Next words = tt
raw_op_fits verbs.Yield words = tt
raw_op_fits verbs.Send words = tt
raw_op_fits verbs.Open words = tt
raw_op_fits verbs.Begin words = tt
raw_op_fits verbs.End words = tt
raw_op_fits verbs.Close words = tt

-- ---- operations of async tasks alone

call_slot_fits : (words : List (List ℕ)) → IfOk (call_slot_op words) IsAsyncOp
unfolding call_slot_op
call_slot_fits (slot ∷ phone ∷ method ∷ others) = few IsAsyncOp (nat_le (length others) 5) _
    (some_then (λ n. n < 8) IsAsyncOp (slot_of slot) _ (slot_fits slot) (λ s ps.
    some_then IsInRange IsAsyncOp (value phone) _ (value_fits phone) (λ p pp.
    some_then IsInRange IsAsyncOp (value method) _ (value_fits method) (λ m pm.
    some_then (All IsInRange) IsAsyncOp (arguments others) _ (arguments_fit others) (λ vs pvs. (refl, (ps, pp, pm, pvs)))))))
call_slot_fits _ = tt

send_fits : (words : List (List ℕ)) → IfOk (send_op words) IsAsyncOp
unfolding send_op
send_fits (slot ∷ handle ∷ method ∷ others) = few IsAsyncOp (nat_le (length others) 5) _
    (some_then (λ n. n < 8) IsAsyncOp (slot_of slot) _ (slot_fits slot) (λ s ps.
    some_then (λ n. n < 8) IsAsyncOp (handle_of handle) _ (handle_fits handle) (λ h ph.
    some_then IsInRange IsAsyncOp (value method) _ (value_fits method) (λ m pm.
    some_then (All IsInRange) IsAsyncOp (arguments others) _ (arguments_fit others) (λ vs pvs. (refl, (ps, ph, pm, pvs)))))))
send_fits _ = tt

wait_fits : (words : List (List ℕ)) → IfOk (wait_op words) IsAsyncOp
unfolding wait_op
wait_fits (slot ∷ []) = some_then (λ n. n < 8) IsAsyncOp (slot_of slot) _ (slot_fits slot) (λ s ps. (refl, ps))
wait_fits _ = tt

next_fits : (words : List (List ℕ)) → IfOk (next_op words) IsAsyncOp
unfolding next_op
next_fits [] = (refl, tt)
next_fits (_ ∷ _) = tt

yield_fits : (words : List (List ℕ)) → IfOk (yield_op words) IsAsyncOp
unfolding yield_op
yield_fits [] = (refl, tt)
yield_fits (_ ∷ _) = tt

open_fits : (words : List (List ℕ)) → IfOk (open_op words) IsAsyncOp
unfolding open_op
open_fits (session ∷ phone ∷ mode ∷ []) =
    some_then (λ n. n < 16) IsAsyncOp (session_of session) _ (session_fits session) (λ s ps.
    some_then IsInRange IsAsyncOp (value phone) _ (value_fits phone) (λ p pp.
    some_then Any IsAsyncOp (exchange_mode_of mode) _ (any (exchange_mode_of mode)) (λ m _. (refl, (ps, pp)))))
open_fits _ = tt

begin_fits : (words : List (List ℕ)) → IfOk (begin_op words) IsAsyncOp
unfolding begin_op
begin_fits (handle ∷ session ∷ []) =
    some_then (λ n. n < 8) IsAsyncOp (handle_of handle) _ (handle_fits handle) (λ h ph.
    some_then (λ n. n < 16) IsAsyncOp (session_of session) _ (session_fits session) (λ s ps. (refl, (ph, ps))))
begin_fits _ = tt

end_fits : (words : List (List ℕ)) → IfOk (end_op words) IsAsyncOp
unfolding end_op
end_fits (handle ∷ []) = some_then (λ n. n < 8) IsAsyncOp (handle_of handle) _ (handle_fits handle) (λ h ph. (refl, ph))
end_fits _ = tt

close_fits : (words : List (List ℕ)) → IfOk (close_op words) IsAsyncOp
unfolding close_op
close_fits (session ∷ []) = some_then (λ n. n < 16) IsAsyncOp (session_of session) _ (session_fits session) (λ s ps. (refl, ps))
close_fits _ = tt

async_op_fits : (verb : OpVerb) (words : List (List ℕ)) → IfOk (async_op_of verb words) IsAsyncOp
async_op_fits verbs.Call words = call_slot_fits words
async_op_fits verbs.Receive words = tt
async_op_fits verbs.Answer words = fibril (answer_op words) (answer_fits words)
async_op_fits verbs.Forward words = fibril (forward_op words) (forward_fits words)
async_op_fits verbs.Hangup words = tt
async_op_fits verbs.Area words = fibril (area_op words) (area_fits words)
async_op_fits verbs.Unarea words = fibril (unarea_op words) (unarea_fits words)
async_op_fits verbs.Poke words = fibril (poke_op words) (poke_fits words)
async_op_fits verbs.Peek words = fibril (peek_op words) (peek_fits words)
async_op_fits verbs.Set words = fibril (set_op words) (set_fits words)
async_op_fits verbs.Jump words = fibril (jump_op words) (jump_fits words)
async_op_fits verbs.JumpEqual words = fibril (jump_equal_op words) (jump_equal_fits words)
async_op_fits verbs.JumpDiffer words = fibril (jump_differ_op words) (jump_differ_fits words)
async_op_fits verbs.Wait words = wait_fits words
async_op_fits verbs.Next words = next_fits words
async_op_fits verbs.Yield words = yield_fits words
async_op_fits verbs.Send words = send_fits words
async_op_fits verbs.Open words = open_fits words
async_op_fits verbs.Begin words = begin_fits words
async_op_fits verbs.End words = end_fits words
async_op_fits verbs.Close words = close_fits words

-- ---- an operation of the present task

abbrev IsFor : Option Kind → Op → Type 0
IsFor present op = IfSome present (λ kind. IsOpOf kind op)

pub raw_in : (present : Option Kind) (kind : Kind) (verb : OpVerb) (words : List (List ℕ)) (r : Result Op Reason) → present ≡ Some kind → kind ≡ Raw → r ≡ raw_op_of verb words → IfOk r (IsFor present)
raw_in present kind verb words r is of e = rw (is, of, e) (raw_op_fits verb words)

pub async_in : (present : Option Kind) (kind : Kind) (verb : OpVerb) (words : List (List ℕ)) (r : Result Op Reason) → present ≡ Some kind → kind ≡ Async → r ≡ async_op_of verb words → IfOk r (IsFor present)
async_in present kind verb words r is of e = rw (is, of, e) (async_op_fits verb words)
