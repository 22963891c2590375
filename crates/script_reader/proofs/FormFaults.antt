-- What the words behind a first word are at fault for, by the forms of that first word.
use Rattle.std.proofs.Common.{◌≡◌, ℕ, suc, ◌<◌, Bool, true, false, cond, not, ◌&&◌, List, [], ◌∷◌, length, Option, Some, None, Result, Ok, Err, refl, ap, ◌∙◌, arith}
use Rattle.std.specs.Prelude.{is_some, nat_le, ◌==◌, option_map}
use Rattle.std.specs.List.{list_all}
use Rattle.std.specs.Option.{option_and_then}
use Rattle.std.proofs.lemmas.Bool.{ne_eqb, lt-leb}
use Rattle.ipc_ids.specs.declared.op.Value.{Value}
use Rattle.ipc_ids.specs.declared.op.Op.TheVariants as ops
use Rattle.script_lines.specs.declared.fault.Reason.{Reason}
use Rattle.script_lines.specs.declared.fault.Reason.TheVariants.{OutOfPlace, WrongCount, BadWord}
use Rattle.script_lines.specs.declared.word.OpVerb.{OpVerb}
use Rattle.script_lines.specs.declared.word.OpVerb.TheVariants as verbs
use Rattle.script_lines.specs.Word.{number_below, value, register, bytes_of, mode_of, exchange_mode_of}
use Rattle.script_lines.specs.Operation.{◌>>=◌, needed, padded, values, arguments, two_and_arguments, call_op, answer_op, receive_op, forward_op, hangup_op, area_op, unarea_op, poke_op, peek_op, set_op, jump_op, two_and_place, jump_equal_op, jump_differ_op, slot_of, handle_of, session_of, call_slot_op, send_op, wait_op, next_op, yield_op, open_op, begin_op, end_op, close_op, raw_op_of, async_op_of}
use Rattle.script_reader.specs.Reasons.{Form, V, up_to_five, shared_forms, raw_forms, async_forms, is_out_of_place, has_wrong_count, has_bad_word}
use Rattle.script_reader.specs.Rows.{first_reason, fault_in}

-- the rows of forms
abbrev pub Says : {A : Type 0} → Result A Reason → List Form → List (List ℕ) → Type 0
Says r forms words = fault_in r ≡ first_reason ((OutOfPlace, is_out_of_place forms) ∷ (WrongCount, has_wrong_count forms words) ∷ (BadWord, has_bad_word forms words) ∷ [])

-- the row of one form with so many words
abbrev pub bad : Bool → Option Reason
bad fit = cond (not fit && true) (Some BadWord) None

pub bind_ok : {A B : Type 0} (r : Result A Reason) (f : A → B) → fault_in (r >>= λ x. Ok (f x)) ≡ fault_in r
bind_ok (Ok x) f = refl
bind_ok (Err e) f = refl

pub one_needed : {A X : Type 0} (a : Option A) (f : A → X) → fault_in (needed a >>= λ x. Ok (f x)) ≡ bad (is_some a && true)
one_needed (Some x) f = refl
one_needed None f = refl

pub two_needed : {A B X : Type 0} (a : Option A) (b : Option B) (f : A → B → X) → fault_in (needed a >>= λ x. needed b >>= λ y. Ok (f x y)) ≡ bad (is_some a && (is_some b && true))
two_needed (Some x) b f = one_needed b (f x)
two_needed None b f = refl

pub three_needed : {A B C X : Type 0} (a : Option A) (b : Option B) (c : Option C) (f : A → B → C → X)
    → fault_in (needed a >>= λ x. needed b >>= λ y. needed c >>= λ z. Ok (f x y z)) ≡ bad (is_some a && (is_some b && (is_some c && true)))
three_needed (Some x) b c f = two_needed b c (f x)
three_needed None b c f = refl

-- a count that no form has
pub differ : (a b : ℕ) → a < b → (a == b) ≡ false
differ a b h = ne_eqb a b (λ e. omega (arith, e, h))

exceeds : (a b : ℕ) → b < a → nat_le a b ≡ false
exceeds a b h = lt-leb a b h

-- ---- up to five values

some_both : (v : Option Value) (vs : Option (List Value)) → is_some (option_and_then (λ x. option_map (λ xs. x ∷ xs) vs) v) ≡ (is_some v && is_some vs)
some_both None vs = refl
some_both (Some x) None = refl
some_both (Some x) (Some xs) = refl

values_some : (words : List (List ℕ)) → is_some (values words) ≡ list_all V words
values_some [] = refl
values_some (w ∷ words) = some_both (value w) (values words) ∙ ap (λ (b : Bool). is_some (value w) && b) (values_some words)

some_padded : (vs : Option (List Value)) → is_some (option_map padded vs) ≡ is_some vs
some_padded None = refl
some_padded (Some xs) = refl

arguments_some : (words : List (List ℕ)) → is_some (arguments words) ≡ list_all V words
unfolding arguments
arguments_some words = some_padded (values words) ∙ values_some words

last_needed : {X : Type 0} (words : List (List ℕ)) (f : List Value → X) → fault_in (needed (arguments words) >>= λ x. Ok (f x)) ≡ bad (list_all V words)
last_needed words f = go (arguments words) f ∙ ap bad (arguments_some words) where
  go : {A X : Type 0} (a : Option A) (f : A → X) → fault_in (needed a >>= λ x. Ok (f x)) ≡ bad (is_some a)
  go (Some x) f = refl
  go None f = refl

-- words of their kinds, and values behind them
one_then : {A X : Type 0} (a : Option A) (words : List (List ℕ)) (f : A → List Value → X)
    → fault_in (needed a >>= λ x. needed (arguments words) >>= λ y. Ok (f x y)) ≡ bad (is_some a && list_all V words)
one_then (Some x) words f = last_needed words (f x)
one_then None words f = refl

two_then : {A B X : Type 0} (a : Option A) (b : Option B) (words : List (List ℕ)) (f : A → B → List Value → X)
    → fault_in (needed a >>= λ x. needed b >>= λ y. needed (arguments words) >>= λ z. Ok (f x y z)) ≡ bad (is_some a && (is_some b && list_all V words))
two_then (Some x) b words f = one_then b words (f x)
two_then None b words f = refl

three_then : {A B C X : Type 0} (a : Option A) (b : Option B) (c : Option C) (words : List (List ℕ)) (f : A → B → C → List Value → X)
    → fault_in (needed a >>= λ x. needed b >>= λ y. needed c >>= λ z. needed (arguments words) >>= λ u. Ok (f x y z u))
    ≡ bad (is_some a && (is_some b && (is_some c && list_all V words)))
three_then (Some x) b c words f = two_then b c words (f x)
three_then None b c words f = refl

four_then : {A B C D X : Type 0} (a : Option A) (b : Option B) (c : Option C) (d : Option D) (words : List (List ℕ)) (f : A → B → C → D → List Value → X)
    → fault_in (needed a >>= λ x. needed b >>= λ y. needed c >>= λ z. needed d >>= λ u. needed (arguments words) >>= λ t. Ok (f x y z u t))
    ≡ bad (is_some a && (is_some b && (is_some c && (is_some d && list_all V words))))
four_then (Some x) b c d words f = three_then b c d words (f x)
four_then None b c d words f = refl

-- ---- each operation

two_says : (words : List (List ℕ)) → Says (two_and_arguments words) (up_to_five (V ∷ V ∷ [])) words
unfolding two_and_arguments
two_says [] = refl
two_says (a ∷ []) = refl
two_says (a ∷ b ∷ []) = two_then (value a) (value b) [] (λ x y z. (x, y, z))
two_says (a ∷ b ∷ c ∷ []) = two_then (value a) (value b) (c ∷ []) (λ x y z. (x, y, z))
two_says (a ∷ b ∷ c ∷ d ∷ []) = two_then (value a) (value b) (c ∷ d ∷ []) (λ x y z. (x, y, z))
two_says (a ∷ b ∷ c ∷ d ∷ e ∷ []) = two_then (value a) (value b) (c ∷ d ∷ e ∷ []) (λ x y z. (x, y, z))
two_says (a ∷ b ∷ c ∷ d ∷ e ∷ f ∷ []) = two_then (value a) (value b) (c ∷ d ∷ e ∷ f ∷ []) (λ x y z. (x, y, z))
two_says (a ∷ b ∷ c ∷ d ∷ e ∷ f ∷ g ∷ []) = two_then (value a) (value b) (c ∷ d ∷ e ∷ f ∷ g ∷ []) (λ x y z. (x, y, z))
two_says (a ∷ b ∷ c ∷ d ∷ e ∷ f ∷ g ∷ h ∷ others) = rw (differ 2 (suc (suc (suc (suc (suc (suc (suc (suc (length others))))))))) (omega arith), differ 3 (suc (suc (suc (suc (suc (suc (suc (suc (length others))))))))) (omega arith), differ 4 (suc (suc (suc (suc (suc (suc (suc (suc (length others))))))))) (omega arith), differ 5 (suc (suc (suc (suc (suc (suc (suc (suc (length others))))))))) (omega arith), differ 6 (suc (suc (suc (suc (suc (suc (suc (suc (length others))))))))) (omega arith), differ 7 (suc (suc (suc (suc (suc (suc (suc (suc (length others))))))))) (omega arith), exceeds (suc (suc (suc (suc (suc (suc (length others))))))) 5 (omega arith)) refl

call_says : (words : List (List ℕ)) → Says (call_op words) (raw_forms verbs.Call) words
unfolding call_op
call_says words = bind_ok (two_and_arguments words) (λ (x : Value × Value × List Value). ops.Call x.0 x.1 x.2) ∙ two_says words

answer_says : (words : List (List ℕ)) → Says (answer_op words) (shared_forms verbs.Answer) words
unfolding answer_op
answer_says words = bind_ok (two_and_arguments words) (λ (x : Value × Value × List Value). ops.Answer x.0 x.1 x.2) ∙ two_says words

forward_says : (words : List (List ℕ)) → Says (forward_op words) (shared_forms verbs.Forward) words
unfolding forward_op
forward_says [] = refl
forward_says (a ∷ []) = refl
forward_says (a ∷ b ∷ []) = refl
forward_says (a ∷ b ∷ c ∷ []) = three_needed (value a) (value b) (mode_of c) ops.Forward
forward_says (a ∷ b ∷ c ∷ d ∷ []) = four_then (value a) (value b) (mode_of c) (value d) [] ops.ForwardWith
forward_says (a ∷ b ∷ c ∷ d ∷ e ∷ []) = four_then (value a) (value b) (mode_of c) (value d) (e ∷ []) ops.ForwardWith
forward_says (a ∷ b ∷ c ∷ d ∷ e ∷ f ∷ []) = four_then (value a) (value b) (mode_of c) (value d) (e ∷ f ∷ []) ops.ForwardWith
forward_says (a ∷ b ∷ c ∷ d ∷ e ∷ f ∷ g ∷ []) = four_then (value a) (value b) (mode_of c) (value d) (e ∷ f ∷ g ∷ []) ops.ForwardWith
forward_says (a ∷ b ∷ c ∷ d ∷ e ∷ f ∷ g ∷ h ∷ []) = four_then (value a) (value b) (mode_of c) (value d) (e ∷ f ∷ g ∷ h ∷ []) ops.ForwardWith
forward_says (a ∷ b ∷ c ∷ d ∷ e ∷ f ∷ g ∷ h ∷ i ∷ []) = four_then (value a) (value b) (mode_of c) (value d) (e ∷ f ∷ g ∷ h ∷ i ∷ []) ops.ForwardWith
forward_says (a ∷ b ∷ c ∷ d ∷ e ∷ f ∷ g ∷ h ∷ i ∷ j ∷ others) = rw (differ 3 (suc (suc (suc (suc (suc (suc (suc (suc (suc (suc (length others))))))))))) (omega arith), differ 4 (suc (suc (suc (suc (suc (suc (suc (suc (suc (suc (length others))))))))))) (omega arith), differ 5 (suc (suc (suc (suc (suc (suc (suc (suc (suc (suc (length others))))))))))) (omega arith), differ 6 (suc (suc (suc (suc (suc (suc (suc (suc (suc (suc (length others))))))))))) (omega arith), differ 7 (suc (suc (suc (suc (suc (suc (suc (suc (suc (suc (length others))))))))))) (omega arith), differ 8 (suc (suc (suc (suc (suc (suc (suc (suc (suc (suc (length others))))))))))) (omega arith), differ 9 (suc (suc (suc (suc (suc (suc (suc (suc (suc (suc (length others))))))))))) (omega arith), exceeds (suc (suc (suc (suc (suc (suc (length others))))))) 5 (omega arith)) refl

receive_says : (words : List (List ℕ)) → Says (receive_op words) (raw_forms verbs.Receive) words
unfolding receive_op
receive_says [] = refl
receive_says (a ∷ others) = rw (differ 0 (suc (length others)) (omega arith)) refl

hangup_says : (words : List (List ℕ)) → Says (hangup_op words) (raw_forms verbs.Hangup) words
unfolding hangup_op
hangup_says [] = refl
hangup_says (a ∷ []) = one_needed (value a) ops.Hangup
hangup_says (a ∷ b ∷ others) = rw (differ 1 (suc (suc (length others))) (omega arith)) refl

area_says : (words : List (List ℕ)) → Says (area_op words) (shared_forms verbs.Area) words
unfolding area_op
area_says [] = refl
area_says (a ∷ []) = refl
area_says (a ∷ b ∷ []) = refl
area_says (a ∷ b ∷ c ∷ []) = three_needed (value a) (value b) (value c) ops.Area
area_says (a ∷ b ∷ c ∷ d ∷ others) = rw (differ 3 (suc (suc (suc (suc (length others))))) (omega arith)) refl

unarea_says : (words : List (List ℕ)) → Says (unarea_op words) (shared_forms verbs.Unarea) words
unfolding unarea_op
unarea_says [] = refl
unarea_says (a ∷ []) = one_needed (value a) ops.Unarea
unarea_says (a ∷ b ∷ others) = rw (differ 1 (suc (suc (length others))) (omega arith)) refl

poke_says : (words : List (List ℕ)) → Says (poke_op words) (shared_forms verbs.Poke) words
unfolding poke_op
poke_says [] = refl
poke_says (a ∷ []) = refl
poke_says (a ∷ b ∷ []) = two_needed (value a) (bytes_of b) ops.Poke
poke_says (a ∷ b ∷ c ∷ others) = rw (differ 2 (suc (suc (suc (length others)))) (omega arith)) refl

peek_says : (words : List (List ℕ)) → Says (peek_op words) (shared_forms verbs.Peek) words
unfolding peek_op
peek_says [] = refl
peek_says (a ∷ []) = refl
peek_says (a ∷ b ∷ []) = two_needed (value a) (value b) ops.Peek
peek_says (a ∷ b ∷ c ∷ others) = rw (differ 2 (suc (suc (suc (length others)))) (omega arith)) refl

set_says : (words : List (List ℕ)) → Says (set_op words) (shared_forms verbs.Set) words
unfolding set_op
set_says [] = refl
set_says (a ∷ []) = refl
set_says (a ∷ b ∷ []) = two_needed (register a) (value b) ops.Set
set_says (a ∷ b ∷ c ∷ others) = rw (differ 2 (suc (suc (suc (length others)))) (omega arith)) refl

jump_says : (words : List (List ℕ)) → Says (jump_op words) (shared_forms verbs.Jump) words
unfolding jump_op
jump_says [] = refl
jump_says (a ∷ []) = one_needed (number_below 65536 a) ops.Jump
jump_says (a ∷ b ∷ others) = rw (differ 1 (suc (suc (length others))) (omega arith)) refl

two_and_place_says : (words : List (List ℕ)) → Says (two_and_place words) (shared_forms verbs.JumpEqual) words
unfolding two_and_place
two_and_place_says [] = refl
two_and_place_says (a ∷ []) = refl
two_and_place_says (a ∷ b ∷ []) = refl
two_and_place_says (a ∷ b ∷ c ∷ []) = three_needed (value a) (value b) (number_below 65536 c) (λ x y z. (x, y, z))
two_and_place_says (a ∷ b ∷ c ∷ d ∷ others) = rw (differ 3 (suc (suc (suc (suc (length others))))) (omega arith)) refl

jump_equal_says : (words : List (List ℕ)) → Says (jump_equal_op words) (shared_forms verbs.JumpEqual) words
unfolding jump_equal_op
jump_equal_says words = bind_ok (two_and_place words) (λ (x : Value × Value × ℕ). ops.JumpEqual x.0 x.1 x.2) ∙ two_and_place_says words

jump_differ_says : (words : List (List ℕ)) → Says (jump_differ_op words) (shared_forms verbs.JumpDiffer) words
unfolding jump_differ_op
jump_differ_says words = bind_ok (two_and_place words) (λ (x : Value × Value × ℕ). ops.JumpDiffer x.0 x.1 x.2) ∙ two_and_place_says words

-- ---- operations of fibrils

call_slot_says : (words : List (List ℕ)) → Says (call_slot_op words) (async_forms verbs.Call) words
unfolding call_slot_op slot_of
call_slot_says [] = refl
call_slot_says (a ∷ []) = refl
call_slot_says (a ∷ b ∷ []) = refl
call_slot_says (a ∷ b ∷ c ∷ []) = three_then (number_below 8 a) (value b) (value c) [] ops.CallSlot
call_slot_says (a ∷ b ∷ c ∷ d ∷ []) = three_then (number_below 8 a) (value b) (value c) (d ∷ []) ops.CallSlot
call_slot_says (a ∷ b ∷ c ∷ d ∷ e ∷ []) = three_then (number_below 8 a) (value b) (value c) (d ∷ e ∷ []) ops.CallSlot
call_slot_says (a ∷ b ∷ c ∷ d ∷ e ∷ f ∷ []) = three_then (number_below 8 a) (value b) (value c) (d ∷ e ∷ f ∷ []) ops.CallSlot
call_slot_says (a ∷ b ∷ c ∷ d ∷ e ∷ f ∷ g ∷ []) = three_then (number_below 8 a) (value b) (value c) (d ∷ e ∷ f ∷ g ∷ []) ops.CallSlot
call_slot_says (a ∷ b ∷ c ∷ d ∷ e ∷ f ∷ g ∷ h ∷ []) = three_then (number_below 8 a) (value b) (value c) (d ∷ e ∷ f ∷ g ∷ h ∷ []) ops.CallSlot
call_slot_says (a ∷ b ∷ c ∷ d ∷ e ∷ f ∷ g ∷ h ∷ i ∷ others) = rw (differ 3 (suc (suc (suc (suc (suc (suc (suc (suc (suc (length others)))))))))) (omega arith), differ 4 (suc (suc (suc (suc (suc (suc (suc (suc (suc (length others)))))))))) (omega arith), differ 5 (suc (suc (suc (suc (suc (suc (suc (suc (suc (length others)))))))))) (omega arith), differ 6 (suc (suc (suc (suc (suc (suc (suc (suc (suc (length others)))))))))) (omega arith), differ 7 (suc (suc (suc (suc (suc (suc (suc (suc (suc (length others)))))))))) (omega arith), differ 8 (suc (suc (suc (suc (suc (suc (suc (suc (suc (length others)))))))))) (omega arith), exceeds (suc (suc (suc (suc (suc (suc (length others))))))) 5 (omega arith)) refl

send_says : (words : List (List ℕ)) → Says (send_op words) (async_forms verbs.Send) words
unfolding send_op slot_of handle_of
send_says [] = refl
send_says (a ∷ []) = refl
send_says (a ∷ b ∷ []) = refl
send_says (a ∷ b ∷ c ∷ []) = three_then (number_below 8 a) (number_below 8 b) (value c) [] ops.Send
send_says (a ∷ b ∷ c ∷ d ∷ []) = three_then (number_below 8 a) (number_below 8 b) (value c) (d ∷ []) ops.Send
send_says (a ∷ b ∷ c ∷ d ∷ e ∷ []) = three_then (number_below 8 a) (number_below 8 b) (value c) (d ∷ e ∷ []) ops.Send
send_says (a ∷ b ∷ c ∷ d ∷ e ∷ f ∷ []) = three_then (number_below 8 a) (number_below 8 b) (value c) (d ∷ e ∷ f ∷ []) ops.Send
send_says (a ∷ b ∷ c ∷ d ∷ e ∷ f ∷ g ∷ []) = three_then (number_below 8 a) (number_below 8 b) (value c) (d ∷ e ∷ f ∷ g ∷ []) ops.Send
send_says (a ∷ b ∷ c ∷ d ∷ e ∷ f ∷ g ∷ h ∷ []) = three_then (number_below 8 a) (number_below 8 b) (value c) (d ∷ e ∷ f ∷ g ∷ h ∷ []) ops.Send
send_says (a ∷ b ∷ c ∷ d ∷ e ∷ f ∷ g ∷ h ∷ i ∷ others) = rw (differ 3 (suc (suc (suc (suc (suc (suc (suc (suc (suc (length others)))))))))) (omega arith), differ 4 (suc (suc (suc (suc (suc (suc (suc (suc (suc (length others)))))))))) (omega arith), differ 5 (suc (suc (suc (suc (suc (suc (suc (suc (suc (length others)))))))))) (omega arith), differ 6 (suc (suc (suc (suc (suc (suc (suc (suc (suc (length others)))))))))) (omega arith), differ 7 (suc (suc (suc (suc (suc (suc (suc (suc (suc (length others)))))))))) (omega arith), differ 8 (suc (suc (suc (suc (suc (suc (suc (suc (suc (length others)))))))))) (omega arith), exceeds (suc (suc (suc (suc (suc (suc (length others))))))) 5 (omega arith)) refl

wait_says : (words : List (List ℕ)) → Says (wait_op words) (async_forms verbs.Wait) words
unfolding wait_op slot_of
wait_says [] = refl
wait_says (a ∷ []) = one_needed (number_below 8 a) ops.Wait
wait_says (a ∷ b ∷ others) = rw (differ 1 (suc (suc (length others))) (omega arith)) refl

next_says : (words : List (List ℕ)) → Says (next_op words) (async_forms verbs.Next) words
unfolding next_op
next_says [] = refl
next_says (a ∷ others) = rw (differ 0 (suc (length others)) (omega arith)) refl

yield_says : (words : List (List ℕ)) → Says (yield_op words) (async_forms verbs.Yield) words
unfolding yield_op
yield_says [] = refl
yield_says (a ∷ others) = rw (differ 0 (suc (length others)) (omega arith)) refl

open_says : (words : List (List ℕ)) → Says (open_op words) (async_forms verbs.Open) words
unfolding open_op session_of
open_says [] = refl
open_says (a ∷ []) = refl
open_says (a ∷ b ∷ []) = refl
open_says (a ∷ b ∷ c ∷ []) = three_needed (number_below 16 a) (value b) (exchange_mode_of c) ops.OpenSession
open_says (a ∷ b ∷ c ∷ d ∷ others) = rw (differ 3 (suc (suc (suc (suc (length others))))) (omega arith)) refl

begin_says : (words : List (List ℕ)) → Says (begin_op words) (async_forms verbs.Begin) words
unfolding begin_op handle_of session_of
begin_says [] = refl
begin_says (a ∷ []) = refl
begin_says (a ∷ b ∷ []) = two_needed (number_below 8 a) (number_below 16 b) ops.Begin
begin_says (a ∷ b ∷ c ∷ others) = rw (differ 2 (suc (suc (suc (length others)))) (omega arith)) refl

end_says : (words : List (List ℕ)) → Says (end_op words) (async_forms verbs.End) words
unfolding end_op handle_of
end_says [] = refl
end_says (a ∷ []) = one_needed (number_below 8 a) ops.End
end_says (a ∷ b ∷ others) = rw (differ 1 (suc (suc (length others))) (omega arith)) refl

close_says : (words : List (List ℕ)) → Says (close_op words) (async_forms verbs.Close) words
unfolding close_op session_of
close_says [] = refl
close_says (a ∷ []) = one_needed (number_below 16 a) ops.Close
close_says (a ∷ b ∷ others) = rw (differ 1 (suc (suc (length others))) (omega arith)) refl

-- ---- each first word

pub raw_says : (verb : OpVerb) (words : List (List ℕ)) → Says (raw_op_of verb words) (raw_forms verb) words
raw_says verbs.Call words = call_says words
raw_says verbs.Receive words = receive_says words
raw_says verbs.Answer words = answer_says words
raw_says verbs.Forward words = forward_says words
raw_says verbs.Hangup words = hangup_says words
raw_says verbs.Area words = area_says words
raw_says verbs.Unarea words = unarea_says words
raw_says verbs.Poke words = poke_says words
raw_says verbs.Peek words = peek_says words
raw_says verbs.Set words = set_says words
raw_says verbs.Jump words = jump_says words
raw_says verbs.JumpEqual words = jump_equal_says words
raw_says verbs.JumpDiffer words = jump_differ_says words
raw_says verbs.Wait words = refl
raw_says verbs.Next words = refl
raw_says verbs.Yield words = refl
raw_says verbs.Send words = refl
raw_says verbs.Open words = refl
raw_says verbs.Begin words = refl
raw_says verbs.End words = refl
raw_says verbs.Close words = refl

pub async_says : (verb : OpVerb) (words : List (List ℕ)) → Says (async_op_of verb words) (async_forms verb) words
async_says verbs.Call words = call_slot_says words
async_says verbs.Receive words = refl
async_says verbs.Answer words = answer_says words
async_says verbs.Forward words = forward_says words
async_says verbs.Hangup words = refl
async_says verbs.Area words = area_says words
async_says verbs.Unarea words = unarea_says words
async_says verbs.Poke words = poke_says words
async_says verbs.Peek words = peek_says words
async_says verbs.Set words = set_says words
async_says verbs.Jump words = jump_says words
async_says verbs.JumpEqual words = jump_equal_says words
async_says verbs.JumpDiffer words = jump_differ_says words
async_says verbs.Wait words = wait_says words
async_says verbs.Next words = next_says words
async_says verbs.Yield words = yield_says words
async_says verbs.Send words = send_says words
async_says verbs.Open words = open_says words
async_says verbs.Begin words = begin_says words
async_says verbs.End words = end_says words
async_says verbs.Close words = close_says words
