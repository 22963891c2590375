-- Reading arguments one after the other, as a loop does.
use Rattle.std.proofs.Common.{◌≡◌, ℕ, suc, ◌-◌, ◌+◌, ◌<◌, List, [], ◌∷◌, ◌++◌, length, take, drop, get_or, set, Option, Some, None, refl, sym, ap, ◌∙◌, append_assoc, arith, length-take-le}
use Rattle.std.specs.Prelude.{replicate, option_map}
use Rattle.std.specs.Borrow.{Bor}
use Rattle.std.proofs.lemmas.List.{drop_more, drop_at, take-append-drop}
use Rattle.std.proofs.lemmas.Grind.{drop-set_at}
use Rattle.std.proofs.Math.ListN.{length-set}
use Rattle.ipc_ids.specs.declared.op.Value.{Value}
use Rattle.script_lines.specs.Word.{value}
use Rattle.script_lines.specs.Operation.{values, padded, arguments}
use Rattle.script_lines.specs.Text.{texts}

-- the values before, and those that are still read
abbrev pub pad_with : List Value → Option (List Value) → Option (List Value)
pad_with front read = option_map (λ vs. padded (front ++ vs)) read

regroup : (front : List Value) (v : Value) (read : Option (List Value)) → pad_with front (option_map (λ vs. v ∷ vs) read) ≡ pad_with (front ++ v ∷ []) read
regroup front v (Some vs) = ap (λ (ws : List Value). Some (padded ws)) (sym (append_assoc front (v ∷ []) vs))
regroup front v None = refl

pub goes_on : (words : List (Bor (List ℕ))) (i : ℕ) (d : Bor (List ℕ)) (v : Value) (front : List Value) → i < length words → value (get_or words i d).now ≡ Some v
    → pad_with front (values (texts (drop i words))) ≡ arguments (texts words) → pad_with (front ++ v ∷ []) (values (texts (drop (i + 1) words))) ≡ arguments (texts words)
goes_on words i d v front lt read so_far =
    let here : values (texts (drop i words)) ≡ option_map (λ vs. v ∷ vs) (values (texts (drop (i + 1) words))) = rw (drop_more words i d lt, read) refl in
    sym (regroup front v (values (texts (drop (i + 1) words)))) ∙ ap (pad_with front) (sym here) ∙ so_far

-- behind the values that are set stand zeros
pub zeros_stay : (xs : List Value) (i : ℕ) (v z : Value) → i < 5 → length xs ≡ 5 → xs ≡ take i xs ++ replicate (5 - i) z → set xs i v ≡ take (i + 1) (set xs i v) ++ replicate (5 - (i + 1)) z
zeros_stay xs i v z lt len e =
    let k : 5 - i ≡ suc (5 - (i + 1)) = omega arith in
    let within : i < length xs = omega arith in
    let tail : drop i xs ≡ replicate (5 - i) z = ap (drop i) e ∙ drop_at (take i xs) (replicate (5 - i) z) i (length-take-le i xs (omega arith)) in
    let tail' : drop i xs ≡ z ∷ replicate (5 - (i + 1)) z = tail ∙ ap (λ (n : ℕ). replicate n z) k in
    let here = drop_more xs i v within in
    let there = drop_more (set xs i v) i v (omega (arith, length-set xs i v)) in
    let new = drop-set_at xs i i v refl within in
    let same : drop (i + 1) (set xs i v) ≡ replicate (5 - (i + 1)) z = cc in
    sym (take-append-drop (i + 1) (set xs i v)) ∙ ap (λ (ys : List Value). take (i + 1) (set xs i v) ++ ys) same
