-- Reading bytes one after the other, as a loop does.
use Rattle.std.proofs.Common.{◌≡◌, ◌≤◌, ℕ, List, [], ◌∷◌, ◌++◌, length, get_or, drop, Option, Some, None, refl, sym, ap, ◌∙◌, append_assoc, arith}
use Rattle.std.specs.Prelude.{option_map}
use Rattle.std.specs.Option.{option_and_then}
use Rattle.script_lines.specs.Word.{hex_byte, hex_bytes}

-- the bytes before, and those that are still read
abbrev pub bytes_with : List ℕ → Option (List ℕ) → Option (List ℕ)
bytes_with front read = option_map (λ bytes. front ++ bytes) read

regroup : (front : List ℕ) (b : ℕ) (read : Option (List ℕ)) → bytes_with (front ++ b ∷ []) read ≡ bytes_with front (option_map (λ bytes. b ∷ bytes) read)
regroup front b (Some bytes) = ap Some (append_assoc front (b ∷ []) bytes)
regroup front b None = refl

-- what the first two digits say of all
hex_front : (rest : List ℕ) (o : Option ℕ) → 2 ≤ length rest → hex_byte (get_or rest 0 0) (get_or rest 1 0) ≡ o → hex_bytes rest ≡ option_and_then (λ byte. option_map (λ bytes. byte ∷ bytes) (hex_bytes (drop 2 rest))) o
hex_front [] o two is = absurd (omega arith)
hex_front (_ ∷ []) o two is = absurd (omega arith)
hex_front (high ∷ low ∷ others) o two is = ap (option_and_then (λ byte. option_map (λ bytes. byte ∷ bytes) (hex_bytes others))) is

pub hex_goes_on : (front more rest word : List ℕ) (b : ℕ) → 2 ≤ length rest → hex_byte (get_or rest 0 0) (get_or rest 1 0) ≡ Some b → more ≡ front ++ b ∷ [] → bytes_with front (hex_bytes rest) ≡ hex_bytes word
    → bytes_with more (hex_bytes (drop 2 rest)) ≡ hex_bytes word
hex_goes_on front more rest word b two is e told =
    ap (λ (f : List ℕ). bytes_with f (hex_bytes (drop 2 rest))) e ∙ regroup front b (hex_bytes (drop 2 rest)) ∙ ap (bytes_with front) (sym (hex_front rest (Some b) two is)) ∙ told
