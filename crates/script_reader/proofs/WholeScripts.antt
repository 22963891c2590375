-- The two parts of a script that is read whole fit each other.
use Rattle.std.proofs.Common.{◌≡◌, ℕ, ◌+◌, List, [], ◌∷◌, Result, Ok, Err, refl, sym, subst}
use Rattle.script_lines.specs.declared.fault.Reason.{Reason}
use Rattle.script_lines.specs.Line.{after_line}
use Rattle.script_lines.specs.ScriptParts.{ScriptParts, no_parts, PartsFit}
use Rattle.script_lines.proofs.Parts.{line_fits, nothing_fits}
use Rattle.script_reader.specs.Reading.{at_line, lines_from}

at_ok : (n : ℕ) (r : Result ScriptParts Reason) (f : ScriptParts → Result ScriptParts (ℕ × Reason)) (v : ScriptParts) → at_line n r f ≡ Ok v → (w : ScriptParts) × (r ≡ Ok w) × (f w ≡ Ok v)
at_ok n (Ok w) f v e = (w, refl, e)
at_ok n (Err reason) f v e = absurd cc

abbrev numbered : ScriptParts → Result ScriptParts (ℕ × Reason)
numbered w = Ok w

numbered_is : (x y : ScriptParts) → numbered x ≡ numbered y → x ≡ y
numbered_is x y e = cc

lines_fit : (n : ℕ) (w v : ScriptParts) (lines : List (List ℕ)) → PartsFit w → lines_from after_line n w lines ≡ Ok v → PartsFit v
lines_fit n w v [] fit e = subst PartsFit (numbered_is w v e) fit
lines_fit n w v (line ∷ lines) fit e =
    let got = at_ok n (after_line w line) (λ next. lines_from after_line (n + 1) next lines) v e in
    lines_fit (n + 1) got.0 v lines (line_fits w got.0 fit line got.1) got.2

pub all_lines_fit : (w v : ScriptParts) (lines : List (List ℕ)) → w ≡ no_parts → lines_from after_line 1 w lines ≡ Ok v → PartsFit v
all_lines_fit w v lines is e = lines_fit 1 w v lines (subst PartsFit (sym is) nothing_fits) e
