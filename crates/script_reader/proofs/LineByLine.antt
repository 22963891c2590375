-- A text is read line by line: one line is taken, or it is at fault.
use Rattle.std.proofs.Common.{◌≡◌, ℕ, ◌+◌, List, ◌∷◌, Option, Result, Ok, Err, sym, ap, ◌∙◌}
use Rattle.script_lines.specs.declared.fault.Reason.{Reason}
use Rattle.script_lines.specs.Text.{first_line, behind, lines}
use Rattle.script_lines.proofs.Lines.{lines_of, lines_cut}
use Rattle.script_reader.specs.Reading.{at_line, lines_from}

-- the first line is taken, and the others are left
pub next_line : {A : Type 0} (after : A → List ℕ → Result A Reason) (n : ℕ) (x y : A) (text : List ℕ) (others : Option (List ℕ)) → others ≡ behind text
    → after x (first_line text) ≡ Ok y → lines_from after n x (lines text) ≡ lines_from after (n + 1) y (lines_of others)
next_line after n x y text others e is =
    ap (lines_from after n x) (lines_cut text ∙ ap (λ left. first_line text ∷ lines_of left) (sym e))
    ∙ ap (λ told. at_line n told (λ next. lines_from after (n + 1) next (lines_of others))) is

-- the first line is at fault
pub faulty_line : {A : Type 0} (after : A → List ℕ → Result A Reason) (n : ℕ) (x : A) (text : List ℕ) (reason : Reason) → after x (first_line text) ≡ Err reason
    → lines_from after n x (lines text) ≡ Err (n, reason)
faulty_line after n x text reason is =
    ap (lines_from after n x) (lines_cut text)
    ∙ ap (λ told. at_line n told (λ next. lines_from after (n + 1) next (lines_of (behind text)))) is
