-- A word's number is that of a method, or else of a code, or else of a right or flag.
use Rattle.std.proofs.Common.{◌≡◌, ℕ, ◌++◌, List, Option, Some, None, refl, sym, ap, ◌∙◌}
use Rattle.std.specs.Prelude.{option_map, find}
use Rattle.std.specs.Option.{option_or}
use Rattle.std.specs.Str.{bytes_eq}
use Rattle.std.proofs.lemmas.List.Folds.{find-append}
use Rattle.ipc_ids.specs.Tables.{Names, method_names, code_names, right_names, restrict_names, named_in}
use Rattle.script_lines.specs.Word.{named}

map_or : {A B : Type 0} (f : A → B) (o p : Option A) → option_map f (option_or o p) ≡ option_or (option_map f o) (option_map f p)
map_or f None p = refl
map_or f (Some x) p = refl

-- what stands in a table of two parts stands in the first part, or else in the second
in_parts : (names others : Names) (word : List ℕ) → named_in (names ++ others) word ≡ option_or (named_in names word) (named_in others word)
in_parts names others word =
    ap (option_map (λ (entry : List ℕ × ℕ). entry.1)) (find-append (λ entry. bytes_eq entry.0 word) names others)
    ∙ map_or (λ (entry : List ℕ × ℕ). entry.1) (find (λ entry. bytes_eq entry.0 word) names) (find (λ entry. bytes_eq entry.0 word) others)

named_by_tables : (word : List ℕ) → named word ≡ option_or (named_in method_names word) (option_or (named_in code_names word) (named_in (right_names ++ restrict_names) word))
unfolding named
named_by_tables word =
    in_parts method_names (code_names ++ (right_names ++ restrict_names)) word
    ∙ ap (option_or (named_in method_names word)) (in_parts code_names (right_names ++ restrict_names) word)

-- what the tables behind the first one say
abbrev in_codes_or_others : List ℕ → Option ℕ
in_codes_or_others word = option_or (named_in code_names word) (named_in (right_names ++ restrict_names) word)

-- each table is looked at where those before it do not have the word
pub method_is : (word : List ℕ) (r : Option ℕ) (n : ℕ) → r ≡ named_in method_names word → r ≡ Some n → Some n ≡ named word
method_is word r n told is = sym (named_by_tables word ∙ ap (λ (o : Option ℕ). option_or o (in_codes_or_others word)) (sym told ∙ is))

no_method : (word : List ℕ) (r : Option ℕ) → r ≡ named_in method_names word → r ≡ None → named word ≡ in_codes_or_others word
no_method word r told is = named_by_tables word ∙ ap (λ (o : Option ℕ). option_or o (in_codes_or_others word)) (sym told ∙ is)

pub code_is : (word : List ℕ) (m r : Option ℕ) (n : ℕ) → m ≡ named_in method_names word → m ≡ None → r ≡ named_in code_names word → r ≡ Some n → Some n ≡ named word
code_is word m r n method none told is = sym (no_method word m method none ∙ ap (λ (o : Option ℕ). option_or o (named_in (right_names ++ restrict_names) word)) (sym told ∙ is))

pub other_is : (word : List ℕ) (m r : Option ℕ) → m ≡ named_in method_names word → m ≡ None → r ≡ named_in code_names word → r ≡ None → named_in (right_names ++ restrict_names) word ≡ named word
other_is word m r method none told is = sym (no_method word m method none ∙ ap (λ (o : Option ℕ). option_or o (named_in (right_names ++ restrict_names) word)) (sym told ∙ is))
