-- The verb that is tried before the table.
use Rattle.std.proofs.Common.{◌≡◌, ℕ, true, List, Some, refl}
use Rattle.std.specs.Prelude.{codes}
use Rattle.std.specs.Str.{bytes_eq}
use Rattle.std.proofs.lemmas.Slice.Eq.{bytes_eq-Decides}
use Rattle.script_lines.specs.declared.word.Verb.TheVariants.{Op}
use Rattle.script_lines.specs.declared.word.OpVerb.TheVariants.{Call}
use Rattle.script_lines.specs.Word.{verb_of}

pub call_verb : (word : List ℕ) → bytes_eq word (codes "call") ≡ true → verb_of word ≡ Some (Op Call)
unfolding verb_of
call_verb word h =
    let same : word ≡ codes "call" = (bytes_eq-Decides word (codes "call")).0 h in
    rw same refl
