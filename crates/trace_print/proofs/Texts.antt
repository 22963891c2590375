-- The text of entries that follow one another.
use Rattle.std.proofs.Common.{◌≡◌, List, [], ◌∷◌, ◌++◌, refl, sym, ap, ◌∙◌, append_assoc}
use Rattle.ipc_ids.specs.declared.entry.Entry.{Entry}
use Rattle.trace_print.specs.Text.{text_of_entry, text_of}

pub text_append : (a b : List Entry) → text_of (a ++ b) ≡ text_of a ++ text_of b
text_append [] b = refl
text_append (e ∷ a) b =
    ap (λ t. text_of_entry e ++ t) (text_append a b) ∙ sym (append_assoc (text_of_entry e) (text_of a) (text_of b))
