use Rattle.std.proofs.Common.{◌+◌, ◌-◌, ◌∷◌, List, ℕ, length, drop, sym, ap, ◌∙◌, arith}
use Rattle.std.proofs.lemmas.List.{length-drop, take_all}
use Rattle.hipc_search.specs.Moves.{words_of}
use Rattle.hipc_search.proofs.ListWords.{first_piece}
use Rattle.hipc_search.proofs.moves.first_word.Goals as goal

pub returns-in-Some-clause-cut : goal.returns-in-Some-clause-cut
returns-in-Some-clause-cut c =
    let text = c.args.text.now in
    let behind = drop (c.in-Some.at + 1) text in
    let long = length-drop (c.in-Some.at + 1) text in
    first_piece text c.in-Some.at (sym c.in-Some.ensures)
    ∙ ap (λ (w : List ℕ). w ∷ words_of behind) (sym c.split_at.ensures.front)
    ∙ ap (λ (r : List ℕ). c.split_at.result.0.now ∷ words_of r) (sym (take_all (length text - (c.in-Some.at + 1)) behind (omega (arith, long))))
