use Rattle.std.proofs.Common.{◌≡◌, ℕ, List, [], ◌∷◌, ◌++◌, Ok, sym, ap, ◌∙◌}
use Rattle.std.specs.Global.{Vec}
use Rattle.std.proofs.lemmas.List.{map_push}
use Rattle.search_goals.specs.Goals.{listed}
use Rattle.search_goals.specs.LineShapes.{may_begin}
use Rattle.search_goals.proofs.GoalReading.{word_goes_on, word_ends}
use Rattle.search_goals.proofs.goal.with_word.Goals as goal

pub returns-then-not-may_begin : goal.returns-then-not-may_begin
returns-then-not-may_begin c =
    let so_far : List (List ℕ) = listed c.args.words.now.items in
    let text : List ℕ = c.in_ok-text.text.items in
    let all : listed c.push.new.self.items ≡ so_far ++ text ∷ [] =
    ap listed c.in_ok-push.ensures.items
    ∙ map_push (λ (w : Vec ℕ). w.items) c.args.words.now.items c.in_ok-text.text in
    word_ends c.args.names.now c.args.place so_far c.args.word.now text c.in_ok-text.ensures
    (ap may_begin (sym all ∙ ap listed (sym c.as_slice.ensures.value)) ∙ sym c.may_begin.ensures
    ∙ c.if-not-may_begin.true)

pub returns : goal.returns
returns c =
    let so_far : List (List ℕ) = listed c.args.words.now.items in
    let text : List ℕ = c.in_ok-text.text.items in
    let all : listed c.push.new.self.items ≡ so_far ++ text ∷ [] =
    ap listed c.in_ok-push.ensures.items
    ∙ map_push (λ (w : Vec ℕ). w.items) c.args.words.now.items c.in_ok-text.text in
    word_goes_on c.args.names.now c.args.place so_far c.args.word.now text c.in_ok-text.ensures
    (ap may_begin (sym all ∙ ap listed (sym c.as_slice.ensures.value)) ∙ sym c.may_begin.ensures
    ∙ c.if-not-may_begin.false)
    ∙ ap (λ (ws : List (List ℕ)). Ok ws) (sym all)
