use Rattle.std.proofs.Common.{ℕ, List, take, drop, sym, ap, ◌∙◌}
use Rattle.search_goals.proofs.Cuts.{cut_found, cut_none}
use Rattle.search_goals.proofs.stops.cut_at.Goals as goal

pub split_at-requires : goal.split_at-requires
split_at-requires c = (cut_found c.args.stop c.args.text.now c.in-Some.at (sym c.in-Some.ensures)).1

pub returns-in-Some : goal.returns-in-Some
returns-in-Some c =
    let text : List ℕ = c.args.text.now in
    let found = cut_found c.args.stop text c.in-Some.at (sym c.in-Some.ensures) in
    record {
      front = c.split_at.ensures.front ∙ ap (λ (n : ℕ). take n text) found.0;
      behind = c.split_at.ensures.back ∙ ap (λ (n : ℕ). drop n text) found.0;
    }

pub returns-in-None : goal.returns-in-None
returns-in-None c =
    let whole = cut_none c.args.stop c.args.text.now (sym c.in-None.ensures) in
    record { front = whole.0; behind = whole.1 }
