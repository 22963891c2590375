use Rattle.std.proofs.Common.{ℕ, ◌≡◌, ◌<◌, ◌-◌, List, length, get_or, sym, ap, subst, arith}
use Rattle.std.specs.Global.{Vec}
use Rattle.search_goals.specs.Goals.{listed}
use Rattle.search_goals.specs.Writing.{IsNameOf}
use Rattle.std.proofs.lemmas.List.{length-map}
use Rattle.search_goals.proofs.NameWords.{named_listed}
use Rattle.search_goals.proofs.names.TaskNames.name_of.Goals as goal

pub returns : goal.returns
returns c =
    let known : List (Vec ℕ) = c.self.inside.known.items in
    let i : ℕ = c.args.task.0 - 1 in
    let word : Vec ℕ = c.index-known-task.result in
    let is : word ≡ get_or known i word =
    subst (λ (ws : List (Vec ℕ)). word ≡ get_or ws i word) c.as_slice-known.ensures.value c.index-known-task.is in
    let long = length-map known (λ (w : Vec ℕ). w.items) in
    let view = ap (λ (ns : List (List ℕ)). length ns) c.self.view_is in
    let low = c.requires.0 in
    let high = c.requires.1 in
    let within : i < length known = omega (arith, long, view, low, high) in
    subst (λ (ns : List (List ℕ)). IsNameOf ns c.args.task c.as_slice.result.now) c.self.view_is
    (subst (λ (n : List ℕ). IsNameOf (listed known) c.args.task n) (sym c.as_slice.ensures.value)
    (named_listed known i word c.args.task c.self.invariant within is (omega (arith, low))))
