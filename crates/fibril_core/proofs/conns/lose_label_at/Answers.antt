use Rattle.std.proofs.Common.{rules, ◌≡◌, ◌<◌, length, sym, ◌∙◌, ap, arith}
use Rattle.std.specs.Prelude.{slice_set}
use Rattle.std.specs.VecDeque.{deque_len}
use Rattle.fibril_core.specs.declared.conn.Conn.{Conn}
use Rattle.fibril_core.specs.Conns.{lose_label, leads_to}
use Rattle.fibril_core.proofs.Places.{within}
use Rattle.fibril_core.proofs.Searches.{found_place}
use Rattle.fibril_core.proofs.ConnIndex.{loses_at, loses_none}
use Rattle.fibril_core.proofs.conns.lose_label_at.Goals as goal

pub index_mut-requires : goal.index_mut-requires
index_mut-requires c =
    let cs = c.args.conns.now.items in
    let found = found_place (leads_to c.args.label) cs c.in-Some.i (sym (sym c.in-Some.is ∙ c.requires.place)) in
    let less : c.in-Some.i < length cs = within cs c.in-Some.i found.0 found.1 in
    let same : length cs ≡ deque_len c.args.conns.now = search rules in omega arith

pub returns-in-Some-clause-lost : goal.returns-in-Some-clause-lost
returns-in-Some-clause-lost c =
    let cs = c.args.conns.now.items in
    ap (slice_set cs c.in-Some.i) c.lose_label.ensures
    ∙ ap (λ (x : Conn). slice_set cs c.in-Some.i (lose_label c.args.label x)) c.index_mut.ensures.value
    ∙ loses_at c.args.label cs c.in-Some.i c.index_mut.result.now c.requires.sound (sym c.in-Some.is ∙ c.requires.place)

pub returns-in-None-clause-lost : goal.returns-in-None-clause-lost
returns-in-None-clause-lost c = loses_none c.args.label c.args.conns.now.items (sym c.in-None.is ∙ c.requires.place)
