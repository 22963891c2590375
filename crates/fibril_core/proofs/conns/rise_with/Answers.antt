use Rattle.std.proofs.Common.{rules, ◌≡◌, ◌<◌, ◌-◌, length, Some, refl, ap, arith}
use Rattle.std.specs.Prelude.{slice_get}
use Rattle.std.specs.VecDeque.{deque_len}
use Rattle.std.proofs.lemmas.Bool.Decides.{nat_tests}
use Rattle.fibril_core.specs.declared.conn.Conn.{Conn}
use Rattle.fibril_core.proofs.ConnIndex.{rise_started, stands}
use Rattle.fibril_core.proofs.conns.rise_with.Goals as goal

pub returns-in-Some : goal.returns-in-Some
returns-in-Some c less label =
    let cs = c.args.conns.now.items in
    let last = c.in-Some.conn.now in
    let below : last.fibril.0 < c.args.f.0 = grind (arith, nat_tests, less) in
    let same : length cs ≡ deque_len c.args.conns.now = search rules in
    let some : 0 < deque_len c.args.conns.now = c.in-Some.ensures.variant.0 refl in
    let inside : deque_len c.args.conns.now - 1 < length cs = omega arith in
    let that = stands cs (deque_len c.args.conns.now - 1) last inside c.in-Some.ensures.lookup in
    let there : slice_get cs (length cs - 1) ≡ Some last = rw same that in
    rise_started cs c.args.f label (c.requires.rise c.if-not-rising.false)
    (λ d also. let is : d ≡ last = cc also in let number = ap (λ (e : Conn). e.fibril.0) is in omega arith)
