-- The calls on connections keep the fibril of each among those that there are.
use Rattle.std.proofs.Common.{◌≡◌, ℕ, zero, suc, ◌+◌, ◌≤◌, List, [], ◌∷◌, ◌++◌}
use Rattle.std.proofs.Common.{length, take, drop, Option, Some, None, refl, ◌∙◌}
use Rattle.std.proofs.Common.{arith}
use Rattle.std.specs.Prelude.{slice_get, slice_set, position}
use Rattle.std.specs.List.{find}
use Rattle.std.proofs.lemmas.Bool.{eq-eqb, ne_eqb, eqb-true}
use Rattle.ipc_ids.specs.declared.numbers.CallNo.{CallNo}
use Rattle.ipc_ids.specs.declared.numbers.FibrilNo.{FibrilNo}
use Rattle.ipc_ids.specs.declared.numbers.Label.{Label}
use Rattle.ipc_ids.specs.declared.message.Msg.{Msg}
use Rattle.fibril_core.specs.declared.conn.Conn.{Conn}
use Rattle.fibril_core.specs.Fibrils.{FibrilOrder, next_number}
use Rattle.fibril_core.specs.Conns.{leads_to, serves, conn_at, conn_of_fibril}
use Rattle.fibril_core.specs.Conns.{lose_labels}
use Rattle.fibril_core.specs.Conns.{new_conn, start, take_first, with_conn, took_first, take_next}
use Rattle.fibril_core.specs.Conns.{route_to, routed_to, route, without_conn, finish}
use Rattle.fibril_core.proofs.Connections.{by_fibril, lost_fibril}
use Rattle.async_task.specs.AsyncState.{AreServed}

served_at : (n : ℕ) (cs : List Conn) (i : ℕ) (c : Conn) →
    AreServed n cs → slice_get cs i ≡ Some c → c.fibril.0 ≤ n
served_at n [] i c h e = absurd (grind (arith, e))
served_at n (d ∷ cs) zero c h e = grind (arith, h.0, e)
served_at n (d ∷ cs) (suc i) c h e = served_at n cs i c h.1 e

served_set : (n : ℕ) (cs : List Conn) (i : ℕ) (c : Conn) →
    AreServed n cs → c.fibril.0 ≤ n → AreServed n (slice_set cs i c)
served_set n [] i c h e = tt
served_set n (d ∷ cs) zero c h e = (e, h.1)
served_set n (d ∷ cs) (suc i) c h e = (h.0, served_set n cs i c h.1 e)

served_all : (n : ℕ) (cs ds : List Conn) →
    AreServed n cs → AreServed n ds → AreServed n (cs ++ ds)
served_all n [] ds h e = e
served_all n (c ∷ cs) ds h e = (h.0, served_all n cs ds h.1 e)

served_take : (n : ℕ) (cs : List Conn) (i : ℕ) → AreServed n cs → AreServed n (take i cs)
served_take n cs zero h = tt
served_take n [] (suc i) h = tt
served_take n (c ∷ cs) (suc i) h = (h.0, served_take n cs i h.1)

served_drop : (n : ℕ) (cs : List Conn) (i : ℕ) → AreServed n cs → AreServed n (drop i cs)
served_drop n cs zero h = h
served_drop n [] (suc i) h = tt
served_drop n (c ∷ cs) (suc i) h = served_drop n cs i h.1

-- more fibrils serve them as well
pub served_more : (n m : ℕ) (cs : List Conn) → n ≤ m → AreServed n cs → AreServed m cs
served_more n m [] e h = tt
served_more n m (c ∷ cs) e h = (grind (arith, h.0, e), served_more n m cs e h.1)

served_lost : (n : ℕ) (label : Label) (cs : List Conn) →
    AreServed n cs → AreServed n (lose_labels label cs)
served_lost n label [] h = tt
served_lost n label (c ∷ cs) h =
    (grind (arith, lost_fibril label c, h.0), served_lost n label cs h.1)

taken_at : (n : ℕ) (cs : List Conn) (p : Option ℕ) →
    AreServed n cs → AreServed n (with_conn cs p (took_first (conn_at cs p)))
taken_at n cs None h = h
taken_at n cs (Some i) h = taken_one (slice_get cs i) refl
  where
    taken_one : (c : Option Conn) →
        slice_get cs i ≡ c → AreServed n (with_conn cs (Some i) (took_first c))
    taken_one None e = h
    taken_one (Some c) e = served_set n cs i (take_first c) h (served_at n cs i c h e)

-- a fibril asked its connection
pub served_taken : (n : ℕ) (f : FibrilNo) (cs : List Conn) →
    AreServed n cs → AreServed n (take_next f cs)
served_taken n f cs h = taken_at n cs (position (serves f) cs) h

routed_fibril : (call : CallNo) (msg : Msg) (c : Conn) → (route_to call msg c).fibril ≡ c.fibril
routed_fibril call msg c = grind arith

routed_at : (n : ℕ) (call : CallNo) (msg : Msg) (cs : List Conn) (p : Option ℕ) →
    AreServed n cs → AreServed n (with_conn cs p (routed_to call msg (conn_at cs p)))
routed_at n call msg cs None h = h
routed_at n call msg cs (Some i) h = routed_one (slice_get cs i) refl
  where
    routed_one : (c : Option Conn) →
        slice_get cs i ≡ c → AreServed n (with_conn cs (Some i) (routed_to call msg c))
    routed_one None e = h
    routed_one (Some c) e =
        served_set n cs i (route_to call msg c) h
        (grind (arith, routed_fibril call msg c, served_at n cs i c h e))

-- a call went to its connection
pub served_routed : (n : ℕ) (label : Label) (call : CallNo) (msg : Msg) (cs : List Conn) →
    AreServed n cs → AreServed n (route label call msg cs)
served_routed n label call msg cs h = routed_at n call msg cs (position (leads_to label) cs) h

-- a connection started
pub served_started : (n : ℕ) (label : Label) (f : FibrilNo) (cs : List Conn) →
    AreServed n cs → f.0 ≤ n → AreServed n (start label f cs)
served_started n label f cs h e =
    served_all n (lose_labels label cs) (new_conn label f ∷ []) (served_lost n label cs h) (e, tt)

removed_at : (n : ℕ) (cs : List Conn) (p : Option ℕ) →
    AreServed n cs → AreServed n (without_conn cs p)
removed_at n cs None h = h
removed_at n cs (Some i) h =
    served_all n (take i cs) (drop (suc i) cs) (served_take n cs i h) (served_drop n cs (suc i) h)

-- the connection of a fibril is over
pub served_finished : (n : ℕ) (f : FibrilNo) (cs : List Conn) →
    AreServed n cs → AreServed n (finish f cs)
served_finished n f cs h = removed_at n cs (position (serves f) cs) h

serves_no_other : (n : ℕ) (cs : List Conn) → AreServed n cs →
    find (serves (record { 0 = n + 1 })) cs ≡ None
serves_no_other n [] h = refl
serves_no_other n (c ∷ cs) h =
    grind (arith, serves_no_other n cs h.1, h.0, eq-eqb, ne_eqb, eqb-true)

-- the next fibril serves none of them
pub serves_none : (o : FibrilOrder) (cs : List Conn) → AreServed (length o.fibrils) cs →
    conn_of_fibril (next_number o) cs ≡ None
serves_none o cs h =
    by_fibril (next_number o) cs ∙ serves_no_other (length o.fibrils) cs h
