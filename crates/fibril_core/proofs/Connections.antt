-- The calls on connections: what they come to, and that the connections stay sound.
use Rattle.std.proofs.Common.{◌≡◌, ◌≢◌, ℕ, zero, suc, ◌+◌, ◌<◌, ◌⊎◌, inl, inr, Bool, true, false, List, [], ◌∷◌, ◌++◌, length, map, Option, Some, None, refl, ap, sym, ◌∙◌, subst, arith}
use Rattle.std.specs.Prelude.{if◌then◌else◌, slice_get, slice_set, position, ◌==◌}
use Rattle.std.specs.List.{find, remove}
use Rattle.std.proofs.lemmas.Bool.{eq-eqb, ne_eqb, eqb-true, and_parts, false_from_ne_true}
use Rattle.ipc_ids.specs.declared.numbers.CallNo.{CallNo}
use Rattle.ipc_ids.specs.declared.numbers.Code.{Code}
use Rattle.ipc_ids.specs.declared.numbers.FibrilNo.{FibrilNo}
use Rattle.ipc_ids.specs.declared.numbers.Label.{Label}
use Rattle.ipc_ids.specs.declared.message.Msg.{Msg}
use Rattle.ipc_ids.specs.Codes.{eok, ehangup}
use Rattle.fibril_core.specs.declared.conn.Conn.{Conn}
use Rattle.fibril_core.specs.declared.conn.Queued.{Queued}
use Rattle.ipc_ids.specs.Labels.{same_label}
use Rattle.ipc_ids.proofs.Common.{own_label}
use Rattle.fibril_core.specs.Conns.{no_conns, leads_to, serves, conn_at, conn_of_label, conn_of_fibril, lose_label, lose_labels, new_conn, start, take_first, with_conn, took_first, take_next, closes, route_to, routed_to, route, hung_up, close_answer, owed_by, without_conn, finish}
use Rattle.fibril_core.specs.ConnLaws.{IsOpenOrClosed, IsSound, Finds, after_loss, Starts, Changes, Ends, OwesInOrder}
use Rattle.fibril_core.proofs.Places.{set_here, which, which_pushed, within}
use Rattle.fibril_core.proofs.Searches.{find_is, found_place, find_one, find_none, none_found, find_set, find_removed, find_pushed, find_unpushed, skip, skip_other, skip_one, removed_at}

-- both searches by find
pub by_fibril : (f : FibrilNo) (cs : List Conn) → conn_of_fibril f cs ≡ find (serves f) cs
by_fibril f cs = find_is (serves f) cs conn_at (λ ys. refl) (λ ys i. refl)

pub by_label : (label : Label) (cs : List Conn) → conn_of_label label cs ≡ find (leads_to label) cs
by_label label cs = find_is (leads_to label) cs conn_at (λ ys. refl) (λ ys i. refl)

-- labels that are one

pub same_label_is : (a b : Label) → same_label a b ≡ true → (a.task.0 ≡ b.task.0) × (a.phone.0 ≡ b.phone.0)
same_label_is a b e = let h = and_parts (a.task.0 == b.task.0) (a.phone.0 == b.phone.0) e in (eqb-true a.task.0 b.task.0 h.0, eqb-true a.phone.0 b.phone.0 h.1)

-- where one label leads no other does
same_as : (a b c : Label) → same_label a b ≡ true → same_label a c ≡ same_label b c
same_as a b c e = let h = same_label_is a b e in rw (h.0, h.1) refl

pub turned : (a b : Label) → same_label a b ≡ true → same_label b a ≡ true
turned a b e = let h = same_label_is a b e in rw (h.0, h.1, eq-eqb b.task.0 b.task.0 refl, eq-eqb b.phone.0 b.phone.0 refl) refl

leads : (label : Label) (c : Conn) → leads_to label c ≡ true → (c.routes ≡ true) × (same_label c.label label ≡ true)
leads label c e = and_parts c.routes (same_label c.label label) e

same_leads : (a b : Label) (c : Conn) → same_label a b ≡ true → leads_to a c ≡ leads_to b c
same_leads a b c e = let h = same_label_is a b e in rw (h.0, h.1) refl

-- a connection to which two labels lead: they are one
one_label : (a b : Label) (c : Conn) → leads_to a c ≡ true → leads_to b c ≡ true → same_label a b ≡ true
one_label a b c h g =
    let first = leads a c h in
    let second = leads b c g in
    sym (same_as c.label a b first.1) ∙ second.1

-- a change that leaves the fibril, or the label

keeps_leads : (label : Label) (c d : Conn) → c.routes ≡ d.routes → c.label ≡ d.label → leads_to label c ≡ leads_to label d
keeps_leads label c d r l = rw (r, l) refl

keeps_serves : (f : FibrilNo) (c d : Conn) → c.fibril ≡ d.fibril → serves f c ≡ serves f d
keeps_serves f c d e = rw e refl

serves_own : (c : Conn) → serves c.fibril c ≡ true
serves_own c = eq-eqb c.fibril.0 c.fibril.0 refl

serves_no_other : (g : FibrilNo) (c : Conn) → g.0 ≢ c.fibril.0 → serves g c ≡ false
serves_no_other g c e = ne_eqb c.fibril.0 g.0 (λ h. e (sym h))

-- in sound connections a search for a fibril or a label that is there finds it

pub fibril_there : (cs : List Conn) (i : ℕ) (c : Conn) → IsSound cs → slice_get cs i ≡ Some c → conn_of_fibril c.fibril cs ≡ Some c
fibril_there cs i c sound there = by_fibril c.fibril cs ∙ find_one (serves c.fibril) cs i c (λ j d that h. sound.fibrils j i d c that there (eqb-true d.fibril.0 c.fibril.0 h)) there (serves_own c)

pub label_there : (cs : List Conn) (i : ℕ) (c : Conn) (label : Label) → IsSound cs → slice_get cs i ≡ Some c → leads_to label c ≡ true → conn_of_label label cs ≡ Some c
label_there cs i c label sound there h = by_label label cs ∙ find_one (leads_to label) cs i c (λ j d that g. sound.labels j i d c label that there g h) there h

-- one connection of several changes

-- what stood at a place, with the same fibril and label
pub record Was (cs : List Conn) (j : ℕ) (x : Conn) : Type 0 where
  pub conn : Conn
  pub there : slice_get cs j ≡ Some conn
  pub fibril : conn.fibril ≡ x.fibril
  pub routes : conn.routes ≡ x.routes
  pub label : conn.label ≡ x.label

pub was : (cs : List Conn) (i j : ℕ) (c new x : Conn) → slice_get cs i ≡ Some c → c.fibril ≡ new.fibril → c.routes ≡ new.routes → c.label ≡ new.label → ((j ≡ i) × (new ≡ x)) ⊎ ((j ≢ i) × (slice_get cs j ≡ Some x)) → Was cs j x
was cs i j c new x there f r l (inl h) = record {
  conn = c;
  there = rw h.0 there;
  fibril = f ∙ ap (λ (d : Conn). d.fibril) h.1;
  routes = r ∙ ap (λ (d : Conn). d.routes) h.1;
  label = l ∙ ap (λ (d : Conn). d.label) h.1;
}
was cs i j c new x there f r l (inr h) = record { conn = x; there = h.1; fibril = refl; routes = refl; label = refl }

pub sound_changed : (cs : List Conn) (i : ℕ) (c new : Conn) → IsSound cs → slice_get cs i ≡ Some c → c.fibril ≡ new.fibril → c.routes ≡ new.routes → c.label ≡ new.label → IsOpenOrClosed new → IsSound (slice_set cs i new)
sound_changed cs i c new sound there f r l fits =
    let h = within cs i c there in
    record {
      fibrils = λ j k a b s t e. fibrils_by j k a b (was cs i j c new a there f r l (which cs i j new a h s)) (was cs i k c new b there f r l (which cs i k new b h t)) e;
      labels = λ j k a b label s t d e. labels_by j k a b label (was cs i j c new a there f r l (which cs i j new a h s)) (was cs i k c new b there f r l (which cs i k new b h t)) d e;
      closed = λ j a s. closed_by j a (which cs i j new a h s);
    } where
      fibrils_by : (j k : ℕ) (a b : Conn) → Was cs j a → Was cs k b → a.fibril.0 ≡ b.fibril.0 → j ≡ k
      fibrils_by j k a b v w e = sound.fibrils j k v.conn w.conn v.there w.there (ap (λ (n : FibrilNo). n.0) v.fibril ∙ e ∙ ap (λ (n : FibrilNo). n.0) (sym w.fibril))

      labels_by : (j k : ℕ) (a b : Conn) (label : Label) → Was cs j a → Was cs k b → leads_to label a ≡ true → leads_to label b ≡ true → j ≡ k
      labels_by j k a b label v w d e = sound.labels j k v.conn w.conn label v.there w.there (keeps_leads label v.conn a v.routes v.label ∙ d) (keeps_leads label w.conn b w.routes w.label ∙ e)

      closed_by : (j : ℕ) (a : Conn) → ((j ≡ i) × (new ≡ a)) ⊎ ((j ≢ i) × (slice_get cs j ≡ Some a)) → IsOpenOrClosed a
      closed_by j a (inl h) = subst (λ (d : Conn). IsOpenOrClosed d) h.1 fits
      closed_by j a (inr h) = sound.closed j a h.1

pub changes_at : (cs : List Conn) (i : ℕ) (c new : Conn) → IsSound cs → slice_get cs i ≡ Some c → c.fibril ≡ new.fibril → c.routes ≡ new.routes → c.label ≡ new.label → IsOpenOrClosed new → Changes c new cs (slice_set cs i new)
changes_at cs i c new sound there f r l fits =
    let after = sound_changed cs i c new sound there f r l fits in
    let here = set_here cs i new (within cs i c there) in
    record {
      by_fibril = subst (λ (g : FibrilNo). conn_of_fibril g (slice_set cs i new) ≡ Some new) (sym f) (fibril_there (slice_set cs i new) i new after here);
      by_label = λ label h. label_there (slice_set cs i new) i new label after here (sym (keeps_leads label c new r l) ∙ h);
      other_labels = λ label h. by_label label (slice_set cs i new) ∙ find_set (leads_to label) cs i c new there h (sym (keeps_leads label c new r l) ∙ h) ∙ sym (by_label label cs);
      other_fibrils = λ g e. let no = serves_no_other g c e in by_fibril g (slice_set cs i new) ∙ find_set (serves g) cs i c new there no (sym (keeps_serves g c new f) ∙ no) ∙ sym (by_fibril g cs);
    }

-- routing and taking change the one that is found

pub closed_routed : (call : CallNo) (msg : Msg) (c : Conn) → IsOpenOrClosed c → IsOpenOrClosed (route_to call msg c)
closed_routed call msg c fits = closed_by (closes msg.method c) where
  closed_by : (b : Bool) → IsOpenOrClosed (if b then record c { close_call = Some call; closed = true } else record c { queue = c.queue ++ record { call = call; msg = msg } ∷ [] })
  closed_by true h = absurd (cc h)
  closed_by false h = fits h

pub fibril_routed : (call : CallNo) (msg : Msg) (c : Conn) → c.fibril ≡ (route_to call msg c).fibril
fibril_routed call msg c = fibril_by (closes msg.method c) where
  fibril_by : (b : Bool) → c.fibril ≡ (if b then record c { close_call = Some call; closed = true } else record c { queue = c.queue ++ record { call = call; msg = msg } ∷ [] }).fibril
  fibril_by true = refl
  fibril_by false = refl

pub routes_routed : (call : CallNo) (msg : Msg) (c : Conn) → c.routes ≡ (route_to call msg c).routes
routes_routed call msg c = routes_by (closes msg.method c) where
  routes_by : (b : Bool) → c.routes ≡ (if b then record c { close_call = Some call; closed = true } else record c { queue = c.queue ++ record { call = call; msg = msg } ∷ [] }).routes
  routes_by true = refl
  routes_by false = refl

pub label_routed : (call : CallNo) (msg : Msg) (c : Conn) → c.label ≡ (route_to call msg c).label
label_routed call msg c = label_by (closes msg.method c) where
  label_by : (b : Bool) → c.label ≡ (if b then record c { close_call = Some call; closed = true } else record c { queue = c.queue ++ record { call = call; msg = msg } ∷ [] }).label
  label_by true = refl
  label_by false = refl

-- where a search found a connection, it stands at a place
record Found (p : Conn → Bool) (cs : List Conn) : Type 0 where
  pub place : ℕ
  pub conn : Conn
  pub is_place : position p cs ≡ Some place
  pub there : slice_get cs place ≡ Some conn
  pub passes : p conn ≡ true

found : (p : Conn → Bool) (cs : List Conn) (c : Conn) → conn_at cs (position p cs) ≡ Some c → Found p cs
found p cs c e = found_by (position p cs) refl e where
  found_by : (q : Option ℕ) → position p cs ≡ q → conn_at cs q ≡ Some c → Found p cs
  found_by None is h = absurd (cc h)
  found_by (Some i) is h = let place = found_place p cs i is in record { place = i; conn = place.0; is_place = is; there = place.1; passes = place.2 }

found_is : (p : Conn → Bool) (cs : List Conn) (c : Conn) (f : Found p cs) → conn_at cs (position p cs) ≡ Some c → f.conn ≡ c
found_is p cs c f e = let other : conn_at cs (position p cs) ≡ Some f.conn = rw f.is_place f.there in cc

-- what becomes of one that is found
pub record Turned (p : Conn → Bool) (cs : List Conn) (c : Conn) : Type 0 where
  pub place : ℕ
  pub is_place : position p cs ≡ Some place
  pub there : slice_get cs place ≡ Some c
  pub passes : p c ≡ true

pub turned_by : (p : Conn → Bool) (cs : List Conn) (c : Conn) → conn_at cs (position p cs) ≡ Some c → Turned p cs c
turned_by p cs c e =
    let f = found p cs c e in
    let same = found_is p cs c f e in
    record { place = f.place; is_place = f.is_place; there = f.there ∙ ap Some same; passes = subst (λ (d : Conn). p d ≡ true) same f.passes }

pub finds : (p : Conn → Bool) (cs : List Conn) → Finds p cs (conn_at cs (position p cs))
finds p cs = record {
  there = λ c e. let t = turned_by p cs c e in (t.place, t.there);
  some = λ c e. (turned_by p cs c e).passes;
  none = λ e. none_found p cs (sym (find_is p cs conn_at (λ ys. refl) (λ ys i. refl)) ∙ e);
}

pub route_changes : (cs : List Conn) (label : Label) (call : CallNo) (msg : Msg) (c : Conn) → IsSound cs → conn_of_label label cs ≡ Some c → Changes c (route_to call msg c) cs (route label call msg cs)
route_changes cs label call msg c sound e =
    let t = turned_by (leads_to label) cs c e in
    subst (λ (q : Option Conn). Changes c (route_to call msg c) cs (with_conn cs (position (leads_to label) cs) (routed_to call msg q))) (sym e)
    (subst (λ (q : Option ℕ). Changes c (route_to call msg c) cs (with_conn cs q (Some (route_to call msg c)))) (sym t.is_place)
    (changes_at cs t.place c (route_to call msg c) sound t.there (fibril_routed call msg c) (routes_routed call msg c) (label_routed call msg c) (closed_routed call msg c (sound.closed t.place c t.there))))

pub take_changes : (cs : List Conn) (f : FibrilNo) (c : Conn) → IsSound cs → conn_of_fibril f cs ≡ Some c → Changes c (take_first c) cs (take_next f cs)
take_changes cs f c sound e =
    let t = turned_by (serves f) cs c e in
    subst (λ (q : Option Conn). Changes c (take_first c) cs (with_conn cs (position (serves f) cs) (took_first q))) (sym e)
    (subst (λ (q : Option ℕ). Changes c (take_first c) cs (with_conn cs q (Some (take_first c)))) (sym t.is_place)
    (changes_at cs t.place c (take_first c) sound t.there refl refl refl (sound.closed t.place c t.there)))

pub sound_routed : (cs : List Conn) (label : Label) (call : CallNo) (msg : Msg) → IsSound cs → IsSound (route label call msg cs)
sound_routed cs label call msg sound = sound_by (position (leads_to label) cs) where
  sound_at : (i : ℕ) (q : Option Conn) → slice_get cs i ≡ q → IsSound (with_conn cs (Some i) (routed_to call msg q))
  sound_at i None e = sound
  sound_at i (Some c) e = sound_changed cs i c (route_to call msg c) sound e (fibril_routed call msg c) (routes_routed call msg c) (label_routed call msg c) (closed_routed call msg c (sound.closed i c e))

  sound_by : (q : Option ℕ) → IsSound (with_conn cs q (routed_to call msg (conn_at cs q)))
  sound_by None = sound
  sound_by (Some i) = sound_at i (slice_get cs i) refl

pub sound_taken : (cs : List Conn) (f : FibrilNo) → IsSound cs → IsSound (take_next f cs)
sound_taken cs f sound = sound_by (position (serves f) cs) where
  sound_at : (i : ℕ) (q : Option Conn) → slice_get cs i ≡ q → IsSound (with_conn cs (Some i) (took_first q))
  sound_at i None e = sound
  sound_at i (Some c) e = sound_changed cs i c (take_first c) sound e refl refl refl (sound.closed i c e)

  sound_by : (q : Option ℕ) → IsSound (with_conn cs q (took_first (conn_at cs q)))
  sound_by None = sound
  sound_by (Some i) = sound_at i (slice_get cs i) refl

-- the end of a connection

pub sound_removed : (cs : List Conn) (i : ℕ) → IsSound cs → i < length cs → IsSound (remove cs i)
sound_removed cs i sound h = record {
  fibrils = λ j k a b s t e. skip_one i j k (sound.fibrils (skip i j) (skip i k) a b (sym (removed_at cs i j h) ∙ s) (sym (removed_at cs i k h) ∙ t) e);
  labels = λ j k a b label s t d e. skip_one i j k (sound.labels (skip i j) (skip i k) a b label (sym (removed_at cs i j h) ∙ s) (sym (removed_at cs i k h) ∙ t) d e);
  closed = λ j a s. sound.closed (skip i j) a (sym (removed_at cs i j h) ∙ s);
}

pub sound_finished : (cs : List Conn) (f : FibrilNo) → IsSound cs → IsSound (finish f cs)
sound_finished cs f sound = sound_by (position (serves f) cs) refl where
  sound_by : (q : Option ℕ) → position (serves f) cs ≡ q → IsSound (without_conn cs q)
  sound_by None e = sound
  sound_by (Some i) e = let place = found_place (serves f) cs i e in sound_removed cs i sound (within cs i place.0 place.1)

pub ends_at : (cs : List Conn) (i : ℕ) (c : Conn) → IsSound cs → slice_get cs i ≡ Some c → Ends c cs (remove cs i)
ends_at cs i c sound there =
    let h = within cs i c there in
    record {
      by_fibril = by_fibril c.fibril (remove cs i) ∙ find_none (serves c.fibril) (remove cs i) (λ j d that. false_from_ne_true (serves c.fibril d) (λ e. skip_other i j (sound.fibrils (skip i j) i d c (sym (removed_at cs i j h) ∙ that) there (eqb-true d.fibril.0 c.fibril.0 e))));
      by_label = λ label g. by_label label (remove cs i) ∙ find_none (leads_to label) (remove cs i) (λ j d that. false_from_ne_true (leads_to label d) (λ e. skip_other i j (sound.labels (skip i j) i d c label (sym (removed_at cs i j h) ∙ that) there e g)));
      other_labels = λ label g. by_label label (remove cs i) ∙ find_removed (leads_to label) cs i c there g ∙ sym (by_label label cs);
      other_fibrils = λ g e. by_fibril g (remove cs i) ∙ find_removed (serves g) cs i c there (serves_no_other g c e) ∙ sym (by_fibril g cs);
    }

pub finish_ends : (cs : List Conn) (f : FibrilNo) (c : Conn) → IsSound cs → conn_of_fibril f cs ≡ Some c → Ends c cs (finish f cs)
finish_ends cs f c sound e =
    let t = turned_by (serves f) cs c e in
    subst (λ (q : Option ℕ). Ends c cs (without_conn cs q)) (sym t.is_place) (ends_at cs t.place c sound t.there)

-- the start of a connection

pub lost_fibril : (label : Label) (c : Conn) → (lose_label label c).fibril ≡ c.fibril
lost_fibril label c = lost_by (leads_to label c) where
  lost_by : (b : Bool) → (if b then record c { routes = false; closed = true } else c).fibril ≡ c.fibril
  lost_by true = refl
  lost_by false = refl

-- the label that is taken leads there no more
lost_leads : (label : Label) (c : Conn) → leads_to label (lose_label label c) ≡ false
lost_leads label c = lost_by (leads_to label c) refl where
  lost_by : (b : Bool) → leads_to label c ≡ b → leads_to label (if b then record c { routes = false; closed = true } else c) ≡ false
  lost_by true e = refl
  lost_by false e = e

-- where a label leads to a connection that lost one, it led there before, and nothing was lost
lost_led : (label other : Label) (c : Conn) → leads_to other (lose_label label c) ≡ true → leads_to other c ≡ true
lost_led label other c h = lost_by (leads_to label c) h where
  lost_by : (b : Bool) → leads_to other (if b then record c { routes = false; closed = true } else c) ≡ true → leads_to other c ≡ true
  lost_by true h = absurd (cc h)
  lost_by false h = h

unlost : (label other : Label) (c : Conn) → same_label other label ≡ false → leads_to other c ≡ true → lose_label label c ≡ c
unlost label other c apart h = lost_by (leads_to label c) refl where
  lost_by : (b : Bool) → leads_to label c ≡ b → (if b then record c { routes = false; closed = true } else c) ≡ c
  lost_by true e = let same = one_label other label c h e in absurd (cc)
  lost_by false e = refl

leads_lost : (label other : Label) (c : Conn) → same_label other label ≡ false → leads_to other (lose_label label c) ≡ leads_to other c
leads_lost label other c apart = lost_by (leads_to other c) refl where
  lost_by : (b : Bool) → leads_to other c ≡ b → leads_to other (lose_label label c) ≡ b
  lost_by true h = ap (λ (d : Conn). leads_to other d) (unlost label other c apart h) ∙ h
  lost_by false h = false_from_ne_true (leads_to other (lose_label label c)) (λ g. let led = lost_led label other c g in cc)

find_lost_label : (label other : Label) (cs : List Conn) → same_label other label ≡ false → find (leads_to other) (lose_labels label cs) ≡ find (leads_to other) cs
find_lost_label label other [] apart = refl
find_lost_label label other (c ∷ cs) apart = rw (leads_lost label other c apart) (lost_by (leads_to other c) refl (find_lost_label label other cs apart)) where
  lost_by : (b : Bool) → leads_to other c ≡ b → find (leads_to other) (lose_labels label cs) ≡ find (leads_to other) cs → (if b then Some (lose_label label c) else find (leads_to other) (lose_labels label cs)) ≡ (if b then Some c else find (leads_to other) cs)
  lost_by true h more = ap Some (unlost label other c apart h)
  lost_by false h more = more

find_lost : (label : Label) (cs : List Conn) → find (leads_to label) (lose_labels label cs) ≡ None
find_lost label [] = refl
find_lost label (c ∷ cs) = rw (lost_leads label c) (find_lost label cs)

find_lost_fibril : (label : Label) (g : FibrilNo) (cs : List Conn) → find (serves g) (lose_labels label cs) ≡ after_loss label (find (serves g) cs)
find_lost_fibril label g [] = refl
find_lost_fibril label g (c ∷ cs) = rw (keeps_serves g (lose_label label c) c (lost_fibril label c)) (lost_by (serves g c) (find_lost_fibril label g cs)) where
  lost_by : (b : Bool) → find (serves g) (lose_labels label cs) ≡ after_loss label (find (serves g) cs) → (if b then Some (lose_label label c) else find (serves g) (lose_labels label cs)) ≡ after_loss label (if b then Some c else find (serves g) cs)
  lost_by true more = refl
  lost_by false more = more

pub starts : (cs : List Conn) (label : Label) (f : FibrilNo) → conn_of_fibril f cs ≡ None → Starts label f cs (start label f cs)
starts cs label f none =
    let new = new_conn label f in
    let before = lose_labels label cs in
    record {
      by_label = by_label label (start label f cs) ∙ find_pushed (leads_to label) before new (find_lost label cs) (own_label label);
      by_fibril = by_fibril f (start label f cs) ∙ find_pushed (serves f) before new (find_lost_fibril label f cs ∙ ap (after_loss label) (sym (by_fibril f cs) ∙ none)) (serves_own new);
      other_labels = λ other apart. by_label other (start label f cs) ∙ find_unpushed (leads_to other) before new (no_turn other apart) ∙ find_lost_label label other cs apart ∙ sym (by_label other cs);
      other_fibrils = λ g e. by_fibril g (start label f cs) ∙ find_unpushed (serves g) before new (serves_no_other g new e) ∙ find_lost_fibril label g cs ∙ ap (after_loss label) (sym (by_fibril g cs));
    } where
      no_turn : (other : Label) → same_label other label ≡ false → same_label label other ≡ false
      no_turn other apart = false_from_ne_true (same_label label other) (λ h. let back = turned label other h in cc)

-- a connection that stands at a place after others lost their label
pub record Lost (label : Label) (cs : List Conn) (j : ℕ) (x : Conn) : Type 0 where
  pub conn : Conn
  pub there : slice_get cs j ≡ Some conn
  pub is : lose_label label conn ≡ x

lost_at : (label : Label) (cs : List Conn) (j : ℕ) (x : Conn) → slice_get (lose_labels label cs) j ≡ Some x → Lost label cs j x
lost_at label [] j x e = absurd (cc e)
lost_at label (c ∷ cs) zero x e = record { conn = c; there = refl; is = cc }
lost_at label (c ∷ cs) (suc j) x e = let l = lost_at label cs j x e in record { conn = l.conn; there = l.there; is = l.is }

closed_lost : (label : Label) (c : Conn) → IsOpenOrClosed c → IsOpenOrClosed (lose_label label c)
closed_lost label c fits = closed_by (leads_to label c) where
  closed_by : (b : Bool) → IsOpenOrClosed (if b then record c { routes = false; closed = true } else c)
  closed_by true h = absurd (cc h)
  closed_by false h = fits h

-- an older connection, or the new one
pub newer : (label : Label) (f : FibrilNo) (cs : List Conn) (j : ℕ) (x : Conn) → slice_get (start label f cs) j ≡ Some x → ((j ≡ length (lose_labels label cs)) × (new_conn label f ≡ x)) ⊎ Lost label cs j x
newer label f cs j x e = newer_by (which_pushed (lose_labels label cs) j (new_conn label f) x e) where
  newer_by : ((j ≡ length (lose_labels label cs)) × (new_conn label f ≡ x)) ⊎ (slice_get (lose_labels label cs) j ≡ Some x) → ((j ≡ length (lose_labels label cs)) × (new_conn label f ≡ x)) ⊎ Lost label cs j x
  newer_by (inl h) = inl h
  newer_by (inr h) = inr (lost_at label cs j x h)

pub its_fibril :
    (label : Label) (cs : List Conn) (j : ℕ) (x : Conn) (l : Lost label cs j x) → l.conn.fibril.0 ≡ x.fibril.0
its_fibril label cs j x l =
    ap (λ (n : FibrilNo). n.0) (sym (lost_fibril label l.conn) ∙ ap (λ (d : Conn). d.fibril) l.is)

pub sound_started : (cs : List Conn) (label : Label) (f : FibrilNo) → IsSound cs → conn_of_fibril f cs ≡ None → IsSound (start label f cs)
sound_started cs label f sound none = record {
  fibrils = λ j k a b s t e. fibrils_by j k a b (newer label f cs j a s) (newer label f cs k b t) e;
  labels = λ j k a b other s t d e. labels_by j k a b other (newer label f cs j a s) (newer label f cs k b t) d e;
  closed = λ j a s. closed_by j a (newer label f cs j a s);
} where
  no_own : (j : ℕ) (x : Conn) → Lost label cs j x → x.fibril.0 ≡ f.0 → ⊥
  no_own j x l e = let no = none_found (serves f) cs (sym (by_fibril f cs) ∙ none) j l.conn l.there in let is = eq-eqb l.conn.fibril.0 f.0 (its_fibril label cs j x l ∙ e) in cc

  fibrils_by : (j k : ℕ) (a b : Conn) → ((j ≡ length (lose_labels label cs)) × (new_conn label f ≡ a)) ⊎ Lost label cs j a → ((k ≡ length (lose_labels label cs)) × (new_conn label f ≡ b)) ⊎ Lost label cs k b → a.fibril.0 ≡ b.fibril.0 → j ≡ k
  fibrils_by j k a b (inl g) (inl h) e = g.0 ∙ sym h.0
  fibrils_by j k a b (inl g) (inr l) e = absurd (no_own k b l (sym e ∙ ap (λ (d : Conn). d.fibril.0) (sym g.1)))
  fibrils_by j k a b (inr l) (inl h) e = absurd (no_own j a l (e ∙ ap (λ (d : Conn). d.fibril.0) (sym h.1)))
  fibrils_by j k a b (inr l) (inr m) e = sound.fibrils j k l.conn m.conn l.there m.there (its_fibril label cs j a l ∙ e ∙ sym (its_fibril label cs k b m))

  led : (other : Label) (j : ℕ) (x : Conn) (l : Lost label cs j x) → leads_to other x ≡ true → leads_to other (lose_label label l.conn) ≡ true
  led other j x l d = ap (λ (c : Conn). leads_to other c) l.is ∙ d

  no_label : (other : Label) (j : ℕ) (x c : Conn) → Lost label cs j x → new_conn label f ≡ c → leads_to other x ≡ true → leads_to other c ≡ true → ⊥
  no_label other j x c l is d e =
      let of_new : same_label label other ≡ true = ap (λ (y : Conn). leads_to other y) is ∙ e in
      let old = led other j x l d in
      let same : leads_to label (lose_label label l.conn) ≡ leads_to other (lose_label label l.conn) = same_leads label other (lose_label label l.conn) of_new in
      let no = lost_leads label l.conn in cc

  labels_by : (j k : ℕ) (a b : Conn) (other : Label) → ((j ≡ length (lose_labels label cs)) × (new_conn label f ≡ a)) ⊎ Lost label cs j a → ((k ≡ length (lose_labels label cs)) × (new_conn label f ≡ b)) ⊎ Lost label cs k b → leads_to other a ≡ true → leads_to other b ≡ true → j ≡ k
  labels_by j k a b other (inl g) (inl h) d e = g.0 ∙ sym h.0
  labels_by j k a b other (inl g) (inr l) d e = absurd (no_label other k b a l g.1 e d)
  labels_by j k a b other (inr l) (inl h) d e = absurd (no_label other j a b l h.1 d e)
  labels_by j k a b other (inr l) (inr m) d e = sound.labels j k l.conn m.conn other l.there m.there (lost_led label other l.conn (led other j a l d)) (lost_led label other m.conn (led other k b m e))

  closed_by : (j : ℕ) (a : Conn) → ((j ≡ length (lose_labels label cs)) × (new_conn label f ≡ a)) ⊎ Lost label cs j a → IsOpenOrClosed a
  closed_by j a (inl h) = subst (λ (d : Conn). IsOpenOrClosed d) h.1 (λ e. (refl, refl))
  closed_by j a (inr l) = subst (λ (d : Conn). IsOpenOrClosed d) l.is (closed_lost label l.conn (sound.closed j l.conn l.there))

pub sound_no_conns : IsSound no_conns
sound_no_conns = record { fibrils = λ i j a b s t e. absurd (cc s); labels = λ i j a b label s t d e. absurd (cc s); closed = λ i a s. absurd (cc s) }

-- the answers that are owed

owed_behind : (queue : List Queued) (rest : List (CallNo × Code)) (i : ℕ) (q : Queued) → slice_get queue i ≡ Some q → slice_get (map hung_up queue ++ rest) i ≡ Some (q.call, ehangup)
owed_behind [] rest i q e = absurd (cc e)
owed_behind (p ∷ queue) rest zero q e = let same : p ≡ q = cc in rw same refl
owed_behind (p ∷ queue) rest (suc i) q e = owed_behind queue rest i q e

owed_last : (queue : List Queued) (x : CallNo × Code) → slice_get (map hung_up queue ++ x ∷ []) (length queue) ≡ Some x
owed_last [] x = refl
owed_last (p ∷ queue) x = owed_last queue x

owed_length : (queue : List Queued) (rest : List (CallNo × Code)) → length (map hung_up queue ++ rest) ≡ length queue + length rest
owed_length [] rest = omega arith
owed_length (p ∷ queue) rest = let more = owed_length queue rest in omega arith

pub owes_in_order : (c : Conn) → OwesInOrder c (owed_by (Some c))
owes_in_order c = record {
  queued = λ i q e. owed_behind c.queue (close_answer c.close_call) i q e;
  closing = λ n e. rw e (owed_last c.queue (n, eok));
  closed = λ n e. rw e (owed_length c.queue ((n, eok) ∷ []));
  unclosed = λ e. rw e (let more = owed_length c.queue [] in omega arith);
}
