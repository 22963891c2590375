-- What a search by the index finds is what a look at each connection finds, and each call keeps the index.
use Rattle.std.proofs.Common.{Bor, ◌≡◌, ℕ, zero, suc, ◌-◌, ◌<◌, ◌≤◌, ◌⊎◌, inl, inr, Bool, true, false, List, [], ◌∷◌, length, get_or, Equal, Option, Some, None, Ok, Err, refl, ap, sym, ◌∙◌, subst, arith}
use Rattle.std.specs.Prelude.{if◌then◌else◌, Result, OnOk, OnErr, IsSome, IfSome, OnSome, slice_get, slice_set, position}
use Rattle.std.specs.List.{find, remove}
use Rattle.std.specs.List.Sorted.{IsNonDecreasingBy, IsBinarySearchResult}
use Rattle.std.specs.Option.{option_copied}
use Rattle.std.specs.Ordering.{nat_cmp, ordering_index}
use Rattle.std.proofs.lemmas.Cmp.{ranked}
use Rattle.std.proofs.lemmas.Option.{slice_get-get_or, get_or_from_slice_get}
use Rattle.std.proofs.lemmas.Bool.{cases_lt, eq-eqb, ne_eqb, eqb-true, false_from_ne_true}
use Rattle.std.proofs.lemmas.Bool.Decides.{nat_tests}
use Rattle.ipc_ids.specs.declared.numbers.CallNo.{CallNo}
use Rattle.ipc_ids.specs.declared.numbers.FibrilNo.{FibrilNo}
use Rattle.ipc_ids.specs.declared.numbers.Label.{Label}
use Rattle.ipc_ids.specs.declared.message.Msg.{Msg}
use Rattle.ipc_ids.specs.Labels.{same_label}
use Rattle.ipc_ids.specs.declared.trace.NoMemory.{NoMemory}
use Rattle.ipc_ids.proofs.Common.{label_is}
use Rattle.fibril_core.specs.declared.conn.Conn.{Conn}
use Rattle.fibril_core.specs.declared.conn.Routed.{Routed}
use Rattle.fibril_core.specs.Conns.{conn_at, serves, leads_to, conn_of_label, conn_of_fibril, fibril_of, lose_label, lose_labels, new_conn, start, with_conn, take_first, took_first, take_next, route_to, routed_to, route}
use Rattle.fibril_core.specs.ConnIndex.{DoRise, fibril_under, IsIndex, KeepsLabel, ForgetsLabel}
use Rattle.fibril_core.specs.ConnLaws.{IsOpenOrClosed, IsSound, Changes, Ends, Starts}
use Rattle.fibril_core.proofs.Places.{which, within}
use Rattle.fibril_core.proofs.Searches.{find_is, found_place, find_one, none_found, skip, skip_less, removed_at, same_pred}
use Rattle.fibril_core.proofs.Connections.{by_label, turned, Was, was, Lost, newer, fibril_routed, routes_routed, label_routed, closed_routed, turned_by, label_there, changes_at, ends_at, starts, sound_changed, sound_removed, sound_started, its_fibril}

-- the only one that passes is found, and where none passes none is

pub position_one : (p : Conn → Bool) (cs : List Conn) (i : ℕ) (c : Conn) → ((j : ℕ) (d : Conn) → slice_get cs j ≡ Some d → p d ≡ true → j ≡ i) → slice_get cs i ≡ Some c → p c ≡ true → position p cs ≡ Some i
position_one p cs i c one there h = by (position p cs) refl where
  by : (q : Option ℕ) → position p cs ≡ q → q ≡ Some i
  by None is =
      let no : conn_at cs None ≡ find p cs = ap (conn_at cs) (sym is) ∙ find_is p cs conn_at (λ ys. refl) (λ ys k. refl) in
      let found = find_one p cs i c one there h in absurd (cc)
  by (Some j) is = let found = found_place p cs j is in ap Some (one j found.0 found.1 found.2)

pub position_none : (p : Conn → Bool) (cs : List Conn) → ((j : ℕ) (d : Conn) → slice_get cs j ≡ Some d → p d ≡ false) → position p cs ≡ None
position_none p cs none = by (position p cs) refl where
  by : (q : Option ℕ) → position p cs ≡ q → q ≡ None
  by None is = refl
  by (Some j) is = let found = found_place p cs j is in let no = none j found.0 found.1 in absurd (cc (no, found.2))

-- a search among fibrils that rise

rise_apart : (cs : List Conn) (i j : ℕ) (a b : Conn) → DoRise cs → slice_get cs i ≡ Some a → slice_get cs j ≡ Some b → a.fibril.0 ≡ b.fibril.0 → i ≡ j
rise_apart cs i j a b all s t e = by (cases_lt i j) (cases_lt j i) where
  by : (i < j) ⊎ (j ≤ i) → (j < i) ⊎ (i ≤ j) → i ≡ j
  by (inl h) k = let less = all.rise i j a b h s t in absurd (omega arith)
  by (inr h) (inl k) = let less = all.rise j i b a k t s in absurd (omega arith)
  by (inr h) (inr k) = omega arith

pub rising_here : (cs : List Conn) (f : FibrilNo) (i : ℕ) → DoRise cs → i < length cs → ((d : Conn) → nat_cmp (get_or cs i d).fibril.0 f.0 ≡ Equal) → position (serves f) cs ≡ Some i
rising_here cs f i all less equal =
    let x = get_or cs i (new_conn (record { task = record { 0 = 0 }; phone = record { 0 = 0 } }) f) in
    let there : slice_get cs i ≡ Some x = slice_get-get_or cs i (new_conn (record { task = record { 0 = 0 }; phone = record { 0 = 0 } }) f) less in
    let is : x.fibril.0 ≡ f.0 = ranked _ f.0 _ (sym (equal (new_conn (record { task = record { 0 = 0 }; phone = record { 0 = 0 } }) f))) in
    position_one (serves f) cs i x (λ j y that h. rise_apart cs j i y x all that there (eqb-true y.fibril.0 f.0 h ∙ sym is)) there (eq-eqb x.fibril.0 f.0 is)

do_not_fall : (cs : List Conn) → DoRise cs → IsNonDecreasingBy (λ c. c.fibril.0) cs
do_not_fall cs all i j d less within = by (cases_lt i j) where
  by : (i < j) ⊎ (j ≤ i) → (get_or cs i d).fibril.0 ≤ (get_or cs j d).fibril.0
  by (inl h) = let one = all.rise i j (get_or cs i d) (get_or cs j d) h (slice_get-get_or cs i d (omega arith)) (slice_get-get_or cs j d within) in omega arith
  by (inr h) = let same : i ≡ j = omega arith in rw same (omega arith)

compared_rise : (cs : List Conn) (n : ℕ) → DoRise cs → IsNonDecreasingBy (λ c. ordering_index (nat_cmp c.fibril.0 n)) cs
compared_rise cs n all i j d less within =
    let rise = do_not_fall cs all i j d less within in grind (arith, nat_tests)

pub rising_nowhere : (cs : List Conn) (f : FibrilNo) (k : ℕ) → DoRise cs → IsBinarySearchResult (λ c. nat_cmp c.fibril.0 f.0) cs (Err k) → position (serves f) cs ≡ None
rising_nowhere cs f k all found =
    let parts = found (compared_rise cs f.0 all) in
    position_none (serves f) cs (λ j d there. ne_eqb d.fibril.0 f.0 (λ e. by j d there e (cases_lt j k) (λ less. ranked _ f.0 _ (sym (parts.0 j d (omega arith) less))) (λ more. ranked _ f.0 _ (sym (parts.1 j d more (within cs j d there)))))) where
      by : (j : ℕ) (d : Conn) → slice_get cs j ≡ Some d → d.fibril.0 ≡ f.0 → (j < k) ⊎ (k ≤ j) → (j < k → (get_or cs j d).fibril.0 < f.0) → (k ≤ j → f.0 < (get_or cs j d).fibril.0) → ⊥
      by j d there e (inl h) below above = let l = below h in let same = get_or_from_slice_get cs j d d there in let number = ap (λ (c : Conn). c.fibril.0) same in omega arith
      by j d there e (inr h) below above = let l = above h in let same = get_or_from_slice_get cs j d d there in let number = ap (λ (c : Conn). c.fibril.0) same in omega arith

-- a connection is found as it was before, and is open or closed
pub record Stays (c new : Conn) : Type 0 where
  pub fibril : c.fibril ≡ new.fibril
  pub routes : c.routes ≡ new.routes
  pub label : c.label ≡ new.label
  pub closed : IsOpenOrClosed c → IsOpenOrClosed new

-- the fibrils rise after each call

rise_changed : (cs : List Conn) (i : ℕ) (c new : Conn) → DoRise cs → slice_get cs i ≡ Some c → Stays c new → DoRise (slice_set cs i new)
rise_changed cs i c new all there stays =
    let h = within cs i c there in
    record { rise = λ j k a b less s t. by j k a b less (was cs i j c new a there stays.fibril stays.routes stays.label (which cs i j new a h s)) (was cs i k c new b there stays.fibril stays.routes stays.label (which cs i k new b h t)) } where
      by : (j k : ℕ) (a b : Conn) → j < k → Was cs j a → Was cs k b → a.fibril.0 < b.fibril.0
      by j k a b less v w =
          let one = all.rise j k v.conn w.conn less v.there w.there in
          let first = ap (λ (n : FibrilNo). n.0) v.fibril in
          let second = ap (λ (n : FibrilNo). n.0) w.fibril in omega arith

rise_removed : (cs : List Conn) (i : ℕ) → DoRise cs → i < length cs → DoRise (remove cs i)
rise_removed cs i all h = record {
  rise = λ j k a b less s t. all.rise (skip i j) (skip i k) a b (skip_less i j k less) (sym (removed_at cs i j h) ∙ s) (sym (removed_at cs i k h) ∙ t);
}

length_lost : (label : Label) (cs : List Conn) → length (lose_labels label cs) ≡ length cs
length_lost label [] = refl
length_lost label (c ∷ cs) = ap suc (length_lost label cs)

-- all are below one that is above the last
below_new : (cs : List Conn) (f : FibrilNo) (i : ℕ) (c : Conn) → DoRise cs → ((d : Conn) → slice_get cs (length cs - 1) ≡ Some d → d.fibril.0 < f.0) → slice_get cs i ≡ Some c → c.fibril.0 < f.0
below_new cs f i c all last there = by (within cs i c there) (cases_lt i (length cs - 1)) where
  by : i < length cs → (i < length cs - 1) ⊎ (length cs - 1 ≤ i) → c.fibril.0 < f.0
  by less (inl h) =
      let d = get_or cs (length cs - 1) c in
      let that = slice_get-get_or cs (length cs - 1) c (omega arith) in
      let one = all.rise i (length cs - 1) c d h there that in
      let two = last d that in omega arith
  by less (inr h) = let same : i ≡ length cs - 1 = omega arith in last c (subst (λ (j : ℕ). slice_get cs j ≡ Some c) same there)

pub rise_started : (cs : List Conn) (f : FibrilNo) (label : Label) → DoRise cs → ((d : Conn) → slice_get cs (length cs - 1) ≡ Some d → d.fibril.0 < f.0) → DoRise (start label f cs)
rise_started cs f label all last = record { rise = λ i j a b less s t. by i j a b less (newer label f cs i a s) (newer label f cs j b t) } where
  by : (i j : ℕ) (a b : Conn) → i < j → ((i ≡ length (lose_labels label cs)) × (new_conn label f ≡ a)) ⊎ Lost label cs i a → ((j ≡ length (lose_labels label cs)) × (new_conn label f ≡ b)) ⊎ Lost label cs j b → a.fibril.0 < b.fibril.0
  by i j a b less (inl g) (inl h) = let first = g.0 in let second = h.0 in absurd (omega arith)
  by i j a b less (inl g) (inr m) =
      let first = g.0 in
      let inside = within cs j m.conn m.there in
      let same = length_lost label cs in absurd (omega arith)
  by i j a b less (inr l) (inl h) =
      let one = below_new cs f i l.conn all last l.there in
      let own = its_fibril label cs i a l in
      let new = ap (λ (d : Conn). d.fibril.0) h.1 in omega arith
  by i j a b less (inr l) (inr m) =
      let one = all.rise i j l.conn m.conn less l.there m.there in
      let first = its_fibril label cs i a l in
      let second = its_fibril label cs j b m in omega arith

-- the older connection of a label loses it

lost_none : (label : Label) (cs : List Conn) → ((j : ℕ) (d : Conn) → slice_get cs j ≡ Some d → leads_to label d ≡ false) → cs ≡ lose_labels label cs
lost_none label [] none = refl
lost_none label (c ∷ cs) none = rw (none 0 c refl) (ap (λ (ds : List Conn). c ∷ ds) (lost_none label cs (λ j d there. none (suc j) d there)))

lost_one : (label : Label) (cs : List Conn) (i : ℕ) (c : Conn) → ((j : ℕ) (d : Conn) → slice_get cs j ≡ Some d → leads_to label d ≡ true → j ≡ i) → slice_get cs i ≡ Some c → slice_set cs i (lose_label label c) ≡ lose_labels label cs
lost_one label [] i c one there = absurd (cc there)
lost_one label (x ∷ cs) zero c one there =
    let same : x ≡ c = cc in
    rw same (ap (λ (ds : List Conn). lose_label label c ∷ ds) (lost_none label cs (λ j d that. false_from_ne_true (leads_to label d) (λ h. not_zero j (one (suc j) d that h))))) where
      not_zero : (j : ℕ) → suc j ≡ 0 → ⊥
      not_zero j e = omega arith
lost_one label (x ∷ cs) (suc i) c one there =
    rw (false_from_ne_true (leads_to label x) (λ h. not_suc (one 0 x refl h))) (ap (λ (ds : List Conn). x ∷ ds) (lost_one label cs i c (λ j d that h. same_pred j i (one (suc j) d that h)) there)) where
      not_suc : 0 ≡ suc i → ⊥
      not_suc e = omega arith

pub loses_at : (label : Label) (cs : List Conn) (i : ℕ) (d : Conn) → IsSound cs → Some i ≡ position (leads_to label) cs → slice_set cs i (lose_label label (get_or cs i d)) ≡ lose_labels label cs
loses_at label cs i d sound is =
    let found = found_place (leads_to label) cs i (sym is) in
    let same : get_or cs i d ≡ found.0 = get_or_from_slice_get cs i found.0 d found.1 in
    rw same (lost_one label cs i found.0 (λ j e that h. sound.labels j i e found.0 label that found.1 h found.2) found.1)

not_found : (p : Conn → Bool) (cs : List Conn) → None ≡ position p cs → (j : ℕ) (d : Conn) → slice_get cs j ≡ Some d → p d ≡ false
not_found p cs is = none_found p cs (sym (find_is p cs conn_at (λ ys. refl) (λ ys k. refl)) ∙ ap (conn_at cs) (sym is))

pub loses_none : (label : Label) (cs : List Conn) → None ≡ position (leads_to label) cs → cs ≡ lose_labels label cs
loses_none label cs is = lost_none label cs (not_found (leads_to label) cs is)

-- the labels after a connection is over

pub forgets_led : (over : Conn) (es after : List (Label × FibrilNo)) → over.routes ≡ true → ((q : Label) → fibril_under q after ≡ (if same_label over.label q then None else fibril_under q es)) → ForgetsLabel over es after
forgets_led over es after routes h = record { at = λ q. rw routes (h q) }

pub forgets_unled : (over : Conn) (es : List (Label × FibrilNo)) → over.routes ≡ false → ForgetsLabel over es es
forgets_unled over es routes = record { at = λ q. rw routes refl }

-- a search by a label

pub label_here : (label : Label) (cs : List Conn) (i : ℕ) (c : Conn) → IsSound cs → slice_get cs i ≡ Some c → c.routes ≡ true → same_label c.label label ≡ true → Some i ≡ position (leads_to label) cs
label_here label cs i c sound there routes same =
    let leads : leads_to label c ≡ true = rw (routes, same) refl in
    sym (position_one (leads_to label) cs i c (λ j d that h. sound.labels j i d c label that there h leads) there leads)

fibril_some : (o : Option Conn) (f : FibrilNo) → Some f ≡ fibril_of o → (c : Conn) × (o ≡ Some c) × (c.fibril ≡ f)
fibril_some None f e = absurd (cc e)
fibril_some (Some c) f e = (c, refl, cc)

fibril_none : (o : Option Conn) → None ≡ fibril_of o → o ≡ None
fibril_none None e = refl
fibril_none (Some c) e = absurd (cc e)

pub led_place : (rising : Bool) (es : List (Label × FibrilNo)) (cs : List Conn) (label : Label) (f : FibrilNo) → IsIndex rising es cs → Some f ≡ fibril_under label es → position (serves f) cs ≡ position (leads_to label) cs
led_place rising es cs label f index e =
    let one = fibril_some (conn_of_label label cs) f (e ∙ index.labels label) in
    let t = turned_by (leads_to label) cs one.0 one.1 in
    let own : one.0.fibril.0 ≡ f.0 = ap (λ (n : FibrilNo). n.0) one.2 in
    position_one (serves f) cs t.place one.0 (λ j d that h. index.sound.fibrils j t.place d one.0 that t.there (eqb-true d.fibril.0 f.0 h ∙ sym own)) t.there (eq-eqb one.0.fibril.0 f.0 own)
    ∙ sym t.is_place

pub led_nowhere : (rising : Bool) (es : List (Label × FibrilNo)) (cs : List Conn) (label : Label) → IsIndex rising es cs → None ≡ fibril_under label es → None ≡ position (leads_to label) cs
led_nowhere rising es cs label index e =
    let none = fibril_none (conn_of_label label cs) (e ∙ index.labels label) in
    sym (position_none (leads_to label) cs (none_found (leads_to label) cs (sym (by_label label cs) ∙ none)))

-- a connection stays what it is found by where it is routed to or asked for a call

pub took_stays : (c : Conn) → Stays c (take_first c)
took_stays c = record { fibril = refl; routes = refl; label = refl; closed = λ h. h }

pub routed_stays : (result : Result Routed NoMemory) (call : CallNo) (msg : Msg) (c new : Conn) → OnOk result (new ≡ route_to call msg c) → OnErr result (new ≡ c) → Stays c new
routed_stays (Ok r) call msg c new ok err = subst (λ (d : Conn). Stays c d) (sym ok) (record { fibril = fibril_routed call msg c; routes = routes_routed call msg c; label = label_routed call msg c; closed = closed_routed call msg c })
routed_stays (Err e) call msg c new ok err = subst (λ (d : Conn). Stays c d) (sym err) (record { fibril = refl; routes = refl; label = refl; closed = λ h. h })

-- what is found at a place

pub label_at : (label : Label) (cs : List Conn) (i : ℕ) (c : Conn) → Some i ≡ position (leads_to label) cs → slice_get cs i ≡ Some c → conn_of_label label cs ≡ Some c
label_at label cs i c is there = ap (conn_at cs) (sym is) ∙ there

pub fibril_at_place : (f : FibrilNo) (cs : List Conn) (i : ℕ) (c : Conn) → Some i ≡ position (serves f) cs → slice_get cs i ≡ Some c → conn_of_fibril f cs ≡ Some c
fibril_at_place f cs i c is there = ap (conn_at cs) (sym is) ∙ there

route_at : (label : Label) (call : CallNo) (msg : Msg) (cs : List Conn) (i : ℕ) (c : Conn) → Some i ≡ position (leads_to label) cs → slice_get cs i ≡ Some c → slice_set cs i (route_to call msg c) ≡ route label call msg cs
route_at label call msg cs i c is there =
    ap (λ (q : Option Conn). with_conn cs (Some i) (routed_to call msg q)) (sym there)
    ∙ ap (λ (q : Option ℕ). with_conn cs q (routed_to call msg (conn_at cs q))) is

pub routed_at : (result : Result Routed NoMemory) (label : Label) (call : CallNo) (msg : Msg) (cs : List Conn) (i : ℕ) (c new : Conn) → Some i ≡ position (leads_to label) cs → slice_get cs i ≡ Some c → OnOk result (new ≡ route_to call msg c) → OnOk result (slice_set cs i new ≡ route label call msg cs)
routed_at (Ok r) label call msg cs i c new is there ok = ap (slice_set cs i) ok ∙ route_at label call msg cs i c is there
routed_at (Err e) label call msg cs i c new is there ok = tt

pub took_at : (f : FibrilNo) (cs : List Conn) (i : ℕ) (c : Conn) → Some i ≡ position (serves f) cs → slice_get cs i ≡ Some c → slice_set cs i (take_first c) ≡ take_next f cs
took_at f cs i c is there =
    ap (λ (q : Option Conn). with_conn cs (Some i) (took_first q)) (sym there)
    ∙ ap (λ (q : Option ℕ). with_conn cs q (took_first (conn_at cs q))) is

-- what an index in a list gives
pub stands : (cs : List Conn) (i : ℕ) (c : Conn) → i < length cs → c ≡ get_or cs i c → slice_get cs i ≡ Some c
stands cs i c less is = slice_get-get_or cs i c less ∙ ap Some (sym is)

pub copied_here : (o : Option (Bor Conn)) (cs : List Conn) (i : ℕ) → i < length cs → (i < length cs → IsSome o) → IfSome o (λ x. x.now ≡ get_or cs i x.now) → option_copied o ≡ slice_get cs i
copied_here None cs i less some is = absurd (cc (some less))
copied_here (Some x) cs i less some is = sym (stands cs i x.now less is)

-- what stood at the place of a removal, and what is left
pub taken_out : (o : Option Conn) (cs after : List Conn) (i : ℕ) (over : Conn) → o ≡ Some over → IfSome o (λ c. c ≡ get_or cs i c) → OnSome o (after ≡ remove cs i) → (over ≡ get_or cs i over) × (after ≡ remove cs i)
taken_out None cs after i over is value items = absurd (cc is)
taken_out (Some c) cs after i over is value items = let same : c ≡ over = cc in (subst (λ (d : Conn). d ≡ get_or cs i d) same value, items)

-- the index is kept

same_fibril : (label : Label) (cs : List Conn) (i : ℕ) (c new : Conn) → IsSound cs → slice_get cs i ≡ Some c → Stays c new → fibril_of (conn_of_label label cs) ≡ fibril_of (conn_of_label label (slice_set cs i new))
same_fibril label cs i c new sound there stays = by (leads_to label c) refl where
  changes : Changes c new cs (slice_set cs i new)
  changes = changes_at cs i c new sound there stays.fibril stays.routes stays.label (stays.closed (sound.closed i c there))

  by : (b : Bool) → leads_to label c ≡ b → fibril_of (conn_of_label label cs) ≡ fibril_of (conn_of_label label (slice_set cs i new))
  by true h = ap fibril_of (label_there cs i c label sound there h) ∙ ap Some stays.fibril ∙ sym (ap fibril_of (changes.by_label label h))
  by false h = ap fibril_of (sym (changes.other_labels label h))

pub index_changed : (rising : Bool) (es : List (Label × FibrilNo)) (cs : List Conn) (i : ℕ) (c new : Conn) → IsIndex rising es cs → slice_get cs i ≡ Some c → Stays c new → IsIndex rising es (slice_set cs i new)
index_changed rising es cs i c new index there stays = record {
  sound = sound_changed cs i c new index.sound there stays.fibril stays.routes stays.label (stays.closed (index.sound.closed i c there));
  rise = λ h. rise_changed cs i c new (index.rise h) there stays;
  labels = λ label. index.labels label ∙ same_fibril label cs i c new index.sound there stays;
}

pub index_removed : (rising : Bool) (es after : List (Label × FibrilNo)) (cs : List Conn) (i : ℕ) (c : Conn) → IsIndex rising es cs → slice_get cs i ≡ Some c → ForgetsLabel c es after → IsIndex rising after (remove cs i)
index_removed rising es after cs i c index there forgets = record {
  sound = sound_removed cs i index.sound (within cs i c there);
  rise = λ h. rise_removed cs i (index.rise h) (within cs i c there);
  labels = λ label. forgets.at label ∙ by label (leads_to label c) refl;
} where
  ends : Ends c cs (remove cs i)
  ends = ends_at cs i c index.sound there

  by : (label : Label) (b : Bool) → leads_to label c ≡ b → (if b then None else fibril_under label es) ≡ fibril_of (conn_of_label label (remove cs i))
  by label true h = sym (ap fibril_of (ends.by_label label h))
  by label false h = index.labels label ∙ sym (ap fibril_of (ends.other_labels label h))

pub index_started : (rising : Bool) (es after : List (Label × FibrilNo)) (cs : List Conn) (label : Label) (f : FibrilNo) → IsSound cs → ((q : Label) → fibril_under q es ≡ fibril_of (conn_of_label q cs)) → conn_of_fibril f cs ≡ None → (rising ≡ true → (l : Label) → DoRise (start l f cs)) → KeepsLabel label f es after → IsIndex rising after (start label f cs)
index_started rising es after cs label f sound before none rise keeps = record {
  sound = sound_started cs label f sound none;
  rise = λ h. rise h label;
  labels = λ q. keeps.at q ∙ by q (same_label label q) refl;
} where
  all : Starts label f cs (start label f cs)
  all = starts cs label f none

  by : (q : Label) (b : Bool) → same_label label q ≡ b → (if b then Some f else fibril_under q es) ≡ fibril_of (conn_of_label q (start label f cs))
  by q true e = sym (ap (λ (l : Label). fibril_of (conn_of_label l (start label f cs))) (sym (label_is label q e)) ∙ ap fibril_of all.by_label)
  by q false e = before q ∙ sym (ap fibril_of (all.other_labels q (false_from_ne_true (same_label q label) (λ h. let back = turned q label h in cc))))
