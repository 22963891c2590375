-- What is kept of areas, as a call is accepted; and what it tells of writes.
use Rattle.std.proofs.Common.{ℕ, suc, ◌≡◌, ◌==◌, ◌≤◌, ◌+◌, ◌*◌, ◌↔◌, Bool, true, false, Option, Some, None, List, [], ◌∷◌, ◌++◌, length, refl, sym, ap, subst, ◌∙◌, inl, inr, arith, eq-eqb, ne_eqb}
use Rattle.std.specs.Prelude.{if◌then◌else◌, option_map, IsTrue}
use Rattle.std.proofs.lemmas.Bool.{cases_eq, eqb-true}
use Rattle.std.proofs.lemmas.Grind.{common_steps}
use Rattle.ipc_ids.specs.declared.numbers.TaskNo.{TaskNo}
use Rattle.ipc_ids.specs.declared.numbers.CallNo.{CallNo}
use Rattle.ipc_ids.specs.declared.numbers.Label.{Label}
use Rattle.ipc_ids.specs.declared.entry.Entry.{Entry}
use Rattle.ipc_ids.specs.declared.entry.Entry.TheVariants as entry
use Rattle.ipc_ids.specs.Tales.{Tale, Delivered, tale, tales}
use Rattle.ipc_ids.specs.Life.{Life, Nowhere, Allowed, life, last_number}
use Rattle.ipc_ids.specs.Laws.{IsAllowed}
use Rattle.ipc_ids.specs.Holdings.{Holding, held, present}
use Rattle.ipc_ids.specs.AreaLaw.{Delivers, IsPartOf, HoldsAround}
use Rattle.law_check.specs.declared.areas.MadeCall.{MadeCall}
use Rattle.law_check.specs.declared.held.Area.{Area}
use Rattle.law_check.specs.declared.areas.Areas.{Areas}
use Rattle.law_check.specs.Lives.{kept_at}
use Rattle.law_check.specs.Allowed.{WasAllowed}
use Rattle.law_check.specs.AreaState.{KnowsAreas, IsLeastRead, holding, called_of}
use Rattle.std.specs.BTreeMap.{BTreeMap, get}
use Rattle.law_check.specs.declared.held.Held.{Held}
use Rattle.law_check.specs.Stores.{pair_cmp, reaches, IsAround}
use Rattle.law_check.specs.Held.{area_at, over_store, AreByStore}
use Rattle.law_check.proofs.AtMostOnce.{above}
use Rattle.law_check.proofs.Kept.{kept_push, kept_push_other, length_push}
use Rattle.law_check.proofs.Blocks.{le_or_lt}

-- only a call that was accepted is delivered
begun_is_known : (p : List Tale) (n : ℕ) → WasAllowed p → (life n p ≡ Nowhere → ⊥) → n ≤ last_number p
begun_is_known p n l there =
    elim (le_or_lt n (last_number p)) [ inl known ↦ known | inr new ↦ absurd (there (above p l n new)) ]

has_begun : (p : List Tale) (n t : ℕ) (x : Life) → Allowed p n (Delivered t) x → x ≡ Nowhere → ⊥
has_begun p n t x a e = grind arith

delivered_is_known : (p : List Entry) (n : ℕ) → WasAllowed (tales p) → Delivers n p → n ≤ last_number (tales p)
delivered_is_known [] n l d = absurd d
delivered_is_known (entry.Delivered m t ∷ p) n l (inl e) = subst (λ (i : ℕ). i ≤ last_number (tales p)) e (begun_is_known (tales p) m.0 l.0 (has_begun (tales p) m.0 t.0 (life m.0 (tales p)) l.2))
delivered_is_known (entry.Delivered m t ∷ p) n l (inr d) = delivered_is_known p n l.0 d
delivered_is_known (e ∷ p) n l d = grind (arith, delivered_is_known p n l.0, l.2)

next_of : (p : List Entry) (n : CallNo) (from : Label) (method : ℕ) (to : Option TaskNo) → IsAllowed (tales p) (tale (entry.Accepted n from method to)) → n.0 ≡ suc (last_number (tales p))
next_of p n from method to a = grind arith

least_stays :
    (d : Option ℕ) (p : List Entry) (n : CallNo) (from : Label) (method : ℕ) (to : Option TaskNo) →
    ((i : ℕ) → Delivers i p → n.0 ≡ i → ⊥) → IsLeastRead d p → IsLeastRead d (entry.Accepted n from method to ∷ p)
least_stays None p n from method to new least = λ i has delivered. least i (rw (ne_eqb n.0 i (new i delivered)) at has) delivered
least_stays (Some d) p n from method to new least = (
  rw (ne_eqb n.0 d (new d least.1)) least.0,
  least.1,
  λ i has delivered. least.2 i (rw (ne_eqb n.0 i (new i delivered)) at has) delivered,
)

not_new : {a b n : ℕ} → a ≤ b → n ≡ suc b → n ≡ a → ⊥
not_new h e k = omega (arith, h, e, k)

pub knows_made :
    (p : List Entry) (n : CallNo) (from : Label) (method : ℕ) (to : Option TaskNo) (old new : Areas) (x : Option Entry) →
    KnowsAreas p old → x ≡ present p → WasAllowed (tales p) → IsAllowed (tales p) (tale (entry.Accepted n from method to)) →
    new.made.items ≡ old.made.items ++ record { caller = from.task.0; method = method; called = called_of x } ∷ [] →
    new.held ≡ old.held → new.last_store ≡ old.last_store → new.wants ≡ old.wants → new.read ≡ old.read →
    KnowsAreas (entry.Accepted n from method to ∷ p) new
knows_made p n from method to old new x knows now l a made held store wants read =
    let k : MadeCall = record { caller = from.task.0; method = method; called = called_of x } in
    let next : n.0 ≡ suc (length old.made.items) = next_of p n from method to a ∙ ap suc (sym knows.count) in
    record {
      calls = λ i. elim (cases_eq n.0 i) [
        | inl e ↦ rw (made, eq-eqb n.0 i e) (ap (λ (y : Option Entry). Some (record { caller = from.task.0; method = method; called = called_of y })) (sym now)
            ∙ sym (ap (λ j. kept_at (old.made.items ++ k ∷ []) j) (sym e ∙ next) ∙ kept_push old.made.items k))
        | inr apart ↦ rw (made, ne_eqb n.0 i apart) (knows.calls i ∙ sym (kept_push_other i old.made.items k (λ e. apart (next ∙ sym e))))
      ];
      count = ap length made ∙ length_push old.made.items k ∙ sym next;
      areas = rw (held) knows.areas;
      by_store = rw (held) knows.by_store;
      store = rw (store) knows.store;
      wanted = rw (wants) knows.wanted;
      least = rw (read) (least_stays old.read p n from method to (λ i d. not_new (delivered_is_known p i l d) (next_of p n from method to a)) knows.least);
    }

reaches_means :
    (base : ℕ) (a : Area) (at count : ℕ) → reaches base a at count ≡ true →
    IsPartOf 2 a.rights × (base ≤ at) × (at + count ≤ base + a.pages * 4096)
reaches_means base a at count h = grind (arith, common_steps)

reaches_if :
    (base : ℕ) (a : Holding) (at count : ℕ) → IsPartOf 2 a.rights → base ≤ at → at + count ≤ base + a.pages * 4096 →
    reaches base (record { pages = a.pages; rights = a.rights; store = a.store }) at count ≡ true
reaches_if base a at count w b h = grind (arith, common_steps, eq-eqb)

some_holding : (x : Option Area) (h : Holding) → option_map holding x ≡ Some h → x ≡ Some (record { pages = h.pages; rights = h.rights; store = h.store })
some_holding None h e = cc
some_holding (Some a) h e =
    ap (λ (x : Holding). Some (record { pages = x.pages; rights = x.rights; store = x.store })) (same_holding (holding a) h e)
  where
    same_holding : (x y : Holding) → Some x ≡ Some y → x ≡ y
    same_holding x y e = cc

-- an area that is found over a store is held, and stands over it
no_area : (a : Area) → None ≡ Some a → ⊥
no_area a e = cc

same_store : (b a : Area) → Some b ≡ Some a → b.store ≡ a.store
same_store b a e = cc

found_is_held : (store : ℕ) (o : Option Area) (a : Area) → over_store store o ≡ Some a → (o ≡ Some a) × (a.store ≡ store)
found_is_held store None a h = absurd (no_area a h)
found_is_held store (Some b) a h = by (b.store == store) refl h where
  by : (x : Bool) → (b.store == store) ≡ x → (if x then Some b else None) ≡ Some a → (Some b ≡ Some a) × (a.store ≡ store)
  by true s e = (e, sym (same_store b a e) ∙ eqb-true b.store store s)
  by false s e = absurd (no_area a e)

held_is_found : (store : ℕ) (a : Area) → a.store ≡ store → over_store store (Some a) ≡ Some a
held_is_found store a e = rw (eq-eqb a.store store e) refl

-- a write into an area that is held
pub held_around :
    (p : List Entry) (s : Areas) (t at count store : ℕ) (b : Bool) → KnowsAreas p s →
    (IsTrue b ↔ IsAround s.held.stores.areas t at count store) → IsTrue b ↔ HoldsAround p t at count store
held_around p s t at count store b knows is = (
  λ h.
      let g = is.0 h in
      let m = reaches_means g.0 g.1 at count g.3 in
      let there = found_is_held store (area_at s.held t g.0) g.1 (sym (knows.by_store.found t store g.0) ∙ g.2) in
      record { base = g.0; area = holding g.1; held_there = knows.areas t g.0 ∙ ap (option_map holding) there.0; same_store = there.1; writable = m.0; begins = m.1; ends = m.2 },
  λ h.
      let a : Area = record { pages = h.area.pages; rights = h.area.rights; store = h.area.store } in
      let there : area_at s.held t h.base ≡ Some a = some_holding (area_at s.held t h.base) h.area (sym (knows.areas t h.base) ∙ h.held_there) in
      is.1 (
        h.base,
        a,
        knows.by_store.found t store h.base ∙ ap (over_store store) there ∙ held_is_found store a h.same_store,
        reaches_if h.base h.area at count h.writable h.begins h.ends,
      ),
)

-- what is kept to find areas soon says nothing
pub knows_prepared :
    (p : List Entry) (s : Areas) (held : Held) → held.areas ≡ s.held.areas → (AreByStore s.held → AreByStore held) → KnowsAreas p s →
    KnowsAreas p (record s { held = held })
knows_prepared p s held same stay knows = record {
  calls = knows.calls;
  count = knows.count;
  areas = λ t base. knows.areas t base ∙ ap (λ (m : BTreeMap (ℕ × ℕ) Area). option_map holding (get pair_cmp m (t, base))) (sym same);
  by_store = stay knows.by_store;
  store = knows.store;
  wanted = knows.wanted;
  least = knows.least;
}
