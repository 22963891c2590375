-- Entries of a registry, where those with one phone are taken out and one is added.
use Rattle.std.proofs.Common.{◌≡◌, ℕ, Bool, true, false, List, [], ◌∷◌, ◌++◌, None, inl, inr, refl, sym, arith}
use Rattle.std.specs.Prelude.{◌⊎◌, filter, cond}
use Rattle.std.proofs.lemmas.Bool.{eq-eqb, ne_eqb, cases_eq}
use Rattle.naming_service.specs.Naming.{leads_elsewhere, phone_of}
use Rattle.naming_service.specs.Registrations.{HasEntry, ServicesDiffer}

-- an entry with another phone stays
pub stays : (phone : ℕ) (es : List (ℕ × ℕ)) (service p : ℕ) → (p ≡ phone → ⊥) → HasEntry es service p → HasEntry (filter (leads_elsewhere phone) es) service p
stays phone [] service p apart h = h
stays phone (e ∷ es) service p apart h = grind (arith, eq-eqb, ne_eqb, cases_eq e.1 phone, stays phone es service p apart)

-- what is left was there, with another phone
pub was_there : (phone : ℕ) (es : List (ℕ × ℕ)) (service p : ℕ) → HasEntry (filter (leads_elsewhere phone) es) service p → HasEntry es service p × (p ≡ phone → ⊥)
was_there phone [] service p h = absurd h
was_there phone (e ∷ es) service p h = grind (arith, eq-eqb, ne_eqb, cases_eq e.1 phone, was_there phone es service p)

-- an entry of a list is one of a longer list
pub in_front : (es fs : List (ℕ × ℕ)) (service p : ℕ) → HasEntry es service p → HasEntry (es ++ fs) service p
in_front [] fs service p h = absurd h
in_front (e ∷ es) fs service p (inl is) = inl is
in_front (e ∷ es) fs service p (inr h) = inr (in_front es fs service p h)

-- the entry that is added
pub added : (es : List (ℕ × ℕ)) (service p : ℕ) → HasEntry (es ++ (service, p) ∷ []) service p
added [] service p = inl (refl, refl)
added (e ∷ es) service p = inr (added es service p)

-- an entry was there, or is the one that is added
pub old_or_new : (es : List (ℕ × ℕ)) (service p other q : ℕ) → HasEntry (es ++ (service, p) ∷ []) other q → HasEntry es other q ⊎ ((service ≡ other) × (p ≡ q))
old_or_new [] service p other q (inl is) = inr is
old_or_new [] service p other q (inr h) = absurd h
old_or_new (e ∷ es) service p other q (inl is) = inl (inl is)
old_or_new (e ∷ es) service p other q (inr h) = grind (arith, old_or_new es service p other q h)

-- a service whose entries all have the phone has none once they are out
pub gone : (phone : ℕ) (es : List (ℕ × ℕ)) (service : ℕ) → ((p : ℕ) → HasEntry es service p → p ≡ phone) → phone_of (filter (leads_elsewhere phone) es) service ≡ None
gone phone [] service h = refl
gone phone (e ∷ es) service h = grind (arith, eq-eqb, ne_eqb, cases_eq e.1 phone, cases_eq service e.0, gone phone es service (λ p has. h p (inr has)), h e.1)

-- a service that is not found has no entry
pub absent : (es : List (ℕ × ℕ)) (service p : ℕ) → phone_of es service ≡ None → HasEntry es service p → ⊥
absent [] service p h has = has
absent (e ∷ es) service p h has = grind (arith, eq-eqb, ne_eqb, cases_eq service e.0, absent es service p)

differ_one : (phone : ℕ) (e : ℕ × ℕ) (es : List (ℕ × ℕ)) (keep : Bool) → ServicesDiffer (e ∷ es) → ServicesDiffer (filter (leads_elsewhere phone) es) → ServicesDiffer (cond keep (e ∷ filter (leads_elsewhere phone) es) (filter (leads_elsewhere phone) es))
differ_one phone e es true d rest = (λ p h. d.0 p (was_there phone es e.0 p h).0, rest)
differ_one phone e es false d rest = rest

-- services that differ still do where entries are taken out
pub differ_left : (phone : ℕ) (es : List (ℕ × ℕ)) → ServicesDiffer es → ServicesDiffer (filter (leads_elsewhere phone) es)
differ_left phone [] d = tt
differ_left phone (e ∷ es) d = differ_one phone e es (leads_elsewhere phone e) d (differ_left phone es d.1)

no_two : (e : ℕ × ℕ) (es : List (ℕ × ℕ)) (service p q : ℕ) → (HasEntry (e ∷ es) service e.1 → ⊥) → (HasEntry es e.0 q → ⊥) → HasEntry es e.0 q ⊎ ((service ≡ e.0) × (p ≡ q)) → ⊥
no_two e es service p q none d (inl h) = d h
no_two e es service p q none d (inr is) = none (inl (sym is.0, refl))

-- and where one is added that is not there
pub differ_added : (es : List (ℕ × ℕ)) (service p : ℕ) → ((q : ℕ) → HasEntry es service q → ⊥) → ServicesDiffer es → ServicesDiffer (es ++ (service, p) ∷ [])
differ_added [] service p none d = (λ q h. h, tt)
differ_added (e ∷ es) service p none d =
    (λ q h. no_two e es service p q (none e.1) (d.0 q) (old_or_new es service p e.0 q h), differ_added es service p (λ q h. none q (inr h)) d.1)
