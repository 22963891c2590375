-- The law of exchanges holds of a list whose facts were each allowed as they came.
use Rattle.std.proofs.Common.{ℕ, ◌≡◌, List, [], ◌∷◌, ◌++◌, refl, sym, ◌∙◌, subst, inl, inr, arith}
use Rattle.std.specs.Prelude.{⊤}
use Rattle.std.proofs.lemmas.Bool.{eq-eqb, ne_eqb}
use Rattle.ipc_ids.specs.declared.message.ExchangeMode.TheVariants.{Serialize, Parallel}
use Rattle.ipc_ids.specs.declared.entry.Entry.{Entry}
use Rattle.ipc_ids.specs.Facts.{Terms, Fact, Begins, EndsExchange, Drops, facts}
use Rattle.ipc_ids.specs.Replies.{Stands}
use Rattle.ipc_ids.specs.Exchanges.{ConnectsTo, HasNoBegin, EachExchangeIsLawful, ExchangesAreLawful, Stage, Unused, Begun, Ended, Dropped, stage, MayBegin, IsAllowedOfExchange, ExchangesWereLawful}

-- what was allowed stays so as facts are taken off
pub exchanges_before : (later p : List Fact) → ExchangesWereLawful (later ++ p) → ExchangesWereLawful p
exchanges_before [] p l = l
exchanges_before (x ∷ later) p l = exchanges_before later p l.0

-- a begun exchange is begun until it ends
stays_begun :
    (between earlier : List Fact) (f e : ℕ) (of : Terms) →
    ExchangesWereLawful (between ++ (Begins f e of ∷ earlier)) →
    (Stands (EndsExchange e) between → ⊥) →
    stage e (between ++ (Begins f e of ∷ earlier)) ≡ Begun of
stays_begun [] earlier f e of l no_end = grind (arith, eq-eqb e e refl)
stays_begun (x ∷ between) earlier f e of l no_end =
    let rest = stays_begun between earlier f e of l.0 (λ s. no_end (inr s)) in
    grind (arith, eq-eqb, ne_eqb, rest, l.1, no_end)

none_before : (x : Fact) (p : List Fact) (e : ℕ) → HasNoBegin e (x ∷ p) → HasNoBegin e p
none_before x p e none f of s = none f of (inr s)

-- an exchange that is begun, or has ended, was begun as what it is
begun_somewhere :
    (p : List Fact) (e : ℕ) (of : Terms) → HasNoBegin e p → stage e p ≡ Begun of → ⊥
begun_somewhere [] e of none h = absurd (cc h)
begun_somewhere (Begins f d x ∷ p) e of none h =
    let before = begun_somewhere p e of (none_before (Begins f d x) p e none) in
    grind (arith, eq-eqb, ne_eqb, before, none f x)
begun_somewhere (x ∷ p) e of none h =
    grind (arith, eq-eqb, ne_eqb, begun_somewhere p e of (none_before x p e none))

ended_somewhere :
    (p : List Fact) (e : ℕ) (of : Terms) → HasNoBegin e p → stage e p ≡ Ended of → ⊥
ended_somewhere [] e of none h = absurd (cc h)
ended_somewhere (x ∷ p) e of none h =
    let before : HasNoBegin e p = none_before x p e none in
    grind (arith, eq-eqb, ne_eqb, ended_somewhere p e of before, begun_somewhere p e of before)

-- what the last begin of an exchange comes to
abbrev ComesTo : ℕ → Terms → List Fact → Stage → Type 0
ComesTo e before between Unused = ⊥
ComesTo e before between (Begun of) = (of ≡ before) × (Stands (Drops e) between → ⊥)
ComesTo e before between (Ended of) =
    (of ≡ before) × Stands (EndsExchange e) between × (Stands (Drops e) between → ⊥)
ComesTo e before between Dropped = ⊤

comes_to_here : (e : ℕ) (before : Terms) (s : Stage) → s ≡ Begun before → ComesTo e before [] s
comes_to_here e before s h = subst (ComesTo e before []) (sym h) (refl, λ no. no)

comes_on :
    (x : Fact) (e : ℕ) (before : Terms) (between rest : List Fact) (s : Stage) →
    ComesTo e before between s → stage e rest ≡ s → IsAllowedOfExchange rest x →
    ((f : ℕ) (of : Terms) → x ≡ Begins f e of → ⊥) →
    ComesTo e before (x ∷ between) (stage e (x ∷ rest))
comes_on x e before between rest Unused c at l none = absurd c
comes_on x e before between rest (Begun of) c at l none = grind (arith, eq-eqb, ne_eqb, c, at, l, none)
comes_on x e before between rest (Ended of) c at l none = grind (arith, eq-eqb, ne_eqb, c, at, l, none)
comes_on x e before between rest Dropped c at l none = grind (arith, eq-eqb, ne_eqb, c, at, l, none)

comes_to :
    (between earlier : List Fact) (g e : ℕ) (before : Terms) →
    ExchangesWereLawful (between ++ (Begins g e before ∷ earlier)) → HasNoBegin e between →
    ComesTo e before between (stage e (between ++ (Begins g e before ∷ earlier)))
comes_to [] earlier g e before l none =
    comes_to_here e before (stage e (Begins g e before ∷ earlier)) (grind (arith, eq-eqb e e refl))
comes_to (x ∷ between) earlier g e before l none =
    let rest : List Fact = between ++ (Begins g e before ∷ earlier) in
    comes_on x e before between rest (stage e rest)
    (comes_to between earlier g e before l.0 (none_before x between e none)) refl l.1
    (λ f of is. none f of (inl is))

module _ (p : List Fact) (l : ExchangesWereLawful p) where
  lawful_at :
      (later earlier : List Fact) (x : Fact) → p ≡ later ++ (x ∷ earlier) →
      ExchangesWereLawful (x ∷ earlier)
  lawful_at later earlier x at =
      exchanges_before later (x ∷ earlier) (subst ExchangesWereLawful at l)

  serialized :
      (later between earlier : List Fact) (f g e d : ℕ) (of other : Terms) →
      p ≡ later ++ (Begins g d other ∷ (between ++ (Begins f e of ∷ earlier))) →
      of.mode ≡ Serialize → other.session ≡ of.session →
      (Stands (EndsExchange e) between → ⊥) → ⊥
  serialized later between earlier f g e d of other at mode session no_end =
      let q : List Fact = between ++ (Begins f e of ∷ earlier) in
      let it = lawful_at later q (Begins g d other) at in
      it.1.0 e of (stays_begun between earlier f e of it.0 no_end) mode (sym session)

  connected :
      (later earlier : List Fact) (f e : ℕ) (of : Terms) → p ≡ later ++ (Begins f e of ∷ earlier) →
      of.mode ≡ Parallel → HasNoBegin e earlier → ConnectsTo f of.phone earlier
  connected later earlier f e of at mode none =
      first_by (stage e earlier) refl (lawful_at later earlier (Begins f e of) at).1.1
    where
      first_by : (s : Stage) → stage e earlier ≡ s → MayBegin earlier f of s → ConnectsTo f of.phone earlier
      first_by Unused is may = may mode
      first_by (Begun before) is may = absurd may
      first_by (Ended before) is may = absurd (ended_somewhere earlier e before none is)
      first_by Dropped is may = absurd may

  begun_again :
      (later between earlier : List Fact) (f g e : ℕ) (of before : Terms) →
      p ≡ later ++ (Begins f e of ∷ (between ++ (Begins g e before ∷ earlier))) →
      HasNoBegin e between →
      (of ≡ before) × (of.mode ≡ Parallel)
      × Stands (EndsExchange e) between × (Stands (Drops e) between → ⊥)
  begun_again later between earlier f g e of before at none =
      let q : List Fact = between ++ (Begins g e before ∷ earlier) in
      let it = lawful_at later q (Begins f e of) at in
      again_by q (stage e q) (comes_to between earlier g e before it.0 none) it.1.1
    where
      again_by :
          (q : List Fact) (s : Stage) → ComesTo e before between s → MayBegin q f of s →
          (of ≡ before) × (of.mode ≡ Parallel)
          × Stands (EndsExchange e) between × (Stands (Drops e) between → ⊥)
      again_by q Unused c may = absurd c
      again_by q (Begun x) c may = absurd may
      again_by q (Ended x) c may = (sym may.0 ∙ c.0, may.1, c.1, c.2)
      again_by q Dropped c may = absurd may

  pub each_exchange_is_lawful : EachExchangeIsLawful p
  each_exchange_is_lawful =
      record { serialized = serialized; connected = connected; begun_again = begun_again }

pub exchanges_are_lawful :
    (h : List Entry) → ((t : ℕ) → ExchangesWereLawful (facts t h)) → ExchangesAreLawful h
exchanges_are_lawful h l t = each_exchange_is_lawful (facts t h) (l t)
