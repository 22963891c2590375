-- One more entry keeps what is known of the laws.
use Rattle.std.proofs.Common.{ℕ, suc, ◌≡◌, ◌↔◌, ◌<◌, ◌+◌, Bool, true, false, List, [], ◌∷◌, length, get_or, drop, refl, sym, ap, ◌∙◌, arith, add-one, drop-cons}
use Rattle.std.specs.Prelude.{Result, Ok, Err, IfOk, OnOk}
use Rattle.ipc_ids.specs.declared.entry.Entry.{Entry}
use Rattle.ipc_ids.specs.declared.entry.Entry.TheVariants as entry
use Rattle.ipc_ids.specs.Tales.{Tale, Head, On, Other, tale, tales}
use Rattle.ipc_ids.specs.Life.{last_number}
use Rattle.ipc_ids.specs.Lawful.{Follows}
use Rattle.ipc_ids.specs.Laws.{IsAllowed, LivesAreLawful, KillEndsHeldCalls}
use Rattle.ipc_ids.proofs.Common.{suc_over}
use Rattle.law_check.specs.declared.kills.Kills.{Kills}
use Rattle.law_check.specs.Allowed.{WasAllowed}
use Rattle.law_check.specs.Lives.{Knows, life_at, kill_at}
use Rattle.law_check.specs.Kills.{KillsFoundLate}
use Rattle.law_check.specs.KillState.{KnowsKills, TakesKill, number_at, is_late}
use Rattle.law_check.specs.Verdict.{accepted}
use Rattle.law_check.specs.Passing.{in_order, LivesLeft, KillsLeft, AreasLeft, KillsStand}
use Rattle.law_check.proofs.KillSteps.{none_late}
use Rattle.law_check.proofs.KillLaw.{late_kills_are_law}
use Rattle.law_check.proofs.AreaSteps.{areas_are_law}

-- ---- before any entry
pub lives_first : LivesLeft []
lives_first es = (λ a. a, λ l. l)

pub kills_first : KillsLeft []
kills_first es l = late_kills_are_law es l

pub areas_first : AreasLeft []
areas_first es l = areas_are_law es l

-- ---- one more entry
pub lives_next : (p : List Entry) (e : Entry) → LivesLeft p → Follows (tales p) (tale e) → IsAllowed (tales p) (tale e) → LivesLeft (e ∷ p)
lives_next p e left follows allowed es =
    let both = left (e ∷ es) in
    (λ a. both.0 (follows, allowed, a), λ l. (both.1 l).2)

one_more :
    (p : List Tale) (y : Tale) (es : List Tale) (new : Kills) → TakesKill p y new true →
    KnowsKills (y ∷ p) new × (KillsFoundLate (y ∷ p) es ↔ KillsFoundLate p (y ∷ es))
one_more p (Head e) es new takes = (takes, (λ t. t, λ t. t))
one_more p (On n w) es new takes = (takes.2, (λ t. (takes.0, takes.1, t), λ t. t.2))
one_more p Other es new takes = (takes, (λ t. t, λ t. t))

no_more : (p : List Tale) (y : Tale) (es : List Tale) (new : Kills) → TakesKill p y new false → KillsFoundLate p (y ∷ es) → ⊥
no_more p (Head e) es new takes told = takes
no_more p (On n w) es new takes told = takes told.0 told.1
no_more p Other es new takes told = takes

pub kills_next :
    (p : List Entry) (e : Entry) (new : Kills) (yes : Bool) → KillsLeft p → TakesKill (tales p) (tale e) new yes →
    Knows (tale e ∷ tales p) new.lives → KillsStand (e ∷ p) yes new
kills_next p e new true left takes lives = (
  (one_more (tales p) (tale e) [] new takes).0,
  λ es l.
      let one = (one_more (tales p) (tale e) (tales es) new takes).1 in
      let all = left (e ∷ es) l in
      (λ t. all.0 (one.0 t), λ k. one.1 (all.1 k)),
)
kills_next p e new false left takes lives =
    (lives, λ es l k. no_more (tales p) (tale e) (tales es) new takes ((left (e ∷ es) l).1 k))

-- what a step says of a value, with what it says of the state
with_ok : {A E : Type 0} {P R : A → Type 0} {Q : Type 0} (r : Result A E) → IfOk r P → OnOk r Q → ((x : A) → P x → Q → R x) → IfOk r R
with_ok (Ok x) p q f = f x p q
with_ok (Err e) p q f = tt

pub kills_taken :
    {E : Type 0} (p : List Entry) (e : Entry) (b : Bool) (old new : Kills) (r : Result Bool E) → KillsStand p b old → b ≡ true →
    (KnowsKills (tales p) old → IfOk r (λ yes. TakesKill (tales p) (tale e) new yes)) →
    (Knows (tales p) old.lives → OnOk r (Knows (tale e ∷ tales p) new.lives)) → IfOk r (λ yes. KillsStand (e ∷ p) yes new)
kills_taken p e true old new r stand h takes lives =
    with_ok r (takes stand.0) (lives stand.0.lives) (λ yes t l. kills_next p e new yes stand.1 t l)
kills_taken p e false old new r stand h takes lives = cc

-- ---- the end
-- what is kept of a law that may still hold
pub may_hold : (p : List Entry) (b : Bool) (s : Kills) → KillsStand p b s → b ≡ true → KnowsKills (tales p) s × KillsLeft p
may_hold p true s stand h = stand
may_hold p false s stand h = cc

pub knows_lives : (p : List Entry) (b : Bool) (s : Kills) → KillsStand p b s → Knows (tales p) s.lives
knows_lives p true s stand = stand.0.lives
knows_lives p false s stand = stand.0

pub all_killed :
    (p : List Entry) (s : Kills) (k : ℕ → ℕ) → LivesAreLawful (in_order p []) → KnowsKills (tales p) s → KillsLeft p →
    ((t : ℕ) → k t ≡ kill_at s.lives.tasks t) →
    ((n : ℕ) → is_late (life_at s.lives.calls.items n) (number_at s.since.items n) k ≡ false)
    ↔ KillEndsHeldCalls (in_order p [])
all_killed p s k l knows left ended =
    let none = none_late (tales p) s k knows ended in
    let all = left [] l in
    (λ n. all.0 (none.0 n), λ h. none.1 (all.1 h))

accepted_in_order : (p es : List Entry) → accepted (in_order p es) ≡ accepted p + accepted es
accepted_in_order [] es = none (accepted es) where
  none : (n : ℕ) → n ≡ 0 + n
  none n = omega arith
accepted_in_order (e ∷ p) es = accepted_in_order p (e ∷ es) ∙ moved e p es where
  moved : (e : Entry) (p es : List Entry) → accepted p + accepted (e ∷ es) ≡ accepted (e ∷ p) + accepted es
  moved (entry.Accepted n from method to) p es = suc_over (accepted p) (accepted es)
  moved _ p es = refl

last_is_accepted : (p : List Entry) → WasAllowed (tales p) → last_number (tales p) ≡ accepted p
last_is_accepted [] was = refl
last_is_accepted (e ∷ p) was = grind (arith, last_is_accepted p was.0, was.2)

pub calls_accepted : (p : List Entry) → WasAllowed (tales p) → last_number (tales p) ≡ accepted (in_order p [])
calls_accepted p was = last_is_accepted p was ∙ sym (accepted_in_order p [] ∙ none (accepted p)) where
  none : (n : ℕ) → n + 0 ≡ n
  none n = omega arith

-- ---- a list
-- the next entry of those that are left
pub whole_next :
    (h before : List Entry) (i : ℕ) (x : Entry) → i < length h → x ≡ get_or h i x → in_order before (drop i h) ≡ h →
    in_order (x ∷ before) (drop (i + 1) h) ≡ h
whole_next h before i x low is whole =
    ap (in_order before) (sym (rw (add-one, drop-cons h i x low) (ap (λ (y : Entry). y ∷ drop (suc i) h) (sym is)))) ∙ whole
