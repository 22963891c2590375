-- What a begin, a close and an end answer, and what they leave as it was.
use Rattle.std.proofs.Common.{ℕ, ◌≡◌, ◌≢◌, ◌<◌, Bool, true, false, Option, Some, None, List, [], ◌∷◌}
use Rattle.std.proofs.Common.{zero, suc, inl, inr, refl, ap, subst, sym, ◌∙◌, arith}
use Rattle.std.specs.Prelude.{if◌then◌else◌, ◌==◌, ◌||◌, nat_lt, slice_get, slice_set}
use Rattle.std.proofs.lemmas.Bool.{eq-eqb, ne_eqb, lt-ltb, true≢false, eqb-true}
use Rattle.ipc_ids.specs.declared.numbers.FibrilNo.{FibrilNo}
use Rattle.ipc_ids.specs.declared.numbers.ExchangeNo.{ExchangeNo}
use Rattle.ipc_ids.specs.declared.message.ExchangeMode.{ExchangeMode}
use Rattle.ipc_ids.specs.declared.message.ExchangeMode.TheVariants.{Atomic, Serialize, Parallel}
use Rattle.async_sessions.specs.declared.sessions.Session.{Session}
use Rattle.async_sessions.specs.declared.sessions.Exchange.{Exchange}
use Rattle.async_sessions.specs.declared.sessions.Held.{Held}
use Rattle.async_sessions.specs.declared.sessions.Held.TheVariants.{By, Idle}
use Rattle.async_sessions.specs.declared.sessions.Close.TheVariants as close
use Rattle.async_sessions.specs.Sessions.{Open, session_at, session_in, exchange_at, same_held, exchange_of}
use Rattle.async_sessions.specs.Sessions.{held_in, held_by, first_idle, any_begun, dropped, ended}
use Rattle.async_sessions.specs.Sessions.{serial_of, short_of, unless_idle, idle_of, begin_in}
use Rattle.async_sessions.specs.Sessions.{begin_answer, close_idle, close_answer}
use Rattle.ipc_ids.specs.Codes.{ebusy}
use Rattle.async_sessions.specs.Sessions.{end_after, with_session}
use Rattle.async_sessions.specs.SessionLaws.{HasNoIdle, AnswersSerial, AnswersParallel, AnswersIn}
use Rattle.async_sessions.specs.SessionLaws.{AnswersBegin, ClosesIn, AnswersClose, FindsHeld}
use Rattle.async_sessions.specs.SessionLaws.{Loses, EndsOne, LosesSession}
use Rattle.async_sessions.proofs.Lookups.{find_exchange, of-drop, of-change}
use Rattle.async_sessions.proofs.Lookups.{of-number}
use Rattle.async_sessions.proofs.Searches.{none_idle, longest_idle, none_begun, one_begun}

-- begin

serial_answers : (o : Open) (s : ℕ) (x : Session) (b : Bool) → any_begun s o.exchanges ≡ b → AnswersSerial o s x (serial_of o x b)
serial_answers o s x false e = (none_begun s o.exchanges e, refl)
serial_answers o s x true e = one_begun s o.exchanges e

short_answers : (o : Open) (s : ℕ) (x : Session) (y : Option Exchange) → HasNoIdle (Some s) o.exchanges → first_idle None o.exchanges ≡ y → AnswersParallel o s true x (short_of y)
short_answers o s x (Some y) none e = (none, refl, longest_idle None o.exchanges y e)
short_answers o s x None none e = (refl, none_idle None o.exchanges e)

unless_answers : (o : Open) (s : ℕ) (short : Bool) (x : Session) → HasNoIdle (Some s) o.exchanges → AnswersParallel o s short x (unless_idle o x short)
unless_answers o s false x none = (none, refl, refl)
unless_answers o s true x none = short_answers o s x (first_idle None o.exchanges) none refl

idle_answers : (o : Open) (s : ℕ) (short : Bool) (x : Session) (y : Option Exchange) → first_idle (Some s) o.exchanges ≡ y → AnswersParallel o s short x (idle_of o short x y)
idle_answers o s short x (Some y) e = longest_idle (Some s) o.exchanges y e
idle_answers o s short x None e = unless_answers o s short x (none_idle (Some s) o.exchanges e)

mode_answers : (o : Open) (s : ℕ) (short : Bool) (x : Session) (m : ExchangeMode) → AnswersIn o s short x (begin_in o s short x m) m
mode_answers o s short x Atomic = refl
mode_answers o s short x Serialize = serial_answers o s x (any_begun s o.exchanges) refl
mode_answers o s short x Parallel = idle_answers o s short x (first_idle (Some s) o.exchanges) refl

pub begin_answers : (o : Open) (s : ℕ) (short : Bool) (x : Option Session) → AnswersBegin o s short (begin_answer o s short x) x
begin_answers o s short None = refl
begin_answers o s short (Some x) = mode_answers o s short x x.mode

-- close

idle_closes : (o : Open) (s : ℕ) (x : Session) (y : Option Exchange) → any_begun s o.exchanges ≡ false → first_idle (Some s) o.exchanges ≡ y → ClosesIn o s false x (close_idle x y)
idle_closes o s x (Some y) none e = (refl, none_begun s o.exchanges none, longest_idle (Some s) o.exchanges y e)
idle_closes o s x None none e = (refl, none_begun s o.exchanges none, none_idle (Some s) o.exchanges e, refl)

busy_closes : (o : Open) (s : ℕ) (waiting : Bool) (x : Session) (b : Bool) → any_begun s o.exchanges ≡ b → ClosesIn o s waiting x (if waiting || b then close.Refused ebusy else close_idle x (first_idle (Some s) o.exchanges))
busy_closes o s true x b e = (refl, inl refl)
busy_closes o s false x true e = (refl, inr (one_begun s o.exchanges e))
busy_closes o s false x false e = idle_closes o s x (first_idle (Some s) o.exchanges) e refl

pub close_answers : (o : Open) (s : ℕ) (waiting : Bool) (x : Option Session) → AnswersClose o s waiting (close_answer o s waiting x) x
close_answers o s waiting None = refl
close_answers o s waiting (Some x) = busy_closes o s waiting x (any_begun s o.exchanges) refl

-- the exchange that a fibril has begun

same_by : (h : Held) (f : FibrilNo) → same_held h (By f) ≡ true → h ≡ By f
same_by (By g) f e = let same : g.0 ≡ f.0 = eqb-true g.0 f.0 e in ap (λ (k : ℕ). By (record { 0 = k })) same
same_by Idle f e = absurd (cc e)

by_same : (h : Held) (f : FibrilNo) → h ≡ By f → same_held h (By f) ≡ true
by_same h f e = rw e (eq-eqb f.0 f.0 refl)

held_finds : (f : FibrilNo) (e : ExchangeNo) (xs : List Exchange) (y : Option Exchange) → exchange_at e xs ≡ y → FindsHeld f e xs (held_in f y)
held_finds f e xs None is = λ x at here. absurd (cc (sym is ∙ at))
held_finds f e xs (Some y) is = held_by_test (same_held y.held (By f)) refl where
  held_by_test : (b : Bool) → same_held y.held (By f) ≡ b → FindsHeld f e xs (if b then Some y else None)
  held_by_test true same = (is, same_by y.held f same)
  held_by_test false other = λ x at here.
      let one : y ≡ x = cc (sym is ∙ at) in
      let held : y.held ≡ By f = rw one here in
      true≢false (sym (by_same y.held f held) ∙ other)

pub finds_held : (f : FibrilNo) (e : ExchangeNo) (xs : List Exchange) → FindsHeld f e xs (held_by f e xs)
finds_held f e xs = held_finds f e xs (exchange_at e xs) refl

pub held_found : (f : FibrilNo) (e : ExchangeNo) (xs : List Exchange) (x : Exchange) → held_by f e xs ≡ Some x → (exchange_at e xs ≡ Some x) × (x.held ≡ By f)
held_found f e xs x h = subst (FindsHeld f e xs) h (finds_held f e xs)

-- an exchange leaves

drop_here : (e : ExchangeNo) (xs : List Exchange) (o : Open) → o.exchanges ≡ xs → exchange_at e (dropped o e).exchanges ≡ None
drop_here e xs o is = find_exchange e (dropped o e).exchanges ∙ grind (arith, of-drop e e.0 o.exchanges, eq-eqb)

drop_others : (e d : ExchangeNo) (o : Open) → d.0 ≢ e.0 → exchange_at d (dropped o e).exchanges ≡ exchange_at d o.exchanges
drop_others e d o other =
    let differ : (e.0 == d.0) ≡ false = ne_eqb e.0 d.0 (λ i. other (sym i)) in
    let left : exchange_of d.0 (dropped o e).exchanges ≡ exchange_of d.0 o.exchanges = grind (arith, of-drop e d.0 o.exchanges, differ) in
    find_exchange d (dropped o e).exchanges ∙ (left ∙ sym (find_exchange d o.exchanges))

pub drop_loses : (o : Open) (e : ExchangeNo) → Loses o (dropped o e) e
drop_loses o e = record {
  gone = drop_here e o.exchanges o refl;
  rest = record { others = λ d other. drop_others e d o other; sessions = refl };
}

-- an exchange ends

idle_others : (e d : ExchangeNo) (o : Open) → d.0 ≢ e.0 → exchange_at d (ended o e Parallel).exchanges ≡ exchange_at d o.exchanges
idle_others e d o other = find_exchange d (ended o e Parallel).exchanges ∙ (idle_look (exchange_of d.0 o.exchanges) refl ∙ sym (find_exchange d o.exchanges)) where
  idle_look : (y : Option Exchange) → exchange_of d.0 o.exchanges ≡ y → exchange_of d.0 (ended o e Parallel).exchanges ≡ exchange_of d.0 o.exchanges
  idle_look None i = grind (arith, of-change e Idle o.next_stamp d.0 o.exchanges)
  idle_look (Some y) i =
      let number : y.number.0 ≡ d.0 = of-number d.0 o.exchanges y i in
      let differ : (y.number.0 == e.0) ≡ false = ne_eqb y.number.0 e.0 (λ j. other (sym number ∙ j)) in
      grind (arith, of-change e Idle o.next_stamp d.0 o.exchanges, differ)

idle_here : (e : ExchangeNo) (o : Open) (x : Exchange) → exchange_at e o.exchanges ≡ Some x → exchange_at e (ended o e Parallel).exchanges ≡ Some (record x { held = Idle; stamp = o.next_stamp })
idle_here e o x at =
    let there : exchange_of e.0 o.exchanges ≡ Some x = sym (find_exchange e o.exchanges) ∙ at in
    let same : (x.number.0 == e.0) ≡ true = eq-eqb x.number.0 e.0 (of-number e.0 o.exchanges x there) in
    find_exchange e (ended o e Parallel).exchanges ∙ grind (arith, of-change e Idle o.next_stamp e.0 o.exchanges, same)

ends_as : (o : Open) (e : ExchangeNo) (x : Exchange) (m : ExchangeMode) → x.mode ≡ m → exchange_at e o.exchanges ≡ Some x → EndsOne o (ended o e m) e x
ends_as o e x Parallel is at = record {
  parallel = λ p. idle_here e o x at;
  gone = λ no. absurd (no is);
  rest = record { others = λ d other. idle_others e d o other; sessions = refl };
}
ends_as o e x Atomic is at = record {
  parallel = λ p. absurd (cc (sym is ∙ p));
  gone = λ no. (drop_loses o e).gone;
  rest = (drop_loses o e).rest;
}
ends_as o e x Serialize is at = record {
  parallel = λ p. absurd (cc (sym is ∙ p));
  gone = λ no. (drop_loses o e).gone;
  rest = (drop_loses o e).rest;
}

pub ends_one : (o : Open) (f : FibrilNo) (e : ExchangeNo) (x : Exchange) → held_by f e o.exchanges ≡ Some x → EndsOne o (end_after o e (Some x)) e x
ends_one o f e x h = ends_as o e x x.mode refl (held_found f e o.exchanges x h).0

-- a session goes

set_none : (xs : List (Option Session)) (s : ℕ) → session_in (slice_get (slice_set xs s None) s) ≡ None
set_none [] s = refl
set_none (x ∷ xs) zero = refl
set_none (x ∷ xs) (suc s) = set_none xs s

pub set_others : (xs : List (Option Session)) (s r : ℕ) (v : Option Session) → r ≢ s → session_in (slice_get (slice_set xs s v) r) ≡ session_in (slice_get xs r)
set_others [] s r v other = refl
set_others (x ∷ xs) zero zero v other = absurd (other refl)
set_others (x ∷ xs) zero (suc r) v other = refl
set_others (x ∷ xs) (suc s) zero v other = refl
set_others (x ∷ xs) (suc s) (suc r) v other = set_others xs s r v (λ e. other (ap suc e))

with_others : (o : Open) (s r : ℕ) (v : Option Session) (b : Bool) → r ≢ s → session_in (slice_get (if b then slice_set o.sessions s v else o.sessions) r) ≡ session_at o r
with_others o s r v true other = set_others o.sessions s r v other
with_others o s r v false other = refl

pub session_others : (o : Open) (s r : ℕ) (v : Option Session) → r ≢ s → session_at (with_session o s v) r ≡ session_at o r
session_others o s r v other = with_others o s r v (nat_lt s 16) other

pub session_lost : (o : Open) (s : ℕ) → s < 16 → LosesSession o (with_session o s None) s
session_lost o s few = record {
  gone = rw (lt-ltb s 16 few) (set_none o.sessions s);
  others = λ r other. session_others o s r None other;
  exchanges = refl;
}
