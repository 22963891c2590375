-- What each kind of fact does to the law of exchanges, the sessions and the exchanges.
use Rattle.std.proofs.Common.{ℕ, zero, suc, ◌≡◌, Bool, true, false, Option, Some, None, List, []}
use Rattle.std.proofs.Common.{◌∷◌, ◌++◌, refl, subst, arith}
use Rattle.std.specs.Prelude.{◌⊎◌, if◌then◌else◌, ◌==◌, ◌&&◌, slice_get, slice_set}
use Rattle.std.specs.List.{filter, fold}
use Rattle.std.proofs.lemmas.Bool.{eqb-true, cases_eq, eq-eqb, ne_eqb}
use Rattle.ipc_ids.specs.declared.numbers.FibrilNo.{FibrilNo}
use Rattle.ipc_ids.specs.declared.numbers.ExchangeNo.{ExchangeNo}
use Rattle.ipc_ids.specs.declared.message.Reply.{Reply}
use Rattle.ipc_ids.specs.declared.message.ExchangeMode.{ExchangeMode}
use Rattle.ipc_ids.specs.declared.message.ExchangeMode.TheVariants.{Atomic, Serialize, Parallel}
use Rattle.async_sessions.specs.declared.sessions.Session.{Session}
use Rattle.async_sessions.specs.declared.sessions.Exchange.{Exchange}
use Rattle.async_sessions.specs.declared.sessions.Held.{Held}
use Rattle.async_sessions.specs.declared.sessions.Held.TheVariants.{By, Idle}
use Rattle.async_sessions.specs.declared.sessions.Close.TheVariants as close
use Rattle.async_sessions.specs.Sessions.{Open, session_at, session_in, mode_answer, make_after, exchange_of}
use Rattle.async_sessions.specs.Sessions.{close_after, held_by, held_in, same_held}
use Rattle.async_sessions.specs.Sessions.{in_session, sooner, first_idle, any_begun, is_other}
use Rattle.async_sessions.specs.Sessions.{changed, changed_one, added, dropped, ended, begun_after}
use Rattle.async_sessions.proofs.Lookups.{of-push, changed-number, of-change, find_exchange, of-drop, of-number}
use Rattle.ipc_ids.specs.Facts.{Terms, Fact, Head, Accepts, Answer, Sent, Gets, Ends, Begins}
use Rattle.ipc_ids.specs.Facts.{EndsExchange, Drops, Other}
use Rattle.ipc_ids.specs.Exchanges.{ConnectsTo, Stage, Unused, Begun, Ended, Dropped, stage, IsFree}
use Rattle.ipc_ids.specs.Exchanges.{IsAllowedOfExchange}
use Rattle.async_laws.specs.KeptExchanges.{AreApart, terms, IsBegun, Agrees}
use Rattle.async_laws.specs.KeptExchanges.{KeptExchanges}

-- look-ups

abbrev pub changed_at : ExchangeNo → Held → ℕ → Option Exchange → Option Exchange
changed_at e held stamp None = None
changed_at e held stamp (Some x) = Some (changed_one e held stamp x)

apart_push : (x : Exchange) (xs : List Exchange) → exchange_of x.number.0 xs ≡ None → AreApart xs →
    AreApart (xs ++ x ∷ [])
apart_push x [] h i = (refl, tt)
apart_push x (y ∷ ys) h i =
    grind (
      arith,
      apart_push x ys,
      of-push x y.number.0 ys,
      i.0,
      i.1,
      eq-eqb,
      ne_eqb,
      cases_eq x.number.0 y.number.0,
    )

apart_drop : (e : ExchangeNo) (xs : List Exchange) → AreApart xs → AreApart (filter (is_other e) xs)
apart_drop e [] i = tt
apart_drop e (x ∷ xs) i =
    grind (
      arith,
      apart_drop e xs i.1,
      of-drop e x.number.0 xs,
      i.0,
      eq-eqb,
      ne_eqb,
      cases_eq x.number.0 e.0,
    )

apart_change : (e : ExchangeNo) (held : Held) (stamp : ℕ) (xs : List Exchange) → AreApart xs →
    AreApart (changed e held stamp xs)
apart_change e held stamp [] i = tt
apart_change e held stamp (x ∷ xs) i =
    grind (
      arith,
      apart_change e held stamp xs i.1,
      of-change e held stamp x.number.0 xs,
      changed-number e held stamp x,
      i.0,
    )

abbrev pub IsIn : Exchange → List Exchange → Type 0
IsIn x [] = ⊥
IsIn x (y ∷ ys) = (y ≡ x) ⊎ IsIn x ys

in_at : (x : Exchange) (xs : List Exchange) → AreApart xs → IsIn x xs →
    exchange_of x.number.0 xs ≡ Some x
in_at x [] i h = absurd h
in_at x (y ∷ ys) i h =
    grind (arith, in_at x ys i.1, i.0, eq-eqb, ne_eqb, cases_eq y.number.0 x.number.0)

-- the idle exchange of least stamp

abbrev pub choose : Option ℕ → Option Exchange → Exchange → Option Exchange
choose s best x = if same_held x.held Idle && in_session s x then sooner best x else best

choose_one : (s : Option ℕ) (best : Option Exchange) (y x : Exchange) → choose s best y ≡ Some x →
    (best ≡ Some x) ⊎ ((y ≡ x) × (x.held ≡ Idle) × (in_session s x ≡ true))
choose_one s best y x h = grind arith

chosen_in : (s : Option ℕ) (best : Option Exchange) (xs : List Exchange) (x : Exchange) →
    fold (choose s) best xs ≡ Some x →
    (best ≡ Some x) ⊎ (IsIn x xs × (x.held ≡ Idle) × (in_session s x ≡ true))
chosen_in s best [] x h = grind arith
chosen_in s best (y ∷ ys) x h =
    grind (arith, chosen_in s (choose s best y) ys x h, choose_one s best y x)

first_in : (s : Option ℕ) (xs : List Exchange) (x : Exchange) → first_idle s xs ≡ Some x →
    IsIn x xs × (x.held ≡ Idle) × (in_session s x ≡ true)
first_in s xs x h = grind (arith, chosen_in s None xs x h)

chosen_some : (s : Option ℕ) (b : Exchange) (xs : List Exchange) →
    fold (choose s) (Some b) xs ≡ None → ⊥
chosen_some s b [] h = absurd (cc h)
chosen_some s b (y ∷ ys) h = grind (arith, chosen_some s b ys, chosen_some s y ys)

none_idle : (s : Option ℕ) (xs : List Exchange) (m : ℕ) (x : Exchange) → first_idle s xs ≡ None →
    exchange_of m xs ≡ Some x → x.held ≡ Idle → in_session s x ≡ true → ⊥
none_idle s [] m x h o i j = absurd (cc o)
none_idle s (y ∷ ys) m x h o i j =
    grind (arith, none_idle s ys m x, chosen_some s y ys, eq-eqb, ne_eqb, cases_eq y.number.0 m)

none_begun : (s m : ℕ) (xs : List Exchange) (x : Exchange) → any_begun s xs ≡ false →
    exchange_of m xs ≡ Some x → IsBegun x.held → x.session ≡ s → ⊥
none_begun s m [] x h o i j = absurd (cc o)
none_begun s m (y ∷ ys) x h o i j =
    grind (arith, none_begun s m ys x, eq-eqb, ne_eqb, cases_eq y.number.0 m)

-- sessions

set_other : (xs : List (Option Session)) (s r : ℕ) (v : Option Session) (m : ExchangeMode) →
    session_in (slice_get xs s) ≡ None → mode_answer (session_in (slice_get xs r)) ≡ Some m →
    mode_answer (session_in (slice_get (slice_set xs s v) r)) ≡ Some m
set_other [] s r v m h i = absurd (cc i)
set_other (x ∷ xs) zero zero v m h i = absurd (grind arith)
set_other (x ∷ xs) zero (suc r) v m h i = i
set_other (x ∷ xs) (suc s) zero v m h i = i
set_other (x ∷ xs) (suc s) (suc r) v m h i = set_other xs s r v m h i

set_apart : (xs : List (Option Session)) (s r : ℕ) (v : Option Session) → (r ≡ s → ⊥) →
    mode_answer (session_in (slice_get (slice_set xs s v) r)) ≡ mode_answer
    (session_in (slice_get xs r))
set_apart [] s r v h = refl
set_apart (x ∷ xs) zero zero v h = absurd (h refl)
set_apart (x ∷ xs) zero (suc r) v h = refl
set_apart (x ∷ xs) (suc s) zero v h = refl
set_apart (x ∷ xs) (suc s) (suc r) v h = set_apart xs s r v (λ e. h (grind arith))

-- entries that the law of exchanges doesn't read
passed_over_exchanges : (x : Fact) (p : List Fact) (o : Open) →
    ((e : ℕ) → stage e (x ∷ p) ≡ stage e p) → IsAllowedOfExchange p x → KeptExchanges p o →
    KeptExchanges (x ∷ p) o
passed_over_exchanges x p o same fits kept = record {
  lawful = (kept.lawful, fits);
  apart = kept.apart;
  agree = λ e. rw (same e) (kept.agree e);
  modes = kept.modes;
  fresh = λ e h. rw (same e) (kept.fresh e h);
  one = kept.one;
}

pub head_exchanges : (b : Bool) (p : List Fact) (o : Open) → KeptExchanges p o →
    KeptExchanges (Head b ∷ p) o
head_exchanges b p o kept = passed_over_exchanges (Head b) p o (λ e. refl) tt kept

pub accepts_exchanges : (n : ℕ) (p : List Fact) (o : Open) → KeptExchanges p o →
    KeptExchanges (Accepts n ∷ p) o
accepts_exchanges n p o kept = passed_over_exchanges (Accepts n) p o (λ e. refl) tt kept

pub answer_exchanges : (n : ℕ) (r : Reply) (p : List Fact) (o : Open) → KeptExchanges p o →
    KeptExchanges (Answer n r ∷ p) o
answer_exchanges n r p o kept = passed_over_exchanges (Answer n r) p o (λ e. refl) tt kept

pub sent_exchanges : (f n : ℕ) (w : Option ℕ) (p : List Fact) (o : Open) → KeptExchanges p o →
    KeptExchanges (Sent f n w ∷ p) o
sent_exchanges f n w p o kept = passed_over_exchanges (Sent f n w) p o (λ e. refl) tt kept

pub gets_exchanges : (f n : ℕ) (w : Option ℕ) (r : Reply) (p : List Fact) (o : Open) →
    KeptExchanges p o → KeptExchanges (Gets f n w r ∷ p) o
gets_exchanges f n w r p o kept = passed_over_exchanges (Gets f n w r) p o (λ e. refl) tt kept

pub ends_exchanges : (f : ℕ) (p : List Fact) (o : Open) → KeptExchanges p o →
    KeptExchanges (Ends f ∷ p) o
ends_exchanges f p o kept = passed_over_exchanges (Ends f) p o (λ e. refl) tt kept

pub other_exchanges : (p : List Fact) (o : Open) → KeptExchanges p o → KeptExchanges (Other ∷ p) o
other_exchanges p o kept = passed_over_exchanges Other p o (λ e. refl) tt kept

-- a begin of a session where no SERIALIZE exchange stands in its way

free_session : (p : List Fact) (o : Open) (s : ℕ) (m : ExchangeMode) → KeptExchanges p o →
    mode_answer (session_at o s) ≡ Some m → (m ≡ Serialize → any_begun s o.exchanges ≡ false) →
    IsFree s p
free_session p o s m kept is none d v at serial here = free_at (exchange_of d o.exchanges) refl
  where
    free_at : (x : Option Exchange) → exchange_of d o.exchanges ≡ x → ⊥
    free_at None e = grind (arith, kept.agree d)
    free_at (Some x) e = grind (arith, kept.agree d, kept.modes d x e, none_begun s d o.exchanges x)

unused_number : (p : List Fact) (o : Open) → KeptExchanges p o →
    exchange_of o.next_number o.exchanges ≡ None
unused_number p o kept = unused_at (exchange_of o.next_number o.exchanges) refl
  where
    unused_at : (x : Option Exchange) → exchange_of o.next_number o.exchanges ≡ x → x ≡ None
    unused_at None e = refl
    unused_at (Some x) e = absurd
        (grind (arith, kept.agree o.next_number, kept.fresh o.next_number (omega arith)))

abbrev pub new_one : Open → FibrilNo → ℕ → ℕ → ExchangeMode → Exchange
new_one o f s phone m =
    record {
      number = record { 0 = o.next_number };
      session = s;
      phone = phone;
      mode = m;
      held = By
          f;
      stamp = 0;
    }

held_look : (f : FibrilNo) (x : Exchange) (y : Option Exchange) → held_in f y ≡ Some x →
    (y ≡ Some x) × IsBegun x.held
held_look f x None h = absurd (cc h)
held_look f x (Some y) h = grind arith

end_dropped : (f : FibrilNo) (e : ExchangeNo) (x : Exchange) (p : List Fact) (o : Open) →
    KeptExchanges p o → (exchange_of e.0 o.exchanges ≡ Some x) × IsBegun x.held →
    (x.mode ≡ Parallel → ⊥) → KeptExchanges (EndsExchange e.0 ∷ p) (dropped o e)
end_dropped f e x p o kept held narrow = record {
  lawful = (kept.lawful, grind (arith, kept.agree e.0));
  apart = apart_drop e o.exchanges kept.apart;
  agree = λ d. grind (arith, eq-eqb, ne_eqb, of-drop e d o.exchanges, cases_eq e.0 d, kept.agree d);
  modes = λ d y h. grind
      (arith, eq-eqb, ne_eqb, of-drop e d o.exchanges, cases_eq e.0 d, kept.modes d y);
  fresh = λ d h. grind (arith, eq-eqb, ne_eqb, cases_eq e.0 d, kept.fresh d);
  one = λ d c y z h i a b r g.
      grind (
        arith,
        eq-eqb,
        ne_eqb,
        of-drop e c o.exchanges,
        of-drop e d o.exchanges,
        cases_eq e.0 c,
        cases_eq e.0 d,
        kept.one d c y z,
      );
}

idle_stage : (g : Stage) (x : Exchange) → x.held ≡ Idle → Agrees g (Some x) → g ≡ Ended (terms x)
idle_stage Unused x i h = absurd h
idle_stage (Begun w) x i h = absurd (grind arith)
idle_stage (Ended w) x i h = grind arith
idle_stage Dropped x i h = absurd h

-- an exchange that was begun has a number below the next one
old_number : (b : Bool) (e : ℕ) (w : Terms) (p : List Fact) (o : Open) → KeptExchanges p o →
    stage e p ≡ Ended w → (e == o.next_number) ≡ b → b ≡ false
old_number false e w p o kept at is = refl
old_number true e w p o kept at is = absurd (grind (arith, eqb-true, kept.fresh e))

held_at : (f : FibrilNo) (e : ExchangeNo) (x : Exchange) (xs : List Exchange) →
    held_by f e xs ≡ Some x → (exchange_of e.0 xs ≡ Some x) × IsBegun x.held
held_at f e x xs h =
    held_look f x (exchange_of e.0 xs) (subst (λ y. held_in f y ≡ Some x) (find_exchange e xs) h)

end_as : (f : FibrilNo) (e : ExchangeNo) (x : Exchange) (p : List Fact) (o : Open) →
    KeptExchanges p o → (exchange_of e.0 o.exchanges ≡ Some x) × IsBegun x.held →
    (m : ExchangeMode) → x.mode ≡ m → KeptExchanges (EndsExchange e.0 ∷ p) (ended o e m)
end_as f e x p o kept held Parallel is = record {
  lawful = (kept.lawful, grind (arith, kept.agree e.0));
  apart = apart_change e Idle o.next_stamp o.exchanges kept.apart;
  agree = λ d. grind (
    arith,
    eq-eqb,
    ne_eqb,
    of-change e Idle o.next_stamp d o.exchanges,
    of-number d o.exchanges,
    cases_eq e.0 d,
    kept.agree d,
  );
  modes = λ d y h. grind
      (arith, eq-eqb, ne_eqb, of-change e Idle o.next_stamp d o.exchanges, kept.modes d);
  fresh = λ d h. grind (arith, eq-eqb, ne_eqb, cases_eq e.0 d, kept.fresh d);
  one = λ d c y z h i a b r g.
      grind (
        arith,
        eq-eqb,
        ne_eqb,
        of-change e Idle o.next_stamp c o.exchanges,
        of-change e Idle o.next_stamp d o.exchanges,
        kept.one d c,
      );
}
end_as f e x p o kept held Atomic is = end_dropped f e x p o kept held (λ i. absurd (grind arith))
end_as f e x p o kept held Serialize is =
    end_dropped f e x p o kept held (λ i. absurd (grind arith))

not_here : (s e : ℕ) (x : Exchange) (xs : List Exchange) → any_begun s xs ≡ false →
    first_idle (Some s) xs ≡ None → exchange_of e xs ≡ Some x → x.session ≡ s → ⊥
not_here s e x xs begun idle at here = held_or x.held refl
  where
    held_or : (h : Held) → x.held ≡ h → ⊥
    held_or (By f) i = none_begun s e xs x begun at (rw i tt) here
    held_or Idle i = none_idle (Some s) xs e x idle at i (rw here (eq-eqb s s refl))

-- a new exchange is begun
pub begin_new : (f : FibrilNo) (s phone : ℕ) (m : ExchangeMode) (p : List Fact) (o : Open) →
    KeptExchanges p o → mode_answer (session_at o s) ≡ Some m →
    (m ≡ Serialize → any_begun s o.exchanges ≡ false) → (m ≡ Parallel → ConnectsTo f.0 phone p) →
    KeptExchanges (Begins f.0 o.next_number (record { mode = m; session = s; phone = phone }) ∷ p)
    (added o f s phone m)
begin_new f s phone m p o kept is none connects =
    let unused : exchange_of o.next_number o.exchanges ≡ None = unused_number p o kept in
    let new : stage o.next_number p ≡ Unused = kept.fresh o.next_number (omega arith) in
    record {
      lawful = (kept.lawful, (free_session p o s m kept is none, rw new connects));
      apart = apart_push (new_one o f s phone m) o.exchanges unused kept.apart;
      agree = λ e. grind (
        arith,
        eq-eqb,
        ne_eqb,
        of-push (new_one o f s phone m) e o.exchanges unused,
        cases_eq o.next_number e,
        kept.agree e,
      );
      modes = λ e x h. grind (
        arith,
        eq-eqb,
        ne_eqb,
        of-push (new_one o f s phone m) e o.exchanges unused,
        cases_eq o.next_number e,
        kept.modes e x,
      );
      fresh = λ e h. grind (arith, eq-eqb, ne_eqb, cases_eq o.next_number e, kept.fresh e);
      one = λ d e x y h i a b c g.
          grind (
            arith,
            eq-eqb,
            ne_eqb,
            of-push (new_one o f s phone m) e o.exchanges unused,
            of-push (new_one o f s phone m) d o.exchanges unused,
            cases_eq o.next_number e,
            cases_eq o.next_number d,
            kept.one d e x y,
            kept.modes d x,
            none_begun s d o.exchanges x,
            none_begun s e o.exchanges y,
          );
    }

-- an exchange that is not PARALLEL stays as it is, as a PARALLEL one changes
same_at : (e : ℕ) (x y : Exchange) (f : FibrilNo) (xs : List Exchange) →
    exchange_of x.number.0 xs ≡ Some x → x.mode ≡ Parallel →
    exchange_of e (changed x.number (By f) 0 xs) ≡ Some y → y.mode ≡ Serialize →
    exchange_of e xs ≡ Some y
same_at e x y f xs at wide h serial =
    same_look (exchange_of e xs) refl (subst (λ z. z ≡ Some y) (of-change x.number (By f) 0 e xs) h)
  where
    same_look : (z : Option Exchange) → exchange_of e xs ≡ z →
        changed_at x.number (By f) 0 z ≡ Some y → exchange_of e xs ≡ Some y
    same_look None i k = absurd (cc k)
    same_look (Some z) i k = grind
        (arith, eq-eqb, ne_eqb, of-number e xs z i, cases_eq z.number.0 x.number.0)

-- an exchange that is idle is begun again
pub begin_again : (f : FibrilNo) (s : ℕ) (m : ExchangeMode) (x : Exchange) (p : List Fact)
    (o : Open) → KeptExchanges p o → mode_answer (session_at o s) ≡ Some m →
    first_idle (Some s) o.exchanges ≡ Some x →
    KeptExchanges (Begins f.0 x.number.0 (record { mode = m; session = s; phone = x.phone }) ∷ p)
    (begun_after o f s x.number x.phone m)
begin_again f s m x p o kept is first =
    let found : IsIn x o.exchanges × (x.held ≡ Idle) × (in_session (Some s) x ≡ true) = first_in
    (Some s) o.exchanges x first in
    let at : exchange_of x.number.0 o.exchanges ≡ Some x = in_at x o.exchanges kept.apart found.0 in
    let here : x.session ≡ s = grind (arith, found.2, eqb-true) in
    let staged : stage x.number.0 p ≡ Ended (terms x) = idle_stage (stage x.number.0 p) x found.1
    (subst (Agrees (stage x.number.0 p)) at (kept.agree x.number.0)) in
    let of : terms x ≡ record { mode = m; session = s; phone = x.phone } = grind
    (arith, kept.modes x.number.0 x at) in
    let wide : m ≡ Parallel = grind (arith, kept.agree x.number.0) in
    let xwide : x.mode ≡ Parallel = grind (arith, kept.agree x.number.0) in
    let old : (x.number.0 == o.next_number) ≡ false = old_number (x.number.0 == o.next_number)
    x.number.0 (terms x) p o kept staged refl in
    let modes : (e : ℕ) (y : Exchange) →
    exchange_of e (changed x.number (By f) 0 o.exchanges) ≡ Some y →
    mode_answer (session_at o y.session) ≡ Some y.mode = λ e y h.
    grind (
      arith,
      eq-eqb,
      ne_eqb,
      of-change x.number (By f) 0 e o.exchanges,
      cases_eq x.number.0 e,
      kept.modes e,
    ) in
    rw old (record {
      lawful = (
        kept.lawful,
        (free_session p o s m kept is (λ i. absurd (grind arith)), rw staged (of, wide)),
      );
      apart = apart_change x.number (By f) 0 o.exchanges kept.apart;
      agree = λ e. grind (
        arith,
        eq-eqb,
        ne_eqb,
        of-change x.number (By f) 0 e o.exchanges,
        of-number e o.exchanges,
        cases_eq x.number.0 e,
        kept.agree e,
      );
      modes = modes;
      fresh = λ e h. grind (arith, eq-eqb, ne_eqb, cases_eq x.number.0 e, kept.fresh e);
      one = λ d e y z h i a b c g.
          let serial : z.mode ≡ Serialize = grind (arith, modes d y h, modes e z i) in
          kept.one d e y z (same_at d x y f o.exchanges at xwide h g)
          (same_at e x z f o.exchanges at xwide i serial) a b c g;
    })

-- an exchange ends
pub end_exchange : (f : FibrilNo) (e : ExchangeNo) (x : Exchange) (p : List Fact) (o : Open) →
    KeptExchanges p o → held_by f e o.exchanges ≡ Some x →
    KeptExchanges (EndsExchange e.0 ∷ p) (ended o e x.mode)
end_exchange f e x p o kept held =
    end_as f e x p o kept (held_at f e x o.exchanges held) x.mode refl

-- an idle exchange leaves
pub drop_exchange : (s : Option ℕ) (x : Exchange) (p : List Fact) (o : Open) → KeptExchanges p o →
    first_idle s o.exchanges ≡ Some x → KeptExchanges (Drops x.number.0 ∷ p) (dropped o x.number)
drop_exchange s x p o kept first =
    let found : IsIn x o.exchanges × (x.held ≡ Idle) × (in_session s x ≡ true) = first_in s
    o.exchanges x first in
    let at : exchange_of x.number.0 o.exchanges ≡ Some x = in_at x o.exchanges kept.apart found.0 in
    let staged : stage x.number.0 p ≡ Ended (terms x) = idle_stage (stage x.number.0 p) x found.1
    (subst (Agrees (stage x.number.0 p)) at (kept.agree x.number.0)) in
    let wide : x.mode ≡ Parallel = grind (arith, kept.agree x.number.0) in
    record {
      lawful = (kept.lawful, rw staged wide);
      apart = apart_drop x.number o.exchanges kept.apart;
      agree = λ e. grind (
        arith,
        eq-eqb,
        ne_eqb,
        of-drop x.number e o.exchanges,
        cases_eq x.number.0 e,
        kept.agree e,
      );
      modes = λ e y h. grind (
        arith,
        eq-eqb,
        ne_eqb,
        of-drop x.number e o.exchanges,
        cases_eq x.number.0 e,
        kept.modes e y,
      );
      fresh = λ e h. grind (
        arith,
        eq-eqb,
        ne_eqb,
        cases_eq x.number.0 e,
        kept.fresh e,
        kept.fresh x.number.0,
      );
      one = λ d e y z h i a b c g.
          grind (
            arith,
            eq-eqb,
            ne_eqb,
            of-drop x.number e o.exchanges,
            of-drop x.number d o.exchanges,
            cases_eq x.number.0 e,
            cases_eq x.number.0 d,
            kept.one d e y z,
          );
    }

-- a session is made
pub open_session : (s phone : ℕ) (m : ExchangeMode) (p : List Fact) (o : Open)
    (x : Option Session) → KeptExchanges p o → session_at o s ≡ x →
    KeptExchanges p (make_after o s phone m x)
open_session s phone m p o (Some x) kept is = kept
open_session s phone m p o None kept is = record {
  lawful = kept.lawful;
  apart = kept.apart;
  agree = kept.agree;
  modes = λ e x h. grind (
    arith,
    kept.modes e x h,
    set_other o.sessions s x.session (Some (record { phone = phone; mode = m })) x.mode is,
  );
  fresh = kept.fresh;
  one = kept.one;
}

-- a session without exchanges goes
pub close_session : (s phone : ℕ) (p : List Fact) (o : Open) → KeptExchanges p o →
    any_begun s o.exchanges ≡ false → first_idle (Some s) o.exchanges ≡ None →
    KeptExchanges p (close_after o s (close.Last phone))
close_session s phone p o kept none_begun' none_idle' = record {
  lawful = kept.lawful;
  apart = kept.apart;
  agree = kept.agree;
  modes = λ e x h. grind (
    arith,
    kept.modes e x h,
    set_apart o.sessions s x.session None (not_here s e x o.exchanges none_begun' none_idle' h),
  );
  fresh = kept.fresh;
  one = kept.one;
}
