-- The exchange with a number, after each change of a list of exchanges.
use Rattle.std.proofs.Common.{ℕ, ◌≡◌, Option, Some, None, List, [], ◌∷◌, ◌++◌}
use Rattle.std.proofs.Common.{refl, sym, ◌∙◌, arith}
use Rattle.std.specs.Prelude.{⊤, if◌then◌else◌, ◌==◌}
use Rattle.std.specs.List.{filter}
use Rattle.std.proofs.lemmas.Bool.{cases_eq, eq-eqb, ne_eqb}
use Rattle.ipc_ids.specs.declared.numbers.ExchangeNo.{ExchangeNo}
use Rattle.async_sessions.specs.declared.sessions.Exchange.{Exchange}
use Rattle.async_sessions.specs.declared.sessions.Held.{Held}
use Rattle.async_sessions.specs.Sessions.{exchange_at, is_other, changed, changed_one, exchange_of}
use Rattle.async_sessions.specs.SessionLaws.{IsAmong, AreApart}

pub find_exchange : (e : ExchangeNo) (xs : List Exchange) → exchange_at e xs ≡ exchange_of e.0 xs
find_exchange e [] = refl
find_exchange e (x ∷ xs) = grind (arith, find_exchange e xs, eq-eqb, ne_eqb, cases_eq x.number.0 e.0)

-- no two have one number
abbrev pub IsApart : List Exchange → Type 0
IsApart [] = ⊤
IsApart (x ∷ xs) = (exchange_of x.number.0 xs ≡ None) × IsApart xs

pub apart_of : (xs : List Exchange) → AreApart xs → IsApart xs
apart_of [] h = tt
apart_of (x ∷ xs) h = (sym (find_exchange x.number xs) ∙ h.0, apart_of xs h.1)

pub of_apart : (xs : List Exchange) → IsApart xs → AreApart xs
of_apart [] h = tt
of_apart (x ∷ xs) h = (find_exchange x.number xs ∙ h.0, of_apart xs h.1)

-- an exchange, changed if it has the number e
abbrev pub changed_at : ExchangeNo → Held → ℕ → Option Exchange → Option Exchange
changed_at e held stamp None = None
changed_at e held stamp (Some x) = Some (changed_one e held stamp x)

pub of-push : (x : Exchange) (m : ℕ) (xs : List Exchange) → exchange_of x.number.0 xs ≡ None → exchange_of m (xs ++ x ∷ []) ≡ if x.number.0 == m then Some x else exchange_of m xs
of-push x m [] h = refl
of-push x m (y ∷ ys) h = grind (arith, of-push x m ys, eq-eqb, ne_eqb, cases_eq x.number.0 m, cases_eq y.number.0 m, cases_eq y.number.0 x.number.0)

pub of-drop : (e : ExchangeNo) (m : ℕ) (xs : List Exchange) → exchange_of m (filter (is_other e) xs) ≡ if e.0 == m then None else exchange_of m xs
of-drop e m [] = grind (arith, cases_eq e.0 m, eq-eqb, ne_eqb)
of-drop e m (x ∷ xs) = grind (arith, of-drop e m xs, eq-eqb, ne_eqb, cases_eq e.0 m, cases_eq x.number.0 m, cases_eq x.number.0 e.0)

pub changed-number : (e : ExchangeNo) (held : Held) (stamp : ℕ) (x : Exchange) → (changed_one e held stamp x).number ≡ x.number
changed-number e held stamp x = grind (arith, cases_eq x.number.0 e.0)

pub of-change : (e : ExchangeNo) (held : Held) (stamp m : ℕ) (xs : List Exchange) → exchange_of m (changed e held stamp xs) ≡ changed_at e held stamp (exchange_of m xs)
of-change e held stamp m [] = refl
of-change e held stamp m (x ∷ xs) = grind (arith, of-change e held stamp m xs, changed-number e held stamp x, eq-eqb, ne_eqb, cases_eq x.number.0 m)

pub apart-push : (x : Exchange) (xs : List Exchange) → exchange_of x.number.0 xs ≡ None → IsApart xs → IsApart (xs ++ x ∷ [])
apart-push x [] h i = (refl, tt)
apart-push x (y ∷ ys) h i = grind (arith, apart-push x ys, of-push x y.number.0 ys, i.0, i.1, eq-eqb, ne_eqb, cases_eq x.number.0 y.number.0)

pub apart-drop : (e : ExchangeNo) (xs : List Exchange) → IsApart xs → IsApart (filter (is_other e) xs)
apart-drop e [] i = tt
apart-drop e (x ∷ xs) i = grind (arith, apart-drop e xs i.1, of-drop e x.number.0 xs, i.0, eq-eqb, ne_eqb, cases_eq x.number.0 e.0)

pub apart-change : (e : ExchangeNo) (held : Held) (stamp : ℕ) (xs : List Exchange) → IsApart xs → IsApart (changed e held stamp xs)
apart-change e held stamp [] i = tt
apart-change e held stamp (x ∷ xs) i = grind (arith, apart-change e held stamp xs i.1, of-change e held stamp x.number.0 xs, changed-number e held stamp x, i.0)

pub of-number : (m : ℕ) (xs : List Exchange) (x : Exchange) → exchange_of m xs ≡ Some x → x.number.0 ≡ m
of-number m [] x h = absurd (cc h)
of-number m (y ∷ ys) x h = grind (arith, of-number m ys x, eq-eqb, ne_eqb, cases_eq y.number.0 m)

-- where no two have one number, each is found under its own
pub in_at : (x : Exchange) (xs : List Exchange) → IsApart xs → IsAmong x xs → exchange_of x.number.0 xs ≡ Some x
in_at x [] i h = absurd h
in_at x (y ∷ ys) i h = grind (arith, in_at x ys i.1, i.0, eq-eqb, ne_eqb, cases_eq y.number.0 x.number.0)

pub at_in : (m : ℕ) (xs : List Exchange) (x : Exchange) → exchange_of m xs ≡ Some x → IsAmong x xs
at_in m [] x h = absurd (cc h)
at_in m (y ∷ ys) x h = grind (arith, at_in m ys x, eq-eqb, ne_eqb, cases_eq y.number.0 m)
