-- The exchange that has been idle longest, and whether one is begun, told by those in the list.
use Rattle.std.proofs.Common.{ℕ, ◌≡◌, ◌≤◌, Bool, true, false, Option, Some, None, List, [], ◌∷◌}
use Rattle.std.proofs.Common.{inl, inr, fold, refl, subst, sym, ◌∙◌, arith}
use Rattle.std.specs.Prelude.{⊤, ◌⊎◌, if◌then◌else◌, ◌==◌, ◌&&◌, ◌||◌, not, nat_lt}
use Rattle.std.proofs.lemmas.Bool.{eqb-true, eq-eqb, and_from, or_parts, true≢false, and_parts}
use Rattle.std.proofs.lemmas.Bool.Decides.{nat_tests}
use Rattle.async_sessions.specs.declared.sessions.Exchange.{Exchange}
use Rattle.async_sessions.specs.declared.sessions.Held.{Held}
use Rattle.async_sessions.specs.declared.sessions.Held.TheVariants.{By, Idle}
use Rattle.async_sessions.specs.Sessions.{same_held, in_session, sooner_idle, first_idle}
use Rattle.async_sessions.specs.Sessions.{is_begun_in, any_begun}
use Rattle.async_sessions.specs.SessionLaws.{IsAmong, IsBegun, IsIdleOf, HasNoIdle, IsLongestIdle}
use Rattle.async_sessions.specs.SessionLaws.{HasNoneBegun, HasOneBegun}

-- whether the exchange is one of those that the search is about
abbrev passes : Option ℕ → Exchange → Bool
passes s x = same_held x.held Idle && in_session s x

idle_passes : (s : Option ℕ) (x : Exchange) → x.held ≡ Idle → in_session s x ≡ true → passes s x ≡ true
idle_passes s x i j = and_from (same_held x.held Idle) (in_session s x) (rw i refl) j

-- what one step chooses
choose_one : (s : Option ℕ) (best : Option Exchange) (y x : Exchange) → sooner_idle s best y ≡ Some x → (best ≡ Some x) ⊎ ((y ≡ x) × (x.held ≡ Idle) × (in_session s x ≡ true))
choose_one s best y x h = grind arith

chosen_in : (s : Option ℕ) (best : Option Exchange) (xs : List Exchange) (x : Exchange) → fold (sooner_idle s) best xs ≡ Some x → (best ≡ Some x) ⊎ (IsAmong x xs × (x.held ≡ Idle) × (in_session s x ≡ true))
chosen_in s best [] x h = grind arith
chosen_in s best (y ∷ ys) x h = grind (arith, chosen_in s (sooner_idle s best y) ys x h, choose_one s best y x)

pub first_in : (s : Option ℕ) (xs : List Exchange) (x : Exchange) → first_idle s xs ≡ Some x → IsAmong x xs × (x.held ≡ Idle) × (in_session s x ≡ true)
first_in s xs x h = grind (arith, chosen_in s None xs x h)

-- the stamp is at most that of the best before, if there was one
abbrev IsLeast : Exchange → Option Exchange → Type 0
IsLeast x None = ⊤
IsLeast x (Some best) = x.stamp ≤ best.stamp

less : (s : Option ℕ) (best : Option Exchange) (y x : Exchange) → IsLeast x (sooner_idle s best y) → IsLeast x best × (passes s y ≡ true → x.stamp ≤ y.stamp)
less s None y x h = (tt, less_none (passes s y) h) where
  less_none : (b : Bool) → IsLeast x (if b then Some y else None) → b ≡ true → x.stamp ≤ y.stamp
  less_none true g is = g
  less_none false g is = absurd (cc is)
less s (Some best) y x h = less_some (passes s y) (nat_lt y.stamp best.stamp) refl h where
  less_some : (b c : Bool) → nat_lt y.stamp best.stamp ≡ c → IsLeast x (if b then (if c then Some y else Some best) else Some best) → (x.stamp ≤ best.stamp) × (b ≡ true → x.stamp ≤ y.stamp)
  less_some true true is g = (grind (arith, nat_tests), λ e. g)
  less_some true false is g = (g, λ e. grind (arith, nat_tests))
  less_some false c is g = (g, λ e. absurd (cc e))

least_of : (s : Option ℕ) (best : Option Exchange) (xs : List Exchange) (x : Exchange) → IsLeast x (fold (sooner_idle s) best xs) → IsLeast x best × ((y : Exchange) → IsAmong y xs → passes s y ≡ true → x.stamp ≤ y.stamp)
least_of s best [] x h = (h, λ y among is. absurd among)
least_of s best (z ∷ xs) x h =
    let rest = least_of s (sooner_idle s best z) xs x h in
    let here = less s best z x rest.0 in
    (here.0, of_each here.1 rest.1) where
      of_each : (passes s z ≡ true → x.stamp ≤ z.stamp) → ((y : Exchange) → IsAmong y xs → passes s y ≡ true → x.stamp ≤ y.stamp) → (y : Exchange) → (z ≡ y) ⊎ IsAmong y xs → passes s y ≡ true → x.stamp ≤ y.stamp
      of_each here rest y (inl same) is = rw (← same) (here (rw same is))
      of_each here rest y (inr among) is = rest y among is

first_least : (s : Option ℕ) (xs : List Exchange) (x : Exchange) → first_idle s xs ≡ Some x → (y : Exchange) → IsIdleOf s xs y → x.stamp ≤ y.stamp
first_least s xs x e y one =
    let own : x.stamp ≤ x.stamp = omega arith in
    (least_of s None xs x (subst (λ (o : Option Exchange). IsLeast x o) (sym e) own)).1 y one.among (idle_passes s y one.idle one.session)

-- a search that begins with one finds one
some_found : (s : Option ℕ) (best : Exchange) (xs : List Exchange) → fold (sooner_idle s) (Some best) xs ≡ None → ⊥
some_found s best [] e = cc e
some_found s best (y ∷ xs) e = some_by (passes s y) (nat_lt y.stamp best.stamp) (λ z. some_found s z xs) e where
  some_by : (b c : Bool) → ((z : Exchange) → fold (sooner_idle s) (Some z) xs ≡ None → ⊥) → fold (sooner_idle s) (if b then (if c then Some y else Some best) else Some best) xs ≡ None → ⊥
  some_by true true more h = more y h
  some_by true false more h = more best h
  some_by false c more h = more best h

none_of : (s : Option ℕ) (xs : List Exchange) → first_idle s xs ≡ None → (y : Exchange) → IsAmong y xs → passes s y ≡ true → ⊥
none_of s [] e y among is = absurd among
none_of s (z ∷ xs) e y among is = none_by (passes s z) refl e (λ h. none_of s xs h y) among where
  none_by : (b : Bool) → passes s z ≡ b → fold (sooner_idle s) (if b then Some z else None) xs ≡ None → (fold (sooner_idle s) None xs ≡ None → IsAmong y xs → passes s y ≡ true → ⊥) → (z ≡ y) ⊎ IsAmong y xs → ⊥
  none_by true was h more there = some_found s z xs h
  none_by false was h more (inl same) = let no : passes s y ≡ false = rw (← same) was in true≢false (sym is ∙ no)
  none_by false was h more (inr there) = more h there is

pub none_idle : (s : Option ℕ) (xs : List Exchange) → first_idle s xs ≡ None → HasNoIdle s xs
none_idle s xs e x one = none_of s xs e x one.among (idle_passes s x one.idle one.session)

pub longest_idle : (s : Option ℕ) (xs : List Exchange) (x : Exchange) → first_idle s xs ≡ Some x → IsLongestIdle s xs x.number x.phone
longest_idle s xs x e =
    let found = first_in s xs x e in
    record {
      exchange = x;
      is_idle = record { among = found.0; idle = found.1; session = found.2 };
      least = first_least s xs x e;
      named = refl;
      over = refl;
    }

-- whether one is begun

held_begun : (h : Held) → not (same_held h Idle) ≡ true → IsBegun h
held_begun (By f) e = tt
held_begun Idle e = absurd (cc e)

begun_held : (h : Held) → IsBegun h → not (same_held h Idle) ≡ true
begun_held (By f) b = refl
begun_held Idle b = absurd b

any_none : (s : ℕ) (xs : List Exchange) (x : Exchange) → any_begun s xs ≡ false → IsAmong x xs → is_begun_in s x ≡ true → ⊥
any_none s [] x e among is = absurd among
any_none s (y ∷ ys) x e (inl same) is =
    let no : is_begun_in s x ≡ false = rw (← same) ((or_parts (is_begun_in s y) (any_begun s ys) e).0) in
    true≢false (sym is ∙ no)
any_none s (y ∷ ys) x e (inr among) is = any_none s ys x ((or_parts (is_begun_in s y) (any_begun s ys) e).1) among is

pub none_begun : (s : ℕ) (xs : List Exchange) → any_begun s xs ≡ false → HasNoneBegun s xs
none_begun s xs e x one = any_none s xs x e one.among (and_from (x.session == s) (not (same_held x.held Idle)) (eq-eqb x.session s one.session) (begun_held x.held one.begun))

pub one_begun : (s : ℕ) (xs : List Exchange) → any_begun s xs ≡ true → HasOneBegun s xs
one_begun s [] e = absurd (cc e)
one_begun s (y ∷ ys) e = one_by (is_begun_in s y) refl (λ h. one_begun s ys h) e where
  one_by : (b : Bool) → is_begun_in s y ≡ b → (any_begun s ys ≡ true → HasOneBegun s ys) → (b || any_begun s ys) ≡ true → HasOneBegun s (y ∷ ys)
  one_by true is more h =
      let parts = and_parts (y.session == s) (not (same_held y.held Idle)) is in
      (y, record { among = inl refl; session = eqb-true y.session s parts.0; begun = held_begun y.held parts.1 })
  one_by false is more h =
      let one = more h in
      (one.0, record { among = inr one.1.among; session = one.1.session; begun = one.1.begun })
