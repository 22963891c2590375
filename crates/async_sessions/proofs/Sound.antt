-- Each call keeps what holds of sessions and exchanges.
use Rattle.std.proofs.Common.{ℕ, ◌≡◌, ◌≢◌, ◌<◌, ◌+◌, Bool, true, false, Option, Some, None, List}
use Rattle.std.proofs.Common.{[], ◌∷◌, ◌++◌, inl, inr, refl, ap, subst, sym, ◌∙◌, arith}
use Rattle.std.specs.Prelude.{◌⊎◌, if◌then◌else◌, ◌==◌, ◌||◌}
use Rattle.std.proofs.lemmas.Bool.{cases_eq, eq-eqb, ne_eqb, eqb-true}
use Rattle.ipc_ids.specs.declared.numbers.FibrilNo.{FibrilNo}
use Rattle.ipc_ids.specs.declared.numbers.ExchangeNo.{ExchangeNo}
use Rattle.ipc_ids.specs.declared.message.ExchangeMode.{ExchangeMode}
use Rattle.ipc_ids.specs.declared.message.ExchangeMode.TheVariants.{Atomic, Serialize, Parallel}
use Rattle.async_sessions.specs.declared.sessions.Session.{Session}
use Rattle.async_sessions.specs.declared.sessions.Exchange.{Exchange}
use Rattle.async_sessions.specs.declared.sessions.Held.{Held}
use Rattle.async_sessions.specs.declared.sessions.Held.TheVariants.{By, Idle}
use Rattle.async_sessions.specs.declared.sessions.Close.TheVariants as close
use Rattle.async_sessions.specs.Sessions.{Open, no_sessions, session_at, mode_answer, exchange_at, exchange_of}
use Rattle.async_sessions.specs.Sessions.{first_idle, any_begun, held_by, new_exchange, added}
use Rattle.async_sessions.specs.Sessions.{changed, dropped, ended, begun_again}
use Rattle.async_sessions.specs.Sessions.{begun_after, begin_in, begin_answer, begin_after}
use Rattle.ipc_ids.specs.Codes.{ebusy}
use Rattle.async_sessions.specs.Sessions.{serial_of, short_of, unless_idle, idle_of, with_session}
use Rattle.async_sessions.specs.Sessions.{make_after, end_after, close_idle, close_answer, close_after}
use Rattle.async_sessions.specs.SessionLaws.{IsBegun, HasNoneBegun, HasNoIdle, IsSound}
use Rattle.async_sessions.proofs.Lookups.{find_exchange, IsApart, apart_of, of_apart}
use Rattle.async_sessions.proofs.Lookups.{changed_at, of-push, of-drop, of-change, of-number, in_at}
use Rattle.async_sessions.proofs.Lookups.{at_in, apart-push, apart-drop, apart-change}
use Rattle.async_sessions.proofs.Searches.{first_in, none_idle, none_begun}
use Rattle.async_sessions.proofs.Answers.{held_found, session_others}

-- what holds, by plain numbers
record Holds (o : Open) : Type 0 where
  apart : IsApart o.exchanges
  numbered : (e : ℕ) (x : Exchange) → exchange_of e o.exchanges ≡ Some x → e < o.next_number
  modes : (e : ℕ) (x : Exchange) → exchange_of e o.exchanges ≡ Some x → mode_answer (session_at o x.session) ≡ Some x.mode
  parallel : (e : ℕ) (x : Exchange) → exchange_of e o.exchanges ≡ Some x → x.held ≡ Idle → x.mode ≡ Parallel
  serial : (d e : ℕ) (x y : Exchange) → exchange_of d o.exchanges ≡ Some x → exchange_of e o.exchanges ≡ Some y → IsBegun x.held → IsBegun y.held → x.session ≡ y.session → x.mode ≡ Serialize → d ≡ e
  stamped : (e : ℕ) (x : Exchange) → exchange_of e o.exchanges ≡ Some x → x.held ≡ Idle → x.stamp < o.next_stamp
  stamps : (d e : ℕ) (x y : Exchange) → exchange_of d o.exchanges ≡ Some x → exchange_of e o.exchanges ≡ Some y → x.held ≡ Idle → y.held ≡ Idle → x.stamp ≡ y.stamp → d ≡ e

abbrev number : ℕ → ExchangeNo
number e = record { 0 = e }

to_at : (e : ℕ) (xs : List Exchange) (x : Exchange) → exchange_of e xs ≡ Some x → exchange_at (number e) xs ≡ Some x
to_at e xs x h = find_exchange (number e) xs ∙ h

to_of : (e : ExchangeNo) (xs : List Exchange) (x : Exchange) → exchange_at e xs ≡ Some x → exchange_of e.0 xs ≡ Some x
to_of e xs x h = sym (find_exchange e xs) ∙ h

holds : (o : Open) → IsSound o → Holds o
holds o k = record {
  apart = apart_of o.exchanges k.apart;
  numbered = λ e x h. k.numbered (number e) x (to_at e o.exchanges x h);
  modes = λ e x h. k.modes (number e) x (to_at e o.exchanges x h);
  parallel = λ e x h. k.parallel (number e) x (to_at e o.exchanges x h);
  serial = λ d e x y h i. k.serial (number d) (number e) x y (to_at d o.exchanges x h) (to_at e o.exchanges y i);
  stamped = λ e x h. k.stamped (number e) x (to_at e o.exchanges x h);
  stamps = λ d e x y h i. k.stamps (number d) (number e) x y (to_at d o.exchanges x h) (to_at e o.exchanges y i);
}

sound : (o : Open) → Holds o → IsSound o
sound o k = record {
  apart = of_apart o.exchanges k.apart;
  numbered = λ e x h. k.numbered e.0 x (to_of e o.exchanges x h);
  modes = λ e x h. k.modes e.0 x (to_of e o.exchanges x h);
  parallel = λ e x h. k.parallel e.0 x (to_of e o.exchanges x h);
  serial = λ d e x y h i. k.serial d.0 e.0 x y (to_of d o.exchanges x h) (to_of e o.exchanges y i);
  stamped = λ e x h. k.stamped e.0 x (to_of e o.exchanges x h);
  stamps = λ d e x y h i. k.stamps d.0 e.0 x y (to_of d o.exchanges x h) (to_of e o.exchanges y i);
}

pub sound_none : IsSound no_sessions
sound_none = record {
  apart = tt;
  numbered = λ e x h. absurd (cc h);
  modes = λ e x h. absurd (cc h);
  parallel = λ e x h i. absurd (cc h);
  serial = λ d e x y h i a b s m. absurd (cc h);
  stamped = λ e x h i. absurd (cc h);
  stamps = λ d e x y h i a b s. absurd (cc h);
}

-- an exchange leaves

stays : (e : ExchangeNo) (d : ℕ) (o : Open) (x : Exchange) → exchange_of d (dropped o e).exchanges ≡ Some x → exchange_of d o.exchanges ≡ Some x
stays e d o x h = stays_by (e.0 == d) (sym (of-drop e d o.exchanges) ∙ h) where
  stays_by : (b : Bool) → (if b then None else exchange_of d o.exchanges) ≡ Some x → exchange_of d o.exchanges ≡ Some x
  stays_by true i = absurd (cc i)
  stays_by false i = i

holds_dropped : (o : Open) (e : ExchangeNo) → Holds o → Holds (dropped o e)
holds_dropped o e k = record {
  apart = apart-drop e o.exchanges k.apart;
  numbered = λ d x h. k.numbered d x (stays e d o x h);
  modes = λ d x h. k.modes d x (stays e d o x h);
  parallel = λ d x h. k.parallel d x (stays e d o x h);
  serial = λ c d x y h i. k.serial c d x y (stays e c o x h) (stays e d o y i);
  stamped = λ d x h. k.stamped d x (stays e d o x h);
  stamps = λ c d x y h i. k.stamps c d x y (stays e c o x h) (stays e d o y i);
}

-- a new exchange is begun

unused : (o : Open) → Holds o → exchange_of o.next_number o.exchanges ≡ None
unused o k = unused_at (exchange_of o.next_number o.exchanges) refl where
  unused_at : (x : Option Exchange) → exchange_of o.next_number o.exchanges ≡ x → x ≡ None
  unused_at None e = refl
  unused_at (Some x) e = let less = k.numbered o.next_number x e in absurd (omega arith)

which_pushed : (n : Exchange) (d : ℕ) (xs : List Exchange) (x : Exchange) → exchange_of n.number.0 xs ≡ None → exchange_of d (xs ++ n ∷ []) ≡ Some x → (exchange_of d xs ≡ Some x) ⊎ ((d ≡ n.number.0) × (n ≡ x))
which_pushed n d xs x absent h = pushed_by (n.number.0 == d) refl (sym (of-push n d xs absent) ∙ h) where
  pushed_by : (b : Bool) → (n.number.0 == d) ≡ b → (if b then Some n else exchange_of d xs) ≡ Some x → (exchange_of d xs ≡ Some x) ⊎ ((d ≡ n.number.0) × (n ≡ x))
  pushed_by true is i = inr (sym (eqb-true n.number.0 d is), cc i)
  pushed_by false is i = inl i

same_mode : (m n : ExchangeMode) (x y : Option ExchangeMode) → x ≡ y → x ≡ Some m → y ≡ Some n → m ≡ n
same_mode m n x y e h i = cc (sym h ∙ (e ∙ i))

-- a serialized session without a begun exchange
abbrev IsFree : Open → ℕ → ExchangeMode → Type 0
IsFree o s m = m ≡ Serialize → HasNoneBegun s o.exchanges

not_serial : (o : Open) (s : ℕ) (m : ExchangeMode) (d : ℕ) (x : Exchange) → Holds o → mode_answer (session_at o s) ≡ Some m → IsFree o s m → exchange_of d o.exchanges ≡ Some x → IsBegun x.held → x.session ≡ s → x.mode ≡ Serialize → ⊥
not_serial o s m d x k is free at begun here serial =
    let same : x.mode ≡ m = same_mode x.mode m (mode_answer (session_at o x.session)) (mode_answer (session_at o s)) (ap (λ (r : ℕ). mode_answer (session_at o r)) here) (k.modes d x at) is in
    free (sym same ∙ serial) x (record { among = at_in d o.exchanges x at; session = here; begun = begun })

-- the exchange e after a new one came: it was there, or it is the new one
abbrev IsOldOrNew : Open → Exchange → ℕ → Exchange → Type 0
IsOldOrNew o n e x = (exchange_of e o.exchanges ≡ Some x) ⊎ ((e ≡ o.next_number) × (n ≡ x))

holds_added : (o : Open) (f : FibrilNo) (s phone : ℕ) (m : ExchangeMode) → Holds o → mode_answer (session_at o s) ≡ Some m → IsFree o s m → Holds (added o f s phone m)
holds_added o f s phone m k is free = record {
  apart = apart-push (new_exchange o f s phone m) o.exchanges absent k.apart;
  numbered = λ e x h. numbered e x (look e x h);
  modes = λ e x h. modes e x (look e x h);
  parallel = λ e x h i. parallel e x (look e x h) i;
  serial = λ d e x y h i a b c g. serial d e x y (look d x h) (look e y i) a b c g;
  stamped = λ e x h i. stamped e x (look e x h) i;
  stamps = λ d e x y h i a b c. stamps d e x y (look d x h) (look e y i) a b c;
} where
  absent : exchange_of o.next_number o.exchanges ≡ None
  absent = unused o k

  look : (e : ℕ) (x : Exchange) → exchange_of e (o.exchanges ++ new_exchange o f s phone m ∷ []) ≡ Some x → IsOldOrNew o (new_exchange o f s phone m) e x
  look e x h = which_pushed (new_exchange o f s phone m) e o.exchanges x absent h

  numbered : (e : ℕ) (x : Exchange) → IsOldOrNew o (new_exchange o f s phone m) e x → e < o.next_number + 1
  numbered e x (inl h) = let less = k.numbered e x h in omega arith
  numbered e x (inr h) = let same = h.0 in omega arith

  modes : (e : ℕ) (x : Exchange) → IsOldOrNew o (new_exchange o f s phone m) e x → mode_answer (session_at o x.session) ≡ Some x.mode
  modes e x (inl h) = k.modes e x h
  modes e x (inr h) = subst (λ (z : Exchange). mode_answer (session_at o z.session) ≡ Some z.mode) h.1 is

  not_idle : (x : Exchange) → new_exchange o f s phone m ≡ x → x.held ≡ Idle → ⊥
  not_idle x same idle = let here : By f ≡ Idle = ap (λ (z : Exchange). z.held) same ∙ idle in absurd (cc here)

  parallel : (e : ℕ) (x : Exchange) → IsOldOrNew o (new_exchange o f s phone m) e x → x.held ≡ Idle → x.mode ≡ Parallel
  parallel e x (inl h) i = k.parallel e x h i
  parallel e x (inr h) i = absurd (not_idle x h.1 i)

  serial : (d e : ℕ) (x y : Exchange) → IsOldOrNew o (new_exchange o f s phone m) d x → IsOldOrNew o (new_exchange o f s phone m) e y → IsBegun x.held → IsBegun y.held → x.session ≡ y.session → x.mode ≡ Serialize → d ≡ e
  serial d e x y (inl h) (inl i) a b c g = k.serial d e x y h i a b c g
  serial d e x y (inl h) (inr i) a b c g =
      let here : x.session ≡ s = c ∙ sym (ap (λ (z : Exchange). z.session) i.1) in
      absurd (not_serial o s m d x k is free h a here g)
  serial d e x y (inr h) (inl i) a b c g =
      let here : y.session ≡ s = sym c ∙ sym (ap (λ (z : Exchange). z.session) h.1) in
      let new : m ≡ Serialize = ap (λ (z : Exchange). z.mode) h.1 ∙ g in
      absurd (free new y (record { among = at_in e o.exchanges y i; session = here; begun = b }))
  serial d e x y (inr h) (inr i) a b c g = h.0 ∙ sym i.0

  stamped : (e : ℕ) (x : Exchange) → IsOldOrNew o (new_exchange o f s phone m) e x → x.held ≡ Idle → x.stamp < o.next_stamp
  stamped e x (inl h) i = k.stamped e x h i
  stamped e x (inr h) i = absurd (not_idle x h.1 i)

  stamps : (d e : ℕ) (x y : Exchange) → IsOldOrNew o (new_exchange o f s phone m) d x → IsOldOrNew o (new_exchange o f s phone m) e y → x.held ≡ Idle → y.held ≡ Idle → x.stamp ≡ y.stamp → d ≡ e
  stamps d e x y (inl h) (inl i) a b c = k.stamps d e x y h i a b c
  stamps d e x y (inl h) (inr i) a b c = absurd (not_idle y i.1 b)
  stamps d e x y (inr h) i a b c = absurd (not_idle x h.1 a)

-- one exchange is held otherwise

-- the exchange d is the one that was changed
record IsChanged (e : ExchangeNo) (by : Held) (at : ℕ) (xs : List Exchange) (d : ℕ) (y : Exchange) : Type 0 where
  before : Exchange
  here : d ≡ e.0
  there : exchange_of d xs ≡ Some before
  now : record before { held = by; stamp = at } ≡ y

-- the exchange d after a change of e: it is another, or it is e
abbrev WasOf : ExchangeNo → Held → ℕ → List Exchange → ℕ → Exchange → Type 0
WasOf e held stamp xs d y = ((d ≢ e.0) × (exchange_of d xs ≡ Some y)) ⊎ IsChanged e held stamp xs d y

which_changed : (e : ExchangeNo) (held : Held) (stamp : ℕ) (xs : List Exchange) (d : ℕ) (y : Exchange) → exchange_of d (changed e held stamp xs) ≡ Some y → WasOf e held stamp xs d y
which_changed e held stamp xs d y h = changed_look (exchange_of d xs) refl (sym (of-change e held stamp d xs) ∙ h) where
  changed_here : (z : Exchange) (b : Bool) → exchange_of d xs ≡ Some z → (z.number.0 == e.0) ≡ b → (if b then record z { held = held; stamp = stamp } else z) ≡ y → (d ≡ e.0) ⊎ (d ≢ e.0) → WasOf e held stamp xs d y
  changed_here z true i is g own = inr (record { before = z; here = sym (of-number d xs z i) ∙ eqb-true z.number.0 e.0 is; there = i; now = g })
  changed_here z false i is g (inr other) = inl (other, i ∙ ap Some g)
  changed_here z false i is g (inl same) = absurd (cc (sym is ∙ eq-eqb z.number.0 e.0 (of-number d xs z i ∙ same)))

  changed_look : (z : Option Exchange) → exchange_of d xs ≡ z → changed_at e held stamp z ≡ Some y → WasOf e held stamp xs d y
  changed_look None i g = absurd (cc g)
  changed_look (Some z) i g = changed_here z (z.number.0 == e.0) i refl (cc g) (cases_eq d e.0)

module _ (o : Open) (e : ExchangeNo) (held : Held) (stamp : ℕ) (k : Holds o) where
  old_number : (d : ℕ) (y : Exchange) → WasOf e held stamp o.exchanges d y → d < o.next_number
  old_number d y (inl h) = k.numbered d y h.1
  old_number d y (inr h) = k.numbered d h.before h.there

  old_modes : (d : ℕ) (y : Exchange) → WasOf e held stamp o.exchanges d y → mode_answer (session_at o y.session) ≡ Some y.mode
  old_modes d y (inl h) = k.modes d y h.1
  old_modes d y (inr h) = subst (λ (z : Exchange). mode_answer (session_at o z.session) ≡ Some z.mode) h.now (k.modes d h.before h.there)

-- the mode of the exchange that was changed
mode_was : (e : ExchangeNo) (held : Held) (stamp : ℕ) (xs : List Exchange) (x : Exchange) (d : ℕ) (z y : Exchange) → exchange_of e.0 xs ≡ Some x → d ≡ e.0 → exchange_of d xs ≡ Some z → record z { held = held; stamp = stamp } ≡ y → x.mode ≡ y.mode
mode_was e held stamp xs x d z y at same there is =
    let one : exchange_of e.0 xs ≡ Some z = rw (← same) there in
    let was : x ≡ z = cc (sym at ∙ one) in
    ap (λ (w : Exchange). w.mode) was ∙ ap (λ (w : Exchange). w.mode) is

holds_again : (o : Open) (f : FibrilNo) (e : ExchangeNo) (x : Exchange) → Holds o → exchange_of e.0 o.exchanges ≡ Some x → x.mode ≡ Parallel → Holds (begun_again o f e)
holds_again o f e x k at wide = record {
  apart = apart-change e (By f) 0 o.exchanges k.apart;
  numbered = λ d y h. old_number o e (By f) 0 k d y (look d y h);
  modes = λ d y h. old_modes o e (By f) 0 k d y (look d y h);
  parallel = λ d y h i. let one = unchanged d y (look d y h) i in k.parallel d y one i;
  serial = λ c d y z h i a b s m.
      let serial_too : z.mode ≡ Serialize = same_mode z.mode Serialize (mode_answer (session_at o z.session)) (mode_answer (session_at o y.session)) (ap (λ (r : ℕ). mode_answer (session_at o r)) (sym s)) (old_modes o e (By f) 0 k d z (look d z i)) (old_modes o e (By f) 0 k c y (look c y h) ∙ ap Some m) in
      k.serial c d y z (narrow c y (look c y h) m) (narrow d z (look d z i) serial_too) a b s m;
  stamped = λ d y h i. let one = unchanged d y (look d y h) i in k.stamped d y one i;
  stamps = λ c d y z h i a b s. k.stamps c d y z (unchanged c y (look c y h) a) (unchanged d z (look d z i) b) a b s;
} where
  look : (d : ℕ) (y : Exchange) → exchange_of d (changed e (By f) 0 o.exchanges) ≡ Some y → WasOf e (By f) 0 o.exchanges d y
  look d y h = which_changed e (By f) 0 o.exchanges d y h

  unchanged : (d : ℕ) (y : Exchange) → WasOf e (By f) 0 o.exchanges d y → y.held ≡ Idle → exchange_of d o.exchanges ≡ Some y
  unchanged d y (inl h) i = h.1
  unchanged d y (inr h) i = let held : By f ≡ Idle = ap (λ (w : Exchange). w.held) h.now ∙ i in absurd (cc held)

  narrow : (d : ℕ) (y : Exchange) → WasOf e (By f) 0 o.exchanges d y → y.mode ≡ Serialize → exchange_of d o.exchanges ≡ Some y
  narrow d y (inl h) m = h.1
  narrow d y (inr h) m = let mode : x.mode ≡ y.mode = mode_was e (By f) 0 o.exchanges x d h.before y at h.here h.there h.now in let no : Parallel ≡ Serialize = sym wide ∙ (mode ∙ m) in absurd (cc no)

holds_idle : (o : Open) (e : ExchangeNo) (x : Exchange) → Holds o → exchange_of e.0 o.exchanges ≡ Some x → x.mode ≡ Parallel → Holds (ended o e Parallel)
holds_idle o e x k at wide = record {
  apart = apart-change e Idle o.next_stamp o.exchanges k.apart;
  numbered = λ d y h. old_number o e Idle o.next_stamp k d y (look d y h);
  modes = λ d y h. old_modes o e Idle o.next_stamp k d y (look d y h);
  parallel = λ d y h i. parallel d y (look d y h) i;
  serial = λ c d y z h i a b s m. k.serial c d y z (still c y (look c y h) a) (still d z (look d z i) b) a b s m;
  stamped = λ d y h i. stamped d y (look d y h) i;
  stamps = λ c d y z h i a b s. stamps c d y z (look c y h) (look d z i) a b s;
} where
  look : (d : ℕ) (y : Exchange) → exchange_of d (changed e Idle o.next_stamp o.exchanges) ≡ Some y → WasOf e Idle o.next_stamp o.exchanges d y
  look d y h = which_changed e Idle o.next_stamp o.exchanges d y h

  parallel : (d : ℕ) (y : Exchange) → WasOf e Idle o.next_stamp o.exchanges d y → y.held ≡ Idle → y.mode ≡ Parallel
  parallel d y (inl h) i = k.parallel d y h.1 i
  parallel d y (inr h) i = sym (mode_was e Idle o.next_stamp o.exchanges x d h.before y at h.here h.there h.now) ∙ wide

  still : (d : ℕ) (y : Exchange) → WasOf e Idle o.next_stamp o.exchanges d y → IsBegun y.held → exchange_of d o.exchanges ≡ Some y
  still d y (inl h) b = h.1
  still d y (inr h) b = absurd (subst IsBegun (sym (ap (λ (w : Exchange). w.held) h.now)) b)

  stamped : (d : ℕ) (y : Exchange) → WasOf e Idle o.next_stamp o.exchanges d y → y.held ≡ Idle → y.stamp < o.next_stamp + 1
  stamped d y (inl h) i = let less = k.stamped d y h.1 i in omega arith
  stamped d y (inr h) i = let same : o.next_stamp ≡ y.stamp = ap (λ (w : Exchange). w.stamp) h.now in omega arith

  stamps : (c d : ℕ) (y z : Exchange) → WasOf e Idle o.next_stamp o.exchanges c y → WasOf e Idle o.next_stamp o.exchanges d z → y.held ≡ Idle → z.held ≡ Idle → y.stamp ≡ z.stamp → c ≡ d
  stamps c d y z (inl h) (inl i) a b s = k.stamps c d y z h.1 i.1 a b s
  stamps c d y z (inl h) (inr i) a b s = let less = k.stamped c y h.1 a in let same : o.next_stamp ≡ z.stamp = ap (λ (w : Exchange). w.stamp) i.now in absurd (omega arith)
  stamps c d y z (inr h) (inl i) a b s = let less = k.stamped d z i.1 b in let same : o.next_stamp ≡ y.stamp = ap (λ (w : Exchange). w.stamp) h.now in absurd (omega arith)
  stamps c d y z (inr h) (inr i) a b s = h.here ∙ sym i.here

-- a session is put in use, or goes

holds_session : (o : Open) (s : ℕ) (v : Option Session) → Holds o → ((e : ℕ) (x : Exchange) → exchange_of e o.exchanges ≡ Some x → x.session ≢ s) → Holds (with_session o s v)
holds_session o s v k none = record {
  apart = k.apart;
  numbered = k.numbered;
  modes = λ e x h. ap mode_answer (session_others o s x.session v (none e x h)) ∙ k.modes e x h;
  parallel = k.parallel;
  serial = k.serial;
  stamped = k.stamped;
  stamps = k.stamps;
}

-- the calls

holds_made : (o : Open) (s phone : ℕ) (m : ExchangeMode) (x : Option Session) → Holds o → session_at o s ≡ x → Holds (make_after o s phone m x)
holds_made o s phone m (Some x) k is = k
holds_made o s phone m None k is = holds_session o s (Some (record { phone = phone; mode = m })) k (λ e x h here.
    let none : mode_answer (session_at o x.session) ≡ None = rw here (ap mode_answer is) in
    absurd (cc (sym none ∙ k.modes e x h)))

holds_fresh : (o : Open) (f : FibrilNo) (s phone : ℕ) (m : ExchangeMode) → Holds o → mode_answer (session_at o s) ≡ Some m → IsFree o s m → Holds (begun_after o f s (number o.next_number) phone m)
holds_fresh o f s phone m k is free = rw (eq-eqb o.next_number o.next_number refl) (holds_added o f s phone m k is free)

holds_taken : (o : Open) (f : FibrilNo) (s : ℕ) (m : ExchangeMode) (y : Exchange) → Holds o → first_idle (Some s) o.exchanges ≡ Some y → Holds (begun_after o f s y.number y.phone m)
holds_taken o f s m y k first =
    let found = first_in (Some s) o.exchanges y first in
    let at : exchange_of y.number.0 o.exchanges ≡ Some y = in_at y o.exchanges k.apart found.0 in
    let less = k.numbered y.number.0 y at in
    let old : (y.number.0 == o.next_number) ≡ false = ne_eqb y.number.0 o.next_number (λ same. omega arith) in
    rw old (holds_again o f y.number y k at (k.parallel y.number.0 y at found.1))

holds_short : (o : Open) (f : FibrilNo) (s : ℕ) (m : ExchangeMode) (y : Option Exchange) → Holds o → Holds (begin_after o f s (Some m) (short_of y))
holds_short o f s m (Some y) k = holds_dropped o y.number k
holds_short o f s m None k = k

holds_unless : (o : Open) (f : FibrilNo) (s : ℕ) (m : ExchangeMode) (x : Session) (short : Bool) → Holds o → Holds (begin_after o f s (Some m) (unless_idle o x short))
holds_unless o f s m x false k = k
holds_unless o f s m x true k = holds_short o f s m (first_idle None o.exchanges) k

holds_parallel : (o : Open) (f : FibrilNo) (s : ℕ) (m : ExchangeMode) (x : Session) (short : Bool) (y : Option Exchange) → Holds o → first_idle (Some s) o.exchanges ≡ y → Holds (begin_after o f s (Some m) (idle_of o short x y))
holds_parallel o f s m x short (Some y) k first = holds_taken o f s m y k first
holds_parallel o f s m x short None k first = holds_unless o f s m x short k

holds_serial : (o : Open) (f : FibrilNo) (s : ℕ) (x : Session) (b : Bool) → Holds o → mode_answer (session_at o s) ≡ Some Serialize → any_begun s o.exchanges ≡ b → Holds (begin_after o f s (Some Serialize) (serial_of o x b))
holds_serial o f s x false k is any = holds_fresh o f s x.phone Serialize k is (λ i. none_begun s o.exchanges any)
holds_serial o f s x true k is any = k

holds_in : (o : Open) (f : FibrilNo) (s : ℕ) (short : Bool) (x : Session) (m : ExchangeMode) → Holds o → mode_answer (session_at o s) ≡ Some m → Holds (begin_after o f s (Some m) (begin_in o s short x m))
holds_in o f s short x Atomic k is = holds_fresh o f s x.phone Atomic k is (λ i. absurd (cc i))
holds_in o f s short x Serialize k is = holds_serial o f s x (any_begun s o.exchanges) k is refl
holds_in o f s short x Parallel k is = holds_parallel o f s Parallel x short (first_idle (Some s) o.exchanges) k refl

holds_begun : (o : Open) (f : FibrilNo) (s : ℕ) (short : Bool) (x : Option Session) → Holds o → session_at o s ≡ x → Holds (begin_after o f s (mode_answer x) (begin_answer o s short x))
holds_begun o f s short None k is = k
holds_begun o f s short (Some x) k is = holds_in o f s short x x.mode k (ap mode_answer is)

holds_ended_as : (o : Open) (e : ExchangeNo) (x : Exchange) (m : ExchangeMode) → Holds o → exchange_of e.0 o.exchanges ≡ Some x → x.mode ≡ m → Holds (ended o e m)
holds_ended_as o e x Parallel k at is = holds_idle o e x k at is
holds_ended_as o e x Atomic k at is = holds_dropped o e k
holds_ended_as o e x Serialize k at is = holds_dropped o e k

holds_ended : (o : Open) (f : FibrilNo) (e : ExchangeNo) (y : Option Exchange) → Holds o → held_by f e o.exchanges ≡ y → Holds (end_after o e y)
holds_ended o f e None k is = k
holds_ended o f e (Some x) k is = holds_ended_as o e x x.mode k (to_of e o.exchanges x ((held_found f e o.exchanges x is).0)) refl

not_here : (o : Open) (s : ℕ) → HasNoneBegun s o.exchanges → HasNoIdle (Some s) o.exchanges → (e : ℕ) (x : Exchange) → exchange_of e o.exchanges ≡ Some x → x.session ≢ s
not_here o s begun idle e x at here = held_or x.held refl where
  held_or : (h : Held) → x.held ≡ h → ⊥
  held_or (By f) i = begun x (record { among = at_in e o.exchanges x at; session = here; begun = rw i tt })
  held_or Idle i = idle x (record { among = at_in e o.exchanges x at; idle = i; session = eq-eqb x.session s here })

holds_closed_idle : (o : Open) (s : ℕ) (x : Session) (y : Option Exchange) → Holds o → any_begun s o.exchanges ≡ false → first_idle (Some s) o.exchanges ≡ y → Holds (close_after o s (close_idle x y))
holds_closed_idle o s x (Some y) k none first = holds_dropped o y.number k
holds_closed_idle o s x None k none first = holds_session o s None k (not_here o s (none_begun s o.exchanges none) (none_idle (Some s) o.exchanges first))

holds_closed_by : (o : Open) (s : ℕ) (waiting : Bool) (x : Session) (b : Bool) → Holds o → any_begun s o.exchanges ≡ b → Holds (close_after o s (if waiting || b then close.Refused ebusy else close_idle x (first_idle (Some s) o.exchanges)))
holds_closed_by o s true x b k any = k
holds_closed_by o s false x true k any = k
holds_closed_by o s false x false k any = holds_closed_idle o s x (first_idle (Some s) o.exchanges) k any refl

holds_closed : (o : Open) (s : ℕ) (waiting : Bool) (x : Option Session) → Holds o → Holds (close_after o s (close_answer o s waiting x))
holds_closed o s waiting None k = k
holds_closed o s waiting (Some x) k = holds_closed_by o s waiting x (any_begun s o.exchanges) k refl

pub sound_made : (o : Open) (s phone : ℕ) (m : ExchangeMode) → IsSound o → IsSound (make_after o s phone m (session_at o s))
sound_made o s phone m k = sound (make_after o s phone m (session_at o s)) (holds_made o s phone m (session_at o s) (holds o k) refl)

pub sound_begun : (o : Open) (f : FibrilNo) (s : ℕ) (short : Bool) → IsSound o → IsSound (begin_after o f s (mode_answer (session_at o s)) (begin_answer o s short (session_at o s)))
sound_begun o f s short k = sound (begin_after o f s (mode_answer (session_at o s)) (begin_answer o s short (session_at o s))) (holds_begun o f s short (session_at o s) (holds o k) refl)

pub sound_connected : (o : Open) (f : FibrilNo) (s phone : ℕ) → IsSound o → mode_answer (session_at o s) ≡ Some Parallel → IsSound (added o f s phone Parallel)
sound_connected o f s phone k is = sound (added o f s phone Parallel) (holds_added o f s phone Parallel (holds o k) is (λ i. absurd (cc i)))

pub sound_ended : (o : Open) (f : FibrilNo) (e : ExchangeNo) → IsSound o → IsSound (end_after o e (held_by f e o.exchanges))
sound_ended o f e k = sound (end_after o e (held_by f e o.exchanges)) (holds_ended o f e (held_by f e o.exchanges) (holds o k) refl)

pub sound_closed : (o : Open) (s : ℕ) (waiting : Bool) → IsSound o → IsSound (close_after o s (close_answer o s waiting (session_at o s)))
sound_closed o s waiting k = sound (close_after o s (close_answer o s waiting (session_at o s))) (holds_closed o s waiting (session_at o s) (holds o k))
