-- Terms a begin and a close come to keeps the law of exchanges.
use Rattle.std.proofs.Common.{ℕ, ◌≡◌, Bool, true, false, Option, Some, None, List, ◌∷◌, refl, sym}
use Rattle.std.proofs.Common.{subst, arith}
use Rattle.std.specs.Prelude.{if◌then◌else◌, ◌||◌}
use Rattle.ipc_ids.specs.declared.numbers.FibrilNo.{FibrilNo}
use Rattle.ipc_ids.specs.declared.numbers.ExchangeNo.{ExchangeNo}
use Rattle.ipc_ids.specs.declared.message.ExchangeMode.{ExchangeMode}
use Rattle.ipc_ids.specs.declared.message.ExchangeMode.TheVariants.{Atomic, Serialize, Parallel}
use Rattle.async_sessions.specs.declared.sessions.Session.{Session}
use Rattle.async_sessions.specs.declared.sessions.Exchange.{Exchange}
use Rattle.async_sessions.specs.declared.sessions.Begin.TheVariants as begin
use Rattle.async_sessions.specs.declared.sessions.Close.{Close}
use Rattle.async_sessions.specs.declared.sessions.Close.TheVariants as close
use Rattle.async_sessions.specs.Sessions.{Open, session_at, mode_answer, first_idle, any_begun}
use Rattle.async_sessions.specs.Sessions.{begin_answer, begin_in, serial_of, idle_of, short_of, begun_after}
use Rattle.async_sessions.specs.Sessions.{dropped, close_answer, close_idle, close_after}
use Rattle.ipc_ids.specs.Facts.{Fact, Begins, Drops}
use Rattle.ipc_ids.proofs.Common.{is_same}
use Rattle.async_laws.specs.KeptExchanges.{KeptExchanges}
use Rattle.async_laws.proofs.ExchangeFacts.{begin_new, begin_again, drop_exchange, close_session}

-- a begin over the session's phone
begin_over_session : (p : List Fact) (o : Open) (f : FibrilNo) (s phone : ℕ) (e : ExchangeNo)
    (m : ExchangeMode) → KeptExchanges p o → mode_answer (session_at o s) ≡ Some m →
    (m ≡ Serialize → any_begun s o.exchanges ≡ false) → (m ≡ Parallel → ⊥) →
    e ≡ record { 0 = o.next_number } →
    KeptExchanges (Begins f.0 e.0 (record { mode = m; session = s; phone = phone }) ∷ p)
    (begun_after o f s e phone m)
begin_over_session p o f s phone e m kept is free narrow new =
    subst (λ (d : ExchangeNo).
    KeptExchanges (Begins f.0 d.0 (record { mode = m; session = s; phone = phone }) ∷ p)
    (begun_after o f s d phone m)) (sym new)
    (rw (is_same o.next_number) (begin_new f s phone m p o kept is free (λ i. absurd (narrow i))))

begin_idle : (p : List Fact) (o : Open) (f : FibrilNo) (s phone : ℕ) (short : Bool)
    (session : Session) (e : ExchangeNo) (m : ExchangeMode) (y : Option Exchange) →
    KeptExchanges p o → mode_answer (session_at o s) ≡ Some m →
    first_idle (Some s) o.exchanges ≡ y → idle_of o short session y ≡ begin.Begun e phone →
    KeptExchanges (Begins f.0 e.0 (record { mode = m; session = s; phone = phone }) ∷ p)
    (begun_after o f s e phone m)
begin_idle p o f s phone short session e m (Some x) kept is first h =
    let number : x.number ≡ e = cc h in
    let over : x.phone ≡ phone = cc h in
    subst (λ (d : ExchangeNo).
    KeptExchanges (Begins f.0 d.0 (record { mode = m; session = s; phone = phone }) ∷ p)
    (begun_after o f s d phone m)) number
    (subst (λ (q : ℕ). KeptExchanges
    (Begins f.0 x.number.0 (record { mode = m; session = s; phone = q }) ∷ p)
    (begun_after o f s x.number q m)) over
    (begin_again f s m x p o kept is first))
begin_idle p o f s phone true session e m None kept is first h =
    absurd (short_no (first_idle None o.exchanges) h)
  where
    short_no : (y : Option Exchange) → short_of y ≡ begin.Begun e phone → ⊥
    short_no None i = absurd (cc i)
    short_no (Some x) i = absurd (cc i)
begin_idle p o f s phone false session e m None kept is first h = absurd (cc h)

begin_serial : (p : List Fact) (o : Open) (f : FibrilNo) (s phone : ℕ) (session : Session)
    (e : ExchangeNo) (b : Bool) → KeptExchanges p o →
    mode_answer (session_at o s) ≡ Some Serialize → any_begun s o.exchanges ≡ b →
    serial_of o session b ≡ begin.Begun e phone →
    KeptExchanges (Begins f.0 e.0 (record { mode = Serialize; session = s; phone = phone }) ∷ p)
    (begun_after o f s e phone Serialize)
begin_serial p o f s phone session e true kept is any h = absurd (cc h)
begin_serial p o f s phone session e false kept is any h =
    begin_over_session p o f s phone e Serialize kept is (λ i. any) (λ i. absurd (cc i))
    (sym (cc h))

begin_by_mode : (p : List Fact) (o : Open) (f : FibrilNo) (s phone : ℕ) (short : Bool)
    (session : Session) (e : ExchangeNo) (m : ExchangeMode) → KeptExchanges p o →
    mode_answer (session_at o s) ≡ Some m → begin_in o s short session m ≡ begin.Begun e phone →
    KeptExchanges (Begins f.0 e.0 (record { mode = m; session = s; phone = phone }) ∷ p)
    (begun_after o f s e phone m)
begin_by_mode p o f s phone short session e Atomic kept is h =
    begin_over_session p o f s phone e Atomic kept is (λ i. absurd (cc i)) (λ i. absurd (cc i))
    (sym (cc h))
begin_by_mode p o f s phone short session e Serialize kept is h =
    begin_serial p o f s phone session e (any_begun s o.exchanges) kept is refl h
begin_by_mode p o f s phone short session e Parallel kept is h =
    begin_idle p o f s phone short session e Parallel (first_idle (Some s) o.exchanges) kept is refl
    h

pub begin_planned : (p : List Fact) (o : Open) (f : FibrilNo) (s phone : ℕ) (short : Bool)
    (e : ExchangeNo) (m : ExchangeMode) (x : Option Session) → KeptExchanges p o →
    session_at o s ≡ x → begin_answer o s short x ≡ begin.Begun e phone → mode_answer x ≡ Some m →
    KeptExchanges (Begins f.0 e.0 (record { mode = m; session = s; phone = phone }) ∷ p)
    (begun_after o f s e phone m)
begin_planned p o f s phone short e m None kept at h i = absurd (cc i)
begin_planned p o f s phone short e m (Some session) kept at h i =
    let of : session.mode ≡ m = cc i in
    begin_by_mode p o f s phone short session e m kept (rw at i)
    (subst (λ n. begin_in o s short session n ≡ begin.Begun e phone) of h)

hang_in : (p : List Fact) (o : Open) (s phone : ℕ) (short : Bool) (session : Session)
    (e : ExchangeNo) (y z : Option Exchange) → KeptExchanges p o → first_idle None o.exchanges ≡ z →
    (b : Bool) → short ≡ b → y ≡ first_idle (Some s) o.exchanges →
    idle_of o short session y ≡ begin.HangIdle e phone → KeptExchanges (Drops e.0 ∷ p) (dropped o e)
hang_in p o s phone short session e (Some x) z kept any b is at h = absurd (cc h)
hang_in p o s phone short session e None z kept any false is at h = absurd (grind (arith, is))
hang_in p o s phone short session e None None kept any true is at h =
    absurd (grind (arith, is, any))
hang_in p o s phone short session e None (Some x) kept any true is at h =
    let number : x.number ≡ e = grind (arith, is, any) in
    subst (λ (d : ExchangeNo). KeptExchanges (Drops d.0 ∷ p) (dropped o d)) number
    (drop_exchange None x p o kept any)

hang_mode : (p : List Fact) (o : Open) (s phone : ℕ) (short : Bool) (session : Session)
    (e : ExchangeNo) (m : ExchangeMode) → KeptExchanges p o →
    begin_in o s short session m ≡ begin.HangIdle e phone →
    KeptExchanges (Drops e.0 ∷ p) (dropped o e)
hang_mode p o s phone short session e Atomic kept h = absurd (cc h)
hang_mode p o s phone short session e Serialize kept h =
    absurd (serial_no (any_begun s o.exchanges) h)
  where
    serial_no : (b : Bool) → serial_of o session b ≡ begin.HangIdle e phone → ⊥
    serial_no true i = absurd (cc i)
    serial_no false i = absurd (cc i)
hang_mode p o s phone short session e Parallel kept h =
    hang_in p o s phone short session e (first_idle (Some s) o.exchanges)
    (first_idle None o.exchanges) kept refl short refl refl h

-- a begin hangs up an idle exchange, which leaves
pub hang_planned : (p : List Fact) (o : Open) (s phone : ℕ) (short : Bool) (e : ExchangeNo)
    (x : Option Session) → KeptExchanges p o → begin_answer o s short x ≡ begin.HangIdle e phone →
    KeptExchanges (Drops e.0 ∷ p) (dropped o e)
hang_planned p o s phone short e None kept h = absurd (cc h)
hang_planned p o s phone short e (Some session) kept h =
    hang_mode p o s phone short session e session.mode kept h

-- terms a close agree, and does to the exchanges
abbrev pub FitsClose : List Fact → Open → ℕ → Close → Type 0
FitsClose p o s (close.HangIdle e phone) =
    KeptExchanges (Drops e.0 ∷ p) (close_after o s (close.HangIdle e phone))
FitsClose p o s (close.Last phone) = KeptExchanges p (close_after o s (close.Last phone))
FitsClose p o s (close.Refused c) = KeptExchanges p (close_after o s (close.Refused c))

-- a close
close_in : (p : List Fact) (o : Open) (s : ℕ) (session : Session) (y : Option Exchange)
    (plan : Close) → KeptExchanges p o → any_begun s o.exchanges ≡ false →
    first_idle (Some s) o.exchanges ≡ y → close_idle session y ≡ plan → FitsClose p o s plan
close_in p o s session None plan kept any first h =
    subst (FitsClose p o s) h (close_session s session.phone p o kept any first)
close_in p o s session (Some x) plan kept any first h =
    subst (FitsClose p o s) h (drop_exchange (Some s) x p o kept first)

close_test : (p : List Fact) (o : Open) (s : ℕ) (session : Session) (b waiting : Bool)
    (plan : Close) → KeptExchanges p o → any_begun s o.exchanges ≡ b →
    (if waiting || b then close.Refused (record { 0 = 8 }) else close_idle session
    (first_idle (Some s) o.exchanges)) ≡ plan → FitsClose p o s plan
close_test p o s session b true plan kept any h = subst (FitsClose p o s) h kept
close_test p o s session true false plan kept any h = subst (FitsClose p o s) h kept
close_test p o s session false false plan kept any h =
    close_in p o s session (first_idle (Some s) o.exchanges) plan kept any refl h

pub close_planned : (p : List Fact) (o : Open) (s : ℕ) (waiting : Bool) (x : Option Session)
    (plan : Close) → KeptExchanges p o → close_answer o s waiting x ≡ plan → FitsClose p o s plan
close_planned p o s waiting None plan kept h = subst (FitsClose p o s) h kept
close_planned p o s waiting (Some session) plan kept h =
    close_test p o s session (any_begun s o.exchanges) waiting plan kept refl h
