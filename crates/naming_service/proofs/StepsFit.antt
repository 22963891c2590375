-- What the naming service does keeps the fit of its doings to its state.
use Rattle.std.proofs.Common.{ℕ, ◌≡◌, ◌+◌, ◌≤◌, ◌<◌, Bool, true, false, List, [], ◌∷◌, ◌++◌, Option, Some, None, inl, inr, refl, sym, subst, ap, ◌∙◌, arith}
use Rattle.std.specs.Prelude.{◌⊎◌, ◌==◌, if◌then◌else◌, is_some, slice_index, replicate, filter}
use Rattle.std.proofs.lemmas.Bool.{eq-eqb, ne_eqb, eqb-true, cases_eq}
use Rattle.ipc_ids.specs.declared.numbers.Label.{Label}
use Rattle.ipc_ids.specs.declared.numbers.CallNo.{CallNo}
use Rattle.ipc_ids.specs.declared.numbers.Code.{Code}
use Rattle.ipc_ids.specs.declared.message.Mode.TheVariants.{Plain}
use Rattle.ipc_ids.specs.declared.message.Msg.{Msg}
use Rattle.ipc_ids.specs.declared.message.Reply.{Reply}
use Rattle.ipc_ids.specs.declared.message.Request.{Request}
use Rattle.ipc_ids.specs.declared.message.Request.TheVariants as request
use Rattle.ipc_ids.specs.declared.message.Outcome.{Outcome}
use Rattle.ipc_ids.specs.declared.message.Outcome.TheVariants as outcome
use Rattle.ipc_ids.specs.Program.{fits}
use Rattle.ipc_ids.specs.Codes.{eok, enoent, eexist, elimit}
use Rattle.ipc_ids.specs.Methods.{phone_hungup, connect_to_me, connect_me_to}
use Rattle.ipc_ids.specs.Doings.{Doing, Asks, Told, Came, is_kept, MayBeTold}
use Rattle.ipc_ids.proofs.Common.{done_no_receipt, is_receipt}
use Rattle.task_ends.specs.declared.introduced.End.{End}
use Rattle.task_ends.specs.declared.introduced.Introduced.{Introduced}
use Rattle.task_ends.specs.declared.introduced.Wait.{Wait as Waiter}
use Rattle.task_ends.specs.declared.ends.Waited.{Waited}
use Rattle.task_ends.specs.Ends.{entry_of, open_entry, is_open, is_known, newcomer, leave, leaving, ending, end_all, waits_for, other_waits, waited_by, waited_by_end, with_wait, introduce_by, ended_by, freed_end_by, freed_waits_by, AreApart}
use Rattle.task_ends.specs.EndLaw.{introduce_self, leave_value, wait_for, story, story_after, TellsEnd, is_answered, end_arguments, EndsWereLawful}
use Rattle.task_ends.proofs.LawfulEnds.{waiters_are_told}
use Rattle.task_ends.proofs.Entries.{changed, with_newcomer, entry_task, entry_leaves, entry_ends, entry_added, apart_leave, apart_end, apart_added, open_is_entry, closed_entry}
use Rattle.naming_service.specs.declared.received.ReceivedCall.{ReceivedCall}
use Rattle.naming_service.specs.declared.received.Work.{Work}
use Rattle.naming_service.specs.declared.received.Work.TheVariants.{Answer, Forward}
use Rattle.naming_service.specs.declared.received.Asked.{Asked}
use Rattle.naming_service.specs.declared.received.Asked.TheVariants.{Register, Connect, Introduce, Leave, Wait, HungUp, Other}
use Rattle.naming_service.specs.Naming.{NamingState, wanted, after, handled_by, asked_by, answering, forwarding_all, wants_another, telling_all, service_of, phone_given, no_phone, phone_of, leads_elsewhere, registered_by, wait_or_refuse_by, connect_by, introduced_by, left, leave_code, waited_for_by}
use Rattle.naming_service.specs.NamingHistory.{IsWaiting, IsToDo, IsPresent, one_if, pendings, waits, forwards, answers, passing, in_hand, NamingFits, StartFits, StepFits, HangupFits, FittingIsLawful}

abbrev once_told : List Doing → Request → Outcome → List Doing
once_told p asked o = Told o ∷ (Asks asked ∷ p)

-- the doings q say of calls and tasks what p says
record SaysTheSame (p q : List Doing) : Type 0 where
  kept : (n : ℕ) → is_kept n q ≡ is_kept n p
  answered : (n : ℕ) → is_answered n q ≡ is_answered n p
  came : (n w : ℕ) → Came wait_for n w q → Came wait_for n w p
  comes : (n w : ℕ) → Came wait_for n w p → Came wait_for n w q
  tells : (w : ℕ) → story w q ≡ story w p
  lawful : EndsWereLawful p → EndsWereLawful q

told_same : (p : List Doing) (o : Outcome) → is_receipt o ≡ false → SaysTheSame p (Told o ∷ p)
told_same p (outcome.Received n msg label) h = absurd (cc h)
told_same p outcome.Done h = record { kept = λ n. refl; answered = λ n. refl; came = λ n w c. elim c [ inl none ↦ absurd none | inr so ↦ so ]; comes = λ n w c. inr c; tells = λ w. refl; lawful = λ l. (l, tt) }
told_same p (outcome.Refused c) h = record { kept = λ n. refl; answered = λ n. refl; came = λ n w c. elim c [ inl none ↦ absurd none | inr so ↦ so ]; comes = λ n w c. inr c; tells = λ w. refl; lawful = λ l. (l, tt) }
told_same p (outcome.Accepted n) h = record { kept = λ n. refl; answered = λ n. refl; came = λ n w c. elim c [ inl none ↦ absurd none | inr so ↦ so ]; comes = λ n w c. inr c; tells = λ w. refl; lawful = λ l. (l, tt) }
told_same p (outcome.Answered n reply) h = record { kept = λ n. refl; answered = λ n. refl; came = λ n w c. elim c [ inl none ↦ absurd none | inr so ↦ so ]; comes = λ n w c. inr c; tells = λ w. refl; lawful = λ l. (l, tt) }
told_same p outcome.Empty h = record { kept = λ n. refl; answered = λ n. refl; came = λ n w c. elim c [ inl none ↦ absurd none | inr so ↦ so ]; comes = λ n w c. inr c; tells = λ w. refl; lawful = λ l. (l, tt) }
told_same p (outcome.Bytes bs) h = record { kept = λ n. refl; answered = λ n. refl; came = λ n w c. elim c [ inl none ↦ absurd none | inr so ↦ so ]; comes = λ n w c. inr c; tells = λ w. refl; lawful = λ l. (l, tt) }

receive_same : (p : List Doing) → SaysTheSame p (Asks request.Receive ∷ p)
receive_same p = record { kept = λ n. refl; answered = λ n. refl; came = λ n w c. elim c [ inl none ↦ absurd none | inr so ↦ so ]; comes = λ n w c. inr c; tells = λ w. refl; lawful = λ l. (l, tt) }

hangup_same : (p : List Doing) (phone : ℕ) → SaysTheSame p (Asks (request.Hangup phone) ∷ p)
hangup_same p phone = record { kept = λ n. refl; answered = λ n. refl; came = λ n w c. elim c [ inl none ↦ absurd none | inr so ↦ so ]; comes = λ n w c. inr c; tells = λ w. refl; lawful = λ l. (l, tt) }

same_after : (p q r : List Doing) → SaysTheSame p q → SaysTheSame q r → SaysTheSame p r
same_after p q r a b = record {
  kept = λ n. b.kept n ∙ a.kept n;
  answered = λ n. b.answered n ∙ a.answered n;
  came = λ n w c. a.came n w (b.came n w c);
  comes = λ n w c. b.comes n w (a.comes n w c);
  tells = λ w. b.tells w ∙ a.tells w;
  lawful = λ l. b.lawful (a.lawful l);
}

-- doings that say the same fit a state that differs in its count alone
fits_same : (p q : List Doing) (s : NamingState) (taken : ℕ) → SaysTheSame p q → NamingFits p s → NamingFits q (record s { taken = taken })
fits_same p q s taken same fit = record {
  lawful = same.lawful fit.lawful;
  entries = λ w. fit.entries w ∙ sym (same.tells w);
  apart = fit.apart;
  waiting = λ n w h. (same.comes n w (fit.waiting n w h).0, (fit.waiting n w h).1);
  telling = λ n w reply to_do ok came. fit.telling n w reply to_do ok (same.came n w came);
  once = fit.once;
  kept = λ n h. fit.kept n (sym (same.kept n) ∙ h);
  answered = λ n h. same.answered n ∙ fit.answered n (sym (same.kept n) ∙ h);
  waited = λ n w h came. fit.waited n w (sym (same.kept n) ∙ h) (same.came n w came);
  one_task = λ n v w a b. fit.one_task n v w (same.came n v a) (same.came n w b);
  passed = λ n h. same.answered n ∙ fit.passed n h;
  unasked = λ n w h came. fit.unasked n w h (same.came n w came);
}

pub hangup_fits : HangupFits
hangup_fits p s phone o fit done = fits_same p (once_told p (request.Hangup phone) o) s s.taken (same_after p (Asks (request.Hangup phone) ∷ p) (once_told p (request.Hangup phone) o) (hangup_same p phone) (told_same (Asks (request.Hangup phone) ∷ p) o (done_no_receipt o done))) fit

pub start_fits : StartFits
start_fits = record {
  lawful = tt;
  entries = λ w. refl;
  apart = tt;
  waiting = λ n w h. absurd h;
  telling = λ n w reply to_do ok came. absurd to_do;
  once = λ n. omega arith;
  kept = λ n h. refl;
  answered = λ n h. refl;
  waited = λ n w h came. came;
  one_task = λ n v w a b. absurd a;
  passed = λ n h. refl;
  unasked = λ n w h came. came;
}

pub fitting_is_lawful : FittingIsLawful
fitting_is_lawful p s fit = waiters_are_told p fit.lawful

-- The first work is done.

abbrev doing : NamingState → List Work → NamingState
doing s ws = record s { work = ws }

abbrev counted : NamingState → List Work → NamingState
counted s ws = record s { work = ws; taken = s.taken + 1 }

kept_if : (b : Bool) (n : ℕ) (k : ℕ) → (b ≡ false → k ≡ 0) → 0 < k → b ≡ true
kept_if true n k h more = refl
kept_if false n k h more = absurd (omega (arith, h refl, more))

-- an answer was given
answered_fits : (p : List Doing) (s : NamingState) (m : CallNo) (reply : Reply) (ws : List Work) → NamingFits p (doing s (Answer m reply ∷ ws)) → NamingFits (Asks (request.Answer m.0 reply) ∷ p) (counted s ws)
answered_fits p s m reply ws fit = record {
  lawful = (fit.lawful, λ w ok came. subst (TellsEnd reply.args) (fit.entries w) (fit.telling m.0 w reply (inl refl) ok came));
  entries = fit.entries;
  apart = fit.apart;
  waiting = λ n w h. (inr (fit.waiting n w h).0, (fit.waiting n w h).1);
  telling = λ n w other to_do ok came. elim came [ inl none ↦ absurd none | inr so ↦ fit.telling n w other (inr to_do) ok so ];
  once = λ n. omega (arith, fit.once n);
  kept = λ n h. omega (arith, fit.kept n h);
  answered = λ n h. grind (arith, eqb-true, fit.answered n h, fit.kept n h, h, was_kept);
  waited = λ n w h came. elim came [ inl none ↦ none | inr so ↦ fit.waited n w h so ];
  one_task = λ n v w a b. fit.one_task n v w (older n v a) (older n w b);
  passed = λ n h. grind (arith, eqb-true, eq-eqb, fit.passed n, fit.once n, h);
  unasked = λ n w h came. elim came [ inl none ↦ none | inr so ↦ fit.unasked n w h so ];
} where
  older : (n w : ℕ) → Came wait_for n w (Asks (request.Answer m.0 reply) ∷ p) → Came wait_for n w p
  older n w (inl none) = absurd none
  older n w (inr so) = so

  was_kept : is_kept m.0 p ≡ true
  was_kept = kept_if (is_kept m.0 p) m.0 (in_hand m.0 (doing s (Answer m reply ∷ ws))) (fit.kept m.0) (grind (arith, eq-eqb m.0 m.0 refl))

-- a call was passed on
passed_fits : (p : List Doing) (s : NamingState) (m : CallNo) (phone : ℕ) (msg : Msg) (ws : List Work) → NamingFits p (doing s (Forward m phone msg ∷ ws)) → NamingFits (Asks (request.Forward m.0 phone Plain (Some msg)) ∷ p) (counted s ws)
passed_fits p s m phone msg ws fit = record {
  lawful = (fit.lawful, tt);
  entries = fit.entries;
  apart = fit.apart;
  waiting = λ n w h. (inr (fit.waiting n w h).0, (fit.waiting n w h).1);
  telling = λ n w other to_do ok came. elim came [ inl none ↦ absurd none | inr so ↦ fit.telling n w other (inr to_do) ok so ];
  once = λ n. omega (arith, fit.once n);
  kept = λ n h. elim (either n (m.0 == n) refl h) [ inl old ↦ omega (arith, fit.kept n old) | inr here ↦ omega (arith, fit.once n, here) ];
  answered = λ n h. elim (either n (m.0 == n) refl h) [ inl old ↦ fit.answered n old | inr here ↦ fit.passed n (omega (arith, here)) ];
  waited = λ n w h came. elim (either n (m.0 == n) refl h) [ inl old ↦ fit.waited n w old (older n w came) | inr here ↦ fit.unasked n w (omega (arith, here)) (older n w came) ];
  one_task = λ n v w a b. fit.one_task n v w (older n v a) (older n w b);
  passed = λ n h. fit.passed n (omega (arith, h));
  unasked = λ n w h came. elim came [ inl none ↦ none | inr so ↦ fit.unasked n w (omega (arith, h)) so ];
} where
  older : (n w : ℕ) → Came wait_for n w (Asks (request.Forward m.0 phone Plain (Some msg)) ∷ p) → Came wait_for n w p
  older n w (inl none) = absurd none
  older n w (inr so) = so

  either : (n : ℕ) (b : Bool) → (m.0 == n) ≡ b → is_kept n (Asks (request.Forward m.0 phone Plain (Some msg)) ∷ p) ≡ false → (is_kept n p ≡ false) ⊎ (one_if (m.0 == n) ≡ 1)
  either n true is h = inr (ap one_if is)
  either n false is h = inl (grind (arith, is, h))

-- a call that says nothing of a task's entry
story_plain : (w : ℕ) (msg : Msg) (label : Label) (o : Option Introduced) → (msg.method == introduce_self) ≡ false → (msg.method == leave_value) ≡ false → (msg.method == phone_hungup) ≡ false → story_after w msg label o ≡ o
story_plain w msg label None intro leave hang = grind (arith, intro)
story_plain w msg label (Some x) intro leave hang = ap (λ (y : Introduced). Some y) (grind (arith, leave, hang))

record IsPlain (method : ℕ) : Type 0 where
  intro : (method == introduce_self) ≡ false
  leave : (method == leave_value) ≡ false
  hang : (method == phone_hungup) ≡ false

-- the method of a call that asks so
abbrev MethodIs : Asked → ℕ → Type 0
MethodIs Register method = method ≡ connect_to_me
MethodIs Connect method = method ≡ connect_me_to
MethodIs Introduce method = method ≡ introduce_self
MethodIs Leave method = method ≡ leave_value
MethodIs Wait method = method ≡ wait_for
MethodIs HungUp method = method ≡ phone_hungup
MethodIs Other method = IsPlain method × ((method == wait_for) ≡ false)

method_is : (method : ℕ) (a : Asked) → asked_by method ≡ a → MethodIs a method
method_is method Register h = grind (arith, eqb-true)
method_is method Connect h = grind (arith, eqb-true)
method_is method Introduce h = grind (arith, eqb-true)
method_is method Leave h = grind (arith, eqb-true)
method_is method Wait h = grind (arith, eqb-true)
method_is method HungUp h = grind (arith, eqb-true)
method_is method Other h = (record { intro = grind (arith, h); leave = grind (arith, h); hang = grind (arith, h) }, grind (arith, h))

plain_at : (method known : ℕ) → method ≡ known → IsPlain known → IsPlain method
plain_at method known is plain = subst IsPlain (sym is) plain

answer_call : (a b : CallNo) (x y : Reply) → Answer a x ≡ Answer b y → a ≡ b
answer_call a b x y h = cc h

answer_reply : (a b : CallNo) (x y : Reply) → Answer a x ≡ Answer b y → x ≡ y
answer_reply a b x y h = cc h

-- calls that are passed on at a registration were pending
pendings_split : (n service phone : ℕ) (rs : List ReceivedCall) → pendings n (filter (wants_another service) rs) + forwards n (forwarding_all service phone rs) ≡ pendings n rs
pendings_split n service phone [] = refl
pendings_split n service phone (r ∷ rs) = grind (arith, pendings_split n service phone rs)

none_answered : (n service phone : ℕ) (rs : List ReceivedCall) → answers n (forwarding_all service phone rs) ≡ 0
none_answered n service phone [] = refl
none_answered n service phone (r ∷ rs) = grind (arith, none_answered n service phone rs)

none_told : (call : CallNo) (reply : Reply) (service phone : ℕ) (rs : List ReceivedCall) → IsToDo (Answer call reply) (forwarding_all service phone rs) → ⊥
none_told call reply service phone [] h = h
none_told call reply service phone (r ∷ rs) h = grind (arith, none_told call reply service phone rs)

pendings_added : (n : ℕ) (r : ReceivedCall) (rs : List ReceivedCall) → pendings n (rs ++ r ∷ []) ≡ pendings n rs + one_if (r.number.0 == n)
pendings_added n r [] = omega arith
pendings_added n r (x ∷ rs) = omega (arith, pendings_added n r rs)

waits_added : (n : ℕ) (x : Waiter) (xs : List Waiter) → waits n (xs ++ x ∷ []) ≡ waits n xs + one_if (x.call.0 == n)
waits_added n x [] = omega arith
waits_added n x (y ∷ ys) = omega (arith, waits_added n x ys)

waiting_added : (n w : ℕ) (x : Waiter) (xs : List Waiter) → IsWaiting n w (xs ++ x ∷ []) → IsWaiting n w xs ⊎ ((x.call.0 ≡ n) × (x.task ≡ w))
waiting_added n w x [] (inl is) = inr is
waiting_added n w x [] (inr none) = absurd none
waiting_added n w x (y ∷ ys) (inl is) = inl (inl is)
waiting_added n w x (y ∷ ys) (inr h) = elim (waiting_added n w x ys h) [ inl old ↦ inl (inr old) | inr is ↦ inr is ]

-- a task that is in the list introduces itself once more
known_entry : (w : ℕ) (msg : Msg) (label : Label) (xs : List Introduced) (o : Option Introduced) → msg.method ≡ introduce_self → is_known label.task.0 xs ≡ true → entry_of w xs ≡ o → o ≡ story_after w msg label o
known_entry w msg label xs None is there at = grind (arith, eqb-true, is, there, at)
known_entry w msg label xs (Some x) is there at = ap (λ (y : Introduced). Some y) (grind (arith, is))

new_entry : (w : ℕ) (msg : Msg) (label : Label) (o : Option Introduced) → msg.method ≡ introduce_self → with_newcomer label w o ≡ story_after w msg label o
new_entry w msg label None is = rw is refl
new_entry w msg label (Some x) is = ap (λ (y : Introduced). Some y) (grind (arith, is))

left_entry : (w : ℕ) (msg : Msg) (label : Label) (o : Option Introduced) → msg.method ≡ leave_value → changed (leaving label (slice_index msg.args 0)) o ≡ story_after w msg label o
left_entry w msg label None is = rw is refl
left_entry w msg label (Some x) is = ap (λ (y : Introduced). Some y) (rw is refl)

ended_entry : (w : ℕ) (msg : Msg) (label : Label) (o : Option Introduced) → msg.method ≡ phone_hungup → changed (ending label) o ≡ story_after w msg label o
ended_entry w msg label None is = rw is refl
ended_entry w msg label (Some x) is = ap (λ (y : Introduced). Some y) (rw is refl)

closed_stays : (w : ℕ) (msg : Msg) (label : Label) (xs : List Introduced) (o : Option Introduced) → msg.method ≡ phone_hungup → open_entry label xs ≡ None → entry_of w xs ≡ o → o ≡ story_after w msg label o
closed_stays w msg label xs None is none at = rw is refl
closed_stays w msg label xs (Some x) is none at = ap (λ (y : Introduced). Some y) (grind (arith, is, closed_entry label w xs x none at))

present_new : (label : Label) (w : ℕ) (o : Option Introduced) → IsPresent o → IsPresent (with_newcomer label w o)
present_new label w None h = absurd h
present_new label w (Some x) h = h

present_left : (label : Label) (value : ℕ) (o : Option Introduced) → IsPresent o → IsPresent (changed (leaving label value) o)
present_left label value None h = absurd h
present_left label value (Some x) h = grind (arith, h)

-- another task does not end
present_ended : (label : Label) (w : ℕ) (xs : List Introduced) (o : Option Introduced) → entry_of w xs ≡ o → (w ≡ label.task.0 → ⊥) → IsPresent o → IsPresent (changed (ending label) o)
present_ended label w xs None at apart h = absurd h
present_ended label w xs (Some x) at apart h = grind (arith, eqb-true, h, entry_task w xs x at, apart)

none_known : (o : Option Introduced) → is_some o ≡ false → o ≡ None
none_known None h = refl
none_known (Some x) h = absurd (cc h)

-- who waited is told
waits_split : (n w : ℕ) (end : End) (xs : List Waiter) → waits n (other_waits w xs) + answers n (telling_all end (waits_for w xs)) ≡ waits n xs
waits_split n w end [] = refl
waits_split n w end (x ∷ xs) = grind (arith, waits_split n w end xs)

none_passed : (n w : ℕ) (end : End) (xs : List Waiter) → forwards n (telling_all end (waits_for w xs)) ≡ 0
none_passed n w end [] = refl
none_passed n w end (x ∷ xs) = grind (arith, none_passed n w end xs)

waits_still : (n w other : ℕ) (xs : List Waiter) → IsWaiting n w (other_waits other xs) → IsWaiting n w xs × (w ≡ other → ⊥)
waits_still n w other [] h = absurd h
waits_still n w other (x ∷ xs) h = grind (arith, eq-eqb, ne_eqb, cases_eq x.task other, waits_still n w other xs)

who_is_told : (n w : ℕ) (reply : Reply) (end : End) (xs : List Waiter) → IsToDo (Answer (record { 0 = n }) reply) (telling_all end (waits_for w xs))
    → (reply ≡ record { code = eok; args = end_arguments end }) × IsWaiting n w xs
who_is_told n w reply end [] h = absurd h
who_is_told n w reply end (x ∷ xs) h = by_task (x.task == w) refl h (who_is_told n w reply end xs) where
  by_task : (b : Bool) → (x.task == w) ≡ b → IsToDo (Answer (record { 0 = n }) reply) (telling_all end (if b then x.call ∷ waits_for w xs else waits_for w xs))
      → (IsToDo (Answer (record { 0 = n }) reply) (telling_all end (waits_for w xs)) → (reply ≡ record { code = eok; args = end_arguments end }) × IsWaiting n w xs)
      → (reply ≡ record { code = eok; args = end_arguments end }) × IsWaiting n w (x ∷ xs)
  by_task true is (inl e) rest = (
    sym (answer_reply x.call (record { 0 = n }) (record { code = eok; args = end_arguments end }) reply e),
    inl (ap (λ (c : CallNo). c.0) (answer_call x.call (record { 0 = n }) (record { code = eok; args = end_arguments end }) reply e), eqb-true x.task w is),
  )
  by_task true is (inr h) rest = let more = rest h in (more.0, inr more.1)
  by_task false is h rest = let more = rest h in (more.0, inr more.1)

-- the call is answered, and no more is to be done
abbrev with_answer : NamingState → ReceivedCall → List (ℕ × ℕ) → List Introduced → Reply → NamingState
with_answer s r registry xs reply =
    record {
      registry = registry;
      pending = s.pending;
      ends = record { introduced = xs; waits = s.ends.waits };
      work = Answer r.number reply ∷ [];
      taken = s.taken;
    }

-- A call comes.

-- a call that has just come, and a state in which there is nothing to do
module _ (p : List Doing) (s : NamingState) (r : ReceivedCall) (fit : NamingFits p (doing s [])) (new : is_kept r.number.0 p ≡ false) where
  abbrev here : List Doing
  here = Told (outcome.Received r.number r.msg r.label) ∷ (Asks request.Receive ∷ p)

  abbrev is_new : ℕ → ℕ
  is_new n = one_if (r.number.0 == n)

  -- what a state must say to fit once the call has come
  record Arrives (t : NamingState) : Type 0 where
    entries : (w : ℕ) → entry_of w t.ends.introduced ≡ story_after w r.msg r.label (entry_of w s.ends.introduced)
    apart : AreApart t.ends.introduced
    waiting : (n w : ℕ) → IsWaiting n w t.ends.waits → Came wait_for n w here × IsPresent (entry_of w t.ends.introduced)
    telling : (n w : ℕ) (reply : Reply) → IsToDo (Answer (record { 0 = n }) reply) t.work → reply.code ≡ eok →
        Came wait_for n w here → TellsEnd reply.args (entry_of w t.ends.introduced)
    hand : (n : ℕ) → in_hand n t ≡ in_hand n (doing s []) + is_new n
    passes : (n : ℕ) → passing n t ≤ passing n (doing s []) + is_new n
    asks : 0 < passing r.number.0 t → r.msg.method ≡ wait_for → ⊥

  not_in_hand : in_hand r.number.0 (doing s []) ≡ 0
  not_in_hand = fit.kept r.number.0 new

  came_now : (n w : ℕ) → Came wait_for n w here → ((r.number.0 ≡ n) × (r.msg.method ≡ wait_for) × (service_of r ≡ w)) ⊎ Came wait_for n w p
  came_now n w (inl so) = inl so
  came_now n w (inr (inl none)) = absurd none
  came_now n w (inr (inr so)) = inr so

  -- a call that came before is not this one
  came_before : (n w : ℕ) → Came wait_for n w p → r.number.0 ≡ n → ⊥
  came_before n w came same = fit.waited r.number.0 w new (subst (λ (k : ℕ). Came wait_for k w p) (sym same) came)

  arrives : (t : NamingState) → Arrives t → NamingFits here t
  arrives t it = record {
    lawful = ((fit.lawful, tt), fit.answered r.number.0 new);
    entries = λ w. it.entries w ∙ ap (story_after w r.msg r.label) (fit.entries w);
    apart = it.apart;
    waiting = it.waiting;
    telling = it.telling;
    once = λ n. once n (r.number.0 == n) refl;
    kept = λ n h. kept n (r.number.0 == n) refl h;
    answered = λ n h. fit.answered n (older n (r.number.0 == n) refl h);
    waited = λ n w h came. elim (came_now n w came) [ inl now ↦ newer n (r.number.0 == n) refl h now.0 | inr old ↦ fit.waited n w (older n (r.number.0 == n) refl h) old ];
    one_task = λ n v w a b. elim (came_now n v a) [
      | inl one ↦ elim (came_now n w b) [ inl two ↦ sym one.2 ∙ two.2 | inr two ↦ absurd (came_before n w two one.0) ]
      | inr one ↦ elim (came_now n w b) [ inl two ↦ absurd (came_before n v one two.0) | inr two ↦ fit.one_task n v w one two ]
    ];
    passed = λ n h. passed n (r.number.0 == n) refl h;
    unasked = λ n w h came. elim (came_now n w came) [ inl now ↦ it.asks (subst (λ (k : ℕ). 0 < passing k t) (sym now.0) h) now.1 | inr old ↦ unasked n w (r.number.0 == n) refl h old ];
  } where
    once : (n : ℕ) (b : Bool) → (r.number.0 == n) ≡ b → in_hand n t ≤ 1
    once n true is = let none : in_hand n (doing s []) ≡ 0 = subst (λ (k : ℕ). in_hand k (doing s []) ≡ 0) (eqb-true r.number.0 n is) not_in_hand in omega (arith, it.hand n, ap one_if is, none)
    once n false is = omega (arith, it.hand n, ap one_if is, fit.once n)

    older : (n : ℕ) (b : Bool) → (r.number.0 == n) ≡ b → is_kept n here ≡ false → is_kept n p ≡ false
    older n true is h = absurd (grind (arith, is, h))
    older n false is h = grind (arith, is, h)

    newer : (n : ℕ) (b : Bool) → (r.number.0 == n) ≡ b → is_kept n here ≡ false → r.number.0 ≡ n → ⊥
    newer n true is h same = absurd (grind (arith, is, h))
    newer n false is h same = absurd (cc (is, eq-eqb r.number.0 n same))

    kept : (n : ℕ) (b : Bool) → (r.number.0 == n) ≡ b → is_kept n here ≡ false → in_hand n t ≡ 0
    kept n true is h = absurd (grind (arith, is, h))
    kept n false is h = omega (arith, it.hand n, ap one_if is, fit.kept n (older n false is h))

    passed : (n : ℕ) (b : Bool) → (r.number.0 == n) ≡ b → 0 < passing n t → is_answered n p ≡ false
    passed n true is h = subst (λ (k : ℕ). is_answered k p ≡ false) (eqb-true r.number.0 n is) (fit.answered r.number.0 new)
    passed n false is h = fit.passed n (omega (arith, it.passes n, ap one_if is, h))

    unasked : (n w : ℕ) (b : Bool) → (r.number.0 == n) ≡ b → 0 < passing n t → Came wait_for n w p → ⊥
    unasked n w true is h came = came_before n w came (eqb-true r.number.0 n is)
    unasked n w false is h came = fit.unasked n w (omega (arith, it.passes n, ap one_if is, h)) came

  -- the call is answered, and no more is to be done
  one_answer :
      (registry : List (ℕ × ℕ)) (xs : List Introduced) (reply : Reply)
      → ((w : ℕ) → entry_of w xs ≡ story_after w r.msg r.label (entry_of w s.ends.introduced)) → AreApart xs
      → ((w : ℕ) → IsPresent (entry_of w s.ends.introduced) → IsPresent (entry_of w xs))
      → (reply.code ≡ eok → r.msg.method ≡ wait_for → TellsEnd reply.args (entry_of (service_of r) xs))
      → NamingFits here (with_answer s r registry xs reply)
  one_answer registry xs reply entries apart present told = arrives (with_answer s r registry xs reply) (record {
    entries = entries;
    apart = apart;
    waiting = λ n w h. (inr (inr (fit.waiting n w h).0), present w (fit.waiting n w h).1);
    telling = telling;
    hand = λ n. omega arith;
    passes = λ n. omega arith;
    asks = λ h m. absurd (omega (arith, not_in_hand, h));
  }) where
    telling : (n w : ℕ) (other : Reply) → IsToDo (Answer (record { 0 = n }) other) (Answer r.number reply ∷ []) → other.code ≡ eok → Came wait_for n w here → TellsEnd other.args (entry_of w xs)
    telling n w other (inr none) ok came = absurd none
    telling n w other (inl is) ok came =
        let call : r.number ≡ record { 0 = n } = answer_call r.number (record { 0 = n }) reply other is in
        let same : reply ≡ other = answer_reply r.number (record { 0 = n }) reply other is in
        elim (came_now n w came) [
          | inl now ↦ subst (λ (x : Reply). TellsEnd x.args (entry_of w xs)) same (subst (λ (v : ℕ). TellsEnd reply.args (entry_of v xs)) now.2 (told (ap (λ (x : Reply). x.code) same ∙ ok) now.1))
          | inr old ↦ absurd (came_before n w old (ap (λ (c : CallNo). c.0) call))
        ]

  abbrev bare : Code → Reply
  bare code = record { code = code; args = replicate 5 0 }

  -- the entries stay
  plain_answer :
      (registry : List (ℕ × ℕ)) (reply : Reply) → ((w : ℕ) → entry_of w s.ends.introduced ≡ story_after w r.msg r.label (entry_of w s.ends.introduced))
      → (reply.code ≡ eok → r.msg.method ≡ wait_for → TellsEnd reply.args (entry_of (service_of r) s.ends.introduced))
      → NamingFits here (with_answer s r registry s.ends.introduced reply)
  plain_answer registry reply entries told = one_answer registry s.ends.introduced reply entries fit.apart (λ w h. h) told

  same_entries : IsPlain r.msg.method → (w : ℕ) → entry_of w s.ends.introduced ≡ story_after w r.msg r.label (entry_of w s.ends.introduced)
  same_entries plain w = sym (story_plain w r.msg r.label (entry_of w s.ends.introduced) plain.intro plain.leave plain.hang)

  -- a refusal
  refused : (registry : List (ℕ × ℕ)) (code : Code) → (code.0 == 0) ≡ false → IsPlain r.msg.method → NamingFits here (with_answer s r registry s.ends.introduced (bare code))
  refused registry code bad plain = plain_answer registry (bare code) (same_entries plain) (λ ok m. absurd (never ok)) where
    never : code ≡ eok → ⊥
    never ok = absurd (cc (bad, ap (λ (c : Code). c.0 == 0) ok))

  -- a service registers
  registers : (left_registry : List (ℕ × ℕ)) (full : Bool) (known : Option ℕ) → r.msg.method ≡ connect_to_me → NamingFits here (registered_by (record (doing s []) { registry = left_registry }) r full known)
  registers left_registry true known is = refused left_registry elimit refl (plain_at r.msg.method connect_to_me is (record { intro = refl; leave = refl; hang = refl }))
  registers left_registry false (Some phone) is = refused left_registry eexist refl (plain_at r.msg.method connect_to_me is (record { intro = refl; leave = refl; hang = refl }))
  registers left_registry false None is =
      let service : ℕ = service_of r in
      let phone : ℕ = slice_index r.msg.args 4 in
      arrives (registered_by (record (doing s []) { registry = left_registry }) r false None) (record {
        entries = same_entries (plain_at r.msg.method connect_to_me is (record { intro = refl; leave = refl; hang = refl }));
        apart = fit.apart;
        waiting = λ n w h. (inr (inr (fit.waiting n w h).0), (fit.waiting n w h).1);
        telling = telling;
        hand = λ n. omega (arith, pendings_split n service phone s.pending, none_answered n service phone s.pending);
        passes = λ n. omega (arith, pendings_split n service phone s.pending);
        asks = λ h m. absurd (omega (arith, is, m));
      })
    where
      telling : (n w : ℕ) (other : Reply) → IsToDo (Answer (record { 0 = n }) other) (answering r.number eok ∷ forwarding_all (service_of r) (slice_index r.msg.args 4) s.pending) → other.code ≡ eok → Came wait_for n w here → TellsEnd other.args (entry_of w s.ends.introduced)
      telling n w other (inl e) ok came =
          let call : r.number ≡ record { 0 = n } = answer_call r.number (record { 0 = n }) (bare eok) other e in
          elim (came_now n w came) [ inl now ↦ absurd (omega (arith, is, now.1)) | inr old ↦ absurd (came_before n w old (ap (λ (c : CallNo). c.0) call)) ]
      telling n w other (inr h) ok came = absurd (none_told (record { 0 = n }) other (service_of r) (slice_index r.msg.args 4) s.pending h)

  -- a client connects
  connects : (known : Option ℕ) → r.msg.method ≡ connect_me_to → NamingFits here (connect_by (doing s []) r known)
  connects (Some phone) is = arrives (connect_by (doing s []) r (Some phone)) (record {
    entries = same_entries (plain_at r.msg.method connect_me_to is (record { intro = refl; leave = refl; hang = refl }));
    apart = fit.apart;
    waiting = λ n w h. (inr (inr (fit.waiting n w h).0), (fit.waiting n w h).1);
    telling = λ n w other to_do ok came. elim to_do [ inl e ↦ absurd (cc e) | inr none ↦ absurd none ];
    hand = λ n. omega arith;
    passes = λ n. omega arith;
    asks = λ h m. absurd (omega (arith, is, m));
  })
  connects None is = by_kind (slice_index r.msg.args 3 == 1) where
    by_kind : (blocking : Bool) → NamingFits here (wait_or_refuse_by (doing s []) r blocking)
    by_kind false = refused s.registry enoent refl (plain_at r.msg.method connect_me_to is (record { intro = refl; leave = refl; hang = refl }))
    by_kind true = arrives (wait_or_refuse_by (doing s []) r true) (record {
      entries = same_entries (plain_at r.msg.method connect_me_to is (record { intro = refl; leave = refl; hang = refl }));
      apart = fit.apart;
      waiting = λ n w h. (inr (inr (fit.waiting n w h).0), (fit.waiting n w h).1);
      telling = λ n w other to_do ok came. absurd to_do;
      hand = λ n. omega (arith, pendings_added n r s.pending);
      passes = λ n. omega (arith, pendings_added n r s.pending);
      asks = λ h m. absurd (omega (arith, is, m));
    })

  -- a task introduces itself
  introduces : (known : Bool) → is_known r.label.task.0 s.ends.introduced ≡ known → r.msg.method ≡ introduce_self → NamingFits here (introduced_by (doing s []) r known)
  introduces true there is = plain_answer s.registry (bare eexist) (λ w. known_entry w r.msg r.label s.ends.introduced (entry_of w s.ends.introduced) is there refl) (λ ok m. absurd (omega (arith, is, m)))
  introduces false there is =
      let xs : List Introduced = s.ends.introduced in
      subst (λ (b : Bool). NamingFits here (with_answer s r s.registry (introduce_by b r.label xs) (bare eok))) (sym there)
      (one_answer s.registry (xs ++ newcomer r.label ∷ []) (bare eok)
      (λ w. entry_added r.label w xs ∙ new_entry w r.msg r.label (entry_of w xs) is)
      (apart_added r.label xs (none_known (entry_of r.label.task.0 xs) there) fit.apart)
      (λ w h. subst IsPresent (sym (entry_added r.label w xs)) (present_new r.label w (entry_of w xs) h))
      (λ ok m. absurd (omega (arith, is, m))))

  -- a task leaves a value
  leaves_value : r.msg.method ≡ leave_value → NamingFits here (left (doing s []) r)
  leaves_value is =
      let xs : List Introduced = s.ends.introduced in
      one_answer s.registry (leave r.label (service_of r) xs) (bare (leave_code (is_some (open_entry r.label xs))))
      (λ w. entry_leaves r.label (service_of r) w xs ∙ left_entry w r.msg r.label (entry_of w xs) is)
      (apart_leave r.label (service_of r) xs fit.apart)
      (λ w h. subst IsPresent (sym (entry_leaves r.label (service_of r) w xs)) (present_left r.label (service_of r) (entry_of w xs) h))
      (λ ok m. absurd (omega (arith, is, m)))

  waits_plainly : r.msg.method ≡ wait_for → IsPlain r.msg.method
  waits_plainly is = plain_at r.msg.method wait_for is (record { intro = refl; leave = refl; hang = refl })

  abbrev waiter : Waiter
  waiter = record { call = r.number; task = service_of r }

  -- a call waits
  waits_for_end : (o : Option Introduced) → entry_of (service_of r) s.ends.introduced ≡ o → r.msg.method ≡ wait_for → NamingFits here (waited_for_by (doing s []) r (waited_by o))
  waits_for_end None at is = refused s.registry enoent refl (waits_plainly is)
  waits_for_end (Some x) at is = by_end x.ended refl where
    told : x.ended ≡ true → TellsEnd (end_arguments x.end) (entry_of (service_of r) s.ends.introduced)
    told ended = subst (TellsEnd (end_arguments x.end)) (sym at) (ended, refl)

    present : (n w : ℕ) → x.ended ≡ false → (service_of r ≡ w) → IsPresent (entry_of w s.ends.introduced)
    present n w alive same = subst (λ (v : ℕ). IsPresent (entry_of v s.ends.introduced)) same (subst IsPresent (sym at) alive)

    waiting : x.ended ≡ false → (n w : ℕ) → IsWaiting n w (s.ends.waits ++ waiter ∷ []) → Came wait_for n w here × IsPresent (entry_of w s.ends.introduced)
    waiting alive n w h = elim (waiting_added n w waiter s.ends.waits h) [
      | inl old ↦ (inr (inr (fit.waiting n w old).0), (fit.waiting n w old).1)
      | inr new_one ↦ (inl (new_one.0, is, new_one.1), present n w alive new_one.1)
    ]

    by_end : (b : Bool) → x.ended ≡ b → NamingFits here (waited_for_by (doing s []) r (waited_by_end x b))
    by_end true ended = plain_answer s.registry (record { code = eok; args = end_arguments x.end }) (same_entries (waits_plainly is)) (λ ok m. told ended)
    by_end false alive =
        subst (λ (v : Waited). NamingFits here (record (doing s []) { ends = with_wait r.number (service_of r) s.ends v })) (sym (ap waited_by at ∙ ap (waited_by_end x) alive))
        (arrives (record (doing s []) { ends = record { introduced = s.ends.introduced; waits = s.ends.waits ++ waiter ∷ [] } }) (record {
          entries = same_entries (waits_plainly is);
          apart = fit.apart;
          waiting = waiting alive;
          telling = λ n w other to_do ok came. absurd to_do;
          hand = λ n. omega (arith, waits_added n waiter s.ends.waits);
          passes = λ n. omega arith;
          asks = λ h m. absurd (omega (arith, not_in_hand, h));
        }))

  -- a phone was hung up
  abbrev hung_up_by : Option Introduced → NamingState
  hung_up_by o = record (doing s []) {
    ends = ended_by r.label s.ends o;
    work = Answer r.number (bare eok) ∷ telling_all (freed_end_by o) (freed_waits_by r.label s.ends o);
  }

  hangs_up : (o : Option Introduced) → open_entry r.label s.ends.introduced ≡ o → r.msg.method ≡ phone_hungup → NamingFits here (hung_up_by o)
  hangs_up None at is = plain_answer s.registry (bare eok) (λ w. closed_stays w r.msg r.label s.ends.introduced (entry_of w s.ends.introduced) is at refl) (λ ok m. absurd (omega (arith, is, m)))
  hangs_up (Some x) at is = arrives (hung_up_by (Some x)) (record {
    entries = λ w. entry_ends r.label w s.ends.introduced ∙ ended_entry w r.msg r.label (entry_of w s.ends.introduced) is;
    apart = apart_end r.label s.ends.introduced fit.apart;
    waiting = waiting;
    telling = telling;
    hand = λ n. omega (arith, waits_split n r.label.task.0 x.end s.ends.waits, none_passed n r.label.task.0 x.end s.ends.waits);
    passes = λ n. omega (arith, none_passed n r.label.task.0 x.end s.ends.waits);
    asks = λ h m. absurd (omega (arith, is, m));
  }) where
    found : (entry_of r.label.task.0 s.ends.introduced ≡ Some x) × (is_open r.label x ≡ true)
    found = open_is_entry r.label s.ends.introduced x fit.apart at

    waiting : (n w : ℕ) → IsWaiting n w (other_waits r.label.task.0 s.ends.waits) → Came wait_for n w here × IsPresent (entry_of w (end_all r.label s.ends.introduced))
    waiting n w h =
        let still = waits_still n w r.label.task.0 s.ends.waits h in
        let was = fit.waiting n w still.0 in
        (inr (inr was.0), subst IsPresent (sym (entry_ends r.label w s.ends.introduced)) (present_ended r.label w s.ends.introduced (entry_of w s.ends.introduced) refl still.1 was.1))

    ends_so : TellsEnd (end_arguments x.end) (Some (ending r.label x))
    ends_so = rw found.1 (refl, refl)

    tells_end : TellsEnd (end_arguments x.end) (entry_of r.label.task.0 (end_all r.label s.ends.introduced))
    tells_end = subst (TellsEnd (end_arguments x.end)) (sym (entry_ends r.label r.label.task.0 s.ends.introduced ∙ ap (changed (ending r.label)) found.0)) ends_so

    telling : (n w : ℕ) (other : Reply) → IsToDo (Answer (record { 0 = n }) other) (Answer r.number (bare eok) ∷ telling_all x.end (waits_for r.label.task.0 s.ends.waits)) → other.code ≡ eok → Came wait_for n w here → TellsEnd other.args (entry_of w (end_all r.label s.ends.introduced))
    telling n w other (inl e) ok came =
        let call : r.number ≡ record { 0 = n } = answer_call r.number (record { 0 = n }) (bare eok) other e in
        elim (came_now n w came) [ inl now ↦ absurd (omega (arith, is, now.1)) | inr old ↦ absurd (came_before n w old (ap (λ (c : CallNo). c.0) call)) ]
    telling n w other (inr h) ok came =
        let who = who_is_told n r.label.task.0 other x.end s.ends.waits h in
        let waits_so : Came wait_for n r.label.task.0 p = (fit.waiting n r.label.task.0 who.1).0 in
        elim (came_now n w came) [
          | inl now ↦ absurd (came_before n r.label.task.0 waits_so now.0)
          | inr old ↦ subst (λ (v : ℕ). TellsEnd other.args (entry_of v (end_all r.label s.ends.introduced))) (fit.one_task n r.label.task.0 w waits_so old)
              (subst (λ (y : Reply). TellsEnd y.args (entry_of r.label.task.0 (end_all r.label s.ends.introduced))) (sym who.0) tells_end)
        ]

  handles : (a : Asked) → asked_by r.msg.method ≡ a → NamingFits here (handled_by (doing s []) r a)
  handles Register is = registers (filter (leads_elsewhere (phone_given r)) s.registry) (phone_given r == no_phone) (phone_of (filter (leads_elsewhere (phone_given r)) s.registry) (service_of r)) (method_is r.msg.method Register is)
  handles Connect is = connects (phone_of s.registry (service_of r)) (method_is r.msg.method Connect is)
  handles Introduce is = introduces (is_known r.label.task.0 s.ends.introduced) refl (method_is r.msg.method Introduce is)
  handles Leave is = leaves_value (method_is r.msg.method Leave is)
  handles Wait is = waits_for_end (entry_of (service_of r) s.ends.introduced) refl (method_is r.msg.method Wait is)
  handles HungUp is = hangs_up (open_entry r.label s.ends.introduced) refl (method_is r.msg.method HungUp is)
  handles Other is = refused s.registry enoent refl (method_is r.msg.method Other is).0

-- a step

passed_over : (p : List Doing) (s : NamingState) (o : Outcome) → is_receipt o ≡ false → NamingFits p (doing s []) → NamingFits (once_told p request.Receive o) (counted s [])
passed_over p s o h fit = fits_same p (once_told p request.Receive o) (doing s []) (s.taken + 1) (same_after p (Asks request.Receive ∷ p) (once_told p request.Receive o) (receive_same p) (told_same (Asks request.Receive ∷ p) o h)) fit

same_itself : (p : List Doing) → SaysTheSame p p
same_itself p = record { kept = λ n. refl; answered = λ n. refl; came = λ n w c. c; comes = λ n w c. c; tells = λ w. refl; lawful = λ l. l }

by_work : (p : List Doing) (s : NamingState) (o : Outcome) (ws : List Work) → NamingFits p (doing s ws) → fits (wanted (doing s ws)) o ≡ true → MayBeTold p (wanted (doing s ws)) o
    → NamingFits (once_told p (wanted (doing s ws)) o) (after (doing s ws) o)
by_work p s (outcome.Received n msg label) [] fit fitting may =
    let r : ReceivedCall = record { number = n; msg = msg; label = label } in
    let q : List Doing = once_told p request.Receive (outcome.Received n msg label) in
    fits_same q q (handled_by (doing s []) r (asked_by msg.method)) (s.taken + 1) (same_itself q) (handles p s r fit may.new (asked_by msg.method) refl)
by_work p s (outcome.Answered n reply) [] fit fitting may = passed_over p s (outcome.Answered n reply) refl fit
by_work p s outcome.Empty [] fit fitting may = passed_over p s outcome.Empty refl fit
by_work p s _ [] fit fitting may = absurd (cc fitting)
by_work p s o (Answer m reply ∷ ws) fit fitting may =
    let q : List Doing = Asks (request.Answer m.0 reply) ∷ p in
    fits_same q (Told o ∷ q) (counted s ws) (s.taken + 1) (told_same q o (done_no_receipt o fitting)) (answered_fits p s m reply ws fit)
by_work p s o (Forward m phone msg ∷ ws) fit fitting may =
    let q : List Doing = Asks (request.Forward m.0 phone Plain (Some msg)) ∷ p in
    fits_same q (Told o ∷ q) (counted s ws) (s.taken + 1) (told_same q o (done_no_receipt o fitting)) (passed_fits p s m phone msg ws fit)

pub step_fits : StepFits
step_fits p s o fit fitting may = by_work p s o s.work fit fitting may
