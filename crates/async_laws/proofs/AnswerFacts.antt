-- What each kind of fact does to the law of replies and to the calls that are awaited.
use Rattle.std.proofs.Common.{ℕ, ◌≡◌, Bool, true, false, Option, Some, None, List, [], ◌∷◌, ◌++◌}
use Rattle.std.proofs.Common.{refl, arith}
use Rattle.std.specs.Prelude.{if◌then◌else◌, ◌==◌}
use Rattle.std.specs.List.{find, filter}
use Rattle.std.proofs.lemmas.Bool.{cases_eq, eq-eqb, ne_eqb}
use Rattle.ipc_ids.specs.declared.numbers.CallNo.{CallNo}
use Rattle.ipc_ids.specs.declared.numbers.FibrilNo.{FibrilNo}
use Rattle.ipc_ids.specs.declared.message.Reply.{Reply}
use Rattle.async_task.specs.declared.awaited.Awaited.{Awaited}
use Rattle.ipc_ids.specs.Facts.{Terms, Fact, Head, Accepts, Answer, Sent, Gets, Ends, Begins}
use Rattle.ipc_ids.specs.Facts.{EndsExchange, Drops, Other}
use Rattle.ipc_ids.specs.Replies.{Waiter, is_mine, answer, sent, has_ended, had_ended, accepted_now}
use Rattle.async_laws.specs.KeptAnswers.{accepted, given, waiter, waiting, IsApart, KeptAnswers}
use Rattle.async_task.specs.Answers.{is_of_call, is_of_other_call, is_of_other_fibril}

abbrev pub waiter_of : Option Awaited → Option Waiter
waiter_of None = None
waiter_of (Some w) = Some (waiter w)

abbrev pub kept_by : ℕ → Option Waiter → Option Waiter
kept_by f None = None
kept_by f (Some d) = if d.fibril == f then None else Some d

pub waiting_forget : (n : CallNo) (m : ℕ) (ws : List Awaited) →
    waiting m (filter (is_of_other_call n) ws) ≡ if n.0 == m then None else waiting m ws
waiting_forget n m [] = grind (arith, cases_eq n.0 m, eq-eqb, ne_eqb)
waiting_forget n m (w ∷ ws) =
    grind (
      arith,
      waiting_forget n m ws,
      eq-eqb,
      ne_eqb,
      cases_eq n.0 m,
      cases_eq w.call.0 m,
      cases_eq w.call.0 n.0,
    )

pub waiting_push : (w : Awaited) (m : ℕ) (ws : List Awaited) → waiting w.call.0 ws ≡ None →
    waiting m (ws ++ w ∷ []) ≡ if w.call.0 == m then Some (waiter w) else waiting m ws
waiting_push w m [] h = refl
waiting_push w m (v ∷ ws) h =
    grind (
      arith,
      waiting_push w m ws,
      eq-eqb,
      ne_eqb,
      cases_eq w.call.0 m,
      cases_eq v.call.0 m,
      cases_eq v.call.0 w.call.0,
    )

waiting_filter : (f : FibrilNo) (m : ℕ) (ws : List Awaited) → waiting m ws ≡ None →
    waiting m (filter (is_of_other_fibril f) ws) ≡ None
waiting_filter f m [] h = refl
waiting_filter f m (w ∷ ws) h =
    grind (
      arith,
      waiting_filter f m ws,
      eq-eqb,
      ne_eqb,
      cases_eq w.call.0 m,
      cases_eq w.fibril.0 f.0,
    )

pub waiting_others : (f : FibrilNo) (m : ℕ) (ws : List Awaited) → IsApart ws →
    waiting m (filter (is_of_other_fibril f) ws) ≡ kept_by f.0 (waiting m ws)
waiting_others f m [] h = refl
waiting_others f m (w ∷ ws) h =
    grind (
      arith,
      waiting_others f m ws h.1,
      waiting_filter f m ws,
      h.0,
      eq-eqb,
      ne_eqb,
      cases_eq w.call.0 m,
      cases_eq w.fibril.0 f.0,
    )

apart_push : (w : Awaited) (ws : List Awaited) → waiting w.call.0 ws ≡ None → IsApart ws →
    IsApart (ws ++ w ∷ [])
apart_push w [] h i = (refl, tt)
apart_push w (v ∷ ws) h i =
    grind (
      arith,
      apart_push w ws,
      waiting_push w v.call.0 ws,
      i.0,
      i.1,
      eq-eqb,
      ne_eqb,
      cases_eq w.call.0 v.call.0,
    )

apart_forget : (n : CallNo) (ws : List Awaited) → IsApart ws →
    IsApart (filter (is_of_other_call n) ws)
apart_forget n [] i = tt
apart_forget n (w ∷ ws) i =
    grind (
      arith,
      apart_forget n ws i.1,
      waiting_forget n w.call.0 ws,
      i.0,
      eq-eqb,
      ne_eqb,
      cases_eq w.call.0 n.0,
    )

apart_others : (f : FibrilNo) (ws : List Awaited) → IsApart ws →
    IsApart (filter (is_of_other_fibril f) ws)
apart_others f [] i = tt
apart_others f (w ∷ ws) i =
    grind (
      arith,
      apart_others f ws i.1,
      waiting_filter f w.call.0 ws,
      i.0,
      eq-eqb,
      ne_eqb,
      cases_eq w.fibril.0 f.0,
    )

pub find_waiting : (n : CallNo) (ws : List Awaited) →
    waiting n.0 ws ≡ waiter_of (find (is_of_call n) ws)
find_waiting n [] = refl
find_waiting n (w ∷ ws) = grind (arith, find_waiting n ws, eq-eqb, ne_eqb, cases_eq w.call.0 n.0)

-- entries that the law doesn't read
abbrev pub is_passed_over : Fact → Bool
is_passed_over (Begins f e w) = true
is_passed_over (EndsExchange e) = true
is_passed_over (Drops e) = true
is_passed_over Other = true
is_passed_over _ = false

passed_over : (x : Fact) (p : List Fact) (ws : List Awaited) → is_passed_over x ≡ true →
    KeptAnswers p ws → KeptAnswers (x ∷ p) ws
passed_over x p ws h kept = record {
  lawful = (kept.lawful, grind arith);
  passed_on = λ n r d m a s e. grind (arith, kept.passed_on n r d);
  apart = kept.apart;
  was_sent = λ m d i. grind (arith, kept.was_sent m d);
  not_given = λ m d i. grind (arith, kept.not_given m d);
  waits = λ m d s g e. grind (arith, kept.waits m d);
  got_given = λ m i. grind (arith, kept.got_given m);
  sent_accepted = λ m d i. grind (arith, kept.sent_accepted m d);
}

-- an event begins
pub head_answers : (b : Bool) (p : List Fact) (ws : List Awaited) → KeptAnswers p ws →
    KeptAnswers (Head b ∷ p) ws
head_answers b p ws kept = record {
  lawful = (kept.lawful, kept.passed_on);
  passed_on = λ n r d m a s e. absurd (cc a);
  apart = kept.apart;
  was_sent = kept.was_sent;
  not_given = kept.not_given;
  waits = kept.waits;
  got_given = kept.got_given;
  sent_accepted = kept.sent_accepted;
}

-- the kernel accepts a call, of whatever task
pub accepts_answers : (n : ℕ) (p : List Fact) (ws : List Awaited) → KeptAnswers p ws →
    KeptAnswers (Accepts n ∷ p) ws
accepts_answers n p ws kept = record {
  lawful = (kept.lawful, tt);
  passed_on = kept.passed_on;
  apart = kept.apart;
  was_sent = kept.was_sent;
  not_given = kept.not_given;
  waits = kept.waits;
  got_given = kept.got_given;
  sent_accepted = λ m d i. grind (arith, eq-eqb, ne_eqb, cases_eq n m, kept.sent_accepted m d i);
}

-- an answer is the outcome of another task's event
pub others_answers : (n : ℕ) (r : Reply) (p : List Fact) (ws : List Awaited) → is_mine p ≡ false →
    KeptAnswers p ws → KeptAnswers (Answer n r ∷ p) ws
others_answers n r p ws other kept = record {
  lawful = (kept.lawful, λ mine. absurd (grind (arith, mine)));
  passed_on = λ m s d i a e f. absurd (grind arith);
  apart = kept.apart;
  was_sent = kept.was_sent;
  not_given = λ m d i. grind (arith, kept.not_given m d);
  waits = λ m d s g e. grind (arith, kept.waits m d);
  got_given = λ m i. grind (arith, kept.got_given m i);
  sent_accepted = kept.sent_accepted;
}

pub begins_answers : (f e : ℕ) (w : Terms) (p : List Fact) (ws : List Awaited) → KeptAnswers p ws →
    KeptAnswers (Begins f e w ∷ p) ws
begins_answers f e w p ws kept = passed_over (Begins f e w) p ws refl kept

pub end_exchange_answers : (e : ℕ) (p : List Fact) (ws : List Awaited) → KeptAnswers p ws →
    KeptAnswers (EndsExchange e ∷ p) ws
end_exchange_answers e p ws kept = passed_over (EndsExchange e) p ws refl kept

pub drop_answers : (e : ℕ) (p : List Fact) (ws : List Awaited) → KeptAnswers p ws →
    KeptAnswers (Drops e ∷ p) ws
drop_answers e p ws kept = passed_over (Drops e) p ws refl kept

pub other_answers : (p : List Fact) (ws : List Awaited) → KeptAnswers p ws →
    KeptAnswers (Other ∷ p) ws
other_answers p ws kept = passed_over Other p ws refl kept

-- a fibril ends
pub end_answers : (f : FibrilNo) (p : List Fact) (ws : List Awaited) → KeptAnswers p ws →
    KeptAnswers (Ends f.0 ∷ p) (filter (is_of_other_fibril f) ws)
end_answers f p ws kept = record {
  lawful = (kept.lawful, tt);
  passed_on = kept.passed_on;
  apart = apart_others f ws kept.apart;
  was_sent = λ m x h. grind (
    arith,
    eq-eqb,
    ne_eqb,
    waiting_others f m ws kept.apart,
    kept.was_sent m x,
    cases_eq x.fibril f.0,
  );
  not_given = λ m x h. grind (
    arith,
    eq-eqb,
    ne_eqb,
    waiting_others f m ws kept.apart,
    kept.not_given m x,
    cases_eq x.fibril f.0,
  );
  waits = λ m x h g e. grind (
    arith,
    eq-eqb,
    ne_eqb,
    waiting_others f m ws kept.apart,
    kept.waits m x,
    cases_eq x.fibril f.0,
    cases_eq f.0 x.fibril,
  );
  got_given = kept.got_given;
  sent_accepted = kept.sent_accepted;
}

unsent : (n : ℕ) (p : List Fact) (ws : List Awaited) → KeptAnswers p ws → sent n p ≡ None →
    (o : Option Waiter) → waiting n ws ≡ o → o ≡ None
unsent n p ws kept new None h = refl
unsent n p ws kept new (Some d) h = absurd (grind (arith, kept.was_sent n d h))

-- a call is sent; it has just been accepted, and no answer of it was given
pub sent_answers : (w : Awaited) (p : List Fact) (ws : List Awaited) → KeptAnswers p ws →
    is_mine p ≡ true → answer p ≡ None → accepted_now w.call.0 p ≡ true →
    accepted w.call.0 p ≡ true → sent w.call.0 p ≡ None → given w.call.0 p ≡ false →
    KeptAnswers (Sent w.fibril.0 w.call.0 w.slot ∷ p) (ws ++ w ∷ [])
sent_answers w p ws kept own none now before new ungiven =
    let free : waiting w.call.0 ws ≡ None = unsent w.call.0 p ws kept new (waiting w.call.0 ws) refl
    in
    record {
      lawful = (kept.lawful, (own, now, new));
      passed_on = λ n r d m a s e. absurd (grind arith);
      apart = apart_push w ws free kept.apart;
      was_sent = λ m x h. grind
          (arith, eq-eqb, ne_eqb, waiting_push w m ws free, cases_eq w.call.0 m, kept.was_sent m x);
      not_given = λ m x h. grind (
        arith,
        eq-eqb,
        ne_eqb,
        waiting_push w m ws free,
        cases_eq w.call.0 m,
        kept.not_given m x,
      );
      waits = λ m x h g e. grind
          (arith, eq-eqb, ne_eqb, waiting_push w m ws free, cases_eq w.call.0 m, kept.waits m x);
      got_given = kept.got_given;
      sent_accepted = λ m x h.
          grind (arith, eq-eqb, ne_eqb, cases_eq w.call.0 m, kept.sent_accepted m x);
    }

-- an answer comes that a fibril was_sent
pub got_answers : (n : CallNo) (r : Reply) (p : List Fact) (ws : List Awaited) (d : Waiter) →
    KeptAnswers p ws → is_mine p ≡ true → answer p ≡ None → given n.0 p ≡ false →
    waiting n.0 ws ≡ Some d →
    KeptAnswers (Gets d.fibril n.0 d.slot r ∷ Answer n.0 r ∷ p) (filter (is_of_other_call n) ws)
got_answers n r p ws d kept own none first awaits = record {
  lawful = (
    (kept.lawful, λ mine. none),
    (own, refl, kept.was_sent n.0 d awaits, grind (arith, kept.got_given n.0)),
  );
  passed_on = λ m s x i o b e. grind (arith, eq-eqb, kept.was_sent n.0 d awaits);
  apart = apart_forget n ws kept.apart;
  was_sent = λ m x h. grind
      (arith, eq-eqb, ne_eqb, waiting_forget n m ws, cases_eq n.0 m, kept.was_sent m x);
  not_given = λ m x h. grind
      (arith, eq-eqb, ne_eqb, waiting_forget n m ws, cases_eq n.0 m, kept.not_given m x);
  waits = λ m x h g e. grind
      (arith, eq-eqb, ne_eqb, waiting_forget n m ws, cases_eq n.0 m, kept.waits m x);
  got_given = λ m h. grind (arith, eq-eqb, ne_eqb, cases_eq n.0 m, kept.got_given m);
  sent_accepted = kept.sent_accepted;
}

-- an answer comes that none was_sent
pub unasked_answers : (n : CallNo) (r : Reply) (p : List Fact) (ws : List Awaited) →
    KeptAnswers p ws → is_mine p ≡ true → answer p ≡ None → given n.0 p ≡ false →
    ((f : ℕ) → had_ended f p ≡ has_ended f p) → waiting n.0 ws ≡ None →
    KeptAnswers (Answer n.0 r ∷ p) ws
unasked_answers n r p ws kept own none first none_ended awaits = record {
  lawful = (kept.lawful, λ mine. none);
  passed_on = λ m s x i o b e. absurd (grind (arith, kept.waits m x, none_ended x.fibril));
  apart = kept.apart;
  was_sent = kept.was_sent;
  not_given = λ m x h. grind (arith, eq-eqb, ne_eqb, cases_eq n.0 m, kept.not_given m x);
  waits = λ m x h g e. grind (arith, eq-eqb, ne_eqb, cases_eq n.0 m, kept.waits m x);
  got_given = λ m h. grind (arith, eq-eqb, ne_eqb, cases_eq n.0 m, kept.got_given m);
  sent_accepted = kept.sent_accepted;
}
