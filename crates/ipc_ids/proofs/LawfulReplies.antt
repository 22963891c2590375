-- The law of replies holds of a list whose facts were each lawful as they came.
use Rattle.std.proofs.Common.{ℕ, ◌≡◌, true, false, Option, Some, List, [], ◌∷◌, ◌++◌, refl, sym, ◌∙◌, ap, subst, arith}
use Rattle.std.proofs.lemmas.Bool.{eq-eqb, ne_eqb}
use Rattle.ipc_ids.specs.declared.message.Reply.{Reply}
use Rattle.ipc_ids.specs.declared.entry.Entry.{Entry}
use Rattle.ipc_ids.specs.Facts.{Fact, Head, Accepts, Answer, Sent, Gets, Ends, Begins, EndsExchange, Drops, Other, facts}
use Rattle.ipc_ids.specs.Replies.{Stands, IsInOneEvent, OldestIsAHead, BeginsWithAHead, StandsInOwnEvent, EachReplyReachesItsFibril, RepliesReachTheirFibril, Waiter, is_mine, answer, sent, got, got_now, has_ended, had_ended, IsPassedOn, RepliesWereLawful}

-- what was lawful stays so as facts are taken off
pub replies_before : (later p : List Fact) → RepliesWereLawful (later ++ p) → RepliesWereLawful p
replies_before [] p l = l
replies_before (e ∷ later) p l = replies_before later p l.0

-- an event of the task, which has begun
record OwnEvent (p : List Fact) : Type 0 where
  event : List Fact
  before : List Fact
  split : p ≡ event ++ (Head true ∷ before)
  one_event : IsInOneEvent event

goes_on : (e : Fact) (p : List Fact) → IsInOneEvent (e ∷ []) → OwnEvent p → OwnEvent (e ∷ p)
goes_on e p one own =
    record {
      event = e ∷ own.event;
      before = own.before;
      split = ap (λ x. e ∷ x) own.split;
      one_event = grind (arith, own.one_event);
    }

own_event : (p : List Fact) → is_mine p ≡ true → OwnEvent p
own_event [] h = absurd (cc h)
own_event (Head true ∷ p) h = record { event = []; before = p; split = refl; one_event = tt }
own_event (Head false ∷ p) h = absurd (cc h)
own_event (Accepts n ∷ p) h = goes_on (Accepts n) p tt (own_event p h)
own_event (Answer n r ∷ p) h = goes_on (Answer n r) p tt (own_event p h)
own_event (Sent f n w ∷ p) h = goes_on (Sent f n w) p tt (own_event p h)
own_event (Gets f n w r ∷ p) h = goes_on (Gets f n w r) p tt (own_event p h)
own_event (Ends f ∷ p) h = goes_on (Ends f) p tt (own_event p h)
own_event (Begins f e of ∷ p) h = goes_on (Begins f e of) p tt (own_event p h)
own_event (EndsExchange e ∷ p) h = goes_on (EndsExchange e) p tt (own_event p h)
own_event (Drops e ∷ p) h = goes_on (Drops e) p tt (own_event p h)
own_event (Other ∷ p) h = goes_on Other p tt (own_event p h)

answer_stands :
    (event before : List Fact) (n : ℕ) (reply : Reply) →
    answer (event ++ (Head true ∷ before)) ≡ Some (record { call = n; reply = reply }) →
    Stands (Answer n reply) event
answer_stands [] before n reply h = absurd (cc h)
answer_stands (e ∷ event) before n reply h = grind (arith, answer_stands event before n reply)

in_own_event :
    (p : List Fact) (n : ℕ) (reply : Reply) → is_mine p ≡ true →
    answer p ≡ Some (record { call = n; reply = reply }) → StandsInOwnEvent (Answer n reply) p
in_own_event p n reply mine h =
    let o = own_event p mine in
    record {
      event = o.event;
      before = o.before;
      split = o.split;
      one_event = o.one_event;
      stands = answer_stands o.event o.before n reply (sym (ap answer o.split) ∙ h);
    }

sent_stands :
    (p : List Fact) (n f : ℕ) (slot : Option ℕ) →
    sent n p ≡ Some (record { fibril = f; slot = slot }) → Stands (Sent f n slot) p
sent_stands [] n f slot h = absurd (cc h)
sent_stands (e ∷ p) n f slot h = grind (arith, eq-eqb, ne_eqb, sent_stands p n f slot)

-- a reply stands nowhere where none was got
none_got :
    (p : List Fact) (n g : ℕ) (from : Option ℕ) (other : Reply) → got n p ≡ false →
    Stands (Gets g n from other) p → ⊥
none_got [] n g from other h s = s
none_got (e ∷ p) n g from other h s = grind (arith, eq-eqb, ne_eqb, none_got p n g from other)

-- what was got stays got
got_stays : (later p : List Fact) (n : ℕ) → got n p ≡ true → got n (later ++ p) ≡ true
got_stays [] p n h = h
got_stays (e ∷ later) p n h = grind (arith, got_stays later p n h)

-- once a reply was got, none is got later, nor was one before
got_once :
    (later p : List Fact) (f n : ℕ) (slot : Option ℕ) (reply : Reply) →
    RepliesWereLawful (later ++ (Gets f n slot reply ∷ p)) →
    (g : ℕ) (from : Option ℕ) (other : Reply) → Stands (Gets g n from other) (later ++ p) → ⊥
got_once [] p f n slot reply l g from other s = none_got p n g from other l.1.3 s
got_once (e ∷ later) p f n slot reply l g from other s =
    let before : List Fact = Gets f n slot reply ∷ p in
    let rest = got_once later p f n slot reply l.0 g from other in
    grind (arith, eq-eqb, rest, got_stays later before n, l.1)

-- an event of the task is its own until the next one begins
pub own_is_mine :
    (event before : List Fact) → IsInOneEvent event → is_mine (event ++ (Head true ∷ before)) ≡ true
own_is_mine [] before one = refl
own_is_mine (e ∷ event) before one = grind (arith, own_is_mine event before)

-- an event of the task has one reply, which is its outcome
one_answer :
    (event before : List Fact) (n : ℕ) (reply : Reply) → IsInOneEvent event →
    RepliesWereLawful (event ++ (Head true ∷ before)) → Stands (Answer n reply) event →
    answer (event ++ (Head true ∷ before)) ≡ Some (record { call = n; reply = reply })
one_answer [] before n reply one l s = absurd s
one_answer (e ∷ event) before n reply one l s =
    grind (arith, one_answer event before n reply, own_is_mine event before, l.1, l.0)

-- a call is sent once
one_sender :
    (p : List Fact) (f n : ℕ) (slot : Option ℕ) → RepliesWereLawful p → Stands (Sent f n slot) p →
    sent n p ≡ Some (record { fibril = f; slot = slot })
one_sender [] f n slot l s = absurd s
one_sender (e ∷ p) f n slot l s = grind (arith, eq-eqb, ne_eqb, one_sender p f n slot l.0, l.1)

not_ended : (p : List Fact) (f : ℕ) → (Stands (Ends f) p → ⊥) → has_ended f p ≡ false
not_ended [] f h = refl
not_ended (e ∷ p) f h = grind (arith, eq-eqb, ne_eqb, not_ended p f)

had_not_ended :
    (event before : List Fact) (f : ℕ) → IsInOneEvent event →
    had_ended f (event ++ (Head true ∷ before)) ≡ has_ended f before
had_not_ended [] before f one = refl
had_not_ended (e ∷ event) before f one = grind (arith, had_not_ended event before f)

got_stands :
    (event before : List Fact) (f n : ℕ) (slot : Option ℕ) (reply : Reply) →
    got_now n (event ++ (Head true ∷ before))
    ≡ Some (record { by = record { fibril = f; slot = slot }; reply = reply }) →
    Stands (Gets f n slot reply) event
got_stands [] before f n slot reply h = absurd (cc h)
got_stands (e ∷ event) before f n slot reply h =
    grind (arith, eq-eqb, ne_eqb, got_stands event before f n slot reply)

-- before the next event begins, the reply is passed on
passed_by_then :
    (e : Fact) (later p : List Fact) → OldestIsAHead e later →
    RepliesWereLawful ((e ∷ later) ++ p) → IsPassedOn p
passed_by_then (Head b) [] p next l = l.1
passed_by_then (Accepts n) [] p next l = absurd next
passed_by_then (Answer n reply) [] p next l = absurd next
passed_by_then (Sent f n slot) [] p next l = absurd next
passed_by_then (Gets f n slot reply) [] p next l = absurd next
passed_by_then (Ends f) [] p next l = absurd next
passed_by_then (Begins f e of) [] p next l = absurd next
passed_by_then (EndsExchange e) [] p next l = absurd next
passed_by_then (Drops e) [] p next l = absurd next
passed_by_then Other [] p next l = absurd next
passed_by_then e (x ∷ later) p next l = passed_by_then x later p next l.0

passed_by_the_end :
    (later p : List Fact) → BeginsWithAHead later → RepliesWereLawful (later ++ p) →
    IsPassedOn (later ++ p) → IsPassedOn p
passed_by_the_end [] p next l passed = passed
passed_by_the_end (e ∷ later) p next l passed = passed_by_then e later p next l

module _ (p : List Fact) (l : RepliesWereLawful p) (passed : IsPassedOn p) where
  lawful_at :
      (later earlier : List Fact) (e : Fact) → p ≡ later ++ (e ∷ earlier) →
      RepliesWereLawful (e ∷ earlier)
  lawful_at later earlier e at = replies_before later (e ∷ earlier) (subst RepliesWereLawful at l)

  passed_on :
      (later event before : List Fact) (f n : ℕ) (slot : Option ℕ) (reply : Reply) →
      p ≡ later ++ (event ++ (Head true ∷ before)) → IsInOneEvent event → BeginsWithAHead later →
      Stands (Answer n reply) event → Stands (Sent f n slot) (event ++ (Head true ∷ before)) →
      (Stands (Ends f) before → ⊥) → Stands (Gets f n slot reply) event
  passed_on later event before f n slot reply at one next answers sends lives =
      let q : List Fact = event ++ (Head true ∷ before) in
      let lawful : RepliesWereLawful (later ++ q) = subst RepliesWereLawful at l in
      let kept : RepliesWereLawful q = replies_before later q lawful in
      let now : IsPassedOn q = passed_by_the_end later q next lawful (subst IsPassedOn at passed) in
      let mine : is_mine q ≡ true = own_is_mine event before one in
      let told : answer q ≡ Some (record { call = n; reply = reply }) =
      one_answer event before n reply one kept answers in
      let by : Waiter = record { fibril = f; slot = slot } in
      let alive : had_ended f q ≡ false =
      had_not_ended event before f one ∙ not_ended before f lives in
      let sender : sent n q ≡ Some by = one_sender q f n slot kept sends in
      got_stands event before f n slot reply (now n reply by mine told sender alive)

  pub each_reply_reaches : EachReplyReachesItsFibril p
  each_reply_reaches =
      record {
        outcome = λ later earlier f n slot reply at.
            let it = (lawful_at later earlier (Gets f n slot reply) at).1 in
            in_own_event earlier n reply it.0 it.1;
        sent = λ later earlier f n slot reply at.
            sent_stands earlier n f slot (lawful_at later earlier (Gets f n slot reply) at).1.2;
        once = λ later earlier f n slot reply at g from other s.
            got_once later earlier f n slot reply (subst RepliesWereLawful at l) g from other s;
        passed_on = passed_on;
      }

pub replies_reach_their_fibril :
    (h : List Entry) → ((t : ℕ) → RepliesWereLawful (facts t h)) →
    ((t : ℕ) → IsPassedOn (facts t h)) → RepliesReachTheirFibril h
replies_reach_their_fibril h l passed t = each_reply_reaches (facts t h) (l t) (passed t)
