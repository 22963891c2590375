-- What each change of the calls does to the pool, and to the account of an event so far.
use Rattle.std.proofs.Common.{◌≡◌, ℕ, ◌+◌, ◌<◌, ◌≤◌, inl, inr, List, [], ◌∷◌, ◌++◌, length, None, Some, refl, ap, sym, ◌∙◌, arith}
use Rattle.std.specs.FinMap.{entries, insert}
use Rattle.ipc_ids.specs.declared.entry.Entry.{Entry}
use Rattle.call_slab.specs.declared.call.Call.{Call}
use Rattle.call_slab.specs.declared.call.Place.{Place}
use Rattle.answerbox.specs.Calls.{CallTable, call_at, put_at, enqueue, without_call, sum_of, bytes_in, used}
use Rattle.answerbox.proofs.Used.{used-enqueue, used-without_call, used-with_record}
use Rattle.switchboard.specs.State.{KernelState}
use Rattle.switchboard.specs.Sound.{IsSound}
use Rattle.kernel_laws.specs.PoolLaws.{bytes_of_calls, pool, bytes_of, ended_by, total}
use Rattle.kernel_laws.proofs.Tables.{came_in, came_by, gone_by, none_past, none_above}

-- the pool is what the boxes count
pub pool-used : (k : KernelState) → pool k ≡ used k.calls
pool-used k = by_list (entries k.calls.records) where
  by_list : (es : List (ℕ × Call)) → bytes_of_calls es ≡ sum_of bytes_in es
  by_list [] = refl
  by_list (e ∷ es) = ap (λ n. length e.1.buffer + n) (by_list es)

pub total-append : (f : Entry → ℕ) (xs ys : List Entry) → total f (xs ++ ys) ≡ total f xs + total f ys
total-append f [] ys = omega arith
total-append f (x ∷ xs) ys = let h = total-append f xs ys in omega (arith, h)

-- the account of an event that began in the state k: the entries so far, and the calls after them
module _ (k : KernelState) (sound : IsSound k) where
  pub record IsAccounted (es : List Entry) (q : CallTable) : Type 0 where
    pub named : (n : ℕ) (c : Call) → call_at q n ≡ Some c → c.number.0 ≡ n
    pub below : (n : ℕ) (c : Call) → call_at q n ≡ Some c → n < q.next_number
    pub later : k.calls.next_number ≤ q.next_number
    -- a call that is live carries what it carried at first
    pub same : (n : ℕ) (c : Call) → call_at q n ≡ Some c → bytes_of (call_at k.calls n) ≡ length c.buffer
    pub given : used q + total (ended_by k.calls) es ≡ used k.calls

  pub accounted_first : IsAccounted [] k.calls
  accounted_first = record {
    named = λ n c is. (sound.calls.each n c is).number;
    below = λ n c is. (sound.calls.each n c is).below;
    later = omega arith;
    same = λ n c is. ap bytes_of is;
    given = omega arith;
  }

  -- entries that end no call, while the calls stay as they are
  pub accounted_quiet : (es new : List Entry) (q : CallTable) → total (ended_by k.calls) new ≡ 0 → IsAccounted es q → IsAccounted (es ++ new) q
  accounted_quiet es new q quiet a = record {
    named = a.named;
    below = a.below;
    later = a.later;
    same = a.same;
    given = let g = a.given in let t = total-append (ended_by k.calls) es new in omega (arith, g, t, quiet);
  }

  -- a record in the place of another that carries as much
  pub accounted_replaced : (es new : List Entry) (q : CallTable) (c d : Call) (stamp : ℕ) → call_at q d.number.0 ≡ Some c → d.buffer ≡ c.buffer → total (ended_by k.calls) new ≡ 0 → IsAccounted es q → IsAccounted (es ++ new) (record { records = insert q.records d.number.0 d; next_number = q.next_number; next_stamp = stamp })
  accounted_replaced es new q c d stamp is bytes quiet a = record {
    named = λ n e at. elim (came_in q d.number.0 n d e at) [
      | inl h ↦ ap (λ (x : Call). x.number.0) (sym h.1) ∙ h.0
      | inr h ↦ a.named n e h.1
    ];
    below = λ n e at. elim (came_in q d.number.0 n d e at) [
      | inl h ↦ (let l = a.below d.number.0 c is in let s = h.0 in omega (arith, l, s))
      | inr h ↦ a.below n e h.1
    ];
    later = a.later;
    same = λ n e at. elim (came_in q d.number.0 n d e at) [
      | inl h ↦
          ap (λ m. bytes_of (call_at k.calls m)) (sym h.0) ∙ a.same d.number.0 c is ∙ ap length (sym bytes)
          ∙ ap (λ (x : Call). length x.buffer) h.1
      | inr h ↦ a.same n e h.1
    ];
    given =
        let sum = used-with_record q c d is in
        let size : length d.buffer ≡ length c.buffer = ap length bytes in
        let g = a.given in
        let t = total-append (ended_by k.calls) es new in
        omega (arith, sum, size, g, t, quiet);
  }

  -- it goes to a place
  pub accounted_put : (es new : List Entry) (q : CallTable) (c d : Call) (place : Place) → call_at q d.number.0 ≡ Some c → d.buffer ≡ c.buffer → total (ended_by k.calls) new ≡ 0 → IsAccounted es q → IsAccounted (es ++ new) (put_at q d place)
  accounted_put es new q c d place is bytes quiet a = accounted_replaced es new q c (record d { place = place; stamp = q.next_stamp }) (q.next_stamp + 1) is bytes quiet a

  -- a call is over, and an entry says so
  pub accounted_gone : (es new : List Entry) (q : CallTable) (c : Call) → call_at q c.number.0 ≡ Some c → total (ended_by k.calls) new ≡ bytes_of (call_at k.calls c.number.0) → IsAccounted es q → IsAccounted (es ++ new) (without_call q c.number.0)
  accounted_gone es new q c is told a = record {
    named = λ n e at. a.named n e (gone_by q c.number.0 n e at);
    below = λ n e at. a.below n e (gone_by q c.number.0 n e at);
    later = a.later;
    same = λ n e at. a.same n e (gone_by q c.number.0 n e at);
    given =
        let sum = used-without_call q c.number.0 c is in
        let own = a.same c.number.0 c is in
        let g = a.given in
        let t = total-append (ended_by k.calls) es new in
        omega (arith, sum, own, g, t, told);
  }

  -- it brings no bytes
  pub accounted_come : (es new : List Entry) (q : CallTable) (d : Call) → d.number.0 ≡ q.next_number → d.buffer ≡ [] → total (ended_by k.calls) new ≡ 0 → IsAccounted es q → IsAccounted (es ++ new) (enqueue q d)
  accounted_come es new q d next bytes quiet a = record {
    named = λ n e at. elim (came_by q d e n at) [
      | inl h ↦ ap (λ (x : Call). x.number.0) (sym h.1) ∙ h.0
      | inr h ↦ a.named n e h
    ];
    below = λ n e at. elim (came_by q d e n at) [
      | inl h ↦ (let s = h.0 in omega (arith, s, next))
      | inr h ↦ (let l = a.below n e h in omega (arith, l))
    ];
    later = let l = a.later in omega (arith, l);
    same = λ n e at. elim (came_by q d e n at) [
      | inl h ↦
          ap bytes_of (none_above k sound n (let s = h.0 in let l = a.later in omega (arith, s, l, next)))
          ∙ ap length (sym bytes) ∙ ap (λ (x : Call). length x.buffer) h.1
      | inr h ↦ a.same n e h
    ];
    given =
        let free : call_at q d.number.0 ≡ None = ap (call_at q) next ∙ none_past q a.below q.next_number (omega arith) in
        let sum = used-enqueue q d free in
        let size : length d.buffer ≡ 0 = ap length bytes in
        let g = a.given in
        let t = total-append (ended_by k.calls) es new in
        omega (arith, sum, size, g, t, quiet);
  }
