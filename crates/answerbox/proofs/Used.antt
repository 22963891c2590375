-- How many bytes the live calls carry together, after each change of the calls.
use Rattle.std.proofs.Common.{◌≡◌, ℕ, ◌≤◌, ◌<◌, ◌^◌, length, ◌+◌, Bool, true, false, cond, List, [], ◌∷◌, Option, None, Some, refl, ap, sym, ◌∙◌, arith}
use Rattle.std.specs.Prelude.{option_map}
use Rattle.std.specs.Ordering.{nat_cmp, eq_by_cmp, is_eq}
use Rattle.std.specs.Cmp.{nat_cmp_total}
use Rattle.std.specs.declared.cmp.Ordering.{Ordering}
use Rattle.std.specs.declared.cmp.Ordering.TheVariants.{Less, Equal, Greater}
use Rattle.std.specs.FinMap.{FinMap, find, put, get, insert, remove, entries, len, len-entries, get-entries, get-insert, get-remove, entries-insert, same_map, nat_cmp-IsAntisymmetric}
use Rattle.std.specs.FinMap.Entries.{by_order}
use Rattle.std.proofs.lemmas.Option.{same_Some}
use Rattle.ipc_ids.proofs.Common.{own_key, same_by_keys}
use Rattle.call_slab.specs.declared.call.Call.{Call}
use Rattle.call_slab.specs.declared.call.Place.{Place}
use Rattle.answerbox.specs.Calls.{CallTable, call_at, enqueue, without_call, with_record, with_change, put_at, sum_of, bytes_in, used}
use Rattle.call_slab.specs.declared.change.Change.{Change}
use Rattle.call_slab.specs.declared.change.Change.TheVariants.{Receipt, Answer, AnswerWith, Address, Message, Request, Reply, Reserved, Bytes}
use Rattle.call_slab.specs.Change.{changed}
use Rattle.answerbox.specs.Change.{MayBring, gone}
use Rattle.call_slab.specs.Calls.{CallsState}
use Rattle.answerbox.specs.Chain.{Core, cores}
use Rattle.answerbox.specs.Stored.{calls_in, Named}
use Rattle.answerbox.proofs.Names.{look, under}
use Rattle.answerbox.proofs.Keeping.{table_of}
use Rattle.answerbox.proofs.Counts.{insert-remove, remove-insert, apart}

placed : (o : Ordering) (n : ℕ) (c : Call) (w : Call → ℕ) (e : ℕ × Call) (es rest : List (ℕ × Call)) → is_eq o ≡ false → sum_of w rest ≡ w c + sum_of w es → sum_of w (by_order o ((n, c) ∷ e ∷ es) ((e.0, c) ∷ es) (e ∷ rest)) ≡ w c + sum_of w (e ∷ es)
placed Less n c w e es rest apart h = refl
placed Equal n c w e es rest apart h = absurd (cc apart)
placed Greater n c w e es rest apart h = omega arith

sum-put : (w : Call → ℕ) (n : ℕ) (c : Call) (es : List (ℕ × Call)) → find nat_cmp n es ≡ None → sum_of w (put nat_cmp n c es) ≡ w c + sum_of w es
sum-put w n c [] h = refl
sum-put w n c (e ∷ es) h =
    let there = apart (is_eq (nat_cmp n e.0)) (Some e.1) (find nat_cmp n es) e.1 refl h in
    placed (nat_cmp n e.0) n c w e es (put nat_cmp n c es) there.0 (sum-put w n c es there.1)

sum-insert : (w : Call → ℕ) (m : FinMap nat_cmp Call) (n : ℕ) (c : Call) → get m n ≡ None → sum_of w (entries (insert m n c)) ≡ w c + sum_of w (entries m)
sum-insert w m n c h = rw (entries-insert nat_cmp_total m n c) (sum-put w n c (entries m) (sym (get-entries m n) ∙ h))

sum-remove : (w : Call → ℕ) (m : FinMap nat_cmp Call) (n : ℕ) (c : Call) → get m n ≡ Some c → sum_of w (entries m) ≡ w c + sum_of w (entries (remove m n))
sum-remove w m n c is = ap (λ (x : FinMap nat_cmp Call). sum_of w (entries x)) (insert-remove m n c is) ∙ sum-insert w (remove m n) n c (get-remove nat_cmp_total m n n ∙ rw (own_key n))

sum-replace : (w : Call → ℕ) (m : FinMap nat_cmp Call) (n : ℕ) (c d : Call) → get m n ≡ Some c → w c + sum_of w (entries (insert m n d)) ≡ w d + sum_of w (entries m)
sum-replace w m n c d is =
    let out = sum-remove w m n c is in
    let back = sum-remove w (insert m n d) n d (get-insert nat_cmp_total m n d n ∙ rw (own_key n)) in
    let same = ap (λ (x : FinMap nat_cmp Call). sum_of w (entries x)) (remove-insert m n d) in
    omega arith

none_of : (w : Call → ℕ) (es : List (ℕ × Call)) → length es ≡ 0 → sum_of w es ≡ 0
none_of w [] h = refl
none_of w (e ∷ es) h = absurd (omega arith)

-- where there is no call, no bytes are carried
pub sum-none : (w : Call → ℕ) (m : FinMap nat_cmp Call) → len m ≡ 0 → sum_of w (entries m) ≡ 0
sum-none w m h = none_of w (entries m) (sym (len-entries m) ∙ h)

-- a new call brings its bytes
pub used-enqueue : (q : CallTable) (c : Call) → call_at q c.number.0 ≡ None → used (enqueue q c) ≡ length c.buffer + used q
used-enqueue q c free = sum-insert bytes_in q.records c.number.0 (record c { stamp = q.next_stamp }) free

-- a call that is over takes them with it
pub used-without_call : (q : CallTable) (n : ℕ) (c : Call) → call_at q n ≡ Some c → used q ≡ length c.buffer + used (without_call q n)
used-without_call q n c is = sum-remove bytes_in q.records n c is

-- a record in the place of another
pub used-with_record : (q : CallTable) (c d : Call) → call_at q d.number.0 ≡ Some c → length c.buffer + used (with_record q d) ≡ length d.buffer + used q
used-with_record q c d is = sum-replace bytes_in q.records d.number.0 c d is

pub used-put_at : (q : CallTable) (c d : Call) (place : Place) → call_at q d.number.0 ≡ Some c → length c.buffer + used (put_at q d place) ≡ length d.buffer + used q
used-put_at q c d place is = sum-replace bytes_in q.records d.number.0 c (record d { place = place; stamp = q.next_stamp }) is

-- each call stands under its number
abbrev pub AreNamed : CallTable → Type 0
AreNamed q = (n : ℕ) (c : Call) → call_at q n ≡ Some c → c.number.0 ≡ n

-- the live call with this number is given something and goes to a place
pub used-gone : (q : CallTable) (n : ℕ) (f : Call → Call) (place : Place) (c : Call) → AreNamed q → ((d : Call) → (f d).number ≡ d.number) → call_at q n ≡ Some c → length c.buffer + used (gone q n f place) ≡ length (f c).buffer + used q
used-gone q n f place c named number is =
    let under : call_at q (f c).number.0 ≡ Some c = ap (λ m. call_at q m.0) (number c) ∙ ap (call_at q) (named n c is) ∙ is in
    rw is (used-put_at q c (f c) place under)

-- the live call with this number is given something where it stands
pub used-changed : (q : CallTable) (n : ℕ) (f : Call → Call) (c : Call) → AreNamed q → ((d : Call) → (f d).number ≡ d.number) → call_at q n ≡ Some c → length c.buffer + used (with_change q n f) ≡ length (f c).buffer + used q
used-changed q n f c named number is =
    let under : call_at q (f c).number.0 ≡ Some c = ap (λ m. call_at q m.0) (number c) ∙ ap (call_at q) (named n c is) ∙ is in
    rw is (used-with_record q c (f c) under)

same_sum : (x a b : ℕ) → x + a ≡ x + b → a ≡ b
same_sum x a b h = omega arith

-- what leaves the bytes of a call leaves those of all
pub used-changed_same : (q : CallTable) (n : ℕ) (f : Call → Call) → AreNamed q → ((d : Call) → (f d).number ≡ d.number) → ((d : Call) → (f d).buffer ≡ d.buffer) → used (with_change q n f) ≡ used q
used-changed_same q n f named number bytes = by_call (call_at q n) refl where
  by_call : (o : Option Call) → call_at q n ≡ o → used (with_change q n f) ≡ used q
  by_call None is = rw is refl
  by_call (Some c) is =
      let under : call_at q (f c).number.0 ≡ Some c = ap (λ m. call_at q m.0) (number c) ∙ ap (call_at q) (named n c is) ∙ is in
      rw is (same_sum (length c.buffer) _ _ (used-with_record q c (f c) under ∙ ap (λ (bytes : List ℕ). length bytes + used q) (bytes c)))

-- in the boxes each call stands under its number
pub are_named : (a : CallsState) (number stamp : ℕ) → Named (cores a.slots) (get a.keys) → AreNamed (table_of a number stamp)
are_named a number stamp nm n c is = by_key (get a.keys n) refl (sym (look a n nm) ∙ is) where
  by_core : (k : ℕ) (d : Core) → cores a.slots k ≡ Some d → d.call.number.0 ≡ n → option_map (λ e. e.call) (cores a.slots k) ≡ Some c → c.number.0 ≡ n
  by_core k d at same there = let is : d.call ≡ c = same_Some d.call c (ap (option_map (λ e. e.call)) (sym at) ∙ there) in ap (λ (x : Call). x.number.0) (sym is) ∙ same

  by_key : (o : Option ℕ) → get a.keys n ≡ o → under (cores a.slots) o ≡ Some c → c.number.0 ≡ n
  by_key None at there = absurd (cc there)
  by_key (Some k) at there = let d = nm.names n k at in by_core k d.0 d.1 d.2 there

-- the counter after a call was given something
pub used_is : (after before bytes new old now : ℕ) → after + before ≡ old + bytes → before + new ≡ bytes + now → (x : ℕ) → x ≡ new → old ≡ now → after ≡ x
used_is after before bytes new old now made sum x is was = omega arith

pub few_after : (change : Change) (c : Call) (old after : ℕ) → after + length c.buffer ≡ old + length (changed change c).buffer → old < 2 ^ 63 → MayBring old change → after < 2 ^ 63
few_after (Receipt msg reserved) c old after is few may = omega (arith, is, few)
few_after (Answer reply reserved) c old after is few may = omega (arith, is, few)
few_after (AnswerWith reply bytes) c old after is few may = omega (arith, is, may)
few_after (Address msg label reserved) c old after is few may = omega (arith, is, few)
few_after (Message msg label) c old after is few may = omega (arith, is, few)
few_after (Request request) c old after is few may = omega (arith, is, few)
few_after (Reply reply) c old after is few may = omega (arith, is, few)
few_after (Reserved reserved) c old after is few may = omega (arith, is, few)
few_after (Bytes bytes) c old after is few may = omega (arith, is, may)

-- no call carries more than all
pub carried : (q : CallTable) (n : ℕ) (c : Call) (all : ℕ) → call_at q n ≡ Some c → all ≡ used q → length c.buffer ≤ all
carried q n c all is same = let sum = used-without_call q n c is in omega (arith, sum, same)

pub same_calls : (a b : CallsState) → b.slots ≡ a.slots → b.keys ≡ a.keys → calls_in b ≡ calls_in a
same_calls a b slots keys = rw (slots, keys) refl

unchanged_map : (m : FinMap nat_cmp Call) (n : ℕ) → get m n ≡ None → remove m n ≡ m
unchanged_map m n none = same_map nat_cmp_total nat_cmp-IsAntisymmetric _ _ (λ q. get-remove nat_cmp_total m n q ∙ by (eq_by_cmp nat_cmp q n) q refl) where
  by : (b : Bool) (q : ℕ) → eq_by_cmp nat_cmp q n ≡ b → cond b None (get m q) ≡ get m q
  by true q t = sym (ap (get m) (same_by_keys q n t) ∙ none)
  by false q t = refl

-- a call that is over, where there is one, leaves no more
pub used-less : (q : CallTable) (n : ℕ) → used (without_call q n) ≤ used q
used-less q n = by_call (call_at q n) refl where
  by_call : (o : Option Call) → call_at q n ≡ o → used (without_call q n) ≤ used q
  by_call None none = let same = ap (λ (m : FinMap nat_cmp Call). sum_of bytes_in (entries m)) (unchanged_map q.records n none) in omega (arith, same)
  by_call (Some c) is = let sum = used-without_call q n c is in omega (arith, sum)

-- no more is carried after a record that carries as much in place of another
pub same_room : (q : CallTable) (c d : Call) (most : ℕ) → used q ≤ most → d.buffer ≡ c.buffer → length d.buffer + used q ≤ length c.buffer + most
same_room q c d most few same = let bytes : length d.buffer ≡ length c.buffer = ap length same in omega (arith, few, bytes)

pub few_put : (q : CallTable) (c d : Call) (place : Place) (most : ℕ) → call_at q d.number.0 ≡ Some c → length d.buffer + used q ≤ length c.buffer + most → used (put_at q d place) ≤ most
few_put q c d place most is room = let sum = used-put_at q c d place is in omega (arith, sum, room)

pub few_record : (q : CallTable) (c d : Call) (most : ℕ) → call_at q d.number.0 ≡ Some c → length d.buffer + used q ≤ length c.buffer + most → used (with_record q d) ≤ most
few_record q c d most is room = let sum = used-with_record q c d is in omega (arith, sum, room)

pub few_enqueue : (q : CallTable) (c : Call) (most : ℕ) → call_at q c.number.0 ≡ None → used q + length c.buffer ≤ most → used (enqueue q c) ≤ most
few_enqueue q c most free room = let sum = used-enqueue q c free in omega (arith, sum, room)
