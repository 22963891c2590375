-- What each call of the boxes keeps, and what it does to the live calls.
use Rattle.std.proofs.Common.{◌≡◌, ℕ, zero, suc, ◌+◌, ◌*◌, ◌<◌, ◌≤◌, ◌^◌, cond, List, length, [], ◌∷◌, Option, None, Some, IsSome, IfSome, option_map, refl, sym, ap, ◌∙◌, arith, ⊎_elim, T}
use Rattle.std.specs.Ordering.{nat_cmp}
use Rattle.std.specs.Cmp.{nat_cmp_total}
use Rattle.std.specs.Prelude.{Result, Ok, Err, OnOk, OnErr}
use Rattle.std.specs.FinMap.{FinMap, find, get, insert, remove, entries, entries_sorted, is_sorted, len, len-entries, get-entries, get-insert, get-remove, get-empty, empty, same_map, nat_cmp-IsAntisymmetric}
use Rattle.std.proofs.lemmas.Bool.{cases_eq}
use Rattle.std.proofs.lemmas.Option.{same_Some}
use Rattle.call_slab.specs.declared.call.Call.{Call}
use Rattle.call_slab.specs.declared.call.Place.{Place}
use Rattle.call_slab.specs.declared.slots.Slot.{Slot}
use Rattle.call_slab.specs.Calls.{CallsState, call_of, links_of, name_of, change_call}
use Rattle.answerbox.specs.declared.chains.Ends.{Ends}
use Rattle.answerbox.specs.declared.chains.Chain.{Chain}
use Rattle.answerbox.specs.declared.chains.Chain.TheVariants.{Queue, Own}
use Rattle.answerbox.specs.Order.{Spot, Linked}
use Rattle.answerbox.specs.Calls.{task_of, count_of, CallTable, without_call, with_change}
use Rattle.call_slab.specs.declared.change.Change.{Change}
use Rattle.call_slab.specs.declared.change.Change.TheVariants.{Receipt, Answer, AnswerWith, Address, Message, Request, Reply, Reserved, Bytes}
use Rattle.call_slab.specs.Change.{changed}
use Rattle.answerbox.specs.Change.{gone}
use Rattle.answerbox.specs.Chain.{Slots, Core, core, cores, place_index, row_of, spot_at, spots, Chained, no_ends, first_of, last_of, count_at, AreFew, with_slots, appended_rows, unlinked_rows, more_queues, more_owns, IsGrown}
use Rattle.answerbox.specs.Moving.{row_at, placed, out_rows, moved_slots, moved_rows, new_slots, left_slots, no_caller, forgotten_slots}
use Rattle.answerbox.specs.Stored.{calls_in, Named, NumbersBelow, Stored, tasks_of, room_of, is_row, stands_in, Counted}
use Rattle.answerbox.proofs.Counts.{count-insert, count-remove, count-swap, count-none}
use Rattle.answerbox.proofs.Counted.{counted_out, counted_in, counted_kept, counted_as, few_counts, row_at_core, row_within, within_as}
use Rattle.answerbox.proofs.Chain.{other_key, within_ends, length-unlinked, length-appended}
use Rattle.ipc_ids.specs.declared.numbers.TaskNo.{TaskNo}
use Rattle.ipc_ids.proofs.Common.{keys_of_same}
use Rattle.call_slab.specs.declared.call.Place.TheVariants.{Incoming, Dispatched, Answers}
use Rattle.call_slab.proofs.Live.{tie, past_tie}
use Rattle.answerbox.proofs.Fronts.{first, second, greater}
use Rattle.answerbox.proofs.Names.{under, look, named_put, named_out, calls_put, calls_out, one_number}
use Rattle.answerbox.proofs.Moving.{core_is, call_here, call_there, changed_chain, moved_queue, moved_own, moved_here, moved_there, new_queue, new_own, new_here, new_there, left_queue, left_own, left_here, left_there, forgotten_queue, forgotten_own, forgotten_here, forgotten_there}

-- the calls, with the next number and stamp
abbrev pub table_of : CallsState → ℕ → ℕ → CallTable
table_of a number stamp = record { records = calls_in a; next_number = number; next_stamp = stamp }

abbrev pub table_with : FinMap nat_cmp Call → ℕ → ℕ → CallTable
table_with m number stamp = record { records = m; next_number = number; next_stamp = stamp }

-- a change of one call that keeps its number
module _ (a b : CallsState) (n k : ℕ) (f : Call → Call) (kept : (c : Call) → (f c).number ≡ c.number) (nm : Named (cores a.slots) (get a.keys)) (at : get a.keys n ≡ Some k)
    (here : (c : Core) → cores a.slots k ≡ Some c → cores b.slots k ≡ Some (record { name = c.name; call = f c.call })) (others : (j : ℕ) → (j ≡ k → ⊥) → cores b.slots j ≡ cores a.slots j) (keys : b.keys ≡ a.keys) where
  own : (c : Core) × (cores a.slots k ≡ Some c) × (c.call.number.0 ≡ n)
  own = nm.names n k at

  change_named : Named (cores b.slots) (get b.keys)
  change_named =
      let had = nm.known k own.0 own.1 in
      named_put (cores a.slots) (cores b.slots) (get a.keys) (get b.keys) n k (λ r t. ap (λ m. get m r) keys) others (record { name = own.0.name; call = f own.0.call })
      nm (ap (λ m. get m n) keys ∙ at) (here own.0 own.1) (ap (λ m. m.0) (kept own.0.call) ∙ own.2) (had.1 ∙ own.2)
      (λ r e. one_number a n k r nm at e) (λ j e. same_Some j k (sym e ∙ at))

  change_numbers : (number : ℕ) → NumbersBelow (cores a.slots) number → NumbersBelow (cores b.slots) number
  change_numbers number below j d e =
      ⊎_elim
      (λ (t : j ≡ k).
      let new : Core = record { name = own.0.name; call = f own.0.call } in
      let same : new ≡ d = same_Some new d (sym (here own.0 own.1) ∙ ap (cores b.slots) (sym t) ∙ e) in
      let num : d.call.number.0 ≡ own.0.call.number.0 = ap (λ (x : Core). x.call.number.0) (sym same) ∙ ap (λ m. m.0) (kept own.0.call) in
      rw num (below k own.0 own.1))
      (λ (t : j ≡ k → ⊥). below j d (sym (others j t) ∙ e))
      (cases_eq j k)

  change_at : get (calls_in a) n ≡ Some own.0.call
  change_at = look a n nm ∙ ap (under (cores a.slots)) at ∙ ap (option_map (λ (c : Core). c.call)) own.1

  change_is : calls_in b ≡ insert (calls_in a) n (f own.0.call)
  change_is =
      calls_put a b n k (record { name = own.0.name; call = f own.0.call }) nm change_named (λ r t. ap (λ m. get m r) keys) others (ap (λ m. get m n) keys ∙ at) (here own.0 own.1)
      (λ r e. one_number a n k r nm at e)

  pub change_table : (number stamp : ℕ) → table_of b number stamp ≡ with_change (table_of a number stamp) n f
  change_table number stamp =
      rw change_at (ap (λ m. table_with m number stamp) (change_is ∙ ap (λ r. insert (calls_in a) r (f own.0.call)) (sym (ap (λ m. m.0) (kept own.0.call) ∙ own.2))))

-- a call that is given something: x has it
module _ (a x : CallsState) (queues owns : List Ends) (number stamp n k : ℕ) (f : Call → Call)
    (number_kept : (c : Call) → (f c).number ≡ c.number) (queue_kept : (c : Call) → row_of Queue (f c) ≡ row_of Queue c) (stamp_kept : (c : Call) → (f c).stamp ≡ c.stamp) (caller_kept : (c : Call) → (f c).caller ≡ c.caller)
    (q : Stored a queues owns number stamp) (at : get a.keys n ≡ Some k) (given : x ≡ change_call a k f) where
  given_slots : x.slots ≡ (change_call a k f).slots
  given_slots = ap (λ (y : CallsState). y.slots) given

  given_here : (c : Core) → cores a.slots k ≡ Some c → cores x.slots k ≡ Some (record { name = c.name; call = f c.call })
  given_here c e = ap (λ (m : Slots). cores m k) given_slots ∙ call_here f a.slots k c e

  given_there : (j : ℕ) → (j ≡ k → ⊥) → cores x.slots j ≡ cores a.slots j
  given_there j t = ap (λ (m : Slots). cores m j) given_slots ∙ call_there f a.slots k j t

  pub given_queue : Chained Queue x.slots queues stamp
  given_queue = rw given_slots (changed_chain Queue f queue_kept (λ c. stamp_kept c) a.slots queues stamp k q.queued)

  given_own : Chained Own x.slots owns number
  given_own = rw given_slots (changed_chain Own f (λ c. ap (option_map (λ t. t.0)) (caller_kept c)) (λ c. ap (λ m. m.0) (number_kept c)) a.slots owns number k q.listed)

  pub given_live : IsSome (get x.slots k)
  given_live = let own = q.named.names n k at in let s = core_is (get x.slots k) _ (given_here own.0 own.1) in rw s.1 refl

  given_keys : x.keys ≡ a.keys
  given_keys = ap (λ (y : CallsState). y.keys) given

  giver : (c : Core) × (cores a.slots k ≡ Some c) × (c.call.number.0 ≡ n)
  giver = q.named.names n k at

  given_at : get (calls_in a) n ≡ Some giver.0.call
  unfolding own giver
  given_at = change_at a x n k f number_kept q.named at given_here given_there given_keys

  given_is : calls_in x ≡ insert (calls_in a) n (f giver.0.call)
  unfolding own giver
  given_is = change_is a x n k f number_kept q.named at given_here given_there given_keys

  given_counts : (ch : Chain) (es : List Ends) → ((c : Call) → row_of ch (f c) ≡ row_of ch c) → Counted ch es (calls_in a) → Counted ch es (calls_in x)
  given_counts ch es kept counted =
      let m = calls_in a in
      let d = giver.0.call in
      counted_as ch es es _ (calls_in x) refl given_is
      (counted_kept ch es m (insert m n (f d)) counted (λ j.
      count-swap (stands_in ch j) m n (f d)
      ∙ ap (λ (r : Option ℕ). cond (is_row r j) 1 0 + count_of (stands_in ch j) (entries (remove m n))) (kept d)
      ∙ sym (count-remove (stands_in ch j) m n d given_at)))

  pub given_keeps : Stored x queues owns number stamp
  given_keeps =
      record {
        named = change_named a x n k f number_kept q.named at given_here given_there given_keys;
        numbers = change_numbers a x n k f number_kept q.named at given_here given_there given_keys number q.numbers;
        first = q.first;
        queued = given_queue;
        listed = given_own;
        rows = q.rows;
        few = q.few;
        last = rw (ap (λ (y : CallsState). y.last) given) q.last;
        queue_counts = given_counts Queue queues queue_kept q.queue_counts;
        own_counts = given_counts Own owns (λ c. ap (option_map (λ t. t.0)) (caller_kept c)) q.own_counts;
      }

  pub given_table : table_of x number stamp ≡ with_change (table_of a number stamp) n f
  given_table = change_table a x n k f number_kept q.named at given_here given_there given_keys number stamp

-- a call that is given something and goes to another place: x has it before it goes
module _ (a x b : CallsState) (queues qs owns : List Ends) (number stamp n k : ℕ) (place : Place) (f : Call → Call)
    (number_kept : (c : Call) → (f c).number ≡ c.number) (queue_kept : (c : Call) → row_of Queue (f c) ≡ row_of Queue c) (stamp_kept : (c : Call) → (f c).stamp ≡ c.stamp) (caller_kept : (c : Call) → (f c).caller ≡ c.caller)
    (q : Stored a queues owns number stamp) (at : get a.keys n ≡ Some k)
    (given : x ≡ change_call a k f) (goes : b ≡ with_slots x (moved_slots x.slots queues k place stamp)) (rows : qs ≡ moved_rows x.slots queues k place) (within : place_index place < length queues) where
  goes_slots : b.slots ≡ moved_slots x.slots queues k place stamp
  goes_slots = ap (λ (y : CallsState). y.slots) goes

  own_core : (c : Core) × (cores a.slots k ≡ Some c) × (c.call.number.0 ≡ n)
  own_core = q.named.names n k at

  goes_here : (c : Core) → cores a.slots k ≡ Some c → cores b.slots k ≡ Some (record { name = c.name; call = placed place stamp (f c.call) })
  goes_here c e = ap (λ (m : Slots). cores m k) goes_slots ∙ moved_here x.slots queues stamp k (record { name = c.name; call = f c.call }) place (given_queue a x queues owns number stamp n k f number_kept queue_kept stamp_kept caller_kept q at given) (given_here a x queues owns number stamp n k f number_kept queue_kept stamp_kept caller_kept q at given c e)

  goes_there : (j : ℕ) → (j ≡ k → ⊥) → cores b.slots j ≡ cores a.slots j
  goes_there j t =
      ap (λ (m : Slots). cores m j) goes_slots
      ∙ moved_there x.slots queues stamp k (record { name = own_core.0.name; call = f own_core.0.call }) place (given_queue a x queues owns number stamp n k f number_kept queue_kept stamp_kept caller_kept q at given) (given_here a x queues owns number stamp n k f number_kept queue_kept stamp_kept caller_kept q at given own_core.0 own_core.1) j t ∙ given_there a x queues owns number stamp n k f number_kept queue_kept stamp_kept caller_kept q at given j t

  goes_keys : b.keys ≡ a.keys
  goes_keys = ap (λ (y : CallsState). y.keys) goes ∙ ap (λ (y : CallsState). y.keys) given

  goes_at : get (calls_in a) n ≡ Some own_core.0.call
  unfolding own own_core
  goes_at = change_at a b n k (λ (c : Call). placed place stamp (f c)) number_kept q.named at goes_here goes_there goes_keys

  goes_is : calls_in b ≡ insert (calls_in a) n (placed place stamp (f own_core.0.call))
  unfolding own own_core
  goes_is = change_is a b n k (λ (c : Call). placed place stamp (f c)) number_kept q.named at goes_here goes_there goes_keys

  goes_row : row_at Queue x.slots k ≡ row_of Queue own_core.0.call
  goes_row =
      row_at_core Queue x.slots k (record { name = own_core.0.name; call = f own_core.0.call }) (given_here a x queues owns number stamp n k f number_kept queue_kept stamp_kept caller_kept q at given own_core.0 own_core.1)
      ∙ queue_kept own_core.0.call

  goes_queues : Counted Queue qs (calls_in b)
  goes_queues =
      let m = calls_in a in
      let d = own_core.0.call in
      let row = row_at Queue x.slots k in
      let links = links_of (get x.slots k) in
      let out =
      counted_out Queue queues m (remove m n) q.queue_counts row links (within_as row (row_of Queue d) (length queues) goes_row (row_within Queue a.slots queues stamp k own_core.0 q.queued own_core.1))
      (λ j. count-remove (stands_in Queue j) m n d goes_at ∙ ap (λ (r : Option ℕ). cond (is_row r j) 1 0 + count_of (stands_in Queue j) (entries (remove m n))) (sym goes_row)) in
      counted_as Queue _ qs _ (calls_in b) rows goes_is
      (counted_in Queue (unlinked_rows Queue queues row links) (remove m n) (insert m n (placed place stamp (f d))) out (Some (place_index place)) k (rw (length-unlinked Queue queues row links) within) (λ j. count-swap (stands_in Queue j) m n (placed place stamp (f d))))

  goes_owns : Counted Own owns (calls_in b)
  goes_owns =
      let m = calls_in a in
      let d = own_core.0.call in
      counted_as Own owns owns _ (calls_in b) refl goes_is
      (counted_kept Own owns m (insert m n (placed place stamp (f d))) q.own_counts (λ j.
      count-swap (stands_in Own j) m n (placed place stamp (f d))
      ∙ ap (λ (r : Option ℕ). cond (is_row r j) 1 0 + count_of (stands_in Own j) (entries (remove m n))) (ap (option_map (λ t. t.0)) (caller_kept d))
      ∙ sym (count-remove (stands_in Own j) m n d goes_at)))

  pub goes_keeps : Stored b qs owns number (stamp + 1)
  goes_keeps =
      let g = λ (c : Call). placed place stamp (f c) in
      let c : Core = record { name = own_core.0.name; call = f own_core.0.call } in
      let e = given_here a x queues owns number stamp n k f number_kept queue_kept stamp_kept caller_kept q at given own_core.0 own_core.1 in
      record {
        named = change_named a b n k g number_kept q.named at goes_here goes_there goes_keys;
        numbers = change_numbers a b n k g number_kept q.named at goes_here goes_there goes_keys number q.numbers;
        first = q.first;
        queued = rw (goes_slots, rows) (moved_queue x.slots queues stamp k c place (given_queue a x queues owns number stamp n k f number_kept queue_kept stamp_kept caller_kept q at given) e within);
        listed = rw goes_slots (moved_own x.slots queues stamp k c place (given_queue a x queues owns number stamp n k f number_kept queue_kept stamp_kept caller_kept q at given) e owns number (given_own a x queues owns number stamp n k f number_kept queue_kept stamp_kept caller_kept q at given));
        rows = rw rows (length-appended (out_rows Queue x.slots queues k) (Some (place_index place)) k ∙ length-unlinked Queue queues _ _) ∙ q.rows;
        few = q.few;
        last = rw (ap (λ (y : CallsState). y.last) goes ∙ ap (λ (y : CallsState). y.last) given) q.last;
        queue_counts = goes_queues;
        own_counts = goes_owns;
      }

  pub goes_table : table_of b number (stamp + 1) ≡ gone (table_of a number stamp) n f place
  unfolding own own_core
  goes_table =
      let g = λ (c : Call). placed place stamp (f c) in
      let is = change_at a b n k g number_kept q.named at goes_here goes_there goes_keys in
      let put = change_is a b n k g number_kept q.named at goes_here goes_there goes_keys in
      rw is (ap (λ m. table_with m number (stamp + 1)) (put ∙ ap (λ r. insert (calls_in a) r (g own_core.0.call)) (sym (ap (λ m. m.0) (number_kept own_core.0.call) ∙ own_core.2))))

  pub goes_spare : b.spare ≡ a.spare
  goes_spare = ap (λ (y : CallsState). y.spare) goes ∙ ap (λ (y : CallsState). y.spare) given

none_added : (x y : ℕ) → x ≡ 0 + y → y ≡ x
none_added x y e = omega arith

-- a call whose caller has ended
module _ (a b : CallsState) (queues owns os : List Ends) (number stamp n k : ℕ) (q : Stored a queues owns number stamp) (at : get a.keys n ≡ Some k)
    (goes : b ≡ with_slots a (forgotten_slots a.slots k)) (rows : os ≡ out_rows Own a.slots owns k) where
  forgot_slots : b.slots ≡ forgotten_slots a.slots k
  forgot_slots = ap (λ (y : CallsState). y.slots) goes

  forgot_here : (c : Core) → cores a.slots k ≡ Some c → cores b.slots k ≡ Some (record { name = c.name; call = no_caller c.call })
  forgot_here c e = ap (λ (m : Slots). cores m k) forgot_slots ∙ forgotten_here a.slots queues owns stamp number k c q.queued q.listed e

  forgot_other : (j : ℕ) → (j ≡ k → ⊥) → cores b.slots j ≡ cores a.slots j
  forgot_other j t = let own = q.named.names n k at in ap (λ (m : Slots). cores m j) forgot_slots ∙ forgotten_there a.slots queues owns stamp number k own.0 q.queued q.listed own.1 j t

  forgot_keys : b.keys ≡ a.keys
  forgot_keys = ap (λ (y : CallsState). y.keys) goes

  forgetter : (c : Core) × (cores a.slots k ≡ Some c) × (c.call.number.0 ≡ n)
  forgetter = q.named.names n k at

  forgot_at : get (calls_in a) n ≡ Some forgetter.0.call
  unfolding own forgetter
  forgot_at = change_at a b n k no_caller (λ c. refl) q.named at forgot_here forgot_other forgot_keys

  forgot_is : calls_in b ≡ insert (calls_in a) n (no_caller forgetter.0.call)
  unfolding own forgetter
  forgot_is = change_is a b n k no_caller (λ c. refl) q.named at forgot_here forgot_other forgot_keys

  forgot_queues : Counted Queue queues (calls_in b)
  forgot_queues =
      let m = calls_in a in
      let d = forgetter.0.call in
      counted_as Queue queues queues _ (calls_in b) refl forgot_is
      (counted_kept Queue queues m (insert m n (no_caller d)) q.queue_counts (λ j. count-swap (stands_in Queue j) m n (no_caller d) ∙ sym (count-remove (stands_in Queue j) m n d forgot_at)))

  forgot_owns : Counted Own os (calls_in b)
  forgot_owns =
      let m = calls_in a in
      let d = forgetter.0.call in
      let row = row_at Own a.slots k in
      let same = row_at_core Own a.slots k forgetter.0 forgetter.1 in
      counted_as Own _ os _ (calls_in b) rows forgot_is
      (counted_out Own owns m (insert m n (no_caller d)) q.own_counts row (links_of (get a.slots k)) (within_as row (row_of Own d) (length owns) same (row_within Own a.slots owns number k forgetter.0 q.listed forgetter.1))
      (λ j. count-remove (stands_in Own j) m n d forgot_at
      ∙ ap (λ (r : Option ℕ). cond (is_row r j) 1 0 + count_of (stands_in Own j) (entries (remove m n))) (sym same)
      ∙ ap (λ (y : ℕ). cond (is_row row j) 1 0 + y) (none_added (count_of (stands_in Own j) (entries (insert m n (no_caller d)))) (count_of (stands_in Own j) (entries (remove m n))) (count-swap (stands_in Own j) m n (no_caller d)))))

  pub forget_keeps : Stored b queues os number stamp
  forget_keeps =
      let own = q.named.names n k at in
      record {
        named = change_named a b n k no_caller (λ c. refl) q.named at forgot_here forgot_other forgot_keys;
        numbers = change_numbers a b n k no_caller (λ c. refl) q.named at forgot_here forgot_other forgot_keys number q.numbers;
        first = q.first;
        queued = rw forgot_slots (forgotten_queue a.slots queues owns stamp number k own.0 q.queued q.listed own.1);
        listed = rw (forgot_slots, rows) (forgotten_own a.slots queues owns stamp number k own.0 q.queued q.listed own.1);
        rows = q.rows ∙ ap (λ (m : ℕ). 3 * m) (sym (ap length rows ∙ length-unlinked Own owns _ _));
        few = q.few;
        last = rw (ap (λ (y : CallsState). y.last) goes) q.last;
        queue_counts = forgot_queues;
        own_counts = forgot_owns;
      }

  pub forget_table : table_of b number stamp ≡ with_change (table_of a number stamp) n no_caller
  forget_table = change_table a b n k no_caller (λ c. refl) q.named at forgot_here forgot_other forgot_keys number stamp

-- a call that leaves
module _ (a b : CallsState) (queues qs owns os : List Ends) (number stamp n k : ℕ) (q : Stored a queues owns number stamp) (at : get a.keys n ≡ Some k)
    (slots : b.slots ≡ left_slots a.slots k) (keys : b.keys ≡ remove a.keys (name_of (get a.slots k))) (qrows : qs ≡ out_rows Queue a.slots queues k) (orows : os ≡ out_rows Own a.slots owns k) where
  leaver : (c : Core) × (cores a.slots k ≡ Some c) × (c.call.number.0 ≡ n)
  leaver = q.named.names n k at

  leave_there : (j : ℕ) → (j ≡ k → ⊥) → cores b.slots j ≡ cores a.slots j
  leave_there j t = ap (λ (m : Slots). cores m j) slots ∙ left_there a.slots queues owns stamp number k leaver.0 q.queued q.listed leaver.1 j t

  leave_here : cores b.slots k ≡ None
  leave_here = ap (λ (m : Slots). cores m k) slots ∙ ap (option_map core) (left_here a.slots queues owns stamp number k leaver.0 q.queued q.listed leaver.1)

  leave_keys : b.keys ≡ remove a.keys n
  leave_keys =
      let had = q.named.known k leaver.0 leaver.1 in
      let s = core_is (get a.slots k) leaver.0 leaver.1 in
      keys ∙ ap (λ o. remove a.keys (name_of o)) s.1 ∙ ap (λ (c : Core). remove a.keys c.name) s.2 ∙ ap (remove a.keys) (had.1 ∙ leaver.2)

  leave_none : get b.keys n ≡ None
  leave_none = ap (λ m. get m n) leave_keys ∙ get-remove nat_cmp_total a.keys n n ∙ ap (λ t. cond t None (get a.keys n)) (keys_of_same n n refl)

  leave_other : (r : ℕ) → (r ≡ n → ⊥) → get b.keys r ≡ get a.keys r
  leave_other r t = ap (λ m. get m r) leave_keys ∙ get-remove nat_cmp_total a.keys n r ∙ ap (λ u. cond u None (get a.keys r)) (other_key r n t)

  leave_named : Named (cores b.slots) (get b.keys)
  leave_named = named_out (cores a.slots) (cores b.slots) (get a.keys) (get b.keys) n k leave_other leave_there q.named at leave_none leave_here

  leave_is : calls_in b ≡ remove (calls_in a) n
  leave_is = calls_out a b n k q.named leave_named leave_other leave_there leave_none (λ r e. one_number a n k r q.named at e)

  leave_at : get (calls_in a) n ≡ Some leaver.0.call
  leave_at = look a n q.named ∙ ap (under (cores a.slots)) at ∙ ap (option_map (λ (c : Core). c.call)) leaver.1

  left_counts : (ch : Chain) (es : List Ends) (top : ℕ) → Counted ch es (calls_in a) → Chained ch a.slots es top → Counted ch (out_rows ch a.slots es k) (remove (calls_in a) n)
  left_counts ch es top counted chained =
      let m = calls_in a in
      let d = leaver.0.call in
      let row = row_at ch a.slots k in
      let same = row_at_core ch a.slots k leaver.0 leaver.1 in
      counted_out ch es m (remove m n) counted row (links_of (get a.slots k)) (within_as row (row_of ch d) (length es) same (row_within ch a.slots es top k leaver.0 chained leaver.1))
      (λ j. count-remove (stands_in ch j) m n d leave_at ∙ ap (λ (r : Option ℕ). cond (is_row r j) 1 0 + count_of (stands_in ch j) (entries (remove m n))) (sym same))

  pub leave_keeps : b.last ≡ a.last → Stored b qs os number stamp
  leave_keeps last =
      record {
        named = leave_named;
        numbers = λ j d e. ⊎_elim (λ (t : j ≡ k). absurd (cc (ap (cores b.slots) t ∙ leave_here, e))) (λ (t : j ≡ k → ⊥). q.numbers j d (sym (leave_there j t) ∙ e)) (cases_eq j k);
        first = q.first;
        queued = rw (slots, qrows) (left_queue a.slots queues owns stamp number k leaver.0 q.queued q.listed leaver.1);
        listed = rw (slots, orows) (left_own a.slots queues owns stamp number k leaver.0 q.queued q.listed leaver.1);
        rows = (ap length qrows ∙ length-unlinked Queue queues _ _) ∙ q.rows ∙ ap (λ (m : ℕ). 3 * m) (sym (ap length orows ∙ length-unlinked Own owns _ _));
        few = q.few;
        last = rw last q.last;
        queue_counts = counted_as Queue _ qs _ (calls_in b) qrows leave_is (left_counts Queue queues stamp q.queue_counts q.queued);
        own_counts = counted_as Own _ os _ (calls_in b) orows leave_is (left_counts Own owns number q.own_counts q.listed);
      }

  pub leave_table : table_of b number stamp ≡ without_call (table_of a number stamp) n
  leave_table = ap (λ m. table_with m number stamp) (calls_out a b n k q.named leave_named leave_other leave_there leave_none (λ r e. one_number a n k r q.named at e))

-- the call that a number leads to
pub call_is : (a : CallsState) (n k : ℕ) (call : Call) → Named (cores a.slots) (get a.keys) → get a.keys n ≡ Some k → call_of (get a.slots k) ≡ Some call → get (calls_in a) n ≡ Some call
call_is a n k call nm at is = look a n nm ∙ ap (under (cores a.slots)) at ∙ by (get a.slots k) is
  where
    by : (o : Option Slot) → call_of o ≡ Some call → option_map (λ (c : Core). c.call) (option_map core o) ≡ Some call
    by None e = absurd (cc e)
    by (Some s) e = e

-- a number that is not below the next one leads to no call
pub next_free : (a : CallsState) (queues owns : List Ends) (number stamp : ℕ) → Stored a queues owns number stamp → get (calls_in a) number ≡ None
next_free a queues owns number stamp q = look a number q.named ∙ by (get a.keys number) refl
  where
    by : (o : Option ℕ) → get a.keys number ≡ o → under (cores a.slots) o ≡ None
    by None e = refl
    by (Some k) e = let own = q.named.names number k e in let h = q.numbers k own.0 own.1 in let hi = h.1 in let same = own.2 in absurd (omega arith)

-- a new call
module _ (a b : CallsState) (queues qs owns os : List Ends) (number stamp k : ℕ) (call : Call) (q : Stored a queues owns number stamp) (fresh : get a.slots k ≡ None)
    (bound : number < 2 ^ 63) (last : call.stamp ≡ stamp) (next : call.number.0 ≡ number) (within : place_index call.place < length queues) (caller : IfSome (row_of Own call) (λ t. t < length owns))
    (slots : b.slots ≡ new_slots a.slots queues owns k call) (keys : b.keys ≡ insert a.keys call.number.0 k) (qrows : qs ≡ appended_rows queues (row_of Queue call) k) (orows : os ≡ appended_rows owns (row_of Own call) k) where
  comes_here : cores b.slots k ≡ Some (record { name = call.number.0; call = call })
  comes_here = ap (λ (m : Slots). cores m k) slots ∙ new_here a.slots queues owns stamp number k call q.queued q.listed fresh last next within caller

  comes_there : (j : ℕ) → (j ≡ k → ⊥) → cores b.slots j ≡ cores a.slots j
  comes_there j t = ap (λ (m : Slots). cores m j) slots ∙ new_there a.slots queues owns stamp number k call q.queued q.listed fresh last next within caller j t

  new_key : get b.keys call.number.0 ≡ Some k
  new_key = ap (λ m. get m call.number.0) keys ∙ get-insert nat_cmp_total a.keys call.number.0 k call.number.0 ∙ ap (λ t. cond t (Some k) (get a.keys call.number.0)) (keys_of_same call.number.0 call.number.0 refl)

  old_keys : (r : ℕ) → (r ≡ call.number.0 → ⊥) → get b.keys r ≡ get a.keys r
  old_keys r t = ap (λ m. get m r) keys ∙ get-insert nat_cmp_total a.keys call.number.0 k r ∙ ap (λ u. cond u (Some k) (get a.keys r)) (other_key r call.number.0 t)

  not_there : (r : ℕ) → get a.keys r ≡ Some k → r ≡ call.number.0
  not_there r e = let own = q.named.names r k e in absurd (cc (own.1, ap (option_map core) fresh))

  not_yet : (j : ℕ) → get a.keys call.number.0 ≡ Some j → j ≡ k
  not_yet j e =
      let own = q.named.names call.number.0 j e in
      let had = q.numbers j own.0 own.1 in
      let less = had.1 in
      let same = own.2 in
      absurd (omega arith)

  comes_named : Named (cores b.slots) (get b.keys)
  comes_named =
      named_put (cores a.slots) (cores b.slots) (get a.keys) (get b.keys) call.number.0 k old_keys comes_there (record { name = call.number.0; call = call })
      q.named new_key comes_here refl refl not_there not_yet

  comes_numbers : NumbersBelow (cores b.slots) (number + 1)
  comes_numbers j d e =
      ⊎_elim
      (λ (t : j ≡ k).
      let new : Core = record { name = call.number.0; call = call } in
      let same : new ≡ d = same_Some new d (sym comes_here ∙ ap (cores b.slots) (sym t) ∙ e) in
      let num : d.call.number.0 ≡ number = ap (λ (x : Core). x.call.number.0) (sym same) ∙ next in
      let one = q.first in
      (omega arith, omega arith))
      (λ (t : j ≡ k → ⊥). let h = q.numbers j d (sym (comes_there j t) ∙ e) in let lo = h.0 in let hi = h.1 in (omega arith, omega arith))
      (cases_eq j k)

  pub comes_calls : calls_in b ≡ insert (calls_in a) call.number.0 call
  comes_calls = calls_put a b call.number.0 k (record { name = call.number.0; call = call }) q.named comes_named old_keys comes_there new_key comes_here not_there

  pub comes_keeps : b.last ≡ call.number.0 → Stored b qs os (number + 1) (stamp + 1)
  comes_keeps top =
      let m = calls_in a in
      let free = ap (get m) next ∙ next_free a queues owns number stamp q in
      record {
        named = comes_named;
        numbers = comes_numbers;
        first = omega arith;
        queued = rw (slots, qrows) (new_queue a.slots queues owns stamp number k call q.queued q.listed fresh last next within caller);
        listed = rw (slots, orows) (new_own a.slots queues owns stamp number k call q.queued q.listed fresh last next within caller);
        rows = (ap length qrows ∙ length-appended queues (row_of Queue call) k) ∙ q.rows ∙ ap (λ (m : ℕ). 3 * m) (sym (ap length orows ∙ length-appended owns (row_of Own call) k));
        few = omega arith;
        last = omega (arith, top, next);
        queue_counts = counted_as Queue _ qs _ (calls_in b) qrows comes_calls (counted_in Queue queues m (insert m call.number.0 call) q.queue_counts (row_of Queue call) k within (λ j. count-insert (stands_in Queue j) m call.number.0 call free));
        own_counts = counted_as Own _ os _ (calls_in b) orows comes_calls (counted_in Own owns m (insert m call.number.0 call) q.own_counts (row_of Own call) k caller (λ j. count-insert (stands_in Own j) m call.number.0 call free));
      }

-- there are fewer calls than numbers
few_in : (es : List (ℕ × Call)) (low high : ℕ) → T (is_sorted nat_cmp es) → low ≤ high → ((k : ℕ) (d : Call) → find nat_cmp k es ≡ Some d → (low ≤ k) × (k < high)) → length es + low ≤ high
few_in [] low high s h f = omega arith
few_in (e ∷ es) low high s h f =
    let here = f e.0 e.1 (rw (tie e.0) refl) in
    one_more (length es) low e.0 high here.0
    (few_in es (e.0 + 1) high (second _ _ s) (upper e.0 high here.1) (λ k d g.
    let after : e.0 < k = greater e.0 es k d (first _ _ s) g in
    let p = f k d (rw (past_tie k e.0 after) g) in
    (upper e.0 k after, p.1)))
  where
    upper : (x y : ℕ) → x < y → x + 1 ≤ y
    upper x y h = omega arith

    one_more : (n low x high : ℕ) → low ≤ x → n + (x + 1) ≤ high → suc n + low ≤ high
    one_more n low x high h r = omega arith

pub few_calls : (a : CallsState) (queues owns : List Ends) (number stamp : ℕ) → Stored a queues owns number stamp → len (calls_in a) < number
few_calls a queues owns number stamp q =
    let n = q.first in
    let h = few_in (entries (calls_in a)) 1 number (entries_sorted (calls_in a)) (omega arith) (λ k d f. by k d (get a.keys k) refl (sym (look a k q.named) ∙ get-entries (calls_in a) k ∙ f)) in
    rw (len-entries (calls_in a)) (omega arith)
  where
    by : (k : ℕ) (d : Call) (o : Option ℕ) → get a.keys k ≡ o → under (cores a.slots) o ≡ Some d → (1 ≤ k) × (k < number)
    by k d None e g = absurd (cc g)
    by k d (Some j) e g = let own = q.named.names k j e in let h = q.numbers j own.0 own.1 in let lo = h.0 in let hi = h.1 in let same = own.2 in (omega arith, omega arith)

-- there is room to count one more in each queue and in each list of a caller
pub few_queues : (a : CallsState) (queues owns : List Ends) (number stamp : ℕ) → Stored a queues owns number stamp → AreFew queues
few_queues a queues owns number stamp q = few_counts Queue queues (calls_in a) number q.queue_counts (few_calls a queues owns number stamp q) q.few

pub few_owns : (a : CallsState) (queues owns : List Ends) (number stamp : ℕ) → Stored a queues owns number stamp → AreFew owns
few_owns a queues owns number stamp q = few_counts Own owns (calls_in a) number q.own_counts (few_calls a queues owns number stamp q) q.few

-- where a call is live there are ends
pub rows_some : (a : CallsState) (queues owns : List Ends) (number stamp n k : ℕ) → Stored a queues owns number stamp → get a.keys n ≡ Some k → 0 < length owns
rows_some a queues owns number stamp n k q at =
    let own = q.named.names n k at in
    let within : place_index own.0.call.place < length queues = within_ends (spots Queue a.slots) _ _ queues (last_of queues) stamp k (record { group = place_index own.0.call.place; rank = own.0.call.stamp }) q.queued (ap (spot_at Queue) own.1) in
    let rows = q.rows in
    omega arith

place_within : (p : Place) (tasks n : ℕ) → task_of p ≤ tasks → n ≡ 3 * (tasks + 1) → place_index p < n
place_within (Incoming t) tasks n h e = omega arith
place_within (Dispatched t) tasks n h e = omega arith
place_within (Answers t) tasks n h e = omega arith

tasks_rows : (owns : List Ends) → 0 < length owns → length owns ≡ tasks_of owns + 1
tasks_rows [] h = absurd (omega arith)
tasks_rows (e ∷ es) h = omega arith

pub within_rows : (queues owns : List Ends) (p : Place) → length queues ≡ 3 * length owns → 0 < length owns → task_of p ≤ tasks_of owns → place_index p < length queues
within_rows queues owns p rows some h = let t = tasks_rows owns some in place_within p (tasks_of owns) (length queues) h (omega (arith, rows, t))

pub goes_within : (a : CallsState) (queues owns : List Ends) (number stamp n k : ℕ) (p : Place) → Stored a queues owns number stamp → get a.keys n ≡ Some k → task_of p ≤ tasks_of owns → place_index p < length queues
goes_within a queues owns number stamp n k p q at h = within_rows queues owns p q.rows (rows_some a queues owns number stamp n k q at) h

pub caller_within : (owns : List Ends) (c : Call) → 0 < length owns → IfSome c.caller (λ t. t.0 ≤ tasks_of owns) → IfSome (row_of Own c) (λ t. t < length owns)
caller_within owns c some h = by c.caller h
  where
    by : (o : Option TaskNo) → IfSome o (λ t. t.0 ≤ tasks_of owns) → IfSome (option_map (λ t. t.0) o) (λ t. t < length owns)
    by None h = tt
    by (Some u) h = let t = tasks_rows owns some in omega arith

pub room_some : (owns : List Ends) (spare : ℕ) → 0 < room_of owns spare → (0 < length owns) × (0 < spare)
room_some [] spare h = absurd (omega arith)
room_some (e ∷ es) spare h = (omega arith, h)

-- no calls
linked_none : (R : ℕ → Option Spot) (A B H L : ℕ → Option ℕ) (top : ℕ) → ((k : ℕ) → R k ≡ None) → ((g : ℕ) → H g ≡ None) → ((g : ℕ) → L g ≡ None) → Linked R A B H L top
linked_none R A B H L top r h l =
    record {
      afters = λ k x e. absurd (cc (r k, e));
      befores = λ k x e. absurd (cc (r k, e));
      firsts = λ g. rw (h g) (λ j y e s. absurd (cc (r j, e)));
      lasts = λ g. rw (l g) (λ j y e s. absurd (cc (r j, e)));
      bound = λ k x e. absurd (cc (r k, e));
      apart = λ j k x y e f s t. absurd (cc (r j, e));
    }

no_slot : (a : CallsState) → a.slots ≡ empty → (k : ℕ) → cores a.slots k ≡ None
no_slot a e k = ap (λ (m : Slots). cores m k) e ∙ ap (option_map core) (get-empty nat_cmp k)

no_key : (a : CallsState) → a.keys ≡ empty → (k : ℕ) → get a.keys k ≡ None
no_key a e k = ap (λ m. get m k) e ∙ get-empty nat_cmp k

new_named : (a : CallsState) → a.slots ≡ empty → a.keys ≡ empty → Named (cores a.slots) (get a.keys)
new_named a s k = record { names = λ q j g. absurd (cc (no_key a k q, g)); known = λ j c g. absurd (cc (no_slot a s j, g)) }

new_calls : (a : CallsState) → a.slots ≡ empty → a.keys ≡ empty → calls_in a ≡ empty
new_calls a s k = same_map nat_cmp_total nat_cmp-IsAntisymmetric _ _ (λ q. look a q (new_named a s k) ∙ ap (under (cores a.slots)) (no_key a k q) ∙ sym (get-empty nat_cmp q))

new_counts : (ch : Chain) (a : CallsState) (es : List Ends) → a.slots ≡ empty → a.keys ≡ empty → es ≡ [] → Counted ch es (calls_in a)
new_counts ch a es s k e =
    counted_as ch [] es empty (calls_in a) e (new_calls a s k) (λ i. sym (count-none (stands_in ch i) empty (λ n d f. absurd (cc (get-empty nat_cmp n, f)))))

pub new_keeps : (a : CallsState) (qs os : List Ends) → a.slots ≡ empty → a.keys ≡ empty → a.last ≡ 0 → qs ≡ [] → os ≡ [] → Stored a qs os 1 1
new_keeps a qs os s k last e f =
    record {
      named = new_named a s k;
      numbers = λ j c g. absurd (cc (no_slot a s j, g));
      first = omega arith;
      queued = linked_none (spots Queue a.slots) _ _ _ _ 1 (λ j. ap (spot_at Queue) (no_slot a s j)) (λ g. ap (λ xs. first_of xs g) e) (λ g. ap (λ xs. last_of xs g) e);
      listed = linked_none (spots Own a.slots) _ _ _ _ 1 (λ j. ap (spot_at Own) (no_slot a s j)) (λ g. ap (λ xs. first_of xs g) f) (λ g. ap (λ xs. last_of xs g) f);
      rows = rw (e, f) refl;
      few = omega arith;
      last = omega (arith, last);
      queue_counts = new_counts Queue a qs s k e;
      own_counts = new_counts Own a os s k f;
    }

pub new_is : (a : CallsState) (qs os : List Ends) → a.slots ≡ empty → a.keys ≡ empty → qs ≡ [] → os ≡ [] → calls_in a ≡ empty
new_is a qs os s k e f = new_calls a s k

-- more ends
one_first : (g : ℕ) → first_of (no_ends ∷ []) g ≡ None
one_first zero = refl
one_first (suc g) = refl

one_last : (g : ℕ) → last_of (no_ends ∷ []) g ≡ None
one_last zero = refl
one_last (suc g) = refl

row_first : (es : List Ends) (g : ℕ) → first_of (more_owns es) g ≡ first_of es g
row_first [] g = one_first g
row_first (x ∷ es) zero = refl
row_first (x ∷ es) (suc g) = row_first es g

row_last : (es : List Ends) (g : ℕ) → last_of (more_owns es) g ≡ last_of es g
row_last [] g = one_last g
row_last (x ∷ es) zero = refl
row_last (x ∷ es) (suc g) = row_last es g

one_count : (g : ℕ) → count_at (no_ends ∷ []) g ≡ 0
one_count zero = refl
one_count (suc g) = refl

row_count : (es : List Ends) (g : ℕ) → count_at (more_owns es) g ≡ count_at es g
row_count [] g = one_count g
row_count (x ∷ es) zero = refl
row_count (x ∷ es) (suc g) = row_count es g

pub row_length : (es : List Ends) → length (more_owns es) ≡ length es + 1
row_length [] = refl
row_length (x ∷ es) = let h = row_length es in omega arith

three_first : (g : ℕ) → first_of (no_ends ∷ no_ends ∷ no_ends ∷ []) g ≡ None
three_first zero = refl
three_first (suc zero) = refl
three_first (suc (suc zero)) = refl
three_first (suc (suc (suc g))) = refl

three_last : (g : ℕ) → last_of (no_ends ∷ no_ends ∷ no_ends ∷ []) g ≡ None
three_last zero = refl
three_last (suc zero) = refl
three_last (suc (suc zero)) = refl
three_last (suc (suc (suc g))) = refl

more_first : (es : List Ends) (g : ℕ) → first_of (more_queues es) g ≡ first_of es g
more_first [] g = three_first g
more_first (x ∷ es) zero = refl
more_first (x ∷ es) (suc g) = more_first es g

more_last : (es : List Ends) (g : ℕ) → last_of (more_queues es) g ≡ last_of es g
more_last [] g = three_last g
more_last (x ∷ es) zero = refl
more_last (x ∷ es) (suc g) = more_last es g

three_count : (g : ℕ) → count_at (no_ends ∷ no_ends ∷ no_ends ∷ []) g ≡ 0
three_count zero = refl
three_count (suc zero) = refl
three_count (suc (suc zero)) = refl
three_count (suc (suc (suc g))) = refl

more_count : (es : List Ends) (g : ℕ) → count_at (more_queues es) g ≡ count_at es g
more_count [] g = three_count g
more_count (x ∷ es) zero = refl
more_count (x ∷ es) (suc g) = more_count es g

more_length : (es : List Ends) → length (more_queues es) ≡ length es + 3
more_length [] = refl
more_length (x ∷ es) = let h = more_length es in omega arith

pub task_keeps : (a : CallsState) (queues qs owns os : List Ends) (number stamp : ℕ) → Stored a queues owns number stamp → qs ≡ more_queues queues → os ≡ more_owns owns → Stored a qs os number stamp
task_keeps a queues qs owns os number stamp q e f =
    record {
      named = q.named;
      numbers = q.numbers;
      first = q.first;
      queued = record {
        afters = q.queued.afters;
        befores = q.queued.befores;
        bound = q.queued.bound;
        apart = q.queued.apart;
        firsts = λ g. rw (ap (λ xs. first_of xs g) e ∙ more_first queues g) (q.queued.firsts g);
        lasts = λ g. rw (ap (λ xs. last_of xs g) e ∙ more_last queues g) (q.queued.lasts g);
      };
      listed = record {
        afters = q.listed.afters;
        befores = q.listed.befores;
        bound = q.listed.bound;
        apart = q.listed.apart;
        firsts = λ g. rw (ap (λ xs. first_of xs g) f ∙ row_first owns g) (q.listed.firsts g);
        lasts = λ g. rw (ap (λ xs. last_of xs g) f ∙ row_last owns g) (q.listed.lasts g);
      };
      rows = let h = more_length queues in let l = row_length owns in let p = q.rows in rw (e, f) (omega (arith, h, l, p));
      few = q.few;
      last = q.last;
      queue_counts = λ i. ap (λ xs. count_at xs i) e ∙ more_count queues i ∙ q.queue_counts i;
      own_counts = λ i. ap (λ xs. count_at xs i) f ∙ row_count owns i ∙ q.own_counts i;
    }

pub grown_keeps : (a : CallsState) (queues qs owns os : List Ends) (number stamp : ℕ) → Stored a queues owns number stamp → IsGrown queues owns qs os → Stored a qs os number stamp
grown_keeps a queues qs [] os number stamp q g =
    ⊎_elim (λ (h : (qs ≡ queues) × (os ≡ [])). rw (h.0, h.1) q) (λ (h : (qs ≡ more_queues queues) × (os ≡ more_owns [])). task_keeps a queues qs [] os number stamp q h.0 h.1) g
grown_keeps a queues qs (e ∷ es) os number stamp q g = rw (g.0, g.1) q

-- what a call is given leaves its number, its place, its stamp and its caller
pub change_number : (x : Change) (c : Call) → (changed x c).number ≡ c.number
change_number (Receipt m r) c = refl
change_number (Answer m r) c = refl
change_number (AnswerWith m b) c = refl
change_number (Address m l r) c = refl
change_number (Message m l) c = refl
change_number (Request m) c = refl
change_number (Reply m) c = refl
change_number (Reserved r) c = refl
change_number (Bytes b) c = refl

pub change_row : (x : Change) (c : Call) → row_of Queue (changed x c) ≡ row_of Queue c
change_row (Receipt m r) c = refl
change_row (Answer m r) c = refl
change_row (AnswerWith m b) c = refl
change_row (Address m l r) c = refl
change_row (Message m l) c = refl
change_row (Request m) c = refl
change_row (Reply m) c = refl
change_row (Reserved r) c = refl
change_row (Bytes b) c = refl

pub change_stamp : (x : Change) (c : Call) → (changed x c).stamp ≡ c.stamp
change_stamp (Receipt m r) c = refl
change_stamp (Answer m r) c = refl
change_stamp (AnswerWith m b) c = refl
change_stamp (Address m l r) c = refl
change_stamp (Message m l) c = refl
change_stamp (Request m) c = refl
change_stamp (Reply m) c = refl
change_stamp (Reserved r) c = refl
change_stamp (Bytes b) c = refl

pub change_caller : (x : Change) (c : Call) → (changed x c).caller ≡ c.caller
change_caller (Receipt m r) c = refl
change_caller (Answer m r) c = refl
change_caller (AnswerWith m b) c = refl
change_caller (Address m l r) c = refl
change_caller (Message m l) c = refl
change_caller (Request m) c = refl
change_caller (Reply m) c = refl
change_caller (Reserved r) c = refl
change_caller (Bytes b) c = refl

-- one more task, or none where memory has run out
pub pushed_keeps : {A B : Type 0} (r : Result A B) (a : CallsState) (queues qs owns os : List Ends) (number stamp : ℕ) → Stored a queues owns number stamp → OnOk r (qs ≡ more_queues queues) → OnOk r (os ≡ more_owns owns) → OnErr r (qs ≡ queues) → OnErr r (os ≡ owns) → Stored a qs os number stamp
pushed_keeps (Ok x) a queues qs owns os number stamp q e f g h = task_keeps a queues qs owns os number stamp q e f
pushed_keeps (Err x) a queues qs owns os number stamp q e f g h = rw (g, h) q

-- more room for the same calls
pub room_keeps : (a b : CallsState) (queues owns : List Ends) (number stamp : ℕ) → Stored a queues owns number stamp → b.slots ≡ a.slots → b.keys ≡ a.keys → b.last ≡ a.last → Stored b queues owns number stamp
room_keeps a b queues owns number stamp q e f last =
    record {
      named = rw (e, f) q.named;
      numbers = rw e q.numbers;
      first = q.first;
      queued = rw e q.queued;
      listed = rw e q.listed;
      rows = q.rows;
      few = q.few;
      last = rw last q.last;
      queue_counts = rw (e, f) q.queue_counts;
      own_counts = rw (e, f) q.own_counts;
    }
