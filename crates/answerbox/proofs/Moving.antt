-- Both lists of a call stay linked where it comes, moves, is forgotten or leaves.
use Rattle.std.proofs.Common.{◌≡◌, ℕ, ◌+◌, ◌*◌, ◌<◌, ◌≤◌, ◌^◌, cond, ◌==◌, List, length, Option, None, Some, IsSome, IfSome, option_map, refl, sym, ap, ◌∙◌, arith, ⊎_elim}
use Rattle.std.specs.Prelude.{option_and_then}
use Rattle.std.specs.Cmp.{nat_cmp_total}
use Rattle.std.specs.FinMap.{get, insert, get-insert, get-remove}
use Rattle.std.proofs.lemmas.Bool.{cases_eq}
use Rattle.std.proofs.lemmas.Option.{same_Some}
use Rattle.ipc_ids.proofs.Common.{keys_of_same}
use Rattle.call_slab.specs.declared.call.Call.{Call}
use Rattle.call_slab.specs.declared.call.Place.{Place}
use Rattle.call_slab.specs.declared.call.Place.TheVariants.{Incoming, Dispatched, Answers}
use Rattle.call_slab.specs.declared.slots.Slot.{Slot}
use Rattle.call_slab.specs.declared.links.Links.{Links}
use Rattle.call_slab.specs.Calls.{call_of, links_of, name_of}
use Rattle.call_slab.specs.Slots.{at_key}
use Rattle.answerbox.specs.declared.chains.Ends.{Ends}
use Rattle.answerbox.specs.declared.chains.Chain.{Chain}
use Rattle.answerbox.specs.declared.chains.Chain.TheVariants.{Queue, Own}
use Rattle.answerbox.specs.Calls.{task_of}
use Rattle.answerbox.specs.Order.{Spot, Linked}
use Rattle.answerbox.specs.Chain.{Slots, Core, core, cores, next_link, previous_link, next_in, previous_in, place_index, row_of, rank_of, spot_at, spots, first_of, last_of, Chained, unlinked_slots, unlinked_rows, appended_slots, appended_rows, IsBetween, IsBehind}
use Rattle.answerbox.specs.Moving.{row_at, with_call, placed, out_slots, out_rows, moved_slots, moved_rows, new_slot, new_slots, left_slots, no_caller, forgotten_slots}
use Rattle.answerbox.proofs.Order.{Without}
use Rattle.answerbox.proofs.Chain.{other_key, get_here, get_there, live_cores, cores-unlinked, cores-appended, other-unlinked, other-appended, key_is, key_not, length-unlinked, within_ends}
use Rattle.answerbox.proofs.Passing.{live_spot, chain_kept, chain_passed, chain_left, chain_joined, between, behind}

-- what a slot has, and what it is
pub core_is : (o : Option Slot) (c : Core) → option_map core o ≡ Some c → (s : Slot) × (o ≡ Some s) × (core s ≡ c)
core_is None c e = absurd (cc e)
core_is (Some s) c e = (s, refl, same_Some (core s) c e)

pub live_is : (m : Slots) (k : ℕ) → IsSome (get m k) → (c : Core) × (cores m k ≡ Some c)
live_is m k h = by (get m k) h
  where
    by : (o : Option Slot) → IsSome o → (c : Core) × (option_map core o ≡ Some c)
    by None h = absurd (cc h)
    by (Some s) h = (core s, refl)

pub row_is : (ch : Chain) (m : Slots) (k : ℕ) (c : Core) → cores m k ≡ Some c → row_of ch c.call ≡ row_at ch m k
row_is ch m k c e = by (get m k) e
  where
    by : (o : Option Slot) → option_map core o ≡ Some c → row_of ch c.call ≡ option_and_then (row_of ch) (call_of o)
    by None e = absurd (cc e)
    by (Some s) e = ap (λ (d : Core). row_of ch d.call) (sym (same_Some (core s) c e))

-- the spots without key k
abbrev but : (ℕ → Option Spot) → ℕ → ℕ → Option Spot
but R k q = cond (k == q) None (R q)

but_here : (R : ℕ → Option Spot) (k : ℕ) → but R k k ≡ None
but_here R k = rw (key_is k k refl) refl

but_there : (R : ℕ → Option Spot) (k q : ℕ) → (q ≡ k → ⊥) → but R k q ≡ R q
but_there R k q n = rw (key_not k q n) refl

but_other : (R : ℕ → Option Spot) (k q : ℕ) (y : Spot) → but R k q ≡ Some y → q ≡ k → ⊥
but_other R k q y e t = absurd (cc (ap (but R k) t ∙ but_here R k, e))

without_but : (R : ℕ → Option Spot) (k : ℕ) → Without R (but R k) k
without_but R k = record {
  old = λ q y e. sym (but_there R k q (but_other R k q y e)) ∙ e;
  other = λ q y e. but_other R k q y e;
  kept = λ q y e n. but_there R k q n ∙ e;
}

-- a change of a call under a key
pub call_here : (f : Call → Call) (m : Slots) (k : ℕ) (c : Core) → cores m k ≡ Some c → cores (at_key (with_call f) m k) k ≡ Some (record { name = c.name; call = f c.call })
call_here f m k c e =
    let s = core_is (get m k) c e in
    ap (option_map core) (get_here (with_call f) m k ∙ ap (option_map (with_call f)) s.1) ∙ ap (λ (d : Core). Some (record { name = d.name; call = f d.call })) s.2

pub call_there : (f : Call → Call) (m : Slots) (k q : ℕ) → (q ≡ k → ⊥) → cores (at_key (with_call f) m k) q ≡ cores m q
call_there f m k q n = ap (option_map core) (get_there (with_call f) m k q n)

pub call_links : (g : Links → Option ℕ) (f : Call → Call) (m : Slots) (k q : ℕ) → g (links_of (get (at_key (with_call f) m k) q)) ≡ g (links_of (get m q))
call_links g f m k q =
    ⊎_elim
    (λ (t : q ≡ k). rw (t, get_here (with_call f) m k) (by (get m k)))
    (λ (n : q ≡ k → ⊥). ap (λ (o : Option Slot). g (links_of o)) (get_there (with_call f) m k q n))
    (cases_eq q k)
  where
    by : (o : Option Slot) → g (links_of (option_map (with_call f) o)) ≡ g (links_of o)
    by None = refl
    by (Some s) = refl

-- the links of the other list
own_unlinked : (m : Slots) (row : Option ℕ) (l : Links) (q : ℕ) → (next_in Own (unlinked_slots Queue m row l) q ≡ next_in Own m q) × (previous_in Own (unlinked_slots Queue m row l) q ≡ previous_in Own m q)
own_unlinked m row l q = (other-unlinked Queue (next_link Own) (λ l o. refl) (λ l o. refl) m row l q, other-unlinked Queue (previous_link Own) (λ l o. refl) (λ l o. refl) m row l q)

own_appended : (m : Slots) (es : List Ends) (row : Option ℕ) (k q : ℕ) → (next_in Own (appended_slots Queue m es row k) q ≡ next_in Own m q) × (previous_in Own (appended_slots Queue m es row k) q ≡ previous_in Own m q)
own_appended m es row k q = (other-appended Queue (next_link Own) (λ l o. refl) (λ l o. refl) m es row k q, other-appended Queue (previous_link Own) (λ l o. refl) (λ l o. refl) m es row k q)

queue_unlinked : (m : Slots) (row : Option ℕ) (l : Links) (q : ℕ) → (next_in Queue (unlinked_slots Own m row l) q ≡ next_in Queue m q) × (previous_in Queue (unlinked_slots Own m row l) q ≡ previous_in Queue m q)
queue_unlinked m row l q = (other-unlinked Own (next_link Queue) (λ l o. refl) (λ l o. refl) m row l q, other-unlinked Own (previous_link Queue) (λ l o. refl) (λ l o. refl) m row l q)

queue_appended : (m : Slots) (es : List Ends) (row : Option ℕ) (k q : ℕ) → (next_in Queue (appended_slots Own m es row k) q ≡ next_in Queue m q) × (previous_in Queue (appended_slots Own m es row k) q ≡ previous_in Queue m q)
queue_appended m es row k q = (other-appended Own (next_link Queue) (λ l o. refl) (λ l o. refl) m es row k q, other-appended Own (previous_link Queue) (λ l o. refl) (λ l o. refl) m es row k q)

-- a call that moves
module _ (m : Slots) (es : List Ends) (top k : ℕ) (c : Core) (place : Place) (l : Chained Queue m es top) (at : cores m k ≡ Some c) where
  abbrev moving : Slots
  moving = at_key (with_call (placed place top)) (out_slots Queue m k) k

  out_core : (q : ℕ) → cores (out_slots Queue m k) q ≡ cores m q
  out_core q = cores-unlinked Queue m (row_at Queue m k) (links_of (get m k)) q

  moving_here : cores moving k ≡ Some (record { name = c.name; call = placed place top c.call })
  moving_here = call_here (placed place top) (out_slots Queue m k) k c (out_core k ∙ at)

  moving_there : (q : ℕ) → (q ≡ k → ⊥) → cores moving q ≡ cores m q
  moving_there q n = call_there (placed place top) (out_slots Queue m k) k q n ∙ out_core q

  passed_linked : Linked (but (spots Queue m) k) (next_in Queue (out_slots Queue m k)) (previous_in Queue (out_slots Queue m k)) (first_of (out_rows Queue m es k)) (last_of (out_rows Queue m es k)) top
  passed_linked = chain_passed Queue m es top k c (row_at Queue m k) (links_of (get m k)) (but (spots Queue m) k) l at (row_is Queue m k c at) refl refl (without_but (spots Queue m) k)

  pub moved_behind : place_index place < length es → IsBehind moving (out_rows Queue m es k) (Some (place_index place)) k
  moved_behind within =
      behind (but (spots Queue m) k) (next_in Queue (out_slots Queue m k)) (previous_in Queue (out_slots Queue m k)) moving (out_rows Queue m es k) top k (Some (place_index place)) passed_linked
      (λ q y e. live_cores moving m q (moving_there q (but_other (spots Queue m) k q y e)) (live_spot Queue m q y (sym (but_there (spots Queue m) k q (but_other (spots Queue m) k q y e)) ∙ e)))
      (let s = core_is (get moving k) _ moving_here in rw s.1 refl)
      (rw (length-unlinked Queue es (row_at Queue m k) (links_of (get m k))) within)

  pub moved_queue : place_index place < length es → Chained Queue (moved_slots m es k place top) (moved_rows m es k place) (top + 1)
  moved_queue within =
      chain_joined Queue (but (spots Queue m) k) (next_in Queue (out_slots Queue m k)) (previous_in Queue (out_slots Queue m k)) moving (out_rows Queue m es k) top k (record { name = c.name; call = placed place top c.call }) (Some (place_index place))
      passed_linked moving_here refl refl (rw (length-unlinked Queue es (row_at Queue m k) (links_of (get m k))) within) (but_here (spots Queue m) k)
      (λ q n. (
        ap (spot_at Queue) (moving_there q n) ∙ sym (but_there (spots Queue m) k q n),
        call_links (next_link Queue) (placed place top) (out_slots Queue m k) k q,
        call_links (previous_link Queue) (placed place top) (out_slots Queue m k) k q,
      ))

  pub moved_here : cores (moved_slots m es k place top) k ≡ Some (record { name = c.name; call = placed place top c.call })
  moved_here = cores-appended Queue moving (out_rows Queue m es k) (Some (place_index place)) k k ∙ moving_here

  pub moved_there : (q : ℕ) → (q ≡ k → ⊥) → cores (moved_slots m es k place top) q ≡ cores m q
  moved_there q n = cores-appended Queue moving (out_rows Queue m es k) (Some (place_index place)) k q ∙ moving_there q n

  pub moved_own : (owns : List Ends) (number : ℕ) → Chained Own m owns number → Chained Own (moved_slots m es k place top) owns number
  moved_own owns number listed =
      let f = placed place top in
      let o = out_slots Queue m k in
      chain_kept Own m (moved_slots m es k place top) owns number listed
      (λ q. (own_appended moving (out_rows Queue m es k) (Some (place_index place)) k q).0 ∙ call_links (next_link Own) f o k q ∙ (own_unlinked m (row_at Queue m k) (links_of (get m k)) q).0)
      (λ q. (own_appended moving (out_rows Queue m es k) (Some (place_index place)) k q).1 ∙ call_links (previous_link Own) f o k q ∙ (own_unlinked m (row_at Queue m k) (links_of (get m k)) q).1)
      (λ q. ⊎_elim (λ (t : q ≡ k). rw t (ap (spot_at Own) moved_here ∙ sym (ap (spot_at Own) at))) (λ (t : q ≡ k → ⊥). ap (spot_at Own) (moved_there q t)) (cases_eq q k))

-- the neighbours of a live call
pub between_at : (ch : Chain) (m n : Slots) (es : List Ends) (top k : ℕ) → Chained ch m es top → IsSome (get m k) → ((q : ℕ) → cores n q ≡ cores m q) → IsBetween ch n es (row_at ch m k) (links_of (get m k))
between_at ch m n es top k l live same =
    let c = live_is m k live in
    between ch m n es top k c.0 (row_at ch m k) (links_of (get m k)) l c.1 (row_is ch m k c.0 c.1) refl refl same

-- a call that leaves
module _ (m : Slots) (queues owns : List Ends) (stamp number k : ℕ) (c : Core) (queued : Chained Queue m queues stamp) (listed : Chained Own m owns number) (at : cores m k ≡ Some c) where
  abbrev lone : Slots
  lone = unlinked_slots Own (out_slots Queue m k) (row_at Own m k) (links_of (get m k))

  pub lone_core : (q : ℕ) → cores lone q ≡ cores m q
  lone_core q = cores-unlinked Own (out_slots Queue m k) (row_at Own m k) (links_of (get m k)) q ∙ cores-unlinked Queue m (row_at Queue m k) (links_of (get m k)) q

  left_get : (q : ℕ) → (q ≡ k → ⊥) → get (left_slots m k) q ≡ get lone q
  left_get q n = get-remove nat_cmp_total lone k q ∙ ap (λ b. cond b None (get lone q)) (other_key q k n)

  pub left_here : get (left_slots m k) k ≡ None
  left_here = get-remove nat_cmp_total lone k k ∙ ap (λ b. cond b None (get lone k)) (keys_of_same k k refl)

  pub left_there : (q : ℕ) → (q ≡ k → ⊥) → cores (left_slots m k) q ≡ cores m q
  left_there q n = ap (option_map core) (left_get q n) ∙ lone_core q

  pub left_queue : Chained Queue (left_slots m k) (out_rows Queue m queues k) stamp
  left_queue =
      chain_left Queue m (left_slots m k) queues stamp k c (row_at Queue m k) (links_of (get m k)) queued at (row_is Queue m k c at) refl refl
      (λ q n. let o = queue_unlinked (out_slots Queue m k) (row_at Own m k) (links_of (get m k)) q in
      (ap (spot_at Queue) (left_there q n), ap (λ (s : Option Slot). next_link Queue (links_of s)) (left_get q n) ∙ o.0, ap (λ (s : Option Slot). previous_link Queue (links_of s)) (left_get q n) ∙ o.1))
      (ap (λ (s : Option Slot). spot_at Queue (option_map core s)) left_here)

  out_listed : Chained Own (out_slots Queue m k) owns number
  out_listed = chain_kept Own m (out_slots Queue m k) owns number listed (λ q. (own_unlinked m (row_at Queue m k) (links_of (get m k)) q).0) (λ q. (own_unlinked m (row_at Queue m k) (links_of (get m k)) q).1)
      (λ q. ap (spot_at Own) (cores-unlinked Queue m (row_at Queue m k) (links_of (get m k)) q))

  out_at : cores (out_slots Queue m k) k ≡ Some c
  out_at = cores-unlinked Queue m (row_at Queue m k) (links_of (get m k)) k ∙ at

  pub left_between : IsBetween Own (out_slots Queue m k) owns (row_at Own m k) (links_of (get m k))
  left_between =
      between Own (out_slots Queue m k) (out_slots Queue m k) owns number k c (row_at Own m k) (links_of (get m k)) out_listed out_at (row_is Own m k c at)
      (own_unlinked m (row_at Queue m k) (links_of (get m k)) k).0 (own_unlinked m (row_at Queue m k) (links_of (get m k)) k).1 (λ q. refl)

  pub left_own : Chained Own (left_slots m k) (unlinked_rows Own owns (row_at Own m k) (links_of (get m k))) number
  left_own =
      chain_left Own (out_slots Queue m k) (left_slots m k) owns number k c (row_at Own m k) (links_of (get m k)) out_listed out_at (row_is Own m k c at)
      (own_unlinked m (row_at Queue m k) (links_of (get m k)) k).0 (own_unlinked m (row_at Queue m k) (links_of (get m k)) k).1
      (λ q n. (ap (spot_at Own) (left_there q n) ∙ sym (ap (spot_at Own) (cores-unlinked Queue m (row_at Queue m k) (links_of (get m k)) q)), ap (λ (s : Option Slot). next_link Own (links_of s)) (left_get q n), ap (λ (s : Option Slot). previous_link Own (links_of s)) (left_get q n)))
      (ap (λ (s : Option Slot). spot_at Own (option_map core s)) left_here)

  -- its caller has ended
  forgot_there : (q : ℕ) → (q ≡ k → ⊥) → cores (forgotten_slots m k) q ≡ cores m q
  forgot_there q n = call_there no_caller (out_slots Own m k) k q n ∙ cores-unlinked Own m (row_at Own m k) (links_of (get m k)) q

  pub forgotten_there : (q : ℕ) → (q ≡ k → ⊥) → cores (forgotten_slots m k) q ≡ cores m q
  forgotten_there q n = forgot_there q n

  pub forgotten_here : cores (forgotten_slots m k) k ≡ Some (record { name = c.name; call = no_caller c.call })
  forgotten_here = call_here no_caller (out_slots Own m k) k c (cores-unlinked Own m (row_at Own m k) (links_of (get m k)) k ∙ at)

  pub forgotten_own : Chained Own (forgotten_slots m k) (out_rows Own m owns k) number
  forgotten_own =
      let o = out_slots Own m k in
      chain_left Own m (forgotten_slots m k) owns number k c (row_at Own m k) (links_of (get m k)) listed at (row_is Own m k c at) refl refl
      (λ q n. (ap (spot_at Own) (forgot_there q n), call_links (next_link Own) no_caller o k q, call_links (previous_link Own) no_caller o k q))
      (ap (spot_at Own) forgotten_here)

  pub forgotten_queue : Chained Queue (forgotten_slots m k) queues stamp
  forgotten_queue =
      let o = out_slots Own m k in
      chain_kept Queue m (forgotten_slots m k) queues stamp queued
      (λ q. call_links (next_link Queue) no_caller o k q ∙ (queue_unlinked m (row_at Own m k) (links_of (get m k)) q).0)
      (λ q. call_links (previous_link Queue) no_caller o k q ∙ (queue_unlinked m (row_at Own m k) (links_of (get m k)) q).1)
      (λ q. ⊎_elim (λ (t : q ≡ k). rw t (ap (spot_at Queue) forgotten_here ∙ sym (ap (spot_at Queue) at))) (λ (t : q ≡ k → ⊥). ap (spot_at Queue) (forgot_there q t)) (cases_eq q k))

-- a new call
module _ (m : Slots) (queues owns : List Ends) (stamp number k : ℕ) (c : Call) (queued : Chained Queue m queues stamp) (listed : Chained Own m owns number) (fresh : get m k ≡ None)
    (last : c.stamp ≡ stamp) (next : c.number.0 ≡ number) (within : place_index c.place < length queues) (caller : IfSome (row_of Own c) (λ t. t < length owns)) where
  abbrev first_new : Slots
  first_new = insert m k (new_slot c)

  abbrev then_new : Slots
  then_new = appended_slots Queue first_new queues (row_of Queue c) k

  new_at : get first_new k ≡ Some (new_slot c)
  new_at = get-insert nat_cmp_total m k (new_slot c) k ∙ ap (λ b. cond b (Some (new_slot c)) (get m k)) (keys_of_same k k refl)

  new_get : (q : ℕ) → (q ≡ k → ⊥) → get first_new q ≡ get m q
  new_get q n = get-insert nat_cmp_total m k (new_slot c) q ∙ ap (λ b. cond b (Some (new_slot c)) (get m q)) (other_key q k n)

  new_core : cores first_new k ≡ Some (core (new_slot c))
  new_core = ap (option_map core) new_at

  none_there : (ch : Chain) → spots ch m k ≡ None
  none_there ch = ap (λ (o : Option Slot). spot_at ch (option_map core o)) fresh

  new_live : (ch : Chain) (q : ℕ) (y : Spot) → spots ch m q ≡ Some y → IsSome (get first_new q)
  new_live ch q y e =
      let n : q ≡ k → ⊥ = λ u. absurd (cc (ap (spots ch m) u ∙ none_there ch, e)) in
      rw (new_get q n) (live_spot ch m q y e)

  pub new_behind : IsBehind first_new queues (row_of Queue c) k
  new_behind = behind (spots Queue m) (next_in Queue m) (previous_in Queue m) first_new queues stamp k (row_of Queue c) queued (new_live Queue) (rw new_at refl) within

  pub new_behind_own : IsBehind then_new owns (row_of Own c) k
  new_behind_own = behind (spots Own m) (next_in Own m) (previous_in Own m) then_new owns number k (row_of Own c) listed
      (λ q y e. live_cores then_new first_new q (cores-appended Queue first_new queues (row_of Queue c) k q) (new_live Own q y e))
      (live_cores then_new first_new k (cores-appended Queue first_new queues (row_of Queue c) k k) (rw new_at refl)) caller

  then_queue : Chained Queue then_new (appended_rows queues (row_of Queue c) k) (stamp + 1)
  then_queue =
      chain_joined Queue (spots Queue m) (next_in Queue m) (previous_in Queue m) first_new queues stamp k (core (new_slot c)) (row_of Queue c) queued new_core refl last within (none_there Queue)
      (λ q n. (ap (λ (o : Option Slot). spot_at Queue (option_map core o)) (new_get q n), ap (λ (s : Option Slot). next_link Queue (links_of s)) (new_get q n), ap (λ (s : Option Slot). previous_link Queue (links_of s)) (new_get q n)))

  then_core : (q : ℕ) → cores then_new q ≡ cores first_new q
  then_core q = cores-appended Queue first_new queues (row_of Queue c) k q

  pub new_queue : Chained Queue (new_slots m queues owns k c) (appended_rows queues (row_of Queue c) k) (stamp + 1)
  new_queue =
      chain_kept Queue then_new (new_slots m queues owns k c) (appended_rows queues (row_of Queue c) k) (stamp + 1) then_queue
      (λ q. (queue_appended then_new owns (row_of Own c) k q).0) (λ q. (queue_appended then_new owns (row_of Own c) k q).1)
      (λ q. ap (spot_at Queue) (cores-appended Own then_new owns (row_of Own c) k q))

  pub new_own : Chained Own (new_slots m queues owns k c) (appended_rows owns (row_of Own c) k) (number + 1)
  new_own =
      chain_joined Own (spots Own m) (next_in Own m) (previous_in Own m) then_new owns number k (core (new_slot c)) (row_of Own c) listed (then_core k ∙ new_core) refl next caller (none_there Own)
      (λ q n. let o = own_appended first_new queues (row_of Queue c) k q in (
        ap (spot_at Own) (then_core q) ∙ ap (λ (o : Option Slot). spot_at Own (option_map core o)) (new_get q n),
        o.0 ∙ ap (λ (s : Option Slot). next_link Own (links_of s)) (new_get q n),
        o.1 ∙ ap (λ (s : Option Slot). previous_link Own (links_of s)) (new_get q n),
      ))

  pub new_here : cores (new_slots m queues owns k c) k ≡ Some (record { name = c.number.0; call = c })
  new_here = cores-appended Own then_new owns (row_of Own c) k k ∙ then_core k ∙ new_core

  pub new_there : (q : ℕ) → (q ≡ k → ⊥) → cores (new_slots m queues owns k c) q ≡ cores m q
  new_there q n = cores-appended Own then_new owns (row_of Own c) k q ∙ then_core q ∙ ap (option_map core) (new_get q n)

-- a change of a call that leaves where it stands
module _ (ch : Chain) (f : Call → Call) (row_kept : (c : Call) → row_of ch (f c) ≡ row_of ch c) (rank_kept : (c : Call) → rank_of ch (f c) ≡ rank_of ch c) (m : Slots) (es : List Ends) (top k : ℕ) (l : Chained ch m es top) where
  pub changed_chain : Chained ch (at_key (with_call f) m k) es top
  changed_chain =
      chain_kept ch m (at_key (with_call f) m k) es top l (λ q. call_links (next_link ch) f m k q) (λ q. call_links (previous_link ch) f m k q)
      (λ q. ⊎_elim (λ (t : q ≡ k). rw (t, get_here (with_call f) m k) (by (get m k))) (λ (t : q ≡ k → ⊥). ap (spot_at ch) (call_there f m k q t)) (cases_eq q k))
    where
      by : (o : Option Slot) → spot_at ch (option_map core (option_map (with_call f) o)) ≡ spot_at ch (option_map core o)
      by None = refl
      by (Some s) = λ i. option_map (λ g. record { group = g; rank = rank_kept s.call i }) (row_kept s.call i)

task_index : (p : Place) → 3 * task_of p ≤ place_index p
task_index (Incoming t) = omega arith
task_index (Dispatched t) = omega arith
task_index (Answers t) = omega arith

-- the place of a live call is not too far
pub small_task : (m : Slots) (es : List Ends) (top k : ℕ) (c : Call) → Chained Queue m es top → call_of (get m k) ≡ Some c → length es < 2 ^ 63 → 3 * task_of c.place + 2 < 2 ^ 64
small_task m es top k c l at few =
    let within : place_index c.place < length es = within_ends (spots Queue m) (next_in Queue m) (previous_in Queue m) es (last_of es) top k (record { group = place_index c.place; rank = c.stamp }) l (by (get m k) at) in
    let t = task_index c.place in
    omega arith
  where
    by : (o : Option Slot) → call_of o ≡ Some c → spot_at Queue (option_map core o) ≡ Some (record { group = place_index c.place; rank = c.stamp })
    by None e = absurd (cc e)
    by (Some s) e = ap (λ (d : Call). Some (record { group = place_index d.place; rank = d.stamp })) (same_Some s.call c e)

pub small_place : (p : Place) (n : ℕ) → place_index p < n → n < 2 ^ 63 → 3 * task_of p + 2 < 2 ^ 64
small_place p n h f = let t = task_index p in omega arith

-- the same, for the steps of a body
pub between_by : (ch : Chain) (m : Slots) (es : List Ends) (top k : ℕ) (row : Option ℕ) (links : Links) → Chained ch m es top → IsSome (get m k) → row ≡ row_at ch m k → links ≡ links_of (get m k) → IsBetween ch m es row links
between_by ch m es top k row links l live re le = rw (re, le) (between_at ch m m es top k l live (λ q. refl))

pub behind_by : (m : Slots) (es : List Ends) (top k i : ℕ) (place : Place) (row : Option ℕ) (links : Links) (m1 m2 : Slots) (es1 : List Ends) → Chained Queue m es top → IsSome (get m k) → place_index place < length es
    → row ≡ row_at Queue m k → links ≡ links_of (get m k) → i ≡ place_index place → m1 ≡ unlinked_slots Queue m row links → es1 ≡ unlinked_rows Queue es row links → m2 ≡ at_key (with_call (placed place top)) m1 k → IsBehind m2 es1 (Some i) k
behind_by m es top k i place row links m1 m2 es1 l live within re le ie e1 f1 e2 =
    let c = live_is m k live in
    rw (e2, f1, e1, ie, re, le) (moved_behind m es top k c.0 place l c.1 within)

pub row_of_call : (ch : Chain) (m : Slots) (k : ℕ) (c : Call) (row : Option ℕ) → call_of (get m k) ≡ Some c → row ≡ row_of ch c → row ≡ row_at ch m k
row_of_call ch m k c row e f = f ∙ sym (ap (option_and_then (row_of ch)) e)

pub live_unlinked : (ch : Chain) (m m1 : Slots) (row : Option ℕ) (links : Links) (k : ℕ) → m1 ≡ unlinked_slots ch m row links → IsSome (get m k) → IsSome (get m1 k)
live_unlinked ch m m1 row links k e live = rw e (live_cores (unlinked_slots ch m row links) m k (cores-unlinked ch m row links k) live)

call_cores : (o p : Option Slot) → option_map core o ≡ option_map core p → call_of o ≡ call_of p
call_cores None None e = refl
call_cores None (Some p) e = absurd (cc e)
call_cores (Some o) None e = absurd (cc e)
call_cores (Some o) (Some p) e = ap (λ (d : Core). Some d.call) (same_Some (core o) (core p) e)

name_cores : (o p : Option Slot) → option_map core o ≡ option_map core p → name_of o ≡ name_of p
name_cores None None e = refl
name_cores None (Some p) e = absurd (cc e)
name_cores (Some o) None e = absurd (cc e)
name_cores (Some o) (Some p) e = ap (λ (d : Core). d.name) (same_Some (core o) (core p) e)

pub between_both : (m : Slots) (queues owns : List Ends) (stamp number k : ℕ) (row own : Option ℕ) (links : Links) (m1 : Slots) → Chained Queue m queues stamp → Chained Own m owns number → IsSome (get m k)
    → row ≡ row_at Queue m k → own ≡ row_at Own m k → links ≡ links_of (get m k) → m1 ≡ unlinked_slots Queue m row links → IsBetween Own m1 owns own links
between_both m queues owns stamp number k row own links m1 queued listed live re oe le e1 =
    let c = live_is m k live in
    rw (e1, re, oe, le) (left_between m queues owns stamp number k c.0 queued listed c.1)

pub both_core : (m : Slots) (k : ℕ) (row own : Option ℕ) (links : Links) (m1 m2 : Slots) → m1 ≡ unlinked_slots Queue m row links → m2 ≡ unlinked_slots Own m1 own links → cores m2 k ≡ cores m k
both_core m k row own links m1 m2 e1 e2 = rw (e2, e1) (cores-unlinked Own (unlinked_slots Queue m row links) own links k ∙ cores-unlinked Queue m row links k)

pub both_call : (m : Slots) (k : ℕ) (row own : Option ℕ) (links : Links) (m1 m2 : Slots) → m1 ≡ unlinked_slots Queue m row links → m2 ≡ unlinked_slots Own m1 own links → call_of (get m2 k) ≡ call_of (get m k)
both_call m k row own links m1 m2 e1 e2 = call_cores (get m2 k) (get m k) (both_core m k row own links m1 m2 e1 e2)

pub both_name : (m : Slots) (k : ℕ) (row own : Option ℕ) (links : Links) (m1 m2 : Slots) → m1 ≡ unlinked_slots Queue m row links → m2 ≡ unlinked_slots Own m1 own links → name_of (get m2 k) ≡ name_of (get m k)
both_name m k row own links m1 m2 e1 e2 = name_cores (get m2 k) (get m k) (both_core m k row own links m1 m2 e1 e2)

-- the call under a key
pub call_is_core : (m : Slots) (k : ℕ) (c : Core) (x : Call) → cores m k ≡ Some c → call_of (get m k) ≡ Some x → x ≡ c.call
call_is_core m k c x e f = by (get m k) e f
  where
    by : (o : Option Slot) → option_map core o ≡ Some c → call_of o ≡ Some x → x ≡ c.call
    by None e f = absurd (cc e)
    by (Some s) e f = sym (same_Some s.call x f) ∙ ap (λ (d : Core). d.call) (same_Some (core s) c e)
