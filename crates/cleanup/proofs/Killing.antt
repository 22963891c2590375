-- A kill keeps a sound state sound, and leaves nothing of the task.
use Rattle.std.proofs.Common.{◌≡◌, ℕ, zero, suc, ◌+◌, ◌-◌, length, Bool, true, false, inl, inr, Option, None, Some, List, [], refl, ap, sym, subst, ◌∙◌, arith, set}
use Rattle.std.proofs.Math.ListN.{length-set}
use Rattle.std.specs.Prelude.{◌==◌}
use Rattle.std.proofs.lemmas.Bool.{cases_eq, eq-eqb, false≢true}
use Rattle.std.proofs.lemmas.List.{nil_from_length}
use Rattle.ipc_ids.specs.declared.numbers.TaskNo.{TaskNo}
use Rattle.ipc_ids.specs.declared.numbers.Label.{Label}
use Rattle.ipc_ids.specs.declared.message.Reply.{Reply}
use Rattle.ipc_ids.specs.declared.message.PhoneState.{PhoneState}
use Rattle.ipc_ids.specs.declared.message.PhoneState.TheVariants.{Free, Connecting, Connected, HungUp, Slammed}
use Rattle.call_slab.specs.declared.call.Call.{Call}
use Rattle.call_slab.specs.declared.call.Place.{Place}
use Rattle.call_slab.specs.declared.call.Place.TheVariants.{Incoming, Dispatched, Answers}
use Rattle.answerbox.specs.Calls.{call_at, calls_at, calls_by, same_place, is_caller}
use Rattle.phone_table.specs.Phones.{state_at}
use Rattle.switchboard.specs.State.{KernelState, Transition, alive_in, is_alive, phone_at, each, width, mark_ended}
use Rattle.switchboard.specs.Sound.{IsPlaced, IsCaller, IsQuiet, IsSound}
use Rattle.switchboard.specs.Joins.{bare_reply, settle_for, lives, drop_answer, forget_call, hang_up, slam}
use Rattle.cleanup.specs.Kill.{hang_up_at, hang_up_own_phones, slam_phones_to, first_at, first_call_of, settle_call, settle_calls_at, settle_incoming, settle_dispatched, drop_answers, end_phones_and_calls, drop_first_area, kill}
use Rattle.address_space.specs.Areas.{Area}
use Rattle.address_space.specs.Memory.{areas_of, count_areas, first_area}
use Rattle.address_space.proofs.Ending.{no_first, first_goes}
use Rattle.switchboard.specs.Areas.{lose_area, lose_first_area}
use Rattle.switchboard.proofs.MarkChanges.{ended_here, alive_elsewhere}
use Rattle.switchboard.proofs.SoundMemory.{memory_drop, memory_ended}
use Rattle.switchboard.proofs.Repeats.{by_test, each_keeps, drain_keeps}
use Rattle.cleanup.proofs.Silence.{with_marks, IsEnding, own_phones_hung_up, phones_slammed, slams_keep}
use Rattle.cleanup.proofs.Queues.{IsForgotten, incoming_settled, dispatched_settled, answers_dropped, calls_forgotten}

-- the states between the parts of a kill
abbrev pub after_hangups : TaskNo → KernelState → KernelState
after_hangups t k = (hang_up_own_phones t (mark_ended k t)).state

abbrev pub after_slams : TaskNo → KernelState → KernelState
after_slams t k = (slam_phones_to t (after_hangups t k)).state

abbrev pub after_incoming : TaskNo → KernelState → KernelState
after_incoming t k = (settle_incoming t (after_slams t k)).state

abbrev pub after_dispatched : TaskNo → KernelState → KernelState
after_dispatched t k = (settle_dispatched t (after_incoming t k)).state

abbrev pub after_answers : TaskNo → KernelState → KernelState
after_answers t k = (drop_answers t (after_dispatched t k)).state

-- the state after all of them but the last
abbrev pub after_calls : TaskNo → KernelState → KernelState
after_calls t k = (end_phones_and_calls t (mark_ended k t)).state

-- these parts leave who is alive but for t, the memory, and the number of events
pub record KeepsTheRest (k j : KernelState) : Type 0 where
  pub alive : j.tasks.alive ≡ k.tasks.alive
  pub memory : j.memory ≡ k.memory
  pub events : j.events ≡ k.events

pub hang_up_steady : (k : KernelState) (t : TaskNo) (j : KernelState) (p : ℕ) (o : Option PhoneState) → KeepsTheRest k j → KeepsTheRest k (hang_up j t p o).state
hang_up_steady k t j p None h = h
hang_up_steady k t j p (Some Free) h = h
hang_up_steady k t j p (Some Connecting) h = h
hang_up_steady k t j p (Some HungUp) h = h
hang_up_steady k t j p (Some Slammed) h = record { alive = h.alive; memory = h.memory; events = h.events }
hang_up_steady k t j p (Some (Connected u)) h = record { alive = h.alive; memory = h.memory; events = h.events }

pub slam_steady : (k : KernelState) (t u : TaskNo) (j : KernelState) (p : ℕ) (o : Option PhoneState) → KeepsTheRest k j → KeepsTheRest k (slam t u j p o).state
slam_steady k t u j p None h = h
slam_steady k t u j p (Some Free) h = h
slam_steady k t u j p (Some Connecting) h = h
slam_steady k t u j p (Some HungUp) h = h
slam_steady k t u j p (Some Slammed) h = h
slam_steady k t u j p (Some (Connected v)) h = by_test (λ (s : Transition). KeepsTheRest k s.state) (v.0 == t.0) _ _ (λ _. record { alive = h.alive; memory = h.memory; events = h.events }) (λ _. h)

pub settle_steady : (k j : KernelState) (c : Call) (reply : Reply) (o : Option TaskNo) (b : Bool) → KeepsTheRest k j → KeepsTheRest k (settle_for j c reply None o b).state
settle_steady k j c reply None b h = record { alive = h.alive; memory = h.memory; events = h.events }
settle_steady k j c reply (Some u) false h = record { alive = h.alive; memory = h.memory; events = h.events }
settle_steady k j c reply (Some u) true h = record { alive = h.alive; memory = h.memory; events = h.events }

settles_steady : (place : Place) (k j : KernelState) → KeepsTheRest k j → KeepsTheRest k (settle_calls_at place j).state
settles_steady place k j h = drain_keeps (first_at place) settle_call (KeepsTheRest k) (λ i c s is. settle_steady k i c (bare_reply Rattle.ipc_ids.specs.Codes.ehangup) c.caller (lives i c.caller) s) (calls_at j.calls place) j h

pub calls_steady : (t : TaskNo) (k : KernelState) → KeepsTheRest k (end_phones_and_calls t k).state
calls_steady t k =
    let k1 : KernelState = (hang_up_own_phones t k).state in
    let k2 : KernelState = (slam_phones_to t k1).state in
    let k3 : KernelState = (settle_incoming t k2).state in
    let k4 : KernelState = (settle_dispatched t k3).state in
    let k5 : KernelState = (drop_answers t k4).state in
    let h1 : KeepsTheRest k k1 = each_keeps (hang_up_at t) (KeepsTheRest k) (λ j p s. hang_up_steady k t j p (phone_at j t p) s) (width k.tasks.phones t.0) 0 k (record { alive = refl; memory = refl; events = refl }) in
    let h2 : KeepsTheRest k k2 = slams_keep t (KeepsTheRest k) (λ u p j s. slam_steady k t u j p (phone_at j u p) s) k1 h1 in
    let h3 : KeepsTheRest k k3 = settles_steady (Incoming t) k k2 h2 in
    let h4 : KeepsTheRest k k4 = settles_steady (Dispatched t) k k3 h3 in
    let h5 : KeepsTheRest k k5 = drain_keeps (first_at (Answers t)) (drop_answer t) (KeepsTheRest k) (λ j c s is. record { alive = s.alive; memory = s.memory; events = s.events }) (calls_at k4.calls (Answers t)) k4 h4 in
    drain_keeps (first_call_of t) forget_call (KeepsTheRest k) (λ j c s is. record { alive = s.alive; memory = s.memory; events = s.events }) (calls_by k5.calls t) k5 h5

-- what a drop of an area keeps, the last part keeps
pub areas_last : (k : KernelState) (t : TaskNo) (I : KernelState → Type 0) → ((j : KernelState) (base : ℕ) → I j → I (lose_area t j base).state) → I (after_calls t k) → I (kill k t).state
areas_last k t I keeps h = each_keeps (drop_first_area t) I (λ j i h. by_base j (first_area j.memory t) h) (count_areas (after_calls t k).memory t) 0 (after_calls t k) h where
  by_base : (j : KernelState) (o : Option ℕ) → I j → I (lose_first_area t j o).state
  by_base j None h = h
  by_base j (Some base) h = keeps j base h

-- the last part leaves no area of the task
pub none_left : (t : TaskNo) (n i : ℕ) (k : KernelState) → count_areas k.memory t ≡ n → areas_of (each (drop_first_area t) n i k).state.memory t ≡ []
none_left t zero i k is = nil_from_length (areas_of k.memory t) is
none_left t (suc n) i k is = by_base (first_area k.memory t) refl (none_left t n (i + 1)) where
  by_base : (o : Option ℕ) → first_area k.memory t ≡ o → ((j : KernelState) → count_areas j.memory t ≡ n → areas_of (each (drop_first_area t) n (i + 1) j).state.memory t ≡ []) → areas_of (each (drop_first_area t) n (i + 1) (lose_first_area t k o).state).state.memory t ≡ []
  by_base None none later = let zero_areas : count_areas k.memory t ≡ 0 = ap (λ (areas : List Area). length areas) (no_first k.memory t none) in absurd (omega (arith, is, zero_areas))
  by_base (Some base) first later = let fewer = first_goes k.memory t base first in later (lose_area t k base).state (omega (arith, is, fewer))

pub areas_end : (k : KernelState) (t : TaskNo) → areas_of (kill k t).state.memory t ≡ []
areas_end k t = none_left t (count_areas (after_calls t k).memory t) 0 (after_calls t k) refl

-- a kill leaves who is alive but for t, and the number of events
pub record KeepsTheMarks (k j : KernelState) : Type 0 where
  pub alive : j.tasks.alive ≡ k.tasks.alive
  pub events : j.events ≡ k.events

pub kill_steady : (k : KernelState) (t : TaskNo) → KeepsTheMarks (mark_ended k t) (kill k t).state
kill_steady k t =
    areas_last k t (KeepsTheMarks (mark_ended k t)) (λ j base h. record { alive = h.alive; events = h.events })
    (let s = calls_steady t (mark_ended k t) in record { alive = s.alive; events = s.events })

-- what a kill leaves, by the marks from before

area_lost : (marks : List Bool) (t : TaskNo) (k : KernelState) (base : ℕ) → alive_in marks t.0 ≡ true → IsForgotten marks t k → IsForgotten marks t (lose_area t k base).state
area_lost marks t k base alive h =
    let u = h.unanswered in
    let s = u.idle.uncalled.alone.silent.ending.sound in
    record {
      unanswered = record {
        idle = record {
          uncalled = record {
            alone = record {
              silent = record {
                ending = record { sound = record { calls = s.calls; tasks = s.tasks; kept = s.kept; keepers = s.keepers; memory = memory_drop t base alive s.memory } };
                still = u.idle.uncalled.alone.silent.still;
              };
              unled = u.idle.uncalled.alone.unled;
            };
            incoming = u.idle.uncalled.incoming;
          };
          dispatched = u.idle.dispatched;
        };
        answers = u.answers;
      };
      callers = h.callers;
    }

pub killed : (k : KernelState) (t : TaskNo) → IsSound k → is_alive k t ≡ true → IsForgotten k.tasks.alive t (kill k t).state
killed k t s alive =
    let marks : List Bool = k.tasks.alive in
    let h0 : IsEnding marks (mark_ended k t) = record { sound = s } in
    let h1 = own_phones_hung_up marks t (mark_ended k t) alive h0 in
    let h2 = phones_slammed marks t (after_hangups t k) h1 in
    let h3 = incoming_settled marks t (after_slams t k) h2 in
    let h4 = dispatched_settled marks t (after_incoming t k) h3 in
    let h5 = answers_dropped marks t (after_dispatched t k) h4 in
    areas_last k t (IsForgotten marks t) (λ j base h. area_lost marks t j base alive h) (calls_forgotten marks t (after_answers t k) h5)

-- what is sound by the marks from before, and has nothing of t, is sound without t
module _ (marks : List Bool) (t : TaskNo) (alive : alive_in marks t.0 ≡ true) (k : KernelState) (h : IsForgotten marks t k) (none : areas_of k.memory t ≡ []) where
  abbrev after : List Bool
  after = set marks (t.0 - 1) false

  abbrev before : IsSound (with_marks marks k)
  before = h.unanswered.idle.uncalled.alone.silent.ending.sound

  still_alive : (u : ℕ) → (u ≡ t.0 → ⊥) → alive_in marks u ≡ true → alive_in after u ≡ true
  still_alive u ne a = alive_elsewhere marks t.0 alive u ne ∙ a

  placed : (caller : Option TaskNo) (place : Place) → same_place place (Incoming t) ≡ false → same_place place (Dispatched t) ≡ false → IsPlaced (with_marks marks k).tasks caller place → IsPlaced (with_marks after k).tasks caller place
  placed caller (Incoming u) i d s = still_alive u.0 (λ e. false≢true (sym i ∙ eq-eqb u.0 t.0 e)) s
  placed caller (Dispatched u) i d s = still_alive u.0 (λ e. false≢true (sym d ∙ eq-eqb u.0 t.0 e)) s
  placed caller (Answers u) i d s = s

  called : (from : Label) (caller : Option TaskNo) → is_caller t caller ≡ false → IsCaller (with_marks marks k).tasks from caller → IsCaller (with_marks after k).tasks from caller
  called from None n s = tt
  called from (Some u) n s = (s.0, still_alive u.0 (λ e. false≢true (sym n ∙ eq-eqb u.0 t.0 e)) s.1)

  pub sound_without_task : IsSound (with_marks after k)
  sound_without_task = record {
    calls = record {
      each = λ n c is. let was = before.calls.each n c is in record {
        number = was.number;
        below = was.below;
        stamp = was.stamp;
        place = placed c.caller c.place (h.unanswered.idle.uncalled.incoming n c is) (h.unanswered.idle.dispatched n c is) was.place;
        caller = called c.from c.caller (h.callers n c is) was.caller;
        phone = was.phone;
        discard = was.discard;
        reserved = was.reserved;
        carries = was.carries;
      };
      stamps_differ = before.calls.stamps_differ;
      bytes = before.calls.bytes;
    };
    tasks = record {
      paired = before.tasks.paired ∙ sym (length-set marks (t.0 - 1) false);
      leads = λ s p u is. still_alive u.0 (h.unanswered.idle.uncalled.alone.unled s p u is) (before.tasks.leads s p u is);
      quiet = λ s p x is ended. elim (cases_eq s t.0) [
        | inl e ↦ h.unanswered.idle.uncalled.alone.silent.still p x (ap (λ a. state_at k.tasks.phones a p) (sym e) ∙ is)
        | inr ne ↦ before.tasks.quiet s p x is (sym (alive_elsewhere marks t.0 alive s ne) ∙ ended)
      ];
    };
    kept = before.kept;
    keepers = before.keepers;
    memory = memory_ended t alive none before.memory;
  }

-- a kill keeps soundness
pub sound_kill : (k : KernelState) (t : TaskNo) → IsSound k → is_alive k t ≡ true → IsSound (kill k t).state
sound_kill k t s alive =
    subst (λ (marks : List Bool). IsSound (with_marks marks (kill k t).state)) (sym (kill_steady k t).alive)
    (sound_without_task k.tasks.alive t alive (kill k t).state (killed k t s alive) (areas_end k t))

-- what laws ask of a kill

-- nothing is left of a task: no call waits at it, is held by it, answers it or is one of its own; no phone leads to it, its own are quiet, and it has no areas
pub record HasNothingOf (t : TaskNo) (k : KernelState) : Type 0 where
  pub incoming : (n : ℕ) (c : Call) → call_at k.calls n ≡ Some c → same_place c.place (Incoming t) ≡ false
  pub dispatched : (n : ℕ) (c : Call) → call_at k.calls n ≡ Some c → same_place c.place (Dispatched t) ≡ false
  pub answers : (n : ℕ) (c : Call) → call_at k.calls n ≡ Some c → same_place c.place (Answers t) ≡ false
  pub callers : (n : ℕ) (c : Call) → call_at k.calls n ≡ Some c → is_caller t c.caller ≡ false
  pub unled : (s q : ℕ) (v : TaskNo) → state_at k.tasks.phones s q ≡ Some (Connected v) → v.0 ≡ t.0 → ⊥
  pub quiet : (q : ℕ) (x : PhoneState) → phone_at k t q ≡ Some x → IsQuiet x
  pub areas : areas_of k.memory t ≡ []

pub kill_leaves_nothing : (k : KernelState) (t : TaskNo) → IsSound k → is_alive k t ≡ true → HasNothingOf t (kill k t).state
kill_leaves_nothing k t s alive = let h = killed k t s alive in record {
  incoming = h.unanswered.idle.uncalled.incoming;
  dispatched = h.unanswered.idle.dispatched;
  answers = h.unanswered.answers;
  callers = h.callers;
  unled = h.unanswered.idle.uncalled.alone.unled;
  quiet = h.unanswered.idle.uncalled.alone.silent.still;
  areas = areas_end k t;
}

-- the marks change at t alone
pub kill_marks : (k : KernelState) (t : TaskNo) → (kill k t).state.tasks.alive ≡ set k.tasks.alive (t.0 - 1) false
kill_marks k t = (kill_steady k t).alive

pub killed_task : (k : KernelState) (t : TaskNo) → is_alive k t ≡ true → is_alive (kill k t).state t ≡ false
killed_task k t alive = ap (λ (marks : List Bool). alive_in marks t.0) (kill_marks k t) ∙ ended_here k.tasks.alive t.0 alive

pub other_task : (k : KernelState) (t u : TaskNo) → is_alive k t ≡ true → (u.0 ≡ t.0 → ⊥) → is_alive (kill k t).state u ≡ is_alive k u
other_task k t u alive ne = ap (λ (marks : List Bool). alive_in marks u.0) (kill_marks k t) ∙ alive_elsewhere k.tasks.alive t.0 alive u.0 ne
