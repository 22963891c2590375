-- A kill keeps its laws.
use Rattle.std.proofs.Common.{◌≡◌, true, false, ◌⊎◌, inl, inr, Option, None, Some, option_map, refl, ap, sym, subst, ◌∙◌}
use Rattle.std.proofs.lemmas.Bool.{eq-eqb, ne_eqb, false≢true}
use Rattle.ipc_ids.specs.declared.numbers.TaskNo.{TaskNo}
use Rattle.ipc_ids.specs.declared.message.PhoneState.{PhoneState}
use Rattle.ipc_ids.specs.declared.message.PhoneState.TheVariants.{Connecting, Connected, HungUp, Slammed}
use Rattle.call_slab.specs.declared.call.Call.{Call}
use Rattle.call_slab.specs.declared.call.Place.{Place}
use Rattle.call_slab.specs.declared.call.Place.TheVariants.{Incoming, Dispatched, Answers}
use Rattle.answerbox.specs.Calls.{same_place, is_caller, task_of}
use Rattle.switchboard.specs.State.{KernelState, is_alive, phone_at}
use Rattle.switchboard.specs.Sound.{IsSound}
use Rattle.cleanup.specs.Kill.{kill}
use Rattle.kernel_laws.specs.KillLaws.{EndsTask, LeavesNothingOf, IsOpen, ClosesPhones, IsWith, ClosesCalls}
use Rattle.cleanup.proofs.Killing.{kill_leaves_nothing, killed_task, other_task}
use Rattle.kernel_laws.proofs.KilledCalls.{kill_answers, kill_ends, kill_orphans, kill_spares, IsWith as StandsWith}
use Rattle.cleanup.proofs.KilledPhones.{hung, slammed, kill_own_phone, kill_other_phone}
use Rattle.kernel_core.proofs.InEvent.{same_task}
use Rattle.kernel_laws.proofs.KillRoutes.{one_task}

-- the words of a place, and the tests of it

stands : (t : TaskNo) (place : Place) → task_of place ≡ t.0 → same_place place (Incoming t) ≡ false → same_place place (Dispatched t) ≡ false → same_place place (Answers t) ≡ false → ⊥
stands t (Incoming u) e i d a = false≢true (sym i ∙ eq-eqb u.0 t.0 e)
stands t (Dispatched u) e i d a = false≢true (sym d ∙ eq-eqb u.0 t.0 e)
stands t (Answers u) e i d a = false≢true (sym a ∙ eq-eqb u.0 t.0 e)

with_test : (t : TaskNo) (place : Place) → IsWith t place → (same_place place (Incoming t) ≡ true) ⊎ (same_place place (Dispatched t) ≡ true)
with_test t (Incoming u) e = inl (eq-eqb u.0 t.0 e)
with_test t (Dispatched u) e = inr (eq-eqb u.0 t.0 e)
with_test t (Answers u) e = absurd e

at_test : (t : TaskNo) (c : Call) → task_of c.place ≡ t.0 → StandsWith t c ⊎ (same_place c.place (Answers t) ≡ true)
at_test t c e = by_place c.place e where
  by_place : (place : Place) → task_of place ≡ t.0 → ((same_place place (Incoming t) ≡ true) ⊎ (same_place place (Dispatched t) ≡ true)) ⊎ (same_place place (Answers t) ≡ true)
  by_place (Incoming u) e = inl (inl (eq-eqb u.0 t.0 e))
  by_place (Dispatched u) e = inl (inr (eq-eqb u.0 t.0 e))
  by_place (Answers u) e = inr (eq-eqb u.0 t.0 e)

task_test : (t : TaskNo) (c : Call) → StandsWith t c ⊎ (same_place c.place (Answers t) ≡ true) → task_of c.place ≡ t.0
task_test t c (inl (inl e)) = one_task c.place (Incoming t) e
task_test t c (inl (inr e)) = one_task c.place (Dispatched t) e
task_test t c (inr e) = one_task c.place (Answers t) e

is_its_caller : (t : TaskNo) (o : Option TaskNo) → o ≡ Some t → is_caller t o ≡ true
is_its_caller t o e = ap (is_caller t) e ∙ eq-eqb t.0 t.0 refl

not_its_caller : (t : TaskNo) (o : Option TaskNo) → (o ≡ Some t → ⊥) → is_caller t o ≡ false
not_its_caller t None ne = refl
not_its_caller t (Some u) ne = ne_eqb u.0 t.0 (λ e. ne (ap Some (same_task u t e)))

-- the words of a phone

hung_open : (s : PhoneState) → IsOpen s → hung s ≡ HungUp
hung_open (Connected u) h = refl
hung_open Slammed h = refl
hung_open _ h = absurd h

-- an open phone does not wait for a connection
open_waits : (o : Option PhoneState) (s : PhoneState) → o ≡ Some s → IsOpen s → o ≡ Some Connecting → ⊥
open_waits o s is opened waits = let same : s ≡ Connecting = cc in subst IsOpen same opened

slammed_leading : (t : TaskNo) → slammed t (Connected t) ≡ Slammed
slammed_leading t = rw (eq-eqb t.0 t.0 refl) refl

slammed_other : (t : TaskNo) (s : PhoneState) → (s ≡ Connected t → ⊥) → slammed t s ≡ s
slammed_other t (Connected u) ne = rw (ne_eqb u.0 t.0 (λ e. ne (ap Connected (same_task u t e)))) refl
slammed_other t _ ne = refl

pub kill_ends_task : (k : KernelState) (t : TaskNo) → is_alive k t ≡ true → EndsTask t k (kill k t).state
kill_ends_task k t alive = record { ended = killed_task k t alive; others = λ u ne. other_task k t u alive ne }

module _ (k : KernelState) (t : TaskNo) (sound : IsSound k) (alive : is_alive k t ≡ true) where
  pub kill_leaves_nothing_of : LeavesNothingOf t (kill k t).state
  kill_leaves_nothing_of =
      let left = kill_leaves_nothing k t sound alive in
      record {
        places = λ n c is e. stands t c.place e (left.incoming n c is) (left.dispatched n c is) (left.answers n c is);
        callers = λ n c is e. false≢true (sym (left.callers n c is) ∙ is_its_caller t c.caller e);
        phones = λ u p is. left.unled u p t is refl;
      }

  pub kill_closes_phones : ClosesPhones t k (kill k t).state
  kill_closes_phones = record {
    own = λ p s is opened. kill_own_phone k t sound alive p (open_waits (phone_at k t p) s is opened) ∙ ap (option_map hung) is ∙ ap Some (hung_open s opened);
    leading = λ u p ne is. kill_other_phone k t sound alive u p ne (open_waits (phone_at k u p) (Connected t) is tt) ∙ ap (option_map (slammed t)) is ∙ ap Some (slammed_leading t);
    others = λ u p s ne is opened other. kill_other_phone k t sound alive u p ne (open_waits (phone_at k u p) s is opened) ∙ ap (option_map (slammed t)) is ∙ ap Some (slammed_other t s other);
  }

  pub kill_closes_calls : ClosesCalls t k (kill k t).state
  kill_closes_calls = record {
    answered = λ n c u is at from ne. let a = kill_answers k t sound alive n c is u (with_test t c.place at) from ne in rw (a.1) ((refl, refl, refl), from, refl, refl);
    over = λ n c is at only. kill_ends k t sound alive n c is (at_test t c at) only;
    forgotten = λ n c is away from. rw (kill_orphans k t sound alive n c is (λ w. away (task_test t c w)) (is_its_caller t c.caller from)) ((refl, refl, refl), refl, refl);
    others = λ n c is away other. kill_spares k t sound alive n c is (λ w. away (task_test t c w)) (not_its_caller t c.caller other);
  }
