-- A spawn does what is said of it, and is determined by it.
use Rattle.std.proofs.Common.{◌≡◌, ℕ, zero, suc, ◌+◌, ◌≤◌, Bool, true, false, ◌⊎◌, inl, inr, List, [], ◌∷◌, ◌++◌, length, Option, None, Some, refl, sym, ap, ◌∙◌, arith}
use Rattle.std.proofs.lemmas.Bool.{cases_lt}
use Rattle.std.proofs.lemmas.Grind.{common_steps}
use Rattle.ipc_ids.specs.declared.numbers.TaskNo.{TaskNo}
use Rattle.switchboard.specs.State.{KernelState, Transition, is_alive, phone_at, with_task}
use Rattle.switchboard.specs.Sound.{IsSound}
use Rattle.switchboard.proofs.Soundness.{length_rows}
use Rattle.ipc_ids.specs.declared.message.PhoneState.TheVariants.{Connected}
use Rattle.kernel_core.specs.Kernel.{named, spawning, spawn_event}
use Rattle.kernel_laws.proofs.SpawnLaws.{spawn_makes_task, named_leads, named_none}
use Rattle.kernel_laws.specs.SpawnLaws.{new_number}
use Rattle.kernel_determined.specs.SpawnLaw.{IsSpawn}
use Rattle.kernel_determined.proofs.Same.{rows_same, state_same, each_task, marks_same, areas_same, memory_same, transition_same}

-- the task that is named is alive, or none is
record IsNamed (k : KernelState) (names : Option TaskNo) : Type 0 where
  who : TaskNo
  is : names ≡ Some who
  lives : is_alive k who ≡ true

named_or_none : (k : KernelState) (names : Option TaskNo)
    → IsNamed k names ⊎ ((u : TaskNo) → names ≡ Some u → is_alive k u ≡ false)
named_or_none k None = inr (λ u e. absurd (cc e))
named_or_none k (Some w) = by (is_alive k w) refl where
  by : (b : Bool) → is_alive k w ≡ b → IsNamed k (Some w) ⊎ ((u : TaskNo) → Some w ≡ Some u → is_alive k u ≡ false)
  by true e = inl (record { who = w; is = refl; lives = e })
  by false e = inr (λ u f. let same : w ≡ u = cc f in ap (is_alive k) (sym same) ∙ e)

module _ (limit : ℕ) (some : 1 ≤ limit) (names : Option TaskNo) (k : KernelState) (a b : Transition)
    (x : IsSpawn limit names k a) (y : IsSpawn limit names k b) where
  who : TaskNo
  who = new_number k

  alive_at : (u : TaskNo) → is_alive a.state u ≡ is_alive b.state u
  alive_at u = each_task (is_alive a.state) (is_alive b.state) (new_number k) (x.makes.made ∙ sym y.makes.made) u
      (λ ne. x.makes.others u ne ∙ sym (y.makes.others u ne))

  own_phone : (p : ℕ) → phone_at a.state (new_number k) p ≡ phone_at b.state (new_number k) p
  own_phone zero = elim (named_or_none k names) [
    | inl h ↦ x.makes.leads h.who h.is h.lives ∙ sym (y.makes.leads h.who h.is h.lives)
    | inr none ↦ x.makes.alone none ∙ sym (y.makes.alone none)
  ]
  own_phone (suc p) = elim (cases_lt (suc p) limit) [
    | inl few ↦ x.makes.free (suc p) (omega arith) few ∙ sym (y.makes.free (suc p) (omega arith) few)
    | inr far ↦ x.makes.limited (suc p) far ∙ sym (y.makes.limited (suc p) far)
  ]

  phone_same : (u : TaskNo) (p : ℕ) → phone_at a.state u p ≡ phone_at b.state u p
  phone_same u p = each_task (λ v. phone_at a.state v p) (λ v. phone_at b.state v p) (new_number k) (own_phone p) u
      (λ ne. x.makes.phones u p ne ∙ sym (y.makes.phones u p ne))

  told_same : a.entries ≡ b.entries
  told_same = elim (named_or_none k names) [
    | inl h ↦ x.told_leads h.who h.is h.lives ∙ sym (y.told_leads h.who h.is h.lives)
    | inr none ↦ x.told_alone none ∙ sym (y.told_alone none)
  ]

  pub spawn_is_determined : a ≡ b
  spawn_is_determined = transition_same a b
      (state_same a.state b.state
      (marks_same a.state.tasks.alive b.state.tasks.alive (x.tasks ∙ sym y.tasks) alive_at)
      (rows_same a.state.tasks.phones b.state.tasks.phones (x.rows ∙ sym y.rows) phone_same)
      (x.makes.calls ∙ sym y.makes.calls)
      (memory_same a.state.memory b.state.memory
      (areas_same a.state.memory b.state.memory (x.spaces ∙ sym y.spaces)
      (λ u some. x.makes.areas u ∙ sym (y.makes.areas u)))
      (x.makes.stores ∙ sym y.makes.stores) (x.stores ∙ sym y.stores))
      (x.events ∙ sym y.events))
      told_same

-- ---- the definition

two_more : {A : Type 0} (xs : List A) (x : A) → length (xs ++ x ∷ []) ≡ length xs + 1
two_more xs x = grind (arith, common_steps)

module _ (k : KernelState) (limit : ℕ) (names : Option TaskNo) where
  -- what every spawn has, whether phone 0 leads to a task or not
  record HasOneMore (done : Transition) : Type 0 where
    tasks : length done.state.tasks.alive ≡ length k.tasks.alive + 1
    rows : length done.state.tasks.phones ≡ length k.tasks.phones + 1
    spaces : length done.state.memory.areas ≡ length k.memory.areas + 1
    stores : done.state.memory.next_store ≡ k.memory.next_store

  one_more : (o : Option TaskNo) → HasOneMore (spawning k (new_number k) limit o)
  one_more None = record {
    tasks = two_more k.tasks.alive true;
    rows = two_more k.tasks.phones _;
    spaces = two_more k.memory.areas [];
    stores = refl;
  }
  one_more (Some u) = record {
    tasks = two_more k.tasks.alive true;
    rows =
        length_rows (with_task k limit).tasks.phones (new_number k).0 0 (Connected u)
        ∙ two_more k.tasks.phones _;
    spaces = two_more k.memory.areas [];
    stores = refl;
  }

  pub spawn_is_so : IsSound k → 1 ≤ limit → IsSpawn limit names k (spawn_event k limit names)
  spawn_is_so sound some =
      let more = one_more (named k names) in
      record {
        makes = spawn_makes_task k limit names sound some;
        tasks = more.tasks;
        rows = more.rows;
        spaces = more.spaces;
        stores = more.stores;
        events = events (named k names);
        told_leads = λ u e lives. ap (λ o. (spawning k (new_number k) limit o).entries) (named_leads k names u e lives);
        told_alone = λ none. ap (λ o. (spawning k (new_number k) limit o).entries) (named_none k names none);
      } where
        events : (o : Option TaskNo) → (spawning k (new_number k) limit o).state.events + 1 ≡ k.events + 1
        events None = refl
        events (Some u) = refl

pub spawn_is_served : (limit : ℕ) (names : Option TaskNo) (k : KernelState) (done : Transition) → IsSound k
    → 1 ≤ limit → IsSpawn limit names k done → done ≡ spawn_event k limit names
spawn_is_served limit names k done sound some is = spawn_is_determined limit some names k done
    (spawn_event k limit names) is (spawn_is_so k limit names sound some)
