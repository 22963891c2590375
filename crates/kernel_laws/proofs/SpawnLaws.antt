-- A spawn keeps its law.
use Rattle.std.proofs.Common.{◌≡◌, ℕ, ◌+◌, ◌-◌, ◌≤◌, Bool, true, false, inl, inr, List, [], ◌∷◌, ◌++◌, length, replicate, Option, None, Some, refl, ap, ◌∙◌, arith}
use Rattle.std.specs.Prelude.{slice_get, option_and_then, unwrap_or}
use Rattle.std.proofs.lemmas.Bool.{cases_eq, eq-eqb, ne_eqb}
use Rattle.ipc_ids.specs.declared.numbers.TaskNo.{TaskNo}
use Rattle.ipc_ids.specs.declared.message.PhoneState.{PhoneState}
use Rattle.ipc_ids.specs.declared.message.PhoneState.TheVariants.{Free, Connected}
use Rattle.ipc_ids.proofs.Common.{is_some, get_other}
use Rattle.phone_table.specs.Phones.{row_at, state_at}
use Rattle.switchboard.specs.State.{KernelState, alive_in, is_alive, with_event}
use Rattle.switchboard.specs.Sound.{IsSound}
use Rattle.cleanup.proofs.KilledPhones.{written_elsewhere}
use Rattle.switchboard.proofs.Soundness.{get_last}
use Rattle.kernel_core.specs.Kernel.{next_task, named, spawning, spawn_event}
use Rattle.kernel_core.proofs.WholeHistories.{rows_stay}
use Rattle.kernel_core.proofs.SpawnedHistories.{new_is_alive}
use Rattle.kernel_laws.specs.SpawnLaws.{MakesTask}
use Rattle.switchboard.proofs.Keepers.{state_here}
use Rattle.kernel_laws.proofs.Lists.{get_copy, past_copies}

-- one item more at the end of a list

row_last : {A : Type 0} (rows : List A) (row : A) → row_at (rows ++ row ∷ []) (length rows + 1) ≡ Some row
row_last rows row = rw (ne_eqb (length rows + 1) 0 (λ z. omega arith), get_last rows row (length rows + 1 - 1) (omega arith)) refl

row_other : {A : Type 0} (rows : List A) (row : A) (t : ℕ) → (t ≡ length rows + 1 → ⊥) → row_at (rows ++ row ∷ []) t ≡ row_at rows t
row_other rows row t other = elim (cases_eq t 0) [
  | inl e ↦ rw (eq-eqb t 0 e) refl
  | inr nt ↦ rw (ne_eqb t 0 nt) (get_other rows row (t - 1) (λ e. other (omega arith)))
]

alive_other : (alive : List Bool) (t : ℕ) → (t ≡ length alive + 1 → ⊥) → alive_in (alive ++ true ∷ []) t ≡ alive_in alive t
alive_other alive t other = elim (cases_eq t 0) [
  | inl e ↦ rw (eq-eqb t 0 e) refl
  | inr nt ↦ rw (ne_eqb t 0 nt) (ap (λ (o : Option Bool). unwrap_or o false) (get_other alive true (t - 1) (λ e. other (omega arith))))
]

-- the rows of phones after a spawn
module _ (rows : List (List PhoneState)) (limit n : ℕ) (paired : length rows ≡ n) where
  new_at : (p : ℕ) → state_at (rows ++ replicate limit Free ∷ []) (n + 1) p ≡ slice_get (replicate limit Free) p
  new_at p = rw (← paired) (ap (option_and_then (λ (row : List PhoneState). slice_get row p)) (row_last rows (replicate limit Free)))

  old_at : (t p : ℕ) → (t ≡ n + 1 → ⊥) → state_at (rows ++ replicate limit Free ∷ []) t p ≡ state_at rows t p
  old_at t p other = ap (option_and_then (λ (row : List PhoneState). slice_get row p)) (row_other rows (replicate limit Free) t (λ e. other (omega (arith, e, paired))))

module _ (k : KernelState) (limit : ℕ) (names : Option TaskNo) (some : 1 ≤ limit) (paired : length k.tasks.phones ≡ length k.tasks.alive) where
  abbrev rows : List (List PhoneState)
  rows = k.tasks.phones ++ replicate limit Free ∷ []

  new : (p : ℕ) → state_at rows (length k.tasks.alive + 1) p ≡ slice_get (replicate limit Free) p
  new p = new_at k.tasks.phones limit (length k.tasks.alive) paired p

  old : (t p : ℕ) → (t ≡ length k.tasks.alive + 1 → ⊥) → state_at rows t p ≡ state_at k.tasks.phones t p
  old t p other = old_at k.tasks.phones limit (length k.tasks.alive) paired t p other

  made_by : (o : Option TaskNo) → ((u : TaskNo) → names ≡ Some u → is_alive k u ≡ true → o ≡ Some u) → (((u : TaskNo) → names ≡ Some u → is_alive k u ≡ false) → o ≡ None) → MakesTask limit names k (with_event (spawning k (next_task k) limit o).state)
  made_by None leads alone = record {
    made = new_is_alive k.tasks.alive;
    others = λ u other. alive_other k.tasks.alive u.0 other;
    leads = λ u is alive. absurd (let none = leads u is alive in cc);
    alone = λ none. new 0 ∙ get_copy limit 0 Free (omega arith);
    free = λ p from few. new p ∙ get_copy limit p Free few;
    limited = λ p out. new p ∙ past_copies limit p Free out;
    phones = λ u p other. old u.0 p other;
    calls = refl;
    areas = λ u. rows_stay k.memory.areas (u.0 - 1);
    stores = refl;
  }
  made_by (Some v) leads alone = record {
    made = new_is_alive k.tasks.alive;
    others = λ u other. alive_other k.tasks.alive u.0 other;
    leads = λ u is alive. state_here rows (length k.tasks.alive + 1) 0 (Connected v) (is_some (state_at rows (length k.tasks.alive + 1) 0) Free (new 0 ∙ get_copy limit 0 Free (omega arith))) ∙ (let same = leads u is alive in cc);
    alone = λ none. absurd (let is = alone none in cc);
    free = λ p from few. written_elsewhere rows (length k.tasks.alive + 1) 0 (length k.tasks.alive + 1) p (Connected v) (λ e. let first = e.1 in omega (arith, first, from)) ∙ new p ∙ get_copy limit p Free few;
    limited = λ p out. written_elsewhere rows (length k.tasks.alive + 1) 0 (length k.tasks.alive + 1) p (Connected v) (λ e. let first = e.1 in omega (arith, first, out)) ∙ new p ∙ past_copies limit p Free out;
    phones = λ u p other. written_elsewhere rows (length k.tasks.alive + 1) 0 u.0 p (Connected v) (λ e. other e.0) ∙ old u.0 p other;
    calls = refl;
    areas = λ u. rows_stay k.memory.areas (u.0 - 1);
    stores = refl;
  }

pub named_leads : (k : KernelState) (names : Option TaskNo) (u : TaskNo) → names ≡ Some u → is_alive k u ≡ true → named k names ≡ Some u
named_leads k names u is alive = rw (is, alive) refl

pub named_none : (k : KernelState) (names : Option TaskNo) → ((u : TaskNo) → names ≡ Some u → is_alive k u ≡ false) → named k names ≡ None
named_none k None ended = refl
named_none k (Some u) ended = rw (ended u refl) refl

pub spawn_makes_task : (k : KernelState) (limit : ℕ) (names : Option TaskNo) → IsSound k → 1 ≤ limit → MakesTask limit names k (spawn_event k limit names).state
spawn_makes_task k limit names sound some = made_by k limit names some sound.tasks.paired (named k names) (named_leads k names) (named_none k names)
