-- The memory stays sound with a new task, with each request of a task that is alive, and at the end of a task.
use Rattle.std.proofs.Common.{set, ◌≡◌, ℕ, zero, suc, ◌+◌, ◌-◌, ◌≤◌, Bool, true, false, inl, inr, List, [], ◌∷◌, ◌++◌, length, refl, ap, sym, ◌∙◌, arith, length-append}
use Rattle.std.specs.Prelude.{slice_get, unwrap_or}
use Rattle.ipc_ids.specs.declared.numbers.TaskNo.{TaskNo}
use Rattle.ipc_ids.proofs.Common.{in_marks}
use Rattle.std.proofs.Math.ListN.{length-set}
use Rattle.std.proofs.lemmas.Bool.{cases_eq, ne_eqb, false≢true}
use Rattle.address_space.specs.Areas.{Area}
use Rattle.address_space.specs.Memory.{Memory, no_memory, areas_of}
use Rattle.address_space.specs.Memory as spaces
use Rattle.address_space.proofs.Soundness.{sound_task as spaces_task, sound_make as spaces_make, sound_drop as spaces_drop}
use Rattle.address_space.proofs.Held.{held_none, held_task, held_make, held_drop}
use Rattle.address_space.proofs.Rows.{length_make, length_drop, others_at_make, others_at_drop}
use Rattle.data_hooks.proofs.Keeping.{IsOverwritten, written}
use Rattle.share_hooks.proofs.Keeping.{KeepsOthers}
use Rattle.switchboard.specs.State.{alive_in}
use Rattle.switchboard.specs.Sound.{HasSoundMemory}
use Rattle.switchboard.proofs.Soundness.{ended_before}
use Rattle.switchboard.proofs.MarkChanges.{alive_elsewhere}

pub memory_start : HasSoundMemory [] no_memory
memory_start = record {
  spaces = record { lawful = λ i x l. absurd (omega (arith, l)); over = λ i x l. absurd (omega (arith, l)) };
  held = held_none;
  paired = refl;
  owned = λ t some ended. refl;
}

-- a task that comes has no areas

no_areas_last : (rows : List (List Area)) (i : ℕ) → unwrap_or (slice_get rows i) [] ≡ [] → unwrap_or (slice_get (rows ++ [] ∷ []) i) [] ≡ []
no_areas_last [] zero h = refl
no_areas_last [] (suc i) h = refl
no_areas_last (x ∷ rows) zero h = h
no_areas_last (x ∷ rows) (suc i) h = no_areas_last rows i h

pub memory_task : {alive : List Bool} {m : Memory} → HasSoundMemory alive m → HasSoundMemory (alive ++ true ∷ []) (spaces.with_task m)
memory_task {alive} {m} s = record {
  spaces = spaces_task m s.spaces;
  held = held_task m s.held;
  paired = let h = s.paired in rw (length-append, length-append) (omega arith);
  owned = λ t some ended. no_areas_last m.areas (t.0 - 1) (s.owned t some (ended_before alive t.0 ended));
}

-- a request of a task that is alive

apart : (alive : List Bool) (t u : TaskNo) → alive_in alive t.0 ≡ true → alive_in alive u.0 ≡ false → u.0 ≡ t.0 → ⊥
apart alive t u lives ended e = false≢true (sym ended ∙ ap (alive_in alive) e ∙ lives)

pub positive : (alive : List Bool) (n : ℕ) → alive_in alive n ≡ true → 1 ≤ n
positive alive zero h = absurd (false≢true h)
positive alive (suc n) h = omega arith

pub from_one : (alive : List Bool) (t : TaskNo) → alive_in alive t.0 ≡ true → 1 ≤ t.0
from_one alive t lives = positive alive t.0 lives

pub mark_within : (alive : List Bool) (t : ℕ) → alive_in alive t ≡ true → t ≤ length alive
mark_within alive t h = elim (cases_eq t 0) [
  | inl e ↦ omega (arith, e)
  | inr nt ↦ let few = in_marks alive (t - 1) (rw (ne_eqb t 0 nt) at h) in omega (arith, few)
]

pub memory_make : {alive : List Bool} {m : Memory} (t : TaskNo) (base pages rights : ℕ) → alive_in alive t.0 ≡ true → HasSoundMemory alive m → HasSoundMemory alive (spaces.make m t base pages rights).memory
memory_make {alive} {m} t base pages rights lives s = record {
  spaces = spaces_make m t base pages rights s.spaces;
  held = held_make m t base pages rights (record { from_one = from_one alive t lives; in_range = let few = mark_within alive t.0 lives in let paired = s.paired in omega (arith, few, paired) }) s.held;
  paired = length_make m t base pages rights ∙ s.paired;
  owned = λ u some ended. others_at_make m t u base pages rights (from_one alive t lives) some (apart alive t u lives ended) ∙ s.owned u some ended;
}

pub memory_drop : {alive : List Bool} {m : Memory} (t : TaskNo) (base : ℕ) → alive_in alive t.0 ≡ true → HasSoundMemory alive m → HasSoundMemory alive (spaces.drop_area m t base).memory
memory_drop {alive} {m} t base lives s = record {
  spaces = spaces_drop m t base s.spaces;
  held = held_drop m t base s.held;
  paired = length_drop m t base ∙ s.paired;
  owned = λ u some ended. others_at_drop m t u base (from_one alive t lives) some (apart alive t u lives ended) ∙ s.owned u some ended;
}

-- bytes are written over
pub memory_overwritten : {alive : List Bool} {m after : Memory} → IsOverwritten m after → HasSoundMemory alive m → HasSoundMemory alive after
memory_overwritten {alive} {m} {after} over s = record {
  spaces = over.sound s.spaces;
  held = over.held s.held;
  paired = ap length over.areas ∙ s.paired;
  owned = λ u some ended. ap (λ (rows : List (List Area)). unwrap_or (slice_get rows (u.0 - 1)) []) over.areas ∙ s.owned u some ended;
}

pub memory_write : {alive : List Bool} {m : Memory} (t : TaskNo) (at : ℕ) (bytes : List ℕ) → HasSoundMemory alive m → HasSoundMemory alive (spaces.write m t at bytes).memory
memory_write {alive} {m} t at bytes s = memory_overwritten (written m t at bytes) s

-- a task that is alive gets an area over a store that is there
pub memory_shared : {alive : List Bool} {m after : Memory} (t : TaskNo) → alive_in alive t.0 ≡ true → KeepsOthers t m after → HasSoundMemory alive m → HasSoundMemory alive after
memory_shared {alive} {m} {after} t lives shared s = record {
  spaces = shared.sound s.spaces;
  held = shared.held s.held;
  paired = shared.tasks ∙ s.paired;
  owned = λ u some ended. shared.others u (from_one alive t lives) some (apart alive t u lives ended) ∙ s.owned u some ended;
}

-- a task that has no areas ends
pub memory_ended : {alive : List Bool} {m : Memory} (t : TaskNo) → alive_in alive t.0 ≡ true → areas_of m t ≡ [] → HasSoundMemory alive m → HasSoundMemory (set alive (t.0 - 1) false) m
memory_ended {alive} {m} t lives none s = record {
  spaces = s.spaces;
  held = s.held;
  paired = s.paired ∙ sym (length-set alive (t.0 - 1) false);
  owned = λ u some ended. elim (cases_eq u.0 t.0) [
    | inl e ↦ ap (λ (n : ℕ). unwrap_or (slice_get m.areas (n - 1)) []) e ∙ none
    | inr ne ↦ s.owned u some (sym (alive_elsewhere alive t.0 lives u.0 ne) ∙ ended)
  ];
}
