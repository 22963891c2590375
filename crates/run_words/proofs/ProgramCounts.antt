-- Programs of each kind ask, become and tell the same after however many outcomes.
use Rattle.std.proofs.Common.{◌≡◌, ℕ, List, [], ◌∷◌, ◌++◌, refl, sym, ◌∙◌, ap, slice_set}
use Rattle.std.proofs.lemmas.List.{map-set}
use Rattle.ipc_ids.specs.declared.message.Outcome.{Outcome}
use Rattle.task_system.specs.declared.any.AnyProgram.{AnyProgram}
use Rattle.task_system.specs.declared.any.AnyProgram.TheVariants as any
use Rattle.task_system.specs.Any.{wanted, after, entries}
use Rattle.run_words.specs.AlikeStates.{uncounted_program, uncounted_programs, AreAlikePrograms}
use Rattle.run_words.proofs.ServiceCounts.{naming_after, block_after, block_wanted}

-- ---- of a program whose count is left out

pub after_uncounted : (p : AnyProgram) (o : Outcome)
    → uncounted_program (after (uncounted_program p) o) ≡ uncounted_program (after p o)
after_uncounted (any.Raw p) o = refl
after_uncounted (any.Naming p) o = ap any.Naming (naming_after p o)
after_uncounted (any.Async p) o = refl
after_uncounted (any.Block p) o = ap any.Block (block_after p o)

pub wanted_uncounted : (p : AnyProgram) → wanted (uncounted_program p) ≡ wanted p
wanted_uncounted (any.Raw p) = refl
wanted_uncounted (any.Naming p) = refl
wanted_uncounted (any.Async p) = refl
wanted_uncounted (any.Block p) = block_wanted p

pub entries_uncounted : (p : AnyProgram) (o : Outcome) → entries (uncounted_program p) o ≡ entries p o
entries_uncounted (any.Raw p) o = refl
entries_uncounted (any.Naming p) o = refl
entries_uncounted (any.Async p) o = refl
entries_uncounted (any.Block p) o = refl

-- ---- of two that differ in their counts alone

pub alike_wanted : (p q : AnyProgram) → AreAlikePrograms p q → wanted p ≡ wanted q
alike_wanted p q h = sym (wanted_uncounted p) ∙ ap wanted h ∙ wanted_uncounted q

pub alike_entries : (p q : AnyProgram) (o : Outcome) → AreAlikePrograms p q → entries p o ≡ entries q o
alike_entries p q o h = sym (entries_uncounted p o) ∙ ap (λ z. entries z o) h ∙ entries_uncounted q o

pub alike_after : (p q : AnyProgram) (o : Outcome)
    → AreAlikePrograms p q → AreAlikePrograms (after p o) (after q o)
alike_after p q o h =
    sym (after_uncounted p o) ∙ ap (λ z. uncounted_program (after z o)) h ∙ after_uncounted q o

-- ---- of the programs of a run

twice : (p : AnyProgram) → uncounted_program (uncounted_program p) ≡ uncounted_program p
twice (any.Raw p) = refl
twice (any.Naming p) = refl
twice (any.Async p) = refl
twice (any.Block p) = refl

pub all_twice : (ps : List AnyProgram) → uncounted_programs (uncounted_programs ps) ≡ uncounted_programs ps
all_twice [] = refl
all_twice (p ∷ ps) =
    ap (λ z. z ∷ uncounted_programs (uncounted_programs ps)) (twice p)
    ∙ ap (λ z. uncounted_program p ∷ z) (all_twice ps)

-- one of them takes an outcome
pub set_uncounted : (ps : List AnyProgram) (i : ℕ) (p : AnyProgram) (o : Outcome)
    → uncounted_programs (slice_set (uncounted_programs ps) i (after (uncounted_program p) o))
    ≡ uncounted_programs (slice_set ps i (after p o))
set_uncounted ps i p o =
    map-set uncounted_program (uncounted_programs ps) i (after (uncounted_program p) o)
    ∙ ap (λ z. slice_set z i (uncounted_program (after (uncounted_program p) o))) (all_twice ps)
    ∙ ap (λ z. slice_set (uncounted_programs ps) i z) (after_uncounted p o)
    ∙ sym (map-set uncounted_program ps i (after p o))

-- one more
pub more_uncounted : (ps : List AnyProgram) (p : AnyProgram)
    → uncounted_programs (uncounted_programs ps ++ p ∷ []) ≡ uncounted_programs (ps ++ p ∷ [])
more_uncounted [] p = refl
more_uncounted (q ∷ ps) p =
    ap (λ z. z ∷ uncounted_programs (uncounted_programs ps ++ p ∷ [])) (twice q)
    ∙ ap (λ z. uncounted_program q ∷ z) (more_uncounted ps p)
