-- A state of a run is read again from its words, but for what is constant, for its counts and for the stamps of calls.
use Rattle.std.proofs.Common.{ℕ, ◌≡◌, List, [], ◌∷◌, ◌++◌, map, refl, sym, ◌∙◌, ap, append_assoc}
use Rattle.std.specs.List.{flat_map}
use Rattle.switchboard.specs.Sound.{IsSound}
use Rattle.task_system.specs.declared.any.AnyProgram.{AnyProgram}
use Rattle.task_system.specs.declared.any.AnyProgram.TheVariants as any
use Rattle.task_system.specs.Run.{RunState}
use Rattle.run_words.specs.AlikeStates.{uncounted_program, uncounted_programs, AreAlikePrograms}
use Rattle.run_words.specs.Constants.{constant, Constants, constants}
use Rattle.run_words.specs.Kernel.{kernel_words}
use Rattle.run_words.proofs.KernelSplits.{kernel_split}
use Rattle.run_words.proofs.KernelGoingOn.{words_again}
use Rattle.state_words.proofs.ProgramSplits.{raw_split, naming_split, block_split}
use Rattle.state_words.proofs.AsyncSplits.{async_split}
use Rattle.run_words.specs.RunWords.{any_words, run_words}
use Rattle.run_words.specs.Alike.{AreAlikeRuns}

-- ---- one program

program_split : (a b : AnyProgram) (s t : List ℕ) → constant a ≡ constant b
    → any_words a ++ s ≡ any_words b ++ t → AreAlikePrograms a b × (s ≡ t)
program_split (any.Raw a) (any.Raw b) s t c e =
    let ops : a.ops ≡ b.ops = cc in
    let h = raw_split a b s t ops e in
    (ap any.Raw h.0, h.1)
program_split (any.Raw a) (any.Naming b) s t c e = absurd (cc)
program_split (any.Raw a) (any.Async b) s t c e = absurd (cc)
program_split (any.Raw a) (any.Block b) s t c e = absurd (cc)
program_split (any.Naming a) (any.Raw b) s t c e = absurd (cc)
program_split (any.Naming a) (any.Naming b) s t c e =
    let h = naming_split a b s t e in
    (ap any.Naming h.0, h.1)
program_split (any.Naming a) (any.Async b) s t c e = absurd (cc)
program_split (any.Naming a) (any.Block b) s t c e = absurd (cc)
program_split (any.Async a) (any.Raw b) s t c e = absurd (cc)
program_split (any.Async a) (any.Naming b) s t c e = absurd (cc)
program_split (any.Async a) (any.Async b) s t c e =
    let me : a.state.me ≡ b.state.me = cc in
    let bodies : a.state.bodies ≡ b.state.bodies = cc in
    let h = async_split a b s t me bodies e in
    (ap any.Async h.0, h.1)
program_split (any.Async a) (any.Block b) s t c e = absurd (cc)
program_split (any.Block a) (any.Raw b) s t c e = absurd (cc)
program_split (any.Block a) (any.Naming b) s t c e = absurd (cc)
program_split (any.Block a) (any.Async b) s t c e = absurd (cc)
program_split (any.Block a) (any.Block b) s t c e =
    let h = block_split a b s t e in
    (ap any.Block h.0, h.1)

-- ---- all programs

abbrev all_words : List AnyProgram → List ℕ
all_words programs = flat_map any_words programs

programs_split : (ps qs : List AnyProgram) (s t : List ℕ) → map constant ps ≡ map constant qs
    → all_words ps ++ s ≡ all_words qs ++ t → (uncounted_programs ps ≡ uncounted_programs qs) × (s ≡ t)
programs_split [] [] s t c e = (refl, e)
programs_split [] (q ∷ qs) s t c e = absurd (cc)
programs_split (p ∷ ps) [] s t c e = absurd (cc)
programs_split (p ∷ ps) (q ∷ qs) s t c e =
    let f : any_words p ++ (all_words ps ++ s) ≡ any_words q ++ (all_words qs ++ t) =
    sym (append_assoc (any_words p) (all_words ps) s) ∙ e ∙ append_assoc (any_words q) (all_words qs) t in
    let one : constant p ≡ constant q = cc in
    let more : map constant ps ≡ map constant qs = cc in
    let h = program_split p q (all_words ps ++ s) (all_words qs ++ t) one f in
    let r = programs_split ps qs s t more h.1 in
    (ap (λ z. z ∷ uncounted_programs ps) h.0 ∙ ap (λ z. uncounted_program q ∷ z) r.0, r.1)

-- ---- the whole state, of sound kernels of which the same is constant

pub run_split : (a b : RunState) (s t : List ℕ) → IsSound a.kernel → IsSound b.kernel → constants a ≡ constants b
    → run_words a ++ s ≡ run_words b ++ t → AreAlikeRuns a b × (s ≡ t)
run_split a b s t h k c e =
    let f : kernel_words a.kernel ++ (all_words a.programs ++ s) ≡ kernel_words b.kernel ++ (all_words b.programs ++ t) =
    sym (append_assoc (kernel_words a.kernel) (all_words a.programs) s)
    ∙ e
    ∙ append_assoc (kernel_words b.kernel) (all_words b.programs) t in
    let kernels = kernel_split a.kernel b.kernel (all_words a.programs ++ s) (all_words b.programs ++ t) h k f in
    let programs = programs_split a.programs b.programs s t (ap (λ (z : Constants). z.programs) c) kernels.1 in (
      record {
        kernel = kernels.0;
        programs = programs.0;
        templates = ap (λ (z : Constants). z.templates) c;
        names = ap (λ (z : Constants). z.names) c;
      },
      programs.1,
    )

-- ---- and states that are alike have the same words

one_again : (p : AnyProgram) → any_words (uncounted_program p) ≡ any_words p
one_again (any.Raw p) = refl
one_again (any.Naming p) = refl
one_again (any.Async p) = refl
one_again (any.Block p) = refl

all_again : (ps : List AnyProgram) → all_words (uncounted_programs ps) ≡ all_words ps
all_again [] = refl
all_again (p ∷ ps) =
    ap (λ z. z ++ all_words (uncounted_programs ps)) (one_again p) ∙ ap (λ z. any_words p ++ z) (all_again ps)

programs_again : (ps qs : List AnyProgram) → uncounted_programs ps ≡ uncounted_programs qs → all_words ps ≡ all_words qs
programs_again ps qs h = sym (all_again ps) ∙ ap all_words h ∙ all_again qs

pub alike_words : (a b : RunState) → AreAlikeRuns a b → run_words a ≡ run_words b
alike_words a b h =
    ap (λ (z : List ℕ). z ++ all_words a.programs) (words_again a.kernel b.kernel h.kernel)
    ∙ ap (λ (z : List ℕ). kernel_words b.kernel ++ z) (programs_again a.programs b.programs h.programs)
