-- Kernels of the same words go on alike.
use Rattle.std.proofs.Common.{ℕ, ◌≡◌, [], List, ◌++◌, Option, sym, ◌∙◌, ap}
use Rattle.ipc_ids.specs.declared.numbers.TaskNo.{TaskNo}
use Rattle.ipc_ids.specs.declared.message.Request.{Request}
use Rattle.address_space.specs.Memory.{Memory}
use Rattle.switchboard.specs.State.{Tasks, KernelState, Transition}
use Rattle.switchboard.specs.Serving.{Served}
use Rattle.switchboard.specs.Sound.{IsSound}
use Rattle.kernel_core.specs.Kernel.{serve, kill_event, spawn_event}
use Rattle.state_words.specs.Words.{rows_words}
use Rattle.state_words.specs.MemoryWords.{marks_words, memory_words}
use Rattle.state_words.specs.KernelWords.{parts_words}
use Rattle.state_words.proofs.Again as again
use Rattle.run_words.specs.Counted.{with_count, step_with_count, served_with_count}
use Rattle.run_words.proofs.RequestCounts.{serve_counts, kill_counts, spawn_counts}
use Rattle.run_words.specs.Stamped.{step_with_stamps, served_with_stamps}
use Rattle.run_words.proofs.RequestStamps.{serve_stamps, kill_stamps, spawn_stamps}
use Rattle.run_words.specs.Kernel.{kernel_words, AreAlikeKernels, AreAlikeSteps, AreServedAlike}
use Rattle.run_words.proofs.KernelSplits.{kernel_split}
use Rattle.run_words.proofs.Renaming.{AreRenamed, renamed, alike_from}

-- two steps have the same entries, and leave states that are alike
pub record GoOnAlike (a b : Transition) : Type 0 where
  pub entries : a.entries ≡ b.entries
  pub states : AreAlikeKernels a.state b.state

-- two requests come to the same outcome, likewise
pub record ServeOnAlike (a b : Served) : Type 0 where
  pub outcome : a.outcome ≡ b.outcome
  pub entries : a.entries ≡ b.entries
  pub states : AreAlikeKernels a.state b.state

module _ (a b : KernelState) (r : AreRenamed a b) where
  -- what is the same but for the stamps and the count of events, and as if there had been one
  steps_on : (x y : Transition)
      → step_with_stamps r.f r.d (step_with_count 1 x) ≡ step_with_stamps r.g r.e (step_with_count 1 y) → GoOnAlike x y
  steps_on x y is =
      record {
        entries = ap (λ (z : Transition). z.entries) is;
        states = alike_from r.f r.g r.d r.e x.state y.state r.f_rises r.g_rises
            (ap (λ (z : Transition). with_count 0 z.state) is);
      }

  requests_on : (x y : Served)
      → served_with_stamps r.f r.d (served_with_count 1 x) ≡ served_with_stamps r.g r.e (served_with_count 1 y)
      → ServeOnAlike x y
  requests_on x y is =
      record {
        outcome = ap (λ (z : Served). z.outcome) is;
        entries = ap (λ (z : Served). z.entries) is;
        states = alike_from r.f r.g r.d r.e x.state y.state r.f_rises r.g_rises
            (ap (λ (z : Served). with_count 0 z.state) is);
      }

  pub served_renamed : (t : TaskNo) (asked : Request) → ServeOnAlike (serve a t asked) (serve b t asked)
  served_renamed t asked =
      requests_on (serve a t asked) (serve b t asked)
      (ap (served_with_stamps r.f r.d) (sym (serve_counts 0 a t asked))
      ∙ sym (serve_stamps r.f r.n r.d (with_count 0 a) t asked r.f_rises r.f_shifts r.f_late)
      ∙ ap (λ (z : KernelState). serve z t asked) r.same
      ∙ serve_stamps r.g r.m r.e (with_count 0 b) t asked r.g_rises r.g_shifts r.g_late
      ∙ ap (served_with_stamps r.g r.e) (serve_counts 0 b t asked))

  pub killed_renamed : (t : TaskNo) → GoOnAlike (kill_event a t) (kill_event b t)
  killed_renamed t =
      steps_on (kill_event a t) (kill_event b t)
      (ap (step_with_stamps r.f r.d) (sym (kill_counts 0 a t))
      ∙ sym (kill_stamps r.f r.n r.d (with_count 0 a) t r.f_rises r.f_shifts r.f_late)
      ∙ ap (λ (z : KernelState). kill_event z t) r.same
      ∙ kill_stamps r.g r.m r.e (with_count 0 b) t r.g_rises r.g_shifts r.g_late
      ∙ ap (step_with_stamps r.g r.e) (kill_counts 0 b t))

  pub spawned_renamed : (limit : ℕ) (names : Option TaskNo)
      → GoOnAlike (spawn_event a limit names) (spawn_event b limit names)
  spawned_renamed limit names =
      steps_on (spawn_event a limit names) (spawn_event b limit names)
      (ap (step_with_stamps r.f r.d) (sym (spawn_counts 0 a limit names))
      ∙ sym (spawn_stamps r.f r.d (with_count 0 a) limit names)
      ∙ ap (λ (z : KernelState). spawn_event z limit names) r.same
      ∙ spawn_stamps r.g r.e (with_count 0 b) limit names
      ∙ ap (step_with_stamps r.g r.e) (spawn_counts 0 b limit names))

-- ---- sound states that are alike go on alike
pub served_on : (a b : KernelState) (t : TaskNo) (asked : Request) → IsSound a → IsSound b → AreAlikeKernels a b
    → ServeOnAlike (serve a t asked) (serve b t asked)
served_on a b t asked h k alike = served_renamed a b (renamed a b h k alike) t asked

pub killed_on : (a b : KernelState) (t : TaskNo) → IsSound a → IsSound b → AreAlikeKernels a b
    → GoOnAlike (kill_event a t) (kill_event b t)
killed_on a b t h k alike = killed_renamed a b (renamed a b h k alike) t

pub spawned_on : (a b : KernelState) (limit : ℕ) (names : Option TaskNo) → IsSound a → IsSound b → AreAlikeKernels a b
    → GoOnAlike (spawn_event a limit names) (spawn_event b limit names)
spawned_on a b limit names h k alike = spawned_renamed a b (renamed a b h k alike) limit names

-- ---- states that are alike have the same words
pub words_again : (a b : KernelState) → AreAlikeKernels a b → kernel_words a ≡ kernel_words b
words_again a b alike =
    ap (λ (z : Tasks). parts_words z.alive z.phones a.calls a.memory) alike.tasks
    ∙ ap
    (λ (z : List ℕ). marks_words b.tasks.alive ++ (rows_words b.tasks.phones ++ (z ++ memory_words a.memory)))
    (again.words_again a.calls b.calls alike.calls)
    ∙ ap (λ (z : Memory). parts_words b.tasks.alive b.tasks.phones b.calls z) alike.memory

same_kernel : (a b : KernelState) → IsSound a → IsSound b → kernel_words a ≡ kernel_words b → AreAlikeKernels a b
same_kernel a b h k e = (kernel_split a b [] [] h k (ap (λ (z : List ℕ). z ++ []) e)).0

steps_alike : (x y : Transition) → GoOnAlike x y → AreAlikeSteps x y
steps_alike x y on = record { entries = on.entries; words = words_again x.state y.state on.states }

pub requests : (a b : KernelState) (t : TaskNo) (asked : Request) → IsSound a → IsSound b
    → kernel_words a ≡ kernel_words b → AreServedAlike (serve a t asked) (serve b t asked)
requests a b t asked h k e =
    let on = served_on a b t asked h k (same_kernel a b h k e) in
    record {
      outcome = on.outcome;
      entries = on.entries;
      words = words_again (serve a t asked).state (serve b t asked).state on.states;
    }

pub kills : (a b : KernelState) (t : TaskNo) → IsSound a → IsSound b
    → kernel_words a ≡ kernel_words b → AreAlikeSteps (kill_event a t) (kill_event b t)
kills a b t h k e =
    steps_alike (kill_event a t) (kill_event b t) (killed_on a b t h k (same_kernel a b h k e))

pub spawns : (a b : KernelState) (limit : ℕ) (names : Option TaskNo) → IsSound a → IsSound b
    → kernel_words a ≡ kernel_words b
    → AreAlikeSteps (spawn_event a limit names) (spawn_event b limit names)
spawns a b limit names h k e =
    steps_alike (spawn_event a limit names) (spawn_event b limit names)
    (spawned_on a b limit names h k (same_kernel a b h k e))
