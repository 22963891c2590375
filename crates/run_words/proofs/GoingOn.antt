-- States of one script that have the same words are alike, and go on alike.
use Rattle.std.proofs.Common.{ℕ, ◌≡◌, List, [], ◌++◌, sym, ◌∙◌, ap}
use Rattle.ipc_ids.specs.declared.message.Event.{Event}
use Rattle.script_lines.specs.Plan.{Plan}
use Rattle.script_lines.specs.Sound.{IsSound}
use Rattle.task_system.specs.Run.{RunState, turn}
use Rattle.run_words.specs.Alike.{AreAlikeRuns}
use Rattle.run_words.specs.Reached.{IsReached}
use Rattle.run_words.specs.RunWords.{run_words}
use Rattle.run_words.proofs.RunSplits.{run_split, alike_words}
use Rattle.run_words.proofs.Reaching.{reached_constants, reached_sound}
use Rattle.run_words.proofs.Turning.{turned}

module _ (plan : Plan) (spawned : List ℕ) (a b : RunState) where
  pub told_apart : (s t : List ℕ) → IsSound plan → IsReached plan spawned a → IsReached plan spawned b
      → run_words a ++ s ≡ run_words b ++ t → AreAlikeRuns a b × (s ≡ t)
  told_apart s t sound h k e =
      run_split a b s t (reached_sound plan spawned a sound h) (reached_sound plan spawned b sound k)
      (reached_constants plan spawned a h ∙ sym (reached_constants plan spawned b k)) e

  alike : (e : Event) → IsSound plan → IsReached plan spawned a → IsReached plan spawned b
      → run_words a ≡ run_words b → ((turn a e).entries ≡ (turn b e).entries) × AreAlikeRuns (turn a e).state (turn b e).state
  alike e sound h k same =
      turned a b (reached_sound plan spawned a sound h) (reached_sound plan spawned b sound k)
      (told_apart [] [] sound h k (ap (λ (z : List ℕ). z ++ []) same)).0 e

  pub same_entries : (e : Event) → IsSound plan → IsReached plan spawned a → IsReached plan spawned b
      → run_words a ≡ run_words b → (turn a e).entries ≡ (turn b e).entries
  same_entries e sound h k same = (alike e sound h k same).0

  pub same_words : (e : Event) → IsSound plan → IsReached plan spawned a → IsReached plan spawned b
      → run_words a ≡ run_words b → run_words (turn a e).state ≡ run_words (turn b e).state
  same_words e sound h k same = alike_words (turn a e).state (turn b e).state (alike e sound h k same).1
