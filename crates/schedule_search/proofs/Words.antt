-- What the words of states of one script tell.
use Rattle.std.proofs.Common.{ℕ, ◌≡◌, List, [], ◌++◌, length, sym, ◌∙◌, ap}
use Rattle.ipc_ids.specs.declared.message.Event.{Event}
use Rattle.script_lines.specs.Plan.{Plan}
use Rattle.script_lines.specs.Sound.{IsSound}
use Rattle.task_system.specs.Run.{RunState, turn}
use Rattle.state_words.specs.Order.{AreOfOneOrder}
use Rattle.run_words.specs.Alike.{AreAlikeRuns}
use Rattle.run_words.specs.Reached.{IsReached}
use Rattle.run_words.specs.RunWords.{run_words}
use Rattle.run_words.proofs.Reaching.{reached_tasks}
use Rattle.run_words.proofs.GoingOn.{told_apart, same_entries, same_words}

-- of states that are reached by the same spawns
pub record WordsTell (plan : Plan) (spawned : List ℕ) : Type 0 where
  pub tasks : (a b : RunState) → IsReached plan spawned a → IsReached plan spawned b
      → length a.kernel.tasks.alive ≡ length b.kernel.tasks.alive
  pub alike : (a b : RunState) → IsReached plan spawned a → IsReached plan spawned b → run_words a ≡ run_words b
      → AreAlikeRuns a b
  pub calls : (a b : RunState) → IsReached plan spawned a → IsReached plan spawned b → run_words a ≡ run_words b
      → AreOfOneOrder a.kernel.calls b.kernel.calls
  pub entries : (a b : RunState) (e : Event) → IsReached plan spawned a → IsReached plan spawned b
      → run_words a ≡ run_words b → (turn a e).entries ≡ (turn b e).entries
  pub words : (a b : RunState) (e : Event) → IsReached plan spawned a → IsReached plan spawned b
      → run_words a ≡ run_words b → run_words (turn a e).state ≡ run_words (turn b e).state

pub words_tell : (plan : Plan) (spawned : List ℕ) → IsSound plan → WordsTell plan spawned
words_tell plan spawned sound =
    record {
      tasks = λ (a b : RunState) (h : IsReached plan spawned a) (k : IsReached plan spawned b).
          reached_tasks plan spawned a h ∙ sym (reached_tasks plan spawned b k);
      alike = λ (a b : RunState) (h : IsReached plan spawned a) (k : IsReached plan spawned b) (e : run_words a ≡ run_words b).
          (told_apart plan spawned a b [] [] sound h k (ap (λ (z : List ℕ). z ++ []) e)).0;
      calls = λ (a b : RunState) (h : IsReached plan spawned a) (k : IsReached plan spawned b) (e : run_words a ≡ run_words b).
          (told_apart plan spawned a b [] [] sound h k (ap (λ (z : List ℕ). z ++ []) e)).0.kernel.calls;
      entries = λ (a b : RunState) (x : Event) (h : IsReached plan spawned a) (k : IsReached plan spawned b) (e : run_words a ≡ run_words b).
          same_entries plan spawned a b x sound h k e;
      words = λ (a b : RunState) (x : Event) (h : IsReached plan spawned a) (k : IsReached plan spawned b) (e : run_words a ≡ run_words b).
          same_words plan spawned a b x sound h k e;
    }
