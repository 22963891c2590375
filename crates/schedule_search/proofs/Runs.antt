-- The entries of a run, one event after the other.
use Rattle.std.proofs.Common.{ℕ, ◌≡◌, ◌≤◌, ◌<◌, ◌+◌, List, ◌∷◌, ◌++◌, length, drop, get_or, sym, ◌∙◌, ap, append_assoc, append-nil}
use Rattle.std.proofs.lemmas.List.{drop_more, drop_all}
use Rattle.ipc_ids.specs.declared.entry.Entry.{Entry}
use Rattle.ipc_ids.specs.declared.message.Event.{Event}
use Rattle.task_system.specs.Run.{RunState, turn, run_from}

module _ (events : List Event) (i : ℕ) (e d : Event) (within : i < length events) (is : e ≡ get_or events i d) where
  -- what is told, and what the events that are left tell, is the whole
  pub tells_later : (now next : RunState) (told more whole : List Entry) → next ≡ (turn now e).state
      → more ≡ told ++ (turn now e).entries → told ++ run_from now (drop i events) ≡ whole
      → more ++ run_from next (drop (i + 1) events) ≡ whole
  tells_later now next told more whole to added h =
      ap (λ (z : List Entry). z ++ run_from next (drop (i + 1) events)) added
      ∙ append_assoc told (turn now e).entries (run_from next (drop (i + 1) events))
      ∙ ap (λ (z : RunState). told ++ ((turn now e).entries ++ run_from z (drop (i + 1) events))) to
      ∙ ap (λ (z : Event). told ++ run_from now (z ∷ drop (i + 1) events)) is
      ∙ ap (λ (es : List Event). told ++ run_from now es) (sym (drop_more events i d within))
      ∙ h

pub tells_there : (events : List Event) (i : ℕ) → length events ≤ i → (now : RunState) (told whole : List Entry)
    → told ++ run_from now (drop i events) ≡ whole → told ≡ whole
tells_there events i over now told whole h =
    sym (append-nil told) ∙ ap (λ (es : List Event). told ++ run_from now es) (sym (drop_all i events over)) ∙ h
