-- A step whose request is known is that of the task's program.
use Rattle.std.proofs.Common.{◌≡◌, ℕ, ◌-◌, ◌<◌, length, Bool, true, false, Option, None, Some, Result, Ok, Err, List, [], ◌∷◌, ◌++◌, append_assoc, refl, sym, ap, ◌∙◌, set, subst}
use Rattle.std.specs.Prelude.{slice_get, if◌then◌else◌, option_map, get_or, OnOk, OnErr}
use Rattle.std.proofs.lemmas.Option.{get_or_from_slice_get, slice_get_within}
use Rattle.ipc_ids.specs.declared.numbers.TaskNo.{TaskNo}
use Rattle.ipc_ids.specs.declared.message.Request.{Request}
use Rattle.ipc_ids.specs.declared.message.Outcome.{Outcome}
use Rattle.ipc_ids.specs.declared.entry.Entry.{Entry}
use Rattle.ipc_ids.specs.Program.{fits}
use Rattle.ipc_ids.specs.Trace.{TraceState}
use Rattle.switchboard.specs.State.{KernelState, is_alive}
use Rattle.kernel_core.specs.History.{served_entries, killed_entries}
use Rattle.kernel_core.specs.Kernel.{serve, kill_event}
use Rattle.task_system.specs.Any.{wanted, after, entries}
use Rattle.task_system.specs.declared.any.AnyProgram.{AnyProgram}
use Rattle.task_system.specs.Run.{RunState, RunTransition, TellsPart, program_at, gone, killed, kill, step_by, step_served, step}

-- the program of a task that has not ended, which asks just what is known
pub record Asker (now : RunState) (task : TaskNo) (request : Request) : Type 0 where
  pub program : AnyProgram
  pub found : slice_get now.programs (task.0 - 1) ≡ Some program
  pub asks : wanted program ≡ request
  pub steps : step now task ≡ step_served now task program (serve now.kernel task request)

chosen : (b : Bool) (o : Option AnyProgram) (p : AnyProgram) → (if b then o else None) ≡ Some p → o ≡ Some p
chosen true o p h = h
chosen false o p h = absurd (cc h)

asks_it : (p : AnyProgram) (request : Request) → option_map wanted (Some p) ≡ Some request → wanted p ≡ request
asks_it p request h = cc h

asker_by : (now : RunState) (task : TaskNo) (request : Request) (o : Option AnyProgram) → program_at now task ≡ o → option_map wanted o ≡ Some request → Asker now task request
asker_by now task request None here asked = absurd (cc asked)
asker_by now task request (Some p) here asked =
    let same : wanted p ≡ request = asks_it p request asked in
    record {
      program = p;
      found = chosen (is_alive now.kernel task) (slice_get now.programs (task.0 - 1)) p here;
      asks = same;
      steps = ap (step_by now task) here ∙ ap (λ (r : Request). step_served now task p (serve now.kernel task r)) same;
    }

-- of a state that was read before
pub asker : (before now : RunState) (task : TaskNo) (request : Request) → before ≡ now → option_map wanted (program_at now task) ≡ Some request → Asker before task request
asker before now task request same asked = asker_by before task request (program_at before task) refl (rw (← same) at asked)

module _ (before now : RunState) (task : TaskNo) (request : Request) (it : Asker before task request) where
  -- there is a program of the task
  pub place_within : (place : ℕ) → place ≡ task.0 - 1 → place < length before.programs
  place_within place at = rw at (slice_get_within before.programs (task.0 - 1) it.program it.found)

  -- it stands at its place
  is_program : (place : ℕ) (old : AnyProgram) → place ≡ task.0 - 1 → old ≡ get_or before.programs place old → old ≡ it.program
  is_program place old at is =
      is ∙ ap (λ i. get_or before.programs i old) at ∙ get_or_from_slice_get before.programs (task.0 - 1) it.program old it.found

  -- an outcome of the request fits it
  pub told_fits : (place : ℕ) (old : AnyProgram) (o : Outcome) → place ≡ task.0 - 1 → old ≡ get_or before.programs place old
      → fits request o ≡ true → fits (wanted old) o ≡ true
  told_fits place old o at is h =
      let same : wanted old ≡ request = ap wanted (is_program place old at is) ∙ it.asks in
      subst (λ (r : Request). fits r o ≡ true) (sym same) h

  steps_now : before ≡ now → step now task ≡ step_served before task it.program (serve before.kernel task request)
  steps_now same = ap (λ (r : RunState). step r task) (sym same) ∙ it.steps

  tells_now : before ≡ now → (step now task).entries
      ≡ served_entries task request (serve before.kernel task request) ++ entries it.program (serve before.kernel task request).outcome
  tells_now same =
      ap (λ (n : RunTransition). n.entries) (steps_now same)
      ∙ ap
      (λ (r : Request). served_entries task r (serve before.kernel task request) ++ entries it.program (serve before.kernel task request).outcome)
      it.asks

  -- the state after the step
  pub stepped : (place : ℕ) (outcome : Outcome) (old new : AnyProgram) (kernel : KernelState)
      → before ≡ now
      → place ≡ task.0 - 1
      → old ≡ get_or before.programs place old
      → kernel ≡ (serve before.kernel task request).state
      → outcome ≡ (serve before.kernel task request).outcome
      → new ≡ after old outcome
      → record { kernel = kernel; programs = set before.programs place new; templates = before.templates; names = before.names } ≡ (step now task).state
  stepped place outcome old new kernel same at is kernel_is outcome_is new_is =
      let program : old ≡ it.program = is_program place old at is in
      rw (kernel_is, new_is, program, outcome_is, at) (sym (ap (λ (n : RunTransition). n.state) (steps_now same)))

  -- the entries of the step, the program's own behind the others
  pub step_told : (place : ℕ) (outcome : Outcome) (old : AnyProgram) (first served last : List Entry)
      → before ≡ now
      → place ≡ task.0 - 1
      → old ≡ get_or before.programs place old
      → outcome ≡ (serve before.kernel task request).outcome
      → served ≡ first ++ served_entries task request (serve before.kernel task request)
      → last ≡ served ++ entries old outcome
      → last ≡ first ++ (step now task).entries
  step_told place outcome old first served last same at is outcome_is served_is last_is =
      let told : List Entry = served_entries task request (serve before.kernel task request) in
      let own : entries old outcome ≡ entries it.program (serve before.kernel task request).outcome =
      ap (λ (p : AnyProgram). entries p outcome) (is_program place old at is) ∙ ap (λ (o : Outcome). entries it.program o) outcome_is in
      last_is
      ∙ ap (λ es. es ++ entries old outcome) served_is
      ∙ append_assoc first told (entries old outcome)
      ∙ ap (λ es. first ++ (told ++ es)) own
      ∙ ap (λ es. first ++ es) (sym (tells_now same))

  -- a part of what the kernel tells is a part of what the step tells
  pub step_part : (old new : TraceState) → before ≡ now
      → TellsPart old new (served_entries task request (serve before.kernel task request)) → TellsPart old new (step now task).entries
  step_part old new same part =
      let own : List Entry = entries it.program (serve before.kernel task request).outcome in
      let longer : (part.0 ++ part.1) ++ own ≡ (step now task).entries =
      ap (λ es. es ++ own) part.2 ∙ sym (tells_now same) in
      (part.0, part.1 ++ own, sym (append_assoc part.0 part.1 own) ∙ longer, part.3)

  -- where the program did not take its outcome, what the kernel tells is a part of what the step tells
  pub step_before : (old served new : TraceState) → before ≡ now
      → served.entries ≡ old.entries ++ served_entries task request (serve before.kernel task request)
      → new.entries ≡ served.entries
      → TellsPart old new (step now task).entries
  step_before old served new same told_is new_is =
      let told : List Entry = served_entries task request (serve before.kernel task request) in
      let own : List Entry = entries it.program (serve before.kernel task request).outcome in
      (told, own, sym (tells_now same), new_is ∙ told_is)

-- a step whose program did not take its outcome
pub err_then : {T E : Type 0} (r : Result T E) (P Q : Type 0) → (P → Q) → OnErr r P → OnErr r Q
err_then (Ok x) P Q f p = tt
err_then (Err e) P Q f p = f p

-- a step whose program took its outcome
pub ok_then : {T E : Type 0} (r : Result T E) (P Q : Type 0) → (P → Q) → OnOk r P → OnOk r Q
ok_then (Ok x) P Q f p = f p
ok_then (Err e) P Q f p = tt

-- what a kill of a task that has not ended tells
pub kill_told : (before now : RunState) (task : TaskNo) → before ≡ now → is_alive before.kernel task ≡ true
    → killed_entries task (kill_event before.kernel task) ≡ (kill now task).entries
kill_told before now task same alive =
    sym
    (ap (λ (r : RunState). (kill r task).entries) (sym same)
    ∙ ap (λ b. (if b then killed before task (kill_event before.kernel task) else gone before task).entries) alive)

-- what is told of a request that is served: its head, what it did, and its outcome
pub told_whole : (old first asked served last all es : List Entry) (h o : Entry) → first ≡ old → asked ≡ first ++ h ∷ []
    → served ≡ asked ++ es → last ≡ served → all ≡ last ++ o ∷ [] → all ≡ old ++ (h ∷ es ++ o ∷ [])
told_whole old first asked served last all es h o a b c d e =
    e ∙ ap (λ (v : List Entry). v ++ o ∷ [])
    (d ∙ c ∙ ap (λ (v : List Entry). v ++ es) (b ∙ ap (λ (v : List Entry). v ++ h ∷ []) a))
    ∙ append_assoc (old ++ h ∷ []) es (o ∷ []) ∙ append_assoc old (h ∷ []) (es ++ o ∷ [])
