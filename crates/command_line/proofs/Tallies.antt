-- What a run comes to, event by event.
use Rattle.std.proofs.Common.{◌≡◌, ℕ, ◌+◌, ◌++◌, [], ◌∷◌, List, Bool, length, refl, ap, sym, ◌∙◌, arith, length-append}
use Rattle.std.specs.Prelude.{count_by}
use Rattle.std.proofs.lemmas.Grind.{common_steps}
use Rattle.ipc_ids.specs.declared.entry.Entry.{Entry}
use Rattle.ipc_ids.specs.declared.message.Event.{Event}
use Rattle.trace_print.specs.Text.{text_of}
use Rattle.trace_print.proofs.Texts.{text_append}
use Rattle.task_system.specs.Run.{RunState, turn, run_from}
use Rattle.command_line.specs.declared.summary.Tally.{Tally}
use Rattle.command_line.specs.Summary.{is_accepted, is_answered, is_vanished, is_delivered, with_entries}

count_append : (test : Entry → Bool) (a b : List Entry) → count_by test (a ++ b) ≡ count_by test a + count_by test b
count_append test [] b = omega arith
count_append test (e ∷ a) b = grind (arith, common_steps, count_append test a b)

length_append : (a b : List Entry) → length (text_of (a ++ b)) ≡ length (text_of a) + length (text_of b)
length_append a b = ap length (text_append a b) ∙ length-append (text_of a) (text_of b)

abbrev made : ℕ → ℕ → ℕ → ℕ → ℕ → Tally
made c a v d b = record { calls = c; answered = a; vanished = v; delivered = d; bytes = b }

same : (c1 c2 a1 a2 v1 v2 d1 d2 b1 b2 : ℕ) → c1 ≡ c2 → a1 ≡ a2 → v1 ≡ v2 → d1 ≡ d2 → b1 ≡ b2
    → made c1 a1 v1 d1 b1 ≡ made c2 a2 v2 d2 b2
same c1 c2 a1 a2 v1 v2 d1 d2 b1 b2 c a v d b = rw (c, a, v, d, b) refl

-- entries behind others are counted after them
pub tally_append : (t : Tally) (a b : List Entry) → with_entries t (a ++ b) ≡ with_entries (with_entries t a) b
tally_append t a b =
    let calls = count_append is_accepted a b in
    let answered = count_append is_answered a b in
    let vanished = count_append is_vanished a b in
    let delivered = count_append is_delivered a b in
    let bytes = length_append a b in
    same _ _ _ _ _ _ _ _ _ _ (omega (arith, calls)) (omega (arith, answered)) (omega (arith, vanished)) (omega (arith, delivered)) (omega (arith, bytes))

-- no entry is nothing to count
nothing_more : (t : Tally) → with_entries t [] ≡ t
nothing_more t = same _ _ _ _ _ _ _ _ _ _ (omega arith) (omega arith) (omega arith) (omega arith) (omega arith)

-- one event more
pub one_more_event : (now : RunState) (e : Event) (left rest : List Event) (t all : Tally) → left ≡ e ∷ rest
    → with_entries t (run_from now left) ≡ all
    → with_entries (with_entries t (turn now e).entries) (run_from (turn now e).state rest) ≡ all
one_more_event now e left rest t all split so_far =
    sym (tally_append t (turn now e).entries (run_from (turn now e).state rest)) ∙ rw split at so_far

-- no event is left
pub no_more_events : (now : RunState) (left : List Event) (t all : Tally) → left ≡ []
    → with_entries t (run_from now left) ≡ all → t ≡ all
no_more_events now left t all none so_far = sym (nothing_more t) ∙ rw none at so_far
