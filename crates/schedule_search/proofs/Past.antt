-- Nothing stands at an operation that no body has.
use Rattle.std.proofs.Common.{◌≡◌, ℕ, zero, suc, ◌-◌, ◌≤◌, false, List, [], ◌∷◌, length, Option, None, Some, refl, sym, ap, subst, ◌∙◌, inl, inr, arith, ne_eqb, slice_get}
use Rattle.std.specs.Prelude.{◌==◌, ◌&&◌, nat_lt, is_some}
use Rattle.std.proofs.lemmas.Bool.{cases_eq, and_left, and_right, or_parts, ltb-false, true≢false}
use Rattle.std.proofs.lemmas.Option.{slice_get_past, same_Some}
use Rattle.ipc_ids.specs.declared.numbers.FibrilNo.{FibrilNo}
use Rattle.ipc_ids.specs.declared.op.Body.{Body}
use Rattle.script_lines.specs.Plan.{Plan}
use Rattle.script_lines.specs.Sound.{IsTask}
use Rattle.search_goals.specs.declared.conditions.Condition.{Condition}
use Rattle.search_goals.specs.declared.conditions.Condition.TheVariants as conditions
use Rattle.search_goals.specs.declared.conditions.Subject.{Subject}
use Rattle.search_goals.specs.Places.{bodies_in, has_operation, is_known}
use Rattle.search_goals.specs.Places as places
use Rattle.raw_program.specs.Raw.{RawState}
use Rattle.async_task.specs.declared.context.Context.{Context}
use Rattle.async_task.specs.AsyncState.{context_at, op_in}
use Rattle.task_system.specs.declared.any.AnyProgram.{AnyProgram}
use Rattle.task_system.specs.declared.any.AnyProgram.TheVariants as any
use Rattle.task_system.specs.Run.{RunState, ops_of}
use Rattle.run_words.specs.Constants.{constant}
use Rattle.run_words.specs.Reached.{IsReached}
use Rattle.schedule_search.specs.Plans.{spawned_plans, bodies_of, DoesBodies}
use Rattle.schedule_search.specs.Holding.{task_of, or_first, holds_of_raw, holds_kept, was_made, holds_of, program_with, holds_if, holds}
use Rattle.schedule_search.proofs.Bodies.{task_does, of_script}

-- ---- lists that are too short

past : {A : Type 0} (xs : List A) (place n : ℕ) → length xs ≤ n → (is_some (slice_get xs place) && (place == n)) ≡ false
past xs place n few =
    elim (cases_eq place n) [
      | inl same ↦ and_left _ _ (ap is_some (slice_get_past xs place (omega (arith, few, same))))
      | inr differs ↦ and_right _ _ (ne_eqb place n differs)
    ]

first_few : (bodies : List Body) (n : ℕ) → has_operation bodies n ≡ false → length (ops_of bodies) ≤ n
first_few [] n h = omega arith
first_few (body ∷ bodies) n h = ltb-false n (length body.ops) (or_parts _ _ h).0

each_few : (bodies : List Body) (n k : ℕ) (body : Body) → has_operation bodies n ≡ false →
    slice_get bodies k ≡ Some body → length body.ops ≤ n
each_few [] n k body h e = absurd (cc e)
each_few (b ∷ bodies) n zero body h e =
    subst (λ (z : Body). length z.ops ≤ n) (same_Some b body e) (ltb-false n (length b.ops) (or_parts _ _ h).0)
each_few (b ∷ bodies) n (suc k) body h e = each_few bodies n k body (or_parts (nat_lt n (length b.ops)) _ h).1 e

-- ---- programs

module _ (s : Subject) (n : ℕ) where
  raw_past : (f : Option FibrilNo) (p : RawState) → length p.ops ≤ n → holds_of_raw (conditions.At s n) f p ≡ false
  raw_past None p few = past p.ops p.place n few
  raw_past (Some f) p few = refl

  kept_past : (bodies : List Body) (o : Option Context) → has_operation bodies n ≡ false →
      holds_kept (conditions.At s n) bodies o ≡ false
  kept_past bodies None h = refl
  kept_past bodies (Some t) h = in_body (slice_get bodies t.body) refl where
    in_body : (o : Option Body) → slice_get bodies t.body ≡ o →
        (is_some (op_in o t.place) && (t.place == n)) ≡ false
    in_body None e = refl
    in_body (Some body) e = past body.ops t.place n (each_few bodies n t.body body h e)

  program_past : (p : AnyProgram) (bodies : List Body) → DoesBodies (constant p) bodies →
      has_operation bodies n ≡ false → holds_of (conditions.At s n) p ≡ false
  program_past (any.Raw p) bodies does h =
      raw_past s.fibril p (subst (λ ops. length ops ≤ n) (sym does) (first_few bodies n h))
  program_past (any.Naming p) bodies does h = refl
  program_past (any.Async p) bodies does h =
      and_right (was_made p.state (or_first s.fibril)) _
      (kept_past p.state.bodies (context_at p.state (or_first s.fibril))
      (ap (λ (bs : List Body). has_operation bs n) does ∙ h))
  program_past (any.Block p) bodies does h = refl

  -- ---- states

  state_past : (plan : Plan) (spawned : List ℕ) (now : RunState) → IsReached plan spawned now →
      IsTask (length plan.tasks) s.task.0 → has_operation (places.bodies_of plan.tasks s.task) n ≡ false →
      holds (conditions.At s n) now ≡ false
  state_past plan spawned now reached there h = by_program (program_with now s.task) refl where
    same : bodies_of plan spawned s.task ≡ places.bodies_of plan.tasks s.task
    same = ap bodies_in (of_script plan.tasks (spawned_plans plan.templates spawned) (s.task.0 - 1)
        (omega (arith, there.0, there.1)))

    by_program : (o : Option AnyProgram) → o ≡ program_with now s.task →
        holds_if (conditions.At s n) now.kernel o ≡ false
    by_program None e = refl
    by_program (Some p) e =
        program_past p (places.bodies_of plan.tasks s.task)
        (subst (DoesBodies (constant p)) same (task_does plan spawned now s.task p reached e)) h

pub no_state : (plan : Plan) (spawned : List ℕ) (now : RunState) → IsReached plan spawned now → (c : Condition) →
    IsTask (length plan.tasks) (task_of c).0 → is_known (places.bodies_of plan.tasks (task_of c)) c ≡ false →
    holds c now ≡ false
no_state plan spawned now reached (conditions.At s n) there h = state_past s n plan spawned now reached there h
no_state plan spawned now reached (conditions.Holds s k n) there h = absurd (true≢false h)
no_state plan spawned now reached (conditions.AtEnd s) there h = absurd (true≢false h)
no_state plan spawned now reached (conditions.Killed task) there h = absurd (true≢false h)
