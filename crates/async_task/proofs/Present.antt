-- What the present fibril does.
use Rattle.std.proofs.Common.{ℕ, ◌≡◌, List, Option, Some, refl, sym, ap, ◌∙◌}
use Rattle.ipc_ids.specs.declared.numbers.FibrilNo.{FibrilNo}
use Rattle.ipc_ids.specs.declared.message.ExchangeMode.{ExchangeMode}
use Rattle.ipc_ids.specs.declared.message.Outcome.{Outcome}
use Rattle.ipc_ids.specs.declared.op.Value.{Value}
use Rattle.ipc_ids.specs.declared.op.Op.{Op}
use Rattle.ipc_ids.specs.declared.op.Op.TheVariants as op
use Rattle.async_task.specs.declared.context.Context.{Context}
use Rattle.async_task.specs.AsyncState.{AsyncState, without_entries, with_context, context_at}
use Rattle.async_task.specs.AsyncState.{context_or_new, or_new, present_op}
use Rattle.async_task.specs.Turns.{turn_of}
use Rattle.async_task.specs.Turns as turn
use Rattle.async_task.specs.Calls.{after_raw, after_present}
use Rattle.async_task.specs.Steps.{do_op, step_in}

-- one that is none of those of fibrils
pub other_op :
    (a : AsyncState) (f : FibrilNo) (t : Context) (p : Op) (o : Outcome) →
    ((k : ℕ) (phone method : Value) (args : List Value) → p ≡ op.CallSlot k phone method args → ⊥) →
    ((k x : ℕ) (method : Value) (args : List Value) → p ≡ op.Send k x method args → ⊥) →
    ((k : ℕ) → p ≡ op.Wait k → ⊥) → (p ≡ op.Next → ⊥) → (p ≡ op.Yield → ⊥) →
    ((s : ℕ) (phone : Value) (m : ExchangeMode) → p ≡ op.OpenSession s phone m → ⊥) →
    ((x s : ℕ) → p ≡ op.Begin x s → ⊥) → ((x : ℕ) → p ≡ op.End x → ⊥) →
    ((s : ℕ) → p ≡ op.Close s → ⊥) →
    do_op a f t p o ≡ without_entries (with_context a f (after_raw t p o))
other_op a f t (op.CallSlot k phone method args) o h _ _ _ _ _ _ _ _ = absurd (h k phone method args refl)
other_op a f t (op.Send k x method args) o _ h _ _ _ _ _ _ _ = absurd (h k x method args refl)
other_op a f t (op.Wait k) o _ _ h _ _ _ _ _ _ = absurd (h k refl)
other_op a f t op.Next o _ _ _ h _ _ _ _ _ = absurd (h refl)
other_op a f t op.Yield o _ _ _ _ h _ _ _ _ = absurd (h refl)
other_op a f t (op.OpenSession s phone m) o _ _ _ _ _ h _ _ _ = absurd (h s phone m refl)
other_op a f t (op.Begin x s) o _ _ _ _ _ _ h _ _ = absurd (h x s refl)
other_op a f t (op.End x) o _ _ _ _ _ _ _ h _ = absurd (h x refl)
other_op a f t (op.Close s) o _ _ _ _ _ _ _ _ h = absurd (h s refl)
other_op a f t _ o _ _ _ _ _ _ _ _ _ = refl

-- the same, where it is the present operation of the present fibril
pub other_turn :
    (a : AsyncState) (f : FibrilNo) (t : Context) (p : Op) (o : Outcome) →
    Some t ≡ context_at a f → Some p ≡ present_op a t →
    do_op a f t p o ≡ without_entries (with_context a f (after_raw t p o)) →
    step_in a o (turn_of a f (context_at a f))
    ≡ without_entries (with_context a f (after_present (context_or_new a f) o
    (present_op a (context_or_new a f))))
other_turn a f t p o keeps is does =
    ap (λ (q : Option Context). step_in a o (turn_of a f q)) (sym keeps)
    ∙ ap (λ (q : Option Op). step_in a o (turn.Run f t q)) (sym is)
    ∙ does
    ∙ ap (λ (q : Option Op). without_entries (with_context a f (after_present t o q))) is
    ∙ ap (λ (q : Option Context). without_entries (with_context a f (after_present (or_new q) o
    (present_op a (or_new q))))) keeps

-- the present fibril does that operation, which is its present one
pub own_turn :
    (a : AsyncState) (f : FibrilNo) (t : Context) (p q : Op) (o : Outcome) →
    Some t ≡ context_at a f → Some p ≡ present_op a t → p ≡ q →
    do_op a f (context_or_new a f) q o ≡ step_in a o (turn_of a f (context_at a f))
own_turn a f t p q o keeps is same =
    ap (λ (x : Option Context). do_op a f (or_new x) q o) (sym keeps)
    ∙ ap (λ (x : Op). do_op a f t x o) (sym same)
    ∙ ap (λ (x : Option Op). step_in a o (turn.Run f t x)) is
    ∙ ap (λ (x : Option Context). step_in a o (turn_of a f x)) keeps
