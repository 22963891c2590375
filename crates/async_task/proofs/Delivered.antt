-- What comes of an answer that goes to a begin.
use Rattle.std.proofs.Common.{ℕ, ◌≡◌, Bool, List, [], ◌∷◌, ◌++◌, Option, None, Some, refl, sym, ap, ◌∙◌}
use Rattle.std.proofs.lemmas.List.{append_assoc, append-nil}
use Rattle.ipc_ids.specs.declared.numbers.CallNo.{CallNo}
use Rattle.ipc_ids.specs.declared.numbers.FibrilNo.{FibrilNo}
use Rattle.ipc_ids.specs.declared.message.Reply.{Reply}
use Rattle.ipc_ids.specs.declared.op.Op.{Op}
use Rattle.ipc_ids.specs.declared.op.Op.TheVariants as op
use Rattle.ipc_ids.specs.declared.entry.Entry.{Entry}
use Rattle.ipc_ids.specs.declared.entry.Entry.TheVariants as entry
use Rattle.ipc_ids.specs.Trace.{TraceState}
use Rattle.fibril_core.specs.Fibrils.{why_of}
use Rattle.async_task.specs.declared.awaited.Awaited.{Awaited}
use Rattle.async_task.specs.AsyncState.{AsyncState, MachineState, Transition, Does, context_at}
use Rattle.async_task.specs.AsyncState.{without_entries, context_or_new, or_new, present_op}
use Rattle.async_task.specs.Answers.{give_answer, is_for, wake_if, forget_call, deliver}
use Rattle.async_task.specs.Answers.{answer_begin, answer_begin_at}
use Rattle.async_task.specs.declared.context.Context.{Context}

-- what is given once its wait has ended is all that is given
pub delivered :
    (a : AsyncState) (w : Awaited) (n : CallNo) (r : Reply) (m after : MachineState)
    (told mid now : TraceState) (given : Transition) → w.slot ≡ None →
    Does m told mid (record {
      state = forget_call (wake_if a w.fibril (is_for n (why_of a.order w.fibril))) n;
      entries = entry.Gets a.me w.fibril n w.slot r ∷ [];
    }) →
    give_answer m.state w.fibril n r (is_for n (why_of a.order w.fibril)) None
    (context_at m.state w.fibril) ≡ given →
    Does after mid now given → Does after told now (deliver a w n r)
delivered a w n r m after told mid now given none ended is does = record {
  state = does.state ∙ ap (λ (s : Transition). s.state) same;
  entries =
      does.entries
      ∙ ap (λ (es : List Entry). es ++ given.entries) ended.entries
      ∙ append_assoc told.entries (entry.Gets a.me w.fibril n w.slot r ∷ []) given.entries
      ∙ ap (λ (s : Transition). told.entries ++ entry.Gets a.me w.fibril n w.slot r ∷ s.entries) same;
}
  where
    woken : Bool
    woken = is_for n (why_of a.order w.fibril)

    waited : AsyncState
    waited = forget_call (wake_if a w.fibril woken) n

    same : given ≡ give_answer waited w.fibril n r woken w.slot (context_at waited w.fibril)
    same =
        sym is
        ∙ ap (λ (b : AsyncState). give_answer b w.fibril n r woken None (context_at b w.fibril)) ended.state
        ∙ ap (λ (k : Option ℕ). give_answer waited w.fibril n r woken k (context_at waited w.fibril)) (sym none)

-- nothing more has changed
pub rested : (m : MachineState) (told : TraceState) → Does m told told (without_entries m.state)
rested m told = record { state = refl; entries = sym (append-nil told.entries) }

-- what is given, by what the fibril keeps and its present operation

module _ (a : AsyncState) (f : FibrilNo) (n : CallNo) (r : Reply) (woken : Bool) where
  pub gone_rests : None ≡ context_at a f →
      give_answer a f n r woken None (context_at a f) ≡ without_entries a
  gone_rests none = ap (λ (q : Option Context). give_answer a f n r woken None q) (sym none)

  present_begin : (t : Context) (p : Option Op) → Some t ≡ context_at a f → p ≡ present_op a t →
      give_answer a f n r woken None (context_at a f) ≡ answer_begin_at a f t r p
  present_begin t p keeps is =
      ap (λ (q : Option Context). give_answer a f n r woken None q) (sym keeps)
      ∙ ap (λ (q : Option Op). answer_begin_at a f t r q) (sym is)

  pub over_rests : (t : Context) → Some t ≡ context_at a f → None ≡ present_op a t →
      give_answer a f n r woken None (context_at a f) ≡ without_entries a
  over_rests t keeps is = present_begin t None keeps is

  pub begin_takes : (t : Context) (p : Op) (x s : ℕ) → Some t ≡ context_at a f →
      Some p ≡ present_op a t → p ≡ op.Begin x s →
      give_answer a f n r woken None (context_at a f) ≡ answer_begin a f (context_or_new a f) x s r
  begin_takes t p x s keeps is begins =
      present_begin t (Some p) keeps is
      ∙ ap (λ (q : Op). answer_begin_at a f t r (Some q)) begins
      ∙ ap (λ (q : Option Context). answer_begin a f (or_new q) x s r) keeps

  other_begin : (t : Context) (p : Op) → ((x s : ℕ) → p ≡ op.Begin x s → ⊥) →
      answer_begin_at a f t r (Some p) ≡ without_entries a
  other_begin t (op.Begin x s) h = absurd (h x s refl)
  other_begin t _ h = refl

  pub other_rests : (t : Context) (p : Op) → Some t ≡ context_at a f → Some p ≡ present_op a t →
      ((x s : ℕ) → p ≡ op.Begin x s → ⊥) →
      give_answer a f n r woken None (context_at a f) ≡ without_entries a
  other_rests t p keeps is h = present_begin t (Some p) keeps is ∙ other_begin t p h
