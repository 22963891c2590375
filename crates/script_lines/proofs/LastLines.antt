-- A line that is the same as the line before it says the same operation.
use Rattle.std.proofs.Common.{◌≡◌, ℕ, suc, ◌-◌, ◌≤◌, Bool, true, false, cond, List, [], ◌∷◌, ◌++◌, length, take, drop, take-append-drop, Some, Result, Err, sym, ap, subst, ◌∙◌, inl, inr, arith}
use Rattle.std.specs.Prelude.{◌==◌}
use Rattle.std.proofs.lemmas.Bool.{cases_Bool}
use Rattle.std.proofs.lemmas.Option.{same_Some}
use Rattle.ipc_ids.specs.declared.op.Op.{Op}
use Rattle.script_lines.specs.declared.draft.Drafts.{Drafts}
use Rattle.script_lines.specs.declared.fault.Reason.{Reason}
use Rattle.script_lines.specs.declared.fault.LineFault.{LineFault}
use Rattle.script_lines.specs.declared.fault.LineFault.TheVariants.{Bad, NoMemory}
use Rattle.script_lines.specs.Text.{first_line, behind}
use Rattle.script_lines.specs.Draft.{plan_of, present, taker, Follows}
use Rattle.script_lines.specs.ScriptParts.{part, parts_of, AreWhole}
use Rattle.script_lines.specs.Line.{after_line}
use Rattle.script_lines.specs.LastLine.{last_op, op_of_last, last_draft, IsFirstLine, IsLastLine}
use Rattle.script_lines.proofs.DraftSteps.{present_is}
use Rattle.script_lines.proofs.Lines.{size_of, first_end, first_more, behind_end, behind_more, behind_is_less}

-- ---- the bytes of a line

-- a text that begins with a line and its line feed
pub same_front : (line rest : List ℕ) → behind line ≡ Some [] → (first_line (line ++ rest) ≡ first_line line) × (behind (line ++ rest) ≡ Some rest)
same_front [] rest h = absurd cc
same_front (x ∷ xs) rest h = elim (cases_Bool (x == 10)) [
  | inl e ↦
      let none : xs ≡ [] = same_Some xs [] (sym (behind_end x xs e) ∙ h) in
      (first_end x (xs ++ rest) e ∙ sym (first_end x xs e), behind_end x (xs ++ rest) e ∙ ap (λ ys. Some (ys ++ rest)) none)
  | inr e ↦
      let both = same_front xs rest (sym (behind_more x xs e) ∙ h) in
      (first_more x (xs ++ rest) e ∙ ap (λ l. x ∷ l) both.0 ∙ sym (first_more x xs e), behind_more x (xs ++ rest) e ∙ both.1)
]

-- what stands before what is behind the first line
pub front_is : (text rest : List ℕ) → behind text ≡ Some rest → IsFirstLine (take (length text - length rest) text) text
front_is [] rest h = absurd cc
front_is (x ∷ xs) rest h = elim (cases_Bool (x == 10)) [
  | inl e ↦
      let same : xs ≡ rest = same_Some xs rest (sym (behind_end x xs e) ∙ h) in
      let one : length (x ∷ xs) - length rest ≡ 1 = omega (arith, ap length same) in
      rw one (behind_end x [] e, first_end x [] e ∙ sym (first_end x xs e))
  | inr e ↦
      let left : behind xs ≡ Some rest = sym (behind_more x xs e) ∙ h in
      let short : suc (length rest) ≤ length xs = subst (λ o. size_of o ≤ length xs) left (behind_is_less xs) in
      let more : length (x ∷ xs) - length rest ≡ suc (length xs - length rest) = omega (arith, short) in
      let both = front_is xs rest left in
      rw more (behind_more x (take (length xs - length rest) xs) e ∙ both.0, first_more x (take (length xs - length rest) xs) e ∙ ap (λ l. x ∷ l) both.1 ∙ sym (first_more x xs e))
]

-- ---- the same line once more

-- what begins with a line has other bytes behind it
pub begins : (text line : List ℕ) → take (length line) text ≡ line → text ≡ line ++ drop (length line) text
begins text line e = sym (take-append-drop (length line) text) ∙ ap (λ front. front ++ drop (length line) text) e

present_of_last : (drafts : Drafts) → AreWhole drafts → present (part (parts_of drafts)) ≡ taker (last_draft drafts)
present_of_last drafts whole = go drafts.on_template where
  go : (t : Bool) → present (cond t (plan_of drafts.templates) (plan_of drafts.tasks)) ≡ taker (cond t drafts.templates drafts.tasks)
  go true = present_is drafts.templates whole.1
  go false = present_is drafts.tasks whole.0

-- it says what the last operation does
pub same_line : {B : Type 0} (drafts new : Drafts) (line text rest : List ℕ) (r : Result B LineFault) → AreWhole drafts → IsLastLine drafts line → text ≡ line ++ rest
    → ((op : Op) → last_op (last_draft drafts) ≡ Some op → Follows r (parts_of new) (op_of_last (parts_of drafts) op))
    → Follows r (parts_of new) (after_line (parts_of drafts) (first_line text))
same_line drafts new line text rest r whole is e told =
    let first = ap first_line e ∙ (same_front line rest is.ends).0 in
    let said = ap (after_line (parts_of drafts)) first ∙ is.says.said (parts_of drafts) (present_of_last drafts whole) in
    subst (λ made. Follows r (parts_of new) made) (sym said) (told is.says.op is.says.last)

pub same_behind : (drafts : Drafts) (line text rest : List ℕ) → IsLastLine drafts line → text ≡ line ++ rest → Some rest ≡ behind text
same_behind drafts line text rest is e = sym (ap behind e ∙ (same_front line rest is.ends).1)

-- a call that passes a fault on
pub fault_follows : {A B : Type 0} (C : Type 0) (r : Result B LineFault) (fault : LineFault) (new : A) (said : Result A Reason) → r ≡ Err fault → Follows r new said → Follows {A = A} {B = C} (Err fault) new said
fault_follows C r (Bad reason) new said e h = rw e at h
fault_follows C r NoMemory new said e h = tt
