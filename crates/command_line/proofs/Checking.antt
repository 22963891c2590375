-- What is answered for a trace, from what the check finds and what is told of it.
use Rattle.std.proofs.Common.{◌≡◌, List, ℕ, Option, refl, sym, subst, ◌∙◌}
use Rattle.std.specs.Prelude.{◌≢◌, ◌↔◌}
use Rattle.std.specs.Io.KnownBytes.{Appends}
use Rattle.io_edge.specs.Edge.{AppendsStart}
use Rattle.law_check.specs.declared.finding.Finding.{Finding}
use Rattle.law_check.specs.declared.finding.Finding.TheVariants.{TooLong, Unreadable, Lawful, Breaks}
use Rattle.law_check.specs.Finding.{IsFinding, IsLawfulFinding, IsLawfulTrace, line_of}
use Rattle.command_line.specs.Check.{status_of, DueForTrace}
use Rattle.command_line.specs.Due.{Whole, Part}
use Rattle.command_line.specs.declared.status.Status.{Status}
use Rattle.command_line.specs.declared.status.Status.TheVariants.{Done, BadTrace, WriteFailed, NoMemory}

done_is_lawful : (f : Finding) → status_of f ≡ Done → IsLawfulFinding f
done_is_lawful TooLong e = cc
done_is_lawful (Unreadable line) e = cc
done_is_lawful (Lawful entries calls) e = tt
done_is_lawful (Breaks law) e = cc

bad_is_not_lawful : (f : Finding) → status_of f ≡ BadTrace → IsLawfulFinding f → ⊥
bad_is_not_lawful TooLong e l = l
bad_is_not_lawful (Unreadable line) e l = l
bad_is_not_lawful (Lawful entries calls) e l = cc
bad_is_not_lawful (Breaks law) e l = l

-- what is found of the bytes is told: its status, and its line
module _ (bytes : List ℕ) (f : Finding) (old new : Option (List ℕ)) (status told : Status) (text lent : List ℕ)
    (value : status ≡ status_of f) (ok : told ≢ WriteFailed → (told ≡ status) × Appends old new lent) where
  pub checked_whole : IsFinding bytes f → text ≡ line_of f → lent ≡ text → Whole (DueForTrace bytes) old new told
  checked_whole is line same =
      λ w m. (text, (f, is, ((ok w).0 ∙ value), line), subst (Appends old new) same (ok w).1)

  as_told : (s : Status) → told ≡ s → s ≢ WriteFailed → status ≡ s
  as_told s e n = sym (ok (λ (w : told ≡ WriteFailed). n (sym e ∙ w))).0 ∙ e

  pub checked_memory : {A : Type 0} → status ≢ NoMemory → told ≡ NoMemory → A
  checked_memory {A} found m = absurd (found (as_told NoMemory m (λ (e : NoMemory ≡ WriteFailed). cc)))

  pub checked_done : (IsLawfulFinding f ↔ IsLawfulTrace bytes) → told ≡ Done → IsLawfulTrace bytes
  checked_done lawful e =
      lawful.0 (done_is_lawful f (sym value ∙ as_told Done e (λ (e : Done ≡ WriteFailed). cc)))

  pub checked_bad : (IsLawfulFinding f ↔ IsLawfulTrace bytes) → told ≡ BadTrace → IsLawfulTrace bytes → ⊥
  checked_bad lawful e l =
      bad_is_not_lawful f (sym value ∙ as_told BadTrace e (λ (e : BadTrace ≡ WriteFailed). cc)) (lawful.1 l)

pub checked_part : (bytes : List ℕ) (f : Finding) (old new : Option (List ℕ)) (text lent : List ℕ) → IsFinding bytes f
    → text ≡ line_of f → lent ≡ text → AppendsStart old new lent → Part (DueForTrace bytes) old new
checked_part bytes f old new text lent is line same start =
    (status_of f, text, (f, is, refl, line), subst (AppendsStart old new) same start)
