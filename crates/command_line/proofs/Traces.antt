-- What is due for the file of a trace, from what its load gives.
use Rattle.std.proofs.Common.{◌≡◌, ◌<◌, List, ℕ, Bool, true, false, refl, sym, subst, nat_lt, arith, take, length, Option, Some, None}
use Rattle.std.proofs.lemmas.Bool.{ltb-true, ltb-false}
use Rattle.std.proofs.lemmas.List.{take_all, length-take-le}
use Rattle.std.specs.Option.{option_map}
use Rattle.std.proofs.lemmas.Option.{same_Some}
use Rattle.io_edge.specs.Edge.{Gives, Holds, file_of}
use Rattle.law_check.specs.declared.finding.Finding.{Finding}
use Rattle.law_check.specs.declared.finding.Finding.TheVariants.{TooLong, Unreadable, Lawful, Breaks}
use Rattle.law_check.specs.Finding.{IsFinding, IsLawfulTrace}
use Rattle.command_line.specs.Check.{DueForTrace}
use Rattle.command_line.specs.Due.{Files, cannot_line, DueForTraceFile}
use Rattle.command_line.specs.LawfulRun.{HasLawfulTrace, HasNoLawfulTrace}
use Rattle.command_line.specs.declared.status.Status.{Status}
use Rattle.command_line.specs.declared.status.Status.TheVariants.{CannotRead}

-- a check finds the same in these bytes as in those
pub record CheckTheSame (bytes all : List ℕ) : Type 0 where
  pub found : (f : Finding) → IsFinding bytes f → IsFinding all f
  pub lawful : IsLawfulTrace bytes → IsLawfulTrace all
  pub only : IsLawfulTrace all → IsLawfulTrace bytes

-- of bytes that are too long nothing else is found
too_long : (bytes all : List ℕ) → length bytes ≡ 16777217 → 16777217 < length all
    → (f : Finding) → IsFinding bytes f → IsFinding all f
too_long bytes all e l TooLong h = omega (arith, l)
too_long bytes all e l (Unreadable line) h = absurd (omega (arith, e, h.0))
too_long bytes all e l (Lawful entries calls) h = absurd (omega (arith, e, h.0))
too_long bytes all e l (Breaks law) h = absurd (omega (arith, e, h.0))

cut : (all : List ℕ) (b : Bool) → nat_lt 16777217 (length all) ≡ b → CheckTheSame (take 16777217 all) all
cut all false h =
    subst (λ x. CheckTheSame x all) (sym (take_all 16777217 all (ltb-false 16777217 (length all) h)))
    (record { found = λ f i. i; lawful = λ i. i; only = λ i. i })
cut all true h =
    let long : 16777217 < length all = ltb-true 16777217 (length all) h in
    let short : length (take 16777217 all) ≡ 16777217 = length-take-le 16777217 all (omega arith) in
    record {
      found = too_long (take 16777217 all) all short long;
      lawful = λ i. absurd (omega (arith, short, i.few));
      only = λ i. absurd (omega (arith, long, i.few));
    }

found : (known : Option (List ℕ)) (bytes : List ℕ) → option_map (λ all. take 16777217 all) known ≡ Some bytes
    → (all : List ℕ) × (known ≡ Some all) × CheckTheSame bytes all
found None bytes h = cc
found (Some all) bytes h =
    (all, refl, subst (λ x. CheckTheSame x all) (same_Some (take 16777217 all) bytes h) (cut all (nat_lt 16777217 (length all)) refl))

-- the bytes that a load gave are checked as the file is
held : (files : Files) (trace bytes : List ℕ) → Gives files trace 16777217 bytes
    → (all : List ℕ) × Holds files trace all × CheckTheSame bytes all
held None trace bytes h = (bytes, tt, record { found = λ f i. i; lawful = λ i. i; only = λ i. i })
held (Some files) trace bytes h = found (file_of files trace) bytes h

pub due_trace : (files : Files) (trace a x : List ℕ) (p : Bool) → x ≡ a → p ≡ false → Gives files trace 16777217 a
    → (s : Status) (t : List ℕ) → DueForTrace x s t → DueForTraceFile files trace p s t
due_trace files trace a x true lent e g s t d = cc
due_trace files trace a x false lent e g s t d =
    let file = held files trace a g in
    (file.0, file.1, (d.0, file.2.found d.0 (subst (λ v. IsFinding v d.0) lent d.1), d.2, d.3))

pub lost_trace : (files : Files) (trace : List ℕ) (p : Bool) (s : Status) → s ≡ CannotRead → p ≡ true
    → DueForTraceFile files trace p s (cannot_line trace)
lost_trace files trace true s e h = (e, refl)
lost_trace files trace false s e h = cc

pub lawful_file : (files : Files) (trace a x : List ℕ) → x ≡ a → Gives files trace 16777217 a
    → IsLawfulTrace x → HasLawfulTrace files trace
lawful_file files trace a x lent g i =
    let file = held files trace a g in
    (file.0, file.1, file.2.lawful (subst (λ v. IsLawfulTrace v) lent i))

pub no_lawful_file : (files : Files) (trace a x : List ℕ) → x ≡ a → Gives files trace 16777217 a
    → (IsLawfulTrace x → ⊥) → HasNoLawfulTrace files trace
no_lawful_file files trace a x lent g no_trace =
    let file = held files trace a g in
    (file.0, file.1, λ i. no_trace (subst (λ v. IsLawfulTrace v) (sym lent) (file.2.only i)))
