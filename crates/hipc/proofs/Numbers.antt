-- A status is known by its number.
use Rattle.std.proofs.Common.{◌≡◌, ℕ, ◌==◌, refl, sym, ap, ◌∙◌}
use Rattle.std.specs.Prelude.{if◌then◌else◌}
use Rattle.command_line.specs.declared.status.Status.{Status}
use Rattle.command_line.specs.declared.status.Status.TheVariants.{Done, Usage, CannotRead, BadScript, BadSchedule, BadTrace, WriteFailed, NoMemory}
use Rattle.command_line.specs.Status.{number_of}

-- the status that has a number
abbrev status_of : ℕ → Status
status_of n =
    if n == 0 then Done else (if n == 2 then Usage else (if n == 3 then CannotRead else (if n == 4 then BadScript
    else (if n == 5 then BadSchedule else (if n == 6 then WriteFailed else (if n == 7 then NoMemory else BadTrace))))))

-- it is the one whose number that is
known : (s : Status) → status_of (number_of s) ≡ s
known Done = refl
known Usage = refl
known CannotRead = refl
known BadScript = refl
known BadSchedule = refl
known WriteFailed = refl
known NoMemory = refl
known BadTrace = refl

-- two statuses with the same number are the same
pub same_status : (s t : Status) (n : ℕ) → n ≡ number_of s → n ≡ number_of t → s ≡ t
same_status s t n one other = sym (known s) ∙ ap status_of (sym one ∙ other) ∙ known t
