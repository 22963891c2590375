-- Which status with which line is due for the bytes of a trace.
use Rattle.std.specs.Prelude.{◌≡◌, ℕ, List}
use Rattle.command_line.specs.declared.status.Status.{Status}
use Rattle.command_line.specs.declared.status.Status.TheVariants.{Done, BadTrace}
use Rattle.law_check.specs.declared.finding.Finding.{Finding}
use Rattle.law_check.specs.declared.finding.Finding.TheVariants.{TooLong, Unreadable, Lawful, Breaks}
use Rattle.law_check.specs.Finding.{IsFinding, line_of}

abbrev pub status_of : Finding → Status
status_of TooLong = BadTrace
status_of (Unreadable line) = BadTrace
status_of (Lawful entries calls) = Done
status_of (Breaks law) = BadTrace

-- what the check finds gives the status and the line
abbrev pub DueForTrace : List ℕ → Status → List ℕ → Type 0
DueForTrace bytes status text =
    (finding : Finding) × IsFinding bytes finding × (status ≡ status_of finding) × (text ≡ line_of finding)
