-- What a check of bytes as a trace finds, and its line.
use Rattle.std.specs.Prelude.{ℕ, ⊤, ◌≡◌, ◌<◌, ◌≤◌, ◌++◌, length, List, codes, decimal}
use Rattle.ipc_ids.specs.declared.entry.Entry.{Entry}
use Rattle.ipc_ids.specs.Laws.{LivesAreLawful, AnsweredAtMostOnce, KillEndsHeldCalls}
use Rattle.ipc_ids.specs.AreaLaw.{AreasAreLawful}
use Rattle.law_check.specs.Verdict.{IsVerdict}
use Rattle.law_check.specs.declared.verdict.Verdict.TheVariants as verdict
use Rattle.trace_reader.specs.Trace.{IsTrace, IsFirstBad}
use Rattle.law_check.specs.declared.finding.Finding.{Finding}
use Rattle.law_check.specs.declared.finding.Finding.TheVariants.{TooLong, Unreadable, Lawful, Breaks}

-- the most bytes of a trace
abbrev pub most_trace : ℕ
most_trace = 16777216

-- what is found of the bytes holds of them
abbrev pub IsFinding : List ℕ → Finding → Type 0
IsFinding bytes TooLong = most_trace < length bytes
IsFinding bytes (Unreadable line) = (length bytes ≤ most_trace) × IsFirstBad bytes line
IsFinding bytes (Lawful entries calls) =
    (length bytes ≤ most_trace)
    × (es : List Entry) × IsTrace es bytes × IsVerdict es (verdict.Lawful calls) × (entries ≡ length es)
IsFinding bytes (Breaks law) =
    (length bytes ≤ most_trace) × (es : List Entry) × IsTrace es bytes × IsVerdict es (verdict.Breaks law)

-- the text of entries that satisfy the four laws, and no more bytes than a trace may have
pub record IsLawfulTrace (bytes : List ℕ) : Type 0 where
  pub entries : List Entry
  pub few : length bytes ≤ most_trace
  pub text : IsTrace entries bytes
  pub lives : LivesAreLawful entries
  pub answers : AnsweredAtMostOnce entries
  pub kills : KillEndsHeldCalls entries
  pub areas : AreasAreLawful entries

-- a trace that keeps the laws was found
abbrev pub IsLawfulFinding : Finding → Type 0
IsLawfulFinding (Lawful entries calls) = ⊤
IsLawfulFinding _ = ⊥

-- the line that names the first line that cannot be read
abbrev pub unreadable_line : ℕ → List ℕ
unreadable_line line = codes "trace line " ++ decimal line ++ codes ": unreadable\n"

-- the first part of the line of a lawful trace
abbrev pub entries_part : ℕ → List ℕ
entries_part entries = codes "trace ok entries " ++ decimal entries

-- the other part of it
abbrev pub calls_part : ℕ → List ℕ
calls_part calls = codes " calls " ++ decimal calls ++ codes "\n"

-- the line of a lawful trace, with its numbers of entries and of calls
abbrev pub lawful_line : ℕ → ℕ → List ℕ
lawful_line entries calls = entries_part entries ++ calls_part calls

-- the line that names the first law that fails
abbrev pub breaks_line : ℕ → List ℕ
breaks_line law = codes "trace breaks L" ++ decimal law ++ codes "\n"

-- the line of a finding
abbrev pub line_of : Finding → List ℕ
line_of TooLong = codes "trace line 0: too long\n"
line_of (Unreadable line) = unreadable_line line
line_of (Lawful entries calls) = lawful_line entries calls
line_of (Breaks law) = breaks_line law
