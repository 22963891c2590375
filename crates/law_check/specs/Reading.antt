-- What is kept of the entries of a trace that are read one by one.
use Rattle.std.specs.Prelude.{ℕ, ◌≡◌, ◌+◌, ◌≤◌, ◌++◌, Option, Some, None, List, [], length}
use Rattle.ipc_ids.specs.declared.entry.Entry.{Entry}
use Rattle.ipc_ids.specs.Holdings.{present}
use Rattle.trace_print.specs.Text.{text_of}
use Rattle.law_check.specs.AreaState.{newest}
use Rattle.law_check.specs.Passing.{in_order}
use Rattle.law_check.specs.Judging.{Judges, events_of}
use Rattle.trace_reader.specs.Trace.{AreBuilt}
use Rattle.law_check.specs.declared.reading.Reading.{Reading}

-- the last entry: the head, where no entry has come since
abbrev pub last_of : Option Entry → Option Entry → Option Entry
last_of now (Some last) = Some last
last_of now None = now

-- what is kept is what these entries say, which have the newest first
pub record HasRead (p : List Entry) (s : Reading) : Type 0 where
  pub judges : Judges p s.laws
  pub now_is : s.now ≡ present p
  pub last_is : last_of s.now s.last ≡ newest p
  pub counted : s.entries ≡ length p

-- the bytes up to this rest were read
pub record ReadsTo (bytes rest : List ℕ) (s : Reading) : Type 0 where
  pub past : List Entry
  pub read : HasRead past s
  pub text : text_of (in_order past []) ++ rest ≡ bytes
  pub built : AreBuilt (in_order past [])
  pub few : s.entries + length rest ≤ length bytes
  pub events : events_of s.laws ≤ s.entries
