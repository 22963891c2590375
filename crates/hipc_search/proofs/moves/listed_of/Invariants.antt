use Rattle.std.proofs.Common.{◌≡◌, ◌≤◌, ◌+◌, length}
use Rattle.script_lines.proofs.Lines.{here}
use Rattle.script_reader.specs.Reading.{lines_from}
use Rattle.hipc_search.specs.Moves.{with_listed, words_left, listed_of}
use Rattle.hipc_search.proofs.ListWords.{bytes_left}
use Rattle.hipc_search.proofs.moves.listed_of.Given as goal

-- what was read, and what is left, say what the whole list says
abbrev pub invariant-loop-left : goal.invariant-loop-left
invariant-loop-left l =
    record {
      told : lines_from (with_listed l.kind l.names) l.place l.events.items (words_left (here l.left)) ≡ listed_of l.kind l.names l.text;
      few : length l.events.items ≤ 4096;
      number : l.place ≡ length l.events.items + 1;
    }

abbrev pub decreases-loop-left : goal.decreases-loop-left
decreases-loop-left l = bytes_left (here l.left)
