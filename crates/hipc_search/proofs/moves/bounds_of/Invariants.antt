use Rattle.std.proofs.Common.{◌≡◌, ◌≤◌, ◌+◌, length}
use Rattle.script_lines.proofs.Lines.{here}
use Rattle.script_reader.specs.Reading.{lines_from}
use Rattle.hipc_search.specs.Moves.{with_bound, words_left, bounds_of}
use Rattle.hipc_search.proofs.ListWords.{bytes_left}
use Rattle.hipc_search.proofs.moves.bounds_of.Given as goal

-- what was read, and what is left, say what the whole list says
abbrev pub invariant-loop-left : goal.invariant-loop-left
invariant-loop-left l =
    record {
      told : lines_from (with_bound l.templates) l.place l.bounds.items (words_left (here l.left)) ≡ bounds_of l.templates l.text;
      few : length l.bounds.items ≤ 64;
      number : l.place ≡ length l.bounds.items + 1;
    }

abbrev pub decreases-loop-left : goal.decreases-loop-left
decreases-loop-left l = bytes_left (here l.left)
