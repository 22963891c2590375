use Rattle.std.proofs.Common.{◌≡◌, ◌+◌, ◌*◌, ◌≤◌, ◌++◌, drop}
use Rattle.trace_print.specs.Text.{digits_text}
use Rattle.trace_print.proofs.bytes.push_digits.Given as goal

-- the digits so far and those of what is left
abbrev pub invariant-loop-byte : goal.invariant-loop-byte
invariant-loop-byte g l = record {
  text : g.T.Text.bytes l.text ++ digits_text (drop l.byte-index l.bytes)
      ≡ g.T.Text.bytes l.fn.text ++ digits_text l.bytes;
  left : g.T.Text.left l.fn.text ≤ g.T.Text.left l.text + l.byte-index * 2;
}
