use Rattle.std.proofs.Common.{◌≡◌, ◌+◌, ◌*◌, ◌++◌, length}
use Rattle.std.specs.Prelude.{option_map}
use Rattle.script_lines.specs.Word.{hex_bytes}
use Rattle.script_lines.proofs.word.bytes_of.Given as goal

-- the bytes so far and those that are left are all
abbrev pub invariant-loop-rest : goal.invariant-loop-rest
invariant-loop-rest l = record {
  told : option_map (λ bytes. l.bytes.items ++ bytes) (hex_bytes l.rest) ≡ hex_bytes l.word;
  room : length l.word ≡ 2 * length l.bytes.items + length l.rest;
}

abbrev pub decreases-loop-rest : goal.decreases-loop-rest
decreases-loop-rest l = length l.rest
