use Rattle.std.proofs.Common.{◌∙◌, sym, arith, length-drop}
use Rattle.std.proofs.lemmas.List.{take_rest}
use Rattle.script_lines.proofs.HexBytes.{hex_goes_on}
use Rattle.script_lines.proofs.word.bytes_of.Goals as goal

pub loop-rest-preserved : goal.loop-rest-preserved
loop-rest-preserved c =
    let rest = c.loop-rest.rest.now in
    rw take_rest record {
      told = hex_goes_on c.loop-rest.bytes.items c.push.new.self.items rest c.args.word.now c.in_ok-hex_byte.field-0 c.in-len2-up.len_at_least (sym c.hex_byte.ensures ∙ c.in_ok-hex_byte.was) c.push.ensures.items c.loop-rest.invariant.told;
      room = omega (arith, c.loop-rest.invariant.room, c.push.ensures.len, length-drop 2 rest, c.in-len2-up.len_at_least);
    }
