use Rattle.std.proofs.Common.{◌∙◌}
use Rattle.script_lines.proofs.NumberNames.{method_is, code_is, other_is}
use Rattle.script_lines.proofs.word.named.Goals as goal

pub returns-in-Some : goal.returns-in-Some
returns-in-Some c = method_is c.args.word.now c.method_named.result c.in-Some.method c.method_named.ensures c.in-Some.is

pub returns-in-Some-code_named : goal.returns-in-Some-code_named
returns-in-Some-code_named c =
    code_is c.args.word.now c.method_named.result c.code_named.result c.in-Some-code_named.code c.method_named.ensures c.in_default.is c.code_named.ensures c.in-Some-code_named.is

pub returns : goal.returns
returns c = c.look_up.ensures ∙ other_is c.args.word.now c.method_named.result c.code_named.result c.method_named.ensures c.in_default.is c.code_named.ensures c.in_default-code_named.is
