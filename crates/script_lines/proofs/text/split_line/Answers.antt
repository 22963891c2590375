use Rattle.std.proofs.Common.{◌+◌, refl, sym, ap, ◌∙◌, arith}
use Rattle.std.proofs.lemmas.List.{take_rest}
use Rattle.script_lines.proofs.Lines.{pass_blank_at, word_at}
use Rattle.script_lines.proofs.text.split_line.Goals as goal

pub overflow_add-len : goal.overflow_add-len
overflow_add-len c = omega (arith, rw take_rest at c.word_len-len.ensures.within, c.loop-rest.invariant.short)

pub loop-rest-preserved-then-not-ends_word : goal.loop-rest-preserved-then-not-ends_word
loop-rest-preserved-then-not-ends_word c =
    rw (c.after_space-rest.ensures, take_rest)
    (word_at c.loop-rest.list.items c.push.new.self.items _ (1 + c.word_len-len.result) c.loop-rest.rest.now c.args.text.now c.in-len1-up.len_at_least
    (sym c.ends_word.ensures ∙ c.if-not-ends_word.true) (ap (λ k. 1 + k) (rw take_rest at c.word_len-len.ensures.value)) c.in_ok-push.ensures.items refl c.loop-rest.invariant)

pub loop-rest-preserved : goal.loop-rest-preserved
loop-rest-preserved c =
    rw take_rest
    (pass_blank_at c.loop-rest.list.items c.loop-rest.rest.now c.args.text.now c.in-len1-up.len_at_least (sym c.is_blank.ensures ∙ c.if-is_blank.true) c.loop-rest.invariant)
