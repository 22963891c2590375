use Rattle.std.proofs.Common.{◌≡◌, take, sym, ◌∙◌, ap, refl, false-eqb, arith}
use Rattle.std.proofs.lemmas.List.{take_all}
use Rattle.std.specs.Char.{is_digit, digit_value}
use Rattle.std.specs.List.{list_all}
use Rattle.std.specs.Str.Parse.{digits_value}
use Rattle.ipc_ids.proofs.SpelledNumbers.{product_too_great, too_great, more, digits_more, whole}
use Rattle.ipc_ids.proofs.digits.in_base.Goals as goal

pub returns-in_err-checked_mul : goal.returns-in_err-checked_mul
returns-in_err-checked_mul c = c.from_residual-in_err-checked_mul.ensures ∙ product_too_great c.args.base c.args.most c.args.digits.now c.loop-byte.byte-index c.loop-byte.value c.from-in-loop-byte.result (omega arith) (omega arith) c.loop-byte.invariant.value c.from-in-loop-byte.ensures c.in_err-checked_mul.ensures

pub returns-in_err-value : goal.returns-in_err-value
returns-in_err-value c = c.from_residual-in_err-value.ensures ∙ too_great c.args.base c.args.most c.args.digits.now c.loop-byte.byte-index c.loop-byte.value c.from-in-loop-byte.result c.from-in-loop-byte-2.result (omega arith) (omega arith) c.loop-byte.invariant.value c.from-in-loop-byte.ensures (c.from-in-loop-byte-2.ensures ∙ c.in_ok-digit.ensures.value.1 ∙ ap digit_value c.from.ensures) (λ lt. c.in_err-value.ensures (rw c.in_ok-checked_mul.ensures.1 lt))

pub loop-byte-preserved : goal.loop-byte-preserved
loop-byte-preserved c = record {
  digits = digits_more c.args.base c.args.most c.args.digits.now c.loop-byte.byte-index c.from.result (omega arith) c.from.ensures c.in_ok-digit.ensures.value.0 c.loop-byte.invariant.digits;
  value = more c.args.base c.args.most c.args.digits.now c.loop-byte.byte-index c.loop-byte.value c.from-in-loop-byte.result c.in_ok-digit.digit c.from.result c.in_ok-value.value (omega arith) c.loop-byte.invariant.value c.from-in-loop-byte.ensures c.from.ensures c.in_ok-digit.ensures.value.1 (c.in_ok-value.ensures.1 ∙ rw (c.in_ok-checked_mul.ensures.1, c.from-in-loop-byte-2.ensures) refl);
  small = omega (arith, c.in_ok-value.ensures.0, c.in_ok-value.ensures.1);
}

pub returns : goal.returns
returns c =
    let all : take c.loop-byte.byte-index c.args.digits.now ≡ c.args.digits.now = take_all _ _ (omega arith) in
    whole c.args.base c.args.most c.args.digits.now c.loop-byte.value (false-eqb _ 0 c.if-is_empty.ensures) (omega arith) (ap (list_all (λ ch. is_digit ch c.args.base)) (sym all) ∙ c.loop-byte.invariant.digits) (c.loop-byte.invariant.value ∙ ap (digits_value c.args.base) all) c.loop-byte.invariant.small
