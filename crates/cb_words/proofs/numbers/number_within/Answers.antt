use Rattle.std.proofs.Common.{rules, ◌≡◌, ◌∙◌, ◌*◌, ◌+◌, ap, sym, arith, true, take}
use Rattle.std.specs.Str.Parse.{digits_value}
use Rattle.cb_words.specs.Numbers.{is_number}
use Rattle.cb_words.proofs.Digits.{above_bound, value_next}
use Rattle.cb_words.proofs.numbers.number_within.Goals as goal

pub returns-then-number-most-clause-number : goal.returns-then-number-most-clause-number
returns-then-number-most-clause-number c =
    let is_digits : is_number c.as_bytes-digits.result.now ≡ true = search rules in
    let next : c.loop-digit.number * 10 + c.from.result ≡ digits_value 10 (take (c.loop-digit.digit-index + 1) c.as_bytes-digits.result.now)
    = ap (λ d. c.loop-digit.number * 10 + d) c.from.ensures ∙ value_next _ _ _ is_digits c.loop-digit-test.true c.loop-digit.invariant.1 in
    rw (← c.as_bytes-digits.ensures.value) (sym (above_bound c.as_bytes-digits.result.now (c.loop-digit.digit-index + 1) c.args.most is_digits (omega (arith, next, c.if-number-most.true))))

pub loop-digit-preserved : goal.loop-digit-preserved
loop-digit-preserved c =
    let is_digits : is_number c.as_bytes-digits.result.now ≡ true = search rules in (
      c.if-number-most.false,
      ap (λ d. c.loop-digit.number * 10 + d) c.from.ensures ∙ value_next _ _ _ is_digits c.loop-digit-test.true c.loop-digit.invariant.1,
    )
