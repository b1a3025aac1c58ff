use Rattle.std.proofs.Common.{◌≡◌, true, sym, arith}
use Rattle.std.proofs.lemmas.Bool.Decides.{nat_tests}
use Rattle.roam_address.specs.Decimals.{is_decimal}
use Rattle.roam_address.proofs.DecimalLemmas.{decimal_in-not, decimal_in-ok, decimal_in-err}
use Rattle.roam_address.proofs.decimals.decimal.Goals as goal

pub returns-then-not-is_decimal-clause-value : goal.returns-then-not-is_decimal-clause-value
returns-then-not-is_decimal-clause-value c =
    sym (decimal_in-not c.args.least c.args.most c.args.text.now
    (rw (← c.as_bytes.ensures.value, ← c.is_decimal.ensures) c.if-not-is_decimal.true))

pub returns-then-number-most-clause-value : goal.returns-then-number-most-clause-value
returns-then-number-most-clause-value c =
    let is : is_decimal c.args.text.now ≡ true =
    rw (← c.as_bytes.ensures.value, ← c.is_decimal.ensures) c.if-not-is_decimal.false in
    let reads = decimal_in-ok c.args.least c.args.most c.args.text.now c.in-Ok.number is c.in-Ok.ensures.value.0 in
    grind (arith, nat_tests)

pub returns-else-least-number-clause-value : goal.returns-else-least-number-clause-value
returns-else-least-number-clause-value c =
    let is : is_decimal c.args.text.now ≡ true =
    rw (← c.as_bytes.ensures.value, ← c.is_decimal.ensures) c.if-not-is_decimal.false in
    let reads = decimal_in-ok c.args.least c.args.most c.args.text.now c.in-Ok.number is c.in-Ok.ensures.value.0 in
    grind (arith, nat_tests)

pub returns-in-Err-clause-value : goal.returns-in-Err-clause-value
returns-in-Err-clause-value c =
    let is : is_decimal c.args.text.now ≡ true =
    rw (← c.as_bytes.ensures.value, ← c.is_decimal.ensures) c.if-not-is_decimal.false in
    sym (decimal_in-err c.args.least c.args.most c.args.text.now is (omega (arith, c.ranges.most.fits))
    c.in-Err.ensures.value.0)
