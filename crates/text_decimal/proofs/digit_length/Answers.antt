-- `text_decimal::digit_length` meets its contract. The loop's invariant: `lower` and the digits of what is left make up
-- the number's digits, and there are at most 20 of these.
use native.Mathlib.Omega.{arith}
use Rattle.model.proofs.Text.{length_most}
use Rattle.text_decimal.proofs.Digits.{three_more}
use Rattle.text_decimal.proofs.digit_length.Goals as goal

pub loop-rest-init : goal.loop-rest-init
loop-rest-init c = (omega arith, length_most 19 c.args.n (omega arith))

pub loop-rest-preserved : goal.loop-rest-preserved
loop-rest-preserved c = (omega (arith, three_more c.loop-rest.rest (omega arith)), omega arith)
