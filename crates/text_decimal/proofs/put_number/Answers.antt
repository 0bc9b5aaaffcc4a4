-- `text_decimal::put_number` meets its contract. The loop's invariant: with the digits of what is left put at `at` too, up
-- to `next`, the whole number stands there.
use mathlib.Core.Path.{sym}
use native.Mathlib.Omega.{arith}
use lib.ListN.{length-set}
use Rattle.model.proofs.Text.{digits_low, digits_some}
use Rattle.text_decimal.proofs.Digits.{puts_higher}
use Rattle.text_decimal.proofs.put_number.Goals as goal

pub overflow_sub-next : goal.overflow_sub-next
overflow_sub-next c = omega (arith, digits_some c.loop-rest.rest)

pub bounds-out-next : goal.bounds-out-next
bounds-out-next c = omega (arith, digits_some c.loop-rest.rest)

pub loop-rest-preserved : goal.loop-rest-preserved
loop-rest-preserved c =
    let (short, long, puts) = c.loop-rest.invariant in
    (simp length-set (omega arith), simp length-set long, puts_higher c.loop-rest.rest (omega arith) puts)

pub bounds-out-at : goal.bounds-out-at
bounds-out-at c = omega (arith, digits_some c.loop-rest.rest)

pub returns : goal.returns
returns c =
    let whole = c.loop-rest.invariant.2.bytes_are in
    record { end_is = omega arith; bytes_are = sym (rw (digits_low c.loop-rest.rest (omega arith)) at whole) }
