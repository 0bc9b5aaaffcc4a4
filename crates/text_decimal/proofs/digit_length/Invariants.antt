-- `text_decimal::digit_length` meets its contract. The loop's invariant: `lower` and the digits of what is left make up
-- the number's digits, and there are at most 20 of these.
use mathlib.Core.Path.{◌≡◌}
use Prim.Native.Nat.{◌+◌, ◌≤◌}
use lib.ListN.{length}
use Rattle.model.specs.Text.{digits}
use Rattle.text_decimal.proofs.digit_length.Given as goal

abbrev pub invariant-loop-rest : goal.invariant-loop-rest
invariant-loop-rest l = (l.lower + length (digits l.rest) ≡ length (digits l.n)) × (length (digits l.n) ≤ 20)

abbrev pub decreases-loop-rest : goal.decreases-loop-rest
decreases-loop-rest l = l.rest
