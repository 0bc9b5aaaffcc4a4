-- `text_decimal::put_number` meets its contract. The loop's invariant: with the digits of what is left put at `at` too, up
-- to `next`, the whole number stands there.
use mathlib.Core.Path.{◌≡◌}
use Prim.Native.Nat.{◌≤◌}
use lib.ListN.{length}
use lib.Seq.{sets}
use Rattle.model.specs.Text.{digits, Puts}
use Rattle.text_decimal.proofs.put_number.Given as goal

abbrev pub invariant-loop-rest : goal.invariant-loop-rest
invariant-loop-rest l = (l.next ≤ length l.out) × (length l.out ≡ length l.initial.out) × Puts (digits l.rest) l.out (sets l.initial.out l.at (digits l.n)) l.at l.next

abbrev pub decreases-loop-rest : goal.decreases-loop-rest
decreases-loop-rest l = l.rest
