-- `examples::put` meets its contract: no number has more than 20 digits.
use native.Mathlib.Omega.{arith}
use Rattle.model.proofs.Text.{length_most}
use Rattle.examples.proofs.put.Goals as goal

pub put_number-requires : goal.put_number-requires
put_number-requires c = omega (arith, length_most 19 c.args.n (omega arith))
