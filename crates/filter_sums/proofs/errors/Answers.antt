-- `filter_sums::errors` meets its contract: the entries passed are the errors.
use native.Mathlib.Omega.{arith}
use Rattle.model.proofs.Basic.{fill_all}
use Rattle.filter_sums.proofs.errors.Goals as goal

pub returns : goal.returns
returns c = fill_all c.loop-n.invariant (omega arith)
