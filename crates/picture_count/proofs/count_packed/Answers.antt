-- `picture_count::count_packed` meets its contract.
use Rattle.std.proofs.Common.{arith}
use Rattle.model.specs.Netpbm.{row_counts}
use Rattle.model.proofs.Basic.{fill_all}
use Rattle.picture_count.proofs.count_packed.Goals as goal

pub returns : goal.returns
unfolding row_counts
returns c = fill_all c.loop-row.invariant (omega (arith, c.loop-row.invariant.long))
