-- `search_runs::swaps_clear` meets its contract: at the offsets so far every trial of the run fails.
use Rattle.std.proofs.Common.{arith}
use Rattle.search_runs.proofs.Run.{offset_clear}
use Rattle.search_runs.proofs.swaps_clear.Goals as goal

pub returns : goal.returns
returns c e =
    record {
      at = λ j h.
          offset_clear c.args.width _ c.args.at.row c.args.at.col
          (rw c.index-m.ensures at (c.loop-j.invariant j (omega arith) h));
    }
