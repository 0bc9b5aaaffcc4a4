-- The loop's invariant: the count is that of the cells passed.
use Rattle.std.proofs.Common.{◌≡◌, ◌*◌, ◌≤◌, min}
use Rattle.model.specs.Basic.{tabulate}
use Rattle.model.specs.Psf.{total}
use Rattle.model.specs.Netpbm.{bit_at}
use Rattle.picture_count.proofs.count_row.Given as goal

abbrev pub invariant-loop-j : goal.invariant-loop-j
invariant-loop-j l =
    record {
      bound : l.count ≤ 8 * l.j;
      counted : l.count ≡ total (tabulate (min (8 * l.j) l.width) (bit_at l.width l.raster l.row));
    }
