-- The loop's invariant: the rows passed are put.
use Rattle.std.proofs.Common.{◌*◌}
use Rattle.model.specs.Netpbm.{bit_at}
use Rattle.model.proofs.Tables.{Put, by_rows}
use Rattle.picture_raster.proofs.unpack_rows.Given as goal

abbrev pub invariant-loop-row : goal.invariant-loop-row
invariant-loop-row l =
    let w = l.size.width in
    Put l.initial.dots 0 (by_rows w (bit_at w l.raster)) (l.row * w) l.dots
