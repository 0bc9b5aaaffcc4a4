-- The loop's invariant: the rows passed are put.
use Rattle.std.proofs.Common.{◌*◌}
use Rattle.model.specs.Netpbm.{row_bytes, packed_byte}
use Rattle.model.proofs.Tables.{Put, by_rows}
use Rattle.picture_raster.proofs.pack_rows.Given as goal

abbrev pub invariant-loop-row : goal.invariant-loop-row
invariant-loop-row l =
    let n = row_bytes l.size.width in
    Put l.initial.out 0 (by_rows n (packed_byte l.size.width l.dots)) (l.row * n) l.out
