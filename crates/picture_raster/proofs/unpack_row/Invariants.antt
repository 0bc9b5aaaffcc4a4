-- The loop's invariant: the cells of the bytes passed are put.
use Rattle.std.proofs.Common.{◌*◌, min}
use Rattle.model.specs.Netpbm.{bit_at}
use Rattle.model.proofs.Tables.{Put}
use Rattle.picture_raster.proofs.unpack_row.Given as goal

abbrev pub invariant-loop-j : goal.invariant-loop-j
invariant-loop-j l =
    Put l.initial.dots (l.row * l.width) (bit_at l.width l.raster l.row) (min (8 * l.j) l.width) l.dots
