-- The loop's invariant: the bytes passed are put.
use Rattle.model.specs.Netpbm.{packed_byte}
use Rattle.model.proofs.Tables.{Put}
use Rattle.picture_raster.proofs.pack_row.Given as goal

abbrev pub invariant-loop-j : goal.invariant-loop-j
invariant-loop-j l = Put l.initial.out l.at (packed_byte l.width l.dots l.row) l.j l.out
