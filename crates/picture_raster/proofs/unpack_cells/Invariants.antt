-- The loop's invariant: the cells passed are put.
use Rattle.std.proofs.Common.{◌-◌}
use Rattle.model.specs.Basic.{bit}
use Rattle.model.proofs.Tables.{Put}
use Rattle.picture_raster.proofs.unpack_cells.Given as goal

abbrev pub invariant-loop-i : goal.invariant-loop-i
invariant-loop-i l = Put l.initial.dots l.at (λ k. bit (7 - k) l.byte) l.i l.dots
