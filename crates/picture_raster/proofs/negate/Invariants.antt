-- The loop's invariant: the bytes passed are put.
use Rattle.std.proofs.Common.{◌-◌, get_or}
use Rattle.model.proofs.Tables.{Put}
use Rattle.picture_raster.proofs.negate.Given as goal

abbrev pub invariant-loop-i : goal.invariant-loop-i
invariant-loop-i l = Put l.initial.out 0 (λ k. 255 - get_or l.bytes k 0) l.i l.out
