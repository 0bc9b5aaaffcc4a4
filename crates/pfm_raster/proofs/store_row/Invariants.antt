-- The loop's invariant: the cells passed are put.
use Rattle.std.proofs.Common.{◌+◌}
use Rattle.model.specs.Pfm.{sample_at, gray_of}
use Rattle.model.proofs.Tables.{Put}
use Rattle.pfm_raster.proofs.store_row.Given as goal

abbrev pub invariant-loop-x : goal.invariant-loop-x
invariant-loop-x l = Put l.initial.gray l.to (λ k. gray_of (sample_at l.little l.raster (l.first + k))) l.x l.gray
