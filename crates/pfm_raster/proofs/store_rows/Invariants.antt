-- The loop's invariant: the rows passed are put.
use Rattle.std.proofs.Common.{ℕ, ◌*◌}
use Rattle.model.specs.Pfm.{sample_at, gray_of, file_order}
use Rattle.model.proofs.Tables.{Put, by_rows}
use Rattle.pfm_raster.proofs.store_rows.Given as goal

abbrev pub invariant-loop-row : goal.invariant-loop-row
invariant-loop-row l =
    let cell = λ (row col : ℕ). gray_of (sample_at l.little l.raster (file_order l.size row col)) in
    Put l.initial.gray 0 (by_rows l.size.width cell) (l.row * l.size.width) l.gray
