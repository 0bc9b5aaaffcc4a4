-- The loop's invariant: the rows passed are counted.
use Rattle.model.specs.Basic.{tabulate}
use Rattle.model.specs.Psf.{total}
use Rattle.model.specs.Netpbm.{bit_at}
use Rattle.model.proofs.Basic.{Filling}
use Rattle.picture_count.proofs.count_packed.Given as goal

abbrev pub invariant-loop-row : goal.invariant-loop-row
invariant-loop-row l =
    let w = l.size.width in
    Filling 0 (λ y. total (tabulate w (bit_at w l.raster y))) l.size.height l.row l.counts
