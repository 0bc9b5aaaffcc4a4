-- `picture_raster::pack_byte` meets its contract.
use Rattle.std.proofs.Common.{ap, ◌∙◌, refl, add-one, arith}
use Rattle.model.specs.Basic.{tabulate}
use Rattle.model.specs.Netpbm.{word_from}
use Rattle.model.proofs.Raster.{word_next}
use Rattle.picture_raster.proofs.Bytes.{cell_or_spare, word_small}
use Rattle.picture_raster.proofs.pack_byte.Goals as goal

pub loop-i-init : goal.loop-i-init
unfolding tabulate
loop-i-init c = refl

pub overflow_mul-byte : goal.overflow_mul-byte
overflow_mul-byte c = omega (arith, word_small c.requires.1 c.args.first c.args.left c.loop-i.i (omega arith))

pub overflow_add-byte : goal.overflow_add-byte
overflow_add-byte c = omega (arith, word_small c.requires.1 c.args.first c.args.left c.loop-i.i (omega arith))

pub loop-i-preserved : goal.loop-i-preserved
loop-i-preserved c =
    let cells = cell_or_spare c.args.dots.now c.args.first c.args.left in
    let next = ap (λ k. word_from 0 (tabulate k cells)) (add-one c.loop-i.i) ∙ word_next cells c.loop-i.i in
    omega (arith, next)
