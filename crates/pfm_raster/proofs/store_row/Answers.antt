-- `pfm_raster::store_row` meets its contract.
use Rattle.std.proofs.Common.{◌∙◌, ap}
use Rattle.model.specs.Pfm.{sample_of, gray_of}
use Rattle.model.proofs.Tables.{put_none, put_next}
use Rattle.pfm_raster.proofs.store_row.Goals as goal

pub loop-x-init : goal.loop-x-init
loop-x-init c = put_none

pub loop-x-preserved : goal.loop-x-preserved
loop-x-preserved c =
    put_next c.loop-x.invariant (c.gray_of.ensures ∙ ap (λ n. gray_of (sample_of n)) c.word_at.ensures)
