-- `picture_raster::unpack_cells` meets its contract.
use Rattle.std.proofs.Common.{refl}
use Rattle.model.proofs.Tables.{put_none, put_next}
use Rattle.picture_raster.proofs.unpack_cells.Goals as goal

pub loop-i-init : goal.loop-i-init
loop-i-init c = put_none

pub loop-i-preserved : goal.loop-i-preserved
loop-i-preserved c = put_next c.loop-i.invariant refl
