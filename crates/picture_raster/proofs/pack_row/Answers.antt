-- `picture_raster::pack_row` meets its contract.
use Rattle.std.proofs.Common.{◌∙◌, arith}
use Rattle.model.proofs.Tables.{put_none, put_next}
use Rattle.picture_raster.proofs.Bytes.{byte_packed}
use Rattle.picture_raster.proofs.pack_row.Goals as goal

pub loop-j-init : goal.loop-j-init
loop-j-init c = put_none

pub loop-j-preserved : goal.loop-j-preserved
loop-j-preserved c =
    let a = c.args in
    let packed = byte_packed a.dots.now a.row a.width c.loop-j.j (omega arith) in
    put_next c.loop-j.invariant (c.pack_byte.ensures ∙ packed)
