-- `picture_raster::unpack_row` meets its contract.
use Rattle.std.proofs.Common.{◌*◌, ◌+◌, ap, get_or, arith}
use Rattle.model.proofs.Tables.{put_none, put_as}
use Rattle.picture_raster.proofs.Bytes.{cells_next}
use Rattle.picture_raster.proofs.unpack_row.Goals as goal

pub loop-j-init : goal.loop-j-init
loop-j-init c = put_as (omega arith) put_none

pub loop-j-preserved : goal.loop-j-preserved
loop-j-preserved c =
    let a = c.args in
    let byte = ap (λ n. get_or a.raster.now (a.row * n + c.loop-j.j) 0) c.row_bytes-bytes.ensures in
    cells_next a.width a.raster.now a.row c.loop-j.j (omega arith) c.loop-j.invariant byte c.unpack_byte.ensures
