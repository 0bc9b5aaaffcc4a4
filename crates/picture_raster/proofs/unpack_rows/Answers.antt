-- `picture_raster::unpack_rows` meets its contract.
use Rattle.std.proofs.Common.{◌≡◌, ◌*◌, ap, arith}
use native.Mathlib.Nat.{zero-add}
use Rattle.model.specs.Netpbm.{bit_at, unpacked}
use Rattle.model.proofs.Tables.{put_none, put_row, put_as}
use Rattle.picture_raster.proofs.unpack_rows.Goals as goal

pub loop-row-init : goal.loop-row-init
loop-row-init c = put_as (omega arith) put_none

pub loop-row-preserved : goal.loop-row-preserved
loop-row-preserved c =
    let w = c.args.size.width in
    let put = rw (← zero-add (c.loop-row.row * w)) at c.unpack_row.ensures in
    put_row w (bit_at w c.args.raster.now) c.loop-row.row c.loop-row.invariant put

pub returns : goal.returns
unfolding unpacked
returns c =
    let all : c.loop-row.row ≡ c.args.size.height = omega arith in
    (put_as (ap (λ n. n * c.args.size.width) all) c.loop-row.invariant).is
