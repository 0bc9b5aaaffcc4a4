-- `picture_raster::pack_rows` meets its contract.
use Rattle.std.proofs.Common.{◌≡◌, ◌*◌, ap, arith}
use native.Mathlib.Nat.{zero-add}
use Rattle.model.specs.Netpbm.{row_bytes, packed_byte, packed}
use Rattle.model.proofs.Tables.{put_none, put_row, put_as}
use Rattle.picture_raster.proofs.pack_rows.Goals as goal

pub loop-row-init : goal.loop-row-init
loop-row-init c = put_as (omega arith) put_none

pub loop-row-preserved : goal.loop-row-preserved
loop-row-preserved c =
    let w = c.args.size.width in
    let put = rw (c.row_bytes-bytes.ensures, ← zero-add (c.loop-row.row * row_bytes w)) at c.pack_row.ensures in
    put_row (row_bytes w) (packed_byte w c.args.dots.now) c.loop-row.row c.loop-row.invariant put

pub returns : goal.returns
unfolding packed
returns c =
    let all : c.loop-row.row ≡ c.args.size.height = omega arith in
    (put_as (ap (λ n. n * row_bytes c.args.size.width) all) c.loop-row.invariant).is
