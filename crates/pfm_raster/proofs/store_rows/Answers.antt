-- `pfm_raster::store_rows` meets its contract.
use Rattle.std.proofs.Common.{◌≡◌, ◌*◌, ap, arith}
use native.Mathlib.Nat.{zero-add}
use Rattle.model.specs.Pfm.{sample_at, gray_of, file_order, raster_gray}
use Rattle.model.proofs.Tables.{put_none, put_row, put_as}
use Rattle.pfm_raster.proofs.store_rows.Goals as goal

pub loop-row-init : goal.loop-row-init
loop-row-init c = put_as (omega arith) put_none

pub loop-row-preserved : goal.loop-row-preserved
loop-row-preserved c =
    let a = c.args in
    let put = rw (c.file_row.ensures, ← zero-add (c.loop-row.row * a.size.width)) at c.store_row.ensures in
    put_row a.size.width (λ row col. gray_of (sample_at a.little a.raster.now (file_order a.size row col))) c.loop-row.row
    c.loop-row.invariant put

pub returns : goal.returns
unfolding raster_gray
returns c =
    let all : c.loop-row.row ≡ c.args.size.height = omega arith in
    (put_as (ap (λ n. n * c.args.size.width) all) c.loop-row.invariant).is
