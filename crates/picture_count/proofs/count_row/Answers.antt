-- `picture_count::count_row` meets its contract.
use Rattle.std.proofs.Common.{◌≡◌, ◌+◌, ◌*◌, ◌∙◌, ap, min, get_or, arith}
use Rattle.model.specs.Netpbm.{bit_at}
use Rattle.picture_count.proofs.Counts.{count_none, count_next}
use Rattle.picture_count.proofs.count_row.Goals as goal

pub loop-j-init : goal.loop-j-init
loop-j-init c =
    let a = c.args in
    record { bound = omega arith; counted = count_none a.width (bit_at a.width a.raster.now a.row) }

pub loop-j-preserved : goal.loop-j-preserved
loop-j-preserved c =
    let a = c.args in
    let j = c.loop-j.j in
    let byte = ap (λ n. get_or a.raster.now (a.row * n + j) 0) c.row_bytes-bytes.ensures in
    record {
      bound = omega arith;
      counted =
          count_next a.width a.raster.now a.row j (omega arith) c.loop-j.invariant.counted byte c.count_byte-count.ensures.0;
    }

pub returns : goal.returns
returns c =
    let all : min (8 * c.loop-j.j) c.args.width ≡ c.args.width = omega arith in
    c.loop-j.invariant.counted ∙ rw all
