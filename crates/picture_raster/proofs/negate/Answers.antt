-- `picture_raster::negate` meets its contract.
use Rattle.std.proofs.Common.{◌-◌, get_or, refl, sym, ap, ◌∙◌, arith}
use native.Mathlib.Nat.{zero-add}
use lib.Seq.{sets}
use Rattle.model.proofs.Tables.{put_none, put_next, put_as}
use Rattle.picture_raster.proofs.Bytes.{negated_tabulate}
use Rattle.picture_raster.proofs.negate.Goals as goal

pub loop-i-init : goal.loop-i-init
loop-i-init c = put_none

pub loop-i-preserved : goal.loop-i-preserved
loop-i-preserved c =
    let bytes = c.args.bytes.now in
    rw (zero-add c.loop-i.i) at
    (put_next {v = 255 - get_or bytes c.loop-i.i 0} c.loop-i.invariant refl)

pub returns : goal.returns
returns c =
    (put_as (omega arith) c.loop-i.invariant).is
    ∙ ap (sets c.args.out.now 0) (sym (negated_tabulate c.args.bytes.now))
