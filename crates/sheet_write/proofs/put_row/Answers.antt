-- `sheet_write::put_row` meets its contract. The loop's invariant: the values from the index on are left to put.
use Prim.Native.Nat.{◌-◌, ◌<◌}
use native.Mathlib.Omega.{arith}
use lib.ListN.{length}
use lib.Seq.{length-take-le}
use Rattle.std.proofs.Common.{get_or-take}
use Rattle.model.proofs.Puts.{left_next}
use Rattle.sheet_write.proofs.Parts.{row_next}
use Rattle.sheet_write.proofs.put_row.Goals as goal

pub loop-value-preserved : goal.loop-value-preserved
loop-value-preserved c =
    let vs = c.args.values.now in
    let i = c.loop-value.value-index in
    let inner : i < length vs - 1 = omega (arith, length-take-le (length vs - 1) vs (omega arith)) in
    left_next c.loop-value.invariant (row_next vs i (omega arith)) (rw get_or-take at c.put_field-next.ensures)
