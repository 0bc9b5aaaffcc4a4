-- `sheet_write::put_grid` meets its contract. The loop's invariant: the values from `i` on are left to put.
use mathlib.Core.Path.{ap₂}
use Rattle.model.proofs.Puts.{left_next}
use Rattle.sheet_write.proofs.Parts.{field, grid_next}
use Rattle.sheet_write.proofs.put_grid.Goals as goal

pub loop-i-preserved : goal.loop-i-preserved
loop-i-preserved c =
    let is = ap₂ field c.from.ensures c.end_of.ensures in
    let rest = grid_next c.args.values.now c.loop-i.i c.loop-i-test.true c.args.w in
    left_next c.loop-i.invariant rest (rw is at c.put_field-next.ensures)
