-- `search_count::add_near` meets its contract: the row is above the plate, below it, or one of its rows.
use Rattle.std.proofs.Common.{arith}
use Rattle.search_count.proofs.Marks.{gains_nothing, gains_row, widened_above, widened_below}
use Rattle.search_count.proofs.add_near.Goals as goal

pub returns-in_default : goal.returns-in_default
returns-in_default c =
    let a = c.args in
    gains_nothing _ (widened_above a.measures a.cells.gray.now a.cells.dots.now a.cells.dot a.y (omega arith))

pub returns-then-row-measures : goal.returns-then-row-measures
returns-then-row-measures c =
    let a = c.args in
    gains_row a.measures a.cells.gray.now a.cells.dots.now a.cells.dot a.y
    (rw c.in-Some.ensures.1 at c.add_row.ensures) (omega arith) (omega arith)

pub returns-else-row-measures : goal.returns-else-row-measures
returns-else-row-measures c =
    let a = c.args in
    gains_nothing _ (widened_below a.measures a.cells.gray.now a.cells.dots.now a.cells.dot a.y (omega arith))
