-- `search_count::kind_trials` meets its contract: the window slides along columns that hold the other dot's marks.
use Rattle.std.proofs.Common.{arith}
use Rattle.search_count.proofs.Columns.{zeros, slid_is}
use Rattle.search_count.proofs.kind_trials.Goals as goal

pub add_rows-requires-clause-reach_in_bounds : goal.add_rows-requires-clause-reach_in_bounds
add_rows-requires-clause-reach_in_bounds c = (omega arith, zeros 272)

pub returns : goal.returns
returns c =
    let a = c.args in
    let same = slid_is a.measures a.cells.gray.now a.cells.dots.now a.cells.dot a.row c.add_rows.ensures in
    omega (arith, c.slide.ensures, same a.from, same a.to)
