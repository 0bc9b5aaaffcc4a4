-- `search_count::add_row` meets its contract: the marks of the cells so far are added.
use Prim.Native.Nat.{◌+◌}
use Rattle.search_count.specs.Marks.{Gains, mark, placed}
use Rattle.search_count.proofs.add_row.Given as goal

abbrev pub invariant-loop-x : goal.invariant-loop-x
invariant-loop-x l = Gains (placed l.at l.x (λ i. mark l.cells.gray.now l.cells.dots.now l.cells.dot (l.first + i))) l.initial.columns l.columns
