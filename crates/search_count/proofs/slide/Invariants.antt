-- `search_count::slide` meets its contract: the window stands at this cell, and the cells so far are added up.
use mathlib.Core.Path.{◌≡◌}
use Prim.Native.Nat.{◌+◌}
use Rattle.search_count.specs.Marks.{window_at, slid}
use Rattle.search_count.proofs.slide.Given as goal

abbrev pub invariant-loop-x : goal.invariant-loop-x
invariant-loop-x l =
    (l.within ≡ window_at l.columns l.n l.x)
    × (l.sum + slid l.cells.gray.now l.cells.dots.now l.cells.dot l.first l.columns l.n l.from ≡ slid l.cells.gray.now l.cells.dots.now l.cells.dot l.first l.columns l.n l.x)
