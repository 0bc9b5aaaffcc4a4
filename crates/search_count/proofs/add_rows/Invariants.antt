-- `search_count::add_rows` meets its contract: the columns hold the marks of the rows so far.
use mathlib.Core.Path.{◌≡◌}
use Prim.Native.Nat.{◌+◌}
use lib.ListN.{length}
use Rattle.model.proofs.Totals.{sum_below}
use Rattle.search_count.specs.Marks.{Counts, widened}
use Rattle.search_count.proofs.add_rows.Given as goal

abbrev pub invariant-loop-j : goal.invariant-loop-j
invariant-loop-j l =
    (length l.columns ≡ length l.initial.columns)
    × Counts (λ p. sum_below l.j (λ i. widened l.measures l.cells.gray.now l.cells.dots.now l.cells.dot (l.row + i) p)) l.columns
