-- `search_count::add_rows` meets its contract: the columns hold the marks of the rows so far.
use Rattle.std.proofs.Common.{ℕ, ◌+◌, ◌≤◌, refl, ◌∙◌, arith}
use Rattle.search_count.specs.Marks.{widened}
use Rattle.search_count.proofs.Marks.{widened_small}
use Rattle.search_count.proofs.Columns.{counts_none, counts_next, counts_few}
use Rattle.search_count.proofs.add_rows.Goals as goal
use Rattle.search_count.proofs.add_rows.Goals.{Start}

-- the marks of the rows, from the highest within reach on
abbrev marks : Start → ℕ → ℕ → ℕ
marks s i p = let c = s.args.cells in widened s.args.measures c.gray.now c.dots.now c.dot (s.args.row + i) p

pub loop-j-init : goal.loop-j-init
loop-j-init c = (refl, counts_none (marks (goal.at.loop-j-init c).Start) c.requires.reach_in_bounds.1)

pub add_near-requires-clause-reach_in_bounds : goal.add_near-requires-clause-reach_in_bounds
add_near-requires-clause-reach_in_bounds c =
    let s = (goal.at.add_near-requires-clause-reach_in_bounds c).Start in
    let cells = s.args.cells in
    let few : (i p : ℕ) → marks s i p ≤ 1 =
    λ i p. widened_small s.args.measures cells.gray.now cells.dots.now cells.dot (s.args.row + i) p in
    (omega arith, counts_few (marks s) c.loop-j.j few (omega arith) c.loop-j.invariant.1)

pub loop-j-preserved : goal.loop-j-preserved
loop-j-preserved c =
    let row = c.add_near.ensures in
    (row.long ∙ c.loop-j.invariant.0, counts_next (marks (goal.at.loop-j-preserved c).Start) c.loop-j.j c.loop-j.invariant.1 row)
