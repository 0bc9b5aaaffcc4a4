-- `search_count::add_row` meets its contract: the marks of the cells so far are added.
use Rattle.std.proofs.Common.{ℕ, ◌+◌, arith}
use native.Mathlib.Nat.{le_refl}
use lib.ListN.{get_or}
use Rattle.search_count.specs.Marks.{mark}
use Rattle.search_count.proofs.Marks.{mark_small, placed_after, gains_none, gains_next}
use Rattle.search_count.proofs.add_row.Goals as goal
use Rattle.search_count.proofs.add_row.Goals.{Start}

-- the marks of the cells
abbrev marks : Start → ℕ → ℕ
marks s i = mark s.args.cells.gray.now s.args.cells.dots.now s.args.cells.dot (s.args.first + i)

pub loop-x-init : goal.loop-x-init
loop-x-init c = gains_none _ _ _

pub overflow_add-columns-in-loop-x : goal.overflow_add-columns-in-loop-x
overflow_add-columns-in-loop-x c =
    let s = (goal.at.overflow_add-columns-in-loop-x c).Start in
    let a = c.args in
    let at = a.at + c.loop-x.x in
    let none = placed_after a.at c.loop-x.x (marks s) at (le_refl _) in
    let here = a.first + c.loop-x.x in
    let small = mark_small (get_or a.cells.gray.now here 0) (get_or a.cells.dots.now here 0) a.cells.dot in
    omega (arith, c.loop-x.invariant.each at, none, c.requires.at_most.each at, small, c.mark.ensures)

pub loop-x-preserved : goal.loop-x-preserved
loop-x-preserved c =
    let s = (goal.at.loop-x-preserved c).Start in
    gains_next c.args.at c.loop-x.x (marks s) c.loop-x.invariant c.mark.ensures (omega arith)
