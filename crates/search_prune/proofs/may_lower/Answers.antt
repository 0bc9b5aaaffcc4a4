-- `search_prune::may_lower` meets its contract: the rows above y are clear.
use Rattle.std.proofs.Common.{ℕ, ◌+◌, ◌*◌, ◌-◌, ◌≤◌, ◌<◌, arith}
use lib.ListN.{length}
use Rattle.algebra.proofs.Grid.{rows_apart}
use Rattle.search_prune.specs.Grid.{row_length}
use Rattle.search_prune.proofs.Grid.{run_part, rows_more}
use Rattle.search_prune.proofs.may_lower.Goals as goal
use Rattle.search_prune.proofs.may_lower.Goals.{Start}

-- the worths of a row end within the grid
within : (s : Start) (y : ℕ) → y < s.args.at.row + s.args.reach + 1
    → (y + s.args.reach - s.args.at.row) * row_length s.args.reach + row_length s.args.reach ≤ length s.args.grid.now
within s y h =
    let last : y + s.args.reach - s.args.at.row < 2 * s.args.reach + 1 = omega arith in
    omega (arith, rows_apart (row_length s.args.reach) last, s.requires.grid_len.0)

pub slice_bounds-worths-end : goal.slice_bounds-worths-end
slice_bounds-worths-end c =
    let s = (goal.at.slice_bounds-worths-end c).Start in
    rw c.row_length-side.ensures (within s c.loop-y.y (omega arith))

pub loop-y-preserved : goal.loop-y-preserved
loop-y-preserved c =
    let s = (goal.at.loop-y-preserved c).Start in
    rows_more c.loop-y.y (omega arith) (omega arith) c.loop-y.invariant
    (λ i h. run_part c.args.grid.now _ _ (within s c.loop-y.y (omega arith))
    (rw (c.row_length-side.ensures, c.index-m.ensures) at (c.row_lowers.ensures c.if-row_lowers.false)) i (omega arith))
