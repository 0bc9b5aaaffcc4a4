-- `search_swaps::first_trial` meets its contract: from the first offset on all is tried, and where the rows in reach
-- are clear every trial fails.
use native.Mathlib.Nat.{le_refl, not-suc-le-zero}
use native.Mathlib.Omega.{arith}
use Rattle.invariants.proofs.Trials.{failed_all}
use Rattle.search_swaps.proofs.Clear.{judged_tabled, offset_near, none_lowers}
use Rattle.search_swaps.proofs.first_trial.Goals as goal

pub may_lower-requires : goal.may_lower-requires
may_lower-requires c =
    let (judged, on) = c.requires.judged in
    let grid = c.requires.holds_offers.grid in
    let f = judged.plate.halftone in record {
      row_lt_height = (on.row_below, on.col_below, f.wide.1, f.high.1, grid.near);
      tabled = (judged_tabled judged, f.dots_length);
      grid_len = (grid.long, grid.small);
    }

pub returns-then-may_lower : goal.returns-then-may_lower
returns-then-may_lower c = (omega arith, record { each = λ j h. absurd (not-suc-le-zero h) })

pub returns-else-may_lower : goal.returns-else-may_lower
returns-else-may_lower c =
    let (judged, on) = c.requires.judged in
    let held = c.requires.holds_offers.codes in
    let grid = c.requires.holds_offers.grid in (
      le_refl _,
      failed_all _ held _ _ (λ k h.
          let (y, x) = offset_near held grid.near k h in
          none_lowers judged on grid (c.may_lower.ensures c.if-may_lower.false) _ _ y x),
    )
