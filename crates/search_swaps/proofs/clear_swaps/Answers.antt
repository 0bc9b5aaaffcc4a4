-- `search_swaps::clear_swaps` meets its contract: at locked cells no trial is made, and where the test finds
-- nothing, every trial in the run fails.
use mathlib.Core.Path.{sym, subst}
use Prim.Native.Nat.{ℕ, ◌+◌, ◌*◌, ◌≤◌, ◌<◌}
use native.Mathlib.Nat.{not-suc-le-zero}
use native.Mathlib.Omega.{arith}
use lib.ListN.{length}
use Rattle.algebra.proofs.Grid.{rows_apart}
use Rattle.invariants.specs.Plate.{JudgedIn, OnPlate, cell_of}
use Rattle.invariants.proofs.Partners.{worths_small}
use Rattle.invariants.proofs.Plate.{place_fits, on_gray}
use Rattle.search_swaps.proofs.Clear.{judged_tabled, run_failed, run_locked}
use Rattle.search_swaps.proofs.clear_swaps.Goals as goal
use Rattle.search_swaps.proofs.clear_swaps.Goals.{Start}

-- what is known from the start
module _ (s : Start) where
  abbrev judged : JudgedIn s.args.setting s.args.c.now
      s.args.dots.now s.args.table.now
  judged = s.requires.judged.0

  abbrev on : OnPlate s.args.setting.measures s.args.at
  on = s.requires.judged.1

pub index-m-requires : goal.index-m-requires
index-m-requires c = let s : Start = search in place_fits (judged s) (on s)

pub bounds-setting-m : goal.bounds-setting-m
bounds-setting-m c =
    let s : Start = search in
    subst (λ k. k < length s.args.setting.gray.now) (sym c.index-m.ensures) (on_gray (judged s) (on s))

pub run_length-requires : goal.run_length-requires
run_length-requires c = let s : Start = search in (on s).col_below

-- a run that ends in its row has its cells on the plate
room : (s : Start) (n : ℕ) → s.args.at.col + n ≤ s.args.setting.measures.width
    → cell_of s.args.setting.measures.width s.args.at + n ≤ s.args.setting.measures.height * s.args.setting.measures.width
room s n h = omega (arith, h, rows_apart s.args.setting.measures.width (on s).row_below)

pub locked_run-requires : goal.locked_run-requires
locked_run-requires c =
    let s : Start = search in
    omega (arith, room s _ c.run_length.ensures.1, c.index-m.ensures, (judged s).plate.halftone.gray_length)

pub returns-then-is_locked : goal.returns-then-is_locked
returns-then-is_locked c =
    let s : Start = search in
    let (few, all) = c.locked_run.ensures in (
      omega (arith, few, c.run_length.ensures.1),
      run_locked _ s.requires.holds_offers.codes s.args.dots.now (rw c.index-m.ensures at all),
    )

pub returns-then-m-tested : goal.returns-then-m-tested
returns-then-m-tested c =
    let s : Start = search in (omega (arith, (on s).col_below), λ k h. absurd (not-suc-le-zero h))

pub run_length-n-requires : goal.run_length-n-requires
run_length-n-requires c = let s : Start = search in (on s).col_below

pub swaps_clear-requires : goal.swaps_clear-requires
swaps_clear-requires c =
    let s : Start = search in
    let f = (judged s).plate.halftone in
    let (few, short) = c.run_length-n.ensures in
    let (row, col, wide) = place_fits (judged s) (on s) in
    let worths = s.requires.holds_offers.worths in record {
      row_bound = (row, col, wide, few);
      tabled = (judged_tabled (judged s), omega (arith, room s _ short, f.dots_length));
      worths_len = (worths.long, worths_small _ (judged s).kernel.small worths);
    }

pub returns-then-swaps_clear : goal.returns-then-swaps_clear
returns-then-swaps_clear c =
    let s : Start = search in
    let short = c.run_length-n.ensures.1 in (
      short,
      run_failed (judged s) (on s) s.requires.holds_offers.codes s.requires.holds_offers.worths short (c.swaps_clear.ensures c.if-swaps_clear.true),
    )

pub returns-else-swaps_clear : goal.returns-else-swaps_clear
returns-else-swaps_clear c =
    let s : Start = search in (omega (arith, (on s).col_below), λ k h. absurd (not-suc-le-zero h))
