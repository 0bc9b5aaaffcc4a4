-- `search_tally::tally` meets its contract: those of the cells between, and of the last cell those up to the one taken.
use mathlib.Core.Path.{sym}
use Prim.Native.Nat.{ℕ, ◌+◌, ◌^◌, ◌≤◌, ◌<◌}
use native.Mathlib.Nat.{le_of_eq, le_of_lt, mul-le-mul}
use native.Mathlib.Omega.{arith}
use Rattle.algebra.proofs.Grid.{cell<}
use Rattle.model.specs.Setting.{target_in}
use Rattle.model.specs.Error.{Target, most_cells}
use Rattle.invariants.specs.Plate.{OnPlate, cell_of}
use Rattle.invariants.proofs.Plate.{way_on, way_end}
use Rattle.search_tally.proofs.Sums.{all_most, some_most, told_none, told_end, told_there}
use Rattle.search_tally.proofs.tally.Goals as goal
use Rattle.search_tally.proofs.tally.Goals.{After-weighed, Start}

-- what is known from the start
module _ (s : Start) where
  abbrev t : Target
  t = target_in s.args.setting

  abbrev first : ℕ
  first = cell_of s.args.setting.measures.width s.args.from

  abbrev last : ℕ
  last = cell_of s.args.setting.measures.width s.args.to

  few : last ≤ most_cells
  few =
      let h = s.requires.plate_fits.0.halftone in omega (arith, s.requires.on_way.1.so_far, mul-le-mul h.high.1 h.wide.1)

  on : s.args.to.row < s.args.setting.measures.height → OnPlate s.args.setting.measures s.args.to
  on above = way_on s.requires.on_way.1 above

pub returns-then-not-counted : goal.returns-then-not-counted
returns-then-not-counted c =
    let s : Start = search in
    told_none (t s) s.args.setting.measures.reach s.args.dots.now s.args.counted s.args.trials (first s) (last s)
    s.args.found (c.if-not-counted.true)

pub span_trials-requires : goal.span_trials-requires
span_trials-requires c =
    let (from, to, forward) = c.requires.on_way in record {
      plate_fits = c.requires.plate_fits.0;
      col_lt_width = (from.column, to.column, forward, to.so_far);
    }

pub overflow_add-past : goal.overflow_add-past
overflow_add-past c =
    let s : Start = search in
    record {
      fits = omega (
        arith,
        s.requires.found_in_bounds.1,
        c.span_trials.ensures,
        all_most (t s) s.args.setting.measures.reach s.requires.plate_fits.0.reach_near s.args.dots.now (last s) (few s),
      );
    }

pub returns-then-setting-to : goal.returns-then-setting-to
returns-then-setting-to c =
    let s : Start = search in
    told_end (t s) s.args.setting.measures.reach s.args.dots.now s.args.counted s.args.trials (first s) (last s)
    s.args.found c.if-not-counted.false _ c.span_trials.ensures
    (le_of_eq (sym (way_end s.requires.on_way.1 c.if-setting-to.true)))

pub weighed-requires : goal.weighed-requires
weighed-requires c =
    let s : Start = search in
    let above : s.args.to.row < s.args.setting.measures.height = omega arith in
    record {
      plate_fits = (s.requires.plate_fits.0, on s above);
      holds_offsets = (s.requires.plate_fits.1, le_of_lt (s.requires.found_in_bounds.0 above));
    }

-- the sum is small
small : (w : After-weighed) → w.args.trials + w.span_trials.result + w.weighed.result + 1 ≤ 2 ^ 63
small w =
    let s : Start = search in
    omega (
      arith,
      s.requires.found_in_bounds.1,
      w.span_trials.ensures,
      all_most (t s) s.args.setting.measures.reach s.requires.plate_fits.0.reach_near s.args.dots.now (last s) (few s),
      w.weighed.ensures,
      some_most (t s) s.args.setting.measures.reach s.requires.plate_fits.0.reach_near s.args.dots.now (last s)
          s.args.found,
    )

pub overflow_add-result : goal.overflow_add-result
overflow_add-result c = record { fits = omega (arith, small c) }

pub overflow_add-result-2 : goal.overflow_add-result-2
overflow_add-result-2 c = record { fits = omega (arith, small c) }

pub returns : goal.returns
returns c =
    let s : Start = search in
    let above : s.args.to.row < s.args.setting.measures.height = omega arith in
    let there = on s above in
    told_there (t s) s.args.setting.measures.reach s.args.dots.now s.args.counted s.args.trials (first s) (last s)
    s.args.found c.if-not-counted.false _ c.span_trials.ensures
    (cell< there.row_below there.col_below) c.weighed.ensures
