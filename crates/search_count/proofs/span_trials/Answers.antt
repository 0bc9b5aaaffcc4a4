-- `search_count::span_trials` meets its contract: the swaps of the rows so far are counted, by marks.
use Rattle.std.proofs.Common.{◌≡◌, ℕ, ◌+◌, ◌*◌, ◌≤◌, ap, arith}
use native.Mathlib.Nat.{le_refl, add-mul, mul-le-mul, mul-le-mul_right}
use Rattle.model.specs.Setting.{target_in}
use Rattle.invariants.specs.Trials.{all_trials}
use Rattle.search_count.specs.Marks.{marked_trials}
use Rattle.search_count.proofs.Trials.{all_trials_lem, marked_few, rows_in_order}
use Rattle.search_count.proofs.span_trials.Goals as goal
use Rattle.search_count.proofs.span_trials.Goals.{After-row_trials-trials, After-row_trials-trials-then-col-to, Start}

-- what the first n cells come to, and that this is not much
module _ (s : Start) where
  abbrev marked : ℕ → ℕ
  marked = marked_trials s.args.setting.measures s.args.setting.gray.now s.args.dots.now

  abbrev first : ℕ
  first = s.args.from.row * s.args.setting.measures.width + s.args.from.col

  abbrev last : ℕ
  last = s.args.to.row * s.args.setting.measures.width + s.args.to.col

  few : (n : ℕ) → n ≤ last → marked n ≤ 65536 * 338
  few n h =
      let f = s.requires.plate_fits in
      omega (
        arith,
        mul-le-mul f.halftone.high.1 f.halftone.wide.1,
        marked_few s.args.setting.measures s.args.setting.gray.now s.args.dots.now f.reach_near n,
      )

  -- the same by the definition
  weighed : (n : ℕ) → all_trials (target_in s.args.setting) s.args.setting.measures.reach s.args.dots.now n ≡ marked n
  weighed n =
      let f = s.requires.plate_fits in
      let t = s.args.setting in
      all_trials_lem t.measures t.psf.now t.gray.now s.args.dots.now f.reach_near f.halftone.bits (omega arith) n

-- the end of a row is the start of the next
next_row : (r W : ℕ) → r * W + W ≡ (r + 1) * W + 0
next_row r W = omega (arith, add-mul r 1 W)

pub overflow_add-trials : goal.overflow_add-trials
overflow_add-trials c =
    let s = (goal.at.overflow_add-trials c).Start in
    let W = c.args.setting.measures.width in
    let under : c.loop-row.row + 1 ≤ c.args.to.row = omega arith in
    let next : (c.loop-row.row + 1) * W + 0 ≤ last s = omega (arith, mul-le-mul_right W under) in
    omega (
      arith,
      c.row_trials-trials.ensures,
      c.loop-row.invariant.2,
      ap (marked s) (next_row c.loop-row.row W),
      few s ((c.loop-row.row + 1) * W + 0) next,
    )

-- the row after the last whole one
ended : (s : Start) (row : ℕ) → s.args.from.row ≤ row → (s.args.from.row ≤ s.args.to.row → row ≤ s.args.to.row)
    → s.args.to.row ≤ row → row ≡ s.args.to.row
ended s row low high past =
    let w = s.args.setting.measures.width in
    let (first, last, order, end) = s.requires.col_lt_width in
    let down = rows_in_order w s.args.from.row s.args.from.col s.args.to.row s.args.to.col order last in
    omega (arith, high down)

pub overflow_add-trials-then-col-to : goal.overflow_add-trials-then-col-to
overflow_add-trials-then-col-to c =
    let s = (goal.at.overflow_add-trials-then-col-to c).Start in
    let row = ended s c.loop-row.row c.loop-row.auto.row c.loop-row.auto.row-end c.loop-row-test.false in
    omega (
      arith,
      c.row_trials-trials-then-col-to.ensures,
      rw row at c.loop-row.invariant.2,
      few s (last s) (le_refl _),
    )

pub returns-then-col-to : goal.returns-then-col-to
returns-then-col-to c =
    let s = (goal.at.returns-then-col-to c).Start in
    let row = ended s c.loop-row.row c.loop-row.auto.row c.loop-row.auto.row-end c.loop-row-test.false in
    omega (
      arith,
      c.row_trials-trials-then-col-to.ensures,
      rw row at c.loop-row.invariant.2,
      weighed s (first s),
      weighed s (last s),
    )

pub returns-else-col-to : goal.returns-else-col-to
returns-else-col-to c =
    let s = (goal.at.returns-else-col-to c).Start in
    let row = ended s c.loop-row.row c.loop-row.auto.row c.loop-row.auto.row-end c.loop-row-test.false in
    let (_, before, count) = rw row at c.loop-row.invariant in
    let col : c.loop-row.col ≡ c.args.to.col = omega (arith, before) in
    omega (arith, rw col at count, weighed s (first s), weighed s (last s))
