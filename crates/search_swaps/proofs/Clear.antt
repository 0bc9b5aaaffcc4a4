-- Rows in which every trial fails hold no partner that lowers E: what the quick tests show of the trials.
--   judged_tabled  the table of a judged plate is what they ask for
--   offset_near    the offsets that the code holds are within reach
--   none_lowers    of one cell, in the rows around it
--   run_failed     of a run of cells: every trial at each of them fails
--   run_locked     of a run of locked cells
use mathlib.Core.Bool.{Bool, true, false, not, ◌&&◌}
use mathlib.Core.List.{List, [], ◌∷◌}
use mathlib.Core.Path.{◌≡◌, refl, sym, ◌∙◌, subst}
use Prim.Native.Nat.{ℕ, ◌+◌, ◌*◌, ◌-◌, ◌≤◌, ◌<◌}
use native.Mathlib.Omega.{arith}
use borrow.Author.Tests.{le-leb}
use lib.IntN.{ℤ, pos, negsuc, nat_abs, ◌-ℤ◌}
use lib.ListN.{length, get_or}
use Rattle.algebra.proofs.Grid.{cell<, cell_row, cell_column}
use Rattle.algebra.proofs.Order.{read≡}
use Rattle.algebra.proofs.Solver.{reify}
use Rattle.model.specs.declared.Cell.{Cell}
use Rattle.model.specs.declared.Measures.{Measures}
use Rattle.model.specs.Change.{swap, lowers}
use Rattle.model.specs.Error.{Target, target_for, cell_at}
use Rattle.model.specs.Lock.{locked}
use Rattle.model.specs.Partners.{Offset, lands, partner, Within}
use Rattle.invariants.specs.Partners.{offset_of, biased, row_of, column_of, worth_at, HoldsOffsets, HoldsWorths}
use Rattle.invariants.specs.Plate.{Judged, OnPlate, cell_of}
use Rattle.invariants.specs.Trials.{lowers_at, takes_by, Failed}
use Rattle.invariants.proofs.Plate.{judged_small}
use Rattle.invariants.proofs.Trials.{failed_all}
use Rattle.model.proofs.Partners.{entry_within}
use Rattle.search_prune.specs.Grid.{row_length, worth_in, GridFits, RowsClear}
use Rattle.search_prune.proofs.Grid.{row_length_fits}
use Rattle.search_runs.specs.Run.{Tabled, Fails, CellsClear, RunLocked}
use Rattle.search_swaps.proofs.Partner.{landed, stands, trial_is}

-- the table of a judged plate is what a quick test asks for
pub judged_tabled : {m : Measures} {psf gray : List ℕ} {c : List ℤ} {dots : List ℕ} {table : List ℤ}
    → Judged m psf gray c dots table → Tabled dots table
judged_tabled j =
    let f = j.plate.halftone in
    record { long = f.table_length ∙ sym f.dots_length; small = judged_small j }

-- a coordinate within reach, 6 added
near_by : (q d : ℕ) → nat_abs (pos d -ℤ pos 6) ≤ q → (6 ≤ d + q) × (d ≤ 6 + q)
near_by q d h = go (pos d -ℤ pos 6) refl h
  where
    go : (z : ℤ) → pos d -ℤ pos 6 ≡ z → nat_abs z ≤ q → (6 ≤ d + q) × (d ≤ 6 + q)
    go (pos n) e h =
        let f = read≡ (pos d ∷ pos n ∷ []) (search reify depth 40) e in (omega (arith, f), omega (arith, f))
    go (negsuc n) e h =
        let f = read≡ (pos d ∷ negsuc n ∷ []) (search reify depth 40) e in (omega (arith, f), omega (arith, f))

-- the offsets that the code holds are within reach
pub offset_near : {reach : ℕ} {codes : List ℕ} → HoldsOffsets reach codes → reach ≤ 6 → (k : ℕ) → k < length codes
    → (let code : ℕ = get_or codes k 0 in
    ((6 ≤ row_of code + reach) × (row_of code ≤ 6 + reach))
    × ((6 ≤ column_of code + reach) × (column_of code ≤ 6 + reach)))
offset_near {reach} held q k h =
    let w = subst (Within reach) (held.at k h) (entry_within reach k q (omega (arith, held.long))) in
    (near_by reach _ w.rows, near_by reach _ w.columns)

-- what the entry of an offset within reach is
entry_is : (r : ℕ) (c : List ℤ) (reach : ℕ) (grid : List ℤ) → GridFits r c reach grid → (down right : ℕ)
    → (6 ≤ down + reach) × (down ≤ 6 + reach) → (6 ≤ right + reach) × (right ≤ 6 + reach)
    → get_or grid ((down + reach - 6) * row_length reach + (right + reach - 6)) (pos 0) ≡ worth_at r c down right
unfolding worth_in
entry_is r c reach grid g down right y x =
    let side = row_length reach in
    let j = down + reach - 6 in
    let i = right + reach - 6 in
    let short : i < side = omega (arith, row_length_fits g.near) in
    let low : j < 2 * reach + 1 = omega arith in
    let row : j + 6 - reach ≡ down = omega (arith, g.near) in
    let column : i + 6 - reach ≡ right = omega (arith, g.near) in
    g.at (j * side + i) (cell< low short)
    ∙ rw (cell_row {y = j} short, cell_column j short, le-leb i (2 * reach) (omega arith), row, column) refl

-- ---- the partner at an offset is not taken
-- where a trial fails by the table it is not taken, whatever is locked
still_fails : (gray dots : List ℕ) (table : List ℤ) (m n : ℕ) (worth : ℤ) → Fails dots table m n worth
    → takes_by gray dots table m n worth ≡ false
still_fails gray dots table m n worth e = rw e (go (locked gray m) (locked gray n))
  where
    go : (a b : Bool) → not a && (not b && false) ≡ false
    go true b = refl
    go false true = refl
    go false false = refl

module _ {m : Measures} {psf gray : List ℕ} {c : List ℤ} {dots : List ℕ} {table : List ℤ}
    (j : Judged m psf gray c dots table) {at : Cell} (on : OnPlate m at) where
  abbrev Missed : ℕ → ℕ → Type 0
  Missed down right = lowers_at (target_for m psf gray) dots (cell_of m.width at) (biased down right) ≡ false

  -- where the trial by the table fails if the partner lands
  by_table : (down right : ℕ)
      → (6 ≤ at.row + down → 6 ≤ at.col + right → at.row + down - 6 < m.height
      → Fails dots table (cell_of m.width at) (cell_at m.width (at.row + down - 6) (at.col + right - 6))
      (worth_at m.radius c down right))
      → Missed down right
  by_table down right fails = go (lands m.width m.height (cell_of m.width at) (biased down right)) refl
    where
      go : (b : Bool) → lands m.width m.height (cell_of m.width at) (biased down right) ≡ b → Missed down right
      go false l = rw l refl
      go true l =
          let ((top, first), (bottom, last))
          = landed m.width m.height at.row at.col on.col_below down right l in
          sym (trial_is j on down right l
          (sym (stands m.width m.height at.row at.col on.col_below down right l)) refl
          (sym (still_fails gray dots table _ _ _ (fails top first bottom))))

  -- in rows where every trial fails
  pub none_lowers : {reach : ℕ} {grid : List ℤ} → GridFits m.radius c reach grid
      → RowsClear m.width m.height reach dots table grid at.row at.col → (down right : ℕ)
      → (6 ≤ down + reach) × (down ≤ 6 + reach) → (6 ≤ right + reach) × (right ≤ 6 + reach)
      → lowers_at (target_for m psf gray) dots (cell_of m.width at) (biased down right) ≡ false
  none_lowers {reach} {grid} g clear down right y x =
      by_table down right (λ top first bottom.
      let row_is : at.row + (down + reach - 6) - reach ≡ at.row + down - 6 = omega arith in
      let column_is : at.col + (right + reach - 6) - reach ≡ at.col + right - 6 = omega arith in
      rw (row_is, column_is, entry_is m.radius c reach grid g down right y x) at
      (clear.each (down + reach - 6) (right + reach - 6)
      (omega arith) (omega (arith, row_length_fits g.near)) (omega arith) (omega arith) (omega arith)))

-- ---- in a run of cells where every trial fails: no partner is taken at any
pub run_failed : {m : Measures} {psf gray : List ℕ} {c : List ℤ} {dots : List ℕ} {table : List ℤ}
    → Judged m psf gray c dots table → {at : Cell} → OnPlate m at → {reach : ℕ} {codes : List ℕ} {worths : List ℤ}
    → HoldsOffsets reach codes → HoldsWorths m.radius c codes worths → {run : ℕ} → at.col + run ≤ m.width
    → CellsClear m.width dots table codes worths at.row at.col run
    → (i : ℕ) → i < run → Failed (target_for m psf gray) reach dots (cell_of m.width at + i) (length codes)
run_failed {m} {psf} {gray} {dots} j {at} on {reach} {codes} held worth short clear i l =
    subst (λ q. Failed (target_for m psf gray) reach dots q (length codes)) (sym there)
    (failed_all (target_for m psf gray) held dots (cell_at m.width at.row (at.col + i)) (λ k h.
    by_table j (record { row_below = on.row_below; col_below = omega arith }) (row_of (get_or codes k 0))
    (column_of (get_or codes k 0))
    (λ top first bottom. rw (there, worth.at k h) at ((clear.at k h).each i l top first))))
  where
    there : cell_of m.width at + i ≡ cell_at m.width at.row (at.col + i)
    there = omega arith

-- ---- nor at any locked cell
locked_fails : (t : Target) (dots : List ℕ) (m : ℕ) (o : Offset) → locked t.gray m ≡ true → lowers_at t dots m o ≡ false
locked_fails t dots m o e = rw e (go (lands t.width t.height m o))
  where
    go : (b : Bool) → (b && false) && lowers t dots (swap dots m (partner t.width m o)) ≡ false
    go true = refl
    go false = refl

pub run_locked : (t : Target) {reach : ℕ} {codes : List ℕ} → HoldsOffsets reach codes → (dots : List ℕ) {from n : ℕ}
    → RunLocked t.gray from n → (i : ℕ) → i < n → Failed t reach dots (from + i) (length codes)
run_locked t {codes} held dots {from} run i h =
    failed_all t held dots (from + i) (λ k l.
    locked_fails t dots (from + i) (offset_of (get_or codes k 0)) (run.each i h))
