-- What the quick tests of runs are handed, and what it means that a trial fails, that no toggle in a run of cells is
-- accepted, that none of them swaps with a partner, and that each is locked.
use Rattle.std.specs.Prelude.{true, false, List, ◌≡◌, ℕ, ◌+◌, ◌-◌, ◌≤◌, ◌<◌, ℤ, pos, length, get_or}
use Rattle.std.specs.Int.Signed.{lt_z}
use Rattle.model.specs.Change.{sign, toggle_sum}
use Rattle.model.specs.Error.{cell_at, most_filtered}
use Rattle.model.specs.Lock.{locked}
use Rattle.invariants.specs.Partners.{row_of, column_of}
use Rattle.invariants.specs.Trials.{lowers_by}
use Rattle.invariants.specs.Window.{Small}

-- dots with a table of small numbers, one for each
pub record Tabled (dots : List ℕ) (table : List ℤ) : Type 0 where
  pub long : length table ≡ length dots
  pub small : Small most_filtered table

-- a trial of the cells m and n, by the table: their dots are alike, or s(m) × (T(m) - T(n)) + worth is not below 0
abbrev pub Fails : (dots : List ℕ) (table : List ℤ) (m n : ℕ) (worth : ℤ) → Type 0
Fails dots table m n worth = lowers_by dots table m n worth ≡ false

-- what a toggle adds is not below 0 at each of the n cells from `from` on
pub record TogglesClear (peak : ℤ) (dots : List ℕ) (table : List ℤ) (from n : ℕ) : Type 0 where
  pub each : (k : ℕ) → k < n
      → lt_z (toggle_sum 255 peak (sign dots (from + k)) (get_or table (from + k) (pos 0))) (pos 0) ≡ false

-- the trial of each of the n cells from `from` on with the cell as far from `to` fails, the offset being worth that
pub record SwapsClear (dots : List ℕ) (table : List ℤ) (worth : ℤ) (from to n : ℕ) : Type 0 where
  pub each : (k : ℕ) → k < n → Fails dots table (from + k) (to + k) worth

-- the trial of each of the n cells of a row from (row, col) on with its partner at the offset of that code fails, where
-- the partner is neither above the plate nor left of it
pub record OffsetClear (width : ℕ) (dots : List ℕ) (table : List ℤ) (code : ℕ) (worth : ℤ) (row col n : ℕ)
    : Type 0 where
  pub each : (k : ℕ) → k < n → 6 ≤ row + row_of code → 6 ≤ col + k + column_of code
      → Fails dots table (cell_at width row col + k)
      (cell_at width (row + row_of code - 6) (col + k + column_of code - 6)) worth

-- so it is at each of the offsets
pub record CellsClear (width : ℕ) (dots : List ℕ) (table : List ℤ) (codes : List ℕ) (worths : List ℤ)
    (row col n : ℕ) : Type 0 where
  pub at : (j : ℕ) → j < length codes → OffsetClear width dots table (get_or codes j 0) (get_or worths j (pos 0)) row col n

-- each of the n cells from `from` on is locked
pub record RunLocked (gray : List ℕ) (from n : ℕ) : Type 0 where
  pub each : (k : ℕ) → k < n → locked gray (from + k) ≡ true
