-- What the offsets within reach are worth, laid out in rows, and what it means that every trial in them fails. The
-- rows may be longer than the reach asks, so that a row is a round number of entries.
use Rattle.std.specs.Prelude.{false, List, ◌≡◌, ℕ, ◌+◌, ◌*◌, ◌-◌, ◌/◌, ◌%◌, ◌≤◌, ◌<◌, leb, ltb, ℤ, pos, ◌+ℤ◌, ◌-ℤ◌, ◌*ℤ◌, length, get_or}
use Rattle.std.specs.Int.Signed.{lt_z}
use Rattle.model.specs.Basic.{pick}
use Rattle.model.specs.Change.{sign_of}
use Rattle.model.specs.Error.{cell_at}
use Rattle.invariants.specs.Partners.{worth_at}
use Rattle.invariants.specs.Window.{Small, most_worth}
use Rattle.search_runs.specs.Run.{Tabled, Fails}

-- how long the rows are: they hold the 2 × reach + 1 entries that are wanted
unfoldable pub row_length : (reach : ℕ) → ℕ
row_length reach = pick (ltb reach 4) 8 16

-- and how long all of them are
abbrev pub grid_size : (reach : ℕ) → ℕ
grid_size reach = (2 * reach + 1) * row_length reach

-- entry q: what the offset (q / length - reach, q % length - reach) is worth, and past the reach a number that no
-- difference of two table entries outweighs
unfoldable pub worth_in : (radius : ℕ) (c : List ℤ) (reach q : ℕ) → ℤ
worth_in radius c reach q =
    pick (leb (q % row_length reach) (2 * reach))
    (worth_at radius c (q / row_length reach + 6 - reach) (q % row_length reach + 6 - reach))
    (pos most_worth)

-- all of them laid
pub record GridFits (radius : ℕ) (c : List ℤ) (reach : ℕ) (grid : List ℤ) : Type 0 where
  pub near : reach ≤ 6
  pub long : length grid ≡ grid_size reach
  pub small : Small most_worth grid
  pub at : (q : ℕ) → q < grid_size reach → get_or grid q (pos 0) ≡ worth_in radius c reach q

-- the sum s × (value - T) + worth is not below 0 with each of the cells whose entries T are listed, a worth for each, where
-- s is that of a cell with that dot byte
pub record SumsClear (dot : ℕ) (value : ℤ) (others worths : List ℤ) : Type 0 where
  pub each : (k : ℕ) → k < length others
      → lt_z (sign_of dot *ℤ (value -ℤ get_or others k (pos 0)) +ℤ get_or worths k (pos 0)) (pos 0) ≡ false

module _ (dots : List ℕ) (table worths : List ℤ) (m from : ℕ) where
  -- m can be tried with each of the cells from `from` on, as many as there are worths
  pub record RunTest : Type 0 where
    pub tabled : Tabled dots table
    pub here : m < length dots
    pub there : from + length worths ≤ length dots
    pub small : Small most_worth worths

  -- each such trial fails
  pub record RunClear : Type 0 where
    pub each : (k : ℕ) → k < length worths → Fails dots table m (from + k) (get_or worths k (pos 0))

-- so it is with each cell in the rows above `bottom` whose offset from (row, col) is (j - reach, i - reach)
pub record RowsClear (width bottom reach : ℕ) (dots : List ℕ) (table grid : List ℤ) (row col : ℕ) : Type 0 where
  pub each : (j i : ℕ) → j ≤ 2 * reach → i < row_length reach → reach ≤ row + j → row + j < bottom + reach
      → reach ≤ col + i
      → Fails dots table (cell_at width row col) (cell_at width (row + j - reach) (col + i - reach))
      (get_or grid (j * row_length reach + i) (pos 0))
