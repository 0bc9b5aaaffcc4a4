-- The cells of a grid of W columns, row by row: cell y × W + x stands in row y and column x.
--   cell_row, cell_column  its row and its column
--   rows_apart             a row further down starts a whole row later
--   cell<                  a row and a column of the grid give one of its cells
--   row<, column<          a cell stands in one of its rows and columns
use mathlib.Core.Path.{◌≡◌, ◌∙◌}
use Prim.Native.Nat.{ℕ, ◌+◌, ◌*◌, ◌/◌, ◌%◌, ◌≤◌, ◌<◌}
use native.Mathlib.Nat as NatL
use native.Mathlib.Omega.{arith}

pub cell_row : {y x W : ℕ} → x < W → (y * W + x) / W ≡ y
cell_row {y} {x} {W} h = NatL.mul-add-div_right (omega arith) y x ∙ rw (NatL.div-eq_of_lt h) (NatL.add-zero y)

pub cell_column : (y : ℕ) {x W : ℕ} → x < W → (y * W + x) % W ≡ x
cell_column y {x} {W} h = NatL.mul-add-mod_self_right y W x ∙ NatL.mod-eq_of_lt h

-- a row further down starts a whole row later
pub rows_apart : {y v : ℕ} (W : ℕ) → y < v → y * W + W ≤ v * W
rows_apart W h = rw NatL.suc-mul at (NatL.mul-le-mul_right W h)

pub cell< : {y x H W : ℕ} → y < H → x < W → y * W + x < H * W
cell< {W} h k = omega (arith, rows_apart W h)

-- a cell's row and column
pub row< : (m : ℕ) {H W : ℕ} → 0 < W → m < H * W → m / W < H
row< m w h = (NatL.div-lt_iff_lt-mul w).1 h

pub column< : (m : ℕ) {W : ℕ} → 0 < W → m % W < W
column< m w = NatL.mod-lt m w
