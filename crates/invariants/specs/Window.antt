-- The window update: what adding a kernel, times an amount, around one cell does to a table, and many of them one by
-- one; and a list that holds the kernel c.
use Rattle.std.specs.Prelude.{List, ◌≡◌, ℕ, ◌+◌, ◌*◌, ◌/◌, ◌%◌, ◌≤◌, ℤ, pos, nat_abs, ◌+ℤ◌, ◌-ℤ◌, ◌*ℤ◌, length, get_or}
use Rattle.algebra.specs.Sum.{sum_to}
use Rattle.model.specs.Basic.{tabulate, square_at}
use Rattle.model.specs.Psf.{autocorrelation}

module _ (width R : ℕ) (c : List ℤ) where
  -- c(q - m), where m stands at (row, col) and c is a square of reach R
  abbrev pub gain : (row col q : ℕ) → ℤ
  gain row col q = square_at (pos 0) R c (pos (q / width) -ℤ pos row) (pos (q % width) -ℤ pos col)

  -- every cell q of the table gains amount × c(q - m)
  unfoldable pub add_window : (amount : ℤ) (row col : ℕ) → List ℤ → List ℤ
  add_window amount row col t = tabulate (length t) (λ q. get_or t q (pos 0) +ℤ amount *ℤ gain row col q)

  -- what the windows of the sources 0 .. n - 1, each with its amount and its place, come to at the cell q
  unfoldable pub scattered : (amount : ℕ → ℤ) (row col : ℕ → ℕ) (n q : ℕ) → ℤ
  scattered amount row col n q = sum_to n (λ i. amount i *ℤ gain (row i) (col i) q)

-- every entry is at most k from 0
pub record Small (k : ℕ) (l : List ℤ) : Type 0 where
  pub each : (q : ℕ) → nat_abs (get_or l q (pos 0)) ≤ k

-- and so is every entry times an amount
pub record Scaled (k : ℕ) (amount : ℤ) (l : List ℤ) : Type 0 where
  pub each : (q : ℕ) → nat_abs (amount *ℤ get_or l q (pos 0)) ≤ k

-- the largest size of a kernel entry: 1,024²
abbrev pub most_kernel : ℕ
most_kernel = 1048576

-- the largest size of 255 × (P - c): twice that, times 255
abbrev pub most_worth : ℕ
most_worth = 534773760

-- small numbers in a square of reach 2r at the front of a list
pub record HoldsSquare (r : ℕ) (c : List ℤ) : Type 0 where
  pub near : r ≤ 3
  pub long : (4 * r + 1) * (4 * r + 1) ≤ length c
  pub small : Small most_kernel c

-- c at every offset, in a square of reach 2r at the front of a list
pub record HoldsKernel (r : ℕ) (psf : List ℕ) (c : List ℤ) : Type 0 where
  pub long : (4 * r + 1) * (4 * r + 1) ≤ length c
  pub small : Small most_kernel c
  pub at : (dy dx : ℤ) → square_at (pos 0) (2 * r) c dy dx ≡ autocorrelation r psf dy dx
