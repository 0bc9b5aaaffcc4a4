-- What the sums over the cells of a plate are handed, and what they come to.
use Rattle.std.specs.Prelude.{List, ◌≡◌, ℕ, ◌≤◌, ℤ, pos, ◌*ℤ◌, length, get_or}
use Rattle.algebra.specs.Sum.{sum_to}
use Rattle.model.specs.Basic.{tabulate, AtMost}
use Rattle.model.specs.Error.{error_of, most_cells}

-- the most cells of a plate widened by r on each side: 262²
abbrev pub most_widened : ℕ
most_widened = 68644

-- gray, dots and another slice of that length, all as long as one another and no longer than the largest plate
pub record SameCells (gray dots : List ℕ) (n : ℕ) : Type 0 where
  pub dots_long : length dots ≡ length gray
  pub long : n ≡ length gray
  pub few : length gray ≤ most_cells
  pub bits : AtMost 1 dots

-- the error of each cell
abbrev pub errors_of : (gray dots : List ℕ) → List ℤ
errors_of gray dots = tabulate (length gray) (error_of 255 gray dots)

-- Σ e(m) × T(m) over the cells, the T(m) being in the table
abbrev pub weighed : (gray dots : List ℕ) (table : List ℤ) → ℤ
weighed gray dots table = sum_to (length gray) (λ m. error_of 255 gray dots m *ℤ get_or table m (pos 0))
