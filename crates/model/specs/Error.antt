-- The sums of document 01 over a halftone: the error e of a cell, the filtered error T (01: the table), the squared
-- error E, and the perceived error (01: the spread-out error). Cell n stands at row n / width, column n % width.
use Rattle.std.specs.Prelude.{List, ℕ, ◌+◌, ◌*◌, ◌/◌, ◌%◌, ℤ, pos, neg_ℤ, ◌-ℤ◌, ◌*ℤ◌, get_or, length, ◌≡◌}
use Rattle.algebra.specs.Sum.{sum_to, sum_from}
use Rattle.model.specs.declared.Measures.{Measures}
use Rattle.model.specs.Basic.{tabulate, AtMost}
use Rattle.model.specs.Psf.{psf_at, autocorrelation}

-- what a halftone is held against: the size of the plate, the psf, the gray, the step that one dot is worth, and the
-- highest dot byte
pub record Target : Type 0 where
  pub width : ℕ
  pub height : ℕ
  pub radius : ℕ
  pub psf : List ℕ
  pub gray : List ℕ
  pub step : ℕ
  pub top : ℕ

-- the target of document 01, where a dot byte is 0 or 1 and a dot is worth 255
abbrev pub target_of : ℕ → ℕ → ℕ → List ℕ → List ℕ → Target
target_of w h r psf gray = record { width = w; height = h; radius = r; psf = psf; gray = gray; step = 255; top = 1 }

-- the same by all the measures
abbrev pub target_for : Measures → List ℕ → List ℕ → Target
target_for m psf gray = target_of m.width m.height m.radius psf gray

-- gray is 0 (01: paper) to 255 (01: black)
abbrev pub black : ℕ
black = 255

-- the error of cell n: step × dot - gray
abbrev pub error_of : (step : ℕ) (gray dots : List ℕ) → ℕ → ℤ
error_of step gray dots n = pos step *ℤ pos (get_or dots n 0) -ℤ pos (get_or gray n 0)

-- the cell at a row and a column
abbrev pub cell_at : (width row col : ℕ) → ℕ
cell_at width row col = row * width + col

-- the largest size of a table entry: 255 × 1,024²
abbrev pub most_filtered : ℕ
most_filtered = 267386880

-- the most cells of a plate: 256²
abbrev pub most_cells : ℕ
most_cells = 65536

-- the largest E: 256² cells, each at most 255 × 267,386,880
abbrev pub most_squared : ℕ
most_squared = 4468483974758400

module _ (t : Target) where
  abbrev pub cells : ℕ
  cells = t.height * t.width

  abbrev pub row : ℕ → ℤ
  row n = pos (n / t.width)

  abbrev pub column : ℕ → ℤ
  column n = pos (n % t.width)

  -- c(n - m)
  unfoldable pub kernel : ℕ → ℕ → ℤ
  kernel n m = autocorrelation t.radius t.psf (row n -ℤ row m) (column n -ℤ column m)

  module _ (dots : List ℕ) where
    -- e(n) = 255 × dot - gray
    unfoldable pub error : ℕ → ℤ
    error n = error_of t.step t.gray dots n

    -- T(m) = Σₙ c(n - m) × e(n), over all cells n
    unfoldable pub filtered_error : ℕ → ℤ
    filtered_error m = sum_to cells (λ n. kernel n m *ℤ error n)

    -- the table
    unfoldable pub filtered_errors : List ℤ
    filtered_errors = tabulate cells filtered_error

    -- E = Σₘ e(m) × T(m)
    unfoldable pub squared_error : ℤ
    squared_error = sum_to cells (λ m. error m *ℤ filtered_error m)

    -- the error as the psf spreads it to the point (y, x): Σₙ e(n) × p(x - n)
    unfoldable pub perceived_error : ℤ → ℤ → ℤ
    perceived_error y x = sum_to cells (λ n. error n *ℤ psf_at t.radius t.psf (y -ℤ row n) (x -ℤ column n))

    -- the sum of its squares over the cells of the plate widened by r on each side
    unfoldable pub perceived_squares : ℤ
    perceived_squares =
        sum_from (neg_ℤ (pos t.radius)) (t.height + 2 * t.radius) (λ y.
        sum_from (neg_ℤ (pos t.radius)) (t.width + 2 * t.radius) (λ x. perceived_error y x *ℤ perceived_error y x))

-- dots for a target (01: the dots of a plate): a byte for each cell, at most the highest
pub record Halftone (t : Target) (dots : List ℕ) : Type 0 where
  pub long : length dots ≡ cells t
  pub bits : AtMost t.top dots
