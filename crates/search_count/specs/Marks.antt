-- What the counting of swaps adds up: a mark for each unlocked cell that holds one kind of dot, the marks of each
-- column within reach of a row, and those within reach of a cell.
use Rattle.std.specs.Prelude.{◌&&◌, not, List, ◌≡◌, ℕ, ◌+◌, ◌*◌, ◌-◌, ◌/◌, ◌%◌, ◌≤◌, eqb, leb, ltb, length, get_or}
use Rattle.model.specs.declared.Measures.{Measures}
use Rattle.model.specs.Basic.{pick, one_if, tabulate}
use Rattle.model.specs.Error.{cell_at}
use Rattle.model.specs.Lock.{locked_gray}
use Rattle.model.specs.Psf.{total}

-- a plate as the functions of this crate are handed it
pub record Sized (m : Measures) (gray dots : List ℕ) : Type 0 where
  pub wide : m.width ≤ 256
  pub high : m.height ≤ 256
  pub near : m.reach ≤ 6
  pub gray_long : length gray ≡ m.height * m.width
  pub dots_long : length dots ≡ m.height * m.width

-- 1 where a cell of that gray is unlocked and holds the dot, else 0
unfoldable pub mark_of : (gray here dot : ℕ) → ℕ
mark_of gray here dot = one_if (not (locked_gray gray) && eqb here dot)

-- of cell n
abbrev pub mark : (gray dots : List ℕ) (dot n : ℕ) → ℕ
mark gray dots dot n = mark_of (get_or gray n 0) (get_or dots n 0) dot

-- the first n values of f put from a place on, and 0 elsewhere
unfoldable pub placed : (at n : ℕ) (f : ℕ → ℕ) → ℕ → ℕ
placed at n f p = pick (leb at p && ltb p (at + n)) (f (p - at)) 0

-- each place gains so much
pub record Gains (g : ℕ → ℕ) (before after : List ℕ) : Type 0 where
  pub long : length after ≡ length before
  pub each : (p : ℕ) → get_or after p 0 ≡ get_or before p 0 + g p

-- each place holds so much
pub record Counts (f : ℕ → ℕ) (l : List ℕ) : Type 0 where
  pub each : (p : ℕ) → get_or l p 0 ≡ f p

-- n columns from place x on
abbrev pub window_at : (columns : List ℕ) (n x : ℕ) → ℕ
window_at columns n x = total (tabulate n (λ i. get_or columns (x + i) 0))

-- those, for each of the first x cells from `first` on that is marked
abbrev pub slid : (gray dots : List ℕ) (dot first : ℕ) (columns : List ℕ) (n x : ℕ) → ℕ
slid gray dots dot first columns n x =
    total (tabulate x (λ i. mark gray dots dot (first + i) * window_at columns n i))

module _ (m : Measures) (gray dots : List ℕ) where
  module _ (dot : ℕ) where
    -- the mark in row Y and column X of the plate widened by the reach on each side
    abbrev pub widened : (Y X : ℕ) → ℕ
    widened Y X =
        placed m.reach m.height (λ y.
        placed m.reach m.width (λ x. mark gray dots dot (y * m.width + x)) X) Y

    -- the marks of a column of it within reach of row y
    abbrev pub column_marks : (y X : ℕ) → ℕ
    column_marks y X = total (tabulate (2 * m.reach + 1) (λ j. widened (y + j) X))

    -- the marks within reach of row y and column x
    abbrev pub around : (y x : ℕ) → ℕ
    around y x = total (tabulate (2 * m.reach + 1) (λ i. column_marks y (x + i)))

  -- at the first n cells of row y that are marked for the dot, those of the other dot around
  abbrev pub kind_trials : (dot y n : ℕ) → ℕ
  kind_trials dot y n =
      total (tabulate n (λ x. mark gray dots dot (y * m.width + x) * around (1 - dot) y x))

  -- at row y and column x, the unlike dots around
  abbrev pub unlike_at : (y x : ℕ) → ℕ
  unlike_at y x =
      mark gray dots 0 (cell_at m.width y x) * around 1 y x
      + mark gray dots 1 (cell_at m.width y x) * around 0 y x

  -- at the first n cells
  abbrev pub marked_trials : ℕ → ℕ
  marked_trials n = total (tabulate n (λ k. unlike_at (k / m.width) (k % m.width)))
