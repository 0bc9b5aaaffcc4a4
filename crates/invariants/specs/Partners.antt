-- The offsets of a swap scan as the code holds them: a byte for each, its row and its column, each with 6 added, as the
-- two digits of base 16; and what each offset is worth.
use Rattle.std.specs.Prelude.{List, ◌≡◌, ℕ, ◌*◌, ◌/◌, ◌%◌, ◌≤◌, ◌<◌, ℤ, pos, ◌-ℤ◌, ◌*ℤ◌, length, get_or}
use Rattle.model.specs.Basic.{square_at}
use Rattle.model.specs.Partners.{Offset, offsets}

-- an offset by its coordinates, each with 6 added
abbrev pub biased : (down right : ℕ) → Offset
biased down right = record { down = pos down -ℤ pos 6; right = pos right -ℤ pos 6 }

-- its row and its column, each with 6 added, in the byte
abbrev pub row_of : ℕ → ℕ
row_of code = code / 16

abbrev pub column_of : ℕ → ℕ
column_of code = code % 16

-- the offset of a byte
abbrev pub offset_of : ℕ → Offset
offset_of code = biased (row_of code) (column_of code)

-- the byte of (0,0)
abbrev pub itself : ℕ
itself = 102

-- a list holds the offsets within reach, in document 01's order
pub record HoldsOffsets (reach : ℕ) (codes : List ℕ) : Type 0 where
  pub long : length codes ≡ length (offsets reach)
  pub near : (k : ℕ) → k < length codes → (row_of (get_or codes k 0) ≤ 12) × (column_of (get_or codes k 0) ≤ 12)
  pub at : (k : ℕ) → k < length codes → get_or (offsets reach) k (offset_of itself) ≡ offset_of (get_or codes k 0)

-- 255 × (P - c) at such an offset, from the kernel
abbrev pub worth_at : (radius : ℕ) (c : List ℤ) (down right : ℕ) → ℤ
worth_at radius c down right =
    pos 255
    *ℤ (square_at (pos 0) (2 * radius) c (pos 0) (pos 0)
    -ℤ square_at (pos 0) (2 * radius) c (pos 6 -ℤ pos down) (pos 6 -ℤ pos right))

-- and a list that holds it for each
pub record HoldsWorths (radius : ℕ) (c : List ℤ) (codes : List ℕ) (worths : List ℤ) : Type 0 where
  pub long : length worths ≡ length codes
  pub at : (k : ℕ) → k < length codes
      → get_or worths k (pos 0) ≡ worth_at radius c (row_of (get_or codes k 0)) (column_of (get_or codes k 0))
