-- The bytes of a row, each with so many of the row's cells left.
--   cell_bit, word_small, byte_packed  the byte as its cells are packed, one after the other
--   cell_of, cells_next                the cells of a byte, and those passed after a byte more
--   negated_tabulate                   bytes negated
use mathlib.Core.List.{List}
use mathlib.Core.Path.{◌≡◌, ◌∙◌, ap, ap₂}
use Prim.Native.Nat.{ℕ, ◌+◌, ◌*◌, ◌-◌, ◌/◌, ◌%◌, ◌≤◌, ◌<◌, min}
use native.Mathlib.Nat.{add_assoc, lt_of_lt_of_le}
use native.Mathlib.Decide.{dec_lt}
use native.Mathlib.Omega.{arith}
use borrow.Author.Tests.{lt-ltb, le-ltb}
use lib.Dec.{ltb}
use lib.ListN.{length, get_or}
use lib.Pow.{pow_mono}
use lib.Seq.{sets}
use Rattle.model.specs.Basic.{pick, tabulate, bit, AtMost}
use Rattle.model.specs.Netpbm.{row_bytes, word_from, packed_byte, bit_at, negated}
use Rattle.model.proofs.Basic.{pick_cases, tabulate-cong, map_tabulate}
use Rattle.model.proofs.Raster.{word<}
use Rattle.model.proofs.Tables.{Put, put_as, put_part}

-- ---- packed
-- cell i of a row that goes on at a place, and 0 past its end
abbrev pub cell_or_spare : (dots : List ℕ) (first left i : ℕ) → ℕ
cell_or_spare dots first left i = pick (ltb i left) (get_or dots (first + i) 0) 0

module _ {dots : List ℕ} (bits : AtMost 1 dots) (first left : ℕ) where
  pub cell_bit : (i : ℕ) → cell_or_spare dots first left i ≤ 1
  cell_bit i = pick_cases (λ d. d ≤ 1) (ltb i left) (λ t. bits.each (first + i)) (λ t. omega arith)

  pub word_small : (i : ℕ) → i < 8 → word_from 0 (tabulate i (cell_or_spare dots first left)) < 128
  word_small i h =
      lt_of_lt_of_le (word< (cell_or_spare dots first left) cell_bit i) (pow_mono {i = i} {j = 7} (omega arith))

ltb_left : (w j i : ℕ) → 8 * j < w → ltb i (w - 8 * j) ≡ ltb (8 * j + i) w
ltb_left w j i h = go (dec_lt i (w - 8 * j))
  where
    go : Dec (i < w - 8 * j) → ltb i (w - 8 * j) ≡ ltb (8 * j + i) w
    go (yes l) = rw (lt-ltb i (w - 8 * j) l, lt-ltb (8 * j + i) w (omega arith))
    go (no l) = rw (le-ltb i (w - 8 * j) (omega arith), le-ltb (8 * j + i) w (omega arith))

pub byte_packed : (dots : List ℕ) (row w j : ℕ) → 8 * j < w
    → word_from 0 (tabulate 8 (cell_or_spare dots (row * w + 8 * j) (w - 8 * j))) ≡ packed_byte w dots row j
unfolding packed_byte
byte_packed dots row w j h =
    ap (word_from 0)
    (tabulate-cong 8 (λ i k. ap₂ (λ t n. pick t (get_or dots n 0) 0) (ltb_left w j i h) (add_assoc (row * w) (8 * j) i)))

-- ---- row by row, after the cells of byte j
module _ (w : ℕ) (raster : List ℕ) (row j : ℕ) (more : 8 * j < w) where
  pub cell_of : (i : ℕ) → i < 8 → bit (7 - i) (get_or raster (row * row_bytes w + j) 0) ≡ bit_at w raster row (8 * j + i)
  unfolding bit_at
  cell_of i h =
      let column : (8 * j + i) % 8 ≡ i = omega arith in
      let byte : (8 * j + i) / 8 ≡ j = omega arith in
      rw (column, byte)

  pub cells_next : {start out after : List ℕ} {at b : ℕ}
      → Put start at (bit_at w raster row) (min (8 * j) w) out → b ≡ get_or raster (row * row_bytes w + j) 0
      → after ≡ sets out (at + 8 * j) (tabulate (min (w - 8 * j) 8) (λ i. bit (7 - i) b))
      → Put start at (bit_at w raster row) (min (8 * (j + 1)) w) after
  cells_next p e put =
      let passed : min (8 * j) w ≡ 8 * j = omega arith in
      let next : 8 * j + min (w - 8 * j) 8 ≡ min (8 * (j + 1)) w = omega arith in
      put_as next (put_part (min (w - 8 * j) 8) (put_as passed p) put
      (λ i h. ap (bit (7 - i)) e ∙ cell_of i (omega arith)))

-- ---- negated
pub negated_tabulate : (l : List ℕ) → negated l ≡ tabulate (length l) (λ k. 255 - get_or l k 0)
unfolding negated
negated_tabulate l = map_tabulate (λ v. 255 - v) 0 l
