-- Counting a row byte by byte.
--   ones_left               the ones of a byte, its spare bits shifted out
--   count_none, count_next  the dots of the cells passed, after a byte more
use mathlib.Core.List.{List}
use mathlib.Core.Path.{◌≡◌, sym, ◌∙◌, ap, ap₂}
use Prim.Native.Nat.{ℕ, zero, suc, ◌+◌, ◌*◌, ◌-◌, ◌/◌, ◌^◌, ◌≤◌, ◌<◌, min}
use native.Mathlib.Nat.{pow-succ'}
use native.Mathlib.Omega.{arith}
use lib.Count.{ones, ones_step}
use lib.ListN.{get_or}
use lib.Pow.{shr_lt}
use Rattle.model.specs.Basic.{tabulate, bit}
use Rattle.model.specs.Psf.{total}
use Rattle.model.specs.Netpbm.{row_bytes, bit_at}
use Rattle.model.proofs.Basic.{tabulate-cong}
use Rattle.model.proofs.Raster.{bit_shift, higher_bit, lowest_bit}
use Rattle.model.proofs.Tables.{tabulate_part, total_append, total_tabulate}
use Rattle.picture_raster.proofs.Bytes.{cell_of}

-- ---- the set bits of a number of k bits
ones_bits : (k n : ℕ) → n < 2 ^ k → ones n ≡ total (tabulate k (λ i. bit (k - suc i) n))
unfolding ones tabulate total
ones_bits zero n h = let none : n ≡ 0 = omega arith in ap ones none
ones_bits (suc k) n h =
    let half : n / 2 < 2 ^ k = omega (arith, pow-succ' 2 k) in
    let same = ap total (tabulate-cong k (λ i l. higher_bit k i n l)) in
    let next = total_tabulate k (λ i. bit (suc k - suc i) n) in
    omega (arith, ones_step n, ones_bits k (n / 2) half, lowest_bit k n)

-- of a byte whose spare bits are shifted out
pub ones_left : (b left : ℕ) → b < 256 → left ≤ 8
    → ones (b / 2 ^ (8 - left)) ≡ total (tabulate left (λ i. bit (7 - i) b))
ones_left b left h l =
    let all : left + (8 - left) ≡ 8 = omega arith in
    let few : b < 2 ^ (left + (8 - left)) = rw all h in
    ones_bits left (b / 2 ^ (8 - left)) (shr_lt left (8 - left) few)
    ∙ ap total (tabulate-cong left (λ i k. bit_shift (left - suc i) (8 - left) b ∙ ap (λ j. bit j b) (place i k)))
  where
    place : (i : ℕ) → i < left → 8 - left + (left - suc i) ≡ 7 - i
    place i k = omega arith

-- ---- a row, after the cells of byte j
pub count_none : (w : ℕ) (f : ℕ → ℕ) → 0 ≡ total (tabulate (min (8 * 0) w) f)
unfolding tabulate total
count_none w f = let none : 0 ≡ min (8 * 0) w = omega arith in ap (λ k. total (tabulate k f)) none

module _ (w : ℕ) (raster : List ℕ) (row j : ℕ) (more : 8 * j < w) where
  pub count_next : {n r b : ℕ} → n ≡ total (tabulate (min (8 * j) w) (bit_at w raster row))
      → b ≡ get_or raster (row * row_bytes w + j) 0 → r ≡ total (tabulate (min (w - 8 * j) 8) (λ i. bit (7 - i) b))
      → n + r ≡ total (tabulate (min (8 * (j + 1)) w) (bit_at w raster row))
  count_next {n} {r} {b} p e count =
      let f = bit_at w raster row in
      let m = min (w - 8 * j) 8 in
      let passed : min (8 * j) w ≡ 8 * j = omega arith in
      let next : 8 * j + m ≡ min (8 * (j + 1)) w = omega arith in
      let part : r ≡ total (tabulate m (λ i. f (8 * j + i))) =
      count ∙ ap total (tabulate-cong m (λ i h. ap (bit (7 - i)) e ∙ cell_of w raster row j more i (omega arith))) in
      ap₂ (λ a c. a + c) (p ∙ ap (λ k. total (tabulate k f)) passed) part
      ∙ sym (ap total (tabulate_part f (8 * j) m) ∙ total_append (tabulate (8 * j) f) (tabulate m (λ i. f (8 * j + i))))
      ∙ ap (λ k. total (tabulate k f)) next
