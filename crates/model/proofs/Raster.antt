-- Laws of the raster.
--   bit_shift, higher_bit, lowest_bit  the bits of a number by those of its half
--   word_next, word<, word_bit         a word of bits
--   packed_bits, spare_bits            the bit of a cell is its dot, and a spare bit is 0
--   unpacked_packed, negated_twice     what is packed is unpacked, what is negated is negated back
--   row_counts_dots, row_totals_sum    the counts of a raster are the dots per row, and these sum to the dots
--   packed_length, negated_length      how long they are
use mathlib.Core.Path.{◌≡◌, refl, sym, ◌∙◌, ap, ap₂}
use mathlib.Core.List.{List, [], ◌∷◌, ◌++◌}
use Prim.Native.Nat.{ℕ, zero, suc, ◌+◌, ◌*◌, ◌-◌, ◌/◌, ◌%◌, ◌^◌, ◌≤◌, ◌<◌}
use native.Mathlib.Nat.{not-suc-le-zero, le_of_eq, div-div-eq-div-mul, div-add-mod', div-one, pow-succ'}
use native.Mathlib.Nat.{sub_self, suc-mul}
use native.Mathlib.Decide.{ℕ_discrete}
use native.Mathlib.Omega.{arith}
use borrow.Author.Tests.{lt-ltb, le-ltb}
use lib.Dec.{ltb}
use lib.ListN.{length, get_or, take, drop, length-drop, length-map}
use lib.Pow.{pow-add}
use lib.Seq.{length-take-le, take_all, take-add, get_or-take, get_or-drop}
use Rattle.algebra.proofs.Grid.{cell_row, cell_column, cell<, row<, column<, rows_apart}
use Rattle.model.specs.declared.Size.{Size}
use Rattle.model.specs.Basic.{pick, tabulate, bit, AtMost}
use Rattle.model.specs.Psf.{total}
use Rattle.model.specs.Netpbm.{cells_in, row_bytes, packed_size, word_from, packed_byte, packed, bit_at}
use Rattle.model.specs.Netpbm.{unpacked, negated, row_counts, row_totals}
use Rattle.model.proofs.Basic.{pick_cases, at_most_tail, length-tabulate, get_d_tabulate}
use Rattle.model.proofs.Basic.{tabulate-by, tabulate-cong}
use Rattle.model.proofs.Tables.{total_append, total_tabulate}

-- ---- bits
-- the bits of a number that is shifted right
pub bit_shift : (j k n : ℕ) → bit j (n / 2 ^ k) ≡ bit (k + j) n
bit_shift j k n = ap (λ v. v % 2) (div-div-eq-div-mul n (2 ^ k) (2 ^ j) ∙ ap (λ v. n / v) (sym (pow-add 2 k j)))

-- of k + 1 bits, the first the highest: the first k are those of the half
pub higher_bit : (k i n : ℕ) → i < k → bit (suc k - suc i) n ≡ bit (k - suc i) (n / 2)
higher_bit k i n h =
    let e : suc k - suc i ≡ 1 + (k - suc i) = omega arith in
    ap (λ j. bit j n) e ∙ sym (bit_shift (k - suc i) 1 n)

pub lowest_bit : (k n : ℕ) → bit (suc k - suc k) n ≡ n % 2
lowest_bit k n = ap (λ j. bit j n) (sub_self (suc k)) ∙ ap (λ v. v % 2) (div-one n)

-- ---- a word of bits
word_snoc : (n : ℕ) (l : List ℕ) (b : ℕ) → word_from n (l ++ (b ∷ [])) ≡ 2 * word_from n l + b
word_snoc n [] b = refl
word_snoc n (x ∷ l) b = word_snoc (2 * n + x) l b

module _ (f : ℕ → ℕ) where
  pub word_next : (k : ℕ) → word_from 0 (tabulate (suc k) f) ≡ 2 * word_from 0 (tabulate k f) + f k
  unfolding tabulate
  word_next k = word_snoc 0 (tabulate k f) (f k)

  module _ (bits : (i : ℕ) → f i ≤ 1) where
    pub word< : (k : ℕ) → word_from 0 (tabulate k f) < 2 ^ k
    unfolding tabulate
    word< zero = omega arith
    word< (suc k) = rw (word_next k) (omega (arith, word< k, pow-succ' 2 k, bits k))

    pub word_bit : (k i : ℕ) → i < k → bit (k - suc i) (word_from 0 (tabulate k f)) ≡ f i
    word_bit zero i h = absurd (not-suc-le-zero h)
    word_bit (suc k) i h = ap (bit (suc k - suc i)) (word_next k) ∙ go (ℕ_discrete i k) (word_bit k i)
      where
        w : ℕ
        w = word_from 0 (tabulate k f)

        go : Dec (i ≡ k) → (i < k → bit (k - suc i) w ≡ f i) → bit (suc k - suc i) (2 * w + f k) ≡ f i
        go (yes e) ih = rw e (lowest_bit k (2 * w + f k) ∙ omega (arith, bits k))
        go (no e) ih =
            let half : (2 * w + f k) / 2 ≡ w = omega (arith, bits k) in
            higher_bit k i (2 * w + f k) (omega arith) ∙ ap (bit (k - suc i)) half ∙ ih (omega arith)

-- ---- packed
module _ (z : Size) (dots : List ℕ) where
  pub packed_length : length (packed z dots) ≡ packed_size z
  unfolding packed
  packed_length = length-tabulate (packed_size z) _

  byte_of : {row j : ℕ} → row < z.height → j < row_bytes z.width
      → get_or (packed z dots) (row * row_bytes z.width + j) 0 ≡ packed_byte z.width dots row j
  unfolding packed
  byte_of {row} {j} h k =
      get_d_tabulate (packed_size z) _ (row * row_bytes z.width + j) 0 (cell< h k)
      ∙ ap₂ (packed_byte z.width dots) (cell_row {y = row} k) (cell_column row k)

  module _ (bits : AtMost 1 dots) {row col : ℕ} (high : row < z.height) where
    -- every bit of a row, the spare ones too
    bit_of : col < 8 * row_bytes z.width
        → bit_at z.width (packed z dots) row col ≡ pick (ltb col z.width) (get_or dots (row * z.width + col) 0) 0
    unfolding bit_at packed_byte
    bit_of h =
        ap (bit (7 - col % 8)) (byte_of high (omega arith))
        ∙ ap (λ i. bit i (word_from 0 (tabulate 8 cell))) place
        ∙ word_bit cell cell_bit 8 (col % 8) (omega arith)
        ∙ ap at column
      where
        at : ℕ → ℕ
        at x = pick (ltb x z.width) (get_or dots (row * z.width + x) 0) 0

        cell : ℕ → ℕ
        cell i = at (8 * (col / 8) + i)

        cell_bit : (i : ℕ) → cell i ≤ 1
        cell_bit i =
            pick_cases (λ d. d ≤ 1) (ltb (8 * (col / 8) + i) z.width) (λ t. bits.each _) (λ t. omega arith)

        place : 7 - col % 8 ≡ 8 - suc (col % 8)
        place = omega arith

        column : 8 * (col / 8) + col % 8 ≡ col
        column = omega arith

    pub packed_bits : col < z.width → bit_at z.width (packed z dots) row col ≡ get_or dots (row * z.width + col) 0
    packed_bits h = bit_of (omega arith) ∙ rw (lt-ltb col z.width h)

    pub spare_bits : z.width ≤ col → col < 8 * row_bytes z.width → bit_at z.width (packed z dots) row col ≡ 0
    spare_bits h k = bit_of k ∙ rw (le-ltb col z.width h)

-- ---- unpacked
pub unpacked_packed : (z : Size) (dots : List ℕ) → 1 ≤ z.width → length dots ≡ cells_in z → AtMost 1 dots
    → unpacked z (packed z dots) ≡ dots
unfolding unpacked
unpacked_packed z dots wide e bits = sym (tabulate-by 0 (cells_in z) _ dots e same)
  where
    same : (n : ℕ) → n < cells_in z → get_or dots n 0 ≡ bit_at z.width (packed z dots) (n / z.width) (n % z.width)
    same n h =
        ap (λ k. get_or dots k 0) (sym (div-add-mod' n z.width))
        ∙ sym (packed_bits z dots bits (row< n wide h) (column< n wide))

-- ---- negated
pub negated_length : (l : List ℕ) → length (negated l) ≡ length l
unfolding negated
negated_length l = length-map l _

pub negated_twice : (l : List ℕ) → AtMost 255 l → negated (negated l) ≡ l
unfolding negated
negated_twice [] h = refl
negated_twice (x ∷ l) h =
    let back : 255 - (255 - x) ≡ x = omega (arith, h.each 0) in
    ap₂ (λ v t. v ∷ t) back (negated_twice l (at_most_tail h))

-- ---- counted
module _ (z : Size) (dots : List ℕ) (e : length dots ≡ cells_in z) where
  pub row_counts_dots : AtMost 1 dots → row_counts z (packed z dots) ≡ row_totals z dots
  unfolding row_counts row_totals
  row_counts_dots bits = tabulate-cong z.height (λ y high. ap total (sym (same y high)))
    where
      w : ℕ
      w = z.width

      same : (y : ℕ) → y < z.height → take w (drop (y * w) dots) ≡ tabulate w (bit_at w (packed z dots) y)
      same y high =
          let room : w ≤ length (drop (y * w) dots) = rw length-drop (omega (arith, rows_apart w high)) in
          tabulate-by 0 w _ (take w (drop (y * w) dots)) (length-take-le w (drop (y * w) dots) room)
          (λ x h. get_or-take w (drop (y * w) dots) x 0 h ∙ get_or-drop (y * w) dots x 0
          ∙ sym (packed_bits z dots bits high h))

  pub row_totals_sum : total (row_totals z dots) ≡ total dots
  unfolding row_totals tabulate total
  row_totals_sum = rows z.height ∙ ap total (take_all (cells_in z) dots (le_of_eq e))
    where
      w : ℕ
      w = z.width

      rows : (n : ℕ) → total (tabulate n (λ y. total (take w (drop (y * w) dots)))) ≡ total (take (n * w) dots)
      rows zero = let none : 0 ≡ 0 * w = omega arith in ap (λ k. total (take k dots)) none
      rows (suc n) =
          total_tabulate n (λ y. total (take w (drop (y * w) dots)))
          ∙ ap (λ k. k + total (take w (drop (n * w) dots))) (rows n)
          ∙ sym (ap total (ap (λ k. take k dots) (suc-mul n w) ∙ take-add (n * w) w dots)
          ∙ total_append (take (n * w) dots) (take w (drop (n * w) dots)))
