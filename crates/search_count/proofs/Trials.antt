-- The swaps that a scan weighs, counted by marks.
--   cell-trials                 those of a cell: the unlike dots around it
--   all_trials_lem, marked_few  those of the first cells, and their bound
--   row_trials_lem, row_few     those of a row, by the dot that its cells hold, and their bound
--   rows_in_order               the rows of two cells in order
use mathlib.Core.Bool.{Bool, true, false, ◌&&◌, not}
use mathlib.Core.List.{List, [], ◌∷◌}
use mathlib.Core.Path.{◌≡◌, refl, sym, ◌∙◌, ap, ap₂}
use Prim.Native.Nat.{ℕ, zero, suc, ◌+◌, ◌*◌, ◌-◌, ◌/◌, ◌%◌, ◌≤◌, ◌<◌}
use native.Mathlib.Decide.{dec_lt}
use native.Mathlib.Nat.{div-add-mod', mul-le-mul, mul-zero}
use native.Mathlib.Omega.{arith}
use lib.Dec.{eqb}
use lib.IntN.{pos, ◌-ℤ◌}
use lib.ListN.{length, get_or}
use Rattle.algebra.proofs.Grid.{cell_row, cell_column, column<, rows_apart}
use Rattle.algebra.proofs.Order.{show≡}
use Rattle.algebra.proofs.Solver.{reify}
use Rattle.model.specs.declared.Measures.{Measures}
use Rattle.model.specs.Basic.{one_if, AtMost}
use Rattle.model.specs.Error.{Target, target_for, cell_at}
use Rattle.model.specs.Lock.{locked, locked_gray}
use Rattle.model.specs.Partners.{Offset, lands, partner}
use Rattle.model.specs.Scan.{exchangeable, suits, swaps}
use Rattle.model.proofs.Square.{swaps_square}
use Rattle.model.proofs.Totals.{sum_below, total_same, total_plus, total_times, total_swap, total_most, total_part}
use Rattle.invariants.specs.Partners.{biased}
use Rattle.invariants.specs.Trials.{all_trials}
use Rattle.search_partners.proofs.Landing.{partner_is, off_top, off_bottom, off_left, off_right, on}
use Rattle.search_count.specs.Marks.{mark_of, mark, widened, column_marks, around, kind_trials}
use Rattle.search_count.specs.Marks.{unlike_at, marked_trials}
use Rattle.search_count.proofs.Marks.{mark_small, widened_above, widened_below, widened_left}
use Rattle.search_count.proofs.Marks.{widened_right, widened_at, widened_small}

-- ---- sums of two kinds over a square
module _ (n A B : ℕ) (F G : ℕ → ℕ → ℕ) where
  square_linear : sum_below n (λ j. sum_below n (λ i. A * F j i + B * G j i))
      ≡ A * sum_below n (λ i. sum_below n (λ j. F j i)) + B * sum_below n (λ i. sum_below n (λ j. G j i))
  square_linear =
      total_same n (λ j h.
      total_plus n (λ i. A * F j i) (λ i. B * G j i)
      ∙ ap₂ (λ u v. u + v) (total_times n A (F j)) (total_times n B (G j)))
      ∙ total_plus n (λ j. A * sum_below n (F j)) (λ j. B * sum_below n (G j))
      ∙ ap₂ (λ u v. u + v) (total_times n A (λ j. sum_below n (F j))) (total_times n B (λ j. sum_below n (G j)))
      ∙ ap₂ (λ u v. A * u + B * v) (total_swap n n F) (total_swap n n G)

-- an offset counted from the corner of the square, with 6 added
biased_is : (q j : ℕ) → q ≤ 6 → pos j -ℤ pos q ≡ pos (j + 6 - q) -ℤ pos 6
biased_is q j h = show≡ (pos j ∷ pos q ∷ pos (j + 6 - q) ∷ []) (search reify depth 40) (omega arith)

-- ---- two cells, each locked or not, whose dots are bits
unlike_bits : (u v : Bool) (a b : ℕ) → a ≤ 1 → b ≤ 1
    → one_if (not u && (not v && not (eqb a b)))
    ≡ one_if (not u && eqb a 0) * one_if (not v && eqb b 1) + one_if (not u && eqb a 1) * one_if (not v && eqb b 0)
unlike_bits true v a b h k = omega arith
unlike_bits false true zero b h k = refl
unlike_bits false true (suc zero) b h k = refl
unlike_bits false true (suc (suc a)) b h k = absurd (omega arith)
unlike_bits false false zero zero h k = refl
unlike_bits false false zero (suc zero) h k = refl
unlike_bits false false zero (suc (suc b)) h k = absurd (omega arith)
unlike_bits false false (suc zero) zero h k = refl
unlike_bits false false (suc zero) (suc zero) h k = refl
unlike_bits false false (suc zero) (suc (suc b)) h k = absurd (omega arith)
unlike_bits false false (suc (suc a)) b h k = absurd (omega arith)

-- ---- the swaps of the cell in row y and column x
module _ (m : Measures) (psf gray dots : List ℕ) (near : m.reach ≤ 6) (bits : AtMost 1 dots) where
  abbrev t : Target
  t = target_for m psf gray

  exchange_is : (k n : ℕ) → one_if (exchangeable t dots k n)
      ≡ mark gray dots 0 k * mark gray dots 1 n + mark gray dots 1 k * mark gray dots 0 n
  unfolding locked mark_of
  exchange_is k n =
      unlike_bits (locked_gray (get_or gray k 0)) (locked_gray (get_or gray n 0)) (get_or dots k 0) (get_or dots n 0)
      (bits.each k) (bits.each n)

  module _ (y x : ℕ) (across : x < m.width) where
    abbrev c : ℕ
    c = cell_at m.width y x

    -- what the partner at an offset counts, by its place in the square
    abbrev pair_at : ℕ → ℕ → ℕ
    pair_at j i =
        mark gray dots 0 c * widened m gray dots 1 (y + j) (x + i)
        + mark gray dots 1 c * widened m gray dots 0 (y + j) (x + i)

    module _ (j i : ℕ) where
      -- with 6 added
      abbrev down : ℕ
      down = j + 6 - m.reach

      abbrev right : ℕ
      right = i + 6 - m.reach

      abbrev o : Offset
      o = biased down right

      abbrev lands_there : Bool
      lands_there = lands m.width m.height c o

      abbrev there : ℕ
      there = partner m.width c o

      abbrev counts : ℕ
      counts = one_if (suits t dots c o)

      off : lands_there ≡ false → ((d : ℕ) → widened m gray dots d (y + j) (x + i) ≡ 0) → counts ≡ pair_at j i
      off e z =
          ap (λ b. one_if (b && exchangeable t dots c there)) e
          ∙ rw (z 0, z 1, mul-zero (mark gray dots 0 c), mul-zero (mark gray dots 1 c)) refl

      -- the cell there, where it is on the plate
      abbrev n : ℕ
      n = cell_at m.width (y + j - m.reach) (x + i - m.reach)

      stood : cell_at m.width (y + down - 6) (x + right - 6) ≡ n
      stood =
          let rows : y + down - 6 ≡ y + j - m.reach = omega arith in
          let columns : x + right - 6 ≡ x + i - m.reach = omega arith in
          ap₂ (cell_at m.width) rows columns

      onto : lands_there ≡ true → there ≡ n → ((d : ℕ) → widened m gray dots d (y + j) (x + i) ≡ mark gray dots d n)
          → counts ≡ pair_at j i
      onto landed stands seen =
          ap (λ b. one_if (b && exchangeable t dots c there)) landed
          ∙ ap (λ k. one_if (exchangeable t dots c k)) stands
          ∙ exchange_is c n
          ∙ ap₂ (λ u v. mark gray dots 0 c * u + mark gray dots 1 c * v) (sym (seen 1)) (sym (seen 0))

      pair_is : Dec (y + j < m.reach) → Dec (y + j < m.reach + m.height) → Dec (x + i < m.reach)
          → Dec (x + i < m.reach + m.width) → counts ≡ pair_at j i
      pair_is (yes h) b l r =
          off (off_top m.width m.height y x across down right (omega arith))
          (λ d. widened_above m gray dots d (y + j) h (x + i))
      pair_is (no a) (no h) l r =
          off (off_bottom m.width m.height y x across down right (omega arith))
          (λ d. widened_below m gray dots d (y + j) (omega arith) (x + i))
      pair_is (no a) (yes b) (yes h) r =
          off (off_left m.width m.height y x across down right (omega arith))
          (λ d. widened_left m gray dots d (y + j) (x + i) h)
      pair_is (no a) (yes b) (no l) (no h) =
          off (off_right m.width m.height y x across down right (omega arith))
          (λ d. widened_right m gray dots d (y + j) (x + i) (omega arith))
      pair_is (no a) (yes b) (no l) (yes r) =
          onto (on m.width m.height y x across down right (omega arith) (omega arith) (omega arith) (omega arith))
          (partner_is m.width m.height y x across down right (omega arith) (omega arith) ∙ stood)
          (λ d. widened_at m gray dots d (y + j) (x + i) (omega arith) (omega arith) (omega arith) (omega arith))

      pair : one_if (suits t dots c (record { down = pos j -ℤ pos m.reach; right = pos i -ℤ pos m.reach }))
          ≡ pair_at j i
      pair =
          ap₂ (λ u v. one_if (suits t dots c (record { down = u; right = v })))
          (biased_is m.reach j near) (biased_is m.reach i near)
          ∙ pair_is (dec_lt (y + j) m.reach) (dec_lt (y + j) (m.reach + m.height)) (dec_lt (x + i) m.reach)
          (dec_lt (x + i) (m.reach + m.width))

    pub cell-trials :
        length (swaps (target_for m psf gray) m.reach dots (cell_at m.width y x)) ≡ unlike_at m gray dots y x
    cell-trials =
        let n = 2 * m.reach + 1 in
        swaps_square t m.reach dots c
        ∙ total_same n (λ j h. total_same n (λ i k. pair j i))
        ∙ square_linear n (mark gray dots 0 c) (mark gray dots 1 c)
        (λ j i. widened m gray dots 1 (y + j) (x + i)) (λ j i. widened m gray dots 0 (y + j) (x + i))

  -- ---- of the first n cells
  pub all_trials_lem : 0 < m.width → (n : ℕ)
      → all_trials (target_for m psf gray) m.reach dots n ≡ marked_trials m gray dots n
  all_trials_lem w n =
      total_same n (λ k l.
      ap (λ z. length (swaps t m.reach dots z)) (sym (div-add-mod' k m.width))
      ∙ cell-trials (k / m.width) (k % m.width) (column< k w))

-- ---- the trials of a row, and bounds
module _ (m : Measures) (gray dots : List ℕ) where
  pub row_trials_lem : (y n : ℕ) → n ≤ m.width
      → marked_trials m gray dots (cell_at m.width y n)
      ≡ marked_trials m gray dots (y * m.width) + (kind_trials m gray dots 0 y n + kind_trials m gray dots 1 y n)
  row_trials_lem y n h =
      total_part (y * m.width) n (λ k. unlike_at m gray dots (k / m.width) (k % m.width))
      ∙ ap (λ z. marked_trials m gray dots (y * m.width) + z)
      (total_same n (λ x k.
      ap₂ (unlike_at m gray dots) (cell_row {y = y} (before x k)) (cell_column y (before x k)))
      ∙ total_plus n (λ x. mark gray dots 0 (cell_at m.width y x) * around m gray dots 1 y x)
      (λ x. mark gray dots 1 (cell_at m.width y x) * around m gray dots 0 y x))
    where
      before : (x : ℕ) → x < n → x < m.width
      before x k = omega arith

  module _ (near : m.reach ≤ 6) where
    column_few : (dot y X : ℕ) → column_marks m gray dots dot y X ≤ 13
    column_few dot y X =
        omega (
          arith,
          total_most (2 * m.reach + 1) 1 (λ j. widened m gray dots dot (y + j) X) (λ j h.
              widened_small m gray dots dot (y + j) X),
        )

    term_few : (a d y x n : ℕ) → mark gray dots a n * around m gray dots d y x ≤ 169
    term_few a d y x n =
        let most =
        total_most (2 * m.reach + 1) 13 (λ i. column_marks m gray dots d y (x + i)) (λ i h. column_few d y (x + i)) in
        let few : around m gray dots d y x ≤ 169 = omega (arith, most) in
        omega (arith, mul-le-mul (mark_small (get_or gray n 0) (get_or dots n 0) a) few)

    pub row_few : (dot y n : ℕ) → kind_trials m gray dots dot y n ≤ n * 169
    row_few dot y n =
        total_most n 169 (λ x. mark gray dots dot (y * m.width + x) * around m gray dots (1 - dot) y x) (λ x h.
        term_few dot (1 - dot) y x (y * m.width + x))

    pub marked_few : (n : ℕ) → marked_trials m gray dots n ≤ n * 338
    marked_few n =
        total_most n 338 (λ k. unlike_at m gray dots (k / m.width) (k % m.width)) (λ k h.
        let y = k / m.width in
        let x = k % m.width in
        omega (arith, term_few 0 1 y x (cell_at m.width y x), term_few 1 0 y x (cell_at m.width y x)))

-- ---- two cells in order, and their rows
pub rows_in_order : (W r a s b : ℕ) → r * W + a ≤ s * W + b → b < W → r ≤ s
rows_in_order W r a s b h k = go (dec_lt s r)
  where
    go : Dec (s < r) → r ≤ s
    go (yes l) = absurd (omega (arith, rows_apart W l))
    go (no l) = omega arith
