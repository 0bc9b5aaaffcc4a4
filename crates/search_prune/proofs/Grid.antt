-- What the offsets are worth in rows; and rows in which every trial fails, one after the other.
--   row_length_fits                 a row holds what the reach asks, and is short
--   worth_in_small                  each entry is small
--   run_part                        a run with the worths of a part of a list
--   rows_none, rows_more, rows_all  no row yet, one row more, all rows within reach
use mathlib.Core.List.{List}
use mathlib.Core.Path.{◌≡◌}
use Prim.Native.Nat.{ℕ, ◌+◌, ◌*◌, ◌-◌, ◌/◌, ◌%◌, ◌≤◌, ◌<◌, min}
use native.Mathlib.Decide.{ℕ_discrete}
use native.Mathlib.Omega.{arith}
use borrow.Author.Tests.{ltb-true}
use lib.Dec.{leb, ltb, lit≤}
use lib.IntN.{ℤ, pos, nat_abs}
use lib.ListN.{length, get_or, take, drop}
use Rattle.std.proofs.lemmas.List.{get_or-take, get_or-drop, length-take, length-drop}
use Rattle.model.specs.Error.{cell_at}
use Rattle.model.proofs.Basic.{pick_cases}
use Rattle.invariants.specs.Window.{Small, most_kernel, most_worth}
use Rattle.invariants.proofs.Partners.{worth_small}
use Rattle.search_runs.specs.Run.{Fails}
use Rattle.search_prune.specs.Grid.{row_length, worth_in, RunClear, RowsClear}

pub row_length_fits : {reach : ℕ} → reach ≤ 6 → (2 * reach + 1 ≤ row_length reach) × (row_length reach ≤ 16)
unfolding row_length
row_length_fits {reach} h =
    pick_cases (λ n. (2 * reach + 1 ≤ n) × (n ≤ 16)) (ltb reach 4)
    (λ e. (omega (arith, ltb-true reach 4 e), lit≤ tt)) (λ e. (omega arith, lit≤ tt))

pub worth_in_small : (radius : ℕ) {c : List ℤ} → Small most_kernel c → (reach q : ℕ)
    → nat_abs (worth_in radius c reach q) ≤ most_worth
unfolding worth_in
worth_in_small radius small reach q =
    pick_cases (λ z. nat_abs z ≤ most_worth) (leb (q % row_length reach) (2 * reach))
    (λ e. worth_small radius small (q / row_length reach + 6 - reach) (q % row_length reach + 6 - reach)) (λ e. lit≤ tt)

-- ---- rows whose trials fail
-- a run with the worths of a part of a list, by the list
pub run_part : {dots : List ℕ} {table : List ℤ} (grid : List ℤ) {m from : ℕ} (first end : ℕ) → end ≤ length grid
    → RunClear dots table (take (end - first) (drop first grid)) m from
    → (i : ℕ) → first + i < end → Fails dots table m (from + i) (get_or grid (first + i) (pos 0))
run_part grid first end h run i k =
    let within : i < end - first = omega arith in
    rw (get_or-take (end - first) (drop first grid) i (pos 0) within, get_or-drop first grid i (pos 0)) at
    (run.each i (simp (length-take, length-drop) (omega arith)))

module _ {width reach : ℕ} {dots : List ℕ} {table grid : List ℤ} {row col : ℕ} where
  -- no row yet
  pub rows_none : RowsClear width (row - reach) reach dots table grid row col
  rows_none = record { each = λ j i a b d e f. absurd (omega arith) }

  -- one row more
  pub rows_more : (y : ℕ) → row ≤ y + reach → reach ≤ y * width + col
      → RowsClear width y reach dots table grid row col
      → ((i : ℕ) → i < row_length reach → Fails dots table (cell_at width row col) (y * width + col - reach + i)
      (get_or grid ((y + reach - row) * row_length reach + i) (pos 0)))
      → RowsClear width (y + 1) reach dots table grid row col
  rows_more y above placed r n = record { each = λ j i a b d e f. go j i a b d e f (ℕ_discrete (row + j) (y + reach)) }
    where
      go : (j i : ℕ) → j ≤ 2 * reach → i < row_length reach → reach ≤ row + j → row + j < y + 1 + reach → reach ≤ col + i
          → Dec (row + j ≡ y + reach)
          → Fails dots table (cell_at width row col) (cell_at width (row + j - reach) (col + i - reach))
          (get_or grid (j * row_length reach + i) (pos 0))
      go j i a b d e f (no p) = r.each j i a b d (omega arith) f
      go j i a b d e f (yes p) =
          let same_row : row + j - reach ≡ y = omega arith in
          let same : y + reach - row ≡ j = omega arith in
          let place : y * width + col - reach + i ≡ y * width + (col + i - reach) = omega arith in
          rw same_row (rw (same, place) at (n i b))

  -- all rows within reach
  pub rows_all : (y height : ℕ) → min (row + reach + 1) height ≤ y
      → RowsClear width y reach dots table grid row col
      → RowsClear width height reach dots table grid row col
  rows_all y height h r = record { each = λ j i a b d g f. r.each j i a b d (omega arith) f }
