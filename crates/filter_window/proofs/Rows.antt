-- The window added row by row, and where the run of a row stands.
--   Rows                             the window is added to the rows above y
--   rows_start, rows_next, rows_end  before the first turn of the loop, after one turn more, and after the last
--   index_fits, run_ends             the first index of a run is small, and its entries end within the rows
use mathlib.Core.Path.{◌≡◌, refl, sym, ◌∙◌}
use mathlib.Core.Logic.{◌⊎◌, inl, inr}
use mathlib.Core.List.{List}
use Prim.Native.Nat.{ℕ, ◌+◌, ◌*◌, ◌-◌, ◌/◌, ◌%◌, ◌≤◌, ◌<◌, min}
use native.Mathlib.Decide.{dec_lt}
use native.Mathlib.Nat.{lt_of_le_of_lt, add-le-add, mul-le-mul, mul-le-mul_right}
use native.Mathlib.Nat.{div-add-mod'}
use native.Mathlib.Omega.{arith}
use lib.Dec.{lit<}
use lib.IntN.{ℤ, pos, ◌+ℤ◌, ◌-ℤ◌, ◌*ℤ◌, +ℤ_idr, *ℤ-zero}
use lib.ListN.{length, get_or}
use lib.Seq.{ext_get_or}
use mir.Syntax.{w64}
use mir.Val.{Fits}
use Rattle.algebra.proofs.Grid.{rows_apart, row<, column<}
use Rattle.model.specs.Basic.{square_at}
use Rattle.invariants.specs.Window.{add_window}
use Rattle.model.proofs.Basic.{length-tabulate, get_d_tabulate, Far, square_at_inside, square_at_outside}
use Rattle.filter_window.specs.Run.{Ran}

-- apart from the rest, since `omega` splits few differences at once
index : (i left x reach col : ℕ) → left ≤ x → col ≤ left + reach
    → i + (left + reach - col) + (x - left) ≡ i + (x + reach - col)
index i left x reach col p q = omega arith

module _ (width reach row col : ℕ) (c : List ℤ) (amount : ℤ) where
  -- the entry of row y and column x once the window is added
  abbrev gained : List ℤ → ℕ → ℕ → ℤ
  gained t y x =
      get_or t (y * width + x) (pos 0)
      +ℤ amount *ℤ square_at (pos 0) reach c (pos y -ℤ pos row) (pos x -ℤ pos col)

  -- t is t₀ with the window added to the rows above y
  pub record Rows (y : ℕ) (t₀ t : List ℤ) : Type 0 where
    pub long : length t ≡ length t₀
    pub done : (v x : ℕ) → v < y → x < width → get_or t (v * width + x) (pos 0) ≡ gained t₀ v x
    pub rest : (q : ℕ) → y * width ≤ q → get_or t q (pos 0) ≡ get_or t₀ q (pos 0)

  untouched : (t : List ℤ) (y x : ℕ) → Far reach row y ⊎ Far reach col x → get_or t (y * width + x) (pos 0) ≡ gained t y x
  untouched t y x o = rw (square_at_outside (pos 0) reach c row col y x o, *ℤ-zero, +ℤ_idr)

  pub rows_start : {t : List ℤ} → Rows (row - reach) t t
  rows_start {t} = record {
    long = refl;
    done = λ v x h k. untouched t v x (inl (inl (omega arith)));
    rest = λ q h. refl;
  }

  module _ {y left right : ℕ} {t₀ t t' : List ℤ} (above : row ≤ y + reach) (under : y ≤ row + reach)
      (in_row : col < width) (l : left ≡ col - reach) (e : right ≡ min (col + reach + 1) width) (r : Rows y t₀ t)
      (n : Ran (y * width + left) c ((y + reach - row) * (2 * reach + 1) + (left + reach - col))
      amount (right - left) t t') where
    -- an entry of the run
    reached : (x : ℕ) → left ≤ x → x < right → get_or t' (y * width + x) (pos 0) ≡ gained t₀ y x
    reached x p q =
        let same = r.rest (y * width + x) (omega arith) in
        let inside = square_at_inside (pos 0) reach c row col y x above under (omega arith) (omega arith) in
        let in_run : x - left < right - left = omega arith in
        let in_table : y * width + left + (x - left) ≡ y * width + x = omega arith in
        let in_c = index ((y + reach - row) * (2 * reach + 1)) left x reach col p (omega arith) in
        rw (in_table, in_c, ← inside, same) at (n.within (x - left) in_run)

    this_row : (x : ℕ) → x < width → get_or t' (y * width + x) (pos 0) ≡ gained t₀ y x
    this_row x k =
        let same = r.rest (y * width + x) (omega arith) in
        elim (dec_lt x left) [
          | yes p ↦ n.below (y * width + x) (omega arith) ∙ same ∙ untouched t₀ y x (inr (inl (omega arith)))
          | no p ↦ elim (dec_lt x right) [
            | yes q ↦ reached x (omega arith) q
            | no q ↦ n.beyond (y * width + x) (omega arith) ∙ same ∙ untouched t₀ y x (inr (inr (omega arith)))
          ]
        ]

    pub rows_next : Rows (y + 1) t₀ t'
    rows_next = record {
      long = n.long ∙ r.long;
      done = λ v x h k. elim (dec_lt v y) [
        | yes p ↦ n.below (v * width + x) (omega (arith, rows_apart width p)) ∙ r.done v x p k
        | no p ↦ let o : v ≡ y = omega arith in rw o (this_row x k)
      ];
      rest = λ q h.
          let b = rows_apart {y = y} {v = y + 1} width (omega arith) in
          n.beyond q (omega arith) ∙ r.rest q (omega arith);
    }

  pub rows_end : (height : ℕ) {y : ℕ} {t₀ t : List ℤ} → 0 < width → length t₀ ≡ height * width
      → min (row + reach + 1) height ≤ y
      → Rows y t₀ t → t ≡ add_window width reach c amount row col t₀
  unfolding add_window
  rows_end height {y} {t₀} {t} w n b r =
      ext_get_or (pos 0) t _ (r.long ∙ sym (length-tabulate (length t₀) _)) (λ q h.
      let p : q < length t₀ = omega (arith, r.long) in
      let e : q / width * width + q % width ≡ q = div-add-mod' q width in
      (rw e at (each (q / width) (q % width) (row< q w (omega arith)) (column< q w)))
      ∙ sym (get_d_tabulate (length t₀) _ q (pos 0) p))
    where
      each : (v x : ℕ) → v < height → x < width → get_or t (v * width + x) (pos 0) ≡ gained t₀ v x
      each v x h k = elim (dec_lt v y) [
        | yes p ↦ r.done v x p k
        | no p ↦
            let o : y ≤ v = omega arith in
            r.rest (v * width + x) (omega (arith, mul-le-mul_right width o))
            ∙ untouched t₀ v x (inl (inr (omega arith)))
      ]

-- ---- where the run of a row stands: its first index is small, and n entries from there end within the rows
pub index_fits : (i n j : ℕ) → i ≤ 262 → n ≤ 256 → j ≤ 262 → Fits w64 (i * n + j)
index_fits i n j p q r = record { fits = lt_of_le_of_lt (add-le-add (mul-le-mul p q) r) (lit< tt) }

pub run_ends : (i j n : ℕ) {width height long : ℕ} → i < height → j + n ≤ width → height * width ≤ long
    → i * width + j + n ≤ long
run_ends i j n {width} {height} p q e = omega (arith, rows_apart width p)
