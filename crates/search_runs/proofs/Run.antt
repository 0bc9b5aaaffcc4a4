-- Runs of cells where nothing is accepted, as the loops over them go.
--   worth_held         what an offset is worth, as a local holds it
--   unlower            where the sum of a trial, of locals, is not below 0 the trial fails
--   offset_clear       a run that is clear from cell to cell is clear at that offset
use mathlib.Core.Bool.{false, not, and-false}
use mathlib.Core.List.{List}
use mathlib.Core.Path.{◌≡◌, sym, ◌∙◌, ap}
use Prim.Native.Nat.{ℕ, ◌+◌, ◌*◌, ◌-◌, ◌≤◌}
use native.Mathlib.Nat.{sub-add_cancel, add-mul}
use native.Mathlib.Omega.{arith}
use lib.Dec.{lit<, eqb}
use lib.IntN.{ℤ, pos, nat_abs, ◌+ℤ◌, ◌-ℤ◌, ◌*ℤ◌}
use lib.ListN.{get_or}
use lib.Signed.{lt_z}
use mir.Syntax.{w32}
use mir.Val.{to_z, of_z}
use Rattle.algebra.proofs.Machine.{Holds, named, of_small, add_holds}
use Rattle.model.specs.Change.{sign}
use Rattle.model.specs.Error.{cell_at, most_filtered}
use Rattle.invariants.specs.Partners.{row_of, column_of}
use Rattle.invariants.specs.Window.{Small, most_worth}
use Rattle.search_runs.specs.Run.{Fails, SwapsClear, OffsetClear}

-- ---- the sum of a trial, as the locals hold its terms
pub worth_held : {l : List ℤ} → Small most_worth l → (q : ℕ)
    → Holds w32 (of_z w32 (get_or l q (pos 0))) (get_or l q (pos 0)) most_worth
worth_held {l} small q = of_small w32 (get_or l q (pos 0)) (small.each q) (lit< tt)

-- it is not below 0
pub unlower : (dots : List ℕ) (table : List ℤ) (m n : ℕ) {difference worth : ℤ} {bits : ℕ}
    → (difference ≡ sign dots m *ℤ (get_or table m (pos 0) -ℤ get_or table n (pos 0)))
    × (nat_abs difference ≤ 2 * most_filtered)
    → Holds w32 bits worth most_worth
    → lt_z (to_z w32 (of_z w32 (to_z w32 (of_z w32 difference) +ℤ to_z w32 bits))) (pos 0) ≡ false
    → Fails dots table m n worth
unlower dots table m n {difference} (e, small) held f =
    let first = named e (of_small w32 difference small (lit< tt)) in
    rw (rw (add_holds first held (lit< tt)).value at f) (and-false (not (eqb (get_or dots m 0) (get_or dots n 0))))

-- ---- a run of cells of a row with its partners
-- the partner of the k-th cell, counted from that of the first
there_is : (w to k x y z : ℕ) → 6 ≤ x → 6 ≤ z → to + (6 * w + 6) ≡ x * w + y → y + k ≡ z
    → to + k ≡ cell_at w (x - 6) (z - 6)
there_is w to k x y z h l e f =
    let rows : x * w ≡ (x - 6) * w + 6 * w = ap (λ n. n * w) (sym (sub-add_cancel h)) ∙ add-mul (x - 6) 6 w in
    omega arith

-- a run from the cell m on is clear at the offset of that code, its first partner standing at `to`
pub record ClearAt (width m : ℕ) (dots : List ℕ) (table : List ℤ) (code : ℕ) (worth : ℤ) (n : ℕ) : Type 0 where
  pub to : ℕ
  pub place : to + (6 * width + 6) ≡ m + row_of code * width + column_of code
  pub clear : SwapsClear dots table worth m to n

pub offset_clear : (width : ℕ) {dots : List ℕ} {table : List ℤ} (code : ℕ) {worth : ℤ} (row col : ℕ) {n : ℕ}
    → ClearAt width (cell_at width row col) dots table code worth n → OffsetClear width dots table code worth row col n
offset_clear width code row col s =
    let rows = add-mul row (row_of code) width in
    let e = s.place in
    record {
      each = λ k h top first.
          rw (there_is width s.to k (row + row_of code) (col + column_of code) (col + k + column_of code) top first
          (omega arith) (omega arith)) at (s.clear.each k h);
    }
