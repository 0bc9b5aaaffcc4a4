-- Laws of the window update: the sizes of entries, and what windows make of a table.
--   cleared                                    a table filled with 0
--   small_tabulate, small_by, square_small     entries at most k from 0: of a list, of a table, of a square
--   add_window_tabulate                         what one window makes of a table
--   scattered_none, scattered_next             the table that many of them leave, one after the other
--   gain_kernel                                the window of the cell i gains c(q - i) at q
--   store_table                                the table where a byte is stored, by a window
--   table_small                                the numbers of the table of a halftone that fits
--   windows_autocorrelation                    the autocorrelation is a table built so
use mathlib.Core.Path.{◌≡◌, refl, sym, ◌∙◌, ap, ap₂, subst}
use mathlib.Core.Bool.{Bool, true, false}
use mathlib.Core.List.{List, [], ◌∷◌, ◌++◌, map}
use Prim.Native.Nat.{ℕ, ◌+◌, ◌*◌, ◌-◌, ◌/◌, ◌%◌, ◌≤◌, ◌<◌}
use native.Mathlib.Nat as NatL
use native.Mathlib.Decide.{dec_lt}
use native.Mathlib.Omega.{arith}
use lib.Dec.{ltb}
use lib.IntN.{ℤ, pos, negsuc, neg_ℤ, nat_abs, ◌+ℤ◌, ◌-ℤ◌, ◌*ℤ◌}
use lib.ListN.{length, get_or, set, drop, replicate, length-replicate, get_or-replicate}
use lib.ListN.{get_or-append, get_or-map, get_or-eq_default}
use lib.Seq.{get_or-drop, get_or-append-add}
use Rattle.algebra.specs.Sum.{sum_to, sum_from}
use Rattle.algebra.proofs.Solver.{reify}
use Rattle.algebra.proofs.Order.{nat_abs_mul_le, show≡}
use Rattle.algebra.proofs.Grid.{row<, column<}
use Rattle.algebra.proofs.Sum.{sum_next, sum_cong}
use Rattle.algebra.proofs.SumOrder.{sum_cells}
use Rattle.model.specs.Basic.{pick, tabulate, AtMost, grid_at, square_at}
use Rattle.model.specs.Psf.{psf_at, autocorrelation}
use Rattle.model.specs.Error.{Target, cells, row, kernel, most_filtered, filtered_error, filtered_errors}
use Rattle.model.specs.Refusal.{HalftoneFits}
use Rattle.invariants.specs.Window.{gain, add_window, scattered, Small, Scaled, HoldsKernel}
use Rattle.model.proofs.Basic.{length-tabulate, get_d_tabulate, tabulate-each, tabulate-by, tabulate-cong}
use Rattle.model.proofs.Basic.{square_map}
use Rattle.model.proofs.Psf.{psf_entry}
use Rattle.model.proofs.Change.{store_moves_table}
use Rattle.model.proofs.Halftone.{filtered_most}

-- ---- a table filled with 0
pub cleared : (N : ℕ) {t : List ℤ} → t ≡ replicate N (pos 0) → t ≡ tabulate N (λ q. pos 0)
cleared N e =
    e ∙ tabulate-by (pos 0) N _ _ (length-replicate N (pos 0)) (λ q h. get_or-replicate N q (pos 0) (pos 0) h)

-- ---- sizes
pub small_tabulate : (k n : ℕ) (f : ℕ → ℤ) → ((q : ℕ) → q < n → nat_abs (f q) ≤ k) → Small k (tabulate n f)
small_tabulate k n f h = record { each = tabulate-each (λ z. nat_abs z ≤ k) (pos 0) n f (omega arith) h }

pub small_by : {k : ℕ} (n : ℕ) (f : ℕ → ℤ) {t : List ℤ} → t ≡ tabulate n f → ((q : ℕ) → nat_abs (f q) ≤ k) → Small k t
small_by {k} n f e h = subst (Small k) (sym e) (small_tabulate k n f (λ q l. h q))

pub small_bytes : {k : ℕ} (l : List ℕ) → ((i : ℕ) → get_or l i 0 ≤ k) → Small k (map pos l)
small_bytes {k} l h = record { each = λ q. subst (λ (z : ℤ). nat_abs z ≤ k) (sym (get_or-map pos l q 0)) (h q) }

pub scaled_by : {j k m : ℕ} (a : ℤ) (l : List ℤ) → nat_abs a ≤ j → Small k l → j * k ≤ m → Scaled m a l
scaled_by a l p s h = record { each = λ q. NatL.le_trans (nat_abs_mul_le a (get_or l q (pos 0)) p (s.each q)) h }

-- what is left of a list of zeros
pub small_rest : {k : ℕ} (n m : ℕ) → Small k (drop n (replicate m (pos 0)))
small_rest {k} n m =
    record { each = λ q. rw (get_or-drop n (replicate m (pos 0)) q (pos 0)) (go (n + q) (dec_lt (n + q) m)) }
  where
    go : (i : ℕ) → Dec (i < m) → nat_abs (get_or (replicate m (pos 0)) i (pos 0)) ≤ k
    go i (yes h) = rw (get_or-replicate m i (pos 0) (pos 0) h) (omega arith)
    go i (no h) =
        rw (get_or-eq_default (replicate m (pos 0)) (pos 0) {n = i}
        (rw (length-replicate m (pos 0)) (omega arith))) (omega arith)

-- two lists together
pub small_append : {k : ℕ} (l m : List ℤ) → Small k l → Small k m → Small k (l ++ m)
small_append {k} l m a b = record { each = λ q. go q (dec_lt q (length l)) }
  where
    go : (q : ℕ) → Dec (q < length l) → nat_abs (get_or (l ++ m) q (pos 0)) ≤ k
    go q (yes h) = rw (get_or-append l m (pos 0) q h) (a.each q)
    go q (no h) =
        let e : q ≡ length l + (q - length l) = omega arith in
        subst (λ (n : ℕ). nat_abs (get_or (l ++ m) n (pos 0)) ≤ k) (sym e)
        (rw (get_or-append-add l m (q - length l) (pos 0)) (b.each (q - length l)))

-- and so is a square of small entries at every offset
pub square_small : {k : ℕ} (r : ℕ) (l : List ℤ) (dy dx : ℤ) → Small k l → nat_abs (square_at (pos 0) r l dy dx) ≤ k
unfolding square_at grid_at
square_small {k} r l dy dx s = go (dy +ℤ pos r) (dx +ℤ pos r)
  where
    chosen : (b : Bool) (z : ℤ) → nat_abs z ≤ k → nat_abs (pick b z (pos 0)) ≤ k
    chosen true z h = h
    chosen false z h = omega arith

    go : (y x : ℤ) → nat_abs (grid_at (pos 0) (2 * r + 1) l y x) ≤ k
    go (pos y) (pos x) = chosen (ltb y (2 * r + 1)) _ (chosen (ltb x (2 * r + 1)) _ (s.each (y * (2 * r + 1) + x)))
    go (pos y) (negsuc x) = omega arith
    go (negsuc y) x = omega arith

-- ---- one window more
module _ (W R : ℕ) (c : List ℤ) where
  pub add_window_tabulate : (N : ℕ) (f : ℕ → ℤ) (amount : ℤ) (row col : ℕ)
      → add_window W R c amount row col (tabulate N f) ≡ tabulate N (λ q. f q +ℤ amount *ℤ gain W R c row col q)
  unfolding add_window
  add_window_tabulate N f amount row col =
      ap (λ n. tabulate n (λ q. get_or (tabulate N f) q (pos 0) +ℤ amount *ℤ gain W R c row col q)) (length-tabulate N f)
      ∙ tabulate-cong N (λ q h. ap (λ z. z +ℤ amount *ℤ gain W R c row col q) (get_d_tabulate N f q (pos 0) h))

  module _ (amount : ℕ → ℤ) (row col : ℕ → ℕ) where
    pub scattered_none : (N : ℕ) → tabulate N (λ q. pos 0) ≡ tabulate N (scattered W R c amount row col 0)
    unfolding scattered sum_to
    scattered_none N = refl

    pub scattered_next : (N n : ℕ)
        → add_window W R c (amount n) (row n) (col n) (tabulate N (scattered W R c amount row col n))
        ≡ tabulate N (scattered W R c amount row col (n + 1))
    unfolding scattered
    scattered_next N n =
        add_window_tabulate N (scattered W R c amount row col n) (amount n) (row n) (col n)
        ∙ tabulate-cong N (λ q h. sum_next n (λ i. amount i *ℤ gain W R c (row i) (col i) q))

-- ---- a window of the kernel
module _ (t : Target) (c : List ℤ) (k : HoldsKernel t.radius t.psf c) where
  -- the window of the cell i gains c(q - i) at q
  pub gain_kernel : (i q : ℕ) → gain t.width (2 * t.radius) c (i / t.width) (i % t.width) q ≡ kernel t q i
  unfolding kernel
  gain_kernel i q = k.at _ _

  -- a byte is stored at the cell m, and the table follows
  pub store_table : (dots : List ℕ) → length dots ≡ cells t → (m byte : ℕ) → m < cells t
      → filtered_errors t (set dots m byte)
      ≡ add_window t.width (2 * t.radius) c
      (pos t.step *ℤ (pos byte -ℤ pos (get_or dots m 0))) (m / t.width) (m % t.width) (filtered_errors t dots)
  unfolding filtered_errors
  store_table dots long m byte h =
      tabulate-cong (cells t) (λ q l.
      store_moves_table t dots long m byte q h
      ∙ ap (λ z. filtered_error t dots q +ℤ amount *ℤ z) (sym (gain_kernel m q)))
      ∙ sym (add_window_tabulate t.width (2 * t.radius) c (cells t)
      (filtered_error t dots) amount (m / t.width) (m % t.width))
    where
      amount : ℤ
      amount = pos t.step *ℤ (pos byte -ℤ pos (get_or dots m 0))

-- ---- the table of a halftone that fits
module _ {t : Target} {dots : List ℕ} {n : ℕ} (f : HalftoneFits t dots n) (bytes : AtMost 255 t.gray) where
  pub filtered_small : Small most_filtered (filtered_errors t dots)
  unfolding filtered_errors
  filtered_small = small_tabulate most_filtered (cells t) (filtered_error t dots) (λ q l. filtered_most f bytes q)

  pub table_small : {table : List ℤ} → table ≡ filtered_errors t dots → Small most_filtered table
  table_small e = subst (Small most_filtered) (sym e) filtered_small

-- ---- the autocorrelation: a window of the psf for each of its entries, times that entry, at its mirrored place
module _ (r : ℕ) (psf : List ℕ) where
  pub windows_autocorrelation : length psf ≡ (2 * r + 1) * (2 * r + 1) → (q : ℕ)
      → scattered (4 * r + 1) r (map pos psf) (λ i. get_or (map pos psf) i (pos 0))
      (λ i. 3 * r - i / (2 * r + 1)) (λ i. 3 * r - i % (2 * r + 1)) (length psf) q
      ≡ autocorrelation r psf (pos (q / (4 * r + 1)) -ℤ pos (2 * r)) (pos (q % (4 * r + 1)) -ℤ pos (2 * r))
  unfolding psf_at autocorrelation sum_from scattered
  windows_autocorrelation e q =
      ap (λ n.
      scattered (4 * r + 1) r (map pos psf) (λ i. get_or (map pos psf) i (pos 0))
      (λ i. 3 * r - i / s) (λ i. 3 * r - i % s) n q) e
      ∙ sum_cong (s * s) (λ i h. ap₂ (λ a b. a *ℤ b) (first i h) (second i h))
      ∙ sum_cells s s (λ y x. psf_at r psf (at y) (at x) *ℤ psf_at r psf (at y +ℤ dy) (at x +ℤ dx))
    where
      s : ℕ
      s = 2 * r + 1

      dy : ℤ
      dy = pos (q / (4 * r + 1)) -ℤ pos (2 * r)

      dx : ℤ
      dx = pos (q % (4 * r + 1)) -ℤ pos (2 * r)

      at : ℕ → ℤ
      at y = neg_ℤ (pos r) +ℤ pos y

      some : 0 < 2 * r + 1
      some = omega arith

      first : (i : ℕ) → i < s * s → get_or (map pos psf) i (pos 0) ≡ psf_at r psf (at (i / s)) (at (i % s))
      first i h = get_or-map pos psf i 0 ∙ psf_entry r psf i h

      offset : (k y : ℕ) → y ≤ 3 * r → pos k -ℤ pos (3 * r - y) ≡ neg_ℤ (pos r) +ℤ pos y +ℤ (pos k -ℤ pos (2 * r))
      offset k y h = show≡ (pos k ∷ pos r ∷ pos y ∷ pos (3 * r - y) ∷ []) (search reify depth 40) (omega arith)

      second : (i : ℕ) → i < s * s
          → gain (4 * r + 1) r (map pos psf) (3 * r - i / s) (3 * r - i % s) q
          ≡ psf_at r psf (at (i / s) +ℤ dy) (at (i % s) +ℤ dx)
      second i h =
          square_map pos 0 r psf _ _
          ∙ ap₂ (psf_at r psf)
          (offset (q / (4 * r + 1)) (i / s) (omega (arith, row< i some h)))
          (offset (q % (4 * r + 1)) (i % s) (omega (arith, column< i some)))
