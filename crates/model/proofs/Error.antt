-- Laws of the filtered error T and the squared error E.
--   filtered_long, weighed_is          the length of the table; E by one pass over it
--   kernel_symmetric                   c(n - m) = c(m - n)
--   filtered_edit, squared_edit        what an edit, a list of cells with amounts, does to T and to E
--   squared_perceived, squared_nonneg  E is the sum of the squares of the perceived error, so it is never negative
--   filtered≤, squared≤, error≤        the bounds of T, E and e, by which the machine arithmetic does not wrap
use mathlib.Core.Path.{◌≡◌, refl, sym, ◌∙◌, ap, ap₂, subst, fun_ext}
use mathlib.Core.List.{List, [], ◌∷◌}
use Prim.Native.Nat.{ℕ, ◌+◌, ◌*◌, ◌/◌, ◌%◌, ◌≤◌, ◌<◌}
use native.Mathlib.Nat as NatL
use native.Mathlib.Omega.{arith}
use lib.IntN.{ℤ, pos, neg_ℤ, nat_abs, ◌+ℤ◌, ◌-ℤ◌, ◌*ℤ◌, +ℤ_comm}
use lib.Signed.{◌≤ℤ◌}
use lib.ListN.{length, get_or}
use Rattle.algebra.specs.Sum.{sum_to, sum_from, sum_over}
use Rattle.algebra.specs.Quadratic.{transform, bilinear, quadratic, Increment, Within, edited}
use Rattle.algebra.proofs.Solver.{ring!, reify}
use Rattle.algebra.proofs.Order.{0≤-square, nat_abs_show, nat_abs_below, nat_abs_mul_le}
use Rattle.algebra.proofs.Grid.{row<, column<}
use Rattle.algebra.proofs.Sum.{sum_cong}
use Rattle.algebra.proofs.SumOrder.{sum_nonneg, sum_cells, weighted≤, nat_abs_sum}
use Rattle.algebra.proofs.Interval.{sum_from_cong, sum_from_swap, sum_from_nonneg, correlate_widened, Supported2}
use Rattle.algebra.proofs.Quadratic.{transform_edit, quadratic_edit, quadratic_cong, gram}
use Rattle.model.specs.Psf.{total, psf_at, autocorrelation}
use Rattle.model.specs.Error.{Target, cells, row, column, kernel, error_of, error, filtered_error, filtered_errors}
use Rattle.model.specs.Error.{squared_error, perceived_error, perceived_squares}
use Rattle.model.proofs.Basic.{length-tabulate, get_d_tabulate}
use Rattle.model.proofs.Psf.{psf_supported, autocorrelation_even, autocorrelation_nonneg, autocorrelation-grid≤}

-- a difference of two numbers from 0 to B
pub apart : (a b : ℕ) {B : ℕ} → a ≤ B → b ≤ B → nat_abs (pos a -ℤ pos b) ≤ B
apart a b h k = nat_abs_show (pos a ∷ pos b ∷ []) (pos a -ℤ pos b) (search reify depth 40) (omega arith) (omega arith)

module _ (t : Target) where
  pub filtered_long : (dots : List ℕ) → length (filtered_errors t dots) ≡ cells t
  unfolding filtered_errors
  filtered_long dots = length-tabulate (cells t) (filtered_error t dots)

  -- E by one pass over the table
  pub weighed_is : (dots : List ℕ) → length t.gray ≡ cells t
      → sum_to (length t.gray) (λ m.
      error_of t.step t.gray dots m *ℤ get_or (filtered_errors t dots) m (pos 0)) ≡ squared_error t dots
  unfolding filtered_errors squared_error error
  weighed_is dots e =
      ap (λ n. sum_to n (λ m. error_of t.step t.gray dots m *ℤ get_or (filtered_errors t dots) m (pos 0))) e
      ∙ sum_cong (cells t) (λ m l.
      ap (λ z. error_of t.step t.gray dots m *ℤ z) (get_d_tabulate (cells t) (filtered_error t dots) m (pos 0) l))

  -- c(n - m) = c(m - n)
  pub kernel_symmetric : (n m : ℕ) → kernel t n m ≡ kernel t m n
  unfolding kernel
  kernel_symmetric n m =
      autocorrelation_even t.radius t.psf (row t n -ℤ row t m) (column t n -ℤ column t m)
      ∙ ap₂ (autocorrelation t.radius t.psf) (turn (row t n) (row t m)) (turn (column t n) (column t m))
    where
      turn : (a b : ℤ) → neg_ℤ (a -ℤ b) ≡ b -ℤ a
      turn a b = ring! (a ∷ b ∷ []) (search reify depth 40) refl

  kernel_nonneg : (n m : ℕ) → pos 0 ≤ℤ kernel t n m
  unfolding kernel
  kernel_nonneg n m = autocorrelation_nonneg t.radius t.psf (row t n -ℤ row t m) (column t n -ℤ column t m)

  -- the law of an edit (document 004, equations 13 and 21): what a list of (cell, amount) does to T and to E
  module _ (dots dots' : List ℕ) (l : List Increment) (inside : Within (cells t) l)
      (edit : (n : ℕ) → error t dots' n ≡ edited (error t dots) l n) where
    pub filtered_edit : (q : ℕ)
        → filtered_error t dots' q ≡ filtered_error t dots q +ℤ sum_over l (λ c. c.amount *ℤ kernel t c.cell q)
    unfolding filtered_error transform
    filtered_edit q =
        ap (λ x. transform (kernel t) (cells t) x q) (fun_ext edit)
        ∙ transform_edit (kernel t) (cells t) (error t dots) l q inside

    pub squared_edit : squared_error t dots' ≡ squared_error t dots
        +ℤ pos 2 *ℤ sum_over l (λ c. c.amount *ℤ filtered_error t dots c.cell)
        +ℤ sum_over l (λ c. sum_over l (λ d. c.amount *ℤ d.amount *ℤ kernel t d.cell c.cell))
    unfolding squared_error filtered_error quadratic bilinear transform
    squared_edit =
        ap (quadratic (kernel t) (cells t)) (fun_ext edit)
        ∙ quadratic_edit (kernel t) (cells t) (λ m n h k. kernel_symmetric m n) (error t dots) l inside

  module _ (wide : 0 < t.width) where
    -- over the widened plate, two cells' psfs overlap by the kernel between them
    overlap : (m n : ℕ) → m < cells t → n < cells t
        → sum_from (neg_ℤ (pos t.radius)) (t.height + 2 * t.radius) (λ y.
        sum_from (neg_ℤ (pos t.radius)) (t.width + 2 * t.radius) (λ x.
        psf_at t.radius t.psf (y -ℤ row t m) (x -ℤ column t m)
        *ℤ psf_at t.radius t.psf (y -ℤ row t n) (x -ℤ column t n)))
        ≡ kernel t m n
    unfolding kernel autocorrelation
    overlap m n h k =
        sum_from_cong o (t.height + 2 * r) (λ y.
        correlate_widened r t.width (m % t.width) (column t n) (p (y -ℤ row t m)) (p (y -ℤ row t n))
        (column< m wide) (s.columns (y -ℤ row t m)))
        ∙ sum_from_swap o o (t.height + 2 * r) (2 * r + 1) (λ y l. p (y -ℤ row t m) l *ℤ p (y -ℤ row t n) (l +ℤ dx))
        ∙ sum_from_cong o (2 * r + 1) (λ l.
        correlate_widened r t.height (m / t.width) (row t n) (λ k. p k l) (λ k. p k (l +ℤ dx))
        (row< m wide h) (s.rows l))
        ∙ sum_from_swap o o (2 * r + 1) (2 * r + 1) (λ l k. p k l *ℤ p (k +ℤ dy) (l +ℤ dx))
      where
        r : ℕ
        r = t.radius

        o : ℤ
        o = neg_ℤ (pos t.radius)

        dy : ℤ
        dy = row t m -ℤ row t n

        dx : ℤ
        dx = column t m -ℤ column t n

        p : ℤ → ℤ → ℤ
        p = psf_at t.radius t.psf

        s : Supported2 t.radius (psf_at t.radius t.psf)
        s = psf_supported t.radius t.psf

    -- E is the sum of the squares of the perceived error
    pub squared_perceived : (dots : List ℕ) → squared_error t dots ≡ perceived_squares t dots
    unfolding perceived_squares perceived_error sum_from squared_error filtered_error quadratic bilinear transform
    squared_perceived dots =
        sym (gram (t.height + 2 * t.radius) (t.width + 2 * t.radius) (cells t)
        (λ y x n. psf_at t.radius t.psf (at y -ℤ row t n) (at x -ℤ column t n)) (error t dots)
        ∙ quadratic_cong (cells t) _ (kernel t) (error t dots) overlap)
      where
        at : ℕ → ℤ
        at y = neg_ℤ (pos t.radius) +ℤ pos y

    pub squared_nonneg : (dots : List ℕ) → pos 0 ≤ℤ squared_error t dots
    unfolding perceived_squares
    squared_nonneg dots =
        subst (λ z. pos 0 ≤ℤ z) (sym (squared_perceived dots))
        (sum_from_nonneg _ _ _ (λ y. sum_from_nonneg _ _ _ (λ x. 0≤-square (perceived_error t dots y x))))

    -- ---- bounds
    module _ (long : length t.psf ≡ (2 * t.radius + 1) * (2 * t.radius + 1)) where
      -- the kernels of all cells with m
      kernels≤ : (m : ℕ) → sum_to (cells t) (λ n. kernel t n m) ≤ℤ (pos (total t.psf) *ℤ pos (total t.psf))
      unfolding kernel sum_from
      kernels≤ m =
          subst (λ z. z ≤ℤ (pos (total t.psf) *ℤ pos (total t.psf))) (sym by_offset)
          (autocorrelation-grid≤ t.radius t.psf long t.height t.width (neg_ℤ (row t m)) (neg_ℤ (column t m)))
        where
          c : ℤ → ℤ → ℤ
          c = autocorrelation t.radius t.psf

          by_offset : sum_to (cells t) (λ n. kernel t n m)
              ≡ sum_from (neg_ℤ (row t m)) t.height (λ y. sum_from (neg_ℤ (column t m)) t.width (c y))
          by_offset =
              sum_cells t.height t.width (λ y x. c (pos y -ℤ row t m) (pos x -ℤ column t m))
              ∙ sum_cong t.height (λ y i. sum_cong t.width (λ x j.
              ap₂ c (+ℤ_comm (pos y) (neg_ℤ (row t m))) (+ℤ_comm (pos x) (neg_ℤ (column t m)))))

      module _ (M B : ℕ) (small : total t.psf ≤ M) (dots : List ℕ)
          (errors : (n : ℕ) → nat_abs (error t dots n) ≤ B) where
        pub filtered≤ : (m : ℕ) → nat_abs (filtered_error t dots m) ≤ M * M * B
        unfolding filtered_error
        filtered≤ m =
            NatL.le_trans (weighted≤ (cells t) (λ n. kernel t n m) (error t dots) B (λ n. kernel_nonneg n m) errors)
            (NatL.mul-le-mul_right B
            (NatL.le_trans
            (nat_abs_below _ (total t.psf * total t.psf)
            (sum_nonneg (cells t) _ (λ n l. kernel_nonneg n m)) (kernels≤ m))
            (NatL.mul-le-mul small small)))

        pub squared≤ : nat_abs (squared_error t dots) ≤ cells t * (B * (M * M * B))
        unfolding squared_error
        squared≤ =
            nat_abs_sum (cells t) _ (B * (M * M * B)) (λ m h.
            nat_abs_mul_le (error t dots m) (filtered_error t dots m) (errors m) (filtered≤ m))

  -- an error is at most the largest gray and the largest dot, each by itself
  pub error≤ : (B : ℕ) (dots : List ℕ) (n : ℕ) → t.step * get_or dots n 0 ≤ B → get_or t.gray n 0 ≤ B
      → nat_abs (error t dots n) ≤ B
  unfolding error
  error≤ B dots n h k = apart (t.step * get_or dots n 0) (get_or t.gray n 0) h k
