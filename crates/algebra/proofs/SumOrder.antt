-- Finite sums of integers: their order, their sizes, and sums over the cells of a grid.
--   sum_mono, sum_nonneg  terms that are at most others; terms that are not negative
--   nat_abs_sum            small terms
--   sum-first≤            the first terms of a sum that has no negative term
--   weighted≤             small terms with weights that are never negative
--   sum_grid, sum_cells   row by row: by the cell, and by its row and column
use mathlib.Core.Path.{◌≡◌, sym, ◌∙◌, ap, ap₂, subst}
use mathlib.Core.List.{[], ◌∷◌}
use Prim.Native.Nat.{ℕ, zero, suc, ◌+◌, ◌*◌, ◌-◌, ◌/◌, ◌%◌, ◌≤◌, ◌<◌}
use native.Mathlib.Nat as NatL
use native.Mathlib.Omega.{arith}
use lib.IntN.{ℤ, pos, nat_abs, ◌+ℤ◌, ◌*ℤ◌}
use lib.Signed.{◌≤ℤ◌, ≤ℤ_refl}
use Rattle.algebra.proofs.Solver.{reify}
use Rattle.algebra.proofs.Order.{ordℤ, show≤, +ℤ-mono, natAbs-+ℤ, nat_abs_plus, nat_abs_mul_le}
use Rattle.algebra.specs.Sum.{sum_to}
use Rattle.algebra.proofs.Grid.{cell_row, cell_column}
use Rattle.algebra.proofs.Sum.{sum_cong, sum_split}

pub sum_mono : (n : ℕ) (f g : ℕ → ℤ) → ((i : ℕ) → i < n → f i ≤ℤ g i) → sum_to n f ≤ℤ sum_to n g
unfolding sum_to
sum_mono zero f g h = ≤ℤ_refl (pos 0)
sum_mono (suc n) f g h =
    +ℤ-mono (sum_to n f) (sum_to n g) (f n) (g n)
    (sum_mono n f g (λ i k. h i (omega arith))) (h n (omega arith))

pub sum_nonneg : (n : ℕ) (f : ℕ → ℤ) → ((i : ℕ) → i < n → pos 0 ≤ℤ f i) → pos 0 ≤ℤ sum_to n f
unfolding sum_to
sum_nonneg zero f h = ≤ℤ_refl (pos 0)
sum_nonneg (suc n) f h =
    +ℤ-mono (pos 0) (sum_to n f) (pos 0) (f n)
    (sum_nonneg n f (λ i k. h i (omega arith))) (h n (omega arith))

pub nat_abs_sum : (n : ℕ) (f : ℕ → ℤ) (B : ℕ) → ((i : ℕ) → i < n → nat_abs (f i) ≤ B) → nat_abs (sum_to n f) ≤ n * B
unfolding sum_to
nat_abs_sum zero f B h = omega arith
nat_abs_sum (suc n) f B h =
    omega (arith, natAbs-+ℤ (sum_to n f) (f n), nat_abs_sum n f B (λ i k. h i (omega arith)), h n (omega arith))

-- the first terms of a sum that has no negative term
pub sum-first≤ : (n N : ℕ) (f : ℕ → ℤ) → n ≤ N → ((i : ℕ) → pos 0 ≤ℤ f i) → sum_to n f ≤ℤ sum_to N f
sum-first≤ n N f h p =
    subst (λ z. sum_to n f ≤ℤ z) (sym (ap (λ k. sum_to k f) size ∙ sum_split n (N - n) f))
    (more (sum_to n f) (sum_to (N - n) (λ i. f (n + i))) (sum_nonneg (N - n) _ (λ i l. p (n + i))))
  where
    size : N ≡ n + (N - n)
    size = omega arith

    more : (a b : ℤ) → pos 0 ≤ℤ b → a ≤ℤ (a +ℤ b)
    more a b k = show≤ (a ∷ b ∷ []) (search reify depth 40) (omega (arith, ordℤ))

-- a sum of small terms with weights that are never negative
pub weighted≤ : (N : ℕ) (c e : ℕ → ℤ) (B : ℕ) → ((n : ℕ) → pos 0 ≤ℤ c n) → ((n : ℕ) → nat_abs (e n) ≤ B)
    → nat_abs (sum_to N (λ n. c n *ℤ e n)) ≤ nat_abs (sum_to N c) * B
unfolding sum_to
weighted≤ zero c e B h k = omega arith
weighted≤ (suc n) c e B h k =
    rw (nat_abs_plus (sum_to n c) (c n) (sum_nonneg n c (λ i l. h i)) (h n))
    (omega (
      arith,
      natAbs-+ℤ (sum_to n (λ n. c n *ℤ e n)) (c n *ℤ e n),
      weighted≤ n c e B h k,
      nat_abs_mul_le (c n) (e n) (NatL.le_refl (nat_abs (c n))) (k n),
    ))

-- the sum over the cells of a grid, row by row
pub sum_grid : (H W : ℕ) (f : ℕ → ℤ) → sum_to (H * W) f ≡ sum_to H (λ y. sum_to W (λ x. f (y * W + x)))
unfolding sum_to
sum_grid zero W f = rw (NatL.zero-mul W)
sum_grid (suc H) W f =
    ap (λ n. sum_to n f) size ∙ sum_split (H * W) W f ∙ ap (λ z. z +ℤ sum_to W (λ x. f (H * W + x))) (sum_grid H W f)
  where
    size : suc H * W ≡ H * W + W
    size = omega arith

-- the same for a function of the row and the column
pub sum_cells : (H W : ℕ) (g : ℕ → ℕ → ℤ) → sum_to (H * W) (λ m. g (m / W) (m % W)) ≡ sum_to H (λ y. sum_to W (λ x. g y x))
sum_cells H W g =
    sum_grid H W (λ m. g (m / W) (m % W))
    ∙ sum_cong H (λ y h. sum_cong W (λ x k. ap₂ g (cell_row k) (cell_column y k)))
