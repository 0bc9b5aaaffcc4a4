-- Laws of the psf and of its autocorrelation c. No mirror symmetry of the psf is used.
--   total_sum                                     the sum of a list, entry by entry
--   psf_entry                                     an entry of the psf by its place in the list
--   autocorrelation_even, autocorrelation_nonneg  c(d) = c(-d), and c ≥ 0
--   autocorrelation_total, autocorrelation≤       the sum of all c is the square of the psf's sum, so no c is larger
--   autocorrelations_at                           the list of its values holds c at every offset
--   autocorrelation_ends                          c is 0 where a coordinate passes 2r
use mathlib.Core.Path.{◌≡◌, refl, sym, ◌∙◌, ap, ap₂, subst}
use mathlib.Core.List.{List, [], ◌∷◌}
use mathlib.Core.Logic.{◌⊎◌, inl, inr}
use Prim.Native.Nat.{ℕ, suc, ◌+◌, ◌*◌, ◌-◌, ◌/◌, ◌%◌, ◌≤◌, ◌<◌}
use native.Mathlib.Nat as NatL
use native.Mathlib.Omega.{arith}
use lib.IntN.{ℤ, pos, neg_ℤ, nat_abs, ◌+ℤ◌, ◌-ℤ◌, ◌*ℤ◌, +ℤ_idl, *ℤ_comm, *ℤ-zero}
use lib.Signed.{◌≤ℤ◌, ◌<ℤ◌}
use lib.ListN.{length, get_or}
use Rattle.algebra.specs.Sum.{sum_to, sum_from}
use Rattle.algebra.proofs.Solver.{ring!, reify}
use Rattle.algebra.proofs.Order.{ordℤ, show<, show≡, read<, 0≤-mul, nat_abs_below}
use Rattle.algebra.proofs.Grid.{cell_row, cell_column, cell<, row<, column<}
use Rattle.algebra.proofs.Sum.{sum_cong, sum_split, sum_zeros, sum_scale_r}
use Rattle.algebra.proofs.SumOrder.{sum_grid, sum_nonneg, sum-first≤, weighted≤}
use Rattle.algebra.proofs.Interval.{sum_from_cong, sum_from_swap, sum_from_swap2, sum_from_scale, sum_from_one}
use Rattle.algebra.proofs.Interval.{sum_from_shift, sum_from_nonneg, correlate_turn, Supported2, grid≤, grid_whole}
use Rattle.model.specs.Basic.{square_at}
use Rattle.model.specs.Psf.{total, psf_at, autocorrelation, autocorrelations}
use Rattle.model.specs.Promises.{Passes}
use Rattle.model.proofs.Basic.{square_above, square_below, square_left, square_right, square_inside, square_by}
use Rattle.model.proofs.Basic.{length-tabulate, get_d_tabulate}

-- the side of the square of c, whose reach is 2r
pub side : (r : ℕ) → 2 * (2 * r) + 1 ≡ 4 * r + 1
side r = omega arith

-- the sum of a list, entry by entry
pub total_sum : (l : List ℕ) → sum_to (length l) (λ n. pos (get_or l n 0)) ≡ pos (total l)
unfolding sum_to total
total_sum [] = refl
total_sum (x ∷ l) =
    ap (λ k. sum_to k f) size
    ∙ sum_split 1 (length l) f
    ∙ ap (λ z. pos 0 +ℤ pos x +ℤ z) (sum_cong (length l) (λ i h. ap f (one_add i)) ∙ total_sum l)
    ∙ ap (λ z. z +ℤ pos (total l)) (+ℤ_idl (pos x))
  where
    f : ℕ → ℤ
    f n = pos (get_or (x ∷ l) n 0)

    size : suc (length l) ≡ 1 + length l
    size = omega arith

    one_add : (i : ℕ) → 1 + i ≡ suc i
    one_add i = omega arith

-- small terms weighed by the first entries
pub weighed≤ : (psf : List ℕ) (i : ℕ) (f : ℕ → ℤ) (B : ℕ) → i ≤ length psf → ((k : ℕ) → nat_abs (f k) ≤ B)
    → nat_abs (sum_to i (λ k. pos (get_or psf k 0) *ℤ f k)) ≤ total psf * B
weighed≤ psf i f B h small =
    NatL.le_trans (weighted≤ i p f B nonneg small)
    (NatL.mul-le-mul_right B
    (nat_abs_below (sum_to i p) (total psf) (sum_nonneg i p (λ k l. nonneg k))
    (subst (λ z. sum_to i p ≤ℤ z) (total_sum psf) (sum-first≤ i (length psf) p h nonneg))))
  where
    p : ℕ → ℤ
    p k = pos (get_or psf k 0)

    nonneg : (k : ℕ) → pos 0 ≤ℤ pos (get_or psf k 0)
    nonneg k = omega (arith, ordℤ)

module _ (r : ℕ) (psf : List ℕ) where
  pub psf_supported : Supported2 r (psf_at r psf)
  unfolding psf_at
  psf_supported =
      record {
        rows = λ x. record {
          below = λ y h. ap pos (square_above 0 r psf y x h);
          above = λ y h. ap pos (square_below 0 r psf y x h);
        };
        columns = λ y. record {
          below = λ x h. ap pos (square_left 0 r psf y x h);
          above = λ x h. ap pos (square_right 0 r psf y x h);
        };
      }

  psf_nonneg : (y x : ℤ) → pos 0 ≤ℤ psf_at r psf y x
  unfolding psf_at
  psf_nonneg y x = omega (arith, ordℤ)

  back : (i : ℕ) → neg_ℤ (pos r) +ℤ pos i +ℤ pos r ≡ pos i
  back i = ring! (pos r ∷ pos i ∷ []) (search reify depth 40) refl

  -- the sum over its square, with its entries' sum
  mass : ℤ
  mass = sum_from (neg_ℤ (pos r)) (2 * r + 1) (λ y. sum_from (neg_ℤ (pos r)) (2 * r + 1) (psf_at r psf y))

  psf_mass : length psf ≡ (2 * r + 1) * (2 * r + 1) → mass ≡ pos (total psf)
  unfolding mass sum_from psf_at
  psf_mass e =
      sum_cong (2 * r + 1) (λ i h.
      sum_cong (2 * r + 1) (λ j k. ap pos (square_inside 0 r psf _ _ i j (back i) (back j) h k)))
      ∙ sym (sum_grid (2 * r + 1) (2 * r + 1) (λ n. pos (get_or psf n 0)))
      ∙ ap (λ n. sum_to n (λ n. pos (get_or psf n 0))) (sym e)
      ∙ total_sum psf

  -- an entry by its place in the list
  pub psf_entry : (k : ℕ) → k < (2 * r + 1) * (2 * r + 1)
      → pos (get_or psf k 0)
      ≡ psf_at r psf (neg_ℤ (pos r) +ℤ pos (k / (2 * r + 1))) (neg_ℤ (pos r) +ℤ pos (k % (2 * r + 1)))
  unfolding psf_at
  psf_entry k h =
      ap pos (sym
      (square_inside 0 r psf _ _ (k / (2 * r + 1)) (k % (2 * r + 1)) (back (k / (2 * r + 1))) (back (k % (2 * r + 1)))
      (row< k some h) (column< k some)
      ∙ ap (λ i. get_or psf i 0) (NatL.div-add-mod' k (2 * r + 1))))
    where
      some : 0 < 2 * r + 1
      some = omega arith

  -- c(d) = c(-d)
  pub autocorrelation_even : (dy dx : ℤ) → autocorrelation r psf dy dx ≡ autocorrelation r psf (neg_ℤ dy) (neg_ℤ dx)
  unfolding autocorrelation
  autocorrelation_even dy dx =
      sum_from_cong o n (λ y. correlate_turn r dx (p y) (p (y +ℤ dy)) (s.columns y) (s.columns (y +ℤ dy)))
      ∙ sum_from_swap o o n n (λ y x. p y (x -ℤ dx) *ℤ p (y +ℤ dy) x)
      ∙ sum_from_cong o n (λ x. correlate_turn r dy (λ y. p y (x -ℤ dx)) (λ y. p y x) (s.rows (x -ℤ dx)) (s.rows x))
      ∙ sum_from_swap o o n n (λ x y. p (y -ℤ dy) (x -ℤ dx) *ℤ p y x)
      ∙ sum_from_cong o n (λ y. sum_from_cong o n (λ x. *ℤ_comm (p (y -ℤ dy) (x -ℤ dx)) (p y x)))
    where
      o : ℤ
      o = neg_ℤ (pos r)

      n : ℕ
      n = 2 * r + 1

      p : ℤ → ℤ → ℤ
      p = psf_at r psf

      s : Supported2 r (psf_at r psf)
      s = psf_supported

  pub autocorrelation_nonneg : (dy dx : ℤ) → pos 0 ≤ℤ autocorrelation r psf dy dx
  unfolding autocorrelation
  autocorrelation_nonneg dy dx =
      sum_from_nonneg _ _ _ (λ y. sum_from_nonneg _ _ _ (λ x.
      0≤-mul _ _ (psf_nonneg y x) (psf_nonneg (y +ℤ dy) (x +ℤ dx))))

  -- c is 0 where a coordinate passes 2r
  abbrev at : ℕ → ℤ
  at i = neg_ℤ (pos r) +ℤ pos i

  none_met : (dy dx : ℤ) → ((i j : ℕ) → i < 2 * r + 1 → j < 2 * r + 1 → psf_at r psf (at i +ℤ dy) (at j +ℤ dx) ≡ pos 0)
      → autocorrelation r psf dy dx ≡ pos 0
  unfolding autocorrelation sum_from
  none_met dy dx h =
      sum_zeros (2 * r + 1) (λ i k.
      sum_zeros (2 * r + 1) (λ j l.
      ap (λ z. psf_at r psf (at i) (at j) *ℤ z) (h i j k l) ∙ *ℤ-zero (psf_at r psf (at i) (at j))))

  pub autocorrelation_supported : Supported2 (2 * r) (autocorrelation r psf)
  autocorrelation_supported =
      record {
        rows = λ dx. record {
          below = λ dy h. none_met dy dx (λ i j k l. (s.rows (at j +ℤ dx)).below (at i +ℤ dy) (under i dy k h));
          above = λ dy h. none_met dy dx (λ i j k l. (s.rows (at j +ℤ dx)).above (at i +ℤ dy) (past i dy h));
        };
        columns = λ dy. record {
          below = λ dx h. none_met dy dx (λ i j k l. (s.columns (at i +ℤ dy)).below (at j +ℤ dx) (under j dx l h));
          above = λ dx h. none_met dy dx (λ i j k l. (s.columns (at i +ℤ dy)).above (at j +ℤ dx) (past j dx h));
        };
      }
    where
      s : Supported2 r (psf_at r psf)
      s = psf_supported

      under : (i : ℕ) (d : ℤ) → i < 2 * r + 1 → d <ℤ neg_ℤ (pos (2 * r)) → (at i +ℤ d) <ℤ neg_ℤ (pos r)
      under i d k h =
          show< (d ∷ pos r ∷ pos i ∷ []) (search reify depth 40)
          (omega (arith, read< (d ∷ pos r ∷ []) (search reify depth 40) h))

      past : (i : ℕ) (d : ℤ) → pos (2 * r) <ℤ d → pos r <ℤ (at i +ℤ d)
      past i d h =
          show< (d ∷ pos r ∷ pos i ∷ []) (search reify depth 40)
          (omega (arith, read< (d ∷ pos r ∷ []) (search reify depth 40) h))

  along : (i : ℕ) → i < 2 * r + 1 → (f : ℤ → ℤ)
      → sum_from (neg_ℤ (pos (2 * r))) (4 * r + 1) (λ d. f (at i +ℤ d))
      ≡ sum_from (neg_ℤ (pos r) -ℤ pos (2 * r - i)) (2 * r - i + (2 * r + 1 + i)) f
  along i h f =
      sum_from_cong (neg_ℤ (pos (2 * r))) (4 * r + 1) (λ d. ap f (turn d))
      ∙ sum_from_shift (neg_ℤ (pos (2 * r))) (neg_ℤ (neg_ℤ (pos r) +ℤ pos i)) (4 * r + 1) f
      ∙ ap₂ (λ a n. sum_from a n f) start size
    where
      turn : (d : ℤ) → neg_ℤ (pos r) +ℤ pos i +ℤ d ≡ d -ℤ neg_ℤ (neg_ℤ (pos r) +ℤ pos i)
      turn d = ring! (d ∷ pos r ∷ pos i ∷ []) (search reify depth 40) refl

      start : neg_ℤ (pos (2 * r)) -ℤ neg_ℤ (neg_ℤ (pos r) +ℤ pos i) ≡ neg_ℤ (pos r) -ℤ pos (2 * r - i)
      start = show≡ (pos r ∷ pos i ∷ pos (2 * r - i) ∷ []) (search reify depth 40) (omega arith)

      size : 4 * r + 1 ≡ 2 * r - i + (2 * r + 1 + i)
      size = omega arith

  -- all offsets from an entry of the psf meet the whole psf
  around : (i j : ℕ) → i < 2 * r + 1 → j < 2 * r + 1
      → sum_from (neg_ℤ (pos (2 * r))) (4 * r + 1) (λ dy.
      sum_from (neg_ℤ (pos (2 * r))) (4 * r + 1) (λ dx. psf_at r psf (at i +ℤ dy) (at j +ℤ dx)))
      ≡ mass
  unfolding mass
  around i j h k =
      sum_from_cong (neg_ℤ (pos (2 * r))) (4 * r + 1) (λ dy. along j k (psf_at r psf (at i +ℤ dy)))
      ∙ along i h (λ y. sum_from (neg_ℤ (pos r) -ℤ pos (2 * r - j)) (2 * r - j + (2 * r + 1 + j)) (psf_at r psf y))
      ∙ grid_whole r (psf_at r psf) psf_supported (2 * r - i) i (2 * r - j) j

  -- the sum of all c is the square of the psf's sum
  pub autocorrelation_total : length psf ≡ (2 * r + 1) * (2 * r + 1)
      → sum_from (neg_ℤ (pos (2 * r))) (4 * r + 1) (λ dy.
      sum_from (neg_ℤ (pos (2 * r))) (4 * r + 1) (autocorrelation r psf dy))
      ≡ pos (total psf) *ℤ pos (total psf)
  unfolding autocorrelation sum_from mass
  autocorrelation_total e =
      sum_from_swap2 (neg_ℤ (pos (2 * r))) (neg_ℤ (pos r)) (4 * r + 1) n (λ dy dx y x. p y x *ℤ p (y +ℤ dy) (x +ℤ dx))
      ∙ sum_cong n (λ i h. sum_cong n (λ j k. taken_out i j ∙ ap (λ z. p (at i) (at j) *ℤ z) (around i j h k)))
      ∙ sum_cong n (λ i h. sum_scale_r n (λ j. p (at i) (at j)) mass)
      ∙ sum_scale_r n (λ i. sum_to n (λ j. p (at i) (at j))) mass
      ∙ ap₂ (λ a b. a *ℤ b) (psf_mass e) (psf_mass e)
    where
      p : ℤ → ℤ → ℤ
      p = psf_at r psf

      n : ℕ
      n = 2 * r + 1

      b : ℤ
      b = neg_ℤ (pos (2 * r))

      taken_out : (i j : ℕ)
          → sum_from b (4 * r + 1) (λ dy. sum_from b (4 * r + 1) (λ dx. p (at i) (at j) *ℤ p (at i +ℤ dy) (at j +ℤ dx)))
          ≡ p (at i) (at j) *ℤ sum_from b (4 * r + 1) (λ dy. sum_from b (4 * r + 1) (λ dx. p (at i +ℤ dy) (at j +ℤ dx)))
      taken_out i j =
          sum_from_cong b (4 * r + 1) (λ dy.
          sum_from_scale b (4 * r + 1) (p (at i) (at j)) (λ dx. p (at i +ℤ dy) (at j +ℤ dx)))
          ∙ sum_from_scale b (4 * r + 1) (p (at i) (at j))
          (λ dy. sum_from b (4 * r + 1) (λ dx. p (at i +ℤ dy) (at j +ℤ dx)))

  -- so no sum of c over a grid is larger, nor any one c
  module _ (e : length psf ≡ (2 * r + 1) * (2 * r + 1)) where
    pub autocorrelation-grid≤ : (H W : ℕ) (a b : ℤ)
        → sum_from a H (λ y. sum_from b W (autocorrelation r psf y)) ≤ℤ (pos (total psf) *ℤ pos (total psf))
    autocorrelation-grid≤ H W a b =
        subst (λ z. sum_from a H (λ y. sum_from b W (autocorrelation r psf y)) ≤ℤ z)
        (ap (λ n. sum_from (neg_ℤ (pos (2 * r))) n (λ y. sum_from (neg_ℤ (pos (2 * r))) n (autocorrelation r psf y)))
        (side r)
        ∙ autocorrelation_total e)
        (grid≤ (2 * r) (autocorrelation r psf) autocorrelation_supported H W a b autocorrelation_nonneg)

    pub autocorrelation≤ : (dy dx : ℤ) → autocorrelation r psf dy dx ≤ℤ (pos (total psf) *ℤ pos (total psf))
    autocorrelation≤ dy dx =
        subst (λ z. z ≤ℤ (pos (total psf) *ℤ pos (total psf)))
        (sum_from_one dy (λ y. sum_from dx 1 (autocorrelation r psf y)) ∙ sum_from_one dx (autocorrelation r psf dy))
        (autocorrelation-grid≤ 1 1 dy dx)

  pub autocorrelations_long : length (autocorrelations r psf) ≡ (4 * r + 1) * (4 * r + 1)
  unfolding autocorrelations
  autocorrelations_long = length-tabulate ((4 * r + 1) * (4 * r + 1)) _

  -- the list of its values is a square of reach 2r that holds c at every offset
  pub autocorrelations_at : (dy dx : ℤ)
      → square_at (pos 0) (2 * r) (autocorrelations r psf) dy dx ≡ autocorrelation r psf dy dx
  unfolding autocorrelations
  autocorrelations_at dy dx =
      square_by (2 * r) _ (autocorrelation r psf) autocorrelation_supported entry dy dx
    where
      c : ℤ → ℤ → ℤ
      c = autocorrelation r psf

      entry : (i j : ℕ) → i < 2 * (2 * r) + 1 → j < 2 * (2 * r) + 1
          → get_or (autocorrelations r psf) (i * (2 * (2 * r) + 1) + j) (pos 0)
          ≡ c (pos i -ℤ pos (2 * r)) (pos j -ℤ pos (2 * r))
      entry i j h k =
          let u : i < 4 * r + 1 = omega arith in
          let v : j < 4 * r + 1 = omega arith in
          ap (λ n. get_or (autocorrelations r psf) (i * n + j) (pos 0)) (side r)
          ∙ get_d_tabulate ((4 * r + 1) * (4 * r + 1)) _ (i * (4 * r + 1) + j) (pos 0) (cell< u v)
          ∙ ap₂ (λ a b. c (pos a -ℤ pos (2 * r)) (pos b -ℤ pos (2 * r))) (cell_row v) (cell_column i v)

-- c is 0 where a coordinate of d passes 2r
pub autocorrelation_ends : (r : ℕ) (psf : List ℕ) (dy dx : ℤ) → Passes r psf dy ⊎ Passes r psf dx
    → autocorrelation r psf dy dx ≡ pos 0
autocorrelation_ends r psf dy dx (inl (inl h)) = ((autocorrelation_supported r psf).rows dx).below dy h
autocorrelation_ends r psf dy dx (inl (inr h)) = ((autocorrelation_supported r psf).rows dx).above dy h
autocorrelation_ends r psf dy dx (inr (inl h)) = ((autocorrelation_supported r psf).columns dy).below dx h
autocorrelation_ends r psf dy dx (inr (inr h)) = ((autocorrelation_supported r psf).columns dy).above dx h
