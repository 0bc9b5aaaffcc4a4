-- T in two passes: the perceived error, which is the error spread by the psf, is gathered by the psf again.
--   perceived_spread    the perceived error: the errors moved by each entry of the psf, and weighed by it
--   filtered_perceived  T(m) = Σₖ p(k) × g(m + k), where g is the perceived error
--   filtered_gathered   the same, coordinates counted from the edge of the widened plate
use mathlib.Core.Path.{◌≡◌, refl, sym, ◌∙◌, ap, ap₂}
use mathlib.Core.List.{List, [], ◌∷◌}
use Prim.Native.Nat.{ℕ, ◌+◌, ◌*◌, ◌/◌, ◌%◌, ◌<◌}
use native.Mathlib.Omega.{arith}
use lib.IntN.{ℤ, pos, neg_ℤ, ◌+ℤ◌, ◌-ℤ◌, ◌*ℤ◌}
use lib.Signed.{◌<ℤ◌}
use lib.ListN.{get_or}
use Rattle.algebra.specs.Sum.{sum_to, sum_from}
use Rattle.algebra.specs.Moved.{moved}
use Rattle.algebra.proofs.Solver.{ring!, reify}
use Rattle.algebra.proofs.Order.{read<, read≡}
use Rattle.algebra.proofs.Sum.{sum_cong, sum_scale, sum_scale_r, sum_swap}
use Rattle.algebra.proofs.SumOrder.{sum_cells}
use Rattle.algebra.proofs.Moved.{moved_one, moved_none, moved_swap}
use Rattle.model.specs.Psf.{psf_at, autocorrelation}
use Rattle.model.specs.Error.{Target, cells, row, column, kernel, error, filtered_error, perceived_error}
use Rattle.model.proofs.Basic.{Place, before, within, after, place, square_inside}
use Rattle.model.proofs.Psf.{psf_supported, psf_entry}
use Rattle.model.proofs.Error.{kernel_symmetric}

-- the psf moved by a and b, its places counted from the corner of the widened plate
module _ (r : ℕ) (psf : List ℕ) (a b Y X : ℕ) where
  abbrev off : ℕ → ℕ → ℤ
  off y a = neg_ℤ (pos r) +ℤ pos y -ℤ pos a

  met : (y a i : ℕ) → off y a +ℤ pos r ≡ pos i → i + a ≡ y
  met y a i e = omega (arith, read≡ (pos r ∷ pos y ∷ pos a ∷ pos i ∷ []) (search reify depth 40) e)

  under : (y a i : ℕ) → off y a <ℤ neg_ℤ (pos r) → i + a ≡ y → ⊥
  under y a i h e = omega (arith, read< (pos r ∷ pos y ∷ pos a ∷ []) (search reify depth 40) h)

  past : (y a i : ℕ) → pos r <ℤ off y a → i < 2 * r + 1 → i + a ≡ y → ⊥
  past y a i h k e = omega (arith, read< (pos r ∷ pos y ∷ pos a ∷ []) (search reify depth 40) h)

  moved_psf : moved (2 * r + 1) (2 * r + 1) (λ k. pos (get_or psf k 0)) a b Y X ≡ psf_at r psf (off Y a) (off X b)
  unfolding psf_at
  moved_psf = go (place r (off Y a)) (place r (off X b))
    where
      s : ℕ
      s = 2 * r + 1

      p : ℕ → ℤ
      p k = pos (get_or psf k 0)

      none : ((y x : ℕ) → y < 2 * r + 1 → x < 2 * r + 1 → y + a ≡ Y → x + b ≡ X → ⊥) → moved s s p a b Y X ≡ pos 0
      none = moved_none s s p a b Y X (omega arith)

      go : Place r (off Y a) → Place r (off X b) → moved s s p a b Y X ≡ psf_at r psf (off Y a) (off X b)
      go (before k) q =
          none (λ y x h l e g. under Y a y k e) ∙ sym (((psf_supported r psf).rows (off X b)).below (off Y a) k)
      go (after k) q =
          none (λ y x h l e g. past Y a y k h e) ∙ sym (((psf_supported r psf).rows (off X b)).above (off Y a) k)
      go (within i h e) (before k) =
          none (λ y x h l e g. under X b x k g) ∙ sym (((psf_supported r psf).columns (off Y a)).below (off X b) k)
      go (within i h e) (after k) =
          none (λ y x h l e g. past X b x k l g) ∙ sym (((psf_supported r psf).columns (off Y a)).above (off X b) k)
      go (within i h e) (within j k g) =
          moved_one s s p a b Y X i j h k (met Y a i e) (met X b j g)
          ∙ ap pos (sym (square_inside 0 r psf (off Y a) (off X b) i j e g h k))

module _ (t : Target) (dots : List ℕ) where
  -- a coordinate counted from the edge of the widened plate or of the psf
  abbrev at : ℕ → ℤ
  at y = neg_ℤ (pos t.radius) +ℤ pos y

  -- the errors moved by each entry of the psf, and weighed by it
  pub perceived_spread : (Y X : ℕ)
      → sum_to ((2 * t.radius + 1) * (2 * t.radius + 1)) (λ k. pos (get_or t.psf k 0)
      *ℤ moved t.height t.width (error t dots) (k / (2 * t.radius + 1)) (k % (2 * t.radius + 1)) Y X)
      ≡ perceived_error t dots (at Y) (at X)
  unfolding perceived_error
  perceived_spread Y X =
      moved_swap t.height t.width s s (error t dots) (λ k. pos (get_or t.psf k 0)) Y X
      ∙ sum_cong (cells t) (λ n h.
      ap (λ z. error t dots n *ℤ z) (moved_psf t.radius t.psf (n / t.width) (n % t.width) Y X))
    where
      s : ℕ
      s = 2 * t.radius + 1

  -- T(m) = Σₖ p(k) × g(m + k), where g is the perceived error
  pub filtered_perceived : (m : ℕ)
      → filtered_error t dots m ≡ sum_from (neg_ℤ (pos t.radius)) (2 * t.radius + 1) (λ y.
      sum_from (neg_ℤ (pos t.radius)) (2 * t.radius + 1) (λ x.
      psf_at t.radius t.psf y x *ℤ perceived_error t dots (row t m +ℤ y) (column t m +ℤ x)))
  unfolding filtered_error perceived_error kernel autocorrelation sum_from
  filtered_perceived m =
      sum_cong N (λ n h. ap (λ z. z *ℤ e n) (kernel_symmetric t n m) ∙ taken_in n)
      ∙ sum_swap N s (λ n i. sum_to s (λ j. p (at i) (at j) *ℤ (e n *ℤ o n i j)))
      ∙ sum_cong s (λ i h.
      sum_swap N s (λ n j. p (at i) (at j) *ℤ (e n *ℤ o n i j))
      ∙ sum_cong s (λ j l. sum_scale N (p (at i) (at j)) (λ n. e n *ℤ o n i j)))
    where
      N : ℕ
      N = cells t

      s : ℕ
      s = 2 * t.radius + 1

      e : ℕ → ℤ
      e = error t dots

      p : ℤ → ℤ → ℤ
      p = psf_at t.radius t.psf

      o : ℕ → ℕ → ℕ → ℤ
      o n i j = p (row t m +ℤ at i -ℤ row t n) (column t m +ℤ at j -ℤ column t n)

      turn : (a b c : ℤ) → c +ℤ (a -ℤ b) ≡ a +ℤ c -ℤ b
      turn a b c = ring! (a ∷ b ∷ c ∷ []) (search reify depth 40) refl

      pull : (a b c : ℤ) → a *ℤ b *ℤ c ≡ a *ℤ (c *ℤ b)
      pull a b c = ring! (a ∷ b ∷ c ∷ []) (search reify depth 40) refl

      taken_in : (n : ℕ) → kernel t m n *ℤ e n ≡ sum_to s (λ i. sum_to s (λ j. p (at i) (at j) *ℤ (e n *ℤ o n i j)))
      taken_in n =
          sym (sum_scale_r s _ (e n))
          ∙ sum_cong s (λ i h.
          sym (sum_scale_r s _ (e n))
          ∙ sum_cong s (λ j l.
          pull (p (at i) (at j)) _ (e n)
          ∙ ap₂ (λ y x. p (at i) (at j) *ℤ (e n *ℤ p y x))
          (turn (row t m) (row t n) (at i)) (turn (column t m) (column t n) (at j))))

  -- the same over the places of the psf, coordinates counted from the edge of the widened plate
  pub filtered_gathered : (m : ℕ)
      → sum_to ((2 * t.radius + 1) * (2 * t.radius + 1)) (λ k. pos (get_or t.psf k 0)
      *ℤ perceived_error t dots
      (at (m / t.width + k / (2 * t.radius + 1))) (at (m % t.width + k % (2 * t.radius + 1))))
      ≡ filtered_error t dots m
  unfolding sum_from
  filtered_gathered m =
      sum_cong (s * s) (λ k h.
      ap₂ (λ a b. a *ℤ b) (psf_entry t.radius t.psf k h)
      (ap₂ (perceived_error t dots) (shift (m / t.width) (k / s)) (shift (m % t.width) (k % s))))
      ∙ sum_cells s s (λ y x.
      psf_at t.radius t.psf (at y) (at x) *ℤ perceived_error t dots (row t m +ℤ at y) (column t m +ℤ at x))
      ∙ sym (filtered_perceived m)
    where
      s : ℕ
      s = 2 * t.radius + 1

      shift : (a b : ℕ) → at (a + b) ≡ pos a +ℤ at b
      shift a b = ring! (pos t.radius ∷ pos a ∷ pos b ∷ []) (search reify depth 40) refl
