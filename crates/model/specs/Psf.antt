-- The psf (01: the spread p), its autocorrelation c and its peak P. Offsets are pairs of integers, rows down and
-- columns right, so nothing is cut off or folded at an edge; no mirror symmetry of the psf is assumed.
use Rattle.std.specs.Prelude.{List, [], ◌∷◌, ℕ, ◌+◌, ◌*◌, ◌/◌, ◌%◌, ℤ, pos, neg_ℤ, ◌+ℤ◌, ◌-ℤ◌, ◌*ℤ◌}
use Rattle.algebra.specs.Sum.{sum_from}
use Rattle.model.specs.Basic.{tabulate, square_at}

-- the sum of a list of bytes
unfoldable pub total : List ℕ → ℕ
total [] = 0
total (x ∷ l) = x + total l

module _ (r : ℕ) (psf : List ℕ) where
  -- p(dy, dx): the psf of radius r at an offset from its middle, 0 outside its square
  unfoldable pub psf_at : ℤ → ℤ → ℤ
  psf_at dy dx = pos (square_at 0 r psf dy dx)

  -- c(d) = Σₖ p(k) × p(k + d), over the offsets k = (y, x) of the square
  unfoldable pub autocorrelation : ℤ → ℤ → ℤ
  autocorrelation dy dx =
      sum_from (neg_ℤ (pos r)) (2 * r + 1) (λ y.
      sum_from (neg_ℤ (pos r)) (2 * r + 1) (λ x. psf_at y x *ℤ psf_at (y +ℤ dy) (x +ℤ dx)))

  -- P = c(0, 0)
  abbrev pub peak : ℤ
  peak = autocorrelation (pos 0) (pos 0)

  -- the (4r + 1)² values row by row, offsets rising from -2r
  unfoldable pub autocorrelations : List ℤ
  autocorrelations =
      tabulate ((4 * r + 1) * (4 * r + 1)) (λ i.
      autocorrelation (pos (i / (4 * r + 1)) -ℤ pos (2 * r)) (pos (i % (4 * r + 1)) -ℤ pos (2 * r)))
