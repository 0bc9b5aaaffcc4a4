-- The autocorrelation as windows build it.
use Rattle.std.specs.Prelude.{List, ℕ, ◌+◌, ◌*◌, ◌-◌, ◌/◌, ◌%◌, ℤ, pos, length, get_or}
use Rattle.model.specs.Basic.{tabulate}
use Rattle.invariants.specs.Window.{scattered}

module _ (r : ℕ) (p : List ℤ) where
  -- the first n entries of p, each with a window of p around its mirrored place
  abbrev pub mirrored_at : ℕ → ℕ → ℤ
  mirrored_at =
      scattered (4 * r + 1) r p (λ i. get_or p i (pos 0)) (λ i. 3 * r - i / (2 * r + 1)) (λ i. 3 * r - i % (2 * r + 1))

  unfoldable pub mirrored : List ℤ
  mirrored = tabulate ((4 * r + 1) * (4 * r + 1)) (mirrored_at (length p))
