-- A grid that is moved.
use Rattle.std.specs.Prelude.{ℕ, ◌+◌, ◌*◌, ◌/◌, ◌%◌, ℤ, pos, ◌*ℤ◌}
use Rattle.algebra.specs.Sum.{sum_to}
use Rattle.algebra.specs.Quadratic.{point}

-- what comes to row Y and column X where a grid of H rows and W columns is moved a rows down and b columns to the
-- right: the entry of the one cell that comes there, 0 where none does
unfoldable pub moved : (H W : ℕ) (f : ℕ → ℤ) (a b Y X : ℕ) → ℤ
moved H W f a b Y X = sum_to (H * W) (λ n. f n *ℤ (point Y (pos 1) (n / W + a) *ℤ point X (pos 1) (n % W + b)))
