-- The quadratic form of a kernel over the cells 0 .. N - 1, and an edit: a list of cells, each with the amount it
-- gains.
use Rattle.std.specs.Prelude.{cond, List, [], ◌∷◌, ℕ, ◌<◌, eqb, ℤ, pos, ◌+ℤ◌, ◌*ℤ◌}
use Rattle.algebra.specs.Sum.{sum_to, sum_over}

-- Σₙ C(n, m)·x(n)
unfoldable pub transform : (C : ℕ → ℕ → ℤ) (N : ℕ) (x : ℕ → ℤ) → ℕ → ℤ
transform C N x m = sum_to N (λ n. C n m *ℤ x n)

-- Σₘ x(m)·Σₙ C(n, m)·y(n)
unfoldable pub bilinear : (C : ℕ → ℕ → ℤ) (N : ℕ) (x y : ℕ → ℤ) → ℤ
bilinear C N x y = sum_to N (λ m. x m *ℤ transform C N y m)

unfoldable pub quadratic : (C : ℕ → ℕ → ℤ) (N : ℕ) (x : ℕ → ℤ) → ℤ
quadratic C N x = bilinear C N x x

-- one cell of an edit
pub record Increment : Type 0 where
  pub cell : ℕ
  pub amount : ℤ

-- every cell of the edit is below N
abbrev pub Within : ℕ → List Increment → Type 0
Within N [] = Unit {0}
Within N (c ∷ l) = (c.cell < N) × Within N l

-- a at k, and 0 elsewhere
unfoldable pub point : ℕ → ℤ → ℕ → ℤ
point k a i = cond (eqb i k) a (pos 0)

-- what the edit adds at n
unfoldable pub gained : List Increment → ℕ → ℤ
gained l n = sum_over l (λ c. point c.cell c.amount n)

-- x after the edit
unfoldable pub edited : (ℕ → ℤ) → List Increment → ℕ → ℤ
edited x l n = x n +ℤ gained l n
