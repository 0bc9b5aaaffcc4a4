-- Finite sums of integers: over 0 .. n - 1, over an interval of ℤ, and over a list.
use Rattle.std.specs.Prelude.{List, [], ◌∷◌, ℕ, zero, suc, ℤ, pos, ◌+ℤ◌}

-- f 0 + f 1 + … + f (n - 1)
unfoldable pub sum_to : ℕ → (ℕ → ℤ) → ℤ
sum_to zero f = pos zero
sum_to (suc n) f = sum_to n f +ℤ f n

-- f a + f (a + 1) + … + f (a + n - 1)
unfoldable pub sum_from : ℤ → ℕ → (ℤ → ℤ) → ℤ
sum_from a n f = sum_to n (λ i. f (a +ℤ pos i))

-- the sum of f over the entries of a list
unfoldable pub sum_over : {A : Type 0} → List A → (A → ℤ) → ℤ
sum_over [] f = pos zero
sum_over (c ∷ l) f = f c +ℤ sum_over l f
