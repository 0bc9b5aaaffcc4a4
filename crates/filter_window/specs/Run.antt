-- What a run adds to a table.
use Rattle.std.specs.Prelude.{◌≡◌, List, ℕ, ◌+◌, ◌≤◌, ◌<◌, ℤ, pos, ◌+ℤ◌, ◌*ℤ◌, length, get_or}

-- t is t₀ with n entries of c, from `from` on, times the amount, added to its entries from `at` on
pub record Ran (at : ℕ) (c : List ℤ) (from : ℕ) (amount : ℤ) (n : ℕ) (t₀ t : List ℤ) : Type 0 where
  pub long : length t ≡ length t₀
  pub below : (q : ℕ) → q < at → get_or t q (pos 0) ≡ get_or t₀ q (pos 0)
  pub within : (k : ℕ) → k < n
      → get_or t (at + k) (pos 0) ≡ get_or t₀ (at + k) (pos 0) +ℤ amount *ℤ get_or c (from + k) (pos 0)
  pub beyond : (q : ℕ) → at + n ≤ q → get_or t q (pos 0) ≡ get_or t₀ q (pos 0)
