-- The few general words that the other definitions use: a choice, a list by its entries, its bound, an entry of a
-- square.
use Rattle.std.specs.Prelude.{Bool, true, false, ◌||◌, List, [], ◌∷◌, ◌++◌, ℕ, zero, suc, ◌+◌, ◌*◌, ◌≤◌, ◌/◌, ◌%◌, ◌^◌, ltb, ℤ, pos, negsuc, ◌+ℤ◌, get_or}

-- the first of two where the test holds, else the second
abbrev pub pick {ℓ} : {A : Type ℓ} → Bool → A → A → A
pick true a b = a
pick false a b = b

-- 1 where the test holds, else 0
abbrev pub one_if : Bool → ℕ
one_if b = pick b 1 0

-- the test holds of some number below n
unfoldable pub some_below : ℕ → (ℕ → Bool) → Bool
some_below zero f = false
some_below (suc n) f = some_below n f || f n

-- bit i of a number
abbrev pub bit : ℕ → ℕ → ℕ
bit i n = n / 2 ^ i % 2

-- f 0, f 1, … f (n - 1)
unfoldable pub tabulate {ℓ} : {A : Type ℓ} → ℕ → (ℕ → A) → List A
tabulate zero f = []
tabulate (suc n) f = tabulate n f ++ (f n ∷ [])

-- the one exactly when the other
abbrev pub Exactly : Type 0 → Type 0 → Type 0
Exactly A B = (A → B) × (B → A)

-- it holds of every entry of a list
abbrev pub All : {A : Type 0} → (A → Type 0) → List A → Type 0
All P [] = Unit {0}
All P (x ∷ l) = P x × All P l

-- every entry is at most k
pub record AtMost (k : ℕ) (l : List ℕ) : Type 0 where
  pub each : (i : ℕ) → get_or l i 0 ≤ k

-- row y and column x of a square of n rows given row by row, and z outside it
unfoldable pub grid_at : {A : Type 0} → A → ℕ → List A → ℤ → ℤ → A
grid_at z n l (pos y) (pos x) = pick (ltb y n) (pick (ltb x n) (get_or l (y * n + x) z) z) z
grid_at z n l (pos y) (negsuc x) = z
grid_at z n l (negsuc y) x = z

-- the same by the offset from the middle of a square of 2r + 1 rows: rows down, columns right
unfoldable pub square_at : {A : Type 0} → A → ℕ → List A → ℤ → ℤ → A
square_at z r l dy dx = grid_at z (2 * r + 1) l (dy +ℤ pos r) (dx +ℤ pos r)
