-- How long a number and a row are at most, and how long the line of a refusal is.
use mathlib.Core.List.{List, [], ◌∷◌}
use mathlib.Core.Path.{◌≡◌}
use Prim.Native.Nat.{ℕ, ◌+◌, ◌*◌, ◌^◌, ◌≤◌, ◌<◌}
use native.Mathlib.Nat.{lt_trans}
use native.Mathlib.Omega.{arith}
use lib.Dec.{lit<}
use lib.ListN.{length, length-append}
use Rattle.model.specs.Basic.{All}
use Rattle.model.specs.Text.{digits}
use Rattle.model.specs.Sheet.{row}
use Rattle.model.specs.Program.{refused_text}
use Rattle.model.proofs.Text.{length_most}

-- a number of 64 bits
pub digits_most : (n : ℕ) → n < 2 ^ 64 → length (digits n) ≤ 20
digits_most n h = length_most 19 n (lt_trans h (lit< tt))

-- a row of such numbers
pub row_most : (vs : List ℕ) → All (λ v. v < 2 ^ 64) vs → length (row vs) ≤ 21 * length vs + 1
row_most [] h = omega arith
row_most (v ∷ []) h = simp length-append (omega (arith, digits_most v h.0))
row_most (v ∷ u ∷ vs) h = simp length-append (omega (arith, digits_most v h.0, row_most (u ∷ vs) h.1))

pub refused_length : (n o : ℕ) → length (refused_text n o) ≡ 8 + length (digits n) + 4 + (length (digits o) + 1)
unfolding refused_text
refused_length n o = simp length-append (omega arith)
