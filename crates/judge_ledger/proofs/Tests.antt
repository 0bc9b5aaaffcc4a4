-- What the judges of 20 and 21 rest on.
--   apart        two numbers that are not the same are unequal
--   plate_asked  what is asked of the numbers of a judged plate
use mathlib.Core.Bool.{true}
use mathlib.Core.List.{List}
use mathlib.Core.Path.{◌≡◌, subst}
use Prim.Native.Nat.{ℕ, ◌≤◌}
use native.Mathlib.Omega.{arith}
use lib.IntN.{ℤ, pos}
use lib.Signed.{◌≤ℤ◌}
use Rattle.std.proofs.lemmas.Bool.{true_from_ne_false}
use Rattle.model.specs.Basic.{AtMost}
use Rattle.model.specs.Error.{Target, squared_error, most_cells, most_squared}
use Rattle.model.specs.Ledger.{dot_total, unequal}
use Rattle.model.specs.Refusal.{HalftoneFits}
use Rattle.model.proofs.Halftone.{few_cells, squared_least, squared_most}
use Rattle.model.proofs.State.{equal, total≤}

pub apart : (a b : ℤ) → (a ≡ b → ⊥) → unequal a b ≡ true
apart a b h = true_from_ne_false (unequal a b) (λ e. h (equal a b e))

-- its table, dots and squared error
pub plate_asked : {t : Target} {dots : List ℕ} {n count : ℕ} {squared : ℤ} → HalftoneFits t dots n → t.top ≡ 1
    → AtMost 255 t.gray → count ≡ dot_total dots → squared ≡ squared_error t dots
    → (n ≤ most_cells) × (count ≤ most_cells) × (pos 0 ≤ℤ squared) × (squared ≤ℤ pos most_squared)
plate_asked {dots} f top bytes count squared =
    let few = few_cells f in
    let bits : AtMost 1 dots = subst (λ k. AtMost k dots) top f.bits in (
      omega (arith, few, f.table_length),
      omega (arith, few, f.dots_length, count, total≤ 1 dots bits),
      rw squared (squared_least f),
      rw squared (squared_most f bytes),
    )
