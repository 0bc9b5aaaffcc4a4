-- Laws that several proofs use: a value with a sign, as its local holds it (`signed_holds`), the sum of a toggle, likewise
-- (`toggle_sum_holds`), and the sign of a multiple (`multiple_sign`).
use mathlib.Core.Bool.{true}
use mathlib.Core.Path.{◌≡◌, refl, sym, ◌∙◌, ap}
use Prim.Native.Nat.{ℕ, zero, suc, ◌*◌, ◌^◌, ◌≤◌, ◌<◌}
use native.Mathlib.Omega.{arith}
use borrow.Author.Tests.{le-ltb}
use lib.Dec.{lit<}
use lib.IntN.{ℤ, pos, negsuc, neg_ℤ, nat_abs, ◌+ℤ◌, ◌*ℤ◌}
use lib.Signed.{lt_z}
use mir.Syntax.{w32}
use mir.Val.{to_z, of_z}
use Rattle.algebra.proofs.Machine.{Holds, of_small, named, size_of}
use Rattle.model.specs.Error.{most_filtered}
use Rattle.invariants.specs.Window.{most_kernel}

pub signed_holds : {n k : ℕ} {v : ℤ} (r s : ℤ) → Holds w32 n v k → k < 2 ^ 31
    → (r ≡ s *ℤ to_z w32 n) × (nat_abs r ≡ nat_abs (to_z w32 n)) → Holds w32 (of_z w32 r) (s *ℤ v) k
signed_holds r s h q e =
    named (e.0 ∙ ap (λ z. s *ℤ z) h.value) (of_small w32 r (omega (arith, e.1, size_of h)) q)

-- ---- the sum of a toggle
-- it is worked out with the peak as its local holds it
pub toggle_sum_holds : (s T P : ℤ) {r : ℤ} → nat_abs P ≤ most_kernel
    → (r ≡ pos 2 *ℤ s *ℤ T +ℤ pos 255 *ℤ to_z w32 (of_z w32 P)) × (nat_abs r ≤ 3 * most_filtered)
    → Holds w32 (of_z w32 r) (pos 2 *ℤ s *ℤ T +ℤ pos 255 *ℤ P) (3 * most_filtered)
toggle_sum_holds s T P {r} h (e, small) =
    named (e ∙ ap (λ z. pos 2 *ℤ s *ℤ T +ℤ pos 255 *ℤ z) (of_small w32 P h (lit< tt)).value)
    (of_small w32 r small (lit< tt))

-- ---- the sign of a multiple
negative : (n : ℕ) → 0 < n → lt_z (neg_ℤ (pos n)) (pos 0) ≡ true
negative zero h = absurd (omega arith)
negative (suc n) h = refl

pub multiple_sign : (k : ℕ) (z : ℤ) → lt_z (pos (suc k) *ℤ z) (pos 0) ≡ lt_z z (pos 0)
multiple_sign k (pos n) = le-ltb (suc k * n) 0 (omega arith) ∙ sym (le-ltb n 0 (omega arith))
multiple_sign k (negsuc n) = negative (suc k * suc n) (omega arith)
