-- What holds of every halftone (01: plate) that is not refused.
--   few_cells                                     its cells are at most 65,536
--   squared_least                                 E is never negative, whatever the gray
--   errors_most, filtered_most, squared_most      the sizes of errors, table and E, gray being made of bytes
--   taken_filtered                                the bound of |T|, by what the calls refuse
--   taken_perceived, taken_nonneg, taken_squared  E as the sum of the squares of the perceived error, and its bounds
use mathlib.Core.List.{List, [], ◌∷◌}
use mathlib.Core.Path.{◌≡◌, ◌∙◌}
use Prim.Native.Nat.{ℕ, ◌*◌, ◌≤◌}
use native.Mathlib.Nat.{le_trans, mul-le-mul, mul-le-mul_left, mul-le-mul_right}
use native.Mathlib.Omega.{arith}
use lib.IntN.{pos, nat_abs}
use lib.Signed.{◌≤ℤ◌}
use lib.ListN.{length}
use Rattle.algebra.proofs.Order.{nat_abs_above}
use Rattle.model.specs.Basic.{AtMost}
use Rattle.model.specs.Error.{Target, target_of, cells, most_filtered, most_cells, most_squared, error}
use Rattle.model.specs.Error.{filtered_error, squared_error, perceived_squares}
use Rattle.model.specs.Refusal.{HalftoneFits, halftone_refusal}
use Rattle.model.proofs.Error.{filtered≤, squared≤, squared_nonneg, error≤, squared_perceived}
use Rattle.model.proofs.Refusal.{halftone_again, halftone_fits}

-- its cells are at most 65,536
pub few_cells : {t : Target} {dots : List ℕ} {table : ℕ} → HalftoneFits t dots table → cells t ≤ most_cells
few_cells f = mul-le-mul {n₂ = 256} {m₂ = 256} f.high.1 f.wide.1

module _ {t : Target} {dots : List ℕ} {table : ℕ} (f : HalftoneFits t dots table) where
  -- whatever the gray is made of
  pub squared_least : pos 0 ≤ℤ squared_error t dots
  squared_least = squared_nonneg t f.wide.0 dots

  module _ (bytes : AtMost 255 t.gray) where
    pub errors_most : (n : ℕ) → nat_abs (error t dots n) ≤ 255
    errors_most n =
        error≤ t 255 dots n (omega (arith, mul-le-mul_left t.step (f.bits.each n), f.top_black)) (bytes.each n)

    pub filtered_most : (m : ℕ) → nat_abs (filtered_error t dots m) ≤ most_filtered
    filtered_most =
        filtered≤ t f.wide.0 f.psf_fits.square 1024 255 f.psf_fits.sum_high dots errors_most

    pub squared_most : squared_error t dots ≤ℤ pos most_squared
    squared_most =
        nat_abs_above (squared_error t dots) most_squared
        (le_trans (squared≤ t f.wide.0 f.psf_fits.square 1024 255 f.psf_fits.sum_high dots errors_most)
        (mul-le-mul_right (255 * most_filtered) (few_cells f)))

-- ---- the same, by what the calls refuse
module _ (w h r : ℕ) (psf gray dots : List ℕ) where
  -- |T|
  pub taken_filtered : (table m : ℕ) → halftone_refusal w h r psf gray dots (table ∷ []) ≡ 0 → AtMost 255 gray
      → nat_abs (filtered_error (target_of w h r psf gray) dots m) ≤ most_filtered
  taken_filtered table m e bytes =
      filtered_most (halftone_fits w h r psf gray dots table e) bytes m

  module _ (taken : halftone_refusal w h r psf gray dots [] ≡ 0) where
    fits : HalftoneFits (target_of w h r psf gray) dots (length gray)
    fits = halftone_fits w h r psf gray dots (length gray) (halftone_again w h r psf gray dots ∙ taken)

    -- E, of any gray
    pub taken_perceived : squared_error (target_of w h r psf gray) dots ≡ perceived_squares (target_of w h r psf gray) dots
    taken_perceived = squared_perceived (target_of w h r psf gray) fits.wide.0 dots

    pub taken_nonneg : pos 0 ≤ℤ squared_error (target_of w h r psf gray) dots
    taken_nonneg = squared_least fits

    pub taken_squared : AtMost 255 gray → squared_error (target_of w h r psf gray) dots ≤ℤ pos most_squared
    taken_squared bytes = squared_most fits bytes
