-- What a judged plate's sums are, and the division of their difference. What `divide` answers meets the condition of a tone
-- balance, case by case; so it is the one that does (`divides_is`).
--   from_0, exact_below, left_below  a difference that is not below 0; below 0 and a multiple of n; below 0 and none
--   quotient_few                     the quotient is small enough for its width
--   fits, few                        what was handed in, where nothing is drawn; its cells are few
--   dots_few, gray_few               and so are its two sums
--   by_sums                          the two sums divided are the difference divided
use mathlib.Core.List.{List, [], ◌∷◌}
use mathlib.Core.Path.{◌≡◌, refl, ◌∙◌, ap₂}
use Prim.Native.Nat.{ℕ, ◌+◌, ◌*◌, ◌-◌, ◌/◌, ◌%◌, ◌≤◌, ◌<◌}
use native.Mathlib.Nat as NatL
use native.Mathlib.Omega.{arith}
use lib.IntN.{ℤ, pos, neg_ℤ, ◌-ℤ◌}
use lib.ListN.{length}
use Rattle.algebra.proofs.Solver.{reify}
use Rattle.algebra.proofs.Order.{show≡}
use Rattle.model.specs.declared.Size.{Size}
use Rattle.model.specs.declared.ToneBalance.{ToneBalance}
use Rattle.model.specs.Basic.{AtMost}
use Rattle.model.specs.Psf.{total}
use Rattle.model.specs.Error.{black, most_cells}
use Rattle.model.specs.Refusal.{first_of}
use Rattle.model.specs.Netpbm.{InSize, cells_in}
use Rattle.model.specs.Balance.{divided, tone_difference, target_of_size, balance_refusals}
use Rattle.model.proofs.Balance.{divides_is, balance_fits}
use Rattle.model.proofs.State.{total≤}

pub quotient_few : (d n : ℕ) {k : ℕ} → d ≤ k → d / n ≤ k
quotient_few d n h = omega (arith, NatL.div-le_self d n)

-- what the dots are worth less the total of gray, divided by n cells
module _ (worth total n : ℕ) (some : 0 < n) where
  abbrev is : ℤ → ℕ → Type 0
  is q r = record { quotient = q; remainder = r } ≡ divided (pos worth -ℤ pos total) n

  pub from_0 : total ≤ worth → is (pos ((worth - total) / n)) ((worth - total) % n)
  from_0 h =
      let q : ℕ = (worth - total) / n in
      let r : ℕ = (worth - total) % n in
      divides_is (record {
        adds_up =
            show≡ (pos worth ∷ pos total ∷ pos q ∷ pos n ∷ pos r ∷ []) (search reify depth 40)
            (omega (arith, h, NatL.div-add-mod' (worth - total) n));
        is_below = NatL.mod-lt (worth - total) some;
      })

  module _ (h : worth < total) where
    pub exact_below : (total - worth) % n ≡ 0 → is (neg_ℤ (pos ((total - worth) / n))) 0
    exact_below e =
        let q : ℕ = (total - worth) / n in
        divides_is (record {
          adds_up =
              show≡ (pos worth ∷ pos total ∷ pos q ∷ pos n ∷ []) (search reify depth 40)
              (omega (arith, h, e, NatL.div-add-mod' (total - worth) n));
          is_below = some;
        })

    pub left_below : ((total - worth) % n ≡ 0 → ⊥)
        → is (neg_ℤ (pos ((total - worth) / n + 1))) (n - (total - worth) % n)
    left_below e =
        let q : ℕ = (total - worth) / n in
        let r : ℕ = (total - worth) % n in
        let low : r < n = NatL.mod-lt (total - worth) some in
        divides_is (record {
          adds_up =
              show≡ (pos worth ∷ pos total ∷ pos q ∷ pos n ∷ pos (n - r) ∷ []) (search reify depth 40)
              (omega (arith, h, low, NatL.add-mul q 1 n, NatL.div-add-mod' (total - worth) n));
          is_below = omega (arith, e, low);
        })

module _ (z : Size) (gray dots : List ℕ) (e : 0 ≡ first_of (balance_refusals z (length gray) dots)) where
  pub fits : InSize z × (length gray ≡ cells_in z) × (length dots ≡ cells_in z) × AtMost 1 dots
  fits = balance_fits z (length gray) dots e refl

  pub few : cells_in z ≤ most_cells
  few = NatL.mul-le-mul {n₂ = 256} {m₂ = 256} fits.0.high.1 fits.0.wide.1

  pub dots_few : total dots ≤ most_cells
  dots_few = omega (arith, few, fits.2, total≤ 1 dots fits.3)

  pub gray_few : AtMost 255 gray → total gray ≤ black * most_cells
  gray_few bytes = omega (arith, few, fits.1, total≤ 255 gray bytes)

pub by_sums : (z : Size) (gray dots : List ℕ) (d g : ℕ) {b : ToneBalance}
    → b ≡ divided (pos (255 * d) -ℤ pos g) (cells_in z)
    → d ≡ total dots
    → g ≡ total gray
    → b ≡ divided (tone_difference (target_of_size z gray) dots) (cells_in z)
unfolding tone_difference
by_sums z gray dots d g e f h = e ∙ ap₂ (λ d g. divided (pos (255 * d) -ℤ pos g) (cells_in z)) f h
