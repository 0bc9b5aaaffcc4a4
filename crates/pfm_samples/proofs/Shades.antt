-- A shade is above 0 and at most 1 (`shade_positive`), or its brightness is 0 (`shade_zero`).
use mathlib.Core.Bool.{true, false, true≢false}
use mathlib.Core.Path.{◌≡◌, refl, sym, ◌∙◌, ap}
use Prim.Native.Nat.{◌+◌, ◌*◌, ◌/◌, ◌≤◌}
use native.Mathlib.Nat.{zero-mul, zero-div}
use native.Mathlib.Omega.{arith}
use borrow.Author.Tests.{ltb-false, ltb-true}
use lib.Dec.{T, lt→ltb}
use lib.Ieee.{Float, nan, inf, fin, up, down, lt}
use lib.Ieee.Positive.{num, den, positive, first_pos}
use Rattle.model.specs.Pfm.{zero_float, is_shade, From0To1, brightness}
use Rattle.model.proofs.Samples.{shade_values}

pub shade_positive : (v : Float) → lt zero_float v ≡ true → is_shade v ≡ true → T (positive v) × (num v ≤ den v)
unfolding lt
shade_positive v a s = go v a (shade_values v s)
  where
    go : (v : Float) → lt zero_float v ≡ true → From0To1 v → T (positive v) × (num v ≤ den v)
    go nan a h = absurd h
    go (inf s) a h = absurd h
    go (fin true m e) a h = absurd (true≢false (sym a))
    go (fin false m e) a (l, z) =
        (lt→ltb 0 m (first_pos m (up e) (omega (arith, ltb-true (0 * down e) (m * up e * 1) a))), l)

pub shade_zero : (v : Float) → lt zero_float v ≡ false → is_shade v ≡ true → 0 ≡ brightness v
unfolding brightness lt
shade_zero v a s = sym (ap (λ n. (510 * n / den v + 1) / 2) (go v a (shade_values v s)) ∙ ap (λ q. (q + 1) / 2) (zero-div (den v)))
  where
    go : (v : Float) → lt zero_float v ≡ false → From0To1 v → num v ≡ 0
    go nan a h = absurd h
    go (inf s) a h = absurd h
    go (fin true m e) a (l, z) = ap (λ k. k * up e) (z refl) ∙ zero-mul (up e)
    go (fin false m e) a h = omega (arith, ltb-false (0 * down e) (m * up e * 1) a)
