-- A shade times 255 is exact in 64 bits (`times_exact`), and a value above 0 is a number (`no_nan`).
use mathlib.Core.Bool.{Bool, true, false, not, ◌&&◌}
use mathlib.Core.Path.{◌≡◌, refl, sym, ◌∙◌, ap, subst}
use Prim.Native.Nat.{ℕ, zero, suc, ◌+◌, ◌-◌, ◌*◌, ◌%◌, ◌^◌, ◌≤◌}
use native.Mathlib.Nat.{mul-one, mul_comm, mul_assoc, mul-le-mul, not-le_of_lt, lt_of_lt_of_le}
use native.Mathlib.Omega.{arith}
use borrow.Author.Tests.{leb-true, leb-false}
use lib.Dec.{T, leb, ltb, eqb, ltb→lt, leb→le, lit<, lit≤}
use lib.IntN.{pos, negsuc}
use lib.Pow.{pow_pos, pow-lt, pow_mono, pow-add, shl_lt}
use lib.Ieee.{Float, nan, inf, fin, binary32, binary64, of_bits, fits, is_nan, mul, round}
use lib.Ieee.Fits.{and_l, and_r}
use lib.Ieee.Exact.{HasValue, round_exact}
use lib.Ieee.Positive.{num, den, positive, den_pos, own_value, mul_at}

-- 255 as the code has it
abbrev pub times : Float
times = of_bits binary64 0x406FE00000000000

pub no_nan : (v : Float) → T (positive v) → T (not (is_nan v))
unfolding is_nan
no_nan nan p = absurd p
no_nan (inf s) p = absurd p
no_nan (fin s m e) p = tt

-- how small a float of 32 bits may be
exponent_most : (k : ℕ) → 2 ^ suc k ≤ 2 ^ 149 → suc k ≤ 149
exponent_most k h = go (leb (suc k) 149) refl
  where
    go : (b : Bool) → leb (suc k) 149 ≡ b → suc k ≤ 149
    go true e = leb-true (suc k) 149 e
    go false e = absurd (not-le_of_lt (pow-lt (leb-false (suc k) 149 e)) h)

exact : (v : Float) → T (fits binary32 v) → T (positive v) → num v ≤ den v → (n : ℕ) → n ≤ 255
    → HasValue (round binary64 false (num v * n) (den v * 1)) false (num v * n) (den v * 1)
unfolding fits
exact nan f p l n h = absurd p
exact (inf s) f p l n h = absurd p
exact (fin true m e) f p l n h = absurd p
exact (fin false zero e) f p l n h = absurd p
exact (fin false (suc m) (pos k)) f p l n h =
    let q = suc m * 2 ^ k * n in
    let few : q ≤ 1 * 255 = mul-le-mul l h in
    round_exact binary64 false q 1 q 1074 (lit< tt) (omega arith)
    (lt_of_lt_of_le (shl_lt {a = q} 8 1074 (omega arith)) (lit≤ tt)) (sym (mul-one (q * 2 ^ 1074)))
exact (fin false (suc m) (negsuc k)) f p l n h =
    let a = eqb (suc m % 2) 1 in
    let b = ltb (suc m) (2 ^ 24) in
    let d = leb (2 ^ suc k) (2 ^ 149) in
    let g = ltb (suc m * 1) (2 ^ 128 * 2 ^ suc k) in
    let low = exponent_most k (leb→le (2 ^ suc k) (2 ^ 149) (and_r (a && b) d (and_l (a && b && d) g f))) in
    let digits = ltb→lt (suc m) (2 ^ 24) (and_r a b (and_l (a && b) d (and_l (a && b && d) g f))) in
    let j = 1074 - suc k in
    let sum : j + suc k ≡ 1074 = omega arith in
    let power : 2 ^ j * 2 ^ suc k ≡ 2 ^ 1074 = sym (pow-add 2 j (suc k)) ∙ ap (λ x. 2 ^ x) sum in
    let few : suc m * n ≤ (2 ^ 24 - 1) * 255 = mul-le-mul (let e : suc m ≤ 2 ^ 24 - 1 = omega arith in e) h in
    round_exact binary64 false (suc m * 1 * n) (2 ^ suc k * 1) (suc m * n) j (rw mul-one (pow_pos (suc k))) (omega arith)
    (lt_of_lt_of_le (shl_lt {a = suc m * n} 32 j (omega arith)) (pow_mono {i = 32 + j} {j = 2098} (omega arith)))
    (rw (mul-one, mul-one) (ap (λ x. suc m * n * x) (sym power) ∙ sym (mul_assoc (suc m * n) (2 ^ j) (2 ^ suc k))))

module _ (v : Float) (f : T (fits binary32 v)) (p : T (positive v)) (l : num v ≤ den v) where
  product : HasValue (mul binary64 v times) false (num v * 255) (den v * 1)
  unfolding of_bits
  product =
      rw (mul_at binary64 v times (num v) (den v) 255 1 p tt (den_pos v) (lit< tt) (own_value v p) (refl, refl))
      (exact v f p l 255 (omega arith))

-- of a float that was widened
pub times_exact : {w v : Float} → w ≡ v → T (fits binary32 w) → T (positive v) → num v ≤ den v
    → HasValue (mul binary64 w times) false (255 * num v) (den v) × T (fits binary32 v)
times_exact {w} {v} e f p l = (
  subst (λ x. HasValue (mul binary64 x times) false (255 * num v) (den v)) (sym e)
      (subst (λ d. HasValue (mul binary64 v times) false (255 * num v) d) (mul-one (den v))
      (subst (λ n. HasValue (mul binary64 v times) false n (den v * 1)) (mul_comm (num v) 255) (product v fit p l))),
  fit,
)
  where
    fit : T (fits binary32 v)
    fit = subst (λ x. T (fits binary32 x)) e f
