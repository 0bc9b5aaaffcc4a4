-- 255 times a shade and 2^52, added in 64 bits: the sum is the nearest whole number, a tie going to the even one.
--   sum_number  it is a number
--   sum_last    and its last digits are those of the brightness
use mathlib.Core.Bool.{true, false, not, true≢false}
use mathlib.Core.Path.{◌≡◌, refl, sym, ◌∙◌, ap, ap₂, subst}
use Prim.Native.Nat.{ℕ, suc, ◌+◌, ◌*◌, ◌-◌, ◌/◌, ◌%◌, ◌^◌, ◌≤◌, ◌<◌, compare, Ordering}
use native.Mathlib.Nat.{mul-one, mul_comm, mul_assoc, mul_right_comm, add-mul, le_trans, le_of_eq, lt_of_lt_of_le}
use native.Mathlib.Nat.{le_antisymm, not-le_of_lt, mul-pos, mul-le-mul_right, mul-lt-mul_of_pos_right, mul-div_cancel}
use native.Mathlib.Nat.{le-div_iff_mul-le, div-lt_iff_lt-mul, div-add-mod', mod-lt, mul-le-mul_left}
use native.Mathlib.Nat.{add-mul-div_right, add-mul-mod_self_right}
use native.Mathlib.Omega.{arith}
use lib.Arith.{lt_of_le-ne}
use lib.Dec.{T, is_le, compare_is_eq, eqb, leb→le, nleb→lt, eqb→eq, eqb_refl}
use lib.IntN.{pos}
use lib.Pow.{pow_pos, pow_mono, pow-add}
use lib.Ieee.{Float, nan, inf, fin, binary32, binary64, fits, of_bits, up, down, size, nearest, round, sum, add, to_bits, is_nan}
use lib.Ieee.Bits.{of_bits-to_bits, to_bits-lt}
use lib.Ieee.Digits.{size-lt, size-le}
use lib.Ieee.Exact.{HasValue}
use lib.Ieee.Fits.{down_pos, nearest-le}
use lib.Ieee.Nearest.{closest, closest_same}
use lib.Ieee.Positive.{num, den, den_pos}
use lib.Ieee.Scale.{round_same, grid, round_val}
use Rattle.model.specs.Pfm.{From0To1, Nearest, brightness}
use Rattle.model.proofs.Samples.{one_tie, only_nearest, brightness_most}

-- 2^52
abbrev base : ℕ
base = 4503599627370496

abbrev base_float : Float
base_float = fin false 1 (pos 52)

-- ---- how many digits a number has
size_is : (n k : ℕ) → 2 ^ k ≤ n → n < 2 ^ suc k → size n ≡ suc k
size_is n k l h =
    let more : suc k ≤ size n = lt_of_not_ge (size n) k (λ g. not-le_of_lt (size-lt n) (le_trans (pow_mono g) l)) in
    le_antisymm (size-le n (suc k) h) more
  where
    lt_of_not_ge : (a b : ℕ) → (a ≤ b → ⊥) → suc b ≤ a
    lt_of_not_ge a b f = omega arith

-- ---- the sum
sum_cross : (x d a c : ℕ) → x * c ≡ a * d → (x * 1 + base * d) * c ≡ (a + base * c) * (d * 1)
sum_cross x d a c h =
    ap (λ k. (k + base * d) * c) (mul-one x)
    ∙ add-mul x (base * d) c
    ∙ ap₂ (λ k l. k + l) h (mul_right_comm base d c)
    ∙ sym (add-mul a (base * c) d)
    ∙ ap (λ k. (a + base * c) * k) (sym (mul-one d))

module _ (a c : ℕ) (C : 0 < c) (A : a ≤ 255 * c) where
  abbrev N : ℕ
  N = a + base * c

  sum_is : (y : Float) → HasValue y false a c → add binary64 y base_float ≡ round binary64 false N c
  unfolding add sum
  sum_is nan h = absurd h
  sum_is (inf s) h = absurd h
  sum_is (fin true m e) h = absurd (true≢false h.0)
  sum_is (fin false m e) h =
      round_same binary64 false (m * up e * 1 + base * down e) (down e * 1) N c (rw mul-one (down_pos e)) C
      (sum_cross (m * up e) (down e) a c h.1)

  -- in units of the smallest float it has 1,127 digits, and 1,074 are dropped
  low_most : 2 ^ 1126 ≤ N * 2 ^ 1074 / c
  low_most =
      let some : base * c ≤ N = omega arith in
      (le-div_iff_mul-le C).1
      (le_trans (le_of_eq (mul_right_comm base (2 ^ 1074) c)) (mul-le-mul_right (2 ^ 1074) some))

  high_most : N * 2 ^ 1074 / c < 2 ^ 1127
  high_most =
      let few : N < 2 * base * c = omega arith in
      (div-lt_iff_lt-mul C).1
      (lt_of_lt_of_le (mul-lt-mul_of_pos_right few (pow_pos 1074)) (le_of_eq (mul_right_comm (2 * base) c (2 ^ 1074))))

  dropped : size (N * 2 ^ 1074 / c) - 53 ≡ 1074
  dropped = ap (λ z. z - 53) (size_is (N * 2 ^ 1074 / c) 1126 low_most high_most)

  -- so it is rounded to a whole number
  abbrev pub whole : ℕ
  whole = closest N c

  grid_is : grid binary64 N c ≡ whole * 2 ^ 1074
  grid_is =
      ap (λ k. closest (N * 2 ^ 1074) (c * 2 ^ k) * 2 ^ k) dropped
      ∙ ap (λ w. w * 2 ^ 1074)
      (closest_same (N * 2 ^ 1074) (c * 2 ^ 1074) N c (mul-pos C (pow_pos 1074)) C
      (mul_assoc N (2 ^ 1074) c ∙ ap (λ k. N * k) (mul_comm (2 ^ 1074) c)))

  -- of 53 digits at most
  whole_high : whole < 2 * base
  whole_high =
      let few : N / c < base + 256 = (div-lt_iff_lt-mul C).1 (omega (arith, add-mul base 256 c)) in
      omega (arith, few, nearest-le (N / c) (compare (N % c * 2) c))

  sum_value : HasValue (round binary64 false N c) false (whole * 2 ^ 1074) (2 ^ 1074)
  sum_value =
      subst (λ g. HasValue (round binary64 false N c) false g (2 ^ 1074)) grid_is
      (round_val binary64 N c (subst (λ g. g < 2 ^ 2098) (sym grid_is)
      (lt_of_lt_of_le (mul-lt-mul_of_pos_right whole_high (pow_pos 1074)) (le_trans (le_of_eq (sym (pow-add 2 53 1074)))
      (pow_mono {i = 1127} {j = 2098} (omega arith))))))

-- ---- its digits
bits_of : (r : Float) (w : ℕ) → base ≤ w → w < 2 * base → HasValue r false (w * 2 ^ 1074) (2 ^ 1074)
    → to_bits binary64 r ≡ 1074 * base + w
unfolding to_bits
bits_of nan w l h v = absurd v
bits_of (inf s) w l h v = absurd v
bits_of (fin true m e) w l h v = absurd (true≢false v.0)
bits_of (fin false m e) w l h v =
    ap (λ n. 0 + (size n - 53) * base + n / 2 ^ (size n - 53)) units
    ∙ ap (λ k. 0 + k * base + w * 2 ^ 1074 / 2 ^ k) kept
    ∙ ap (λ q. 0 + 1074 * base + q) (mul-div_cancel w (pow_pos 1074))
    ∙ omega arith
  where
    units : m * up e * 2 ^ 1074 / down e ≡ w * 2 ^ 1074
    units = ap (λ n. n / down e) v.1 ∙ mul-div_cancel (w * 2 ^ 1074) (down_pos e)

    kept : size (w * 2 ^ 1074) - 53 ≡ 1074
    kept =
        ap (λ z. z - 53)
        (size_is (w * 2 ^ 1074) 1126 (mul-le-mul_right (2 ^ 1074) l) (mul-lt-mul_of_pos_right h (pow_pos 1074)))

-- the last of them are those of a number below 256
last_digits : (k : ℕ) → k < 256 → (1074 * base + (base + k)) % 256 ≡ k
last_digits k h = omega arith

-- ---- the nearest whole number
-- what a comparison tells
data Compared (a b : ℕ) : Ordering → Type 0 where
  less : a < b → Compared a b Ordering.lt
  equal : a ≡ b → Compared a b Ordering.eq
  more : b < a → Compared a b Ordering.gt

compared : (a b : ℕ) → Compared a b (compare a b)
compared a b =
    go (compare a b) (leb→le a b) (nleb→lt a b) (eqb→eq a b) (λ e. subst (λ x. T (eqb a x)) e (eqb_refl a))
  where
    go : (o : Ordering) → (T (is_le o) → a ≤ b) → (T (not (is_le o)) → b < a) → (T (compare_is_eq o) → a ≡ b)
        → (a ≡ b → T (compare_is_eq o)) → Compared a b o
    go Ordering.lt l g e n = less (lt_of_le-ne (l tt) n)
    go Ordering.eq l g e n = equal (e tt)
    go Ordering.gt l g e n = more (g tt)

shade_most : (v : Float) → From0To1 v → num v ≤ den v
shade_most nan h = absurd h
shade_most (inf s) h = absurd h
shade_most (fin s m e) h = h.0

number : (a c : ℕ) (x : Float) → HasValue x false a c → T (not (is_nan x))
unfolding is_nan
number a c nan h = absurd h
number a c (inf s) h = absurd h
number a c (fin s m e) h = tt

module _ (v : Float) (f : T (fits binary32 v)) (s : From0To1 v) where
  -- the whole part of 255 × v, and the rest
  abbrev q : ℕ
  q = 255 * num v / den v

  abbrev r : ℕ
  r = 255 * num v % den v

  parts : 510 * num v ≡ 2 * (q * den v) + 2 * r
  parts = omega (arith, div-add-mod' (255 * num v) (den v))

  rest< : r < den v
  rest< = mod-lt (255 * num v) (den_pos v)

  -- the even number is the upper one at the only tie
  half : r * 2 ≡ den v → v ≡ of_bits binary32 0x3F000000
  half e =
      let n = to_bits binary32 v in
      let back = of_bits-to_bits binary32 v f in
      let odd : 510 * num v ≡ (2 * q + 1) * den v = omega (arith, parts, add-mul (2 * q) 1 (den v), mul_assoc 2 q (den v)) in
      let at = one_tie n (to_bits-lt binary32 v f) (subst From0To1 (sym back) s) q
      (subst (λ w. 510 * num w ≡ (2 * q + 1) * den w) (sym back) odd) in
      sym back ∙ ap (of_bits binary32) at

  times : (j : ℕ) → (2 * q + j) * den v ≡ 2 * (q * den v) + j * den v
  times j = add-mul (2 * q) j (den v) ∙ ap (λ k. k + j * den v) (mul_assoc 2 q (den v))

  -- below the middle, and above it
  lower : r * 2 < den v → Nearest v q
  lower l =
      record {
        not_below =
            let most : (2 * q - 1) * den v ≤ (2 * q + 0) * den v = mul-le-mul_right (den v) (less_one q) in
            omega (arith, most, times 0, parts);
        not_above_lem = omega (arith, times 1, parts, l);
      }
    where
      less_one : (q : ℕ) → 2 * q - 1 ≤ 2 * q + 0
      less_one q = omega arith

  upper : den v < r * 2 → Nearest v (q + 1)
  upper l =
      record {
        not_below = rw (odd q) (omega (arith, times 1, parts, l));
        not_above_lem = rw (next q) (omega (arith, times 3, parts, rest<));
      }
    where
      odd : (q : ℕ) → 2 * (q + 1) - 1 ≡ 2 * q + 1
      odd q = omega arith

      next : (q : ℕ) → 2 * (q + 1) + 1 ≡ 2 * q + 3
      next q = omega arith

  nearest_is : (o : Ordering) → Compared (r * 2) (den v) o → nearest (q + base) o ≡ base + brightness v
  unfolding of_bits brightness
  nearest_is Ordering.lt (less l) =
      let k : q ≡ brightness v = only_nearest v q (lower l) in
      omega (arith, k)
  nearest_is Ordering.eq (equal e) =
      subst (λ w. nearest (255 * num w / den w + base) Ordering.eq ≡ base + brightness w) (sym (half e)) refl
  nearest_is Ordering.gt (more l) =
      let k : q + 1 ≡ brightness v = only_nearest v (q + 1) (upper l) in
      omega (arith, k)

  -- so the sum with 2^52 ends in the digits of the brightness
  module _ (y : Float) (h : HasValue y false (255 * num v) (den v)) where
    most : 255 * num v ≤ 255 * den v
    most = mul-le-mul_left 255 (shade_most v s)

    abbrev c : ℕ
    c = den v

    whole_is : whole (255 * num v) c (den_pos v) most ≡ base + brightness v
    whole_is =
        ap₂ (λ w k. nearest w (compare (k * 2) c)) (add-mul-div_right (255 * num v) base (den_pos v))
        (add-mul-mod_self_right (255 * num v) base c)
        ∙ nearest_is (compare (r * 2) c) (compared (r * 2) c)

    sum_holds : HasValue (add binary64 y base_float) false ((base + brightness v) * 2 ^ 1074) (2 ^ 1074)
    sum_holds =
        subst (λ w. HasValue (add binary64 y base_float) false (w * 2 ^ 1074) (2 ^ 1074)) whole_is
        (subst (λ x. HasValue x false (whole (255 * num v) c (den_pos v) most * 2 ^ 1074) (2 ^ 1074))
        (sym (sum_is (255 * num v) c (den_pos v) most y h)) (sum_value (255 * num v) c (den_pos v) most))

    pub sum_number : T (not (is_nan (add binary64 y base_float)))
    sum_number = number ((base + brightness v) * 2 ^ 1074) (2 ^ 1074) (add binary64 y base_float) sum_holds

    pub sum_last : to_bits binary64 (add binary64 y base_float) % 256 ≡ brightness v
    sum_last =
        let few = brightness_most v s in
        ap (λ n. n % 256) (bits_of (add binary64 y base_float) (base + brightness v) (omega arith) (omega arith) sum_holds)
        ∙ last_digits (brightness v) (omega arith)
