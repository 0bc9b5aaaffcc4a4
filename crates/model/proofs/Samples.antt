-- Laws of a sample of a PFM: what its 32 bits are worth, the three kinds of it by the bits and by the value, and its
-- brightness.
--   value_by_bits                   a finite float is its units of 2^-149
--   shade_values                    a shade is a value from 0 to 1
--   shade_bits, bits_shade          which has just the patterns up to those of 1, and minus zero
--   Kind, kind                      what a pattern is read as
--   shade_by_value, no_number_by_value, outside_by_value, no_number_bits
--   is_nearest, only_nearest        the brightness of a value, and no other
--   brightness_most                 that of a shade is a byte
--   one_tie                         the one shade that lies midway between two numbers
use mathlib.Core.Bool.{Bool, true, false, not, ◌&&◌, ◌||◌, cond, true≢false}
use mathlib.Core.Logic.{inl, inr}
use mathlib.Core.Path.{◌≡◌, refl, sym, ◌∙◌, ap, subst}
use Prim.Native.Nat.{ℕ, zero, suc, ◌+◌, ◌*◌, ◌-◌, ◌/◌, ◌%◌, ◌^◌, ◌≤◌, ◌<◌}
use native.Mathlib.Nat.{mul-one, le_trans, le_of_eq, lt_of_lt_of_le, le_of_lt, mul-le-mul_right, mul-le-mul_left}
use native.Mathlib.Nat.{le_of_mul-le-mul_right, mul_comm, zero-mul, eq_of_mul-eq-mul_right, mul-le-mul}
use native.Mathlib.Nat.{div-add-mod', mod-lt, add-mul, not-le_of_lt, lt_of_mul-lt-mul_right, lt_of_le_of_lt}
use native.Mathlib.Nat.{le_antisymm, mul-pos, pow-suc, mul_assoc}
use native.Mathlib.Decide.{dec_lt}
use native.Mathlib.Omega.{arith}
use borrow.Author.Tests.{leb-true, leb-false, ltb-true, ltb-false, eqb-true, lt-ltb, ne_eqb}
use borrow.Author.Tests.{eq-eqb}
use lib.Dec.{T, leb, ltb, eqb, eqb→eq}
use lib.IntN.{ℤ, pos, negsuc}
use lib.Pow.{pow_pos, pow_mono, pow-lt, pow-add}
use lib.Ieee.{Float, nan, inf, fin, binary32, up, down, odd, of_fields, of_bits, nan_bits, is_nan, fits, to_bits, lt, le, eq}
use lib.Ieee.Bits.{nan_bits_is, nan_bits_above, of_bits-fits, to_bits-of_bits}
use lib.Ieee.Exact.{HasValue, odd_sign}
use lib.Ieee.Fits.{up_pos, down_pos, and_l}
use lib.Ieee.Positive.{num, den, den_pos}
use Rattle.model.specs.declared.Sample.{Sample}
use Rattle.model.specs.declared.Sample.TheVariants.{Shade, Outside, NotANumber}
use Rattle.model.specs.Basic.{pick, Exactly}
use Rattle.model.specs.Pfm.{is_shade, From0To1, ShadeBits, NoNumberBits, units_of, Nearest}
use Rattle.model.specs.Pfm.{exponent_of, fraction_of, sample_of, brightness}
use Rattle.model.proofs.Text.{and_true}

-- ---- what 32 bits are worth
-- by the fields: the exponent's x, and the fraction t
abbrev units_by : (x t : ℕ) → ℕ
units_by x t = pick (eqb x 0) t ((2 ^ 23 + t) * 2 ^ (x - 1))

fields_value : (s : Bool) (x t : ℕ) → x < 255 → HasValue (of_fields binary32 s x t) s (units_by x t) (2 ^ 149)
unfolding of_fields
fields_value s zero t h = subst (λ q. HasValue (odd 24 s t 0 149) s q (2 ^ 149)) (mul-one t) (odd_sign 24 s t 0 149)
fields_value s (suc x) t h =
    let less : suc x - 1 ≡ x = omega arith in
    rw (ne_eqb (suc x) 255 (λ e. omega arith), ne_eqb (suc x) 0 (λ e. omega arith), less)
    (odd_sign 24 s (2 ^ 23 + t) x 149)

-- the sign of a pattern
abbrev is_below : ℕ → Bool
is_below n = leb 0x80000000 n

bits_value : (n : ℕ) → exponent_of n < 255 → HasValue (of_bits binary32 n) (is_below n) (units_of n) (2 ^ 149)
unfolding of_bits units_of
bits_value n h = fields_value (is_below n) (exponent_of n) (fraction_of n) h

value_cross : (v : Float) (s : Bool) (a c : ℕ) → HasValue v s a c → num v * c ≡ a * den v
value_cross nan s a c h = absurd h
value_cross (inf t) s a c h = absurd h
value_cross (fin t m e) s a c h = h.1

pub value_by_bits : (n : ℕ) → exponent_of n < 255
    → num (of_bits binary32 n) * 2 ^ 149 ≡ units_of n * den (of_bits binary32 n)
value_by_bits n h = value_cross (of_bits binary32 n) (is_below n) (units_of n) (2 ^ 149) (bits_value n h)

-- ---- a value from 0 to 1
no_zero : (a d : ℕ) → 0 < d → a * d ≡ 0 → a ≡ 0
no_zero a d p e = eq_of_mul-eq-mul_right d p a 0 (e ∙ sym (zero-mul d))

-- by any fraction that it equals
from_value : (v : Float) (s : Bool) (a c : ℕ) → 0 < c → HasValue v s a c
    → Exactly (From0To1 v) ((a ≤ c) × (s ≡ true → a ≡ 0))
from_value nan s a c p h = absurd h
from_value (inf t) s a c p h = absurd h
from_value (fin t m e) s a c p (q, h) = (to, from)
  where
    to : (m * up e ≤ down e) × (t ≡ true → m ≡ 0) → (a ≤ c) × (s ≡ true → a ≡ 0)
    to (l, z) = (
      le_of_mul-le-mul_right
          (le_trans (le_of_eq (sym h)) (le_trans (mul-le-mul_right c l) (le_of_eq (mul_comm (down e) c)))) (down_pos e),
      λ b.
          no_zero a (down e) (down_pos e)
          (sym h ∙ ap (λ k. k * up e * c) (z (q ∙ b)) ∙ ap (λ k. k * c) (zero-mul (up e)) ∙ zero-mul c),
    )

    from : (a ≤ c) × (s ≡ true → a ≡ 0) → (m * up e ≤ down e) × (t ≡ true → m ≡ 0)
    from (l, z) = (
      le_of_mul-le-mul_right
          (le_trans (le_of_eq h) (le_trans (mul-le-mul_right (down e) l) (le_of_eq (mul_comm c (down e))))) p,
      λ b.
          no_zero m (up e) (up_pos e)
          (no_zero (m * up e) c p (h ∙ ap (λ k. k * down e) (z (sym q ∙ b)) ∙ zero-mul (down e))),
    )

-- and by the bits
bits_from : (n : ℕ) → exponent_of n < 255
    → Exactly (From0To1 (of_bits binary32 n)) ((units_of n ≤ 2 ^ 149) × (is_below n ≡ true → units_of n ≡ 0))
bits_from n h = from_value (of_bits binary32 n) (is_below n) (units_of n) (2 ^ 149) (pow_pos 149) (bits_value n h)

-- the comparison of two that are not below 0, and of one that is with 0
abbrev not_above : ℕ → ℕ → Bool
not_above a b = ltb a b || (eqb a b && true)

not_above_lem : (a b : ℕ) → a ≤ b → not_above a b ≡ true
not_above_lem a b h = go (ltb a b) refl
  where
    go : (t : Bool) → ltb a b ≡ t → t || (eqb a b && true) ≡ true
    go true e = refl
    go false e = rw (eq-eqb a b (omega (arith, ltb-false a b e)))

not_above_le : (a b : ℕ) → not_above a b ≡ true → a ≤ b
not_above_le a b = go (ltb a b) refl (eqb a b) refl
  where
    go : (t : Bool) → ltb a b ≡ t → (u : Bool) → eqb a b ≡ u → t || (u && true) ≡ true → a ≤ b
    go true e u f g = le_of_lt (ltb-true a b e)
    go false e true f g = le_of_eq (eqb-true a b f)
    go false e false f g = absurd (true≢false (sym g))

pub shade_values : (v : Float) → is_shade v ≡ true → From0To1 v
unfolding le lt eq
shade_values nan h = absurd (true≢false (sym h))
shade_values (inf true) h = absurd (true≢false (sym h))
shade_values (inf false) h = absurd (true≢false (sym h))
shade_values (fin false m e) h =
    let a = not_above (0 * down e) (m * up e * 1) in
    let (_, l) = and_true a (not_above (m * up e * 1) (1 * down e)) h in
    (omega (arith, not_above_le (m * up e * 1) (1 * down e) l), λ b. absurd (true≢false (sym b)))
shade_values (fin true m e) h =
    let t = eqb (0 * down e) (m * up e * 1) && eqb (0 * down e) 0 in
    let (b, _) = and_true t _ h in
    let (c, _) = and_true (eqb (0 * down e) (m * up e * 1)) (eqb (0 * down e) 0) b in
    let z : m ≡ 0 = no_zero m (up e) (up_pos e) (omega (arith, eqb-true (0 * down e) (m * up e * 1) c)) in
    (rw (z, zero-mul (up e)) (le_of_lt (down_pos e)), λ b. z)

value_shades : (v : Float) → From0To1 v → is_shade v ≡ true
unfolding le lt eq
value_shades nan h = absurd h
value_shades (inf s) h = absurd h
value_shades (fin false m e) (l, z) =
    rw (not_above_lem (0 * down e) (m * up e * 1) (omega arith), not_above_lem (m * up e * 1) (1 * down e) (omega arith))
value_shades (fin true m e) (l, z) =
    let b : m * up e ≡ 0 = ap (λ k. k * up e) (z refl) ∙ zero-mul (up e) in
    let p = down_pos e in
    rw (
      eq-eqb (0 * down e) (m * up e * 1) (omega arith),
      eq-eqb (0 * down e) 0 (omega arith),
      lt-ltb 0 (m * up e * 1 + 1 * down e) (omega arith),
    )

-- ---- by the bits
-- the size is at most 1 just up to the pattern of 1, and it is 0 just where all but the sign is 0
module _ (x t : ℕ) (T₀ : t < 0x800000) where
  units_low : x < 127 → units_by x t ≤ 2 ^ 149
  units_low h = go x h
    where
      go : (x : ℕ) → x < 127 → units_by x t ≤ 2 ^ 149
      go zero h = le_trans (le_of_lt T₀) (pow_mono {i = 23} {j = 149} (omega arith))
      go (suc x) h =
          let less : suc x - 1 ≡ x = omega arith in
          let digits : 2 ^ 23 + t ≤ 2 ^ 24 = omega arith in
          rw (ne_eqb (suc x) 0 (λ e. omega arith), less)
          (le_trans (mul-le-mul digits (pow_mono {i = x} {j = 125} (omega arith))) (le_of_eq (sym (pow-add 2 24 125))))

  units_one : x ≡ 127 → units_by x t ≤ 2 ^ 149 → t ≡ 0
  units_one e h =
      let l : (2 ^ 23 + t) * 2 ^ 126 ≤ 2 ^ 23 * 2 ^ 126 = subst (λ x. units_by x t ≤ 2 ^ 149) e h in
      let k : 2 ^ 23 + t ≤ 2 ^ 23 = le_of_mul-le-mul_right l (pow_pos 126) in
      omega arith

  units_top : x ≡ 127 → t ≡ 0 → units_by x t ≤ 2 ^ 149
  units_top e f = rw (e, f) (le_of_eq (sym (pow-add 2 23 126)))

  units_high : 127 < x → units_by x t ≤ 2 ^ 149 → ⊥
  units_high h l =
      let digits : 2 ^ 23 ≤ 2 ^ 23 + t = omega arith in
      let big : 2 ^ 23 * 2 ^ 127 ≤ (2 ^ 23 + t) * 2 ^ (x - 1) =
      mul-le-mul digits (pow_mono {i = 127} {j = x - 1} (omega arith)) in
      let m : (2 ^ 23 + t) * 2 ^ (x - 1) ≤ 2 ^ 149 = rw (ne_eqb x 0 (λ e. omega arith)) at l in
      not-le_of_lt (pow-lt {i = 149} {j = 150} (omega arith)) (le_trans big m)

  units_none : units_by x t ≡ 0 → (x ≡ 0) × (t ≡ 0)
  units_none = go x
    where
      go : (x : ℕ) → units_by x t ≡ 0 → (x ≡ 0) × (t ≡ 0)
      go zero e = (refl, e)
      go (suc x) e =
          let m : (2 ^ 23 + t) * 2 ^ (suc x - 1) ≡ 0 = rw (ne_eqb (suc x) 0 (λ e. omega arith)) at e in
          absurd (omega (arith, no_zero (2 ^ 23 + t) (2 ^ (suc x - 1)) (pow_pos (suc x - 1)) m))

-- an exponent's field of all ones: an infinity, or no number
fields_far : (s : Bool) (x t : ℕ) → x ≡ 255 → From0To1 (of_fields binary32 s x t) → ⊥
unfolding of_fields
fields_far s x t e h = go (eqb t 0) (subst (λ x. From0To1 (of_fields binary32 s x t)) e h)
  where
    go : (b : Bool) → From0To1 (cond b (inf s) nan) → ⊥
    go true h = h
    go false h = h

bits_far : (n : ℕ) → exponent_of n ≡ 255 → From0To1 (of_bits binary32 n) → ⊥
unfolding of_bits
bits_far n e h = fields_far (is_below n) (exponent_of n) (fraction_of n) e h

module _ (n : ℕ) (n< : n < 2 ^ 32) where
  abbrev x : ℕ
  x = exponent_of n

  abbrev t : ℕ
  t = fraction_of n

  t< : t < 0x800000
  t< = omega arith

  pub shade_bits : From0To1 (of_bits binary32 n) → ShadeBits n
  unfolding units_of
  shade_bits h = go (dec_lt x 255) (dec_lt x 127) (dec_lt 127 x)
    where
      worth : x < 255 → (units_of n ≤ 2 ^ 149) × (is_below n ≡ true → units_of n ≡ 0)
      worth l = (bits_from n l).0 h

      signed : x < 255 → n % 0x80000000 ≤ 0x3F800000 → (b : Bool) → is_below n ≡ b → ShadeBits n
      signed l k false e = inl (omega (arith, leb-false 0x80000000 n e))
      signed l k true e =
          let (a, b) = units_none x t t< ((worth l).1 e) in
          inr (omega (arith, leb-true 0x80000000 n e))

      go : Dec (x < 255) → Dec (x < 127) → Dec (127 < x) → ShadeBits n
      go (no f) p q = absurd (bits_far n (omega arith) h)
      go (yes f) (yes p) q = signed f (omega arith) (is_below n) refl
      go (yes f) (no p) (yes q) = absurd (units_high x t t< q (worth f).0)
      go (yes f) (no p) (no q) =
          let z = units_one x t t< (omega arith) (worth f).0 in
          signed f (omega arith) (is_below n) refl

  pub bits_shade : ShadeBits n → From0To1 (of_bits binary32 n)
  unfolding units_of of_bits
  bits_shade (inr e) = rw e (omega arith, λ b. refl)
  bits_shade (inl l) = (bits_from n (omega arith)).1 (most (dec_lt x 127), sign)
    where
      most : Dec (x < 127) → units_by x t ≤ 2 ^ 149
      most (yes p) = units_low x t t< p
      most (no p) = units_top x t t< (omega arith) (omega arith)

      sign : is_below n ≡ true → units_by x t ≡ 0
      sign e = absurd (omega (arith, leb-true 0x80000000 n e))

-- ---- what a pattern is read as
module _ (n : ℕ) where
  abbrev v : Float
  v = of_bits binary32 n

  nan_is : is_nan v ≡ true → v ≡ nan
  unfolding is_nan
  nan_is = go v
    where
      go : (v : Float) → is_nan v ≡ true → v ≡ nan
      go nan e = refl
      go (inf s) e = absurd (true≢false (sym e))
      go (fin s m k) e = absurd (true≢false (sym e))

  abbrev kind_of : Sample → ℕ
  kind_of (Shade w) = 0
  kind_of (Outside w) = 1
  kind_of NotANumber = 2

  -- a shade is a number
  shade_number : is_shade v ≡ true → nan_bits binary32 n ≡ false
  shade_number e = go (nan_bits binary32 n) refl
    where
      go : (b : Bool) → nan_bits binary32 n ≡ b → b ≡ false
      go false f = refl
      go true f = absurd (subst From0To1 (nan_is (sym (nan_bits_is binary32 n) ∙ f)) (shade_values v e))

  pub data Kind : Type 0 where
    shade : is_shade v ≡ true → sample_of n ≡ Shade v → Kind
    outside : is_shade v ≡ false → nan_bits binary32 n ≡ false → sample_of n ≡ Outside v → Kind
    no_number : nan_bits binary32 n ≡ true → sample_of n ≡ NotANumber → Kind

  pub kind : Kind
  unfolding sample_of
  kind = go (nan_bits binary32 n) refl (is_shade v) refl
    where
      go : (a : Bool) → nan_bits binary32 n ≡ a → (b : Bool) → is_shade v ≡ b → Kind
      go a e true f = shade f (rw (shade_number f, f))
      go false e false f = outside f e (rw (e, f))
      go true e false f = no_number e (rw e)

  pub shade_by_value : Exactly (sample_of n ≡ Shade v) (From0To1 v)
  shade_by_value = (to kind, from kind)
    where
      to : Kind → sample_of n ≡ Shade v → From0To1 v
      to (shade s e) f = shade_values v s
      to (outside s a e) f = absurd (omega (arith, ap kind_of (sym e ∙ f)))
      to (no_number a e) f = absurd (omega (arith, ap kind_of (sym e ∙ f)))

      from : Kind → From0To1 v → sample_of n ≡ Shade v
      from (shade s e) h = e
      from (outside s a e) h = absurd (true≢false (sym (value_shades v h) ∙ s))
      from (no_number a e) h = absurd (true≢false (sym a ∙ shade_number (value_shades v h)))

  pub no_number_by_value : Exactly (sample_of n ≡ NotANumber) (v ≡ nan)
  unfolding is_nan
  no_number_by_value = (to kind, from kind)
    where
      to : Kind → sample_of n ≡ NotANumber → v ≡ nan
      to (shade s e) f = absurd (omega (arith, ap kind_of (sym e ∙ f)))
      to (outside s a e) f = absurd (omega (arith, ap kind_of (sym e ∙ f)))
      to (no_number a e) f = nan_is (sym (nan_bits_is binary32 n) ∙ a)

      is : v ≡ nan → nan_bits binary32 n ≡ true
      is h = nan_bits_is binary32 n ∙ ap is_nan h

      from : Kind → v ≡ nan → sample_of n ≡ NotANumber
      from (shade s e) h = absurd (true≢false (sym (is h) ∙ shade_number s))
      from (outside s a e) h = absurd (true≢false (sym (is h) ∙ a))
      from (no_number a e) h = e

  pub outside_by_value : Exactly (sample_of n ≡ Outside v) ((From0To1 v → ⊥) × (v ≡ nan → ⊥))
  outside_by_value = (to kind, from kind)
    where
      to : Kind → sample_of n ≡ Outside v → (From0To1 v → ⊥) × (v ≡ nan → ⊥)
      to k f = (
        λ h. omega (arith, ap kind_of (sym (shade_by_value.1 h) ∙ f)),
        λ h. omega (arith, ap kind_of (sym (no_number_by_value.1 h) ∙ f)),
      )

      from : Kind → (From0To1 v → ⊥) × (v ≡ nan → ⊥) → sample_of n ≡ Outside v
      from (shade s e) (p, q) = absurd (p (shade_by_value.0 e))
      from (outside s a e) (p, q) = e
      from (no_number a e) (p, q) = absurd (q (no_number_by_value.0 e))

  -- past the pattern of an infinity, without the sign
  pub no_number_bits : Exactly (v ≡ nan) (NoNumberBits n)
  unfolding is_nan
  no_number_bits = (
    λ h. ltb-true 0x7F800000 (n % 0x80000000) (sym (nan_bits_above binary32 n) ∙ nan_bits_is binary32 n ∙ ap is_nan h),
    λ h. nan_is (sym (nan_bits_is binary32 n) ∙ nan_bits_above binary32 n ∙ lt-ltb 0x7F800000 (n % 0x80000000) h),
  )

-- ---- brightness
module _ (v : Float) where
  abbrev whole : ℕ
  whole = 510 * num v / den v

  -- the whole part of 510 × v
  whole_is : (whole * den v ≤ 510 * num v) × (510 * num v < (whole + 1) * den v)
  whole_is =
      let e = div-add-mod' (510 * num v) (den v) in
      let r = mod-lt (510 * num v) (den_pos v) in
      let a = add-mul whole 1 (den v) in
      (omega arith, omega arith)

  pub is_nearest : Nearest v (brightness v)
  unfolding brightness
  is_nearest =
      let (l, h) = whole_is in
      let k = (whole + 1) / 2 in
      record {
        not_below = le_trans (mul-le-mul_right (den v) (let f : 2 * k - 1 ≤ whole = omega arith in f)) l;
        not_above_lem = lt_of_lt_of_le h (mul-le-mul_right (den v) (let f : whole + 1 ≤ 2 * k + 1 = omega arith in f));
      }

  -- no two numbers meet the condition
  nearest_below : {j k : ℕ} → Nearest v j → Nearest v k → j ≤ k
  nearest_below {j} {k} p q =
      let h : 2 * j - 1 < 2 * k + 1 =
      lt_of_mul-lt-mul_right (den v) (lt_of_le_of_lt p.not_below q.not_above_lem) in
      omega arith

  pub only_nearest : (k : ℕ) → Nearest v k → k ≡ brightness v
  only_nearest k n = le_antisymm (nearest_below n is_nearest) (nearest_below is_nearest n)

  pub brightness_most : From0To1 v → brightness v ≤ 255
  brightness_most h =
      let most : 510 * num v ≤ 510 * den v = mul-le-mul_left 510 (num_most v h) in
      let k : 2 * brightness v - 1 ≤ 510 = le_of_mul-le-mul_right (le_trans is_nearest.not_below most) (den_pos v) in
      omega arith
    where
      num_most : (v : Float) → From0To1 v → num v ≤ den v
      num_most nan h = absurd h
      num_most (inf s) h = absurd h
      num_most (fin s m e) h = h.0

-- ---- the one tie
not_odd : (x j : ℕ) → 2 * x ≡ 2 * j + 1 → ⊥
not_odd x j e = omega arith

odd_255 : (m x : ℕ) → suc m % 2 ≡ 1 → 255 * suc m ≡ 2 * x → ⊥
odd_255 m x o e =
    let h : suc m ≡ 2 * (suc m / 2) + 1 = omega arith in
    let q = suc m / 2 in
    let k : 2 * x ≡ 2 * (255 * q + 127) + 1 = omega arith in
    not_odd x (255 * q + 127) k

is_odd : (s : Bool) (m : ℕ) (k : ℤ) → T (fits binary32 (fin s (suc m) k)) → suc m % 2 ≡ 1
unfolding fits
is_odd s m k f =
    let a = eqb (suc m % 2) 1 in
    let b = ltb (suc m) (2 ^ 24) in
    let c = leb (down k) (2 ^ 149) in
    let d = ltb (suc m * up k) (2 ^ 128 * down k) in
    eqb→eq (suc m % 2) 1 (and_l a b (and_l (a && b) c (and_l (a && b && c) d f)))

odd_few : (k : ℕ) → k ≤ 2 → k % 2 ≡ 1 → k ≡ 1
odd_few k l o = omega arith

-- 510 × v is a whole number that is odd
half_only : (v : Float) → T (fits binary32 v) → From0To1 v → (j : ℕ) → 510 * num v ≡ (2 * j + 1) * den v
    → v ≡ fin false 1 (negsuc 0)
half_only nan f h j e = absurd h
half_only (inf s) f h j e = absurd h
half_only (fin s zero k) f h j e =
    let some : 0 < (2 * j + 1) * down k = mul-pos (omega arith) (down_pos k) in
    absurd (omega (arith, zero-mul (up k)))
half_only (fin s (suc m) (pos k)) f h j e =
    let n = suc m * 2 ^ k in
    let twice : 2 * (255 * n) ≡ 510 * n = omega arith in
    absurd (not_odd (255 * n) j (twice ∙ e ∙ mul-one (2 * j + 1)))
half_only (fin s (suc m) (negsuc zero)) f (l, z) j e = go s z
  where
    few : suc m ≤ 2
    few = omega (arith, mul-one (suc m))

    go : (b : Bool) → (b ≡ true → suc m ≡ 0) → fin b (suc m) (negsuc 0) ≡ fin false 1 (negsuc 0)
    go true z = absurd (omega (arith, z refl))
    go false z = ap (λ i. fin false i (negsuc 0)) (odd_few (suc m) few (is_odd s m (negsuc 0) f))
half_only (fin s (suc m) (negsuc (suc k))) f h j e =
    let whole : (2 * j + 1) * 2 ^ suc (suc k) ≡ (2 * j + 1) * 2 ^ suc k * 2 =
    ap (λ p. (2 * j + 1) * p) (pow-suc 2 (suc k)) ∙ sym (mul_assoc (2 * j + 1) (2 ^ suc k) 2) in
    let part : (2 * j + 1) * 2 ^ suc k ≡ (2 * j + 1) * 2 ^ k * 2 =
    ap (λ p. (2 * j + 1) * p) (pow-suc 2 k) ∙ sym (mul_assoc (2 * j + 1) (2 ^ k) 2) in
    let even : 255 * suc m ≡ 2 * ((2 * j + 1) * 2 ^ k) = omega arith in
    absurd (odd_255 m ((2 * j + 1) * 2 ^ k) (is_odd s m (negsuc (suc k)) f) even)

pub one_tie : (n : ℕ) → n < 2 ^ 32 → From0To1 (of_bits binary32 n) → (j : ℕ)
    → 510 * num (of_bits binary32 n) ≡ (2 * j + 1) * den (of_bits binary32 n) → n ≡ 0x3F000000
unfolding to_bits is_nan
one_tie n l h j e =
    let half = half_only (of_bits binary32 n) (of_bits-fits binary32 n) h j e in
    let number : T (not (is_nan (of_bits binary32 n))) = rw half tt in
    sym (to_bits-of_bits binary32 n l number) ∙ ap (to_bits binary32) half
