-- Signed machine numbers of any width: the bits n of a local stand for an integer z that is at most k from 0 (`Holds`).
-- Each operation has two laws: that it does not wrap (`-fits`), and what the bits it leaves stand for (`-holds`).
--   of_cast, literal, of_small       where a local comes from: a cast, a literal, or a parameter, an element, a result
--   read-back, size_of, named        the number read back from its bits, its size, and it under an equal name
--   cast_fits, cast_holds            from one signed width to another
--   add_holds, sub_holds, mul_holds  sum, difference, product
--   factors_fit                      an unsigned product of 64 bits
use mathlib.Core.Path.{◌≡◌, sym, ◌∙◌, subst}
use Prim.Native.Nat.{ℕ, ◌+◌, ◌*◌, ◌^◌, ◌≤◌, ◌<◌}
use native.Mathlib.Nat.{le_trans, le_refl, lt_of_le_of_lt, mul-le-mul}
use native.Mathlib.Omega.{arith}
use lib.Dec.{T, ltb, ltb→lt}
use lib.IntN.{ℤ, pos, neg_ℤ, nat_abs, ◌+ℤ◌, ◌-ℤ◌, ◌*ℤ◌}
use lib.Signed.{mag}
use mir.Syntax.{Width, w64}
use mir.Val.{Fits, SFits, to_z, of_z, hbits}
use mir.Facts.{to_z-of_z, to_z_pos, Fits-le, Fits-lit}
use Rattle.algebra.proofs.Order.{mag_nat_abs, natAbs-+ℤ, nat_abs_negℤ, nat_abs_mul_le}

pub record Holds (w : Width) (n : ℕ) (z : ℤ) (k : ℕ) : Type 0 where
  pub value : to_z w n ≡ z
  pub size : nat_abs z ≤ k

-- a small number fits
pub fits_small : (w : Width) (z : ℤ) {k : ℕ} → nat_abs z ≤ k → k < 2 ^ hbits w → SFits w z
fits_small w z p q = record { sfits = lt_of_le_of_lt (le_trans (mag_nat_abs z) p) q }

-- ---- where a local comes from
-- an unsigned number that was cast
pub of_cast : (w : Width) (n : ℕ) {k : ℕ} → n ≤ k → k < 2 ^ hbits w → Holds w n (pos n) k
of_cast w n p q = record { value = to_z_pos w (lt_of_le_of_lt p q); size = p }

-- a literal: `literal w32 255 tt`
pub literal : (w : Width) (n : ℕ) → T (ltb n (2 ^ hbits w)) → Holds w n (pos n) n
literal w n t = of_cast w n (le_refl n) (ltb→lt n (2 ^ hbits w) t)

-- a parameter, an element of a slice, a call's result
pub of_small : (w : Width) (z : ℤ) {k : ℕ} → nat_abs z ≤ k → k < 2 ^ hbits w → Holds w (of_z w z) z k
of_small w z p q = record { value = to_z-of_z (fits_small w z p q); size = p }

-- a number that its own width holds, read back from its bits
pub read_back : (w : Width) (z : ℤ) → mag z < 2 ^ hbits w → to_z w (of_z w z) ≡ z
read_back w z h = to_z-of_z (record { sfits = h })

-- ---- the same local, said otherwise
-- its size, of the number as the bits give it
pub size_of : {w : Width} {n k : ℕ} {z : ℤ} → Holds w n z k → nat_abs (to_z w n) ≤ k
size_of {k} h = subst (λ (v : ℤ). nat_abs v ≤ k) (sym h.value) h.size

-- the number under an equal name
pub named : {w : Width} {n k : ℕ} {z z' : ℤ} → z ≡ z' → Holds w n z k → Holds w n z' k
named {k} e h = record { value = h.value ∙ e; size = subst (λ (v : ℤ). nat_abs v ≤ k) e h.size }

-- with a larger bound
pub wider : {w : Width} {n j k : ℕ} {z : ℤ} → j ≤ k → Holds w n z j → Holds w n z k
wider p h = record { value = h.value; size = le_trans h.size p }

-- ---- a cast from one signed width to another
module _ {v : Width} {n k : ℕ} {z : ℤ} (w : Width) (h : Holds v n z k) (q : k < 2 ^ hbits w) where
  pub cast_fits : SFits w (to_z v n)
  cast_fits = fits_small w (to_z v n) (size_of h) q

  pub cast_holds : Holds w (of_z w (to_z v n)) z k
  cast_holds = record { value = to_z-of_z cast_fits ∙ h.value; size = h.size }

-- ---- sum, difference, product
module _ {w : Width} {m n j k : ℕ} {a b : ℤ} (x : Holds w m a j) (y : Holds w n b k) where
  add_size : nat_abs (a +ℤ b) ≤ j + k
  add_size = omega (arith, natAbs-+ℤ a b, x.size, y.size)

  sub_size : nat_abs (a -ℤ b) ≤ j + k
  sub_size = omega (arith, natAbs-+ℤ a (neg_ℤ b), nat_abs_negℤ b, x.size, y.size)

  mul_size : nat_abs (a *ℤ b) ≤ j * k
  mul_size = nat_abs_mul_le a b x.size y.size

  add_value : to_z w m +ℤ to_z w n ≡ a +ℤ b
  add_value = λ i. x.value i +ℤ y.value i

  sub_value : to_z w m -ℤ to_z w n ≡ a -ℤ b
  sub_value = λ i. x.value i -ℤ y.value i

  mul_value : to_z w m *ℤ to_z w n ≡ a *ℤ b
  mul_value = λ i. x.value i *ℤ y.value i

  pub add_fits : j + k < 2 ^ hbits w → SFits w (to_z w m +ℤ to_z w n)
  add_fits q = subst (SFits w) (sym add_value) (fits_small w _ add_size q)

  pub sub_fits : j + k < 2 ^ hbits w → SFits w (to_z w m -ℤ to_z w n)
  sub_fits q = subst (SFits w) (sym sub_value) (fits_small w _ sub_size q)

  -- a product whose own size is known
  pub product_fits : {l : ℕ} → nat_abs (a *ℤ b) ≤ l → l < 2 ^ hbits w → SFits w (to_z w m *ℤ to_z w n)
  product_fits p q = subst (SFits w) (sym mul_value) (fits_small w _ p q)

  pub product_holds : {l : ℕ} → nat_abs (a *ℤ b) ≤ l → l < 2 ^ hbits w → Holds w (of_z w (to_z w m *ℤ to_z w n)) (a *ℤ b) l
  product_holds p q = record { value = to_z-of_z (product_fits p q) ∙ mul_value; size = p }

  pub mul_fits : j * k < 2 ^ hbits w → SFits w (to_z w m *ℤ to_z w n)
  mul_fits q = product_fits mul_size q

  pub add_holds : j + k < 2 ^ hbits w → Holds w (of_z w (to_z w m +ℤ to_z w n)) (a +ℤ b) (j + k)
  add_holds q = record { value = to_z-of_z (add_fits q) ∙ add_value; size = add_size }

  pub sub_holds : j + k < 2 ^ hbits w → Holds w (of_z w (to_z w m -ℤ to_z w n)) (a -ℤ b) (j + k)
  sub_holds q = record { value = to_z-of_z (sub_fits q) ∙ sub_value; size = sub_size }

  pub mul_holds : j * k < 2 ^ hbits w → Holds w (of_z w (to_z w m *ℤ to_z w n)) (a *ℤ b) (j * k)
  mul_holds q = product_holds mul_size q

-- ---- unsigned numbers of 64 bits
-- a product whose factors are at most m and n
pub factors_fit : {a b : ℕ} (m n : ℕ) → a ≤ m → b ≤ n → T (ltb (m * n) (2 ^ 64)) → Fits w64 (a * b)
factors_fit m n p q t = Fits-le (mul-le-mul p q) (Fits-lit t)
