-- What 32 bits are read as, by the tests that the code makes.
--   no_number, shade, above, below
--   shade_of                        what is read as a shade is one
--   low_shade, low_number           the bits up to those of 1 are those of a shade, which is a number
use mathlib.Core.Bool.{true, false}
use mathlib.Core.Logic.{inl}
use mathlib.Core.Path.{◌≡◌, sym, ◌∙◌, subst}
use Prim.Native.Nat.{ℕ, ◌%◌, ◌≤◌}
use native.Mathlib.Omega.{arith}
use borrow.Author.Tests.{le-ltb}
use lib.Ieee.Bits.{nan_bits_above}
use lib.Ieee.{Float, binary32, of_bits, nan_bits, le}
use Rattle.model.specs.declared.Sample.{Sample}
use Rattle.model.specs.declared.Sample.TheVariants.{Shade, Outside, NotANumber}
use Rattle.model.specs.Pfm.{zero_float, one_float, is_shade, sample_of}
use Rattle.model.proofs.Samples.{Kind, kind, bits_shade, shade_by_value}

module _ (n : ℕ) where
  pub no_number : nan_bits binary32 n ≡ true → NotANumber ≡ sample_of n
  unfolding sample_of
  no_number e = rw e

  module _ (e : nan_bits binary32 n ≡ false) where
    pub shade : le zero_float (of_bits binary32 n) ≡ true → le (of_bits binary32 n) one_float ≡ true
        → Shade (of_bits binary32 n) ≡ sample_of n
    unfolding sample_of
    shade lo hi = rw (e, lo, hi)

    pub above : le zero_float (of_bits binary32 n) ≡ true → le (of_bits binary32 n) one_float ≡ false
        → Outside (of_bits binary32 n) ≡ sample_of n
    unfolding sample_of
    above lo hi = rw (e, lo, hi)

    pub below : le zero_float (of_bits binary32 n) ≡ false → Outside (of_bits binary32 n) ≡ sample_of n
    unfolding sample_of
    below lo = rw (e, lo)

-- what a shade is known for
abbrev Fine : Sample → Type 0
Fine (Shade v) = is_shade v ≡ true
Fine (Outside v) = Unit
Fine NotANumber = Unit

pub shade_of : (n : ℕ) (v : Float) → sample_of n ≡ Shade v → is_shade v ≡ true
shade_of n v e = subst Fine e (go (kind n))
  where
    go : Kind n → Fine (sample_of n)
    go (Kind.shade t f) = subst Fine (sym f) t
    go (Kind.outside t a f) = subst Fine (sym f) tt
    go (Kind.no_number a f) = subst Fine (sym f) tt

pub low_shade : (n : ℕ) → n ≤ 0x3F800000 → Shade (of_bits binary32 n) ≡ sample_of n
low_shade n l = sym ((shade_by_value n).1 (bits_shade n (omega arith) (inl l)))

pub low_number : (n : ℕ) → n ≤ 0x3F800000 → nan_bits binary32 n ≡ false
low_number n l = nan_bits_above binary32 n ∙ le-ltb 0x7F800000 (n % 0x80000000) (omega arith)
