-- Turning dots, each byte being 0 or 1.
--   sign_is, unlike_sign  what the other byte adds is s(m), and so is what a dot gets from an unlike one
--   toggle_sets           a toggle turns one dot
use mathlib.Core.Path.{◌≡◌, refl, ◌∙◌, ap}
use mathlib.Core.Bool.{Bool, true, false}
use mathlib.Core.List.{List, [], ◌∷◌}
use Prim.Native.Nat.{ℕ, zero, suc, ◌-◌, ◌≤◌}
use native.Mathlib.Omega.{arith}
use lib.Dec.{eqb}
use lib.IntN.{pos, negsuc, ◌-ℤ◌, ◌*ℤ◌}
use lib.ListN.{get_or}
use Rattle.model.specs.Basic.{pick, AtMost}
use Rattle.model.specs.Change.{sign_of, sign, Setting, toggle}

-- the store that turns the dot of m
abbrev pub turns : List ℕ → ℕ → Setting
turns dots m = record { cell = m; byte = 1 - get_or dots m 0 }

-- a byte that is 0 or 1 is not 2 or more
pub two : (n : ℕ) → suc (suc n) ≤ 1 → ⊥
two n h = omega arith

module _ (dots : List ℕ) where
  -- s(m) × s(m) = 1
  pub sign_square : (m : ℕ) → sign dots m *ℤ sign dots m ≡ pos 1
  sign_square m = go (eqb (get_or dots m 0) 0)
    where
      go : (b : Bool) → pick b (pos 1) (negsuc 0) *ℤ pick b (pos 1) (negsuc 0) ≡ pos 1
      go true = refl
      go false = refl

  module _ (bits : AtMost 1 dots) where
    -- what the other byte adds is s(m)
    other : (x : ℕ) → x ≤ 1 → pos (1 - x) -ℤ pos x ≡ sign_of x
    other zero h = refl
    other (suc zero) h = refl
    other (suc (suc x)) h = absurd (two x h)

    pub sign_is : (m : ℕ) → pos (1 - get_or dots m 0) -ℤ pos (get_or dots m 0) ≡ sign dots m
    sign_is m = other (get_or dots m 0) (bits.each m)

    -- so is what a dot gets from an unlike one
    pub unlike_sign : (m n : ℕ) → (get_or dots m 0 ≡ get_or dots n 0 → ⊥)
        → pos (get_or dots n 0) -ℤ pos (get_or dots m 0) ≡ sign dots m
    unlike_sign m n unlike =
        ap (λ (y : ℕ). pos y -ℤ pos (get_or dots m 0)) (omega (arith, bits.each m, bits.each n)) ∙ sign_is m

    -- a toggle turns one dot
    pub toggle_sets : (m : ℕ) → (toggle dots m).sets ≡ turns dots m ∷ []
    unfolding toggle
    toggle_sets m = ap (λ (b : ℕ). record { cell = m; byte = b } ∷ []) (go (get_or dots m 0) (bits.each m))
      where
        go : (x : ℕ) → x ≤ 1 → pick (eqb x 0) 1 0 ≡ 1 - x
        go zero h = refl
        go (suc zero) h = refl
        go (suc (suc x)) h = absurd (two x h)
