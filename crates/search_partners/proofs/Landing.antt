-- Where an offset whose coordinates have 6 added leads: rows and columns as naturals.
--   lands_is, partner_is                          whether it lands, and on which cell
--   off_top, off_bottom, off_left, off_right, on  where it does not, and where it does
use Rattle.std.proofs.Common.{◌≡◌, ℕ, suc, ◌+◌, ◌-◌, ◌<◌, ◌≤◌, Bool, true, false, ◌&&◌, [], ◌∷◌, ℤ, pos, ◌+ℤ◌, ◌-ℤ◌, neg_ℤ, nat_abs, refl, ap, ◌∙◌, ap₂, arith, le-ltb, lt-ltb, le-leb}
use mathlib.Core.Bool.{and-false}
use Rattle.algebra.proofs.Solver.{reify}
use Rattle.algebra.proofs.Order.{show≡}
use Rattle.algebra.proofs.Grid.{cell_row, cell_column}
use Rattle.model.specs.Error.{cell_at}
use Rattle.model.specs.Partners.{inside, lands, partner}
use Rattle.invariants.specs.Partners.{biased}

-- along one coordinate: d - 6 on from place a
abbrev place : (a d : ℕ) → ℤ
place a d = pos a +ℤ (pos d -ℤ pos 6)

module _ (limit a d : ℕ) where
  place_is : 6 ≤ a + d → place a d ≡ pos (a + d - 6)
  place_is h = show≡ (pos a ∷ pos d ∷ pos (a + d - 6) ∷ []) (search reify depth 40) (omega arith)

  before : a + d < 6 → inside limit (place a d) ≡ false
  before h = ap (inside limit) low
    where
      n : ℕ
      n = suc (5 - (a + d))

      low : place a d ≡ neg_ℤ (pos (suc (5 - (a + d))))
      low = show≡ (pos a ∷ pos d ∷ pos n ∷ []) (search reify depth 40) (omega arith)

  beyond : limit + 6 ≤ a + d → inside limit (place a d) ≡ false
  beyond h =
      ap (inside limit) (place_is (omega arith))
      ∙ rw (le-leb 0 (a + d - 6) (omega arith), le-ltb (a + d - 6) limit (omega arith)) refl

  within : 6 ≤ a + d → a + d < limit + 6 → inside limit (place a d) ≡ true
  within h k =
      ap (inside limit) (place_is h)
      ∙ rw (le-leb 0 (a + d - 6) (omega arith), lt-ltb (a + d - 6) limit (omega arith)) refl

-- from the cell at (row, col)
module _ (w h row col : ℕ) (across : col < w) (down right : ℕ) where
  abbrev m : ℕ
  m = cell_at w row col

  abbrev Lands : Bool → Type 0
  Lands b = lands w h m (biased down right) ≡ b

  -- as row and column give it
  abbrev there : Bool
  there = inside h (place row down) && inside w (place col right)

  pub lands_is : lands w h m (biased down right) ≡ there
  lands_is =
      ap₂ (λ y x. inside h (pos y +ℤ (pos down -ℤ pos 6)) && inside w (pos x +ℤ (pos right -ℤ pos 6)))
      (cell_row {y = row} across) (cell_column row across)

  pub partner_is : 6 ≤ row + down → 6 ≤ col + right
      → partner w m (biased down right) ≡ cell_at w (row + down - 6) (col + right - 6)
  partner_is p q =
      ap₂ (λ y x. cell_at w (nat_abs (pos y +ℤ (pos down -ℤ pos 6))) (nat_abs (pos x +ℤ (pos right -ℤ pos 6))))
      (cell_row {y = row} across) (cell_column row across)
      ∙ ap₂ (λ y x. cell_at w (nat_abs y) (nat_abs x)) (place_is h row down p) (place_is w col right q)

  pub off_top : row + down < 6 → Lands false
  off_top p = lands_is ∙ rw (before h row down p) refl

  pub off_bottom : h + 6 ≤ row + down → Lands false
  off_bottom p = lands_is ∙ rw (beyond h row down p) refl

  pub off_left : col + right < 6 → Lands false
  off_left p = lands_is ∙ rw (before w col right p) (and-false (inside h (place row down)))

  pub off_right : w + 6 ≤ col + right → Lands false
  off_right p = lands_is ∙ rw (beyond w col right p) (and-false (inside h (place row down)))

  pub on : 6 ≤ row + down → row + down < h + 6 → 6 ≤ col + right → col + right < w + 6 → Lands true
  on p q r s = lands_is ∙ ap₂ (λ a b. a && b) (within h row down p q) (within w col right r s)
