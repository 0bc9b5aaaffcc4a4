-- What the judges of the later calls rest on.
--   input_fits  where none of 1 to 7 and 16 is drawn the plate fits
--   on, both_on where 8 is not drawn, the place of a cell that is named is one of a slice as long as the cells
use mathlib.Core.List.{List, [], ◌∷◌}
use mathlib.Core.Path.{◌≡◌, refl}
use Prim.Native.Nat.{ℕ, ◌*◌, ◌<◌}
use Rattle.algebra.proofs.Grid.{cell<}
use Rattle.model.specs.declared.Setting.{Setting}
use Rattle.model.specs.Error.{cell_at}
use Rattle.model.specs.Refusal.{first_of, off, bad_cell, bad_cells, input_refusals, HalftoneFits}
use Rattle.model.specs.Setting.{target_in}
use Rattle.model.proofs.Basic.{neither}
use Rattle.model.proofs.Refusal.{none, plate_fits}
use Rattle.model.proofs.Later.{cell_inside}

pub input_fits : (g : Setting) (dots : List ℕ) (table : ℕ)
    → 0 ≡ first_of (input_refusals g.measures g.psf.now g.gray.now dots table)
    → HalftoneFits (target_in g) dots table
input_fits g dots table e =
    let input = input_refusals g.measures g.psf.now g.gray.now dots table in
    (plate_fits g.measures g.psf.now g.gray.now dots table (none input tt e refl)).0.halftone

module _ (w h row col : ℕ) where
  pub on : 0 ≡ first_of (bad_cell w h row col ∷ []) → {n m : ℕ} → n ≡ h * w → m ≡ cell_at w row col → m < n
  on e long is =
      let (inside, _) = none (bad_cell w h row col ∷ []) tt e refl in
      let (r, c) = cell_inside w h row col inside in
      rw (is, long) (cell< r c)

  pub both_on : (row' col' : ℕ) → 0 ≡ first_of (bad_cells w h row col row' col' ∷ []) → {n m k : ℕ} → n ≡ h * w
      → m ≡ cell_at w row col → k ≡ cell_at w row' col' → (m < n) × (k < n)
  both_on row' col' e long is is' =
      let (inside, _) = none (bad_cells w h row col row' col' ∷ []) tt e refl in
      let (one, other) = neither (off w h row col) (off w h row' col') inside in
      let (r, c) = cell_inside w h row col one in
      let (r', c') = cell_inside w h row' col' other in
      (rw (is, long) (cell< r c), rw (is', long) (cell< r' c'))
