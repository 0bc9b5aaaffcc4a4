-- The later calls: what one was handed that is not refused, and what is drawn where that fits.
--   cell_inside, cells_inside   a cell that does not draw 8 is on the plate, and two that draw neither 8 nor 9
--   later_draws                 of what fits, none of 1 to 7, 16, 20 and 21 is drawn: only what it asks of its cells
--   fits_later, later_enters    a call that names no cell is refused exactly where what it was handed does not fit
--   toggle_enters, swap_enters  an attempt that is not refused: its cells are on the plate and unlocked, those of a
--                               swap unlike
use mathlib.Core.Bool.{false, not}
use mathlib.Core.Path.{◌≡◌, refl, sym, ◌∙◌, subst}
use mathlib.Core.List.{List, [], ◌∷◌, ◌++◌}
use borrow.Author.Tests.{eqb-false, not-false}
use lib.Dec.{T, ltb, ltb→lt}
use lib.IntN.{ℤ}
use lib.ListN.{length, get_or}
use Prim.Native.Nat.{ℕ, ◌<◌}
use Rattle.model.specs.declared.Measures.{Measures}
use Rattle.model.specs.declared.Stats.{Stats}
use Rattle.model.specs.Error.{Target, target_for, cell_at}
use Rattle.model.specs.Lock.{locked, Free}
use Rattle.model.specs.Refusal.{Refusal, first_of, off, bad_cells, bad_pair, input_refusals}
use Rattle.model.specs.Ledger.{wrong_stats}
use Rattle.model.specs.State.{bad_table, Asked, asks, no_cell, toggle_asked, swap_asked, state_refusals, later_refusals}
use Rattle.model.specs.State.{later_refusal, toggle_refusal, swap_refusal, LaterFits}
use Rattle.model.proofs.Refusal.{numbered, numbered_append, None, none, none_append, first_passes}
use Rattle.model.proofs.Basic.{neither}
use Rattle.model.proofs.Refusal.{plate_fits, plate_none}
use Rattle.model.proofs.State.{state_accepted, state_known}

-- a cell that is not off the plate
pub cell_inside : (w h row col : ℕ) → off w h row col ≡ false → (row < h) × (col < w)
cell_inside w h row col e =
    let (r, c) = neither (not (ltb row h)) (not (ltb col w)) e in (
      ltb→lt row h (subst T (sym (not-false (ltb row h) r)) tt),
      ltb→lt col w (subst T (sym (not-false (ltb col w) c)) tt),
    )

-- two cells, neither of which is off the plate
pub cells_inside : (w h reach row col row' col' : ℕ)
    → None (bad_cells w h row col row' col' ∷ bad_pair reach row col row' col' ∷ [])
    → ((row < h) × (col < w)) × ((row' < h) × (col' < w))
cells_inside w h reach row col row' col' drawn =
    let (one, other) = neither (off w h row col) (off w h row' col') drawn.0 in
    (cell_inside w h row col one, cell_inside w h row' col' other)

module _ (m : Measures) (psf gray dots : List ℕ) (table : List ℤ) (s : Stats) where
  abbrev t : Target
  t = target_for m psf gray

  abbrev input : List Refusal
  input = input_refusals m psf gray dots (length table)

  abbrev state : List Refusal
  state = state_refusals m psf gray dots table s

  -- a call that is not refused: what it was handed fits, and nothing that it asks is drawn
  later_fits : (a : Asked) → T (numbered a.named) → T (numbered a.last)
      → first_of (later_refusals m psf gray dots table s a) ≡ 0
      → LaterFits m psf gray dots table s × None a.named × None a.last
  unfolding bad_table wrong_stats
  later_fits a named last e =
      let after : List Refusal = a.named ++ (state ++ a.last) in
      let drawn = none (input ++ after) (numbered_append input after tt (numbered_append a.named (state ++ a.last)
      named (numbered_append state a.last tt last))) refl e in
      let (plate, rest) = none_append input after drawn in
      let (cells, rest) = none_append a.named (state ++ a.last) rest in
      let (fits, dots) = none_append state a.last rest in
      let (f, locks) = plate_fits m psf gray _ (length table) plate in
      let state = state_known t _ table s f.halftone.table_length fits in
      (record { plate = f; locks = locks; state = state }, cells, dots)

  -- of what fits, only what the call asks is drawn
  pub later_draws : LaterFits m psf gray dots table s → (a : Asked)
      → first_of (later_refusals m psf gray dots table s a) ≡ first_of (asks a)
  later_draws f a =
      first_passes [] input (a.named ++ (state ++ a.last))
      (plate_none m psf gray dots (length table) f.plate f.locks)
      ∙ first_passes a.named state a.last (state_accepted t dots table s f.state)

  pub fits_later : LaterFits m psf gray dots table s → later_refusal m psf gray dots table s ≡ 0
  unfolding later_refusal
  fits_later f = later_draws f no_cell

  -- a call that names no cell and is not refused
  pub later_enters : later_refusal m psf gray dots table s ≡ 0 → LaterFits m psf gray dots table s
  unfolding later_refusal
  later_enters e = (later_fits no_cell tt tt e).0

  -- a toggle that is not refused
  pub toggle_enters : (row col : ℕ) → toggle_refusal m psf gray dots table s row col ≡ 0
      → LaterFits m psf gray dots table s
      × ((row < m.height) × (col < m.width))
      × Free t (cell_at m.width row col)
  unfolding toggle_refusal
  toggle_enters row col e =
      let (fits, (cell, _), (free, _)) = later_fits (toggle_asked m gray row col) tt tt e in
      (fits, cell_inside m.width m.height row col cell, free)

  -- a swap that is not refused
  pub swap_enters : (row col row' col' : ℕ) → swap_refusal m psf gray dots table s row col row' col' ≡ 0
      → LaterFits m psf gray dots table s
      × ((row < m.height) × (col < m.width))
      × ((row' < m.height) × (col' < m.width))
      × (Free t (cell_at m.width row col) × Free t (cell_at m.width row' col'))
      × (get_or dots (cell_at m.width row col) 0 ≡ get_or dots (cell_at m.width row' col') 0 → ⊥)
  unfolding swap_refusal
  swap_enters row col row' col' e =
      let a : ℕ = cell_at m.width row col in
      let b : ℕ = cell_at m.width row' col' in
      let (fits, drawn, (locks, (like, _))) = later_fits (swap_asked m gray dots row col row' col') tt tt e in
      let (one, other) = cells_inside m.width m.height m.reach row col row' col' drawn in
      (fits, one, other, neither (locked gray a) (locked gray b) locks, eqb-false (get_or dots a 0) (get_or dots b 0) like)
