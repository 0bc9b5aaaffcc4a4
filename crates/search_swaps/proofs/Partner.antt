-- The partner of the cell at (row, col) at an offset whose coordinates have 6 added.
--   landed, stands  it lands on a row and in a column of the plate, and where it stands
--   trial_is        the test by the table and by what the offset is worth is whether the swap lowers E
use mathlib.Core.Bool.{Bool, true, false, ◌&&◌, not, and-eq-true_iff}
use mathlib.Core.List.{List, [], ◌∷◌}
use mathlib.Core.Path.{◌≡◌, refl, sym, ◌∙◌, ap, ap₂, subst}
use Prim.Native.Nat.{ℕ, ◌+◌, ◌*◌, ◌-◌, ◌≤◌, ◌<◌}
use native.Mathlib.Omega.{arith}
use borrow.Author.Tests.{eqb-false, not-true}
use lib.Dec.{T, eqb}
use lib.IntN.{ℤ, pos, ◌+ℤ◌, ◌-ℤ◌, ◌*ℤ◌}
use lib.ListN.{get_or}
use lib.Signed.{◌≤ℤ◌, le_z, lt_z}
use Rattle.algebra.proofs.Order.{read≤, read<, show≡}
use Rattle.algebra.proofs.Solver.{reify}
use Rattle.model.specs.declared.Cell.{Cell}
use Rattle.model.specs.declared.Measures.{Measures}
use Rattle.model.specs.Basic.{square_at}
use Rattle.model.specs.Change.{sign, swap_sum, swap, lowers}
use Rattle.model.specs.Error.{Target, target_for, cell_at}
use Rattle.model.specs.Partners.{Offset, inside, lands, partner}
use Rattle.invariants.specs.Partners.{biased, worth_at}
use Rattle.model.specs.Lock.{locked}
use Rattle.model.specs.Scan.{exchangeable}
use Rattle.invariants.specs.Plate.{Judged, OnPlate, cell_of}
use Rattle.invariants.specs.Trials.{lowers_at, takes_by}
use Rattle.invariants.proofs.Plate.{swap_weighs}
use Rattle.model.proofs.State.{below}
use Rattle.search_partners.proofs.Landing.{lands_is, partner_is}
use Rattle.search_change.proofs.Signs.{multiple_sign}

-- ---- along one coordinate: d - 6 on from place a
inside_by : (limit a d : ℕ) → inside limit (pos a +ℤ (pos d -ℤ pos 6)) ≡ true → (6 ≤ a + d) × (a + d < limit + 6)
inside_by limit a d h =
    let ρ : List ℤ = pos a ∷ pos d ∷ pos limit ∷ [] in
    let z : ℤ = pos a +ℤ (pos d -ℤ pos 6) in
    let (low, high) = (and-eq-true_iff (le_z (pos 0) z) (lt_z z (pos limit))).0 h in
    let least : pos 0 ≤ℤ z = record { le = subst T (sym low) tt } in (
      omega (arith, read≤ ρ (search reify depth 40) least),
      omega (arith, read< ρ (search reify depth 40) (below {a = z} {b = pos limit} high)),
    )

-- back from there
back : (a d : ℕ) → 6 ≤ a + d → pos a -ℤ pos (a + d - 6) ≡ pos 6 -ℤ pos d
back a d h = show≡ (pos a ∷ pos d ∷ pos (a + d - 6) ∷ []) (search reify depth 40) (omega arith)

-- ---- the sign of a swap's change is that of its sum
sum_sign : (P z s a b : ℤ)
    → lt_z (s *ℤ (a -ℤ b) +ℤ pos 255 *ℤ (P -ℤ z)) (pos 0) ≡ lt_z (swap_sum 255 P z s a b) (pos 0)
unfolding swap_sum
sum_sign P z s a b = sym (multiple_sign 509 (s *ℤ (a -ℤ b) +ℤ pos 255 *ℤ (P -ℤ z)))

-- ---- where it lands
module _ (w h row col : ℕ) (across : col < w) (down right : ℕ) where
  abbrev m : ℕ
  m = cell_at w row col

  abbrev offset : Offset
  offset = biased down right

  -- on a row and in a column of the plate
  pub landed : lands w h m offset ≡ true
      → ((6 ≤ row + down) × (6 ≤ col + right)) × ((row + down - 6 < h) × (col + right - 6 < w))
  landed e =
      let (y, x) =
      (and-eq-true_iff (inside h (place row down)) (inside w (place col right))).0
      (sym (lands_is w h row col across down right) ∙ e) in
      let (top, bottom) = inside_by h row down y in
      let (first, last) = inside_by w col right x in
      ((top, first), (omega arith, omega arith))
    where
      place : ℕ → ℕ → ℤ
      place a d = pos a +ℤ (pos d -ℤ pos 6)

  pub stands : lands w h m offset ≡ true → partner w m offset ≡ cell_at w (row + down - 6) (col + right - 6)
  stands e = let (top, first) = (landed e).0 in partner_is w h row col across down right top first

-- ---- a trial there: the test by the table and by what the offset is worth
-- which is made of cells that are not locked and whose dots are unlike
regroup : (a b u : Bool) {f l : Bool} → (u ≡ true → f ≡ l)
    → not a && (not b && (u && f)) ≡ (not a && (not b && u)) && l
regroup true b u e = refl
regroup false true u e = refl
regroup false false true e = e refl
regroup false false false e = refl

module _ {m : Measures} {psf gray : List ℕ} {c : List ℤ} {dots : List ℕ} {table : List ℤ}
    (j : Judged m psf gray c dots table) {at : Cell} (on : OnPlate m at) (down right : ℕ)
    (l : lands m.width m.height (cell_of m.width at) (biased down right) ≡ true) where
  abbrev t : Target
  t = target_for m psf gray

  abbrev q : ℕ
  q = cell_of m.width at

  abbrev to : Cell
  to = record { row = at.row + down - 6; col = at.col + right - 6 }

  -- where it stands
  stood : partner m.width q (biased down right) ≡ cell_of m.width to
  stood = stands m.width m.height at.row at.col on.col_below down right l

  pub partner_on : OnPlate m (record { row = at.row + down - 6; col = at.col + right - 6 })
  partner_on =
      let (y, x) = (landed m.width m.height at.row at.col on.col_below down right l).1 in
      record { row_below = y; col_below = x }

  -- the kernel at the offset is that between the cells
  worth_is : worth_at m.radius c down right
      ≡ pos 255 *ℤ (square_at (pos 0) (2 * m.radius) c (pos 0) (pos 0)
      -ℤ square_at (pos 0) (2 * m.radius) c (pos at.row -ℤ pos to.row) (pos at.col -ℤ pos to.col))
  worth_is =
      let (y, x) = (landed m.width m.height at.row at.col on.col_below down right l).0 in
      ap₂ (λ dy dx.
      pos 255 *ℤ (square_at (pos 0) (2 * m.radius) c (pos 0) (pos 0) -ℤ square_at (pos 0) (2 * m.radius) c dy dx))
      (sym (back at.row down y)) (sym (back at.col right x))

  abbrev falls : ℕ → ℤ → Bool
  falls i worth = lt_z (sign dots q *ℤ (get_or table q (pos 0) -ℤ get_or table i (pos 0)) +ℤ worth) (pos 0)

  abbrev unlike : ℕ → Bool
  unlike i = not (eqb (get_or dots q 0) (get_or dots i 0))

  falls_is : unlike (cell_of m.width to) ≡ true
      → falls (cell_of m.width to) (worth_at m.radius c down right) ≡ lowers t dots (swap dots q (cell_of m.width to))
  falls_is u =
      ap (falls (cell_of m.width to)) worth_is
      ∙ sum_sign _ _ (sign dots q) (get_or table q (pos 0)) (get_or table (cell_of m.width to) (pos 0))
      ∙ ap (λ z. lt_z z (pos 0)) (swap_weighs j on partner_on (eqb-false _ _ (not-true _ u)))

  pub trial_is : {i : ℕ} {worth : ℤ} {answer : Bool} → i ≡ partner m.width (cell_of m.width at) (biased down right)
      → worth ≡ worth_at m.radius c down right
      → answer ≡ takes_by gray dots table (cell_of m.width at) i worth
      → answer ≡ lowers_at (target_for m psf gray) dots (cell_of m.width at) (biased down right)
  trial_is u v d =
      d
      ∙ ap₂ (takes_by gray dots table q) (u ∙ stood) v
      ∙ regroup (locked gray q) (locked gray (cell_of m.width to)) (unlike (cell_of m.width to)) falls_is
      ∙ ap (λ i. exchangeable t dots q i && lowers t dots (swap dots q i)) (sym stood)
      ∙ ap (λ b. (b && exchangeable t dots q (partner m.width q (biased down right)))
      && lowers t dots (swap dots q (partner m.width q (biased down right)))) (sym l)
