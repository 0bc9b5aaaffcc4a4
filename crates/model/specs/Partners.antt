-- The partners of a cell in a swap scan: the offsets within reach in document 01's order, farthest first, the cells
-- where they land, and which cells are within reach of one another.
use Rattle.std.specs.Prelude.{Bool, ◌&&◌, ◌≡◌, ℕ, zero, suc, ◌+◌, ◌*◌, ◌/◌, ◌%◌, ◌≤◌, ◌<◌, eqb, leb, ℤ, pos, nat_abs, ◌+ℤ◌, ◌-ℤ◌, length, get_or, ◌<ℤ◌}
use mathlib.Core.List.{List, [], ◌∷◌, ◌++◌, Memᴰ as In}
use Rattle.std.specs.Int.Signed.{le_z, lt_z}
use Rattle.model.specs.Basic.{pick}
use Rattle.model.specs.Error.{cell_at}
use Rattle.model.specs.Refusal.{gap}

-- rows down, columns right
pub record Offset : Type 0 where
  pub down : ℤ
  pub right : ℤ

-- the sum of squares of its coordinates
abbrev pub far : Offset → ℕ
far o = nat_abs o.down * nat_abs o.down + nat_abs o.right * nat_abs o.right

-- ---- the offsets with both coordinates from -q to q
module _ (q : ℕ) where
  -- the k-th, smaller row offsets first, then smaller column offsets
  abbrev pub offset_at : ℕ → Offset
  offset_at k =
      record { down = pos (k / (2 * q + 1)) -ℤ pos q; right = pos (k % (2 * q + 1)) -ℤ pos q }

  -- of the n from the k-th on, those whose sum of squares is v, in that order
  unfoldable pub offsets_of : (v k n : ℕ) → List Offset
  offsets_of v k zero = []
  offsets_of v k (suc n) =
      pick (eqb (far (offset_at k)) v) (offset_at k ∷ offsets_of v (suc k) n) (offsets_of v (suc k) n)

  -- by falling sum of squares, from v down to 1, which leaves out (0,0)
  unfoldable pub offsets_from : (v : ℕ) → List Offset
  offsets_from zero = []
  offsets_from (suc v) = offsets_of (suc v) 0 ((2 * q + 1) * (2 * q + 1)) ++ offsets_from v

-- all of them save (0,0), farthest first
unfoldable pub offsets : (reach : ℕ) → List Offset
offsets q = offsets_from q (2 * q * q)

-- ---- what document 01 says of the list of offsets
-- (0,0)
abbrev pub itself : Offset
itself = record { down = pos 0; right = pos 0 }

-- both coordinates from -reach to reach, save (0,0)
pub record Within (reach : ℕ) (o : Offset) : Type 0 where
  pub rows : nat_abs o.down ≤ reach
  pub columns : nat_abs o.right ≤ reach
  pub other : o ≡ itself → ⊥

-- by falling sum of squares, then smaller row offset, then smaller column offset
pub data Before (a b : Offset) : Type 0 where
  farther : far b < far a → Before a b
  higher : far a ≡ far b → a.down <ℤ b.down → Before a b
  further_left : far a ≡ far b → a.down ≡ b.down → a.right <ℤ b.right → Before a b

-- the list holds these and no others, and each stands before all that follow, so none stands twice
pub record Ordered (reach : ℕ) : Type 0 where
  pub within : (o : Offset) → In o (offsets reach) → Within reach o
  pub complete : (o : Offset) → Within reach o → In o (offsets reach)
  pub farthest_first : (i j : ℕ) → i < j → j < length (offsets reach)
      → Before (get_or (offsets reach) i itself) (get_or (offsets reach) j itself)

-- ---- where an offset leads from cell m
module _ (width : ℕ) where
  abbrev pub partner_row : ℕ → Offset → ℤ
  partner_row m o = pos (m / width) +ℤ o.down

  abbrev pub partner_column : ℕ → Offset → ℤ
  partner_column m o = pos (m % width) +ℤ o.right

  -- the cell there, where it lands on the plate
  abbrev pub partner : ℕ → Offset → ℕ
  partner m o = cell_at width (nat_abs (partner_row m o)) (nat_abs (partner_column m o))

-- a row or a column on the plate
abbrev pub inside : (limit : ℕ) → ℤ → Bool
inside limit z = le_z (pos 0) z && lt_z z (pos limit)

-- it lands on the plate
abbrev pub lands : (width height : ℕ) → ℕ → Offset → Bool
lands width height m o = inside height (partner_row width m o) && inside width (partner_column width m o)

-- ---- two cells within reach of one another: they differ by at most the reach in row and in column
abbrev pub near_by : (width reach : ℕ) → ℕ → ℕ → Bool
near_by width reach m n = leb (gap (m / width) (n / width)) reach && leb (gap (m % width) (n % width)) reach
