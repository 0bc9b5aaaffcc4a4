-- One change (01: One change): the cells that it sets with their new bytes, the copy of the dots on which it is made, a
-- toggle, a swap, and when a change is legal; what it does to E, the copy's E less the E before; one walk over changes;
-- and document 01's formulas, from T at the cells, the peak P and c, for every step u in place of 255. That they give
-- what a change does to E are laws (`toggle_change_lem`, `byte_swap_change_lem`, `swap_change_lem` of proofs/Change.antt).
use Rattle.std.specs.Prelude.{List, [], ◌∷◌, ℕ, ◌*◌, ◌≤◌, ◌<◌, eqb, ℤ, pos, negsuc, ◌+ℤ◌, ◌-ℤ◌, ◌*ℤ◌, get_or, set, Bool, ◌≡◌}
use Rattle.model.specs.Basic.{pick, All}
use Rattle.model.specs.Psf.{peak}
use Rattle.model.specs.Error.{Target, kernel, filtered_error, cells, squared_error}
use Rattle.model.specs.Lock.{Free}
use Rattle.model.specs.Ledger.{Count, on_count, off_count, swap_count, net_of, dot_total}
use Rattle.std.specs.Int.Signed.{lt_z}

-- ---- a change: the count that it raises, and the cells that it sets with their new bytes
pub record Setting : Type 0 where
  pub cell : ℕ
  pub byte : ℕ

pub record Move : Type 0 where
  pub raises : Count
  pub sets : List Setting

-- every cell that it sets is one of the N of the plate
abbrev pub Placed : ℕ → List Setting → Type 0
Placed N = All (λ x. x.cell < N)

-- the copy of the dots on which it is made
unfoldable pub made : List ℕ → List Setting → List ℕ
made dots [] = dots
made dots (x ∷ l) = made (set dots x.cell x.byte) l

-- a toggle at m: a blank gets a dot, a dot is taken
unfoldable pub toggle : List ℕ → ℕ → Move
toggle dots m =
    let blank = eqb (get_or dots m 0) 0 in
    record { raises = pick blank on_count off_count; sets = record { cell = m; byte = pick blank 1 0 } ∷ [] }

-- a swap of m and n: each gets the other's byte
unfoldable pub swap : List ℕ → ℕ → ℕ → Move
swap dots m n =
    record {
      raises = swap_count;
      sets = record { cell = m; byte = get_or dots n 0 } ∷ record { cell = n; byte = get_or dots m 0 } ∷ [];
    }

-- ---- a legal change of dots for a target
-- the cells that it sets are different
abbrev pub Apart : List Setting → Type 0
Apart [] = Unit {0}
Apart (x ∷ l) = All (λ y. x.cell ≡ y.cell → ⊥) l × Apart l

pub record Legal (t : Target) (dots : List ℕ) (v : Move) : Type 0 where
  -- its cells are on the plate, and different
  pub placed : Placed (cells t) v.sets
  pub apart : Apart v.sets
  -- none of them is locked
  pub free : All (λ x. Free t x.cell) v.sets
  -- each new byte is another than the one there, and at most the highest
  pub another : All (λ x. get_or dots x.cell 0 ≡ x.byte → ⊥) v.sets
  pub bits : All (λ x. x.byte ≤ t.top) v.sets
  -- the dots on the plate grow as its count says
  pub balance : pos (dot_total (made dots v.sets)) ≡ pos (dot_total dots) +ℤ net_of v.raises

-- ---- what it does to E
module _ (t : Target) where
  -- the copy's E less the E before
  unfoldable pub change : List ℕ → Move → ℤ
  change dots v = squared_error t (made dots v.sets) -ℤ squared_error t dots

  -- the copy's E is lower
  abbrev pub lowers : List ℕ → Move → Bool
  lowers dots v = lt_z (change dots v) (pos 0)

-- ---- one walk over changes, up to the first that lowers E
-- those that are weighed, which are the trials; the one that is taken, if any; and what the last one weighed does to E
pub record Look : Type 0 where
  pub weighed : List Move
  pub taken : List Move
  pub last : ℤ

module _ (t : Target) (dots : List ℕ) where
  -- after one that does z to E
  unfoldable pub look_from : (z : ℤ) → List Move → Look
  look_from z [] = record { weighed = []; taken = []; last = z }
  look_from z (v ∷ l) =
      let d = change t dots v in
      let k = look_from d l in
      pick (lowers t dots v) (record { weighed = v ∷ []; taken = v ∷ []; last = d })
      (record { weighed = v ∷ k.weighed; taken = k.taken; last = k.last })

  abbrev pub look : List Move → Look
  look = look_from (pos 0)

-- ---- by document 01's formulas
-- +1 for a blank, -1 for a dot
abbrev pub sign_of : (dot : ℕ) → ℤ
sign_of dot = pick (eqb dot 0) (pos 1) (negsuc 0)

-- s(m)
abbrev pub sign : List ℕ → ℕ → ℤ
sign dots m = sign_of (get_or dots m 0)

-- a toggle: u × (2 × s(m) × T(m) + u × P)
unfoldable pub toggle_sum : (u : ℕ) (P s Tm : ℤ) → ℤ
toggle_sum u P s Tm = pos u *ℤ (pos 2 *ℤ s *ℤ Tm +ℤ pos u *ℤ P)

-- a swap of any two bytes, that at m gaining d: 2u × d × (T(m) - T(n) + u × d × (P - c(m - n)))
unfoldable pub byte_swap_sum : (u : ℕ) (P c d Tm Tn : ℤ) → ℤ
byte_swap_sum u P c d Tm Tn = pos (2 * u) *ℤ (d *ℤ (Tm -ℤ Tn +ℤ pos u *ℤ d *ℤ (P -ℤ c)))

-- of unlike dots, where d is s(m): 2u × (s(m) × (T(m) - T(n)) + u × (P - c(m - n)))
unfoldable pub swap_sum : (u : ℕ) (P c s Tm Tn : ℤ) → ℤ
swap_sum u P c s Tm Tn = pos (2 * u) *ℤ (s *ℤ (Tm -ℤ Tn) +ℤ pos u *ℤ (P -ℤ c))

module _ (t : Target) (dots : List ℕ) where
  -- a toggle at m
  abbrev pub toggle_change : (m : ℕ) → ℤ
  toggle_change m = toggle_sum t.step (peak t.radius t.psf) (sign dots m) (filtered_error t dots m)

  -- a swap of m and n, whatever their bytes
  abbrev pub byte_swap_change : (m n : ℕ) → ℤ
  byte_swap_change m n =
      byte_swap_sum t.step (peak t.radius t.psf) (kernel t m n) (pos (get_or dots n 0) -ℤ pos (get_or dots m 0))
      (filtered_error t dots m) (filtered_error t dots n)

  -- a swap of m and n, whose dots differ
  abbrev pub swap_change : (m n : ℕ) → ℤ
  swap_change m n =
      swap_sum t.step (peak t.radius t.psf) (kernel t m n) (sign dots m)
      (filtered_error t dots m) (filtered_error t dots n)
