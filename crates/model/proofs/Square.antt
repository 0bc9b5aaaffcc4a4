-- The offsets within reach as the square that they are: sums over them row by row and column by column, whatever the
-- reach, and how many swaps a scan weighs at a cell.
--   offsets_square            a sum over the offsets and (0,0) is one over the rows and columns of the square
--   offsets_long              how many they are
--   swaps_length, swaps_last  the swaps of a cell are as many as the offsets that suit; with one offset more
--   swaps_most, swaps_few     at most as many as the offsets
--   itself_unsuited           (0,0) never suits
--   swaps_square              so they are counted over the square
use mathlib.Core.Bool.{Bool, true, false, not, ◌&&◌}
use mathlib.Core.List.{List, [], ◌∷◌, ◌++◌, map, map-append}
use mathlib.Core.Logic.{◌⊎◌, inl, inr}
use mathlib.Core.Path.{◌≡◌, refl, sym, ◌∙◌, ap, ap₂}
use Prim.Native.Nat.{ℕ, zero, suc, ◌+◌, ◌*◌, ◌/◌, ◌%◌, ◌≤◌, ◌<◌}
use native.Mathlib.Decide.{ℕ_discrete}
use native.Mathlib.Nat.{add_comm, add-zero, zero-add, mul-le-mul, mul_assoc, mul-one, suc-mul}
use native.Mathlib.Nat.{div-add-mod'}
use native.Mathlib.Omega.{arith}
use borrow.Author.Tests.{eq-eqb, ne_eqb}
use lib.Dec.{eqb}
use lib.IntN.{pos, nat_abs, ◌-ℤ◌}
use lib.ListN.{length, get_or}
use Rattle.algebra.proofs.Grid.{row<, column<}
use Rattle.algebra.proofs.Order.{nat_abs_show, nat_abs_parts, show≡, pn}
use Rattle.algebra.proofs.Solver.{reify}
use Rattle.model.specs.Basic.{pick, one_if, tabulate}
use Rattle.model.specs.Error.{Target, cell_at}
use Rattle.model.specs.Lock.{locked}
use Rattle.model.specs.Partners.{Offset, far, itself, offset_at, offsets_of, offsets_from, offsets, lands, partner}
use Rattle.model.specs.Psf.{total}
use Rattle.model.specs.Change.{swap}
use Rattle.model.specs.Scan.{suits, swaps_by, swaps}
use Rattle.model.proofs.Basic.{one_most}
use Rattle.model.proofs.Tables.{total_append, total_tabulate}
use Rattle.model.proofs.Totals.{sum_below, total_nil, total_same, total_none, total_plus, total_swap}
use Rattle.model.proofs.Totals.{total_const, total_one, total_grid, total_slide}

-- ---- sums of one term
-- x where a number is d, else 0
abbrev at_only : (d x : ℕ) → ℕ → ℕ
at_only d x u = pick (eqb d u) x 0

at_it : (d x : ℕ) → at_only d x d ≡ x
at_it d x = rw (eq-eqb d d refl) refl

at_other : (d x u : ℕ) → (d ≡ u → ⊥) → at_only d x u ≡ 0
at_other d x u h = rw (ne_eqb d u h) refl

-- the one term stands below n
total_only : (d x n : ℕ) → d < n → sum_below n (at_only d x) ≡ x
total_only d x n h = total_one n d (at_only d x) h (at_other d x) ∙ at_it d x

-- 0 apart from the numbers that follow it
total_first : (d x n : ℕ) → d ≤ n → sum_below n (λ u. at_only d x (suc u)) + at_only d x 0 ≡ x
total_first d x n h =
    omega (
      arith,
      total_slide n 0 (at_only d x),
      total_same n {f = λ i. at_only d x (1 + i)} {g = λ u. at_only d x (suc u)} (λ i l. ap (at_only d x) (omega arith)),
      total_same n {f = λ i. at_only d x (0 + i)} {g = at_only d x} (λ i l. ap (at_only d x) (zero-add i)),
      ap (at_only d x) (zero-add n),
      total_tabulate n (at_only d x),
      total_only d x (suc n) (omega arith),
    )

-- two squares that add up to 0
roots : (a b : ℕ) → a * a + b * b ≡ 0 → (a ≡ 0) × (b ≡ 0)
roots zero zero e = (refl, refl)
roots zero (suc b) e = absurd (omega (arith, suc-mul b (suc b)))
roots (suc a) b e = absurd (omega (arith, suc-mul a (suc a)))

-- ---- the square of a reach
module _ (q : ℕ) where
  abbrev side : ℕ
  side = 2 * q + 1

  -- the offset in row j and column i of the square
  abbrev spot : ℕ → ℕ → Offset
  spot j i = record { down = pos j -ℤ pos q; right = pos i -ℤ pos q }

  -- along one direction: at most q from the middle, and 0 there alone
  near : (a : ℕ) → a < side → nat_abs (pos a -ℤ pos q) ≤ q
  near a h =
      nat_abs_show (pos a ∷ pos q ∷ []) (pos a -ℤ pos q) (search reify depth 40) (omega arith) (omega arith)

  middle : pos q -ℤ pos q ≡ pos 0
  middle = show≡ (pos q ∷ []) (search reify depth 40) (omega arith)

  away : (a : ℕ) → (a ≡ q → ⊥) → nat_abs (pos a -ℤ pos q) ≡ 0 → ⊥
  away a h e =
      let r = pn {ρ = pos a ∷ pos q ∷ []} {z = pos a -ℤ pos q} (search reify depth 40) in
      h (omega (arith, nat_abs_parts (pos a -ℤ pos q), r, e))

  spot_near : (j i : ℕ) → j < side → i < side → far (spot j i) ≤ 2 * q * q
  spot_near j i h k =
      omega (arith, mul-le-mul (near j h) (near j h), mul-le-mul (near i k) (near i k), mul_assoc 2 q q)

  offset_near : (k : ℕ) → k < side * side → far (offset_at q k) ≤ 2 * q * q
  offset_near k h = spot_near (k / side) (k % side) (row< k (omega arith) h) (column< k (omega arith))

  spot_away : (j i : ℕ) → (j ≡ q → ⊥) ⊎ (i ≡ q → ⊥) → far (spot j i) ≡ 0 → ⊥
  spot_away j i (inl h) e = away j h (roots _ _ e).0
  spot_away j i (inr h) e = away i h (roots (nat_abs (pos j -ℤ pos q)) _ e).1

  module _ (f : Offset → ℕ) where
    -- f of an offset whose sum of squares is v, else 0
    abbrev weight : ℕ → Offset → ℕ
    weight v o = pick (eqb (far o) v) (f o) 0

    of_square : (v k n : ℕ) → total (map f (offsets_of q v k n)) ≡ sum_below n (λ i. weight v (offset_at q (k + i)))
    unfolding offsets_of total
    of_square v k zero = sym (total_nil _)
    of_square v k (suc n) =
        one (eqb (far (offset_at q k)) v)
        ∙ ap (λ z. weight v (offset_at q k) + z) (of_square v (suc k) n)
        ∙ total_slide n k (λ i. weight v (offset_at q i))
        ∙ sym (total_tabulate n (λ i. weight v (offset_at q (k + i))))
      where
        one : (b : Bool)
            → total (map f (pick b (offset_at q k ∷ offsets_of q v (suc k) n) (offsets_of q v (suc k) n)))
            ≡ pick b (f (offset_at q k)) 0 + total (map f (offsets_of q v (suc k) n))
        one true = refl
        one false = sym (zero-add _)

    from_square : (v : ℕ) → total (map f (offsets_from q v))
        ≡ sum_below v (λ u. sum_below (side * side) (λ k. weight (suc u) (offset_at q k)))
    unfolding offsets_from total
    from_square zero = sym (total_nil _)
    from_square (suc v) =
        ap total (map-append f (offsets_of q (suc v) 0 (side * side)) (offsets_from q v))
        ∙ total_append (map f (offsets_of q (suc v) 0 (side * side))) (map f (offsets_from q v))
        ∙ ap₂ (λ a b. a + b)
        (of_square (suc v) 0 (side * side)
        ∙ total_same (side * side) (λ i h. ap (λ k. weight (suc v) (offset_at q k)) (zero-add i)))
        (from_square v)
        ∙ add_comm (sum_below (side * side) (λ k. weight (suc v) (offset_at q k))) _
        ∙ sym (total_tabulate v (λ u. sum_below (side * side) (λ k. weight (suc u) (offset_at q k))))

    -- the middle alone is 0 away
    spot_weight : (j i : ℕ) → weight 0 (spot j i) ≡ at_only q (at_only q (f itself) i) j
    spot_weight j i = go (ℕ_discrete q j) (ℕ_discrete q i)
      where
        off : (j ≡ q → ⊥) ⊎ (i ≡ q → ⊥) → weight 0 (spot j i) ≡ 0
        off h = rw (ne_eqb (far (spot j i)) 0 (spot_away j i h)) refl

        go : Dec (q ≡ j) → Dec (q ≡ i) → weight 0 (spot j i) ≡ at_only q (at_only q (f itself) i) j
        go (yes e) (yes d) =
            ap₂ (λ a b. weight 0 (spot a b)) (sym e) (sym d)
            ∙ ap₂ (λ a b. weight 0 (record { down = a; right = b })) middle middle
            ∙ sym (at_it q (f itself))
            ∙ sym (at_it q (at_only q (f itself) q))
            ∙ ap₂ (λ a b. at_only q (at_only q (f itself) a) b) d e
        go (yes e) (no d) =
            off (inr (λ h. d (sym h)))
            ∙ sym (at_other q (f itself) i d)
            ∙ sym (at_it q (at_only q (f itself) i))
            ∙ ap (at_only q (at_only q (f itself) i)) e
        go (no e) d = off (inl (λ h. e (sym h))) ∙ sym (at_other q (at_only q (f itself) i) j e)

    middle_square : sum_below (side * side) (λ k. weight 0 (offset_at q k)) ≡ f itself
    middle_square =
        total_grid side side (λ j i. weight 0 (spot j i))
        ∙ total_same side (λ j h. total_same side (λ i k. spot_weight j i) ∙ row j (ℕ_discrete q j))
        ∙ total_only q (f itself) side (omega arith)
      where
        row : (j : ℕ) → Dec (q ≡ j) → sum_below side (λ i. at_only q (at_only q (f itself) i) j) ≡ at_only q (f itself) j
        row j (yes e) =
            ap (λ z. sum_below side (λ i. at_only q (at_only q (f itself) i) z)) (sym e)
            ∙ total_same side (λ i h. at_it q (at_only q (f itself) i))
            ∙ total_only q (f itself) side (omega arith)
            ∙ sym (at_it q (f itself))
            ∙ ap (at_only q (f itself)) e
        row j (no e) =
            total_none side (λ i h. at_other q (at_only q (f itself) i) j e)
            ∙ sym (at_other q (f itself) j e)

    pub offsets_square : total (map f (offsets q)) + f itself
        ≡ total (tabulate (2 * q + 1) (λ j. total (tabulate (2 * q + 1) (λ i.
        f (record { down = pos j -ℤ pos q; right = pos i -ℤ pos q })))))
    unfolding offsets
    offsets_square =
        ap₂ (λ a b. a + b) (from_square (2 * q * q) ∙ total_swap (2 * q * q) (side * side) _) (sym middle_square)
        ∙ sym (total_plus (side * side) _ _)
        ∙ total_same (side * side) (λ k h. total_first _ (f (offset_at q k)) (2 * q * q) (offset_near k h))
        ∙ total_grid side side (λ j i. f (spot j i))

-- how many
ones : (l : List Offset) → total (map (λ o. 1) l) ≡ length l
unfolding total
ones [] = refl
ones (o ∷ l) = omega (arith, ones l)

pub offsets_long : (q : ℕ) → length (offsets q) + 1 ≡ (2 * q + 1) * (2 * q + 1)
offsets_long q =
    ap (λ z. z + 1) (sym (ones (offsets q)))
    ∙ offsets_square q (λ o. 1)
    ∙ total_same (2 * q + 1) (λ j h. total_const (2 * q + 1) 1 ∙ mul-one (2 * q + 1))
    ∙ total_const (2 * q + 1) (2 * q + 1)

-- ---- the swaps of a cell
if_few : (test : Offset → Bool) (l : List Offset) → total (map (λ o. one_if (test o)) l) ≤ length l
unfolding total
if_few test [] = omega arith
if_few test (o ∷ l) = omega (arith, one_most (test o), if_few test l)

module _ (t : Target) where
  pub swaps_length : (l : List Offset) (dots : List ℕ) (m : ℕ)
      → length (swaps_by t l dots m) ≡ total (map (λ o. one_if (suits t dots m o)) l)
  unfolding swaps_by total
  swaps_length [] dots m = refl
  swaps_length (o ∷ l) dots m =
      one (suits t dots m o) ∙ ap (λ z. one_if (suits t dots m o) + z) (swaps_length l dots m)
    where
      one : (b : Bool)
          → length (pick b (swap dots m (partner t.width m o) ∷ swaps_by t l dots m) (swaps_by t l dots m))
          ≡ one_if b + length (swaps_by t l dots m)
      one true = omega arith
      one false = omega arith

  pub swaps_most : (l : List Offset) (dots : List ℕ) (m : ℕ) → length (swaps_by t l dots m) ≤ length l
  swaps_most l dots m = rw (swaps_length l dots m) (if_few (suits t dots m) l)

  pub swaps_few : (reach : ℕ) (dots : List ℕ) (m : ℕ) → length (swaps t reach dots m) ≤ length (offsets reach)
  swaps_few reach dots m = swaps_most (offsets reach) dots m

  -- with one offset more
  pub swaps_last : (l : List Offset) (o : Offset) (dots : List ℕ) (m : ℕ)
      → length (swaps_by t (l ++ (o ∷ [])) dots m) ≡ length (swaps_by t l dots m) + one_if (suits t dots m o)
  unfolding total
  swaps_last l o dots m =
      swaps_length (l ++ (o ∷ [])) dots m
      ∙ ap total (map-append (λ o. one_if (suits t dots m o)) l (o ∷ []))
      ∙ total_append (map (λ o. one_if (suits t dots m o)) l) (one_if (suits t dots m o) ∷ [])
      ∙ ap₂ (λ a b. a + b) (sym (swaps_length l dots m)) (add-zero (one_if (suits t dots m o)))

  -- (0,0) leads to the cell itself
  partner_itself : (m : ℕ) → partner t.width m itself ≡ m
  partner_itself m =
      ap₂ (cell_at t.width) (add-zero (m / t.width)) (add-zero (m % t.width)) ∙ div-add-mod' m t.width

  pub itself_unsuited : (dots : List ℕ) (m : ℕ) → suits t dots m itself ≡ false
  itself_unsuited dots m =
      rw (partner_itself m, eq-eqb (get_or dots m 0) (get_or dots m 0) refl)
      (none (lands t.width t.height m itself) (locked t.gray m))
    where
      none : (a b : Bool) → a && (not b && (not b && not true)) ≡ false
      none true true = refl
      none true false = refl
      none false b = refl

  pub swaps_square : (reach : ℕ) (dots : List ℕ) (m : ℕ)
      → length (swaps t reach dots m)
      ≡ total (tabulate (2 * reach + 1) (λ j. total (tabulate (2 * reach + 1) (λ i.
      one_if (suits t dots m (record { down = pos j -ℤ pos reach; right = pos i -ℤ pos reach }))))))
  swaps_square reach dots m =
      swaps_length (offsets reach) dots m
      ∙ sym (add-zero _)
      ∙ ap (λ b. total (map (λ o. one_if (suits t dots m o)) (offsets reach)) + one_if b) (sym (itself_unsuited dots m))
      ∙ offsets_square reach (λ o. one_if (suits t dots m o))
