-- Laws of the partners of a cell: the list of offsets, and where they land.
--   offsets_ordered  the offsets are those of document 01 in its order: one computed test of the whole lists
--   entry_within     each is within reach
--   lands_on         an offset that lands does so on a cell
--   lands_within     which is within reach
--   partners_cover   every other cell within reach is a partner
use mathlib.Core.Bool.{Bool, true, false, true≢false, not, ◌&&◌, ◌||◌, and-eq-true_iff}
use mathlib.Core.List.Memᴰ.{head as here}
use mathlib.Core.List.Memᴰ.{tail as there}
use mathlib.Core.List.{List, [], ◌∷◌, Memᴰ as In}
use mathlib.Core.Logic.{◌⊎◌, inl, inr}
use mathlib.Core.Path.{◌≡◌, refl, sym, ◌∙◌, ap, ap₂, subst}
use Prim.Native.Nat.{ℕ, zero, suc, ◌+◌, ◌*◌, ◌-◌, ◌/◌, ◌%◌, ◌≤◌, ◌<◌}
use native.Mathlib.Nat.{not-suc-le-zero, le_of_suc-le-suc, le_trans, div-add-mod'}
use native.Mathlib.Omega.{arith}
use borrow.Author.Tests.{ltb-true, ltb-false, eqb-true, not-true, not-false, lt-ltb}
use lib.Dec.{leb, ltb, eqb, leb-zero}
use lib.IntN.{ℤ, pos, negsuc, nat_abs, ◌+ℤ◌, ◌-ℤ◌}
use lib.ListN.{length, get_or}
use lib.Signed.{le_z, lt_z}
use Rattle.algebra.proofs.Grid.{cell<, cell_row, cell_column, row<, column<}
use Rattle.algebra.proofs.Order.{nat_abs_parts, nat_abs_show, read≡, show≡}
use Rattle.algebra.proofs.Solver.{ring!, reify}
use Rattle.model.specs.Error.{cell_at}
use Rattle.model.specs.Partners.{Offset, far, offset_at, offsets_of, offsets_from, offsets, inside, lands, partner}
use Rattle.model.specs.Partners.{itself, Within, Before, farther, higher, further_left, Ordered}
use Rattle.model.specs.Partners.{partner_row, partner_column}
use Rattle.model.specs.Refusal.{gap}
use Rattle.model.specs.Ledger.{unequal}
use Rattle.model.specs.Basic.{some_below}
use Rattle.model.proofs.Basic.{neither, all_below}
use Rattle.model.proofs.State.{below, equal}

-- ---- what document 01 says of the list of offsets, as tests, each of a fault
abbrev differ : Offset → Offset → Bool
differ a b = unequal a.down b.down || unequal a.right b.right

-- it does not belong in the list
abbrev stray : (reach : ℕ) → Offset → Bool
stray reach o = ltb reach (nat_abs o.down) || (ltb reach (nat_abs o.right) || not (differ o itself))

abbrev before : Offset → Offset → Bool
before a b =
    ltb (far b) (far a)
    || (eqb (far a) (far b)
    && (lt_z a.down b.down || (not (unequal a.down b.down) && lt_z a.right b.right)))

-- a does not stand before b
abbrev late : Offset → Offset → Bool
late a b = not (before a b)

-- some entry has the fault
some_of : (Offset → Bool) → List Offset → Bool
some_of f [] = false
some_of f (o ∷ l) = f o || some_of f l

-- it is not in the list
missing : Offset → List Offset → Bool
missing o [] = true
missing o (x ∷ l) = differ o x && missing o l

-- some entry does not stand before one that follows
unsorted : List Offset → Bool
unsorted [] = false
unsorted (o ∷ l) = some_of (late o) l || unsorted l

-- some offset of the square other than (0,0) is missing
abbrev gapped : (reach : ℕ) → List Offset → Bool
gapped q l = some_below ((2 * q + 1) * (2 * q + 1)) (λ k. differ (offset_at q k) itself && missing (offset_at q k) l)

abbrev faulty : (reach : ℕ) → List Offset → Bool
faulty reach l = some_of (stray reach) l || (gapped reach l || unsorted l)

-- the lists of the seven reaches have none
tested : some_below 7 (λ reach. faulty reach (offsets reach)) ≡ false
unfolding offsets offsets_from offsets_of some_below some_of missing unsorted
tested = refl

-- ---- what the tests show
either_of : (a b : Bool) → a || b ≡ true → (a ≡ true) ⊎ (b ≡ true)
either_of true b h = inl refl
either_of false b h = inr h

alike : (a b : Offset) → differ a b ≡ false → a ≡ b
alike a b h =
    let (rows, columns) = neither (unequal a.down b.down) (unequal a.right b.right) h in
    ap₂ (λ (y x : ℤ). record { down = y; right = x })
    (equal a.down b.down rows) (equal a.right b.right columns)

none_of : (f : Offset → Bool) (l : List Offset) {o : Offset} → some_of f l ≡ false → In o l → f o ≡ false
unfolding some_of
none_of f [] {o = o} h i = elim i [ ]
none_of f (x ∷ l) h (here e) = ap f e ∙ (neither (f x) (some_of f l) h).0
none_of f (x ∷ l) h (there i) = none_of f l (neither (f x) (some_of f l) h).1 i

not_missing : (o : Offset) (l : List Offset) → missing o l ≡ false → In o l
unfolding missing
not_missing o [] h = absurd (true≢false h)
not_missing o (x ∷ l) h = go (differ o x) refl h (not_missing o l)
  where
    go : (b : Bool) → differ o x ≡ b → b && missing o l ≡ false → (missing o l ≡ false → In o l) → In o (x ∷ l)
    go true e h follows = there (follows h)
    go false e h follows = here (alike o x e)

entry_in : (l : List Offset) (i : ℕ) → i < length l → In (get_or l i itself) l
entry_in [] i h = absurd (not-suc-le-zero h)
entry_in (o ∷ l) zero h = here refl
entry_in (o ∷ l) (suc i) h = there (entry_in l i (le_of_suc-le-suc h))

is_before : (a b : Offset) → before a b ≡ true → Before a b
is_before a b h = by_squares (either_of (ltb (far b) (far a)) _ h)
  where
    row_test : Bool
    row_test = lt_z a.down b.down

    column_test : Bool
    column_test = not (unequal a.down b.down) && lt_z a.right b.right

    by_row : far a ≡ far b → (row_test ≡ true) ⊎ (column_test ≡ true) → Before a b
    by_row e (inl h) = higher e (below h)
    by_row e (inr h) =
        let (row, column) = (and-eq-true_iff _ _).0 h in
        further_left e (equal a.down b.down (not-true _ row)) (below column)

    by_squares : (ltb (far b) (far a) ≡ true) ⊎ (eqb (far a) (far b) && (row_test || column_test) ≡ true) → Before a b
    by_squares (inl h) = farther (ltb-true (far b) (far a) h)
    by_squares (inr h) =
        let (e, rest) = (and-eq-true_iff (eqb (far a) (far b)) (row_test || column_test)).0 h in
        by_row (eqb-true (far a) (far b) e) (either_of row_test column_test rest)

is_sorted : (l : List Offset) → unsorted l ≡ false → (i j : ℕ) → i < j → j < length l
    → Before (get_or l i itself) (get_or l j itself)
unfolding unsorted
is_sorted [] h i j less long = absurd (not-suc-le-zero long)
is_sorted (o ∷ l) h i zero less long = absurd (not-suc-le-zero less)
is_sorted (o ∷ l) h zero (suc j) less long =
    let first : some_of (late o) l ≡ false = (neither (some_of (late o) l) (unsorted l) h).0 in
    is_before o (get_or l j itself) (not-false _ (none_of (late o) l first (entry_in l j (le_of_suc-le-suc long))))
is_sorted (o ∷ l) h (suc i) (suc j) less long =
    is_sorted l (neither (some_of (late o) l) (unsorted l) h).1 i j (le_of_suc-le-suc less) (le_of_suc-le-suc long)

-- a coordinate counted from the edge of the square
record Counted (q : ℕ) (z : ℤ) : Type 0 where
  at : ℕ
  small : at < 2 * q + 1
  is : pos at -ℤ pos q ≡ z

counted : (q : ℕ) (z : ℤ) → nat_abs z ≤ q → Counted q z
counted q (pos n) h =
    record {
      at = n + q;
      small = omega arith;
      is = show≡ (pos (n + q) ∷ pos q ∷ pos n ∷ []) (search reify depth 40) (omega arith);
    }
counted q (negsuc n) h =
    record {
      at = q - suc n;
      small = omega arith;
      is = show≡ (pos (q - suc n) ∷ pos q ∷ negsuc n ∷ []) (search reify depth 40) (omega arith);
    }

module _ (reach : ℕ) (l : List Offset) where
  is_within : some_of (stray reach) l ≡ false → (o : Offset) → In o l → Within reach o
  is_within h o i =
      let (row, others) = neither (ltb reach (nat_abs o.down)) _ (none_of (stray reach) l h i) in
      let (column, same) = neither (ltb reach (nat_abs o.right)) _ others in
      record {
        rows = ltb-false reach (nat_abs o.down) row;
        columns = ltb-false reach (nat_abs o.right) column;
        other = λ e. true≢false (sym (not-false _ same) ∙ ap (λ x. differ x itself) e);
      }

  is_complete : gapped reach l ≡ false → (o : Offset) → Within reach o → In o l
  is_complete h o w =
      let tried : differ p itself && missing p l ≡ false = all_below _ _ h k (cell< y.small x.small) in
      subst (λ x. In x l) is_o (not_missing p l (go (differ p itself) refl tried))
    where
      y : Counted reach o.down
      y = counted reach o.down w.rows

      x : Counted reach o.right
      x = counted reach o.right w.columns

      k : ℕ
      k = y.at * (2 * reach + 1) + x.at

      p : Offset
      p = offset_at reach k

      is_o : p ≡ o
      is_o =
          ap₂ (λ (r c : ℕ). record { down = pos r -ℤ pos reach; right = pos c -ℤ pos reach })
          (cell_row x.small) (cell_column y.at x.small)
          ∙ ap₂ (λ (y x : ℤ). record { down = y; right = x }) y.is x.is

      go : (b : Bool) → differ p itself ≡ b → b && missing p l ≡ false → missing p l ≡ false
      go true e t = t
      go false e t = absurd (w.other (sym is_o ∙ alike p itself e))

pub offsets_ordered : (reach : ℕ) → reach ≤ 6 → Ordered reach
offsets_ordered reach h =
    let l : List Offset = offsets reach in
    let fine : faulty reach l ≡ false = all_below 7 (λ q. faulty q (offsets q)) tested reach (omega arith) in
    let (strays, others) = neither (some_of (stray reach) l) (gapped reach l || unsorted l) fine in
    let (gaps, order) = neither (gapped reach l) (unsorted l) others in
    record {
      within = is_within reach l strays;
      complete = is_complete reach l gaps;
      farthest_first = is_sorted l order;
    }

-- each entry is within reach
pub entry_within : (reach k : ℕ) → reach ≤ 6 → k < length (offsets reach)
    → Within reach (get_or (offsets reach) k itself)
entry_within reach k q h = (offsets_ordered reach q).within _ (entry_in (offsets reach) k h)

-- ---- where an offset lands
lands_inside : (limit : ℕ) (z : ℤ) → le_z (pos 0) z && lt_z z (pos limit) ≡ true → nat_abs z < limit
lands_inside limit (pos n) h = ltb-true n limit ((and-eq-true_iff (leb 0 n) (ltb n limit)).0 h).1
lands_inside limit (negsuc n) h = absurd (true≢false (sym h))

pub lands_on : (width height m : ℕ) (o : Offset) → lands width height m o ≡ true
    → partner width m o < height * width
lands_on width height m o h =
    let row : ℤ = partner_row width m o in
    let column : ℤ = partner_column width m o in
    let (down, along) = (and-eq-true_iff (inside height row) (inside width column)).0 h in
    cell< (lands_inside height row down) (lands_inside width column along)

-- along one direction, from a by d
gap_by : (a limit : ℕ) (d z : ℤ) → pos a +ℤ d ≡ z → le_z (pos 0) z && lt_z z (pos limit) ≡ true
    → gap a (nat_abs z) ≤ nat_abs d
gap_by a limit d (pos n) e h =
    omega (arith, nat_abs_parts d, read≡ (pos a ∷ d ∷ pos n ∷ []) (search reify depth 40) e)
gap_by a limit d (negsuc n) e h = absurd (true≢false (sym h))

pub lands_within : (width height reach m : ℕ) (o : Offset) → Within reach o → lands width height m o ≡ true
    → (let n = partner width m o in
    (gap (m / width) (n / width) ≤ reach) × (gap (m % width) (n % width) ≤ reach))
lands_within width height reach m o w h =
    let row : ℤ = partner_row width m o in
    let column : ℤ = partner_column width m o in
    let (down, along) = (and-eq-true_iff (inside height row) (inside width column)).0 h in
    let c : nat_abs column < width = lands_inside width column along in
    rw (cell_row {y = nat_abs row} c, cell_column (nat_abs row) c) (
      le_trans (gap_by (m / width) height o.down row refl down) w.rows,
      le_trans (gap_by (m % width) width o.right column refl along) w.columns,
    )

-- n is a partner of m
pub record IsPartner (width height reach m n : ℕ) : Type 0 where
  pub offset : Offset
  pub listed : In offset (offsets reach)
  pub lands_there : lands width height m offset ≡ true
  pub is_there : partner width m offset ≡ n

-- along one direction, from a to b: where the offset leads, and how far
leads : (a b : ℕ) → pos a +ℤ (pos b -ℤ pos a) ≡ pos b
leads a b = ring! (pos a ∷ pos b ∷ []) (search reify depth 40) refl

leads_inside : (limit a b : ℕ) → b < limit
    → le_z (pos 0) (pos a +ℤ (pos b -ℤ pos a)) && lt_z (pos a +ℤ (pos b -ℤ pos a)) (pos limit) ≡ true
leads_inside limit a b h = rw (leads a b) (rw (leb-zero b, lt-ltb b limit h) refl)

apart : (a b : ℕ) {q : ℕ} → gap a b ≤ q → nat_abs (pos b -ℤ pos a) ≤ q
apart a b h =
    nat_abs_show (pos a ∷ pos b ∷ []) (pos b -ℤ pos a) (search reify depth 40) (omega arith) (omega arith)

nowhere : (a b : ℕ) → pos b -ℤ pos a ≡ pos 0 → a ≡ b
nowhere a b e = omega (arith, read≡ (pos a ∷ pos b ∷ []) (search reify depth 40) e)

pub partners_cover : (width height reach m n : ℕ) → 0 < width → reach ≤ 6 → n < height * width
    → gap (m / width) (n / width) ≤ reach → gap (m % width) (n % width) ≤ reach → (m ≡ n → ⊥)
    → IsPartner width height reach m n
partners_cover width height reach m n w q h rows columns unlike =
    record {
      offset = o;
      listed = (offsets_ordered reach q).complete o
          (record { rows = apart _ _ rows; columns = apart _ _ columns; other = λ e. unlike (same e) });
      lands_there =
          rw (
            leads_inside height (m / width) (n / width) (row< n w h),
            leads_inside width (m % width) (n % width) (column< n w),
          ) refl;
      is_there =
          ap₂ (λ y x. cell_at width (nat_abs y) (nat_abs x))
          (leads (m / width) (n / width)) (leads (m % width) (n % width))
          ∙ div-add-mod' n width;
    }
  where
    o : Offset
    o = record { down = pos (n / width) -ℤ pos (m / width); right = pos (n % width) -ℤ pos (m % width) }

    same : o ≡ itself → m ≡ n
    same e =
        sym (div-add-mod' m width)
        ∙ ap₂ (cell_at width) (nowhere _ _ (ap (λ p. p.down) e)) (nowhere _ _ (ap (λ p. p.right) e))
        ∙ div-add-mod' n width
