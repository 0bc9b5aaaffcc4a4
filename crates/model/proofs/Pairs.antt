-- The trials of a swap scan that accepts nothing, as the pairs of cells that they are.
--   quiet_trials  where a scan accepts nothing, by whatever rule, all that it attempts is weighed
--   swaps_near    the swaps of a cell are the cells within reach, neither locked, the dots unlike
--   quiet_pairs   so its trials are such pairs
use mathlib.Core.Bool.{Bool, true, false, ◌&&◌}
use mathlib.Core.List.{List, [], ◌∷◌}
use mathlib.Core.Path.{◌≡◌, refl, sym, ◌∙◌, ap}
use Prim.Native.Nat.{ℕ, suc, ◌+◌, ◌*◌, ◌-◌, ◌/◌, ◌%◌, ◌≤◌, ◌<◌}
use native.Mathlib.Decide.{dec_lt}
use native.Mathlib.Nat.{div-add-mod'}
use native.Mathlib.Omega.{arith}
use borrow.Author.Tests.{lt-ltb, le-ltb, le-leb, lt-leb, eq-eqb, ne_eqb}
use lib.Dec.{eqb, leb, ltb}
use lib.IntN.{ℤ, pos, neg_ℤ, nat_abs, ◌+ℤ◌, ◌-ℤ◌}
use lib.ListN.{length}
use Rattle.algebra.proofs.Order.{show≡}
use Rattle.algebra.proofs.Solver.{reify}
use Rattle.model.specs.Basic.{All, pick, one_if, tabulate}
use Rattle.model.specs.Change.{look}
use Rattle.model.specs.Error.{Target, cell_at, cells}
use Rattle.model.specs.Partners.{inside, near_by}
use Rattle.model.specs.Psf.{total}
use Rattle.model.specs.Reference.{Reference}
use Rattle.model.specs.Refusal.{gap}
use Rattle.model.specs.Scan.{Rule, exchangeable, swaps, sweep_to, progress_of, trials_at, scan}
use Rattle.model.proofs.Scan.{Calm, sweep_still, sweep_calm}
use Rattle.model.proofs.Square.{swaps_square}
use Rattle.model.proofs.Totals.{sum_below, total_same, total_none, total_one, total_swap, total_grid}
use Rattle.model.proofs.Trials.{all_weighed, scan_trials}

-- ---- nothing accepted
module _ (t : Target) (rule : Rule) (p : Reference) where
  pub quiet_trials : (scan t rule p).answer.changes ≡ 0
      → (scan t rule p).answer.trials ≡ total (tabulate (cells t) (λ m. length (rule p.dots m)))
  unfolding scan progress_of trials_at
  quiet_trials e = scan_trials t rule p ∙ total_same (cells t) at
    where
      calm : (i : ℕ) → i < cells t → All (Calm t p.dots) (rule p.dots i)
      calm = (sweep_still t rule p (cells t) e).1

      -- the reference is as it was when a cell is come to
      kept : (m : ℕ) → m < cells t → (sweep_to t rule p m).after ≡ p
      kept m h = (sweep_still t rule p m (sweep_calm t rule p m (λ i l. calm i (omega arith)))).0

      at : (m : ℕ) → m < cells t → trials_at t rule p m ≡ length (rule p.dots m)
      at m h =
          ap (λ q. length (look t q.dots (rule q.dots m)).weighed) (kept m h)
          ∙ ap length (all_weighed t p.dots (rule p.dots m) (calm m h))

-- ---- along one direction, from a: the offsets within reach that lead inside, and the places at most the reach away
module _ (q a : ℕ) where
  -- where offset j of the square leads
  abbrev place : ℕ → ℤ
  place j = pos a +ℤ (pos j -ℤ pos q)

  place_is : (j : ℕ) → q ≤ a + j → place j ≡ pos (a + j - q)
  place_is j h = show≡ (pos a ∷ pos j ∷ pos q ∷ pos (a + j - q) ∷ []) (search reify depth 40) (omega arith)

  module _ (limit : ℕ) (F : ℕ → ℕ) where
    -- F of the place inside where offset j leads, else 0
    abbrev led : ℕ → ℕ
    led j = pick (inside limit (place j)) (F (nat_abs (place j))) 0

    led_before : (j : ℕ) → a + j < q → led j ≡ 0
    led_before j h = ap (λ z. pick (inside limit z) (F (nat_abs z)) 0) low
      where
        n : ℕ
        n = suc (q - (a + j) - 1)

        low : place j ≡ neg_ℤ (pos (suc (q - (a + j) - 1)))
        low = show≡ (pos a ∷ pos j ∷ pos q ∷ pos n ∷ []) (search reify depth 40) (omega arith)

    led_to : (j : ℕ) → q ≤ a + j → led j ≡ pick (ltb (a + j - q) limit) (F (a + j - q)) 0
    led_to j h =
        ap (λ z. pick (inside limit z) (F (nat_abs z)) 0) (place_is j h) ∙ rw (le-leb 0 (a + j - q) (omega arith)) refl

    -- F of b where offset j leads there, else 0
    abbrev leads : ℕ → ℕ → ℕ
    leads j b = pick (eqb (a + j) (q + b)) (F b) 0

    leads_on : (j b : ℕ) → a + j ≡ q + b → leads j b ≡ F b
    leads_on j b e = rw (eq-eqb (a + j) (q + b) e) refl

    leads_off : (j b : ℕ) → (a + j ≡ q + b → ⊥) → leads j b ≡ 0
    leads_off j b e = rw (ne_eqb (a + j) (q + b) e) refl

    -- an offset leads to one place at most
    one_place : (j : ℕ) → led j ≡ sum_below limit (leads j)
    one_place j = go (dec_lt (a + j) q) (dec_lt (a + j) (q + limit))
      where
        d : ℕ
        d = a + j - q

        go : Dec (a + j < q) → Dec (a + j < q + limit) → led j ≡ sum_below limit (leads j)
        go (yes h) k =
            led_before j h ∙ sym (total_none limit (λ b l. leads_off j b (λ e. omega (arith, e, h))))
        go (no h) (yes k) =
            led_to j (omega arith)
            ∙ rw (lt-ltb d limit (omega arith)) (sym (leads_on j d (omega arith)))
            ∙ sym (total_one limit d (leads j) (omega arith) (λ i n. leads_off j i (λ e. n (omega (arith, e)))))
        go (no h) (no k) =
            led_to j (omega arith)
            ∙ rw (le-ltb d limit (omega arith)) refl
            ∙ sym (total_none limit (λ b l. leads_off j b (λ e. omega (arith, e, k, l))))

    -- and to a place one offset at most: one, where it is within reach
    one_offset : (b : ℕ) → sum_below (2 * q + 1) (λ j. leads j b) ≡ pick (leb (gap a b) q) (F b) 0
    one_offset b = go (dec_lt q (gap a b))
      where
        d : ℕ
        d = q + b - a

        go : Dec (q < gap a b) → sum_below (2 * q + 1) (λ j. leads j b) ≡ pick (leb (gap a b) q) (F b) 0
        go (yes h) =
            rw (lt-leb (gap a b) q h) (total_none (2 * q + 1) (λ j l. leads_off j b (λ e. omega (arith, e, h, l))))
        go (no h) =
            rw (le-leb (gap a b) q (omega arith))
            (total_one (2 * q + 1) d (λ j. leads j b) (omega arith) (λ i n. leads_off i b (λ e. n (omega (arith, e))))
            ∙ leads_on d b (omega arith))

    along : sum_below (2 * q + 1) led ≡ sum_below limit (λ b. pick (leb (gap a b) q) (F b) 0)
    along =
        total_same (2 * q + 1) (λ j h. one_place j)
        ∙ total_swap (2 * q + 1) limit leads
        ∙ total_same limit (λ b h. one_offset b)

-- ---- both directions
-- a sum whose terms all have a test in common
common : (n : ℕ) (b : Bool) (c e : ℕ → Bool)
    → sum_below n (λ i. one_if ((b && c i) && e i)) ≡ pick b (sum_below n (λ i. pick (c i) (one_if (e i)) 0)) 0
common n true c e = total_same n (λ i h. go (c i) (e i))
  where
    go : (a b : Bool) → one_if (a && b) ≡ pick a (one_if b) 0
    go true b = refl
    go false b = refl
common n false c e = total_none n (λ i h. refl)

module _ (t : Target) (reach : ℕ) (dots : List ℕ) (m : ℕ) where
  abbrev y : ℕ
  y = m / t.width

  abbrev x : ℕ
  x = m % t.width

  -- it may be swapped with the cell in row v and column u
  abbrev unlike : ℕ → ℕ → Bool
  unlike v u = exchangeable t dots m (cell_at t.width v u)

  -- with so many of row v within reach
  abbrev of_row : ℕ → ℕ
  of_row v = sum_below t.width (λ u. pick (leb (gap x u) reach) (one_if (unlike v u)) 0)

  -- those of the row where offset j leads, column by column
  row_led : (j : ℕ)
      → sum_below (2 * reach + 1) (λ i.
      one_if ((inside t.height (place reach y j) && inside t.width (place reach x i))
      && unlike (nat_abs (place reach y j)) (nat_abs (place reach x i))))
      ≡ led reach y t.height of_row j
  row_led j =
      let v : ℕ = nat_abs (place reach y j) in
      common (2 * reach + 1) (inside t.height (place reach y j)) (λ i. inside t.width (place reach x i))
      (λ i. unlike v (nat_abs (place reach x i)))
      ∙ ap (λ z. pick (inside t.height (place reach y j)) z 0)
      (along reach x t.width (λ u. one_if (unlike v u)))

  pub swaps_near : length (swaps t reach dots m)
      ≡ total (tabulate (cells t) (λ n. one_if (near_by t.width reach m n && exchangeable t dots m n)))
  swaps_near =
      swaps_square t reach dots m
      ∙ total_same (2 * reach + 1) (λ j h. row_led j)
      ∙ along reach y t.height of_row
      ∙ total_same t.height (λ v h.
      sym (common t.width (leb (gap y v) reach) (λ u. leb (gap x u) reach) (unlike v)))
      ∙ sym (total_grid t.height t.width (λ v u.
      one_if ((leb (gap y v) reach && leb (gap x u) reach) && unlike v u)))
      ∙ total_same (cells t) (λ n h.
      ap (λ k. one_if (near_by t.width reach m n && exchangeable t dots m k)) (div-add-mod' n t.width))

-- ---- so a scan that accepts nothing weighs such pairs
pub quiet_pairs : (t : Target) (reach : ℕ) (p : Reference) → (scan t (swaps t reach) p).answer.changes ≡ 0
    → (scan t (swaps t reach) p).answer.trials
    ≡ total (tabulate (cells t) (λ m. total (tabulate (cells t) (λ n.
    one_if (near_by t.width reach m n && exchangeable t p.dots m n)))))
quiet_pairs t reach p e =
    quiet_trials t (swaps t reach) p e ∙ total_same (cells t) (λ m h. swaps_near t reach p.dots m)
