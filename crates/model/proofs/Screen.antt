-- Laws of the dots that a start begins with.
--   thresholds_long, threshold_entry  there are 256 thresholds; a threshold's place in the array
--   threshold_most                    each is at most 255
--   is_blank, is_ordered, is_given    the dots of each kind
--   start_long, start_bits            of every kind: as many dots as cells, each 0 or 1
--   ordered_locks, start_locks        every locked cell holds its byte: in kind 1 by the thresholds; in every kind
use mathlib.Core.Bool.{Bool, true, false}
use mathlib.Core.List.{List, [], ◌∷◌}
use mathlib.Core.Logic.{◌⊎◌, inl, inr}
use mathlib.Core.Path.{◌≡◌, refl, sym, ◌∙◌, ap₂, subst}
use Prim.Native.Nat.{ℕ, zero, suc, ◌+◌, ◌*◌, ◌/◌, ◌%◌, ◌≤◌, ◌<◌}
use native.Mathlib.Decide.{ℕ_discrete}
use native.Mathlib.Omega.{arith}
use borrow.Author.Tests.{eq-eqb, ne_eqb, lt-ltb, le-ltb}
use lib.Dec.{ltb, eqb, lit≤}
use lib.ListN.{length, get_or}
use Rattle.algebra.proofs.Grid.{cell_row, cell_column, column<}
use Rattle.model.specs.declared.Measures.{Measures}
use Rattle.model.specs.Basic.{pick, bit, tabulate, AtMost}
use Rattle.model.specs.Psf.{total}
use Rattle.model.specs.Error.{Target, target_for, black}
use Rattle.model.specs.Lock.{locked, locked_byte, LocksHold}
use Rattle.model.specs.Screen.{digit, bayer, thresholds, threshold_at, screened, blank, ordered, start_dots}
use Rattle.model.proofs.Basic.{length-tabulate, get_d_tabulate, tabulate-each}
use Rattle.model.proofs.Lock.{lock_cases}

-- ---- the array
pub thresholds_long : length thresholds ≡ 256
unfolding thresholds
thresholds_long = length-tabulate 256 (λ i. bayer (i / 16) (i % 16))

pub threshold_entry : (row col : ℕ) → get_or thresholds (row % 16 * 16 + col % 16) 0 ≡ threshold_at row col
unfolding thresholds threshold_at
threshold_entry row col =
    let in_row : col % 16 < 16 = column< col (omega arith) in
    get_d_tabulate 256 (λ i. bayer (i / 16) (i % 16)) (row % 16 * 16 + col % 16) 0 (omega arith)
    ∙ ap₂ bayer (cell_row {y = row % 16} in_row) (cell_column (row % 16) in_row)

digit_most : (y x : ℕ) → digit y x ≤ 3
digit_most y x = go (2 * y + x)
  where
    go : (k : ℕ) → get_or (0 ∷ 2 ∷ 3 ∷ 1 ∷ []) k 0 ≤ 3
    go zero = lit≤ tt
    go (suc zero) = lit≤ tt
    go (suc (suc zero)) = lit≤ tt
    go (suc (suc (suc zero))) = lit≤ tt
    go (suc (suc (suc (suc k)))) = lit≤ tt

pub threshold_most : (row col : ℕ) → threshold_at row col ≤ 255
unfolding threshold_at bayer total tabulate
threshold_most row col =
    let d : (i : ℕ) → digit (bit i (row % 16)) (bit i (col % 16)) ≤ 3 =
    λ i. digit_most (bit i (row % 16)) (bit i (col % 16)) in
    omega (arith, d 0, d 1, d 2, d 3)

-- ---- the kinds
module _ (m : Measures) (gray given : List ℕ) where
  pub is_blank : m.start ≡ 0 → start_dots m gray given ≡ tabulate (m.height * m.width) (blank gray)
  unfolding start_dots
  is_blank e = rw (eq-eqb m.start 0 e) refl

  pub is_ordered : m.start ≡ 1 → start_dots m gray given ≡ tabulate (m.height * m.width) (ordered m.width gray)
  unfolding start_dots
  is_ordered e = rw (ne_eqb m.start 0 (λ z. omega arith), eq-eqb m.start 1 e) refl

  pub is_given : (m.start ≡ 0 → ⊥) → (m.start ≡ 1 → ⊥) → start_dots m gray given ≡ given
  unfolding start_dots
  is_given a b = rw (ne_eqb m.start 0 a, ne_eqb m.start 1 b) refl

  -- what holds of the dots of each kind holds of the start's
  by_kind : (P : List ℕ → Type 0)
      → P (tabulate (m.height * m.width) (blank gray))
      → P (tabulate (m.height * m.width) (ordered m.width gray))
      → (2 ≤ m.start → P given)
      → P (start_dots m gray given)
  by_kind P a b c = go (ℕ_discrete m.start 0) (ℕ_discrete m.start 1)
    where
      go : Dec (m.start ≡ 0) → Dec (m.start ≡ 1) → P (start_dots m gray given)
      go (yes e) q = subst P (sym (is_blank e)) a
      go (no e) (yes f) = subst P (sym (is_ordered f)) b
      go (no e) (no f) = subst P (sym (is_given e f)) (c (omega arith))

tabulate_bits : (n : ℕ) (f : ℕ → ℕ) → ((i : ℕ) → f i ≤ 1) → AtMost 1 (tabulate n f)
tabulate_bits n f h = record { each = tabulate-each (λ d. d ≤ 1) 0 n f (omega arith) (λ i l. h i) }

blank_bit : (gray : List ℕ) (n : ℕ) → blank gray n ≤ 1
unfolding blank
blank_bit gray n = go (locked gray n) (eqb (get_or gray n 0) 0)
  where
    go : (b c : Bool) → pick b (pick c 0 1) 0 ≤ 1
    go true true = lit≤ tt
    go true false = lit≤ tt
    go false c = lit≤ tt

ordered_bit : (width : ℕ) (gray : List ℕ) (n : ℕ) → ordered width gray n ≤ 1
unfolding ordered
ordered_bit width gray n = go (ltb (255 * threshold_at (n / width) (n % width)) (256 * get_or gray n 0))
  where
    go : (b : Bool) → pick b 1 0 ≤ 1
    go true = omega arith
    go false = omega arith

module _ (m : Measures) (gray given : List ℕ) where
  pub start_long : length given ≡ m.height * m.width → length (start_dots m gray given) ≡ m.height * m.width
  start_long e =
      by_kind m gray given (λ l. length l ≡ m.height * m.width) (length-tabulate _ _) (length-tabulate _ _) (λ k. e)

  pub start_bits : (2 ≤ m.start → AtMost 1 given) → AtMost 1 (start_dots m gray given)
  start_bits h =
      by_kind m gray given (AtMost 1) (tabulate_bits _ _ (blank_bit gray))
      (tabulate_bits _ _ (ordered_bit m.width gray)) h

-- ---- locked cells
blank_locks : (gray : List ℕ) (n : ℕ) → locked gray n ≡ true → blank gray n ≡ locked_byte 1 (get_or gray n 0)
unfolding blank
blank_locks gray n h = rw h refl

-- 256 × 0 is above no threshold × 255, and 256 × 255 above every one
screened_locks : (g k : ℕ) → k ≤ 255 → (g ≡ 0) ⊎ (g ≡ black) → screened g k ≡ locked_byte 1 g
screened_locks g k h (inl e) = rw e (rw (le-ltb (255 * k) (256 * 0) (omega arith)) refl)
screened_locks g k h (inr e) = rw e (rw (lt-ltb (255 * k) (256 * black) (omega arith)) refl)

module _ (m : Measures) (psf gray given : List ℕ) where
  abbrev t : Target
  t = target_for m psf gray

  -- dots that a rule tabulates
  tabulated : (f : ℕ → ℕ) → ((n : ℕ) → locked gray n ≡ true → f n ≡ locked_byte 1 (get_or gray n 0))
      → LocksHold t (tabulate (m.height * m.width) f)
  tabulated f h = record { each = λ n k l. get_d_tabulate (m.height * m.width) f n 0 k ∙ h n l }

  ordered_hold : LocksHold t (tabulate (m.height * m.width) (ordered m.width gray))
  unfolding ordered locked
  ordered_hold =
      tabulated (ordered m.width gray) (λ n l.
      screened_locks (get_or gray n 0) (threshold_at (n / m.width) (n % m.width)) (threshold_most _ _)
      (lock_cases (get_or gray n 0) l))

  pub ordered_locks : m.start ≡ 1 → LocksHold t (start_dots m gray given)
  ordered_locks e = subst (LocksHold t) (sym (is_ordered m gray given e)) ordered_hold

  pub start_locks : (2 ≤ m.start → LocksHold t given) → LocksHold t (start_dots m gray given)
  start_locks h = by_kind m gray given (LocksHold t) (tabulated (blank gray) (blank_locks gray)) ordered_hold h
