-- Laws of marks and of what is added up from them.
--   mark_small                               a mark is at most 1
--   placed_after                             what stands after a run that is put
--   gains_none, gains_next                   a run that is added entry by entry
--   gains_nothing, gains_row                 a row of the widened plate that is added, off the plate and on it
--   widened_above, widened_below, widened_left, widened_right, widened_at, widened_small
--                                            the widened plate: off the plate, on it, and its bound
use mathlib.Core.Bool.{Bool, true, false, ◌&&◌, not}
use mathlib.Core.List.{List}
use mathlib.Core.Path.{◌≡◌, refl, sym, ◌∙◌, ap}
use Prim.Native.Nat.{ℕ, ◌+◌, ◌*◌, ◌-◌, ◌≤◌, ◌<◌}
use native.Mathlib.Decide.{ℕ_discrete, dec_lt}
use native.Mathlib.Omega.{arith}
use borrow.Author.Tests.{lt-ltb, le-ltb, le-leb, lt-leb}
use lib.Dec.{eqb, leb, ltb}
use lib.ListN.{length, get_or, set, length-set}
use lib.Seq.{get_or-set_same, get_or-set_other}
use Rattle.model.specs.declared.Measures.{Measures}
use Rattle.model.specs.Basic.{pick}
use Rattle.model.specs.Lock.{locked_gray}
use Rattle.model.proofs.Basic.{pick_cases, one_most}
use Rattle.search_count.specs.Marks.{Gains, mark_of, mark, placed, widened}

-- ---- a mark
pub mark_small : (g x d : ℕ) → mark_of g x d ≤ 1
unfolding mark_of
mark_small g x d = one_most (not (locked_gray g) && eqb x d)

-- ---- a run that is put
module _ (at n : ℕ) (f : ℕ → ℕ) (p : ℕ) where
  placed_in : at ≤ p → p < at + n → placed at n f p ≡ f (p - at)
  unfolding placed
  placed_in h k = rw (le-leb at p h, lt-ltb p (at + n) k) refl

  placed_before : p < at → placed at n f p ≡ 0
  unfolding placed
  placed_before h = rw (lt-leb at p h) refl

  pub placed_after : at + n ≤ p → placed at n f p ≡ 0
  unfolding placed
  placed_after h = go (leb at p)
    where
      go : (b : Bool) → pick (b && ltb p (at + n)) (f (p - at)) 0 ≡ 0
      go true = rw (le-ltb p (at + n) h) refl
      go false = refl

  -- what holds of 0 and of its values holds everywhere
  placed_each : (P : ℕ → Type 0) → P 0 → ((i : ℕ) → P (f i)) → P (placed at n f p)
  unfolding placed
  placed_each P z h = pick_cases P (leb at p && ltb p (at + n)) (λ e. h (p - at)) (λ e. z)

-- one more is put
module _ (at n : ℕ) (f : ℕ → ℕ) where
  placed_last : placed at (n + 1) f (at + n) ≡ f n
  placed_last =
      let there : at + n - at ≡ n = omega arith in
      placed_in at (n + 1) f (at + n) (omega arith) (omega arith) ∙ ap f there

  placed_others : (p : ℕ) → (p ≡ at + n → ⊥) → placed at (n + 1) f p ≡ placed at n f p
  placed_others p o = go (dec_lt p at) (dec_lt p (at + n))
    where
      go : Dec (p < at) → Dec (p < at + n) → placed at (n + 1) f p ≡ placed at n f p
      go (yes h) k = placed_before at (n + 1) f p h ∙ sym (placed_before at n f p h)
      go (no h) (yes k) =
          placed_in at (n + 1) f p (omega arith) (omega arith) ∙ sym (placed_in at n f p (omega arith) k)
      go (no h) (no k) = placed_after at (n + 1) f p (omega arith) ∙ sym (placed_after at n f p (omega arith))

placed_none : (at : ℕ) (f : ℕ → ℕ) (p : ℕ) → placed at 0 f p ≡ 0
placed_none at f p = go (dec_lt p at)
  where
    go : Dec (p < at) → placed at 0 f p ≡ 0
    go (yes h) = placed_before at 0 f p h
    go (no h) = placed_after at 0 f p (omega arith)

-- ---- a run that is added entry by entry
pub gains_none : (at : ℕ) (f : ℕ → ℕ) (l : List ℕ) → Gains (placed at 0 f) l l
gains_none at f l = record { long = refl; each = λ p. omega (arith, placed_none at f p) }

module _ (at n : ℕ) (f : ℕ → ℕ) {l₀ l : List ℕ} (g : Gains (placed at n f) l₀ l) where
  pub gains_next : {x : ℕ} → x ≡ f n → at + n < length l
      → Gains (placed at (n + 1) f) l₀ (set l (at + n) (get_or l (at + n) 0 + x))
  gains_next {x} e h =
      record { long = length-set l (at + n) v ∙ g.long; each = λ p. go p (ℕ_discrete p (at + n)) }
    where
      v : ℕ
      v = get_or l (at + n) 0 + x

      go : (p : ℕ) → Dec (p ≡ at + n) → get_or (set l (at + n) v) p 0 ≡ get_or l₀ p 0 + placed at (n + 1) f p
      go p (yes o) =
          let last : placed at n f (at + n) ≡ 0 = placed_after at n f (at + n) (omega arith) in
          rw o (get_or-set_same l (at + n) v 0 h ∙ omega (arith, g.each (at + n), placed_last at n f))
      go p (no o) =
          get_or-set_other l (at + n) p v 0 o ∙ g.each p ∙ ap (λ z. get_or l₀ p 0 + z) (sym (placed_others at n f p o))

-- ---- a row of the widened plate that is added
-- nothing where it is off the plate
pub gains_nothing : {g : ℕ → ℕ} (l : List ℕ) → ((p : ℕ) → g p ≡ 0) → Gains g l l
gains_nothing l e = record { long = refl; each = λ p. omega (arith, e p) }

module _ (m : Measures) (gray dots : List ℕ) (dot y : ℕ) where
  abbrev row_of : ℕ → ℕ → ℕ
  row_of X y = placed m.reach m.width (λ x. mark gray dots dot (y * m.width + x)) X

  pub widened_above : y < m.reach → (X : ℕ) → widened m gray dots dot y X ≡ 0
  widened_above h X = placed_before m.reach m.height (row_of X) y h

  pub widened_below : m.reach + m.height ≤ y → (X : ℕ) → widened m gray dots dot y X ≡ 0
  widened_below h X = placed_after m.reach m.height (row_of X) y h

  widened_on : m.reach ≤ y → y < m.reach + m.height → (X : ℕ)
      → widened m gray dots dot y X
      ≡ placed m.reach m.width (λ x. mark gray dots dot ((y - m.reach) * m.width + x)) X
  widened_on h k X = placed_in m.reach m.height (row_of X) y h k

  -- off the plate to the left and to the right
  pub widened_left : (X : ℕ) → X < m.reach → widened m gray dots dot y X ≡ 0
  widened_left X h =
      placed_each m.reach m.height (row_of X) y (λ v. v ≡ 0) refl (λ i.
      placed_before m.reach m.width (λ x. mark gray dots dot (i * m.width + x)) X h)

  pub widened_right : (X : ℕ) → m.reach + m.width ≤ X → widened m gray dots dot y X ≡ 0
  widened_right X h =
      placed_each m.reach m.height (row_of X) y (λ v. v ≡ 0) refl (λ i.
      placed_after m.reach m.width (λ x. mark gray dots dot (i * m.width + x)) X h)

  -- on the plate
  pub widened_at : (X : ℕ) → m.reach ≤ y → y < m.reach + m.height → m.reach ≤ X → X < m.reach + m.width
      → widened m gray dots dot y X ≡ mark gray dots dot ((y - m.reach) * m.width + (X - m.reach))
  widened_at X h k p q =
      widened_on h k X
      ∙ placed_in m.reach m.width (λ x. mark gray dots dot ((y - m.reach) * m.width + x)) X p q

  -- it is added
  pub gains_row : {l₀ l : List ℕ}
      → Gains (placed m.reach m.width (λ x. mark gray dots dot ((y - m.reach) * m.width + x))) l₀ l
      → m.reach ≤ y → y < m.reach + m.height → Gains (widened m gray dots dot y) l₀ l
  gains_row {l₀} s h k =
      record { long = s.long; each = λ p. s.each p ∙ ap (λ z. get_or l₀ p 0 + z) (sym (widened_on h k p)) }

  -- a mark is at most 1
  pub widened_small : (X : ℕ) → widened m gray dots dot y X ≤ 1
  widened_small X =
      placed_each m.reach m.height (row_of X) y (λ v. v ≤ 1) (omega arith) (λ i.
      placed_each m.reach m.width (λ x. mark gray dots dot (i * m.width + x)) X (λ v. v ≤ 1) (omega arith) (λ x.
      mark_small (get_or gray (i * m.width + x) 0) (get_or dots (i * m.width + x) 0) dot))
