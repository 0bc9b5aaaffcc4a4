-- Laws of columns and of the window that slides along them.
--   counts_none, counts_next, counts_few  columns that come to a sum, term by term, and are bytes
--   window_next, window_most              the window one place further on, and its bound
--   slid_next, slid_most                  the sum along a row: one cell more, and its bound
--   slid_is                               columns that hold the marks make it the trials of a row
--   zeros                                 columns that start at 0
use mathlib.Core.List.{List}
use mathlib.Core.Path.{◌≡◌, ◌∙◌, ap}
use Prim.Native.Nat.{ℕ, zero, suc, ◌+◌, ◌*◌, ◌-◌, ◌≤◌, ◌<◌}
use native.Mathlib.Nat.{mul-le-mul}
use native.Mathlib.Numerals.{add-one}
use native.Mathlib.Omega.{arith}
use lib.ListN.{get_or, replicate}
use Rattle.model.specs.declared.Measures.{Measures}
use Rattle.model.specs.Basic.{AtMost}
use Rattle.model.proofs.Totals.{sum_below, total_next, total_same, total_nil, total_most, total_slide}
use Rattle.search_count.specs.Marks.{Gains, Counts, mark, column_marks, around, window_at, slid, kind_trials}
use Rattle.search_count.proofs.Marks.{mark_small}

-- ---- columns that come to the sum of the first j of F
module _ (F : ℕ → ℕ → ℕ) where
  pub counts_none : {l : List ℕ} → AtMost 0 l → Counts (λ p. sum_below 0 (λ i. F i p)) l
  counts_none z = record { each = λ p. omega (arith, z.each p, total_nil (λ i. F i p)) }

  pub counts_next : (j : ℕ) {l k : List ℕ} → Counts (λ p. sum_below j (λ i. F i p)) l → Gains (F j) l k
      → Counts (λ p. sum_below (j + 1) (λ i. F i p)) k
  counts_next j c g =
      record { each = λ p. omega (arith, g.each p, c.each p, total_next j (λ i. F i p)) }

  pub counts_few : (j : ℕ) {l : List ℕ} → ((i p : ℕ) → F i p ≤ 1) → j ≤ 254
      → Counts (λ p. sum_below j (λ i. F i p)) l → AtMost 254 l
  counts_few j small h c =
      record { each = λ p. omega (arith, c.each p, total_most j 1 (λ i. F i p) (λ i q. small i p)) }

-- ---- the window
module _ (columns : List ℕ) (n : ℕ) where
  pub window_next : (x : ℕ)
      → get_or columns x 0 + window_at columns n (x + 1) ≡ window_at columns n x + get_or columns (x + n) 0
  window_next x =
      ap (λ k. get_or columns x 0 + window_at columns n k) (add-one x) ∙ total_slide n x (λ i. get_or columns i 0)

  pub window_most : ((p : ℕ) → get_or columns p 0 < 256) → (x : ℕ) → window_at columns n x ≤ n * 255
  window_most small x = total_most n 255 (λ i. get_or columns (x + i) 0) (λ i h. omega (arith, small (x + i)))

  -- ---- the sum along a row
  module _ (gray dots : List ℕ) (dot first : ℕ) where
    pub slid_next : (x : ℕ) → slid gray dots dot first columns n (x + 1)
        ≡ slid gray dots dot first columns n x + mark gray dots dot (first + x) * window_at columns n x
    slid_next x = total_next x (λ i. mark gray dots dot (first + i) * window_at columns n i)

    pub slid_most : ((p : ℕ) → get_or columns p 0 < 256) → n ≤ 13 → (x : ℕ)
        → slid gray dots dot first columns n x ≤ x * 3315
    slid_most small h x =
        total_most x 3315 (λ i. mark gray dots dot (first + i) * window_at columns n i) (λ i k.
        let few = mark_small (get_or gray (first + i) 0) (get_or dots (first + i) 0) dot in
        let most : window_at columns n i ≤ 3315 = omega (arith, window_most small i) in
        omega (arith, mul-le-mul few most))

-- ---- the trials of a row
module _ (m : Measures) (gray dots : List ℕ) (dot y : ℕ) {columns : List ℕ}
    (c : Counts (column_marks m gray dots (1 - dot) y) columns) where
  around_is : (x : ℕ) → window_at columns (2 * m.reach + 1) x ≡ around m gray dots (1 - dot) y x
  around_is x = total_same (2 * m.reach + 1) (λ i h. c.each (x + i))

  pub slid_is : (x : ℕ)
      → slid gray dots dot (y * m.width) columns (2 * m.reach + 1) x ≡ kind_trials m gray dots dot y x
  slid_is x = total_same x (λ i h. ap (λ z. mark gray dots dot (y * m.width + i) * z) (around_is i))

-- ---- columns that start at 0
pub zeros : (n : ℕ) → AtMost 0 (replicate n 0)
zeros n = record { each = go n }
  where
    go : (n i : ℕ) → get_or (replicate n 0) i 0 ≤ 0
    go zero i = omega arith
    go (suc n) zero = omega arith
    go (suc n) (suc i) = go n i
