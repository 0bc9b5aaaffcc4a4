-- Laws of one change. Storing a byte adds to the error at one cell, so the law of an edit says what any list of stores
-- does to E and to the table; document 01's formulas for a toggle and a swap are the cases of one cell and of two.
--   change_least                          a change below 0 is at most -step
--   byte_swap_change_lem                      what a swap of any two bytes adds to E
--   toggle_change_lem, swap_change_lem            document 01's formulas are the differences of the sums
--   store_moves_table                     what each T(q) gains where a byte is stored
--   toggle_moves_table, swap_moves_table  and by a toggle and a swap
use mathlib.Core.Path.{◌≡◌, refl, sym, ◌∙◌, ap, ap₂}
use mathlib.Core.List.{List, [], ◌∷◌}
use Prim.Native.Nat.{ℕ, ◌-◌, ◌<◌}
use native.Mathlib.Decide.{ℕ_discrete}
use native.Mathlib.Omega.{arith}
use lib.IntN.{ℤ, pos, negsuc, neg_ℤ, ◌+ℤ◌, ◌-ℤ◌, ◌*ℤ◌, +ℤ_idr, +ℤ_invr}
use lib.Signed.{◌≤ℤ◌, ◌<ℤ◌, clash_ℤ}
use lib.ListN.{length, get_or, set, length-set}
use lib.Seq.{get_or-set_same, get_or-set_other}
use Rattle.algebra.specs.Sum.{sum_over}
use Rattle.algebra.specs.Quadratic.{Increment, Within, point, gained, edited}
use Rattle.algebra.proofs.Solver.{ring!, reify}
use Rattle.algebra.proofs.Order.{ordℤ, show≤, 0≤-mul}
use Rattle.algebra.proofs.Sum.{point_same, point_other, sum_over_cong, sum_over_scale}
use Rattle.model.specs.Basic.{AtMost}
use Rattle.model.specs.Psf.{autocorrelation, peak}
use Rattle.model.specs.Error.{Target, cells, row, column, kernel, error}
use Rattle.model.specs.Error.{filtered_error, squared_error}
use Rattle.model.specs.Change.{sign, toggle_sum, byte_swap_sum, swap_sum, Setting, Move, Placed, made, swap}
use Rattle.model.specs.Change.{toggle_change, byte_swap_change, swap_change, toggle, change}
use Rattle.model.proofs.Error.{kernel_symmetric, filtered_edit, squared_edit}
use Rattle.model.proofs.Turn.{sign_is, sign_square, unlike_sign, toggle_sets}

-- ---- stores as an edit
-- what the stores add to the dots, one after the other
abbrev units : List ℕ → List Setting → List Increment
units dots [] = []
units dots (x ∷ l) =
    record { cell = x.cell; amount = pos x.byte -ℤ pos (get_or dots x.cell 0) }
    ∷ units (set dots x.cell x.byte) l

-- a toggle adds s(m) at m
toggle_units : (dots : List ℕ) → AtMost 1 dots → (m : ℕ)
    → units dots (toggle dots m).sets ≡ record { cell = m; amount = sign dots m } ∷ []
toggle_units dots bits m =
    ap (units dots) (toggle_sets dots bits m)
    ∙ ap (λ z. record { cell = m; amount = z } ∷ []) (sign_is dots bits m)

-- a swap adds at each cell the other's byte less its own
swap_units : (dots : List ℕ) (m n : ℕ) → m < length dots
    → (let x : ℕ = get_or dots m 0 in
    let y : ℕ = get_or dots n 0 in
    units dots (swap dots m n).sets
    ≡ record { cell = m; amount = pos y -ℤ pos x } ∷ record { cell = n; amount = pos x -ℤ pos y } ∷ [])
unfolding swap
swap_units dots m n h =
    ap (λ (z : ℕ).
    record { cell = m; amount = pos (get_or dots n 0) -ℤ pos (get_or dots m 0) }
    ∷ record { cell = n; amount = pos (get_or dots m 0) -ℤ pos z }
    ∷ []) (there (ℕ_discrete n m))
  where
    there : Dec (n ≡ m) → get_or (set dots m (get_or dots n 0)) n 0 ≡ get_or dots n 0
    there (yes e) = ap (λ k. get_or (set dots m (get_or dots n 0)) k 0) e ∙ get_or-set_same dots m (get_or dots n 0) 0 h
    there (no e) = get_or-set_other dots m n (get_or dots n 0) 0 e

toggle_placed : {N : ℕ} (dots : List ℕ) {m : ℕ} → m < N → Placed N (toggle dots m).sets
unfolding toggle
toggle_placed dots h = (h, tt)

swap_placed : {N : ℕ} (dots : List ℕ) {m n : ℕ} → m < N → n < N → Placed N (swap dots m n).sets
unfolding swap
swap_placed dots h k = (h, (k, tt))

-- an edit times u
abbrev times : ℤ → List Increment → List Increment
times u [] = []
times u (c ∷ l) = record { cell = c.cell; amount = u *ℤ c.amount } ∷ times u l

within : (N : ℕ) (u : ℤ) (dots : List ℕ) (l : List Setting) → Placed N l → Within N (times u (units dots l))
within N u dots [] h = tt
within N u dots (x ∷ l) h = (h.0, within N u (set dots x.cell x.byte) l h.1)

sum_times : (u : ℤ) (l : List Increment) (f : ℕ → ℤ)
    → sum_over (times u l) (λ c. c.amount *ℤ f c.cell) ≡ u *ℤ sum_over l (λ c. c.amount *ℤ f c.cell)
unfolding sum_over
sum_times u [] f = ring! (u ∷ []) (search reify depth 40) refl
sum_times u (c ∷ l) f =
    ap (λ z. u *ℤ c.amount *ℤ f c.cell +ℤ z) (sum_times u l f)
    ∙ ring! (u ∷ c.amount ∷ f c.cell ∷ sum_over l (λ c. c.amount *ℤ f c.cell) ∷ []) (search reify depth 40) refl

-- the double sum of an edit over a kernel, row by row
crosswise : (l : List Increment) (C : ℕ → ℕ → ℤ) → ℤ
crosswise l C = sum_over l (λ c. c.amount *ℤ sum_over l (λ d. d.amount *ℤ C d.cell c.cell))

crosswise_is : (l : List Increment) (C : ℕ → ℕ → ℤ)
    → sum_over l (λ c. sum_over l (λ d. c.amount *ℤ d.amount *ℤ C d.cell c.cell)) ≡ crosswise l C
unfolding crosswise
crosswise_is l C =
    sum_over_cong l (λ c.
    sum_over_cong l (λ d. ring! (c.amount ∷ d.amount ∷ C d.cell c.cell ∷ []) (search reify depth 40) refl)
    ∙ sum_over_scale l c.amount (λ d. d.amount *ℤ C d.cell c.cell))

crosswise_times : (u : ℤ) (l : List Increment) (C : ℕ → ℕ → ℤ) → crosswise (times u l) C ≡ u *ℤ (u *ℤ crosswise l C)
unfolding crosswise
crosswise_times u l C =
    sum_times u l (λ m. sum_over (times u l) (λ d. d.amount *ℤ C d.cell m))
    ∙ ap (λ z. u *ℤ z)
    (sum_over_cong l (λ c.
    ap (λ z. c.amount *ℤ z) (sum_times u l (λ n. C n c.cell))
    ∙ ring! (u ∷ c.amount ∷ sum_over l (λ d. d.amount *ℤ C d.cell c.cell) ∷ []) (search reify depth 40) refl)
    ∙ sum_over_scale l u (λ c. c.amount *ℤ sum_over l (λ d. d.amount *ℤ C d.cell c.cell)))

module _ (t : Target) where
  -- one store
  error_set : (dots : List ℕ) (m x : ℕ) → m < length dots → (n : ℕ)
      → error t (set dots m x) n
      ≡ error t dots n +ℤ point m (pos t.step *ℤ (pos x -ℤ pos (get_or dots m 0))) n
  unfolding error
  error_set dots m x h n = go (ℕ_discrete n m)
    where
      u : ℤ
      u = pos t.step

      a : ℤ
      a = u *ℤ (pos x -ℤ pos (get_or dots m 0))

      gray : ℤ
      gray = pos (get_or t.gray n 0)

      turn : (d : ℤ) → u *ℤ pos x -ℤ gray ≡ u *ℤ d -ℤ gray +ℤ u *ℤ (pos x -ℤ d)
      turn d = ring! (u ∷ pos x ∷ d ∷ gray ∷ []) (search reify depth 40) refl

      go : Dec (n ≡ m)
          → u *ℤ pos (get_or (set dots m x) n 0) -ℤ gray ≡ u *ℤ pos (get_or dots n 0) -ℤ gray +ℤ point m a n
      go (yes e) =
          ap (λ (d : ℕ). u *ℤ pos d -ℤ gray) (ap (λ k. get_or (set dots m x) k 0) e ∙ get_or-set_same dots m x 0 h)
          ∙ turn (pos (get_or dots m 0))
          ∙ ap₂ (λ (d : ℕ) z. u *ℤ pos d -ℤ gray +ℤ z) (ap (λ k. get_or dots k 0) (sym e))
          (sym (point_same m a) ∙ ap (point m a) (sym e))
      go (no e) =
          ap (λ (d : ℕ). u *ℤ pos d -ℤ gray) (get_or-set_other dots m n x 0 e)
          ∙ sym (+ℤ_idr _) ∙ ap (λ z. u *ℤ pos (get_or dots n 0) -ℤ gray +ℤ z) (sym (point_other m a n e))

  error_made : (dots : List ℕ) (l : List Setting) → Placed (length dots) l → (n : ℕ)
      → error t (made dots l) n ≡ edited (error t dots) (times (pos t.step) (units dots l)) n
  unfolding made edited gained sum_over
  error_made dots [] h n = sym (+ℤ_idr (error t dots n))
  error_made dots (x ∷ l) h n =
      error_made (set dots m y) l placed n
      ∙ ap (λ z. z +ℤ gained rest n) (error_set dots m y h.0 n)
      ∙ join (error t dots n) (point m a n) (gained rest n)
    where
      m : ℕ
      m = x.cell

      y : ℕ
      y = x.byte

      a : ℤ
      a = pos t.step *ℤ (pos y -ℤ pos (get_or dots m 0))

      rest : List Increment
      rest = times (pos t.step) (units (set dots m y) l)

      placed : Placed (length (set dots m y)) l
      placed = rw (length-set dots m y) h.1

      join : (a b c : ℤ) → a +ℤ b +ℤ c ≡ a +ℤ (b +ℤ c)
      join a b c = ring! (a ∷ b ∷ c ∷ []) (search reify depth 40) refl

  -- ---- what any stores add to T(q): step × Σ kᵢ·c(mᵢ - q), the dot of mᵢ gaining kᵢ
  filtered_made : (dots : List ℕ) (l : List Setting) → length dots ≡ cells t → Placed (cells t) l → (q : ℕ)
      → filtered_error t (made dots l) q
      ≡ filtered_error t dots q
      +ℤ pos t.step *ℤ sum_over (units dots l) (λ c. c.amount *ℤ kernel t c.cell q)
  filtered_made dots l long placed q =
      let u = pos t.step in
      filtered_edit t dots (made dots l) (times u (units dots l)) (within (cells t) u dots l placed)
      (error_made dots l (rw long placed)) q
      ∙ ap (λ z. filtered_error t dots q +ℤ z) (sum_times u (units dots l) (λ m. kernel t m q))

  -- one store
  pub store_moves_table : (dots : List ℕ) → length dots ≡ cells t → (m byte q : ℕ) → m < cells t
      → filtered_error t (set dots m byte) q
      ≡ filtered_error t dots q
      +ℤ pos t.step *ℤ (pos byte -ℤ pos (get_or dots m 0)) *ℤ kernel t q m
  unfolding made sum_over
  store_moves_table dots long m byte q h =
      filtered_made dots (record { cell = m; byte = byte } ∷ []) long (h, tt) q
      ∙ rw (kernel_symmetric t m q) (turn (pos byte -ℤ pos (get_or dots m 0)) (kernel t q m))
    where
      u : ℤ
      u = pos t.step

      T : ℤ
      T = filtered_error t dots q

      turn : (a c : ℤ) → T +ℤ u *ℤ (a *ℤ c +ℤ pos 0) ≡ T +ℤ u *ℤ a *ℤ c
      turn a c = ring! (u ∷ a ∷ T ∷ c ∷ []) (search reify depth 40) refl

  -- ---- and to E: step × (2 × Σ kᵢ·T(mᵢ) + step × ΣΣ kᵢ·kⱼ·c(mᵢ - mⱼ))
  abbrev inner : List ℕ → List Increment → ℤ
  inner dots k =
      pos 2 *ℤ sum_over k (λ c. c.amount *ℤ filtered_error t dots c.cell) +ℤ pos t.step *ℤ crosswise k (kernel t)

  change_is : (dots : List ℕ) (v : Move) → length dots ≡ cells t → Placed (cells t) v.sets
      → change t dots v ≡ pos t.step *ℤ inner dots (units dots v.sets)
  unfolding change
  change_is dots v long placed =
      ap (λ z. z -ℤ E)
      (squared_edit t dots (made dots v.sets) (times u k) (within (cells t) u dots v.sets placed)
      (error_made dots v.sets (rw long placed))
      ∙ ap₂ (λ a b. E +ℤ pos 2 *ℤ a +ℤ b) (sum_times u k (filtered_error t dots))
      (crosswise_is (times u k) (kernel t) ∙ crosswise_times u k (kernel t)))
      ∙ turn E A (crosswise k (kernel t))
    where
      u : ℤ
      u = pos t.step

      k : List Increment
      k = units dots v.sets

      E : ℤ
      E = squared_error t dots

      A : ℤ
      A = sum_over (units dots v.sets) (λ c. c.amount *ℤ filtered_error t dots c.cell)

      turn : (E A B : ℤ) → E +ℤ pos 2 *ℤ (u *ℤ A) +ℤ u *ℤ (u *ℤ B) -ℤ E ≡ u *ℤ (pos 2 *ℤ A +ℤ u *ℤ B)
      turn E A B = ring! (E ∷ A ∷ B ∷ u ∷ []) (search reify depth 40) refl

  -- so a change below 0 is at most -step
  pub change_least : (dots : List ℕ) (v : Move) → length dots ≡ cells t → Placed (cells t) v.sets
      → change t dots v <ℤ pos 0 → change t dots v ≤ℤ neg_ℤ (pos t.step)
  change_least dots v long placed h =
      let e = change_is dots v long placed in rw e (multiple t.step (inner dots (units dots v.sets)) (rw e at h))
    where
      multiple : (u : ℕ) (z : ℤ) → (pos u *ℤ z) <ℤ pos 0 → (pos u *ℤ z) ≤ℤ neg_ℤ (pos u)
      multiple u (pos n) h = clash_ℤ h (0≤-mul (pos u) (pos n) (omega (arith, ordℤ)) (omega (arith, ordℤ)))
      multiple u (negsuc n) h =
          show≤ (pos u ∷ pos n ∷ negsuc n ∷ []) (search reify depth 40) (omega arith)

  -- the kernel of a cell with itself is the peak
  kernel_peak : (m : ℕ) → kernel t m m ≡ peak t.radius t.psf
  unfolding kernel
  kernel_peak m = ap₂ (autocorrelation t.radius t.psf) (+ℤ_invr (row t m)) (+ℤ_invr (column t m))

  -- ---- a swap of any two bytes, where d is the byte at n less that at m
  pub byte_swap_change_lem : (dots : List ℕ) (m n : ℕ) → length dots ≡ cells t → m < cells t → n < cells t
      → change t dots (swap dots m n) ≡ byte_swap_change t dots m n
  unfolding byte_swap_sum crosswise sum_over
  byte_swap_change_lem dots m n long h k =
      change_is dots (swap dots m n) long (swap_placed dots h k)
      ∙ ap (λ l. u *ℤ inner dots l) (swap_units dots m n (rw long h))
      ∙ ap (λ z. u *ℤ z)
      (turn (pos (get_or dots m 0)) (pos (get_or dots n 0)) (filtered_error t dots m) (filtered_error t dots n)
      (kernel t m m) (kernel t n n) (kernel t m n) (kernel t n m))
      ∙ rw (kernel_peak m, kernel_peak n, kernel_symmetric t n m)
      (twice (pos (get_or dots n 0) -ℤ pos (get_or dots m 0)) (filtered_error t dots m) (filtered_error t dots n)
      (peak t.radius t.psf) (kernel t m n))
    where
      u : ℤ
      u = pos t.step

      twice : (d S T P c : ℤ)
          → u *ℤ (pos 2 *ℤ (d *ℤ (S -ℤ T)) +ℤ u *ℤ (d *ℤ d *ℤ (P +ℤ P -ℤ c -ℤ c)))
          ≡ pos 2 *ℤ u *ℤ (d *ℤ (S -ℤ T +ℤ u *ℤ d *ℤ (P -ℤ c)))
      twice d S T P c = ring! (u ∷ d ∷ S ∷ T ∷ P ∷ c ∷ []) (search reify depth 40) refl

      turn : (x y S T a b c d : ℤ)
          → pos 2 *ℤ ((y -ℤ x) *ℤ S +ℤ ((x -ℤ y) *ℤ T +ℤ pos 0))
          +ℤ u *ℤ ((y -ℤ x) *ℤ ((y -ℤ x) *ℤ a +ℤ ((x -ℤ y) *ℤ d +ℤ pos 0))
          +ℤ ((x -ℤ y) *ℤ ((y -ℤ x) *ℤ c +ℤ ((x -ℤ y) *ℤ b +ℤ pos 0)) +ℤ pos 0))
          ≡ pos 2 *ℤ ((y -ℤ x) *ℤ (S -ℤ T)) +ℤ u *ℤ ((y -ℤ x) *ℤ (y -ℤ x) *ℤ (a +ℤ b -ℤ c -ℤ d))
      turn x y S T a b c d =
          ring! (u ∷ x ∷ y ∷ S ∷ T ∷ a ∷ b ∷ c ∷ d ∷ []) (search reify depth 40 fits 9000) refl

  -- ---- document 01's formulas are the differences of the sums
  module _ (dots : List ℕ) (bits : AtMost 1 dots) (long : length dots ≡ cells t) where
    pub toggle_change_lem : (m : ℕ) → m < cells t → change t dots (toggle dots m) ≡ toggle_change t dots m
    unfolding toggle_sum crosswise sum_over
    toggle_change_lem m h =
        change_is dots (toggle dots m) long (toggle_placed dots h)
        ∙ ap (λ l. u *ℤ inner dots l) (toggle_units dots bits m)
        ∙ ap (λ z. u *ℤ z) (turn (sign dots m) (filtered_error t dots m) (kernel t m m))
        ∙ rw (sign_square dots m, kernel_peak m)
        (one (pos 2 *ℤ sign dots m *ℤ filtered_error t dots m) (peak t.radius t.psf))
      where
        u : ℤ
        u = pos t.step

        turn : (s T c : ℤ)
            → pos 2 *ℤ (s *ℤ T +ℤ pos 0) +ℤ u *ℤ (s *ℤ (s *ℤ c +ℤ pos 0) +ℤ pos 0)
            ≡ pos 2 *ℤ s *ℤ T +ℤ u *ℤ (s *ℤ s *ℤ c)
        turn s T c = ring! (u ∷ s ∷ T ∷ c ∷ []) (search reify depth 40) refl

        one : (z P : ℤ) → u *ℤ (z +ℤ u *ℤ (pos 1 *ℤ P)) ≡ u *ℤ (z +ℤ u *ℤ P)
        one z P = ring! (u ∷ z ∷ P ∷ []) (search reify depth 40) refl

    -- where the dots of m and n differ, d = s(m)
    pub swap_change_lem : (m n : ℕ) → m < cells t → n < cells t → (get_or dots m 0 ≡ get_or dots n 0 → ⊥)
        → change t dots (swap dots m n) ≡ swap_change t dots m n
    unfolding byte_swap_sum swap_sum
    swap_change_lem m n h k unlike =
        byte_swap_change_lem dots m n long h k
        ∙ ap (λ d. byte_swap_sum t.step P (kernel t m n) d S T) (unlike_sign dots bits m n unlike)
        ∙ turn (sign dots m) (kernel t m n)
        ∙ rw (sign_square dots m) (one (sign dots m) (kernel t m n))
      where
        u : ℤ
        u = pos t.step

        P : ℤ
        P = peak t.radius t.psf

        S : ℤ
        S = filtered_error t dots m

        T : ℤ
        T = filtered_error t dots n

        turn : (s c : ℤ)
            → pos 2 *ℤ u *ℤ (s *ℤ (S -ℤ T +ℤ u *ℤ s *ℤ (P -ℤ c)))
            ≡ pos 2 *ℤ u *ℤ (s *ℤ (S -ℤ T) +ℤ u *ℤ (s *ℤ s *ℤ (P -ℤ c)))
        turn s c = ring! (u ∷ s ∷ S ∷ T ∷ P ∷ c ∷ []) (search reify depth 40) refl

        one : (s c : ℤ)
            → pos 2 *ℤ u *ℤ (s *ℤ (S -ℤ T) +ℤ u *ℤ (pos 1 *ℤ (P -ℤ c)))
            ≡ pos 2 *ℤ u *ℤ (s *ℤ (S -ℤ T) +ℤ u *ℤ (P -ℤ c))
        one s c = ring! (u ∷ s ∷ S ∷ T ∷ P ∷ c ∷ []) (search reify depth 40) refl

    -- ---- the table follows: each T(q) gains step × s(m) × c(q - m)
    pub toggle_moves_table : (m q : ℕ) → m < cells t
        → filtered_error t (made dots (toggle dots m).sets) q
        ≡ filtered_error t dots q +ℤ pos t.step *ℤ sign dots m *ℤ kernel t q m
    unfolding made
    toggle_moves_table m q h =
        ap (λ l. filtered_error t (made dots l) q) (toggle_sets dots bits m)
        ∙ store_moves_table dots long m (1 - get_or dots m 0) q h
        ∙ ap (λ s. filtered_error t dots q +ℤ pos t.step *ℤ s *ℤ kernel t q m) (sign_is dots bits m)

    -- and for a swap, whose dots differ, also step × s(n) × c(q - n)
    pub swap_moves_table : (m n q : ℕ) → m < cells t → n < cells t → (get_or dots m 0 ≡ get_or dots n 0 → ⊥)
        → filtered_error t (made dots (swap dots m n).sets) q
        ≡ filtered_error t dots q
        +ℤ pos t.step *ℤ sign dots m *ℤ kernel t q m
        +ℤ pos t.step *ℤ sign dots n *ℤ kernel t q n
    unfolding sum_over
    swap_moves_table m n q h k unlike =
        filtered_made dots (swap dots m n).sets long (swap_placed dots h k) q
        ∙ ap (λ l. T +ℤ u *ℤ sum_over l (λ c. c.amount *ℤ kernel t c.cell q)) (swap_units dots m n (rw long h))
        ∙ ap₂ (λ a b. T +ℤ u *ℤ (a *ℤ kernel t m q +ℤ (b *ℤ kernel t n q +ℤ pos 0)))
        (unlike_sign dots bits m n unlike) (unlike_sign dots bits n m (λ e. unlike (sym e)))
        ∙ rw (kernel_symmetric t m q, kernel_symmetric t n q)
        (turn (sign dots m) (sign dots n) (kernel t q m) (kernel t q n))
      where
        u : ℤ
        u = pos t.step

        T : ℤ
        T = filtered_error t dots q

        turn : (r s c d : ℤ) → T +ℤ u *ℤ (r *ℤ c +ℤ (s *ℤ d +ℤ pos 0)) ≡ T +ℤ u *ℤ r *ℤ c +ℤ u *ℤ s *ℤ d
        turn r s c d = ring! (u ∷ r ∷ s ∷ T ∷ c ∷ d ∷ []) (search reify depth 40) refl
