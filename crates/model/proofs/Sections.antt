-- Where the numbers of a sheet stand: each in the text of its sheet, and those outside their fields among the values of
-- the format.
--   number_in_text  a number of a sheet stands in its text after the text before it
--   number_outside  a number outside its field is such a value of the grammar
--   outside_number  and such a value is a number outside its field
use mathlib.Core.Path.{◌≡◌, refl, ◌∙◌, ap, ap₂, sym, subst}
use mathlib.Core.Bool.{Bool, true, false}
use mathlib.Core.Logic.{◌⊎◌, inl, inr, ⊎_elim}
use mathlib.Core.List.{List, [], ◌∷◌, ◌++◌, append_assoc, append-nil}
use Prim.Native.Nat.{ℕ, zero, suc, ◌+◌, ◌*◌, ◌≤◌, ◌<◌}
use native.Mathlib.Omega.{arith}
use lib.Dec.{eqb}
use lib.ListN.{length, get_or, take}
use Rattle.model.specs.declared.Measures.{Measures}
use Rattle.model.specs.Basic.{pick}
use Rattle.model.specs.Text.{digits}
use Rattle.model.specs.Sheet.{Sheet, side_of, entries_of, cells_of, rows, end_of, grid_text, psf_name, gray_name}
use Rattle.model.specs.Sheet.{dots_name, values_of, dots_text, sheet_text, Shaped, head_text}
use Rattle.model.specs.SheetRefusal.{Section, line2, psf_rows, gray_rows, dots_rows, numbers_in, number_at, per_row}
use Rattle.model.specs.SheetRefusal.{least, most, lines_above, text_before}
use Rattle.model.specs.Format.{grid, block, head, psf_block, gray_block, dots_block, body}
use Rattle.model.specs.Format.{head_from, text_of}
use Rattle.model.specs.Grammar.{numbers, Beyond, OutsideAt, parts_of}
use Rattle.model.proofs.Rows.{rows_grid}
use Rattle.model.proofs.Format.{outside_left, outside_right, outside_cases, numbers_grid}
use Rattle.model.proofs.Sheet.{sheet_grammar, numbers_head, values_in, grid_text_lem}

-- ---- in the text of a sheet
-- value i of a grid
grid_at_lem : (w k i : ℕ) (vs : List ℕ) → i < length vs
    → (more : List ℕ) × (grid_text w k vs ≡ grid_text w k (take i vs) ++ (digits (get_or vs i 0) ++ more))
grid_at_lem w k i [] h = absurd (omega arith)
grid_at_lem w k zero (v ∷ vs) h = (end_of w k ∷ grid_text w (k + 1) vs, refl)
grid_at_lem w k (suc i) (v ∷ vs) h =
    let (more, e) = grid_at_lem w (k + 1) i vs (omega arith) in (
      more,
      ap (λ l. digits v ++ (end_of w k ∷ l)) e
          ∙ sym (append_assoc (digits v) (end_of w k ∷ grid_text w (k + 1) (take i vs)) (digits (get_or vs i 0) ++ more)),
    )

-- a product that is not 0
factor : (h w : ℕ) → 0 < h * w → 1 ≤ w
factor h zero p = absurd (omega arith)
factor h (suc w) p = omega arith

module _ (s : Sheet) (shaped : Shaped s) where
  m : Measures
  m = s.measures

  -- the dots: there are some with start 2 only
  dots_there : 0 < length s.dots → (eqb s.measures.start 2 ≡ true) × (length s.dots ≡ cells_of s.measures)
  dots_there n = go (eqb s.measures.start 2) refl
    where
      go : (b : Bool) → eqb s.measures.start 2 ≡ b
          → (eqb s.measures.start 2 ≡ true) × (length s.dots ≡ cells_of s.measures)
      go true e = (e, rw e at shaped.dots_length)
      go false e = absurd (omega (arith, rw e at shaped.dots_length))

  -- the numbers of a section stand under the lines above it
  section_text : (k : Section) → 0 < length (numbers_in k s)
      → (more : List ℕ) × (sheet_text s ≡ lines_above k s ++ (grid_text (per_row k s) 0 (numbers_in k s) ++ more))
  unfolding sheet_text m
  section_text line2 n = (_, refl)
  section_text psf_rows n = (
    gray_name ++ (rows m.width m.height s.gray ++ dots_text s),
    rw (rows_grid (side_of m) (side_of m) s.psf (omega arith) shaped.psf_length) (simp append_assoc),
  )
  section_text gray_rows n =
      let p = factor m.height m.width (rw shaped.gray_length at n) in
      (dots_text s, rw (rows_grid m.width m.height s.gray p shaped.gray_length) (simp append_assoc))
  section_text dots_rows n =
      let (t, l) = dots_there n in
      let p = factor m.height m.width (rw l at n) in
      ([], rw (rows_grid m.width m.height s.dots p l, t) (simp (append_assoc, append-nil)))

  -- and each after those before it
  pub number_in_text : (k : Section) (i : ℕ) → i < length (numbers_in k s)
      → (more : List ℕ) × (sheet_text s ≡ text_before k s i ++ (digits (number_at k s i) ++ more))
  number_in_text k i h =
      let (t, e) = section_text k (omega arith) in
      let (u, f) = grid_at_lem (per_row k s) 0 i (numbers_in k s) h in
      (u ++ t, e ∙ rw f (simp append_assoc))

-- ---- outside their fields, among the values of the format
-- a grid
grid_outside : (w hi k n : ℕ) (vs : List ℕ) → length vs ≡ n → (i : ℕ) → i < length vs → hi < get_or vs i 0
    → OutsideAt (grid w hi k n) vs (grid_text w k (take i vs)) (get_or vs i 0)
grid_outside w hi k n [] l i h o = absurd (omega arith)
grid_outside w hi k zero (v ∷ vs) l i h o = absurd (omega arith)
grid_outside w hi k (suc n) (v ∷ vs) l zero h o = inl (refl, refl, inr o)
grid_outside w hi k (suc n) (v ∷ vs) l (suc i) h o =
    inr (_, refl, grid_outside w hi (k + 1) n vs (omega arith) i (omega arith) o)

outside_grid : (w hi k n : ℕ) (vs t : List ℕ) (v : ℕ) → OutsideAt (grid w hi k n) vs t v
    → (i : ℕ) × (i < length vs) × (t ≡ grid_text w k (take i vs)) × (v ≡ get_or vs i 0) × (hi < v)
outside_grid w hi k zero vs t v o = absurd o
outside_grid w hi k (suc n) [] t v o = absurd o
outside_grid w hi k (suc n) (u ∷ us) t v (inl (e, f, inl o)) = absurd (omega arith)
outside_grid w hi k (suc n) (u ∷ us) t v (inl (e, f, inr o)) = (0, omega arith, e, f, o)
outside_grid w hi k (suc n) (u ∷ us) t v (inr (t', e, o)) =
    let (i, h, f, g, q) = outside_grid w hi (k + 1) n us t' v o in
    (suc i, omega arith, e ∙ ap (λ x. digits u ++ (end_of w k ∷ x)) f, g, q)

-- a value of a sheet, by its section
abbrev pub ValueOutside : Sheet → (t : List ℕ) (v : ℕ) → Type 0
ValueOutside s t v =
    (k : Section)
    × (i : ℕ)
    × (i < length (numbers_in k s))
    × (t ≡ text_before k s i)
    × (v ≡ number_at k s i)
    × Beyond (least k i) (most k i) v

head_text_lem : (m : Measures) → text_of head (values_of m) ≡ head_text m
unfolding head_from
head_text_lem m = refl

-- in line 2
line_outside : (s : Sheet) (i : ℕ) → let v = get_or (values_of s.measures) i 0 in
    i < 5 → Beyond (least line2 i) (most line2 i) v → OutsideAt head (values_of s.measures) (text_before line2 s i) v
unfolding head_from
line_outside s zero h o = (_, refl, inl (refl, refl, o))
line_outside s (suc zero) h o = (_, refl, inr (_, refl, inl (refl, refl, o)))
line_outside s (suc (suc zero)) h o = (_, refl, inr (_, refl, inr (_, refl, inl (refl, refl, o))))
line_outside s (suc (suc (suc zero))) h o =
    (_, refl, inr (_, refl, inr (_, refl, inr (_, refl, inl (refl, refl, o)))))
line_outside s (suc (suc (suc (suc zero)))) h o =
    (_, refl, inr (_, refl, inr (_, refl, inr (_, refl, inr (_, refl, inl (refl, refl, o))))))
line_outside s (suc (suc (suc (suc (suc i))))) h o = absurd (omega arith)

outside_line : (s : Sheet) (t : List ℕ) (v : ℕ) → OutsideAt head (values_of s.measures) t v → ValueOutside s t v
unfolding head_from
outside_line s t v (a, e, inl (p, q, o)) = (line2, 0, omega arith, cc, q, o)
outside_line s t v (a, e, inr (b, f, inl (p, q, o))) = (line2, 1, omega arith, cc, q, o)
outside_line s t v (a, e, inr (b, f, inr (c, g, inl (p, q, o)))) = (line2, 2, omega arith, cc, q, o)
outside_line s t v (a, e, inr (b, f, inr (c, g, inr (d, h, inl (p, q, o))))) = (line2, 3, omega arith, cc, q, o)
outside_line s t v (a, e, inr (b, f, inr (c, g, inr (d, h, inr (x, j, inl (p, q, o)))))) =
    (line2, 4, omega arith, cc, q, o)
outside_line s t v (a, e, inr (b, f, inr (c, g, inr (d, h, inr (x, j, inr (y, k, o)))))) = absurd o

-- a field that begins at 0
above_0 : {hi v : ℕ} → Beyond 0 hi v → hi < v
above_0 (inl o) = absurd (omega arith)
above_0 (inr o) = o

-- after line 2
module _ (s : Sheet) (shaped : Shaped s) where
  abbrev measures : Measures
  measures = s.measures

  psf_text : List ℕ
  psf_text = psf_name ++ rows (side_of measures) (side_of measures) s.psf

  gray_text : List ℕ
  gray_text = gray_name ++ rows measures.width measures.height s.gray

  -- the text between line 2 and a number
  abbrev psf_between : ℕ → List ℕ
  psf_between i = psf_name ++ grid_text (side_of measures) 0 (take i s.psf)

  abbrev gray_between : ℕ → List ℕ
  gray_between i = psf_text ++ (gray_name ++ grid_text measures.width 0 (take i s.gray))

  abbrev dots_between : ℕ → List ℕ
  dots_between i = psf_text ++ (gray_text ++ (dots_name ++ grid_text measures.width 0 (take i s.dots)))

  psf_before : (i : ℕ) → text_before psf_rows s i ≡ head_text measures ++ psf_between i
  psf_before i = simp append_assoc

  gray_before : (i : ℕ) → text_before gray_rows s i ≡ head_text measures ++ gray_between i
  unfolding psf_text
  gray_before i = simp append_assoc

  dots_before : (i : ℕ) → text_before dots_rows s i ≡ head_text measures ++ dots_between i
  unfolding psf_text gray_text
  dots_before i = simp append_assoc

  psf_text_lem : text_of (psf_block measures) s.psf ≡ psf_text
  unfolding psf_text
  psf_text_lem =
      ap (λ l. psf_name ++ l)
      (grid_text_lem (side_of measures) (side_of measures) 255 s.psf (omega arith) shaped.psf_length)

  -- where there are dots
  gray_text_lem : 0 < length s.dots → text_of (gray_block measures) s.gray ≡ gray_text
  unfolding gray_text
  gray_text_lem n =
      let (_, l) = dots_there s shaped n in
      let wide = factor measures.height measures.width (rw l at n) in
      ap (λ l. gray_name ++ l)
      (grid_text_lem measures.width measures.height 255 s.gray wide shaped.gray_length)

  psf_numbers : length s.psf ≡ numbers (psf_block measures)
  psf_numbers = shaped.psf_length ∙ sym (numbers_grid (side_of measures) 255 0 (entries_of measures))

  gray_numbers : length s.gray ≡ numbers (gray_block measures)
  gray_numbers = shaped.gray_length ∙ sym (numbers_grid measures.width 255 0 (cells_of measures))

  -- a number outside its field is such a value
  psf_outside : (i : ℕ) → i < length s.psf → 255 < get_or s.psf i 0
      → OutsideAt (body measures) (values_in s) (psf_between i) (get_or s.psf i 0)
  unfolding body
  psf_outside i h o =
      outside_left (psf_block measures) (gray_block measures ++ dots_block measures) s.psf (s.gray ++ s.dots) _ _
      (_, refl, grid_outside (side_of measures) 255 0 (entries_of measures) s.psf shaped.psf_length i h o)

  gray_outside : (i : ℕ) → i < length s.gray → 255 < get_or s.gray i 0
      → OutsideAt (body measures) (values_in s) (gray_between i) (get_or s.gray i 0)
  unfolding body
  gray_outside i h o =
      rw (← psf_text_lem)
      (outside_right (psf_block measures) (gray_block measures ++ dots_block measures) s.psf (s.gray ++ s.dots) _ _
      psf_numbers
      (outside_left (gray_block measures) (dots_block measures) s.gray s.dots _ _
      (_, refl, grid_outside measures.width 255 0 (cells_of measures) s.gray shaped.gray_length i h o)))

  dots_outside : (i : ℕ) → i < length s.dots → 1 < get_or s.dots i 0
      → OutsideAt (body measures) (values_in s) (dots_between i) (get_or s.dots i 0)
  unfolding body
  dots_outside i h o =
      let (t, l) = dots_there s shaped (omega arith) in
      let here : OutsideAt (dots_block measures) s.dots
      (dots_name ++ grid_text measures.width 0 (take i s.dots)) (get_or s.dots i 0) =
      rw t (_, refl, grid_outside measures.width 1 0 (cells_of measures) s.dots l i h o) in
      rw (← psf_text_lem, ← gray_text_lem (omega arith))
      (outside_right (psf_block measures) (gray_block measures ++ dots_block measures) s.psf (s.gray ++ s.dots) _ _
      psf_numbers
      (outside_right (gray_block measures) (dots_block measures) s.gray s.dots _ _ gray_numbers here))

  below : {t : List ℕ} (u : List ℕ) (v : ℕ) → t ≡ head_text measures ++ u → OutsideAt (body measures) (values_in s) u v
      → OutsideAt (head ++ body measures) (values_of measures ++ values_in s) t v
  below u v e o =
      subst (λ t. OutsideAt (head ++ body measures) (values_of measures ++ values_in s) t v)
      (ap (λ l. l ++ u) (head_text_lem measures) ∙ sym e)
      (outside_right head (body measures) (values_of measures) (values_in s) u v (sym (numbers_head 0)) o)

  pub number_outside : (k : Section) (i : ℕ) → let v = number_at k s i in
      i < length (numbers_in k s) → Beyond (least k i) (most k i) v
      → OutsideAt (parts_of sheet_grammar s.measures) (values_of s.measures ++ values_in s) (text_before k s i) v
  number_outside line2 i h o =
      outside_left head (body measures) (values_of measures) (values_in s) _ _ (line_outside s i h o)
  number_outside psf_rows i h o = below (psf_between i) _ (psf_before i) (psf_outside i h (above_0 o))
  number_outside gray_rows i h o = below (gray_between i) _ (gray_before i) (gray_outside i h (above_0 o))
  number_outside dots_rows i h o = below (dots_between i) _ (dots_before i) (dots_outside i h (above_0 o))

  -- and such a value is a number outside its field
  outside_body : (t : List ℕ) (v : ℕ) → OutsideAt (body measures) (values_in s) t v
      → ValueOutside s (head_text measures ++ t) v
  unfolding body
  outside_body t v o =
      first (outside_cases (psf_block measures) (gray_block measures ++ dots_block measures) s.psf
      (s.gray ++ s.dots) t v psf_numbers o)
    where
      Found : Type 0
      Found = ValueOutside s (head_text measures ++ t) v

      under : {u : List ℕ} → t ≡ u → head_text measures ++ t ≡ head_text measures ++ u
      under e = ap (λ l. head_text measures ++ l) e

      third : (u : List ℕ) → t ≡ psf_text ++ (text_of (gray_block measures) s.gray ++ u)
          → OutsideAt (dots_block measures) s.dots u v → Found
      third u e = go (eqb measures.start 2)
        where
          go : (b : Bool)
              → OutsideAt (pick b (block dots_name measures.width (cells_of measures) 1) []) s.dots u v → Found
          go true (x, f, q) =
              let (i, h, j, y, z) = outside_grid measures.width 1 0 (cells_of measures) s.dots x v q in
              let r : u ≡ dots_name ++ grid_text measures.width 0 (take i s.dots) = f ∙ ap (λ l. dots_name ++ l) j in
              let w = e ∙ ap₂ (λ k l. psf_text ++ (k ++ l)) (gray_text_lem (omega arith)) r in
              (dots_rows, i, h, under w ∙ sym (dots_before i), y, inr z)
          go false q = absurd q

      second : (u : List ℕ) → t ≡ psf_text ++ u
          → OutsideAt (gray_block measures) s.gray u v
          ⊎ ((x : List ℕ)
          × (u ≡ text_of (gray_block measures) s.gray ++ x)
          × OutsideAt (dots_block measures) s.dots x v)
          → Found
      second u e (inl (x, f, q)) =
          let (i, h, j, y, z) = outside_grid measures.width 255 0 (cells_of measures) s.gray x v q in
          let w = e ∙ ap (λ l. psf_text ++ l) (f ∙ ap (λ l. gray_name ++ l) j) in
          (gray_rows, i, h, under w ∙ sym (gray_before i), y, inr z)
      second u e (inr (x, f, q)) = third x (e ∙ ap (λ l. psf_text ++ l) f) q

      first : OutsideAt (psf_block measures) s.psf t v
          ⊎ ((x : List ℕ)
          × (t ≡ text_of (psf_block measures) s.psf ++ x)
          × OutsideAt (gray_block measures ++ dots_block measures) (s.gray ++ s.dots) x v)
          → Found
      first (inl (x, f, q)) =
          let (i, h, j, y, z) = outside_grid (side_of measures) 255 0 (entries_of measures) s.psf x v q in
          (psf_rows, i, h, under (f ∙ ap (λ l. psf_name ++ l) j) ∙ sym (psf_before i), y, inr z)
      first (inr (x, f, q)) =
          second x (f ∙ ap (λ l. l ++ x) psf_text_lem)
          (outside_cases (gray_block measures) (dots_block measures) s.gray s.dots x v gray_numbers q)

  pub outside_number : (t : List ℕ) (v : ℕ)
      → OutsideAt (parts_of sheet_grammar s.measures) (values_of s.measures ++ values_in s) t v → ValueOutside s t v
  outside_number t v o =
      ⊎_elim (outside_line s t v)
      (λ r.
      let (u, e, q) = r in
      subst (λ t. ValueOutside s t v) (ap (λ l. l ++ u) (sym (head_text_lem measures)) ∙ sym e) (outside_body u v q))
      (outside_cases head (body measures) (values_of measures) (values_in s) t v (sym (numbers_head 0)) o)
