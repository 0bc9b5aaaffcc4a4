-- The parts of a sheet with start 2 as they are put, and how long they are.
--   row_next                       a row from a value on: its field and the row after it
--   grid_next                      a grid from a value on: its field and the values after it
--   grid_sum, grid_most            how long a grid is: a sum, at most 4 for each byte
--   head_length_lem, block_length      how long lines 1 and 2 are, and a name with its rows
--   sheet_parts, sheet_length_lem      the whole sheet, and how long it is
use mathlib.Core.List.{List, [], ◌∷◌, ◌++◌, append_assoc}
use mathlib.Core.Path.{◌≡◌, ◌∙◌, ap, refl, sym}
use Prim.Native.Nat.{ℕ, ◌+◌, ◌*◌, ◌≤◌, ◌<◌}
use native.Mathlib.Nat.{lt_trans}
use native.Mathlib.Omega.{arith}
use lib.Dec.{lit<}
use lib.ListN.{length, drop, get_or, length-append}
use Rattle.std.proofs.lemmas.List.{drop_more, at_drop_more}
use Rattle.std.proofs.lemmas.List.Elements.{All-from_get_or}
use Rattle.std.proofs.lemmas.List.Sums.{sum_by-cons, sum_by-le}
use Rattle.std.specs.List.{sum_by}
use Rattle.model.specs.declared.Measures.{Measures}
use Rattle.model.specs.Text.{space, digits}
use Rattle.model.specs.Sheet.{side_of, names, psf_name, gray_name, dots_name, sheet_text, InRange, Shaped}
use Rattle.model.specs.Sheet.{row, head_text, end_of, grid_text, grid_length}
use Rattle.model.specs.SheetCalls.{with_given, written_sheet}
use Rattle.model.proofs.Puts.{Opens}
use Rattle.model.proofs.Rows.{grid_length_lem, rows_grid}
use Rattle.model.proofs.Text.{length_most}

-- ---- from a value on
-- a number and the byte that ends it
abbrev pub field : (v end : ℕ) → List ℕ
field v end = digits v ++ (end ∷ [])

field_then : (v end : ℕ) (rest : List ℕ) → digits v ++ (end ∷ rest) ≡ field v end ++ rest
field_then v end rest = sym (append_assoc (digits v) (end ∷ []) rest)

module _ (vs : List ℕ) (i : ℕ) where
  pub row_next : i + 1 < length vs → Opens (row (drop i vs)) (field (get_or vs i 0) space) (row (drop (i + 1) vs))
  row_next h =
      let more = row (get_or vs (i + 1) 0 ∷ drop (i + 1 + 1) vs) in
      record {
        is = at_drop_more row vs i 0 (omega arith) ∙ rw (drop_more vs (i + 1) 0 h) (field_then (get_or vs i 0) space more);
      }

  pub grid_next : i < length vs → (w : ℕ)
      → Opens (grid_text w i (drop i vs)) (field (get_or vs i 0) (end_of w i)) (grid_text w (i + 1) (drop (i + 1) vs))
  grid_next h w = record {
    is =
        at_drop_more (grid_text w i) vs i 0 h
        ∙ field_then (get_or vs i 0) (end_of w i) (grid_text w (i + 1) (drop (i + 1) vs));
  }

-- ---- how long a grid is
abbrev pub length_of : ℕ → ℕ
length_of v = length (digits v) + 1

pub grid_sum : (vs : List ℕ) → grid_length vs ≡ sum_by length_of vs
grid_sum [] = refl
grid_sum (v ∷ vs) = rw sum_by-cons (ap (λ n. length_of v + n) (grid_sum vs))

pub grid_most : (vs : List ℕ) → ((i : ℕ) → get_or vs i 0 < 256) → sum_by length_of vs ≤ length vs * 4
grid_most vs h =
    sum_by-le length_of 4 vs
    (All-from_get_or (λ v. length_of v ≤ 4) vs 0
    (λ i _. let few = length_most 2 (get_or vs i 0) (lt_trans (h i) (lit< tt)) in omega arith))

-- ---- lines 1 and 2, with start 2
abbrev pub given_head : Measures → List ℕ
given_head m = head_text (with_given m)

pub head_length_lem : (m : Measures) → length (given_head m)
    ≡ 32
    + (length (digits m.width) + 1)
    + (length (digits m.height) + 1)
    + (length (digits m.radius) + 1)
    + (length (digits m.reach) + 1)
    + (length (digits 2) + 1)
unfolding names
head_length_lem m = simp length-append (omega arith)

-- ---- the whole sheet
-- a name and its rows
abbrev pub block : (name : List ℕ) (w : ℕ) (vs : List ℕ) → List ℕ
block name w vs = name ++ grid_text w 0 vs

pub block_length : (name : List ℕ) (w : ℕ) (vs : List ℕ) → length (block name w vs) ≡ length name + grid_length vs
block_length name w vs = length-append name (grid_text w 0 vs) ∙ rw grid_length_lem

module _ (m : Measures) (psf gray dots : List ℕ) (r : InRange m) (s : Shaped (written_sheet m psf gray dots)) where
  pub sheet_parts : sheet_text (written_sheet m psf gray dots)
      ≡ given_head m
      ++ (block psf_name (side_of m) psf ++ (block gray_name m.width gray ++ block dots_name m.width dots))
  unfolding sheet_text
  sheet_parts =
      rw (
        ← rows_grid (side_of m) (side_of m) psf (omega arith) s.psf_length,
        ← rows_grid m.width m.height gray r.wide.0 s.gray_length,
        ← rows_grid m.width m.height dots r.wide.0 s.dots_length,
      ) (simp append_assoc)

  -- how long its parts are
  pub parts_length : length (sheet_text (written_sheet m psf gray dots))
      ≡ length (given_head m)
      + length (block psf_name (side_of m) psf)
      + length (block gray_name m.width gray)
      + length (block dots_name m.width dots)
  parts_length =
      let psf_block_lem = block psf_name (side_of m) psf in
      let gray_block_lem = block gray_name m.width gray in
      let dots_block_lem = block dots_name m.width dots in
      let e1 = length-append (given_head m) (psf_block_lem ++ (gray_block_lem ++ dots_block_lem)) in
      let e2 = length-append psf_block_lem (gray_block_lem ++ dots_block_lem) in
      let e3 = length-append gray_block_lem dots_block_lem in
      omega (arith, ap length sheet_parts)

  pub sheet_length_lem : length (sheet_text (written_sheet m psf gray dots))
      ≡ length (given_head m) + (4 + grid_length psf) + (5 + grid_length gray) + (5 + grid_length dots)
  unfolding psf_name gray_name dots_name
  sheet_length_lem =
      omega (
        arith,
        parts_length,
        block_length psf_name (side_of m) psf,
        block_length gray_name m.width gray,
        block_length dots_name m.width dots,
      )
