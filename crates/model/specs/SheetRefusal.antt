-- What a text of a sheet is refused for (document 01: 10, 11 and 12, the leftmost place deciding), without a reader.
use Rattle.std.specs.Prelude.{false, List, [], ◌∷◌, ◌++◌, ◌⊎◌, ◌≡◌, ℕ, ◌≤◌, ◌<◌, length, get_or, take}
use Rattle.model.specs.declared.Measures.{Measures}
use Rattle.model.specs.Text.{digits, NoDigit}
use Rattle.model.specs.Sheet.{Sheet, side_of, room_for, rows, grid_text, names, psf_name, gray_name, dots_name}
use Rattle.model.specs.Sheet.{values_of, head_text, Shaped, Stops}

-- ---- the numbers of a sheet
-- where they stand: in line 2, and in the rows of the psf, the gray and the dots
pub data Section : Type 0 where
  line2 psf_rows gray_rows dots_rows : Section

abbrev pub numbers_in : Section → Sheet → List ℕ
numbers_in line2 s = values_of s.measures
numbers_in psf_rows s = s.psf
numbers_in gray_rows s = s.gray
numbers_in dots_rows s = s.dots

abbrev pub number_at : Section → Sheet → ℕ → ℕ
number_at k s i = get_or (numbers_in k s) i 0

-- how many stand in a row
abbrev pub per_row : Section → Sheet → ℕ
per_row line2 s = 5
per_row psf_rows s = side_of s.measures
per_row gray_rows s = s.measures.width
per_row dots_rows s = s.measures.width

-- the field of number i: the measures as 1 to 4 say, the dots 0 or 1, the others 0 to 255
abbrev pub least : Section → ℕ → ℕ
least line2 i = get_or (1 ∷ 1 ∷ 0 ∷ 0 ∷ 0 ∷ []) i 0
least psf_rows i = 0
least gray_rows i = 0
least dots_rows i = 0

abbrev pub most : Section → ℕ → ℕ
most line2 i = get_or (256 ∷ 256 ∷ 3 ∷ 6 ∷ 2 ∷ []) i 0
most psf_rows i = 255
most gray_rows i = 255
most dots_rows i = 1

-- ---- the text before a number
-- all lines above a section
abbrev pub above_psf : Sheet → List ℕ
above_psf s = head_text s.measures ++ psf_name

abbrev pub above_gray : Sheet → List ℕ
above_gray s = above_psf s ++ (rows (side_of s.measures) (side_of s.measures) s.psf ++ gray_name)

abbrev pub above_dots : Sheet → List ℕ
above_dots s = above_gray s ++ (rows s.measures.width s.measures.height s.gray ++ dots_name)

abbrev pub lines_above : Section → Sheet → List ℕ
lines_above line2 s = names
lines_above psf_rows s = above_psf s
lines_above gray_rows s = above_gray s
lines_above dots_rows s = above_dots s

-- and the numbers of the section before number i, each with the byte that ends it
abbrev pub text_before : Section → Sheet → ℕ → List ℕ
text_before k s i = lines_above k s ++ grid_text (per_row k s) 0 (take i (numbers_in k s))

-- ---- what draws 11 and 12; what draws 10 is `Stops`
-- 11: a number of a sheet stands after the text before it, of any size and as a whole run of digits, and is outside its
-- field
pub record Outside (b : List ℕ) (at : ℕ) : Type 0 where
  pub sheet : Sheet
  pub shaped : Shaped sheet
  pub section : Section
  pub index : ℕ
  pub rest : List ℕ
  pub number : index < length (numbers_in section sheet)
  pub text : b ≡ text_before section sheet index ++ (digits (number_at section sheet index) ++ rest)
  pub run : NoDigit rest
  pub outside : let v = number_at section sheet index in (v < least section index) ⊎ (most section index < v)
  pub place : at ≡ length (text_before section sheet index)

-- 12: after lines 1 and 2 with some measures, for which the buffers are too short
pub record Short (b : List ℕ) (psf gray dots at : ℕ) : Type 0 where
  pub measures : Measures
  pub rest : List ℕ
  pub text : b ≡ head_text measures ++ rest
  pub lacks : room_for measures psf gray dots ≡ false
  pub place : at ≡ length (head_text measures)

-- ---- the refusal of a text, with buffers of these lengths
-- a refusal is drawn at a place
abbrev pub Draws : (b : List ℕ) (psf gray dots refusal at : ℕ) → Type 0
Draws b psf gray dots n at =
    ((n ≡ 10) × Stops b at) ⊎ ((n ≡ 11) × Outside b at) ⊎ ((n ≡ 12) × Short b psf gray dots at)

-- the one that decides: nothing is drawn to the left of it, and 12 comes first at an equal place
pub record Leftmost (draws : (refusal at : ℕ) → Type 0) (refusal at : ℕ) : Type 0 where
  pub drawn : draws refusal at
  pub leftmost : (n o : ℕ) → draws n o → at ≤ o
  pub twelve_first : draws 12 at → refusal ≡ 12
