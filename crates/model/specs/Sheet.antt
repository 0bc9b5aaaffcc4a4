-- The sheet of document 01: the one text of a plate, and which plates a sheet can hold.
use Rattle.std.specs.Prelude.{Bool, ◌&&◌, List, [], ◌∷◌, ◌++◌, ◌⊎◌, ◌≡◌, ℕ, zero, suc, ◌+◌, ◌*◌, ◌%◌, ◌≤◌, ◌<◌, leb, eqb, length, take, drop}
use Rattle.model.specs.declared.Measures.{Measures}
use Rattle.model.specs.Basic.{pick, AtMost}
use Rattle.model.specs.Text.{bytes, space, line_end, digits}

-- what a sheet holds; with start 0 or 1 there are no dots
pub record Sheet : Type 0 where
  pub measures : Measures
  pub psf : List ℕ
  pub gray : List ℕ
  pub dots : List ℕ

-- by its parts
abbrev pub sheet_with : Measures → (psf gray dots : List ℕ) → Sheet
sheet_with m psf gray dots = record { measures = m; psf = psf; gray = gray; dots = dots }

-- how long a row of the psf is, how many entries it has, and how many cells there are
abbrev pub side_of : Measures → ℕ
side_of m = 2 * m.radius + 1

abbrev pub entries_of : Measures → ℕ
entries_of m = side_of m * side_of m

abbrev pub cells_of : Measures → ℕ
cells_of m = m.height * m.width

-- the dots stand in a sheet with start 2 only
abbrev pub dots_in : Measures → ℕ
dots_in m = pick (eqb m.start 2) (cells_of m) 0

-- the buffers (01: lent slices) are long enough, the one for the dots with start 2 only
abbrev pub room_for : Measures → (psf gray dots : ℕ) → Bool
room_for m psf gray dots = leb (entries_of m) psf && (leb (cells_of m) gray && leb (dots_in m) dots)

-- ---- the text
-- values separated by one space, and the end of the line
abbrev pub row : List ℕ → List ℕ
row [] = line_end ∷ []
row (v ∷ []) = digits v ++ (line_end ∷ [])
row (v ∷ u ∷ vs) = digits v ++ (space ∷ row (u ∷ vs))

-- h rows of w values
abbrev pub rows : (w h : ℕ) → List ℕ → List ℕ
rows w zero vs = []
rows w (suc h) vs = row (take w vs) ++ rows w h (drop w vs)

-- the same by single values: what ends value i of rows of w values, the text of the values from value i on, and how
-- long it is
abbrev pub end_of : (w i : ℕ) → ℕ
end_of w i = pick (eqb ((i + 1) % w) 0) line_end space

abbrev pub grid_text : (w i : ℕ) → List ℕ → List ℕ
grid_text w i [] = []
grid_text w i (v ∷ vs) = digits v ++ (end_of w i ∷ grid_text w (i + 1) vs)

abbrev pub grid_length : List ℕ → ℕ
grid_length [] = 0
grid_length (v ∷ vs) = length (digits v) + 1 + grid_length vs

-- the names of line 1, and those above the rows
unfoldable pub names : List ℕ
names = bytes "width height radius reach start\n"

unfoldable pub psf_name : List ℕ
psf_name = bytes "psf\n"

unfoldable pub gray_name : List ℕ
gray_name = bytes "gray\n"

unfoldable pub dots_name : List ℕ
dots_name = bytes "dots\n"

-- the values of line 2
abbrev pub values_of : Measures → List ℕ
values_of m = m.width ∷ m.height ∷ m.radius ∷ m.reach ∷ m.start ∷ []

-- lines 1 and 2
abbrev pub head_text : Measures → List ℕ
head_text m = names ++ row (values_of m)

abbrev pub dots_text : Sheet → List ℕ
dots_text s =
    let m = s.measures in
    pick (eqb m.start 2) (dots_name ++ rows m.width m.height s.dots) []

-- the one text of a sheet
unfoldable pub sheet_text : Sheet → List ℕ
sheet_text s =
    let m = s.measures in
    names ++ (row (values_of m) ++
    (psf_name ++ (rows (side_of m) (side_of m) s.psf ++
    (gray_name ++ (rows m.width m.height s.gray ++ dots_text s)))))

-- ---- which sheets there are
-- as many numbers as the measures ask for, each of any size
pub record Shaped (s : Sheet) : Type 0 where
  pub psf_length : length s.psf ≡ entries_of s.measures
  pub gray_length : length s.gray ≡ cells_of s.measures
  pub dots_length : length s.dots ≡ dots_in s.measures

-- the measures in their fields
pub record InRange (m : Measures) : Type 0 where
  pub wide : (1 ≤ m.width) × (m.width ≤ 256)
  pub high : (1 ≤ m.height) × (m.height ≤ 256)
  pub near : m.radius ≤ 3
  pub reached : m.reach ≤ 6
  pub kind : m.start ≤ 2

-- every number in its field
pub record Valid (s : Sheet) : Type 0 where
  pub in_range : InRange s.measures
  pub shaped : Shaped s
  pub psf_most : AtMost 255 s.psf
  pub gray_most : AtMost 255 s.gray
  pub dots_most : AtMost 1 s.dots

-- ---- the bytes that can begin a sheet, its numbers taken as if of any size
pub record Begins (b : List ℕ) : Type 0 where
  pub sheet : Sheet
  pub shaped : Shaped sheet
  pub rest : List ℕ
  pub text : sheet_text sheet ≡ b ++ rest

-- the place of the first byte that no sheet could have there, or of the end where it comes too early
pub record Stops (b : List ℕ) (at : ℕ) : Type 0 where
  pub before : Begins (take at b)
  pub here : ((at < length b) × (Begins (take (at + 1) b) → ⊥))
      ⊎ ((at ≡ length b) × ((s : Sheet) → Shaped s → b ≡ sheet_text s → ⊥))
