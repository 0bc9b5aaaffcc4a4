-- Document 01's refusals because of the input: each is a number with its condition, and a call is refused with the
-- number of the first in its list whose condition holds.
use Rattle.std.specs.Prelude.{Bool, true, false, ◌||◌, ◌&&◌, not, List, [], ◌∷◌, ◌++◌, ◌≡◌, ℕ, ◌+◌, ◌*◌, ◌-◌, ◌≤◌, ltb, eqb, length}
use Rattle.model.specs.declared.Measures.{Measures}
use Rattle.model.specs.Basic.{AtMost}
use Rattle.model.specs.Psf.{total}
use Rattle.model.specs.Error.{Target, target_for, cells, black}
use Rattle.model.specs.Lock.{contradiction}

infix 70 ◌when◌
pub data Refusal : Type 0 where
  ◌when◌ : ℕ → Bool → Refusal

-- the number of the first whose condition holds, 0 where none does
abbrev pub first_of : List Refusal → ℕ
first_of [] = 0
first_of (n when true ∷ l) = n
first_of (n when false ∷ l) = first_of l

-- ---- the conditions
-- outside 1 to 256
abbrev pub outside : ℕ → Bool
outside n = eqb n 0 || ltb 256 n

-- one of the lengths is not n
abbrev pub differs : ℕ → List ℕ → Bool
differs n [] = false
differs n (l ∷ ls) = not (eqb l n) || differs n ls

-- one of the bytes is above k
unfoldable pub above : ℕ → List ℕ → Bool
above k [] = false
above k (x ∷ l) = ltb k x || above k l

-- a row and a column off the plate
abbrev pub off : (width height row col : ℕ) → Bool
off width height row col = not (ltb row height) || not (ltb col width)

-- how far apart two rows or two columns are
abbrev pub gap : ℕ → ℕ → ℕ
gap a b = (a - b) + (b - a)

-- ---- the list, by number
-- 1 width or height outside 1 to 256
abbrev pub bad_size : ℕ → ℕ → Refusal
bad_size width height = 1 when (outside width || outside height)

-- 2 radius above 3
abbrev pub bad_radius : ℕ → Refusal
bad_radius radius = 2 when ltb 3 radius

-- 3 reach above 6
abbrev pub bad_reach : ℕ → Refusal
bad_reach reach = 3 when ltb 6 reach

-- 4 start kind above 2
abbrev pub bad_kind : ℕ → Refusal
bad_kind kind = 4 when ltb 2 kind

-- 5 a lent slice of another length than its measure: the psf is (2r + 1)² long, the others as long as the cells
abbrev pub bad_length : ℕ → List ℕ → ℕ → List ℕ → Refusal
bad_length radius psf cells lengths =
    5 when (not (eqb (length psf) ((2 * radius + 1) * (2 * radius + 1))) || differs cells lengths)

-- 6 psf sum 0 or above 1,024
abbrev pub bad_sum : List ℕ → Refusal
bad_sum psf = 6 when (eqb (total psf) 0 || ltb 1024 (total psf))

-- 7 a dot byte above 1
abbrev pub bad_dot : List ℕ → Refusal
bad_dot dots = 7 when above 1 dots

-- 7 at a start: of kind 2 only, which takes the dots given
abbrev pub bad_given : ℕ → List ℕ → Refusal
bad_given kind dots = 7 when (eqb kind 2 && above 1 dots)

-- 16 given dots that contradict a locked cell (02), straight after 7
abbrev pub bad_locks : Target → List ℕ → Refusal
bad_locks t dots = 16 when contradiction t dots

-- 16 at a start: of kind 2 only, as 7
abbrev pub bad_given_locks : ℕ → Target → List ℕ → Refusal
bad_given_locks kind t dots = 16 when (eqb kind 2 && contradiction t dots)

-- 8 a named cell off the plate
abbrev pub bad_cell : (width height row col : ℕ) → Refusal
bad_cell width height row col = 8 when off width height row col

-- 8 of a swap, which names two cells
abbrev pub bad_cells : (width height row col row' col' : ℕ) → Refusal
bad_cells width height row col row' col' = 8 when (off width height row col || off width height row' col')

-- 9 swap of a cell with itself or with a row or column offset beyond the reach
abbrev pub bad_pair : (reach row col row' col' : ℕ) → Refusal
bad_pair reach row col row' col' =
    9 when ((eqb row row' && eqb col col') || (ltb reach (gap row row') || ltb reach (gap col col')))

-- ---- the calls, each by the parts that it is handed: its list
-- the autocorrelation, handed an output of that length
abbrev pub autocorrelation_refusals : (radius : ℕ) (psf : List ℕ) (out : ℕ) → List Refusal
autocorrelation_refusals radius psf out =
    bad_radius radius ∷ bad_length radius psf ((4 * radius + 1) * (4 * radius + 1)) (out ∷ []) ∷ bad_sum psf ∷ []

-- the squared error and, with the length of the table lent, the filtered error
abbrev pub halftone_refusals : (width height radius : ℕ) (psf gray dots others : List ℕ) → List Refusal
halftone_refusals width height radius psf gray dots others =
    bad_size width height
    ∷ bad_radius radius
    ∷ bad_length radius psf (height * width) (length gray ∷ length dots ∷ others)
    ∷ bad_sum psf
    ∷ bad_dot dots
    ∷ []

-- 1 to 4, of the calls that are handed all five measures
abbrev pub bad_measures : Measures → List Refusal
bad_measures m = bad_size m.width m.height ∷ bad_radius m.radius ∷ bad_reach m.reach ∷ bad_kind m.start ∷ []

-- 1 to 6, with the lengths of gray, dots and table
abbrev pub handed : Measures → List ℕ → List ℕ → List Refusal
handed m psf lengths =
    bad_measures m ++ (bad_length m.radius psf (m.height * m.width) lengths ∷ bad_sum psf ∷ [])

-- a start, handed a table of that length
abbrev pub start_refusals : Measures → (psf gray dots : List ℕ) (table : ℕ) → List Refusal
start_refusals m psf gray dots table =
    handed m psf (length gray ∷ length dots ∷ table ∷ [])
    ++ (bad_given m.start dots ∷ bad_given_locks m.start (target_for m psf gray) dots ∷ [])

-- the later calls because of their input, handed a table of that length: 1 to 7 and 16
abbrev pub input_refusals : Measures → (psf gray dots : List ℕ) (table : ℕ) → List Refusal
input_refusals m psf gray dots table =
    handed m psf (length gray ∷ length dots ∷ table ∷ [])
    ++ (bad_dot dots ∷ bad_locks (target_for m psf gray) dots ∷ [])

-- the writer of a sheet: 1 to 5 and 7
abbrev pub write_refusals : Measures → (psf gray dots : List ℕ) → List Refusal
write_refusals m psf gray dots =
    bad_measures m
    ++ (bad_length m.radius psf (m.height * m.width) (length gray ∷ length dots ∷ []) ∷ bad_dot dots ∷ [])

-- and the number that it draws
unfoldable pub autocorrelation_refusal : (radius : ℕ) (psf : List ℕ) (out : ℕ) → ℕ
autocorrelation_refusal radius psf out = first_of (autocorrelation_refusals radius psf out)

unfoldable pub halftone_refusal : (width height radius : ℕ) (psf gray dots others : List ℕ) → ℕ
halftone_refusal width height radius psf gray dots others =
    first_of (halftone_refusals width height radius psf gray dots others)

unfoldable pub start_refusal : Measures → (psf gray dots : List ℕ) (table : ℕ) → ℕ
start_refusal m psf gray dots table = first_of (start_refusals m psf gray dots table)

unfoldable pub write_refusal : Measures → (psf gray dots : List ℕ) → ℕ
write_refusal m psf gray dots = first_of (write_refusals m psf gray dots)

-- ---- what a call was handed that nothing refused
pub record PsfFits (r : ℕ) (psf : List ℕ) : Type 0 where
  pub near : r ≤ 3
  pub square : length psf ≡ (2 * r + 1) * (2 * r + 1)
  pub sum_low : 1 ≤ total psf
  pub sum_high : total psf ≤ 1024

-- a halftone (01: plate) for its target, and a table of that length
pub record HalftoneFits (t : Target) (dots : List ℕ) (table : ℕ) : Type 0 where
  pub wide : (1 ≤ t.width) × (t.width ≤ 256)
  pub high : (1 ≤ t.height) × (t.height ≤ 256)
  pub psf_fits : PsfFits t.radius t.psf
  pub gray_length : length t.gray ≡ cells t
  pub dots_length : length dots ≡ cells t
  pub table_length : table ≡ cells t
  pub bits : AtMost t.top dots
  -- the highest dot byte is worth black
  pub top_black : t.step * t.top ≡ black

-- the same of the calls that are handed all five measures, locks apart
pub record PlateFits (m : Measures) (psf gray dots : List ℕ) (table : ℕ) : Type 0 where
  pub reach_near : m.reach ≤ 6
  pub kind_known : m.start ≤ 2
  pub halftone : HalftoneFits (target_for m psf gray) dots table
