-- Gray PFM (`Pf`) as the terrain tool writes it (02, C-16): its lines and its raster, what a sample is read as, its
-- brightness, and the gray of a file. No reader is spoken of here.
use Rattle.std.specs.Prelude.{Bool, true, false, ◌&&◌, List, ◌++◌, ◌⊎◌, ◌≡◌, ℕ, zero, suc, ◌+◌, ◌*◌, ◌-◌, ◌/◌, ◌%◌, ◌^◌, ◌≤◌, ◌<◌, eqb, pos, length, get_or, Float}
use Rattle.std.specs.Float.{nan, inf, fin, binary32}
use Rattle.std.specs.Float.Ieee.{of_bits, nan_bits, le, lt, up, down}
use Rattle.std.specs.Float.Ieee.Positive.{num, den}
use Rattle.model.specs.declared.Size.{Size}
use Rattle.model.specs.declared.PfmHeader.{PfmHeader}
use Rattle.model.specs.declared.Sample.{Sample}
use Rattle.model.specs.declared.Sample.TheVariants.{Shade, Outside, NotANumber}
use Rattle.model.specs.Basic.{pick, tabulate}
use Rattle.model.specs.Text.{bytes}
use Rattle.model.specs.Netpbm.{InSize, cells_in, size_line}

-- the floats that are named
abbrev pub zero_float : Float
zero_float = fin false 0 (pos 0)

abbrev pub one_float : Float
one_float = fin false 1 (pos 0)

abbrev pub minus_one : Float
minus_one = fin true 1 (pos 0)

-- ---- the lines
abbrev pub size_in : PfmHeader → Size
size_in h = record { width = h.width; height = h.height }

-- the sign of the scale names the byte order: big-endian, or little-endian below 0
abbrev pub is_little : Float → Bool
is_little scale = lt scale zero_float

-- the scale text, on a line of its own
abbrev pub scale_line : Float → List ℕ
scale_line scale = pick (is_little scale) (bytes "-1.0\n") (bytes "1.0\n")

-- the lines `Pf`, `W H` and the scale, numbers as in a sheet
abbrev pub pfm_head : PfmHeader → List ℕ
pfm_head h = bytes "Pf\n" ++ (size_line (size_in h) ++ scale_line h.scale)

-- a gray PFM: measures as in 1, the scale 1 or -1, these lines, four bytes for each cell, and nothing else
pub record IsPfm (h : PfmHeader) (file : List ℕ) : Type 0 where
  pub in_size : InSize (size_in h)
  pub scale_is : (h.scale ≡ one_float) ⊎ (h.scale ≡ minus_one)
  pub raster : List ℕ
  pub raster_length : length raster ≡ 4 * cells_in (size_in h)
  pub text : file ≡ pfm_head h ++ raster

-- ---- a sample
-- four bytes as a number, the highest first
abbrev pub word : (a b c d : ℕ) → ℕ
word a b c d = ((a * 256 + b) * 256 + c) * 256 + d

-- the four bytes from a place on, in the byte order of the file
unfoldable pub word_at : (little : Bool) → List ℕ → ℕ → ℕ
word_at little s at =
    let a = get_or s at 0 in
    let b = get_or s (at + 1) 0 in
    let c = get_or s (at + 2) 0 in
    let d = get_or s (at + 3) 0 in
    pick little (word d c b a) (word a b c d)

-- from 0 to 1, by the comparisons of floats, to which minus zero is 0
abbrev pub is_shade : Float → Bool
is_shade v = le zero_float v && le v one_float

-- what the 32 bits of a sample are read as: no number, a shade, or a value outside 0 to 1, an infinity too
unfoldable pub sample_of : ℕ → Sample
sample_of n =
    let v = of_bits binary32 n in
    pick (nan_bits binary32 n) NotANumber (pick (is_shade v) (Shade v) (Outside v))

-- the same by the value: a finite float is m × 2^e, or that below 0
abbrev pub From0To1 : Float → Type 0
From0To1 nan = ⊥
From0To1 (inf below) = ⊥
From0To1 (fin below m e) = (m * up e ≤ down e) × (below ≡ true → m ≡ 0)

-- the same by the bits: up to those of 1, or minus zero; and past those of an infinity, with either sign
abbrev pub ShadeBits : ℕ → Type 0
ShadeBits n = (n ≤ 0x3F800000) ⊎ (n ≡ 0x80000000)

abbrev pub NoNumberBits : ℕ → Type 0
NoNumberBits n = 0x7F800000 < n % 0x80000000

-- the size of a finite float by its bits, in units of 2^-149: the exponent's field, the fraction, and the leading digit
-- that stands in no field
abbrev pub exponent_of : ℕ → ℕ
exponent_of n = n % 0x80000000 / 2 ^ 23

abbrev pub fraction_of : ℕ → ℕ
fraction_of n = n % 2 ^ 23

unfoldable pub units_of : ℕ → ℕ
units_of n = pick (eqb (exponent_of n) 0) (fraction_of n) ((2 ^ 23 + fraction_of n) * 2 ^ (exponent_of n - 1))

-- ---- brightness
-- 02's condition on k: 2k - 1 ≤ 510 × v < 2k + 1, over the exact value of a shade, which is num v / den v (of a float
-- below 0 that is its size). `-` stops at 0: where k is 0 the first part asks nothing
pub record Nearest (v : Float) (k : ℕ) : Type 0 where
  pub not_below : (2 * k - 1) * den v ≤ 510 * num v
  pub not_above_lem : 510 * num v < (2 * k + 1) * den v

-- the k that meets it (`brightness_is_nearest`, `nothing_else_is_nearest`)
unfoldable pub brightness : Float → ℕ
brightness v = (510 * num v / den v + 1) / 2

-- the gray of a sample; only a shade has one
abbrev pub gray_of : Sample → ℕ
gray_of (Shade v) = 255 - brightness v
gray_of (Outside v) = 0
gray_of NotANumber = 0

-- ---- the raster
-- sample i, in file order
abbrev pub sample_at : (little : Bool) → List ℕ → ℕ → Sample
sample_at little raster i = sample_of (word_at little raster (4 * i))

abbrev pub is_no_shade : Sample → Bool
is_no_shade (Shade v) = false
is_no_shade (Outside v) = true
is_no_shade NotANumber = true

-- the first of n samples from sample i on that is no shade; i + n where there is none
unfoldable pub first_no_shade : (little : Bool) → List ℕ → (i n : ℕ) → ℕ
first_no_shade little raster i zero = i
first_no_shade little raster i (suc n) =
    let rest = first_no_shade little raster (i + 1) n in
    pick (is_no_shade (sample_at little raster i)) i rest

-- bottom row first: which sample is that of a row and a column
abbrev pub file_order : Size → (row col : ℕ) → ℕ
file_order z row col = (z.height - 1 - row) * z.width + col

-- the gray of a raster, row by row from the top
unfoldable pub raster_gray : Size → (little : Bool) → List ℕ → List ℕ
raster_gray z little raster =
    tabulate (cells_in z) (λ n. gray_of (sample_at little raster (file_order z (n / z.width) (n % z.width))))
