-- Raw PBM (P4) and raw PGM (P5) by the public Netpbm layouts, one image a file (02, C-11): the header in the layout's
-- own words, the raster, and the files that are written. No reader is spoken of here.
use Rattle.std.specs.Prelude.{Bool, true, false, ◌||◌, ◌&&◌, List, [], ◌∷◌, ◌++◌, map, ◌≡◌, ℕ, ◌+◌, ◌*◌, ◌-◌, ◌/◌, ◌%◌, ◌≤◌, ◌<◌, leb, ltb, eqb, length, get_or, take, drop}
use Rattle.model.specs.declared.Size.{Size}
use Rattle.model.specs.Basic.{pick, tabulate, bit, All}
use Rattle.model.specs.Psf.{total}
use Rattle.model.specs.Text.{bytes, is_digit}
use Rattle.model.specs.Sheet.{row}

-- ---- the header
-- white space: space, TAB, LF, VT, FF, CR
abbrev pub is_space : ℕ → Bool
is_space b = eqb b 32 || (leb 9 b && leb b 13)

-- a comment runs from # through the next LF or CR
abbrev pub opens_comment : ℕ → Bool
opens_comment b = eqb b 35

abbrev pub ends_comment : ℕ → Bool
ends_comment b = eqb b 10 || eqb b 13

-- what stands between the magic number and the raster: bytes, and comments, which may stand anywhere
pub data Piece : Type 0 where
  byte : ℕ → Piece
  comment : (text : List ℕ) (end : ℕ) → Piece

-- a byte outside comments opens none, and a comment ends at the first byte that ends it
abbrev pub Proper : Piece → Type 0
Proper (byte b) = opens_comment b ≡ false
Proper (comment text end) = All (λ b. ends_comment b ≡ false) text × (ends_comment end ≡ true)

-- the bytes of the file
abbrev pub pieces_text : List Piece → List ℕ
pieces_text [] = []
pieces_text (byte b ∷ l) = b ∷ pieces_text l
pieces_text (comment text end ∷ l) = 35 ∷ (text ++ (end ∷ pieces_text l))

-- those outside comments: a comment is ignored
abbrev pub uncommented : List Piece → List ℕ
uncommented [] = []
uncommented (byte b ∷ l) = b ∷ uncommented l
uncommented (comment text end ∷ l) = uncommented l

-- one byte or more, all of a kind
abbrev pub RunOf : (ℕ → Bool) → List ℕ → Type 0
RunOf kind l = (1 ≤ length l) × All (λ b. kind b ≡ true) l

-- a number of the header: the white space before it, and its decimal digits; leading zeros are allowed
pub record Numeral : Type 0 where
  pub gap : List ℕ
  pub decimal : List ℕ

abbrev pub IsNumeral : Numeral → Type 0
IsNumeral n = RunOf is_space n.gap × RunOf is_digit n.decimal

-- the value of digits, with a value before them
abbrev pub decimal_from : ℕ → List ℕ → ℕ
decimal_from v [] = v
decimal_from v (b ∷ l) = decimal_from (v * 10 + (b - 48)) l

abbrev pub value_of : Numeral → ℕ
value_of n = decimal_from 0 n.decimal

abbrev pub numerals_text : List Numeral → List ℕ
numerals_text [] = []
numerals_text (n ∷ l) = n.gap ++ (n.decimal ++ numerals_text l)

-- the header of a file P4 (kind 52) or P5 (kind 53): the magic number, these values, and one white space more
pub record IsHeader (kind : ℕ) (values head : List ℕ) : Type 0 where
  -- bytes and comments after the magic number, and the one white space before the raster, which is outside comments
  pub pieces : List Piece
  pub proper : All Proper pieces
  pub last : ℕ
  pub last_is_space : is_space last ≡ true
  pub text : head ≡ 80 ∷ kind ∷ (pieces_text pieces ++ (last ∷ []))
  -- comments ignored, the numbers stand there and nothing else
  pub numerals : List Numeral
  pub are_numerals : All IsNumeral numerals
  pub bare : uncommented pieces ≡ numerals_text numerals
  pub values_are : map value_of numerals ≡ values

-- ---- the raster
abbrev pub cells_in : Size → ℕ
cells_in z = z.height * z.width

-- how many bytes hold a row of w cells, eight to a byte
abbrev pub row_bytes : ℕ → ℕ
row_bytes w = (w + 7) / 8

abbrev pub packed_size : Size → ℕ
packed_size z = z.height * row_bytes z.width

-- bits in their order, the first the highest, after a number
abbrev pub word_from : ℕ → List ℕ → ℕ
word_from n [] = n
word_from n (b ∷ l) = word_from (2 * n + b) l

-- byte j of a row: its eight cells, and 0 for each spare bit
unfoldable pub packed_byte : (w : ℕ) (dots : List ℕ) (row j : ℕ) → ℕ
packed_byte w dots row j =
    word_from 0 (tabulate 8 (λ i. pick (ltb (8 * j + i) w) (get_or dots (row * w + (8 * j + i)) 0) 0))

-- dots, eight to a byte, each row padded to whole bytes
unfoldable pub packed : Size → List ℕ → List ℕ
packed z dots =
    tabulate (packed_size z) (λ k.
    packed_byte z.width dots (k / row_bytes z.width) (k % row_bytes z.width))

-- the bit of a row and a column, which may be that of a spare bit: a set bit is a dot
unfoldable pub bit_at : (w : ℕ) (raster : List ℕ) (row col : ℕ) → ℕ
bit_at w raster row col = bit (7 - col % 8) (get_or raster (row * row_bytes w + col / 8) 0)

-- the dots of a raster; spare bits are passed over
unfoldable pub unpacked : Size → List ℕ → List ℕ
unpacked z raster = tabulate (cells_in z) (λ n. bit_at z.width raster (n / z.width) (n % z.width))

-- gray is 255 less the stored value, and the other way round
unfoldable pub negated : List ℕ → List ℕ
negated l = map (λ v. 255 - v) l

-- the dots per row of a raster; spare bits are passed over
unfoldable pub row_counts : Size → List ℕ → List ℕ
row_counts z raster = tabulate z.height (λ y. total (tabulate z.width (bit_at z.width raster y)))

-- the dots per row of dots, one byte a cell
unfoldable pub row_totals : Size → List ℕ → List ℕ
row_totals z dots = tabulate z.height (λ y. total (take z.width (drop (y * z.width) dots)))

-- ---- files
-- a size as in 1
pub record InSize (z : Size) : Type 0 where
  pub wide : (1 ≤ z.width) × (z.width ≤ 256)
  pub high : (1 ≤ z.height) × (z.height ≤ 256)

-- a PBM: a header with width and height, a raster of just that length, and nothing else
pub record IsPbm (z : Size) (file : List ℕ) : Type 0 where
  pub in_size : InSize z
  pub head : List ℕ
  pub is_header : IsHeader 52 (z.width ∷ z.height ∷ []) head
  pub raster : List ℕ
  pub raster_length : length raster ≡ packed_size z
  pub text : file ≡ head ++ raster

-- a PGM: a header with width, height and a maximum of 1 to 65,535, and one byte a cell
pub record IsPgm (z : Size) (maximum : ℕ) (file : List ℕ) : Type 0 where
  pub in_size : InSize z
  pub allowed : (1 ≤ maximum) × (maximum < 65536)
  pub head : List ℕ
  pub is_header : IsHeader 53 (z.width ∷ z.height ∷ maximum ∷ []) head
  pub raster : List ℕ
  pub raster_length : length raster ≡ cells_in z
  pub text : file ≡ head ++ raster

-- as they are written: the lines `P4`, `W H`, and `P5`, `W H`, `255`
abbrev pub size_line : Size → List ℕ
size_line z = row (z.width ∷ z.height ∷ [])

abbrev pub pbm_head : Size → List ℕ
pbm_head z = bytes "P4\n" ++ size_line z

abbrev pub pgm_head : Size → List ℕ
pgm_head z = bytes "P5\n" ++ (size_line z ++ bytes "255\n")

unfoldable pub pbm_file : Size → (dots : List ℕ) → List ℕ
pbm_file z dots = pbm_head z ++ packed z dots

unfoldable pub pgm_file : Size → (gray : List ℕ) → List ℕ
pgm_file z gray = pgm_head z ++ negated gray
