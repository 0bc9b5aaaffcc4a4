-- Reading and writing PBM and PGM files, and the dots per row (02, C-11): the refusals in their order, and each call as
-- a function from what it is handed to its answer and to what its buffer holds at exit. No byte offset is answered.
use Rattle.std.specs.Prelude.{Bool, ◌&&◌, ◌||◌, not, List, [], ◌∷◌, ◌++◌, ℕ, ◌+◌, leb, ltb, eqb, length, drop}
use Rattle.std.proofs.lemmas.List.Edits.{sets}
use Rattle.model.specs.declared.Size.{Size}
use Rattle.model.specs.PictureHeader.{PictureHeader}
use Rattle.model.specs.Refusal.{Refusal, ◌when◌, first_of, outside, differs, bad_size, bad_dot}
use Rattle.model.specs.Calls.{Reply, result, refused, Outcome, unless}
use Rattle.model.specs.Netpbm.{cells_in, packed_size, unpacked, negated, row_counts, pbm_file, pgm_file}
use Rattle.model.specs.PictureHeader.{pbm_header, pgm_header, size_of}

-- ---- refusals
-- a maximum that the layout allows
abbrev pub is_maximum : ℕ → Bool
is_maximum v = leb 1 v && ltb v 65536

-- 14 a header or length that the layout does not allow: measures as in 1, and a file of the length of header and raster
abbrev pub wrong_layout : PictureHeader → (raster file : ℕ) → Bool
wrong_layout h raster file =
    not h.good
    || ((outside h.width || outside h.height)
    || (not (is_maximum h.maximum) || not (eqb file (h.at + raster))))

abbrev pub bad_layout : PictureHeader → (raster file : ℕ) → Refusal
bad_layout h raster file = 14 when wrong_layout h raster file

-- 15 a P5 maximum other than 255
abbrev pub bad_maximum : PictureHeader → Refusal
bad_maximum h = 15 when not (eqb h.maximum 255)

-- 12 a short buffer
abbrev pub bad_room : (needed room : ℕ) → Refusal
bad_room needed room = 12 when ltb room needed

-- 5 a buffer of another length
abbrev pub bad_cells_length : Size → ℕ → Refusal
bad_cells_length z cells = 5 when differs (cells_in z) (cells ∷ [])

abbrev pub bad_rows_length : Size → (raster counts : ℕ) → Refusal
bad_rows_length z raster counts = 5 when (differs (packed_size z) (raster ∷ []) || differs z.height (counts ∷ []))

-- each call by its list; a reader's by the header that it found and the length of the file
abbrev pub pbm_refusals : PictureHeader → (file room : ℕ) → List Refusal
pbm_refusals h file room =
    bad_layout h (packed_size (size_of h)) file ∷ bad_room (cells_in (size_of h)) room ∷ []

abbrev pub pgm_refusals : PictureHeader → (file room : ℕ) → List Refusal
pgm_refusals h file room =
    bad_layout h (cells_in (size_of h)) file ∷ bad_maximum h ∷ bad_room (cells_in (size_of h)) room ∷ []

-- 1 and 5, of a picture with so many cells
abbrev pub picture_refusals : Size → ℕ → List Refusal
picture_refusals z cells = bad_size z.width z.height ∷ bad_cells_length z cells ∷ []

abbrev pub write_pbm_refusals : Size → (dots : List ℕ) (room : ℕ) → List Refusal
write_pbm_refusals z dots room =
    picture_refusals z (length dots) ++ (bad_dot dots ∷ bad_room (length (pbm_file z dots)) room ∷ [])

-- no dots are handed, so no 7
abbrev pub write_pgm_refusals : Size → (gray : List ℕ) (room : ℕ) → List Refusal
write_pgm_refusals z gray room = picture_refusals z (length gray) ++ (bad_room (length (pgm_file z gray)) room ∷ [])

abbrev pub count_rows_refusals : Size → (raster counts : ℕ) → List Refusal
count_rows_refusals z raster counts = bad_size z.width z.height ∷ bad_rows_length z raster counts ∷ []

-- ---- the calls
-- the picture stands at the front of the buffer, and what lies past it remains
unfoldable pub read_pbm_call : (file dots : List ℕ) → Outcome Size (List ℕ)
read_pbm_call s dots =
    let h = pbm_header s in
    unless (first_of (pbm_refusals h (length s) (length dots))) dots
    (record { reply = result (size_of h); left = sets dots 0 (unpacked (size_of h) (drop h.at s)) })

unfoldable pub read_pgm_call : (file gray : List ℕ) → Outcome Size (List ℕ)
read_pgm_call s gray =
    let h = pgm_header s in
    unless (first_of (pgm_refusals h (length s) (length gray))) gray
    (record { reply = result (size_of h); left = sets gray 0 (negated (drop h.at s)) })

unfoldable pub write_pbm_call : Size → (dots out : List ℕ) → Outcome ℕ (List ℕ)
write_pbm_call z dots out =
    let file = pbm_file z dots in
    unless (first_of (write_pbm_refusals z dots (length out))) out
    (record { reply = result (length file); left = sets out 0 file })

unfoldable pub write_pgm_call : Size → (gray out : List ℕ) → Outcome ℕ (List ℕ)
write_pgm_call z gray out =
    let file = pgm_file z gray in
    unless (first_of (write_pgm_refusals z gray (length out))) out
    (record { reply = result (length file); left = sets out 0 file })

-- the raster may be anybody's: its spare bits are not counted
unfoldable pub count_rows_call : Size → (raster counts : List ℕ) → Outcome (Unit {0}) (List ℕ)
count_rows_call z raster counts =
    unless (first_of (count_rows_refusals z (length raster) (length counts))) counts
    (record { reply = result tt; left = row_counts z raster })
