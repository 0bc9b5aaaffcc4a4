-- Reading a gray PFM (02, C-16): its lines as an executable definition, the refusals in their order, and the call as a
-- function from what it is handed to its answer and to what its buffer holds at exit. That it reads just the files of
-- Pfm.antt is promised (PfmPromises.antt).
use Rattle.std.specs.Prelude.{Bool, true, false, ◌||◌, not, List, [], ◌∷◌, ℕ, ◌+◌, ◌*◌, ltb, eqb, length, get_or, drop, Float}
use Rattle.std.proofs.lemmas.List.Edits.{sets}
use Rattle.model.specs.declared.PfmHeader.{PfmHeader}
use Rattle.model.specs.Basic.{pick}
use Rattle.model.specs.Text.{bytes, space, line_end}
use Rattle.model.specs.Format.{Part, fixed, number, fixed_at, parse}
use Rattle.model.specs.Refusal.{Refusal, ◌when◌, first_of}
use Rattle.model.specs.Calls.{Reply, result, refused, Outcome, unless}
use Rattle.model.specs.Netpbm.{cells_in}
use Rattle.model.specs.PictureCalls.{bad_room}
use Rattle.model.specs.Pfm.{one_float, minus_one, size_in, is_little, scale_line, first_no_shade, raster_gray}

-- ---- the lines
-- `Pf` and `W H`
unfoldable pub size_parts : List Part
size_parts = fixed (bytes "Pf\n") ∷ number 1 256 space ∷ number 1 256 line_end ∷ []

-- what is found of the lines: whether they are there, the header, and the place after them
pub record PfmLines : Type 0 where
  pub good : Bool
  pub header : PfmHeader
  pub at : ℕ

abbrev pub no_lines : PfmLines
no_lines = record { good = false; header = record { width = 0; height = 0; scale = one_float }; at = 0 }

abbrev pub lines_of : (width height : ℕ) → Float → (at : ℕ) → PfmLines
lines_of w h v at = record { good = true; header = record { width = w; height = h; scale = v }; at = at }

-- after a size up to a place: the line of this scale, or else as said
abbrev pub with_scale : Float → (width height : ℕ) → List ℕ → (at : ℕ) → PfmLines → PfmLines
with_scale v w h s at other =
    let line = fixed_at (scale_line v) s at in
    pick (eqb line.refusal 0) (lines_of w h v line.at) other

-- `1.0` or `-1.0`
unfoldable pub scale_after : (width height : ℕ) → List ℕ → (at : ℕ) → PfmLines
scale_after w h s at = with_scale one_float w h s at (with_scale minus_one w h s at no_lines)

unfoldable pub pfm_lines : List ℕ → PfmLines
pfm_lines s =
    let p = parse size_parts s 0 in
    pick (eqb p.refusal 0) (scale_after (get_or p.values 0 0) (get_or p.values 1 0) s p.at) no_lines

-- ---- the call
-- 17 a header or length outside this
abbrev pub bad_pfm : PfmLines → (file : ℕ) → Refusal
bad_pfm h file = 17 when (not h.good || not (eqb file (h.at + 4 * cells_in (size_in h.header))))

-- 17, and 12 a short buffer, by the lines that were found and the lengths of file and buffer
abbrev pub pfm_refusals : PfmLines → (file room : ℕ) → List Refusal
pfm_refusals h file room = bad_pfm h file ∷ bad_room (cells_in (size_in h.header)) room ∷ []

-- 18 a sample that is no shade, with the byte offset of the first in file order; else the gray stands at the front of
-- the buffer, and what lies past it remains. The raster stands in the file from a place on
unfoldable pub samples_call : PfmHeader → (at : ℕ) → (raster gray : List ℕ) → Outcome PfmHeader (List ℕ)
samples_call h at raster gray =
    let little = is_little h.scale in
    let n = cells_in (size_in h) in
    let first = first_no_shade little raster 0 n in
    let stored = sets gray 0 (raster_gray (size_in h) little raster) in
    pick (ltb first n) (record { reply = refused 18 (at + 4 * first); left = gray })
    (record { reply = result h; left = stored })

unfoldable pub read_pfm_call : (file gray : List ℕ) → Outcome PfmHeader (List ℕ)
read_pfm_call s gray =
    let h = pfm_lines s in
    unless (first_of (pfm_refusals h (length s) (length gray))) gray
    (samples_call h.header h.at (drop h.at s) gray)
