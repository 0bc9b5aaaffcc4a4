-- Laws of the calls for PBM and PGM files: what one that is not refused was handed.
--   layout_by, layout_none, layout_drawn  14 is drawn exactly where header and length do not fit
--   pbm_fits, pgm_fits                    what a file was that is read
--   size_fits, picture_fits, bits_fit     1, and 5, and 7
--   rows_fit                              what was handed to be counted
--   pbm_writes, pgm_writes                what was handed to be written
--   pbm_length, pgm_length                how long a file is that is written
use mathlib.Core.Bool.{Bool, true, false, not, ◌||◌}
use mathlib.Core.List.{List, [], ◌∷◌, ◌++◌}
use mathlib.Core.Path.{◌≡◌, refl, ◌∙◌, ap}
use Prim.Native.Nat.{ℕ, ◌+◌, ◌≤◌, ◌<◌}
use borrow.Author.Tests.{ltb-true, ltb-false, leb-true, le-leb, lt-ltb, not-false}
use lib.Dec.{leb, ltb}
use lib.ListN.{length, length-append}
use Rattle.model.specs.declared.Size.{Size}
use Rattle.model.specs.PictureHeader.{PictureHeader}
use Rattle.model.specs.Basic.{AtMost}
use Rattle.model.specs.Refusal.{first_of, outside, differs, bad_size, bad_dot}
use Rattle.model.specs.Netpbm.{InSize, cells_in, packed_size, packed, negated, pbm_head, pgm_head, pbm_file, pgm_file}
use Rattle.model.specs.PictureHeader.{size_of}
use Rattle.model.specs.PictureCalls.{is_maximum, wrong_layout, bad_layout, picture_refusals, pbm_refusals, pgm_refusals}
use Rattle.model.specs.PictureCalls.{write_pbm_refusals, write_pgm_refusals, count_rows_refusals}
use Rattle.model.proofs.Basic.{neither}
use Rattle.model.proofs.Refusal.{none, drawn_none, ◌nor◌, within, same, alike_not, size_inside}
use Rattle.model.proofs.Refusal.{none_above}
use Rattle.model.proofs.Raster.{packed_length, negated_length}
use Rattle.model.proofs.Text.{and_true}

-- ---- reading
-- a header that the layout allows, with a raster and a file of these lengths
pub record LayoutFits (h : PictureHeader) (raster file : ℕ) : Type 0 where
  pub good : h.good ≡ true
  pub in_size : InSize (size_of h)
  pub allowed : (1 ≤ h.maximum) × (h.maximum < 65536)
  pub exact : file ≡ h.at + raster

module _ (h : PictureHeader) (raster file : ℕ) where
  pub layout_by : wrong_layout h raster file ≡ false → LayoutFits h raster file
  layout_by e =
      let (good, rest) = neither (not h.good) _ e in
      let (size, rest') = neither (outside h.width || outside h.height) _ rest in
      let (most, exact) = neither (not (is_maximum h.maximum)) _ rest' in
      let (wide, high) = size_inside h.width h.height size in
      let (some, few) = and_true (leb 1 h.maximum) (ltb h.maximum 65536) (not-false _ most) in
      record {
        good = not-false h.good good;
        in_size = record { wide = wide; high = high };
        allowed = (leb-true 1 h.maximum some, ltb-true h.maximum 65536 few);
        exact = same file (h.at + raster) exact;
      }

  pub layout_none : LayoutFits h raster file → wrong_layout h raster file ≡ false
  layout_none f =
      let (some, few) = f.allowed in
      let most : is_maximum h.maximum ≡ true =
      rw (le-leb 1 h.maximum some, lt-ltb h.maximum 65536 few) in
      ap not f.good
      nor ((within 256 h.width f.in_size.wide nor within 256 h.height f.in_size.high)
      nor (ap not most nor alike_not f.exact))

  -- 14 is drawn where they do not fit
  pub layout_drawn : (LayoutFits h raster file → ⊥) → 14 ≡ first_of (bad_layout h raster file ∷ [])
  layout_drawn = go (wrong_layout h raster file) refl
    where
      go : (b : Bool) → wrong_layout h raster file ≡ b → (LayoutFits h raster file → ⊥)
          → 14 ≡ first_of (bad_layout h raster file ∷ [])
      go true e f = rw e
      go false e f = absurd (f (layout_by e))

pub pbm_fits : (h : PictureHeader) (file room : ℕ) {x : ℕ} → x ≡ first_of (pbm_refusals h file room) → x ≡ 0
    → LayoutFits h (packed_size (size_of h)) file × (cells_in (size_of h) ≤ room)
pbm_fits h file room e f =
    let (layout, (short, _)) = none (pbm_refusals h file room) tt e f in
    (layout_by h (packed_size (size_of h)) file layout, ltb-false room (cells_in (size_of h)) short)

pub pgm_fits : (h : PictureHeader) (file room : ℕ) {x : ℕ} → x ≡ first_of (pgm_refusals h file room) → x ≡ 0
    → LayoutFits h (cells_in (size_of h)) file × (h.maximum ≡ 255) × (cells_in (size_of h) ≤ room)
pgm_fits h file room e f =
    let (layout, (most, (short, _))) = none (pgm_refusals h file room) tt e f in (
      layout_by h (cells_in (size_of h)) file layout,
      same h.maximum 255 most,
      ltb-false room (cells_in (size_of h)) short,
    )

-- ---- writing and counting
pub size_fits : (z : Size) {x : ℕ} → x ≡ first_of (bad_size z.width z.height ∷ []) → x ≡ 0 → InSize z
size_fits z e f =
    let (size, _) = none (bad_size z.width z.height ∷ []) tt e f in
    let (wide, high) = size_inside z.width z.height size in
    record { wide = wide; high = high }

pub picture_fits : (z : Size) (cells : ℕ) {x : ℕ} → x ≡ first_of (picture_refusals z cells) → x ≡ 0
    → InSize z × (cells ≡ cells_in z)
picture_fits z cells e f =
    let (size, (exact, _)) = none (picture_refusals z cells) tt e f in
    (size_fits z refl (rw size refl), same cells (cells_in z) (neither _ _ exact).0)

pub bits_fit : (z : Size) (dots : List ℕ) {x : ℕ} → x ≡ first_of (picture_refusals z (length dots) ++ (bad_dot dots ∷ []))
    → x ≡ 0 → InSize z × (length dots ≡ cells_in z) × AtMost 1 dots
bits_fit z dots e f =
    let (size, (exact, (bits, _))) = none (picture_refusals z (length dots) ++ (bad_dot dots ∷ [])) tt e f in (
      size_fits z refl (rw size refl),
      same (length dots) (cells_in z) (neither _ _ exact).0,
      record { each = none_above 1 dots bits },
    )

pub rows_fit : (z : Size) (raster counts : ℕ) {x : ℕ} → x ≡ first_of (count_rows_refusals z raster counts) → x ≡ 0
    → InSize z × (raster ≡ packed_size z) × (counts ≡ z.height)
rows_fit z raster counts e f =
    let (size, (exact, _)) = none (count_rows_refusals z raster counts) tt e f in
    let (first, second) = neither (differs (packed_size z) (raster ∷ [])) _ exact in (
      size_fits z refl (rw size refl),
      same raster (packed_size z) (neither _ _ first).0,
      same counts z.height (neither _ _ second).0,
    )

-- what was handed to be written
pub pbm_writes : (z : Size) (dots : List ℕ) (room : ℕ) → first_of (write_pbm_refusals z dots room) ≡ 0
    → InSize z × (length dots ≡ cells_in z) × AtMost 1 dots × (length (pbm_file z dots) ≤ room)
pbm_writes z dots room e =
    let (size, (exact, (bits, (short, _)))) = none (write_pbm_refusals z dots room) tt refl e in
    let (in_size, long, all) = bits_fit z dots refl (drawn_none (picture_refusals z (length dots) ++ (bad_dot dots ∷ []))
    (size, (exact, (bits, tt)))) in
    (in_size, long, all, ltb-false room (length (pbm_file z dots)) short)

pub pgm_writes : (z : Size) (gray : List ℕ) (room : ℕ) → first_of (write_pgm_refusals z gray room) ≡ 0
    → InSize z × (length gray ≡ cells_in z) × (length (pgm_file z gray) ≤ room)
pgm_writes z gray room e =
    let (size, (exact, (short, _))) = none (write_pgm_refusals z gray room) tt refl e in
    let passed = drawn_none (picture_refusals z (length gray)) (size, (exact, tt)) in
    let (in_size, long) = picture_fits z (length gray) refl passed in
    (in_size, long, ltb-false room (length (pgm_file z gray)) short)

-- how long a file is
pub pbm_length : (z : Size) (dots : List ℕ) → length (pbm_file z dots) ≡ length (pbm_head z) + packed_size z
unfolding pbm_file
pbm_length z dots = length-append (pbm_head z) (packed z dots) ∙ rw packed_length

pub pgm_length : (z : Size) (gray : List ℕ) → length gray ≡ cells_in z
    → length (pgm_file z gray) ≡ length (pgm_head z) + cells_in z
unfolding pgm_file
pgm_length z gray e = length-append (pgm_head z) (negated gray) ∙ rw (negated_length, e)
