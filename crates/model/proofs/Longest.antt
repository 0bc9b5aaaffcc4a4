-- How long texts are at most.
--   text_most       a sheet of at most so many cells
--   sheet_most      any sheet
--   writing_is_long an output of that length takes every sheet
--   filed_most      a filed sheet
--   pfm_most        a PFM
use mathlib.Core.Path.{◌≡◌, refl, ◌∙◌, ap}
use mathlib.Core.Bool.{Bool, true, false}
use mathlib.Core.List.{List, [], ◌∷◌, ◌++◌}
use Prim.Native.Nat.{ℕ, suc, ◌+◌, ◌*◌, ◌^◌, ◌≤◌, ◌<◌}
use native.Mathlib.Nat.{mul-suc, mul-le-mul_left, mul-le-mul}
use native.Mathlib.Omega.{arith}
use borrow.Author.Tests.{le-leb}
use lib.Dec.{eqb}
use lib.ListN.{length, length-append}
use Rattle.model.specs.declared.Measures.{Measures}
use Rattle.model.specs.declared.FiledFigures.{FiledFigures}
use Rattle.model.specs.declared.PfmHeader.{PfmHeader}
use Rattle.model.specs.Basic.{AtMost}
use Rattle.model.specs.Error.{most_cells}
use Rattle.model.specs.Calls.{result}
use Rattle.model.specs.Refusal.{write_refusal}
use Rattle.model.specs.Text.{digits}
use Rattle.model.specs.Sheet.{Sheet, side_of, cells_of, row, rows, names, psf_name, gray_name, dots_name}
use Rattle.model.specs.Sheet.{values_of, dots_text, sheet_text, Shaped, InRange, Valid, grid_length}
use Rattle.model.specs.SheetCalls.{written_sheet, write_call}
use Rattle.model.specs.Program.{figures_name, figures_text}
use Rattle.model.specs.Filed.{IsFiled, most_figure, figures_in}
use Rattle.model.specs.Netpbm.{cells_in, size_line}
use Rattle.model.specs.Pfm.{size_in, is_little, scale_line, pfm_head, IsPfm}
use Rattle.model.specs.Interface.{longest_sheet, longest_filed, longest_pfm}
use Rattle.model.proofs.Basic.{at_most_tail, pick_cases}
use Rattle.model.proofs.Text.{length_most}
use Rattle.model.proofs.Rows.{rows_grid, grid_length_lem}
use Rattle.model.proofs.Sheet.{entries_most, cells_most, written_valid}

-- values of at most j + 1 digits
grid_most : (j k : ℕ) → k < 10 ^ suc j → (vs : List ℕ) → AtMost k vs → grid_length vs ≤ (j + 2) * length vs
grid_most j k h [] a = omega arith
grid_most j k h (v ∷ vs) a =
    let l = length_most j v (omega (arith, h, a.each 0)) in
    rw (mul-suc (j + 2) (length vs)) (omega (arith, l, grid_most j k h vs (at_most_tail a)))

row_length_lem : (v : ℕ) (vs : List ℕ) → length (row (v ∷ vs)) ≡ grid_length (v ∷ vs)
row_length_lem v [] = length-append (digits v) (10 ∷ []) ∙ omega arith
row_length_lem v (u ∷ vs) =
    length-append (digits v) (32 ∷ row (u ∷ vs)) ∙ omega (arith, row_length_lem u vs)

rows_most : (j k : ℕ) → k < 10 ^ suc j → (w h : ℕ) (vs : List ℕ) → 1 ≤ w → length vs ≡ h * w → AtMost k vs
    → length (rows w h vs) ≤ (j + 2) * length vs
rows_most j k few w h vs p e a =
    let l = ap length (rows_grid w h vs p e) in
    omega (arith, l, grid_length_lem w 0 vs, grid_most j k few vs a)

-- line 2: only width and height can have more than one digit
row_most : (m : Measures) → InRange m → length (row (values_of m)) ≤ 14
row_most m h =
    omega (
      arith,
      row_length_lem m.width (m.height ∷ m.radius ∷ m.reach ∷ m.start ∷ []),
      length_most 2 m.width (omega (arith, h.wide)),
      length_most 2 m.height (omega (arith, h.high)),
      length_most 0 m.radius (omega (arith, h.near)),
      length_most 0 m.reach (omega (arith, h.reached)),
      length_most 0 m.start (omega (arith, h.kind)),
    )

lengths : (a b c d e f g : List ℕ) → length (a ++ (b ++ (c ++ (d ++ (e ++ (f ++ g))))))
    ≡ length a + (length b + (length c + (length d + (length e + (length f + length g)))))
lengths a b c d e f g = simp length-append

-- a sheet of at most n cells
module _ (s : Sheet) (h : InRange s.measures) (z : Shaped s) (n : ℕ) (few : cells_of s.measures ≤ n) where
  abbrev m : Measures
  m = s.measures

  psf_most : AtMost 255 s.psf → length (rows (side_of m) (side_of m) s.psf) ≤ 196
  psf_most a =
      omega (
        arith,
        rows_most 2 255 (omega arith) (side_of m) (side_of m) s.psf (omega arith) z.psf_length a,
        z.psf_length,
        entries_most m h,
      )

  gray_most : AtMost 255 s.gray → length (rows m.width m.height s.gray) ≤ 4 * n
  gray_most a =
      omega (
        arith,
        rows_most 2 255 (omega arith) m.width m.height s.gray h.wide.0 z.gray_length a,
        z.gray_length,
        few,
      )

  -- its dots having at most j + 1 digits
  module _ (j k : ℕ) (l : k < 10 ^ suc j) where
    dots_most : AtMost k s.dots → length (dots_text s) ≤ (j + 2) * n + 5
    unfolding dots_name
    dots_most a = go (eqb m.start 2) refl
      where
        go : (b : Bool) → eqb m.start 2 ≡ b → length (dots_text s) ≤ (j + 2) * n + 5
        go true t =
            let e : length s.dots ≡ cells_of m = rw t at z.dots_length in
            let most : (j + 2) * length s.dots ≤ (j + 2) * n = mul-le-mul_left (j + 2) (omega arith) in
            rw t (omega (arith, rows_most j k l m.width m.height s.dots h.wide.0 e a, most))
        go false t = rw t (omega arith)

    pub text_most : AtMost 255 s.psf → AtMost 255 s.gray → AtMost k s.dots
        → length (sheet_text s) ≤ 256 + 4 * n + (j + 2) * n
    unfolding sheet_text names psf_name gray_name
    text_most p g d =
        omega (
          arith,
          lengths names (row (values_of m)) psf_name (rows (side_of m) (side_of m) s.psf) gray_name
              (rows m.width m.height s.gray) (dots_text s),
          row_most m h,
          psf_most p,
          gray_most g,
          dots_most d,
        )

-- ---- every sheet
pub sheet_most : (s : Sheet) → Valid s → length (sheet_text s) ≤ longest_sheet
sheet_most s v =
    text_most s v.in_range v.shaped most_cells (cells_most s.measures v.in_range) 0 1 (omega arith) v.psf_most
    v.gray_most v.dots_most

-- so an output of that length takes it
module _ (m : Measures) (psf gray dots out : List ℕ) (taken : write_refusal m psf gray dots ≡ 0)
    (psf_most : AtMost 255 psf) (gray_most : AtMost 255 gray) where
  pub writing_is_long : longest_sheet ≤ length out
      → (write_call m psf gray dots out).reply ≡ result (length (sheet_text (written_sheet m psf gray dots)))
  unfolding write_call
  writing_is_long h =
      let v = written_valid m psf gray dots taken psf_most gray_most in
      let fits = sheet_most (written_sheet m psf gray dots) v in
      rw (taken, le-leb (length (sheet_text (written_sheet m psf gray dots))) (length out) (omega (arith, fits, h))) refl

-- ---- every filed sheet
figures_length : (f : FiledFigures) → AtMost most_figure (figures_in f)
    → length (figures_text f.before f.after f.on f.off f.swaps f.scans) ≤ 152
unfolding figures_text
figures_length f a =
    omega (
      arith,
      length-append figures_name (row (figures_in f)),
      row_length_lem f.before (f.after ∷ f.on ∷ f.off ∷ f.swaps ∷ f.scans ∷ []),
      grid_most 18 most_figure (omega arith) (figures_in f) a,
    )

pub filed_most : (b : List ℕ) (s : Sheet) (f : FiledFigures) → IsFiled b s f → length b ≤ longest_filed
filed_most b s f i =
    omega (
      arith,
      ap length i.is_text,
      length-append (sheet_text s) (figures_text f.before f.after f.on f.off f.swaps f.scans),
      sheet_most s i.is_valid,
      figures_length f i.figures_most,
    )

-- ---- every PFM
pub pfm_most : (h : PfmHeader) (file : List ℕ) → IsPfm h file → length file ≤ longest_pfm
pfm_most h file p =
    let z = p.in_size in
    let scale : length (scale_line h.scale) ≤ 5 = pick_cases (λ l. length l ≤ 5) (is_little h.scale)
    (λ t. omega arith) (λ t. omega arith) in
    let cells : cells_in (size_in h) ≤ 256 * 256 = mul-le-mul z.high.1 z.wide.1 in
    omega (
      arith,
      ap length p.text,
      length-append (pfm_head h) p.raster,
      length-append (size_line (size_in h)) (scale_line h.scale),
      row_length_lem h.width (h.height ∷ []),
      length_most 2 h.width (omega (arith, z.wide)),
      length_most 2 h.height (omega (arith, z.high)),
      p.raster_length,
      scale,
      cells,
    )
