-- The program `settle` of document 01: what it prints, as a function of its input.
use Rattle.std.specs.Prelude.{List, [], ◌∷◌, ◌++◌, ℕ, ◌≤◌, ltb, eqb, ℤ, pos, negsuc, length, replicate}
use Rattle.model.specs.declared.ConvergeResult.{ConvergeResult}
use Rattle.model.specs.declared.Measures.{Measures}
use Rattle.model.specs.declared.Stats.{Stats}
use Rattle.model.specs.Basic.{pick}
use Rattle.model.specs.Error.{Target, target_for}
use Rattle.model.specs.Calls.{Reply, result, refused, Buffers, start_call, converge_call}
use Rattle.model.specs.Text.{bytes, digits, Puts}
use Rattle.model.specs.Sheet.{Sheet, cells_of, row, sheet_text}
use Rattle.model.specs.Format.{Read, read_sheet}
use Rattle.model.specs.SheetCalls.{written_sheet}

-- `refused N at B`, 0 where there is no place
unfoldable pub refused_text : (number at : ℕ) → List ℕ
refused_text n o = bytes "refused " ++ (digits n ++ (bytes " at " ++ (digits o ++ bytes "\n")))

-- a squared error, which is never below 0, as a number
abbrev pub whole : ℤ → ℕ
whole (pos n) = n
whole (negsuc n) = 0

-- the two ledger lines: E at the start, E at the end, the three counts, the scans
abbrev pub figures_name : List ℕ
figures_name = bytes "before after on off swaps scans\n"

unfoldable pub figures_text : (before after on off swaps scans : ℕ) → List ℕ
figures_text before after on off swaps scans =
    figures_name ++ row (before ∷ after ∷ on ∷ off ∷ swaps ∷ scans ∷ [])

abbrev pub stats_text : ConvergeResult → List ℕ
stats_text r =
    let s = r.stats in
    let f = s.figures in
    figures_text (whole f.start_error) (whole s.error) f.on f.off f.swaps r.scans

-- the plate that a sheet is held against
abbrev pub sheet_target : Sheet → Target
sheet_target s = target_for s.measures s.psf s.gray

-- what is printed of a sheet: it is started, then converges (01: settles)
module _ (m : Measures) (psf gray : List ℕ) where
  abbrev pub converged_text : Reply ConvergeResult → (dots : List ℕ) → List ℕ
  converged_text (result r) dots = sheet_text (written_sheet m psf gray dots) ++ stats_text r
  converged_text (refused n o) dots = refused_text n o

  abbrev pub started_text : Reply Stats → Buffers → List ℕ
  started_text (result s) b =
      let o = converge_call m psf gray b.dots b.table s in
      converged_text o.reply o.left.dots
  started_text (refused n o) b = refused_text n o

  unfoldable pub processed_text : (dots : List ℕ) (table : List ℤ) → List ℕ
  processed_text dots table = let o = start_call m psf gray dots table in started_text o.reply o.left

-- the dots that the start is handed: those of the sheet, and blank ones where it has none
abbrev pub handed_dots : Sheet → List ℕ
handed_dots s = pick (eqb s.measures.start 2) s.dots (replicate (cells_of s.measures) 0)

abbrev pub read_text : Read → List ℕ
read_text r =
    let s = r.sheet in
    let m = s.measures in
    let text = processed_text m s.psf s.gray (handed_dots s) (replicate (cells_of m) (pos 0)) in
    pick (eqb r.refusal 0) text (refused_text r.refusal r.at)

-- ---- printing
-- the most bytes that are printed: a sheet of 4,096 cells and its ledger have no more
abbrev pub most_printed : ℕ
most_printed = 40960

-- a text printed: put at the front of an output, its length answered
pub record Prints (text out₀ out : List ℕ) (end : ℕ) : Type 0 where
  pub put : Puts text out₀ out 0 end
  pub most : end ≤ most_printed

-- 13 for more than 32,768 bytes, before all else; the buffers hold 4,096 cells
unfoldable pub output : List ℕ → List ℕ
output input = pick (ltb 32768 (length input)) (refused_text 13 0) (read_text (read_sheet input 49 4096 4096))
