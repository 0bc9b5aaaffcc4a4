-- What the program `settle` of document 01 promises for every input: which refusal it prints and exactly when, and else
-- which sheet with which figures. It is proved in proofs/Printed.antt.
use Rattle.std.specs.Prelude.{List, ◌++◌, ◌⊎◌, ◌≡◌, ℕ, ◌≤◌, ◌<◌, pos, length}
use Rattle.model.specs.declared.ConvergeResult.{ConvergeResult}
use Rattle.model.specs.Psf.{total}
use Rattle.model.specs.Error.{filtered_errors, squared_error}
use Rattle.model.specs.Lock.{LocksHold}
use Rattle.model.specs.Reference.{Performed}
use Rattle.model.specs.Scan.{converge}
use Rattle.model.specs.Screen.{start_dots}
use Rattle.model.specs.Lists.{begin, Rest}
use Rattle.model.specs.Sheet.{Sheet, cells_of, sheet_text, Valid}
use Rattle.model.specs.SheetRefusal.{Draws, Leftmost}
use Rattle.model.specs.SheetCalls.{written_sheet}
use Rattle.model.specs.Program.{refused_text, figures_text, handed_dots, sheet_target, output}

-- ---- what it is handed
-- the text of this sheet, which has at most 4,096 cells
pub record IsSheet (input : List ℕ) (s : Sheet) : Type 0 where
  pub is_text : input ≡ sheet_text s
  pub is_valid : Valid s
  pub is_small : cells_of s.measures ≤ 4096

-- ---- the refusals
-- of a start, handed a sheet
pub data StartRefuses (s : Sheet) : ℕ → Type 0 where
  -- 6 psf sum 0 or above 1,024
  wrong_sum : (total s.psf ≡ 0) ⊎ (1024 < total s.psf) → StartRefuses s 6
  -- else 16 given dots that contradict a locked cell
  contradicted : 1 ≤ total s.psf → total s.psf ≤ 1024 → s.measures.start ≡ 2
      → (LocksHold (sheet_target s) s.dots → ⊥) → StartRefuses s 16

-- of the program, each with its number and its byte offset, 0 where there is no place
pub data ProgramRefuses (input : List ℕ) : (n o : ℕ) → Type 0 where
  -- 13 the input is longer than 32,768 bytes, before all else
  too_long : 32768 < length input → ProgramRefuses input 13 0
  -- 10, 11 or 12 at its place, the leftmost, the buffers holding 4,096 cells
  unread : {n o : ℕ} → length input ≤ 32768 → Leftmost (Draws input 49 4096 4096) n o → ProgramRefuses input n o
  -- what the start refuses of the sheet that was read
  unstarted : {s : Sheet} {n : ℕ} → length input ≤ 32768 → IsSheet input s → StartRefuses s n
      → ProgramRefuses input n 0

-- no refusal is due
abbrev pub Unrefused : List ℕ → Type 0
Unrefused input = (n o : ℕ) → ProgramRefuses input n o → ⊥

-- ---- a sheet with its figures
-- the dots of its start
abbrev pub first_dots : Sheet → List ℕ
first_dots s = start_dots s.measures s.gray (handed_dots s)

-- the reference (01: the plain plate) that begins with these dots and comes to rest (01: settles)
abbrev pub converged_from : Sheet → Performed ConvergeResult
converged_from s = converge (sheet_target s) s.measures.reach (begin (sheet_target s) (first_dots s))

-- what is printed of a sheet: the sheet with the dots at rest, and the two lines of the ledger with their six figures
pub record Printed (input : List ℕ) (s : Sheet) : Type 0 where
  pub dots : List ℕ
  pub before : ℕ
  pub after : ℕ
  pub on : ℕ
  pub off : ℕ
  pub swaps : ℕ
  pub scans : ℕ
  pub is_printed : output input ≡ sheet_text (written_sheet s.measures s.psf s.gray dots)
      ++ figures_text before after on off swaps scans
  -- the dots are those of the reference, at rest
  pub dots_are_reference : dots ≡ (converged_from s).after.dots
  pub is_at_rest : Rest (sheet_target s) s.measures.reach dots (filtered_errors (sheet_target s) dots)
  -- before: E of the dots of the start
  pub before_is_of_start : pos before ≡ squared_error (sheet_target s) (first_dots s)
  -- after: E of the dots printed
  pub after_is_of_dots : pos after ≡ squared_error (sheet_target s) dots
  -- the three counts and the scans are those of the reference
  pub on_is_reference : on ≡ (converged_from s).after.figures.on
  pub off_is_reference : off ≡ (converged_from s).after.figures.off
  pub swaps_is_reference : swaps ≡ (converged_from s).after.figures.swaps
  pub scans_is_reference : scans ≡ (converged_from s).answer.scans
  -- without the two lines it is a sheet, which the program takes again
  pub is_a_sheet : let w = written_sheet s.measures s.psf s.gray dots in IsSheet (sheet_text w) w
  pub is_taken_again : Unrefused (sheet_text (written_sheet s.measures s.psf s.gray dots))

-- a sheet was handed in, and is printed so
abbrev pub PrintsSheet : List ℕ → Type 0
PrintsSheet input = (s : Sheet) × IsSheet input s × Printed input s

-- ---- the promise
pub record ProgramPromises (input : List ℕ) : Type 0 where
  -- a refusal is printed exactly when it is due
  pub refuses_exactly : (n o : ℕ)
      → (output input ≡ refused_text n o → ProgramRefuses input n o)
      × (ProgramRefuses input n o → output input ≡ refused_text n o)
  -- at most one is due
  pub one_refusal : (n o n' o' : ℕ) → ProgramRefuses input n o → ProgramRefuses input n' o' → (n ≡ n') × (o ≡ o')
  -- and a sheet is printed exactly when none is
  pub prints_exactly : (PrintsSheet input → Unrefused input) × (Unrefused input → PrintsSheet input)
  -- where one is due, what is printed does not even begin with a sheet
  pub no_sheet_when_refused : (n o : ℕ) → ProgramRefuses input n o → (s : Sheet) (rest : List ℕ)
      → output input ≡ sheet_text s ++ rest → ⊥
