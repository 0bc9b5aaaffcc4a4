-- The filed sheet, which is exactly what `settle` prints of a plate: a sheet with start 2, then the two lines of the
-- ledger with its six figures. Its text, its grammar, and which filed sheets there are.
use Rattle.std.specs.Prelude.{Bool, ◌&&◌, List, [], ◌∷◌, ◌++◌, ◌≡◌, ℕ, leb, get_or, take, drop}
use Rattle.model.specs.declared.FiledFigures.{FiledFigures}
use Rattle.model.specs.declared.Measures.{Measures}
use Rattle.model.specs.Basic.{AtMost}
use Rattle.model.specs.Text.{space, line_end}
use Rattle.model.specs.Sheet.{Sheet, cells_of, room_for, sheet_text, Valid}
use Rattle.model.specs.Format.{Part, fixed, number, head_from, body, sheet_of}
use Rattle.model.specs.Program.{figures_name, figures_text}
use Rattle.model.specs.Grammar.{numbers, Grammar, Taken, read_by_grammar}

-- ---- the text
abbrev pub filed_text : Sheet → FiledFigures → List ℕ
filed_text s f =
    sheet_text s ++ figures_text f.before f.after f.on f.off f.swaps f.scans

-- the six, in their order
abbrev pub figures_in : FiledFigures → List ℕ
figures_in f = f.before ∷ f.after ∷ f.on ∷ f.off ∷ f.swaps ∷ f.scans ∷ []

-- 2^63 - 1, the largest that can be filed
abbrev pub most_figure : ℕ
most_figure = 9223372036854775807

-- the bytes are those of this sheet with these figures, every number in its field
pub record IsFiled (b : List ℕ) (s : Sheet) (f : FiledFigures) : Type 0 where
  pub is_text : b ≡ filed_text s f
  pub is_valid : Valid s
  pub is_given : s.measures.start ≡ 2
  pub figures_most : AtMost most_figure (figures_in f)

-- ---- the grammar
-- the two lines
unfoldable pub figure_parts : List Part
figure_parts =
    fixed figures_name
    ∷ number 0 most_figure space
    ∷ number 0 most_figure space
    ∷ number 0 most_figure space
    ∷ number 0 most_figure space
    ∷ number 0 most_figure space
    ∷ number 0 most_figure line_end
    ∷ []

-- a sheet whose start is 2, and the two lines
abbrev pub filed_grammar : Grammar
filed_grammar = record { lines = head_from 2; below = λ m. body m ++ figure_parts }

-- the buffers are long enough, the table's too
abbrev pub filed_room : (psf gray dots table : ℕ) → Measures → Bool
filed_room psf gray dots table m = room_for m psf gray dots && leb (cells_of m) table

-- ---- reading it
abbrev pub figures_of : List ℕ → FiledFigures
figures_of vs = record {
  before = get_or vs 0 0;
  after = get_or vs 1 0;
  on = get_or vs 2 0;
  off = get_or vs 3 0;
  swaps = get_or vs 4 0;
  scans = get_or vs 5 0;
}

-- the sheet and the figures among the values that follow line 2
abbrev pub filed_sheet : Measures → List ℕ → Sheet
filed_sheet m vs = sheet_of m (take (numbers (body m)) vs)

abbrev pub filed_figures : Measures → List ℕ → FiledFigures
filed_figures m vs = figures_of (drop (numbers (body m)) vs)

abbrev pub read_filed : List ℕ → (psf gray dots table : ℕ) → Taken
read_filed s psf gray dots table = read_by_grammar filed_grammar (filed_room psf gray dots table) s
