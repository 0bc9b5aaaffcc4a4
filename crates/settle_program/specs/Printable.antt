-- A plate that can be printed: measures in their fields, as many bytes as they ask for, at most 4,096 cells; and an
-- output that is long enough.
use Rattle.std.specs.Prelude.{List, ℕ, ◌≤◌, ◌≡◌, length, Result, Ok, Err}
use Rattle.model.specs.declared.Measures.{Measures}
use Rattle.model.specs.declared.Refused.{Refused}
use Rattle.model.specs.declared.Setting.{Setting}
use Rattle.model.specs.Reason.{number_of}
use Rattle.model.specs.Basic.{AtMost}
use Rattle.model.specs.Sheet.{cells_of, InRange, Shaped}
use Rattle.model.specs.SheetCalls.{written_sheet}
use Rattle.model.specs.Program.{refused_text, most_printed, Prints}

pub record Printable (s : Setting) (dots out : List ℕ) : Type 0 where
  pub in_range : InRange s.measures
  pub shaped : Shaped (written_sheet s.measures s.psf.now s.gray.now dots)
  pub psf_most : AtMost 255 s.psf.now
  pub gray_most : AtMost 255 s.gray.now
  pub few : cells_of s.measures ≤ 4096
  pub room : most_printed ≤ length out

-- a text that is put at the front of an output, or the refusal that it is
abbrev pub Told : (text out₀ out : List ℕ) → Result ℕ Refused → Type 0
Told text out₀ out (Ok end) = Prints text out₀ out end
Told text out₀ out (Err r) = (text ≡ refused_text (number_of r.reason) r.at) × (out ≡ out₀)
