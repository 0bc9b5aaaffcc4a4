-- What the code answers of a text that it reads, as the definitions have it; and a filed sheet from a place on.
use Rattle.std.specs.Prelude.{true, List, ◌++◌, ℕ, Result, Ok, Err, Option, Some, None}
use Rattle.model.specs.declared.After.{After}
use Rattle.model.specs.Format.{Field}
use Rattle.model.specs.declared.FiledFigures.{FiledFigures}
use Rattle.model.specs.declared.Measures.{Measures}
use Rattle.model.specs.declared.PfmHeader.{PfmHeader}
use Rattle.model.specs.PfmCalls.{PfmLines}
use Rattle.model.specs.Format.{Place}
use Rattle.model.specs.declared.Refused.{Refused}
use Rattle.model.specs.Format.{body, field, parse, place, place_of, ended}
use Rattle.model.specs.Filed.{figure_parts, filed_figures}
use Rattle.model.specs.PfmCalls.{no_lines}
use Rattle.model.specs.Reason.{number_of}

-- the place after what was read, or a refusal
abbrev pub place_in : Result ℕ Refused → Place
place_in (Ok at) = place 0 at
place_in (Err r) = place (number_of r.reason) r.at

-- a number and the place after it, or a refusal
abbrev pub field_in : Result (After ℕ) Refused → Field
field_in (Ok a) = field 0 a.at a.value
field_in (Err r) = field (number_of r.reason) r.at 0

-- the lines of a PFM where they are there, and what is found of them
abbrev pub lines_at : After PfmHeader → PfmLines
lines_at a = record { good = true; header = a.value; at = a.at }

abbrev pub lines_in : Option (After PfmHeader) → PfmLines
lines_in None = no_lines
lines_in (Some a) = lines_at a

-- how far a filed sheet is read, with its figures
pub record FiledEnd : Type 0 where
  pub refusal : ℕ
  pub at : ℕ
  pub figures : FiledFigures

-- what follows line 2, from a place on: the end of the filed sheet with its figures, or the first refusal
unfoldable pub filed_end : Measures → List ℕ → ℕ → FiledEnd
filed_end m s at =
    let p = parse (body m ++ figure_parts) s at in
    let e = ended s (place_of p) in
    record { refusal = e.refusal; at = e.at; figures = filed_figures m p.values }
