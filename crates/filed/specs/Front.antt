-- The sheet with these measures that stands in the fronts of buffers.
use Rattle.std.specs.Prelude.{List, ℕ, take}
use Rattle.model.specs.declared.Measures.{Measures}
use Rattle.model.specs.Sheet.{Sheet, entries_of, cells_of}

abbrev pub front_of : Measures → (psf gray dots : List ℕ) → Sheet
front_of m psf gray dots = record {
  measures = m;
  psf = take (entries_of m) psf;
  gray = take (cells_of m) gray;
  dots = take (cells_of m) dots;
}
