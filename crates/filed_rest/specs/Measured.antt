-- A plate that none of 1 to 7 refuses, with its table and its squared error; and one that a start takes.
use Rattle.std.specs.Prelude.{List, ◌≡◌, ℕ, ℤ, length}
use Rattle.model.specs.declared.Measures.{Measures}
use Rattle.model.specs.Error.{target_for, filtered_errors, squared_error}
use Rattle.model.specs.Lock.{LocksHold}
use Rattle.model.specs.Refusal.{PlateFits}

module _ (m : Measures) (psf gray dots : List ℕ) (table : List ℤ) (squared : ℤ) where
  pub record Measured : Type 0 where
    pub plate : PlateFits m psf gray dots (length table)
    pub table_is : table ≡ filtered_errors (target_for m psf gray) dots
    pub squared_is : squared ≡ squared_error (target_for m psf gray) dots

  -- its locked cells hold their bytes too
  pub record Startable : Type 0 where
    pub measured : Measured
    pub locks : LocksHold (target_for m psf gray) dots
