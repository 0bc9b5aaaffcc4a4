-- The bytes of a table of offsets that are within reach.
use Rattle.std.specs.Prelude.{Bool, ◌&&◌, List, [], ◌∷◌, ℕ, ◌+◌, leb}
use Rattle.model.specs.Basic.{pick}
use Rattle.invariants.specs.Partners.{row_of, column_of}

-- a coordinate, 6 added, is from -reach to reach
abbrev pub near : (reach coordinate : ℕ) → Bool
near reach coordinate = leb 6 (coordinate + reach) && leb coordinate (6 + reach)

-- both are
abbrev pub within : (reach code : ℕ) → Bool
within reach code = near reach (row_of code) && near reach (column_of code)

-- the codes within reach, in their order
unfoldable pub kept : (reach : ℕ) → List ℕ → List ℕ
kept reach [] = []
kept reach (code ∷ l) = pick (within reach code) (code ∷ kept reach l) (kept reach l)
