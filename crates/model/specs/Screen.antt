-- The three kinds of start of document 01: the 16 by 16 Bayer array of thresholds by its bit rule, and the dots that
-- each kind begins with. Locked cells are set at the start (02).
use Rattle.std.specs.Prelude.{List, [], ◌∷◌, ℕ, ◌+◌, ◌*◌, ◌-◌, ◌/◌, ◌%◌, ◌^◌, ltb, eqb, get_or}
use Rattle.model.specs.declared.Measures.{Measures}
use Rattle.model.specs.Basic.{pick, tabulate, bit}
use Rattle.model.specs.Psf.{total}
use Rattle.model.specs.Lock.{locked, locked_byte}

-- D is 0, 2, 3, 1 for bits (0,0), (0,1), (1,0), (1,1) of the row and the column
abbrev pub digit : ℕ → ℕ → ℕ
digit y x = get_or (0 ∷ 2 ∷ 3 ∷ 1 ∷ []) (2 * y + x) 0

-- entry (row, col) of the array, both below 16: the sum for i = 0 to 3 of D × 4^(3 - i)
unfoldable pub bayer : ℕ → ℕ → ℕ
bayer row col = total (tabulate 4 (λ i. digit (bit i row) (bit i col) * 4 ^ (3 - i)))

-- the 256 thresholds, row by row
unfoldable pub thresholds : List ℕ
thresholds = tabulate 256 (λ i. bayer (i / 16) (i % 16))

-- the threshold at a row and a column, both taken modulo 16
unfoldable pub threshold_at : ℕ → ℕ → ℕ
threshold_at row col = bayer (row % 16) (col % 16)

-- the dot that kind 0 gives to cell n: blank, save that a locked cell holds its byte
unfoldable pub blank : (gray : List ℕ) → ℕ → ℕ
blank gray n = pick (locked gray n) (locked_byte 1 (get_or gray n 0)) 0

-- a dot exactly when 256 × gray > 255 × threshold
abbrev pub screened : (gray threshold : ℕ) → ℕ
screened gray threshold = pick (ltb (255 * threshold) (256 * gray)) 1 0

-- the dot that kind 1 gives to cell n, which stands at row n / width, column n % width. Every threshold is at most 255,
-- so a locked cell gets its byte by this rule alone (`ordered_start_respects_locks`).
unfoldable pub ordered : (width : ℕ) (gray : List ℕ) → ℕ → ℕ
ordered width gray n = screened (get_or gray n 0) (threshold_at (n / width) (n % width))

-- the dots of a start: kind 0 makes all blank that is not locked, kind 1 goes by the thresholds, kind 2 takes the dots
-- given
unfoldable pub start_dots : Measures → (gray given : List ℕ) → List ℕ
start_dots m gray given =
    pick (eqb m.start 0) (tabulate (m.height * m.width) (blank gray))
    (pick (eqb m.start 1) (tabulate (m.height * m.width) (ordered m.width gray)) given)
