-- The ledger (01), `Stats`: E now and the `Figures` kept from the start on. What an accepted change adds to them, what
-- they say together, and 21, which compares them with the plate.
use Rattle.std.specs.Prelude.{Bool, false, ◌||◌, List, [], ◌∷◌, ℕ, ◌+◌, ◌-◌, ◌^◌, ltb, ℤ, pos, negsuc, ◌+ℤ◌, ◌-ℤ◌, ◌*ℤ◌}
use Rattle.std.specs.Int.Signed.{lt_z}
use Rattle.model.specs.declared.Figures.{Figures}
use Rattle.model.specs.declared.Stats.{Stats}
use Rattle.model.specs.Psf.{total}
use Rattle.model.specs.Error.{Target, most_squared, squared_error}
use Rattle.model.specs.Refusal.{Refusal, ◌when◌}

-- ---- the counts
-- the count that a change raises: toggles on, toggles off, swaps
pub data Count : Type 0 where
  on_count : Count
  off_count : Count
  swap_count : Count

-- what such a change adds to the dots on the plate
abbrev pub net_of : Count → ℤ
net_of on_count = pos 1
net_of off_count = negsuc 0
net_of swap_count = pos 0

-- the most that a count may be
abbrev pub most_count : ℕ
most_count = 2 ^ 44

-- the figures of the same start with these counts
abbrev pub with_counts : Figures → (on off swaps : ℕ) → Figures
with_counts f on off swaps =
    record { start_error = f.start_error; start_dots = f.start_dots; on = on; off = off; swaps = swaps }

-- on acceptance the one matching count rises by 1
unfoldable pub raised : Count → Figures → Figures
raised on_count f = with_counts f (f.on + 1) f.off f.swaps
raised off_count f = with_counts f f.on (f.off + 1) f.swaps
raised swap_count f = with_counts f f.on f.off (f.swaps + 1)

-- E now gains the change, and the one matching count rises by 1
unfoldable pub counted : Stats → (change : ℤ) → Count → Stats
counted s change k = record { error = s.error +ℤ change; figures = raised k s.figures }

-- ---- what the figures say together
-- the accepted changes since the start
abbrev pub changes : Figures → ℕ
changes f = f.on + f.off + f.swaps

-- the dots that are to be on the plate: dots at the start + on - off
abbrev pub ledger_dots : Figures → ℤ
ledger_dots f = pos f.start_dots +ℤ pos f.on -ℤ pos f.off

-- a count: a number below 0 is none, and stands for the greatest of 64 bits, which 21 refuses
abbrev pub count_of : ℤ → ℕ
count_of (pos n) = n
count_of (negsuc n) = 2 ^ 64 - 1

-- the fall: E at the start - E now
abbrev pub fall_of : Stats → ℤ
fall_of s = s.figures.start_error -ℤ s.error

-- the dot total: the number of dots on the plate, each byte being 0 or 1
abbrev pub dot_total : List ℕ → ℕ
dot_total = total

-- ---- a fresh ledger, of these dots
module _ (t : Target) (dots : List ℕ) where
  -- fresh figures: the squared error, the dots counted, and the counts 0
  abbrev pub fresh_figures : Figures
  fresh_figures =
      record {
        start_error = squared_error t dots;
        start_dots = dot_total dots;
        on = 0;
        off = 0;
        swaps = 0;
      }

  -- a fresh ledger: E now is E at the start
  unfoldable pub fresh_stats : Stats
  fresh_stats = record { error = squared_error t dots; figures = fresh_figures }

-- ---- 21
-- two numbers differ
abbrev pub unequal : ℤ → ℤ → Bool
unequal a b = lt_z a b || lt_z b a

-- one of the tests holds
abbrev pub some : List Bool → Bool
some [] = false
some (b ∷ l) = b || some l

-- its six conditions, against the number of cells, what a dot is worth, E of the dots and the dot total
module _ (cells step : ℕ) (squared : ℤ) (total : ℕ) where
  -- E now differs
  abbrev pub wrong_error : Stats → Bool
  wrong_error s = unequal s.error squared

  -- E at the start outside 0 to its maximum
  abbrev pub wrong_start : Figures → Bool
  wrong_start f = some (lt_z f.start_error (pos 0) ∷ lt_z (pos most_squared) f.start_error ∷ [])

  -- a count above 2^44
  abbrev pub wrong_count : Figures → Bool
  wrong_count f = some (ltb most_count f.on ∷ ltb most_count f.off ∷ ltb most_count f.swaps ∷ [])

  -- dots at the start above width × height
  abbrev pub wrong_dots : Figures → Bool
  wrong_dots f = ltb cells f.start_dots

  -- the count of dots on the plate differs from dots at the start + on - off
  abbrev pub wrong_total : Figures → Bool
  wrong_total f = unequal (pos total) (ledger_dots f)

  -- 255 × (on + off + swaps) exceeds E at the start - E now
  abbrev pub wrong_fall : Stats → Bool
  wrong_fall s = lt_z (fall_of s) (pos step *ℤ pos (changes s.figures))

  -- the six together
  abbrev pub faults : Stats → List Bool
  faults s =
      let f = s.figures in
      wrong_error s ∷ wrong_start f ∷ wrong_count f ∷ wrong_dots f ∷ wrong_total f ∷ wrong_fall s ∷ []

  unfoldable pub wrong_stats : Stats → Refusal
  wrong_stats s = 21 when some (faults s)
