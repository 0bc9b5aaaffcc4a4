-- Locked cells (02: paper and ink that are never touched): gray 0 is bare paper and stays blank, gray 255 is lettering
-- and plot outlines and stays solid. Which cells are locked goes by the gray alone.
use Rattle.std.specs.Prelude.{Bool, true, false, ◌&&◌, ◌||◌, not, List, ◌≡◌, ℕ, ◌<◌, eqb, get_or}
use Rattle.model.specs.Basic.{pick, some_below}
use Rattle.model.specs.Error.{Target, cells, black}

-- a cell of that gray is locked
abbrev pub locked_gray : (gray : ℕ) → Bool
locked_gray g = eqb g 0 || eqb g black

-- cell n is
unfoldable pub locked : (gray : List ℕ) → ℕ → Bool
locked gray n = locked_gray (get_or gray n 0)

-- the byte that a locked cell holds: paper is blank, all else solid
abbrev pub locked_byte : (top gray : ℕ) → ℕ
locked_byte top g = pick (eqb g 0) 0 top

module _ (t : Target) where
  -- a cell that is not locked
  abbrev pub Free : ℕ → Type 0
  Free n = locked t.gray n ≡ false

  -- the byte of cell n, where it is locked
  abbrev pub byte_at : ℕ → ℕ
  byte_at n = locked_byte t.top (get_or t.gray n 0)

  module _ (dots : List ℕ) where
    -- cell n is locked and holds another byte
    abbrev pub contradicts : ℕ → Bool
    contradicts n = locked t.gray n && not (eqb (get_or dots n 0) (byte_at n))

    -- some cell does
    abbrev pub contradiction : Bool
    contradiction = some_below (cells t) contradicts

    -- every locked cell holds its byte
    pub record LocksHold : Type 0 where
      pub each : (n : ℕ) → n < cells t → locked t.gray n ≡ true → get_or dots n 0 ≡ byte_at n
