-- The promises of C-16 (02): what a sample is read as and how bright it is, and what reading a file comes to. That they
-- hold is `pfm_promises` of proofs/Main.antt.
use Rattle.std.specs.Prelude.{true, false, List, ◌≡◌, ℕ, ◌+◌, ◌*◌, ◌-◌, ◌^◌, ◌≤◌, ◌<◌, Float, length, get_or}
use Rattle.std.specs.Float.{nan, binary32}
use Rattle.std.specs.Float.Ieee.{of_bits}
use Rattle.std.specs.Float.Ieee.Positive.{num, den}
use Rattle.std.proofs.lemmas.List.Edits.{sets}
use Rattle.model.specs.declared.PfmHeader.{PfmHeader}
use Rattle.model.specs.declared.Sample.{Sample}
use Rattle.model.specs.declared.Sample.TheVariants.{Shade, Outside, NotANumber}
use Rattle.model.specs.Basic.{Exactly}
use Rattle.model.specs.Calls.{result, refused, Outcome}
use Rattle.model.specs.Netpbm.{cells_in}
use Rattle.model.specs.Pfm.{size_in, is_little, pfm_head, IsPfm, sample_of, From0To1, ShadeBits, NoNumberBits}
use Rattle.model.specs.Pfm.{exponent_of, units_of, Nearest, brightness, gray_of, sample_at, is_no_shade, raster_gray}
use Rattle.model.specs.PfmCalls.{read_pfm_call}
use Rattle.model.specs.PfmExamples.{PfmExamples}
use Rattle.model.specs.Interface.{longest_pfm}

-- ---- a sample of 32 bits, and its value as a float
module _ (bits : ℕ) where
  abbrev pub value : Float
  value = of_bits binary32 bits

  pub record SamplePromises : Type 0 where
    -- it is a shade, no number, or a value outside 0 to 1, each exactly when: by its bits
    pub shade_by_bits : Exactly (sample_of bits ≡ Shade value) (ShadeBits bits)
    pub no_number_by_bits : Exactly (sample_of bits ≡ NotANumber) (NoNumberBits bits)
    pub outside_by_bits : Exactly (sample_of bits ≡ Outside value) ((ShadeBits bits → ⊥) × (NoNumberBits bits → ⊥))
    -- and by its value
    pub shade_by_value : Exactly (sample_of bits ≡ Shade value) (From0To1 value)
    pub no_number_by_value : Exactly (sample_of bits ≡ NotANumber) (value ≡ nan)
    pub outside_by_value : Exactly (sample_of bits ≡ Outside value) ((From0To1 value → ⊥) × (value ≡ nan → ⊥))
    -- which is, of a finite float, its units of 2^-149
    pub value_by_bits : exponent_of bits < 255 → num value * 2 ^ 149 ≡ units_of bits * den value
    -- 510 × v is an odd whole number, so that a shade lies midway between two, at 1/2 alone
    pub one_tie : sample_of bits ≡ Shade value → (k : ℕ) → 510 * num value ≡ (2 * k + 1) * den value
        → bits ≡ 0x3F000000

-- ---- the brightness of a float that is not below 0
pub record BrightnessPromises (v : Float) : Type 0 where
  -- it is the k with 2k - 1 ≤ 510 × v < 2k + 1, and no other number is
  pub brightness_is_nearest : Nearest v (brightness v)
  pub nothing_else_is_nearest : (k : ℕ) → Nearest v k → k ≡ brightness v
  -- of a shade it is 255 at most
  pub brightness_is_byte : From0To1 v → brightness v ≤ 255

-- ---- reading a file, into any buffer
module _ (h : PfmHeader) (raster : List ℕ) where
  -- sample i, in file order
  abbrev pub sample : ℕ → Sample
  sample i = sample_at (is_little h.scale) raster i

  -- every sample is a shade
  abbrev pub AllShades : Type 0
  AllShades = (i : ℕ) → i < cells_in (size_in h) → is_no_shade (sample i) ≡ false

  -- sample i is none, and it is the first in file order
  pub record FirstNoShade (i : ℕ) : Type 0 where
    pub in_raster : i < cells_in (size_in h)
    pub no_shade_lem : is_no_shade (sample i) ≡ true
    pub before : (j : ℕ) → j < i → is_no_shade (sample j) ≡ false

module _ (file gray : List ℕ) where
  -- the buffer has room
  abbrev pub HasRoom : PfmHeader → Type 0
  HasRoom h = cells_in (size_in h) ≤ length gray

  -- refused, the buffer as it was
  abbrev pub turned_away : (number at : ℕ) → Outcome PfmHeader (List ℕ)
  turned_away number at = record { reply = refused number at; left = gray }

  -- what it comes to: each case leaves out what the ones above it have, so one alone holds
  pub data PfmAnswer (o : Outcome PfmHeader (List ℕ)) : Type 0 where
    -- 17 it is no gray PFM with any header
    draws_17 : ((h : PfmHeader) → IsPfm h file → ⊥) → o ≡ turned_away 17 0 → PfmAnswer o
    -- 12 it is one, and the buffer is too short
    draws_12 : (h : PfmHeader) → IsPfm h file → (HasRoom h → ⊥) → o ≡ turned_away 12 0 → PfmAnswer o
    -- 18 a sample is no shade: at the first byte of the first such sample in file order
    draws_18 : (h : PfmHeader) (p : IsPfm h file) → HasRoom h → (i : ℕ) → FirstNoShade h p.raster i
        → o ≡ turned_away 18 (length (pfm_head h) + 4 * i) → PfmAnswer o
    -- else it is read: its gray stands at the front of the buffer, and what lies past it remains
    reads : (h : PfmHeader) (p : IsPfm h file) → HasRoom h → AllShades h p.raster
        → o ≡ record { reply = result h; left = sets gray 0 (raster_gray (size_in h) (is_little h.scale) p.raster) }
        → PfmAnswer o

  pub record PfmReadingPromises : Type 0 where
    pub pfm_is_judged : PfmAnswer (read_pfm_call file gray)
    -- a file has one header at most
    pub one_header : (h h' : PfmHeader) → IsPfm h file → IsPfm h' file → h ≡ h'
    -- it is read exactly when it is a gray PFM, the buffer has room, and every sample is a shade
    pub pfm_is_read_exactly : (h : PfmHeader)
        → Exactly ((read_pfm_call file gray).reply ≡ result h) ((p : IsPfm h file) × HasRoom h × AllShades h p.raster)
    -- the lowest row comes first: a cell has the gray of its own sample
    pub lowest_row_comes_first : (h : PfmHeader) (p : IsPfm h file) → (read_pfm_call file gray).reply ≡ result h
        → (row col : ℕ) → row < h.height → col < h.width
        → get_or (read_pfm_call file gray).left (row * h.width + col) 0
        ≡ gray_of (sample h p.raster ((h.height - 1 - row) * h.width + col))

-- ---- all of them
pub record PfmPromises : Type 0 where
  pub sample_promises : (bits : ℕ) → bits < 2 ^ 32 → SamplePromises bits
  pub brightness_promises : (v : Float) → BrightnessPromises v
  pub pfm_reading_promises : (file gray : List ℕ) → PfmReadingPromises file gray
  -- a file of so many bytes has room for every gray PFM
  pub pfms_are_short : (h : PfmHeader) (file : List ℕ) → IsPfm h file → length file ≤ longest_pfm
  -- small files that show the rules
  pub pfm_examples_hold : PfmExamples
