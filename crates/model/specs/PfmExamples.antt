-- Small files and samples that show the rules of C-16, as one table: a field for each. `pfm_examples` of
-- proofs/PfmExamples.antt fills it by computing.
use Rattle.std.specs.Prelude.{List, [], ◌∷◌, ◌++◌, ◌≡◌, ℕ, Float, Bool, true}
use Rattle.model.specs.declared.PfmHeader.{PfmHeader}
use Rattle.model.specs.Text.{bytes}
use Rattle.model.specs.Calls.{Reply, result, refused}
use Rattle.model.specs.Pfm.{one_float, minus_one, sample_of, gray_of, is_no_shade}
use Rattle.model.specs.PfmCalls.{read_pfm_call}

abbrev pub header : (width height : ℕ) → Float → PfmHeader
header w h v = record { width = w; height = h; scale = v }

-- three bytes 9, and what is answered of a file that is read into them
abbrev pub nines : List ℕ
nines = 9 ∷ 9 ∷ 9 ∷ []

abbrev pub pfm_reply : List ℕ → Reply PfmHeader
pfm_reply file = (read_pfm_call file nines).reply

abbrev pub gray : (bits : ℕ) → ℕ
gray bits = gray_of (sample_of bits)

abbrev pub no_shade : (bits : ℕ) → Bool
no_shade bits = is_no_shade (sample_of bits)

pub record PfmExamples : Type 0 where
  -- 1 by 2, little-endian: 1.0 stands first in the file, so below 0.5; the third byte of the buffer stays
  pub pfm_is_read : read_pfm_call (bytes "Pf\n1 2\n-1.0\n" ++ (0 ∷ 0 ∷ 0x80 ∷ 0x3F ∷ 0 ∷ 0 ∷ 0 ∷ 0x3F ∷ [])) nines
      ≡ record { reply = result (header 1 2 minus_one); left = 127 ∷ 0 ∷ 9 ∷ [] }
  -- big-endian: minus zero is 0, and the float above 1 is no shade
  pub minus_zero_is_read : read_pfm_call (bytes "Pf\n1 1\n1.0\n" ++ (0x80 ∷ 0 ∷ 0 ∷ 0 ∷ [])) nines
      ≡ record { reply = result (header 1 1 one_float); left = 255 ∷ 9 ∷ 9 ∷ [] }
  pub above_1 : pfm_reply (bytes "Pf\n1 1\n1.0\n" ++ (0x3F ∷ 0x80 ∷ 0 ∷ 1 ∷ [])) ≡ refused 18 11
  -- the second sample is no number, and the third, above it, is below 0
  pub second_sample : pfm_reply (bytes "Pf\n1 3\n1.0\n" ++ (0 ∷ 0 ∷ 0 ∷ 0 ∷ 0x7F ∷ 0xC0 ∷ 0 ∷ 0 ∷ 0x80 ∷ 0 ∷ 0 ∷ 1 ∷ []))
      ≡ refused 18 15
  -- a leading zero, another scale text, three bytes for a sample, and five
  pub leading_zero : pfm_reply (bytes "Pf\n01 1\n1.0\n" ++ (0 ∷ 0 ∷ 0 ∷ 0 ∷ [])) ≡ refused 17 0
  pub other_scale : pfm_reply (bytes "Pf\n1 1\n1.00\n" ++ (0 ∷ 0 ∷ 0 ∷ 0 ∷ [])) ≡ refused 17 0
  pub too_short : pfm_reply (bytes "Pf\n1 1\n1.0\n" ++ (0 ∷ 0 ∷ 0 ∷ [])) ≡ refused 17 0
  pub too_long : pfm_reply (bytes "Pf\n1 1\n1.0\n" ++ (0 ∷ 0 ∷ 0 ∷ 0 ∷ 0 ∷ [])) ≡ refused 17 0
  -- 12 comes before 18
  pub no_room : pfm_reply (bytes "Pf\n2 2\n1.0\n"
      ++ (0x7F ∷ 0xC0 ∷ 0 ∷ 0 ∷ 0 ∷ 0 ∷ 0 ∷ 0 ∷ 0 ∷ 0 ∷ 0 ∷ 0 ∷ 0 ∷ 0 ∷ 0 ∷ 0 ∷ [])) ≡ refused 12 0
  -- 1/2 goes up, the float below it does not; round 257/510, where arithmetic in 32 bits errs, and round 509/510
  pub half : gray 0x3F000000 ≡ 127
  pub below_half : gray 0x3EFFFFFF ≡ 128
  pub below_257 : gray 0x3F010101 ≡ 127
  pub above_257 : gray 0x3F010102 ≡ 126
  pub below_509 : gray 0x3F7F7F7F ≡ 1
  pub above_509 : gray 0x3F7F7F80 ≡ 0
  -- the smallest float is black, the one below 0 is no shade, nor an infinity
  pub smallest : gray 0x00000001 ≡ 255
  pub below_0 : no_shade 0x80000001 ≡ true
  pub infinity : no_shade 0x7F800000 ≡ true
