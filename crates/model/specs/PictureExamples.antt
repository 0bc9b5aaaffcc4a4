-- Small files that show the rules of C-11, as one table: a field for each. `picture_examples` of
-- proofs/PictureExamples.antt fills it by computing.
use Rattle.std.specs.Prelude.{List, [], ◌∷◌, ◌++◌, ◌≡◌, ℕ}
use Rattle.model.specs.declared.Size.{Size}
use Rattle.model.specs.Text.{bytes}
use Rattle.model.specs.Calls.{Reply, result, refused}
use Rattle.model.specs.Netpbm.{pbm_file, pgm_file, row_counts}
use Rattle.model.specs.PictureCalls.{read_pbm_call, read_pgm_call}

abbrev pub size : (width height : ℕ) → Size
size w h = record { width = w; height = h }

-- ten bytes 7, and what is answered of a file that is read into them
abbrev pub sevens : List ℕ
sevens = 7 ∷ 7 ∷ 7 ∷ 7 ∷ 7 ∷ 7 ∷ 7 ∷ 7 ∷ 7 ∷ 7 ∷ []

abbrev pub pbm_reply : List ℕ → Reply Size
pbm_reply file = (read_pbm_call file sevens).reply

abbrev pub pgm_reply : List ℕ → Reply Size
pgm_reply file = (read_pgm_call file sevens).reply

pub record PictureExamples : Type 0 where
  -- 9 by 1 from AA FF: seven spare bits are passed over, and the tenth byte of the buffer stays
  pub pbm_is_read : read_pbm_call (bytes "P4\n# made by hand\n9 1\n" ++ (0xAA ∷ 0xFF ∷ [])) sevens
      ≡ record { reply = result (size 9 1); left = 1 ∷ 0 ∷ 1 ∷ 0 ∷ 1 ∷ 0 ∷ 1 ∷ 0 ∷ 1 ∷ 7 ∷ [] }
  -- a comment counts as nothing: it may stand in a number, but is no white space, nor does its end delimit the raster
  pub comment_in_number : pbm_reply (bytes "P4\n0#c\n9 1\n" ++ (0xAA ∷ 0xFF ∷ [])) ≡ result (size 9 1)
  pub comment_is_no_space : pbm_reply (bytes "P4#c\n1 1\n" ++ (0x80 ∷ [])) ≡ refused 14 0
  pub comment_delimits_nothing : pbm_reply (bytes "P4\n1 1#c\n" ++ (0x80 ∷ [])) ≡ refused 14 0
  -- a raster that is too short, and one byte too long
  pub raster_too_short : pbm_reply (bytes "P4\n9 1\n" ++ (0xAA ∷ [])) ≡ refused 14 0
  pub raster_too_long : pbm_reply (bytes "P4\n1 1\n" ++ (0x80 ∷ 0x0A ∷ [])) ≡ refused 14 0
  -- gray is 255 less the stored value; a comment ends at CR too
  pub pgm_is_read : read_pgm_call (bytes "P5 0#x\n1#y" ++ (13 ∷ bytes " 001 0255\t" ++ (35 ∷ []))) (9 ∷ [])
      ≡ record { reply = result (size 1 1); left = 220 ∷ [] }
  -- 15 is for a maximum that the layout allows, at one byte a cell
  pub maximum_65535 : pgm_reply (bytes "P5 1 1 65535\n" ++ (0 ∷ [])) ≡ refused 15 0
  pub maximum_65535_in_two_bytes : pgm_reply (bytes "P5 1 1 65535\n" ++ (0 ∷ 0 ∷ [])) ≡ refused 14 0
  pub maximum_65536 : pgm_reply (bytes "P5 1 1 65536\n" ++ (0 ∷ [])) ≡ refused 14 0
  pub maximum_0 : pgm_reply (bytes "P5 1 1 0\n" ++ (0 ∷ [])) ≡ refused 14 0
  -- 9 by 2 is written in rows of two bytes, spare bits 0; gray is written 255 less; spare bits are not counted
  pub pbm_is_written : pbm_file (size 9 2)
      (1 ∷ 0 ∷ 1 ∷ 0 ∷ 1 ∷ 0 ∷ 1 ∷ 0 ∷ 1 ∷ 0 ∷ 0 ∷ 0 ∷ 0 ∷ 0 ∷ 0 ∷ 0 ∷ 0 ∷ 1 ∷ [])
      ≡ bytes "P4\n9 2\n" ++ (0xAA ∷ 0x80 ∷ 0 ∷ 0x80 ∷ [])
  pub pgm_is_written : pgm_file (size 2 1) (255 ∷ 35 ∷ []) ≡ bytes "P5\n2 1\n255\n" ++ (0 ∷ 220 ∷ [])
  pub rows_are_counted : row_counts (size 9 2) (0xAA ∷ 0xFF ∷ 0 ∷ 0x7F ∷ []) ≡ 5 ∷ 0 ∷ []
