-- The promises of C-11 (02): a record for each call or two of them, a field for each sentence. That they hold is
-- `picture_promises` of proofs/Main.antt.
use Rattle.std.specs.Prelude.{List, [], ◌∷◌, ◌⊎◌, ◌≡◌, ℕ, ◌+◌, ◌-◌, ◌*◌, ◌≤◌, ◌<◌, pos, length, get_or, take, drop}
use Rattle.std.proofs.lemmas.List.Edits.{sets}
use Rattle.model.specs.declared.Size.{Size}
use Rattle.model.specs.declared.Stats.{Stats}
use Rattle.model.specs.Basic.{Exactly, AtMost}
use Rattle.model.specs.Psf.{total}
use Rattle.model.specs.Error.{Target}
use Rattle.model.specs.Refusal.{first_of}
use Rattle.model.specs.Ledger.{ledger_dots}
use Rattle.model.specs.State.{bad_stats}
use Rattle.model.specs.Calls.{result, refused}
use Rattle.model.specs.Netpbm.{IsPbm, IsPgm, cells_in, row_bytes, packed_size, packed, bit_at, unpacked, negated}
use Rattle.model.specs.Netpbm.{row_counts, row_totals, pbm_file, pgm_file}
use Rattle.model.specs.PictureExamples.{PictureExamples}
use Rattle.model.specs.PictureCalls.{read_pbm_call, read_pgm_call, write_pbm_call, write_pgm_call}

-- ---- reading: of any bytes, into any buffer
module _ (file dots : List ℕ) where
  pub record PbmReadingPromises : Type 0 where
    -- a file is read exactly when it is a PBM by the layout, with a size as in 1, and the buffer has room
    pub pbm_is_read_exactly : (z : Size)
        → Exactly ((read_pbm_call file dots).reply ≡ result z) (IsPbm z file × (cells_in z ≤ length dots))
    -- its dots are the bits of its raster, at the front of the buffer; what lies past them remains
    pub read_dots_are_bits : (z : Size) (p : IsPbm z file) → cells_in z ≤ length dots
        → (read_pbm_call file dots).left ≡ sets dots 0 (unpacked z p.raster)
    -- its raster, of which the dots per row are counted, is its last height × ⌈width / 8⌉ bytes
    pub raster_is_last : (z : Size) (p : IsPbm z file) → drop (length file - packed_size z) file ≡ p.raster
    -- 14 exactly when it is none, 12 exactly when it is one and the buffer is too short
    pub pbm_draws_14_exactly : Exactly ((read_pbm_call file dots).reply ≡ refused 14 0) ((z : Size) → IsPbm z file → ⊥)
    pub pbm_draws_12_exactly : Exactly ((read_pbm_call file dots).reply ≡ refused 12 0)
        ((z : Size) × IsPbm z file × (length dots < cells_in z))
    -- nothing else is drawn, and what is refused leaves the buffer as it was
    pub pbm_draws_nothing_else : (number at : ℕ) → (read_pbm_call file dots).reply ≡ refused number at
        → ((number ≡ 14) ⊎ (number ≡ 12)) × (at ≡ 0) × ((read_pbm_call file dots).left ≡ dots)

module _ (file gray : List ℕ) where
  pub record PgmReadingPromises : Type 0 where
    -- a file is read exactly when it is a PGM by the layout, with a size as in 1 and the maximum 255, and the buffer
    -- has room
    pub pgm_is_read_exactly : (z : Size)
        → Exactly ((read_pgm_call file gray).reply ≡ result z) (IsPgm z 255 file × (cells_in z ≤ length gray))
    -- its gray is 255 less each byte of its raster, at the front of the buffer; what lies past it remains
    pub read_gray_is_negated : (z : Size) (p : IsPgm z 255 file) → cells_in z ≤ length gray
        → (read_pgm_call file gray).left ≡ sets gray 0 (negated p.raster)
    -- 14 exactly when it is none; 15 exactly when the layout allows it, and its maximum is 1 to 65,535 but not 255; 12
    -- exactly when its maximum is 255 and the buffer is too short
    pub pgm_draws_14_exactly : Exactly ((read_pgm_call file gray).reply ≡ refused 14 0)
        ((z : Size) (maximum : ℕ) → IsPgm z maximum file → ⊥)
    pub pgm_draws_15_exactly : Exactly ((read_pgm_call file gray).reply ≡ refused 15 0)
        ((z : Size) × (maximum : ℕ) × IsPgm z maximum file × (maximum ≡ 255 → ⊥))
    pub pgm_draws_12_exactly : Exactly ((read_pgm_call file gray).reply ≡ refused 12 0)
        ((z : Size) × IsPgm z 255 file × (length gray < cells_in z))
    -- nothing else is drawn, and what is refused leaves the buffer as it was
    pub pgm_draws_nothing_else : (number at : ℕ) → (read_pgm_call file gray).reply ≡ refused number at
        → ((number ≡ 14) ⊎ ((number ≡ 15) ⊎ (number ≡ 12))) × (at ≡ 0) × ((read_pgm_call file gray).left ≡ gray)

-- ---- writing: of any picture that is not refused, written in k bytes
module _ (z : Size) (dots out : List ℕ) (k : ℕ) where
  pub record PbmWritingPromises : Type 0 where
    -- the first k bytes are the file with these lines and this raster, a PBM by the layout
    pub written_pbm_is_file : take k (write_pbm_call z dots out).left ≡ pbm_file z dots
    pub written_pbm_is_pbm : IsPbm z (pbm_file z dots)
    -- it reads back as the dots, into any buffer with room
    pub written_pbm_reads_back : (d : List ℕ) → cells_in z ≤ length d
        → let r = read_pbm_call (take k (write_pbm_call z dots out).left) d in
        (r.reply ≡ result z) × (r.left ≡ sets d 0 dots)
    -- a cell's bit is set exactly when it is a dot, and spare bits are 0
    pub packed_bits_are_dots : (row col : ℕ) → row < z.height → col < z.width
        → bit_at z.width (packed z dots) row col ≡ get_or dots (row * z.width + col) 0
    pub spare_bits_are_0 : (row col : ℕ) → row < z.height → z.width ≤ col → col < 8 * row_bytes z.width
        → bit_at z.width (packed z dots) row col ≡ 0

module _ (z : Size) (gray out : List ℕ) (k : ℕ) where
  pub record PgmWritingPromises : Type 0 where
    -- the first k bytes are the file with these lines and this raster, a PGM by the layout
    pub written_pgm_is_file : take k (write_pgm_call z gray out).left ≡ pgm_file z gray
    pub written_pgm_is_pgm : IsPgm z 255 (pgm_file z gray)
    -- it reads back as the gray, into any buffer with room
    pub written_pgm_reads_back : (g : List ℕ) → cells_in z ≤ length g
        → let r = read_pgm_call (take k (write_pgm_call z gray out).left) g in
        (r.reply ≡ result z) × (r.left ≡ sets g 0 gray)

-- ---- the dots per row: of dots, a byte 0 or 1 for each cell
module _ (z : Size) (dots : List ℕ) where
  pub record CountingPromises : Type 0 where
    -- counted from the packed bytes they are the dots of each row
    pub row_counts_are_dots : row_counts z (packed z dots) ≡ row_totals z dots
    -- and their sum is the dot total of any ledger that 21 passes with these dots
    pub row_counts_sum_to_ledger : (t : Target) (s : Stats) → first_of (bad_stats t dots s ∷ []) ≡ 0
        → pos (total (row_counts z (packed z dots))) ≡ ledger_dots s.figures

-- ---- all of them
pub record PicturePromises : Type 0 where
  pub pbm_reading_promises : (file dots : List ℕ) → PbmReadingPromises file dots
  pub pgm_reading_promises : (file gray : List ℕ) → PgmReadingPromises file gray
  pub pbm_writing_promises : (z : Size) (dots out : List ℕ) (k : ℕ) → (write_pbm_call z dots out).reply ≡ result k
      → PbmWritingPromises z dots out k
  pub pgm_writing_promises : (z : Size) (gray out : List ℕ) (k : ℕ) → (write_pgm_call z gray out).reply ≡ result k
      → AtMost 255 gray → PgmWritingPromises z gray out k
  pub counting_promises : (z : Size) (dots : List ℕ) → length dots ≡ cells_in z → AtMost 1 dots
      → CountingPromises z dots
  -- small files that show the rules
  pub picture_examples_hold : PictureExamples
