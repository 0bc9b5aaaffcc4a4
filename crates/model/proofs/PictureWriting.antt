-- What is written reads back, and the dots per row.
--   pbm_written, pgm_written  what a file is that was written, and that it reads back
--   counting                  the dots per row, and their sum
use mathlib.Core.List.{List}
use mathlib.Core.Path.{◌≡◌, refl, sym, ◌∙◌, ap}
use Prim.Native.Nat.{ℕ}
use native.Mathlib.Omega.{arith}
use lib.IntN.{pos}
use lib.ListN.{length, take}
use lib.Seq.{sets}
use Rattle.model.specs.declared.Size.{Size}
use Rattle.model.specs.Basic.{AtMost}
use Rattle.model.specs.Psf.{total}
use Rattle.model.specs.Refusal.{first_of}
use Rattle.model.specs.Calls.{result}
use Rattle.model.specs.Netpbm.{InSize, IsPbm, IsPgm, cells_in, packed, negated, pbm_head, pgm_head, pbm_file, pgm_file}
use Rattle.model.specs.PictureCalls.{write_pbm_refusals, write_pgm_refusals, write_pbm_call, write_pgm_call}
use Rattle.model.specs.PicturePromises.{PbmWritingPromises, PgmWritingPromises, CountingPromises}
use Rattle.model.proofs.Calls.{was_done}
use Rattle.model.proofs.State.{total_known}
use Rattle.model.proofs.Sheet.{front}
use Rattle.model.proofs.WrittenHead.{pbm_head_is_header, pgm_head_is_header}
use Rattle.model.proofs.Raster.{packed_length, packed_bits, spare_bits, unpacked_packed, negated_length}
use Rattle.model.proofs.Raster.{negated_twice, row_counts_dots, row_totals_sum}
use Rattle.model.proofs.Pictures.{pbm_writes, pgm_writes}
use Rattle.model.proofs.PbmReading.{pbm_reading}
use Rattle.model.proofs.PgmReading.{pgm_reading}

-- ---- PBM
pbm_is_pbm : (z : Size) (dots : List ℕ) → InSize z → IsPbm z (pbm_file z dots)
unfolding pbm_file
pbm_is_pbm z dots i =
    record {
      in_size = i;
      head = pbm_head z;
      is_header = pbm_head_is_header z;
      raster = packed z dots;
      raster_length = packed_length z dots;
      text = refl;
    }

module _ (z : Size) (dots out : List ℕ) (k : ℕ) (done : (write_pbm_call z dots out).reply ≡ result k) where
  pub pbm_written : PbmWritingPromises z dots out k
  unfolding write_pbm_call pbm_is_pbm pbm_file
  pbm_written =
      let file = pbm_file z dots in
      let (taken, long, same) =
      was_done out (record { reply = result (length file); left = sets out 0 file })
      (first_of (write_pbm_refusals z dots (length out))) refl done in
      let (i, exact, bits, room) = pbm_writes z dots (length out) taken in
      let whole : take k (write_pbm_call z dots out).left ≡ file =
      ap (λ o. take k o.left) (sym same) ∙ front out file k long (omega (arith, long)) in
      let p = pbm_is_pbm z dots i in
      record {
        written_pbm_is_file = whole;
        written_pbm_is_pbm = p;
        written_pbm_reads_back = λ d h. rw whole (
          ((pbm_reading file d).pbm_is_read_exactly z).1 (p, h),
          (pbm_reading file d).read_dots_are_bits z p h ∙ ap (sets d 0) (unpacked_packed z dots i.wide.0 exact bits),
        );
        packed_bits_are_dots = λ row col high wide. packed_bits z dots bits high wide;
        spare_bits_are_0 = λ row col high past within. spare_bits z dots bits high past within;
      }

-- ---- PGM
pgm_is_pgm : (z : Size) (gray : List ℕ) → InSize z → length gray ≡ cells_in z → IsPgm z 255 (pgm_file z gray)
unfolding pgm_file
pgm_is_pgm z gray i e =
    record {
      in_size = i;
      allowed = (omega arith, omega arith);
      head = pgm_head z;
      is_header = pgm_head_is_header z;
      raster = negated gray;
      raster_length = negated_length gray ∙ e;
      text = refl;
    }

module _ (z : Size) (gray out : List ℕ) (k : ℕ) (done : (write_pgm_call z gray out).reply ≡ result k)
    (bytes : AtMost 255 gray) where
  pub pgm_written : PgmWritingPromises z gray out k
  unfolding write_pgm_call pgm_is_pgm pgm_file
  pgm_written =
      let file = pgm_file z gray in
      let (taken, long, same) =
      was_done out (record { reply = result (length file); left = sets out 0 file })
      (first_of (write_pgm_refusals z gray (length out))) refl done in
      let (i, exact, room) = pgm_writes z gray (length out) taken in
      let whole : take k (write_pgm_call z gray out).left ≡ file =
      ap (λ o. take k o.left) (sym same) ∙ front out file k long (omega (arith, long)) in
      let p = pgm_is_pgm z gray i exact in
      record {
        written_pgm_is_file = whole;
        written_pgm_is_pgm = p;
        written_pgm_reads_back = λ g h. rw whole (
          ((pgm_reading file g).pgm_is_read_exactly z).1 (p, h),
          (pgm_reading file g).read_gray_is_negated z p h ∙ ap (sets g 0) (negated_twice gray bytes),
        );
      }

-- ---- the dots per row
pub counting : (z : Size) (dots : List ℕ) → length dots ≡ cells_in z → AtMost 1 dots → CountingPromises z dots
counting z dots long bits =
    let same = row_counts_dots z dots long bits in
    record {
      row_counts_are_dots = same;
      row_counts_sum_to_ledger = λ t s e.
          ap pos (ap total same ∙ row_totals_sum z dots long) ∙ total_known t dots s e;
    }
