-- The small files that show the rules of C-11: each answer is computed.
use mathlib.Core.Path.{refl}
use Rattle.model.specs.Basic.{tabulate}
use Rattle.model.specs.Psf.{total}
use Rattle.model.specs.Text.{digits}
use Rattle.model.specs.Netpbm.{packed_byte, packed, bit_at, unpacked, negated, row_counts, pbm_file, pgm_file}
use Rattle.model.specs.PictureHeader.{glyphs, spaces_from, number_from, number_next, end_next, pbm_header, pgm_header}
use Rattle.model.specs.PictureCalls.{read_pbm_call, read_pgm_call}
use Rattle.model.specs.PictureExamples.{PictureExamples}

pub picture_examples : PictureExamples
unfolding tabulate total digits packed_byte packed bit_at unpacked negated row_counts pbm_file pgm_file glyphs spaces_from
    number_from number_next end_next pbm_header pgm_header read_pbm_call read_pgm_call
picture_examples =
    record {
      pbm_is_read = refl;
      comment_in_number = refl;
      comment_is_no_space = refl;
      comment_delimits_nothing = refl;
      raster_too_short = refl;
      raster_too_long = refl;
      pgm_is_read = refl;
      maximum_65535 = refl;
      maximum_65535_in_two_bytes = refl;
      maximum_65536 = refl;
      maximum_0 = refl;
      pbm_is_written = refl;
      pgm_is_written = refl;
      rows_are_counted = refl;
    }
