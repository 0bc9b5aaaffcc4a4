-- The table of examples of C-16, filled by computing.
use mathlib.Core.Path.{refl}
use lib.Count.{count_trailing_zeros}
use lib.Ieee.{odd, of_fields, of_bits, nan_bits, lt, le, eq}
use Rattle.model.specs.Basic.{tabulate}
use Rattle.model.specs.Format.{field_at}
use Rattle.model.specs.Pfm.{word_at, sample_of, brightness, first_no_shade, raster_gray}
use Rattle.model.specs.PfmCalls.{size_parts, scale_after, pfm_lines, samples_call, read_pfm_call}
use Rattle.model.specs.PfmExamples.{PfmExamples}

pub pfm_examples : PfmExamples
unfolding read_pfm_call samples_call pfm_lines scale_after size_parts field_at raster_gray first_no_shade sample_of brightness word_at
    tabulate of_bits of_fields odd nan_bits lt le eq count_trailing_zeros
pfm_examples =
    record {
      pfm_is_read = refl;
      minus_zero_is_read = refl;
      above_1 = refl;
      second_sample = refl;
      leading_zero = refl;
      other_scale = refl;
      too_short = refl;
      too_long = refl;
      no_room = refl;
      half = refl;
      below_half = refl;
      below_257 = refl;
      above_257 = refl;
      below_509 = refl;
      above_509 = refl;
      smallest = refl;
      below_0 = refl;
      infinity = refl;
    }
