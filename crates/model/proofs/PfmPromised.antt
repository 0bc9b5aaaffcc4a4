-- The promises of C-16, one line a promise.
use Prim.Native.Nat.{ℕ, ◌^◌, ◌<◌}
use Rattle.model.specs.PfmPromises.{SamplePromises, PfmPromises}
use Rattle.model.proofs.Samples.{shade_bits, bits_shade, no_number_bits, shade_by_value, no_number_by_value}
use Rattle.model.proofs.Samples.{outside_by_value, value_by_bits, one_tie, is_nearest, only_nearest}
use Rattle.model.proofs.Samples.{brightness_most}
use Rattle.model.proofs.Longest.{pfm_most}
use Rattle.model.proofs.PfmVerdicts.{judged, one_header, read_exactly, row_first}
use Rattle.model.proofs.PfmExamples.{pfm_examples}

samples : (n : ℕ) → n < 2 ^ 32 → SamplePromises n
samples n l =
    let (shade, by-shade) = shade_by_value n in
    let (number, by_number) = no_number_by_value n in
    let (outside, by-outside) = outside_by_value n in
    let (bits, by_bits) = no_number_bits n in
    record {
      shade_by_bits = (λ e. shade_bits n l (shade e), λ b. by-shade (bits_shade n l b));
      no_number_by_bits = (λ e. bits (number e), λ b. by_number (by_bits b));
      outside_by_bits = (
        λ e. let (p, q) = outside e in (λ b. p (bits_shade n l b), λ b. q (by_bits b)),
        λ b. by-outside (λ v. b.0 (shade_bits n l v), λ v. b.1 (bits v)),
      );
      shade_by_value = shade_by_value n;
      no_number_by_value = no_number_by_value n;
      outside_by_value = outside_by_value n;
      value_by_bits = value_by_bits n;
      one_tie = λ e. one_tie n l (shade e);
    }

pub pfm_promises : PfmPromises
pfm_promises =
    record {
      sample_promises = samples;
      brightness_promises = λ v. record {
        brightness_is_nearest = is_nearest v;
        nothing_else_is_nearest = only_nearest v;
        brightness_is_byte = brightness_most v;
      };
      pfm_reading_promises = λ file gray. record {
        pfm_is_judged = judged file gray;
        one_header = one_header file;
        pfm_is_read_exactly = read_exactly file gray;
        lowest_row_comes_first = λ h p e row col high wide. row_first file gray h high wide p e;
      };
      pfms_are_short = pfm_most;
      pfm_examples_hold = pfm_examples;
    }
