-- The promises of document 01 hold (specs/Promises.antt): a line for each, which cites the law that does the work.
use Rattle.model.specs.Change.{toggle_sum, swap_sum, change}
use Rattle.model.specs.Promises.{Promises}
use Rattle.model.proofs.Psf.{autocorrelation_even, autocorrelation_ends}
use Rattle.model.proofs.Psf.{autocorrelation_nonneg, autocorrelation_total}
use Rattle.model.proofs.Halftone.{taken_perceived, taken_nonneg, taken_filtered, taken_squared}
use Rattle.model.proofs.Change.{toggle_change_lem, swap_change_lem, toggle_moves_table, swap_moves_table, change_least}
use Rattle.model.proofs.Attempts.{toggle_tries, swap_tries}
use Rattle.model.proofs.Trials.{all_weighed, weighed_to_accepted, toggle_counts, toggle_few, swap_few}
use Rattle.model.proofs.Pairs.{quiet_pairs}
use Rattle.model.proofs.Start.{start_begins}
use Rattle.model.proofs.Partners.{offsets_ordered}
use Rattle.model.proofs.Converge.{converge_rule, converge_only}
use Rattle.model.proofs.Demand3.{demand_3, left_is_accepted}
use Rattle.model.proofs.State.{fits_accepted, accepted_fits}
use Rattle.model.proofs.Text.{digits_low, digits_more, number_low, number_high, yielded_number, leading_zero}
use Rattle.model.proofs.Text.{nothing_yielded}
use Rattle.model.proofs.Sheet.{read_exactly, read_back, same_text, written_whole, written_back}
use Rattle.model.proofs.Leftmost.{read_within, refused_is_leftmost, leftmost_is_refused, read_draws_nothing}
use Rattle.model.proofs.Printed.{program_promises}
use Rattle.model.proofs.PbmReading.{pbm_reading}
use Rattle.model.proofs.PgmReading.{pgm_reading}
use Rattle.model.proofs.PictureWriting.{pbm_written, pgm_written, counting}
use Rattle.model.proofs.PictureExamples.{picture_examples}
use Rattle.model.proofs.PfmPromised.{pfm_promises}
use Rattle.model.proofs.Balance.{balance_answers, balance_says}
use Rattle.model.proofs.FiledText.{one_filing}
use Rattle.model.proofs.FiledVerdicts.{verdicts_hold}
use Rattle.model.proofs.FiledCheck.{checking, one_figure}
use Rattle.model.proofs.FiledReading.{grammar_filed}
use Rattle.model.proofs.FiledPrinted.{printed_checks}
use Rattle.model.proofs.FiledExamples.{filed_examples}
use Rattle.model.proofs.Longest.{sheet_most, writing_is_long, filed_most}
use Rattle.model.proofs.Interface.{counted, not_counted, measures_draw, ledger_draws}
use Rattle.model.proofs.Interface.{start_over_lem, call_over_lem, over_other_count, call_over_other_count}
use Rattle.model.proofs.Interface.{toggle_is_told, swap_is_told, measures_read, stored_read, run_over_lem}
use Rattle.model.proofs.Examples.{examples, one_sided, of_unlocked, scan_examples, balance_examples}
use Rattle.model.proofs.Screen.{ordered_locks}
use Rattle.model.proofs.Lock.{lock_exactly, holds_blank, holds_solid}
use Rattle.model.proofs.Refusal.{draws_16}

pub promises : Promises
unfolding change toggle_sum swap_sum
promises =
    record {
      autocorrelation_promises = λ r psf. record {
        c_is_even = autocorrelation_even r psf;
        c_ends_at_2r = autocorrelation_ends r psf;
        c_is_not_negative = autocorrelation_nonneg r psf;
        c_sums_to_square = autocorrelation_total r psf;
      };
      error_promises = λ w h r psf gray dots. record {
        squared_error_is_perceived = taken_perceived w h r psf gray dots;
        squared_error_is_not_negative = taken_nonneg w h r psf gray dots;
        table_is_bounded = taken_filtered w h r psf gray dots;
        squared_error_is_bounded = taken_squared w h r psf gray dots;
      };
      lock_promises = λ t dots. record {
        locked_exactly = λ n. lock_exactly t n;
        paper_is_blank = holds_blank t dots;
        lettering_is_solid = holds_solid t dots;
        undrawn_16_holds = (draws_16 t dots).0;
        drawn_16_contradicts = (draws_16 t dots).1;
      };
      change_promises = λ t dots long. record {
        toggle_changes_by = λ bits. toggle_change_lem t dots bits long;
        swap_changes_by = λ bits. swap_change_lem t dots bits long;
        toggle_moves_table = λ bits. toggle_moves_table t dots bits long;
        swap_moves_table = λ bits. swap_moves_table t dots bits long;
        change_below_0_is_a_step = λ v. change_least t dots v long;
      };
      attempt_promises = λ m psf gray dots table s. record {
        toggle_tries = toggle_tries m psf gray dots table s;
        swap_tries = swap_tries m psf gray dots table s;
      };
      start_promises = λ m psf gray. record {
        start_begins = start_begins m psf gray;
        ordered_start_respects_locks = ordered_locks m psf gray;
      };
      scan_promises = record {
        partners_are_ordered = offsets_ordered;
        convergence_keeps_to_rule = converge_rule;
        nothing_else_keeps_to_rule = converge_only;
        all_are_weighed = all_weighed;
        weighed_up_to_accepted = weighed_to_accepted;
        toggle_trials_are_unlocked_cells = toggle_counts;
        quiet_swap_trials_are_pairs = quiet_pairs;
        toggle_trials_are_few = toggle_few;
        swap_trials_are_few = λ t reach p. swap_few t p reach;
      };
      list_promises = λ m psf gray. record {
        demand_3 = demand_3 m psf gray;
        left_is_accepted = left_is_accepted m psf gray;
      };
      state_promises = λ t dots table s. record {
        fitting_state_is_accepted = fits_accepted t dots table s;
        accepted_state_fits = accepted_fits t dots table s;
      };
      number_promises = record {
        one_digit = digits_low;
        higher_digits_first = digits_more;
        number_is_yielded = number_low;
        above_256_is_257 = number_high;
        yielded_is_a_number = yielded_number 257;
        no_digit_after_0 = leading_zero;
        nothing_past_the_end = nothing_yielded;
      };
      reading_promises = λ b p g d. record {
        read_sheet_is_text = read_exactly b p g d;
        text_is_read = λ s (e, v, f). read_back b p g d s e v f;
        refused_is_leftmost = refused_is_leftmost b p g d;
        leftmost_is_refused = leftmost_is_refused b p g d;
        read_sheet_draws_nothing = read_draws_nothing b p g d;
        offset_is_within = read_within b p g d;
      };
      one_text_one_sheet = same_text;
      writing_promises = λ m psf gray dots out k done psf-bytes gray-bytes. record {
        written_sheet_is_text = written_whole m psf gray dots out k done psf-bytes gray-bytes;
        written_sheet_reads_back = written_back m psf gray dots out k done psf-bytes gray-bytes;
      };
      program_promises = program_promises;
      picture_promises = record {
        pbm_reading_promises = pbm_reading;
        pgm_reading_promises = pgm_reading;
        pbm_writing_promises = pbm_written;
        pgm_writing_promises = pgm_written;
        counting_promises = counting;
        picture_examples_hold = picture_examples;
      };
      pfm_promises = pfm_promises;
      balance_promises = λ z gray dots. record {
        balance_is_judged = balance_answers z gray dots;
        balance_says = balance_says z gray dots;
      };
      filed_promises = record {
        check_promises = checking;
        verdict_promises = λ bytes psf gray dots table s f c.
            verdicts_hold s f c.is_filed.is_valid c.is_filed.is_given c.sum_low c.sum_high;
        grammar_is_of_filed_sheets = grammar_filed;
        one_text_one_filing = one_filing;
        filed_sheets_are_short = filed_most;
        settle_prints_what_checks = printed_checks;
        no_other_figure_checks = one_figure;
        filed_examples_hold = filed_examples;
      };
      sheets_are_short = sheet_most;
      so_many_bytes_suffice = writing_is_long;
      interface_promises = λ measures psf gray. record {
        stored_measures_read_back = measures_read;
        stored_stats_read_back = stored_read;
        start_takes_its_slices = start_over_lem measures psf gray;
        calls_take_their_slices = call_over_lem measures psf gray;
        reading_takes_its_slice = λ bytes dots. counted _ measures _ _;
        writing_takes_its_slice = λ dots out. counted _ measures out _;
        start_wants_all_measures = λ dots table stats h. over_other_count measures psf gray dots table stats h _;
        calls_want_all_measures = call_over_other_count measures psf gray;
        measures_are_judged_next = measures_draw measures;
        ledger_is_counted_last = ledger_draws measures;
        reading_wants_all_measures = λ bytes dots. not_counted _ measures _ _;
        writing_wants_all_measures = λ dots out. not_counted _ measures out _;
        toggle_is_told = toggle_is_told measures psf gray;
        swap_is_told = swap_is_told measures psf gray;
        interface_lists_are_lists = run_over_lem measures psf gray;
      };
      examples_hold = examples;
      half_peak_is_one_sided = one_sided;
      rest_is_of_unlocked_cells = of_unlocked;
      scan_examples_hold = scan_examples;
      balance_examples_hold = balance_examples;
    }
