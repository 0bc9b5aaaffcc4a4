-- The starred examples of document 01 hold (`examples`), plates at rest break the half-peak bound on its other side
-- (`one_sided`), others break it and both tests of rest at a locked cell (`of_unlocked`), scans make their trials
-- (`scan_examples`), and tone balances are what they are (`balance_examples`): each figure is computed from the sums.
use mathlib.Core.Path.{refl}
use native.Mathlib.Omega.{arith}
use Rattle.algebra.specs.Sum.{sum_to, sum_from}
use Rattle.model.specs.Basic.{tabulate, grid_at, square_at, some_below}
use Rattle.model.specs.Psf.{total, psf_at, autocorrelation}
use Rattle.model.specs.Error.{kernel, error, filtered_error, filtered_errors, squared_error}
use Rattle.model.specs.Lock.{locked}
use Rattle.model.specs.Screen.{bayer, threshold_at, blank, ordered, start_dots}
use Rattle.model.specs.Refusal.{above, start_refusal}
use Rattle.model.specs.Ledger.{raised, wrong_stats, fresh_stats}
use Rattle.model.specs.State.{bad_table}
use Rattle.model.specs.State.{later_refusal, toggle_refusal, swap_refusal}
use Rattle.model.specs.Reference.{accept, stats_of, attempt}
use Rattle.model.specs.Partners.{offsets_of, offsets_from, offsets}
use Rattle.model.specs.Scan.{toggles, swaps_by, try_each, sweep_to, converge_in, converge_from, converge}
use Rattle.model.specs.Scan.{progress_of, trials_at, scan}
use Rattle.model.specs.Calls.{later_call, start_call, toggle_call, swap_call, toggle_scan_call, swap_scan_call, converge_call}
use Rattle.model.specs.Text.{digits}
use Rattle.model.specs.Sheet.{names, psf_name, gray_name, dots_name, sheet_text}
use Rattle.model.specs.Format.{head_from, body, field_at, head_by, body_end, read_sheet}
use Rattle.model.specs.Program.{refused_text, figures_text, processed_text, output}
use Rattle.model.specs.Examples.{worked_input, worked_output, Examples, dark, dark_dots, light, light_dots, OneSided}
use Rattle.model.specs.Balance.{tone_difference, divided, balance_call}
use Rattle.model.specs.Examples.{ring, ring_blank, ring_dot, OfUnlocked, ScanExamples, BalanceExamples}
use Rattle.model.specs.Change.{made, toggle, swap, change, look_from}
use Rattle.model.proofs.Refusal.{none_above}
use Rattle.model.proofs.Rest.{rest_tested}

pub examples : Examples
unfolding sum_to sum_from tabulate grid_at square_at psf_at autocorrelation kernel error filtered_error filtered_errors
    squared_error total locked bayer threshold_at blank ordered start_dots above some_below bad_table wrong_stats toggle_refusal swap_refusal
    made toggle swap raised accept stats_of change attempt later_call toggle_call swap_call
    later_refusal start_refusal fresh_stats start_call offsets_of offsets_from offsets toggles swaps_by look_from try_each
    sweep_to converge_in converge_from converge converge_call digits names psf_name gray_name dots_name sheet_text
    head_from body field_at head_by body_end read_sheet refused_text figures_text processed_text output worked_input worked_output
examples =
    record {
      black_blank = refl;
      black_change = refl;
      black_start = refl;
      black_blank_is_refused = refl;
      black_dot_is_refused = refl;
      over_half_toggle = refl;
      under_half_toggle = refl;
      even_at_0 = refl;
      even_at_1 = refl;
      even_at_2 = refl;
      pair_blank_table = refl;
      pair_blank_error = refl;
      pair_toggle = refl;
      pair_tie = refl;
      pair_dot_table = refl;
      pair_dot_error = refl;
      pair_swap = refl;
      pair_converges = refl;
      lopsided_at_0 = refl;
      lopsided_right = refl;
      lopsided_left = refl;
      threshold_0_0 = refl;
      threshold_0_1 = refl;
      threshold_1_0 = refl;
      threshold_1_1 = refl;
      ordered_127 = refl;
      ordered_128 = refl;
      worked_start = refl;
      worked_converges = refl;
      worked_output_lem = refl;
    }

pub one_sided : OneSided
unfolding sum_to sum_from tabulate grid_at square_at psf_at autocorrelation kernel error filtered_error filtered_errors
    squared_error above some_below locked made toggle swap change
one_sided =
    record {
      dark_table = refl;
      dark_rests = rest_tested dark dark_dots (omega arith) refl (record { long = refl; bits = record { each = none_above 1 dark_dots refl } }) refl refl;
      below_under_dot = λ h. h.le;
      light_table = refl;
      light_rests = rest_tested light light_dots (omega arith) refl (record { long = refl; bits = record { each = none_above 1 light_dots refl } }) refl refl;
      above_under_blank = λ h. h.le;
    }

pub of_unlocked : OfUnlocked
unfolding sum_to sum_from tabulate grid_at square_at psf_at autocorrelation kernel error filtered_error filtered_errors
    squared_error above some_below locked made toggle swap change
of_unlocked =
    record {
      blank_ring_rests =
          rest_tested (ring 31) ring_blank (omega arith) refl
          (record { long = refl; bits = record { each = none_above 1 ring_blank refl } }) refl refl;
      paper_toggle_lowers = refl;
      paper_table = refl;
      below_under_paper = λ h. h.le;
      dot_ring_rests =
          rest_tested (ring 32) ring_dot (omega arith) refl
          (record { long = refl; bits = record { each = none_above 1 ring_dot refl } }) refl refl;
      paper_swap_lowers = refl;
    }

pub scan_examples : ScanExamples
unfolding sum_to sum_from tabulate grid_at square_at psf_at autocorrelation kernel error filtered_error filtered_errors
    squared_error total locked above some_below bad_table wrong_stats made toggle swap raised accept stats_of change
    later_call toggle_scan_call swap_scan_call later_refusal offsets_of offsets_from offsets toggles swaps_by look_from try_each
    progress_of sweep_to trials_at scan
scan_examples = record { pair_toggle_scan = refl; pair_swap_scan = refl; row_swap_scan = refl }

pub balance_examples : BalanceExamples
unfolding total above tone_difference divided balance_call
balance_examples =
    record { one_below = refl; four_below = refl; five_below = refl; none_apart = refl; five_above = refl }
