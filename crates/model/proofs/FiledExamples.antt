-- The examples of specs/FiledExamples.antt, computed.
use mathlib.Core.Path.{refl}
use Rattle.algebra.specs.Sum.{sum_to, sum_from}
use Rattle.model.specs.Basic.{some_below, tabulate, grid_at, square_at}
use Rattle.model.specs.Psf.{total, psf_at, autocorrelation}
use Rattle.model.specs.Error.{kernel, error, filtered_error, filtered_errors, squared_error}
use Rattle.model.specs.Lock.{locked}
use Rattle.model.specs.Refusal.{above, start_refusal}
use Rattle.model.specs.Ledger.{raised, wrong_stats}
use Rattle.model.specs.Change.{made, toggle, swap, change, look_from}
use Rattle.model.specs.Partners.{offsets_of, offsets_from, offsets}
use Rattle.model.specs.Reference.{accept}
use Rattle.model.specs.Scan.{toggles, swaps_by, try_each, sweep_to}
use Rattle.model.specs.Lists.{begin}
use Rattle.model.specs.Text.{digits}
use Rattle.model.specs.Sheet.{names, psf_name, gray_name, dots_name}
use Rattle.model.specs.Format.{head_from, head_by, body, field_at}
use Rattle.model.specs.Grammar.{read_by_grammar}
use Rattle.model.specs.Filed.{figure_parts}
use Rattle.model.specs.FiledCalls.{ledger_fits, rests, verdict_of, check_sheet, check_call}
use Rattle.model.specs.FiledExamples.{FiledExamples}

pub filed_examples : FiledExamples
unfolding sum_to sum_from some_below tabulate grid_at square_at total psf_at autocorrelation kernel error filtered_error
    filtered_errors squared_error locked above start_refusal raised wrong_stats made toggle swap change look_from offsets_of
    offsets_from offsets accept toggles swaps_by try_each sweep_to begin digits names psf_name gray_name dots_name head_from
    head_by body field_at read_by_grammar figure_parts ledger_fits rests verdict_of check_sheet check_call
filed_examples =
    record {
      as_printed = refl;
      another_figure = refl;
      another_dot = refl;
      not_at_rest = refl;
      no_fall = refl;
      too_many_on = refl;
      dot_on_paper = refl;
      zero_before_figure = refl;
      figure_too_large = refl;
      no_figures = refl;
    }
