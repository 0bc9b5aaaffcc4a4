-- `filter::filtered_error` meets its contract: what is not refused fits.
use Rattle.std.proofs.Common.{sym}
use Rattle.model.proofs.Refusal.{halftone_fits}
use Rattle.filter.proofs.filtered_error.Goals as goal

pub filter-requires : goal.filter-requires
filter-requires c = halftone_fits _ _ _ _ _ _ _ (sym c.in_ok-judge_halftone.ensures)
