-- `filter::autocorrelation` meets its contract: what is not refused fits.
use Rattle.std.proofs.Common.{sym}
use Rattle.model.proofs.Refusal.{autocorrelation_fits}
use Rattle.filter.proofs.autocorrelation.Goals as goal

pub autocorrelate-requires : goal.autocorrelate-requires
autocorrelate-requires c = autocorrelation_fits _ _ _ (sym c.in_ok-judge_autocorrelation.ensures)
