-- `platemaker::pm_swap_scan` meets its contract: a slice is refused, or the call is made and its answer laid out.
use Rattle.model.specs.Calls.{swap_scan_call}
use Rattle.platemaker.proofs.Ledgers.{swap_scan_storable}
use Rattle.platemaker.proofs.Laid.{to_lay, slices_refused, slices_taken}
use Rattle.platemaker.proofs.pm_swap_scan.Goals as goal

pub returns-in-Err : goal.returns-in-Err
returns-in-Err c =
    slices_refused _ _ _ _ _ _ _ _ _ c.in-Err.reason c.in-Err.ensures.drawn c.into.ensures

pub lay_scan-requires : goal.lay_scan-requires
lay_scan-requires c =
    (c.in_default.ensures.sized.1, to_lay _ c.swap_scan-answer.ensures.reply_is (swap_scan_storable _ _ _ _ _ _))

pub returns : goal.returns
returns c =
    slices_taken swap_scan_call _ _ _ _ _ _ c.in_default.ensures.drawn
    c.measures_of.ensures c.stats_of.ensures c.swap_scan-answer.ensures c.lay_scan.ensures
