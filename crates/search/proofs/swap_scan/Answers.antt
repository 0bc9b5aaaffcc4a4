-- `search::swap_scan` meets its contract: refused for the judge's reason, or the reference's swap scan.
use Rattle.model.specs.Calls.{swap_scan_call}
use Rattle.model.specs.Scan.{swaps}
use Rattle.invariants.proofs.Plate.{as_reply_lem, leaves_ends}
use Rattle.invariants.proofs.Scanning.{scan_leaves}
use Rattle.search.proofs.swap_scan.Goals as goal

pub returns : goal.returns
unfolding swap_scan_call
returns c =
    leaves_ends c.args.dots.now c.args.table.now c.in_ok-c.ensures.0
    (as_reply_lem (scan_leaves (swaps _ _) _ c.result_of.ensures c.swap_counted-done.ensures.trials_value
    c.swap_counted-done.ensures.fact))
