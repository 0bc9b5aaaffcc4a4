-- `search::toggle_scan` meets its contract: refused for the judge's reason, or the reference's toggle scan.
use Rattle.model.specs.Calls.{toggle_scan_call}
use Rattle.model.specs.Scan.{toggles}
use Rattle.invariants.proofs.Plate.{as_reply_lem, leaves_ends}
use Rattle.invariants.proofs.Scanning.{scan_leaves}
use Rattle.search.proofs.Unlocked.{unlocked_trials}
use Rattle.search.proofs.toggle_scan.Goals as goal

pub returns : goal.returns
unfolding toggle_scan_call
returns c =
    leaves_ends c.args.dots.now c.args.table.now c.in_ok-c.ensures.0
    (as_reply_lem (scan_leaves (toggles _) _ c.result_of.ensures
    (unlocked_trials c.in_ok-c.ensures.1.later _ c.unlocked.ensures) c.toggle_all-progress.ensures))
