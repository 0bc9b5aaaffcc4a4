-- `search_swaps::swap_by` meets its contract: from each cell on, the scan stays as it is up to the first that takes a
-- partner, and the swap with it is the one that a scan accepts there.
use mathlib.Core.Path.{◌≡◌}
use Prim.Native.Nat.{◌*◌, ◌-◌}
use Rattle.model.specs.Basic.{pick}
use Rattle.model.specs.Setting.{target_in}
use Rattle.model.specs.Reference.{reference}
use Rattle.model.specs.Scan.{swaps, trials_to}
use Rattle.invariants.specs.Plate.{cell_of}
use Rattle.invariants.proofs.Scanning.{Scanning}
use Rattle.search_swaps.proofs.swap_by.Given as goal

abbrev pub invariant-loop-task : goal.invariant-loop-task
invariant-loop-task l =
    let t = target_in l.setting in
    let p = reference l.initial.dots l.initial.progress.stats in
    Scanning l.setting.measures l.setting.psf.now l.setting.gray.now (swaps t l.setting.measures.reach) p l.from.at l.dots l.table l.progress
    × (l.trials ≡ pick l.task.counted (trials_to t (swaps t l.setting.measures.reach) p (cell_of l.setting.measures.width l.from.at)) 0)

abbrev pub decreases-loop-task : goal.decreases-loop-task
decreases-loop-task l = l.setting.measures.height * l.setting.measures.width - cell_of l.setting.measures.width l.from.at
