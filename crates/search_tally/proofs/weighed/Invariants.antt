-- `search_tally::weighed` meets its contract: so far the swaps with the partners at the first offsets are counted.
use mathlib.Core.Path.{◌≡◌}
use lib.ListN.{length, take}
use Rattle.model.specs.Partners.{offsets}
use Rattle.model.specs.Scan.{swaps_by}
use Rattle.model.specs.Setting.{target_in}
use Rattle.invariants.specs.Plate.{cell_of}
use Rattle.search_tally.proofs.weighed.Given as goal

abbrev pub invariant-loop-j : goal.invariant-loop-j
invariant-loop-j l =
    l.count ≡ length (swaps_by (target_in l.setting) (take l.j (offsets l.setting.measures.reach)) l.dots
    (cell_of l.setting.measures.width l.at))
