-- `search_swaps::next_taker` meets its contract: at each cell the partners are tried in order, and where one is taken the
-- cell is the first that takes one.
use Prim.Native.Nat.{◌*◌, ◌-◌, ◌≤◌}
use lib.ListN.{length}
use Rattle.model.specs.Setting.{target_in}
use Rattle.invariants.specs.Plate.{OnWay, cell_of}
use Rattle.invariants.specs.Trials.{Failed, Quiet}
use Rattle.search_swaps.proofs.next_taker.Given as goal

abbrev pub invariant-partners : goal.invariant-partners
invariant-partners l = (l.k ≤ length l.offers.codes.now) × Failed (target_in l.setting) l.setting.measures.reach l.dots (cell_of l.setting.measures.width l.at) l.k

abbrev pub decreases-partners : goal.decreases-partners
decreases-partners l = length l.offers.codes.now - l.k

abbrev pub invariant-loop-at : goal.invariant-loop-at
invariant-loop-at l =
    OnWay l.setting.measures l.at
    × Quiet (target_in l.setting) l.setting.measures.reach l.dots (cell_of l.setting.measures.width l.initial.at)
    (cell_of l.setting.measures.width l.at)

abbrev pub decreases-loop-at : goal.decreases-loop-at
decreases-loop-at l = l.setting.measures.height * l.setting.measures.width - cell_of l.setting.measures.width l.at
