-- `search_toggles::toggle_all` meets its contract: cell by cell, in raster order, it is the reference's toggle scan; where a
-- run of cells is passed over, the reference accepts nothing.
use Prim.Native.Nat.{◌*◌, ◌-◌}
use Rattle.model.specs.Setting.{target_in}
use Rattle.model.specs.Reference.{reference}
use Rattle.model.specs.Scan.{toggles}
use Rattle.invariants.specs.Plate.{cell_of}
use Rattle.invariants.proofs.Scanning.{Scanning}
use Rattle.search_toggles.proofs.toggle_all.Given as goal

-- the cells before this one are done
abbrev pub invariant-loop-cell : goal.invariant-loop-cell
invariant-loop-cell l =
    Scanning l.setting.measures l.setting.psf.now l.setting.gray.now (toggles (target_in l.setting)) (reference l.initial.dots l.initial.progress.stats) l.cell l.dots
    l.table l.progress

abbrev pub decreases-loop-cell : goal.decreases-loop-cell
decreases-loop-cell l = l.setting.measures.height * l.setting.measures.width - cell_of l.setting.measures.width l.cell
