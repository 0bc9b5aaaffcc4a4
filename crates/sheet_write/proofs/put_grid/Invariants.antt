-- `sheet_write::put_grid` meets its contract. The loop's invariant: the values from `i` on are left to put.
use lib.ListN.{drop}
use Rattle.model.specs.Sheet.{grid_text}
use Rattle.model.proofs.Puts.{Left}
use Rattle.sheet_write.proofs.put_grid.Given as goal

abbrev pub invariant-loop-i : goal.invariant-loop-i
invariant-loop-i l = Left (grid_text l.w 0 l.values) l.initial.out l.at (grid_text l.w l.i (drop l.i l.values)) l.out l.next
