-- `sheet_write::put_row` meets its contract. The loop's invariant: the values from the index on are left to put.
use lib.ListN.{drop}
use Rattle.model.specs.Sheet.{row}
use Rattle.model.proofs.Puts.{Left}
use Rattle.sheet_write.proofs.put_row.Given as goal

abbrev pub invariant-loop-value : goal.invariant-loop-value
invariant-loop-value l = Left (row l.values) l.initial.out l.at (row (drop l.value-index l.values)) l.out l.next
