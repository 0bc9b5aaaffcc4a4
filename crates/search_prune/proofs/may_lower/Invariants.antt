-- `search_prune::may_lower` meets its contract: the rows above y are clear.
use Rattle.search_prune.specs.Grid.{RowsClear}
use Rattle.search_prune.proofs.may_lower.Given as goal

abbrev pub invariant-loop-y : goal.invariant-loop-y
invariant-loop-y l = RowsClear l.width l.y l.reach l.dots l.table l.grid l.at.row l.at.col
