-- `filter_passes::add_rows` meets its contract. The loop's invariant: the rows above y are added.
use Rattle.filter_passes.specs.Passes.{Added}
use Rattle.filter_passes.proofs.add_rows.Given as goal

abbrev pub invariant-loop-y : goal.invariant-loop-y
invariant-loop-y l = Added l.at l.stride l.c l.from l.span l.n l.y l.amount l.initial.table l.table
