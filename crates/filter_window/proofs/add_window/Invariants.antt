-- `filter_window::add_window` meets its contract. The loop's invariant: the window is added to the rows above y.
use Rattle.filter_window.proofs.Rows.{Rows}
use Rattle.filter_window.proofs.add_window.Given as goal

abbrev pub invariant-loop-y : goal.invariant-loop-y
invariant-loop-y l = Rows l.width l.reach l.at.row l.at.col l.c l.amount l.y l.initial.table l.table
