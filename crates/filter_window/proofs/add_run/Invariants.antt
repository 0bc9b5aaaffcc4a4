-- `filter_window::add_run` meets its contract. The loop's invariant: a run of k entries is added. Each sum is of two
-- numbers of at most `most_filtered`, so it fits.
use Rattle.filter_window.specs.Run.{Ran}
use Rattle.filter_window.proofs.add_run.Given as goal

abbrev pub invariant-loop-k : goal.invariant-loop-k
invariant-loop-k l = Ran l.at l.c l.from l.amount l.k l.initial.table l.table
