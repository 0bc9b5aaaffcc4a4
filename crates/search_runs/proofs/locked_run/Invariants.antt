-- `search_runs::locked_run` meets its contract: every cell so far is locked.
use Rattle.search_runs.specs.Run.{RunLocked}
use Rattle.search_runs.proofs.locked_run.Given as goal

abbrev pub invariant-loop-k : goal.invariant-loop-k
invariant-loop-k l = RunLocked l.gray l.from l.k
