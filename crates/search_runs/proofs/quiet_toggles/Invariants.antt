-- `search_runs::quiet_toggles` meets its contract: no toggle so far lowers E.
use Rattle.search_runs.specs.Run.{TogglesClear}
use Rattle.search_runs.proofs.quiet_toggles.Given as goal

abbrev pub invariant-loop-k : goal.invariant-loop-k
invariant-loop-k l = TogglesClear l.peak l.dots l.table l.from l.k
