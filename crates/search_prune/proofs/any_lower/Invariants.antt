-- `search_prune::any_lower` meets its contract: every trial so far failed.
use Rattle.std.proofs.Common.{ℕ, ◌+◌, ◌<◌, pos}
use lib.ListN.{get_or}
use Rattle.search_runs.specs.Run.{Fails}
use Rattle.search_prune.proofs.any_lower.Given as goal

abbrev pub invariant-loop-k : goal.invariant-loop-k
invariant-loop-k l = (i : ℕ) → i < l.k → Fails l.dots l.table l.m (l.from + i) (get_or l.worths i (pos 0))
