-- `search_runs::any_swaps` meets its contract: as long as nothing was found, every trial so far failed.
use mathlib.Core.Path.{◌≡◌}
use Prim.Native.Nat.{◌≤◌}
use Rattle.search_runs.specs.Run.{SwapsClear}
use Rattle.search_runs.proofs.any_swaps.Given as goal

abbrev pub invariant-loop-k : goal.invariant-loop-k
invariant-loop-k l = (l.hits ≡ 0 → SwapsClear l.dots l.table l.worth l.from l.to l.k) × (l.hits ≤ l.k)
