-- `search_runs::any_toggles` meets its contract: as long as nothing was found, no toggle so far lowers E.
use mathlib.Core.Bool.{false}
use mathlib.Core.Path.{◌≡◌}
use Rattle.search_runs.specs.Run.{TogglesClear}
use Rattle.search_runs.proofs.any_toggles.Given as goal

abbrev pub invariant-loop-k : goal.invariant-loop-k
invariant-loop-k l = l.any ≡ false → TogglesClear l.peak l.dots l.table l.from l.k
