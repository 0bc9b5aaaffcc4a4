-- `search_runs::swaps_clear` meets its contract: at the offsets so far every trial of the run fails.
use Prim.Native.Nat.{ℕ, ◌≤◌, ◌<◌}
use lib.IntN.{pos}
use lib.ListN.{length, get_or}
use Rattle.search_runs.proofs.Run.{ClearAt}
use Rattle.search_runs.proofs.swaps_clear.Given as goal

abbrev pub invariant-loop-j : goal.invariant-loop-j
invariant-loop-j l =
    (i : ℕ) → l.j ≤ i → i < length l.codes → ClearAt l.width l.m l.dots l.table (get_or l.codes i 0) (get_or l.worths i (pos 0)) l.n
