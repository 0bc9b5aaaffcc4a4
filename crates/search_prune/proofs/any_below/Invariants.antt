-- `search_prune::any_below` meets its contract: as long as nothing was found, no sum so far is below 0.
use mathlib.Core.Bool.{false}
use mathlib.Core.Path.{◌≡◌}
use Rattle.std.proofs.Common.{ℕ, ◌<◌, pos, ◌+ℤ◌, ◌-ℤ◌, ◌*ℤ◌}
use lib.ListN.{get_or}
use lib.Signed.{lt_z}
use Rattle.model.specs.Change.{sign_of}
use Rattle.search_prune.proofs.any_below.Given as goal

abbrev pub invariant-loop-k : goal.invariant-loop-k
invariant-loop-k l =
    l.any ≡ false → (i : ℕ) → i < l.k
    → lt_z (sign_of l.dot *ℤ (l.value -ℤ get_or l.others i (pos 0)) +ℤ get_or l.worths i (pos 0)) (pos 0) ≡ false
