-- `search_tally::unlocked` meets its contract: so far the unlocked cells before this one are counted.
use mathlib.Core.Bool.{not}
use mathlib.Core.List.{List}
use mathlib.Core.Path.{◌≡◌}
use Prim.Native.Nat.{ℕ, ◌≤◌}
use Rattle.model.specs.Basic.{one_if, tabulate}
use Rattle.model.specs.Lock.{locked}
use Rattle.model.specs.Psf.{total}
use Rattle.search_tally.proofs.unlocked.Given as goal

-- how many of the first k cells are unlocked
abbrev pub open-cells : (gray : List ℕ) (k : ℕ) → ℕ
open-cells gray k = total (tabulate k (λ n. one_if (not (locked gray n))))

abbrev pub invariant-loop-here : goal.invariant-loop-here
invariant-loop-here l = (l.count ≤ l.here-index) × (l.count ≡ open-cells l.gray l.here-index)
