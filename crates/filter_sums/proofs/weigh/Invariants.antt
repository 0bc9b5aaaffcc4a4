-- `filter_sums::weigh` meets its contract: the sum so far is that of the cells passed, and each term is small.
use Prim.Native.Nat.{ℕ, ◌*◌, ◌≤◌}
use mathlib.Core.List.{List}
use lib.IntN.{ℤ, pos, nat_abs, ◌*ℤ◌}
use mathlib.Core.Path.{◌≡◌}
use lib.ListN.{get_or}
use Rattle.algebra.specs.Sum.{sum_to}
use Rattle.model.specs.Error.{error_of, most_filtered}
use Rattle.filter_sums.proofs.weigh.Given as goal

abbrev pub term : List ℕ → List ℕ → List ℤ → ℕ → ℤ
term gray dots table m = error_of 255 gray dots m *ℤ get_or table m (pos 0)

abbrev pub invariant-loop-m : goal.invariant-loop-m
invariant-loop-m l =
    record {
      is : l.sum ≡ sum_to l.m (term l.gray l.dots l.table);
      size : nat_abs (sum_to l.m (term l.gray l.dots l.table)) ≤ 255 * most_filtered * l.m;
    }
