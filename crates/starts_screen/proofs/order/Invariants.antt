-- `starts_screen::order` meets its contract: the cells passed have their dots, and the next cell stands at (row, col).
use mathlib.Core.List.{List}
use mathlib.Core.Path.{◌≡◌}
use Prim.Native.Nat.{ℕ, ◌+◌, ◌*◌, ◌≤◌, ◌<◌}
use lib.ListN.{length}
use Rattle.model.specs.Screen.{ordered}
use Rattle.model.proofs.Basic.{Filling}
use Rattle.starts_screen.proofs.order.Given as goal

-- after n cells: the dots so far, and where cell n stands
pub record Ordered (width : ℕ) (gray dots : List ℕ) (row col n : ℕ) : Type 0 where
  pub within : n ≤ length gray
  pub place : n ≡ row * width + col
  pub column : col < width
  pub filling : Filling 0 (ordered width gray) (length gray) n dots

abbrev pub invariant-loop-n : goal.invariant-loop-n
invariant-loop-n l = Ordered l.width l.gray l.dots l.row l.col l.n
