-- `search_count::window` meets its contract: the columns so far are added up.
use mathlib.Core.Path.{◌≡◌}
use Prim.Native.Nat.{◌*◌, ◌≤◌}
use Rattle.search_count.specs.Marks.{window_at}
use Rattle.search_count.proofs.window.Given as goal

abbrev pub invariant-loop-i : goal.invariant-loop-i
invariant-loop-i l = (l.sum ≡ window_at l.columns l.i l.x) × (l.sum ≤ 255 * l.i)
