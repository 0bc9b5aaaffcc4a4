-- `starts_screen::threshold` meets its contract: the entry that is read is the one that the rule gives.
use mathlib.Core.Path.{◌∙◌, ap}
use Prim.Native.Nat.{◌+◌, ◌*◌, ◌%◌}
use native.Mathlib.Omega.{arith}
use lib.ListN.{length, get_or}
use Rattle.model.proofs.Screen.{thresholds_long, threshold_entry}
use Rattle.starts_screen.proofs.threshold.Goals as goal

pub bounds-array-row : goal.bounds-array-row
bounds-array-row c = omega (arith, ap length c.requires ∙ thresholds_long)

pub returns : goal.returns
returns c =
    let a = c.args in
    ap (λ l. get_or l (a.row % 16 * 16 + a.col % 16) 0) c.requires ∙ threshold_entry a.row a.col
