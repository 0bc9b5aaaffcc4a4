-- `slices::index` meets its contract: the numbers are small.
use native.Mathlib.Nat.{mul-le-mul}
use Rattle.std.proofs.Common.{arith, ◌≤◌}
use Rattle.slices.proofs.index.Goals as goal

pub overflow_add-result : goal.overflow_add-result
overflow_add-result c =
    let low : c.args.at.row ≤ 256 = omega arith in
    record { fits = omega (arith, mul-le-mul low c.requires.2) }
