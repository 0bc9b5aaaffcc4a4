-- `search_prune::grid_size` meets its contract: there are at most 13 rows of at most 16 entries.
use Rattle.std.proofs.Common.{◌+◌, ◌*◌, ◌≤◌, ap, arith}
use native.Mathlib.Nat.{mul-le-mul}
use Rattle.algebra.proofs.Machine.{factors_fit}
use Rattle.search_prune.proofs.Grid.{row_length_fits}
use Rattle.search_prune.proofs.grid_size.Goals as goal

pub overflow_mul-result-2 : goal.overflow_mul-result-2
overflow_mul-result-2 c =
    factors_fit 13 16 (omega arith) (omega (arith, c.row_length.ensures, row_length_fits c.requires)) tt

pub returns : goal.returns
returns c =
    let rows : 2 * c.args.reach + 1 ≤ 13 = omega arith in
    let short : c.row_length.result ≤ 16 = omega (arith, c.row_length.ensures, row_length_fits c.requires) in
    (ap (λ n. (2 * c.args.reach + 1) * n) c.row_length.ensures, omega (arith, mul-le-mul rows short))
