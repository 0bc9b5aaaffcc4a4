-- `search_count::row_trials` meets its contract: the swaps of the cells of either kind.
use Rattle.std.proofs.Common.{arith}
use Rattle.search_count.proofs.Trials.{row_trials_lem, row_few}
use Rattle.search_count.proofs.row_trials.Goals as goal

pub overflow_add-result : goal.overflow_add-result
overflow_add-result c =
    let a = c.args in
    let few = row_few a.setting.measures a.setting.gray.now a.dots.now c.requires.sized.0.near in
    omega (arith, c.kind_trials-blank.ensures, c.kind_trials-solid.ensures, few 0 a.row a.to, few 1 a.row a.to)

pub returns : goal.returns
returns c =
    let a = c.args in
    let up_to = row_trials_lem a.setting.measures a.setting.gray.now a.dots.now a.row in
    omega (
      arith,
      c.kind_trials-blank.ensures,
      c.kind_trials-solid.ensures,
      up_to a.from (omega arith),
      up_to a.to (omega arith),
    )
