use Rattle.std.proofs.Common.{arith}
use native.Mathlib.Nat.{le_of_eq}
use mathlib.Core.Path.{sym, ◌∙◌}
use mir.Facts.{to_z-of_z}
use Rattle.filter_window.proofs.Rows.{rows_start, rows_next, rows_end, run_ends}
use Rattle.filter_window.proofs.add_window.Goals as goal

pub loop-y-init : goal.loop-y-init
loop-y-init c = rw c.low-top.ensures (rows_start _ _ _ _ _ _)

pub add_run-requires-clause-n_in_bounds : goal.add_run-requires-clause-n_in_bounds
add_run-requires-clause-n_in_bounds c =
    let r = c.loop-y.invariant in (
      run_ends _ _ _ (omega arith) (omega arith) (le_of_eq (sym (r.long ∙ c.requires.table_len.0))),
      run_ends _ _ _ (omega arith) (omega arith) c.requires.table_len.1,
    )

pub loop-y-preserved : goal.loop-y-preserved
loop-y-preserved c =
    rows_next _ _ _ _ _ _ (omega arith) (omega arith) (omega arith) c.low-left.ensures c.high-right.ensures
    c.loop-y.invariant c.add_run.ensures

pub returns : goal.returns
returns c =
    rw (to_z-of_z c.ranges.amount) at
    (rows_end _ _ _ _ _ _ c.args.height (omega arith) c.requires.table_len.0 (omega arith) c.loop-y.invariant)
