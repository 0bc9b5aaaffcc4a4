-- `filter_correlate::correlate` meets its contract: after i entries the output is what their windows come to.
use Prim.Native.Nat.{◌+◌, ◌*◌}
use mathlib.Core.Path.{◌≡◌}
use Rattle.model.specs.Basic.{tabulate}
use Rattle.filter_correlate.specs.Scatter.{mirrored_at}
use Rattle.filter_correlate.proofs.correlate.Given as goal

abbrev pub invariant-loop-i : goal.invariant-loop-i
invariant-loop-i l = l.out ≡ tabulate ((4 * l.radius + 1) * (4 * l.radius + 1)) (mirrored_at l.radius l.p l.i)
