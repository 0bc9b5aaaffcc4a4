-- `filter_passes::pass` meets its contract: after k entries of the psf the output is what they come to.
use mathlib.Core.Path.{◌≡◌}
use lib.ListN.{length}
use Rattle.model.specs.Basic.{tabulate}
use Rattle.filter_passes.specs.Passes.{passed_at}
use Rattle.filter_passes.proofs.pass.Given as goal

abbrev pub invariant-loop-k : goal.invariant-loop-k
invariant-loop-k l = l.out ≡ tabulate (length l.initial.out) (passed_at l.width l.height l.radius l.psf l.from l.to l.c l.k)
