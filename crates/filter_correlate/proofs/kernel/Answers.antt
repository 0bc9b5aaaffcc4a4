-- `filter_correlate::kernel` meets its contract: the autocorrelation is put into the front of an array of zeros.
use Prim.Native.Nat.{◌+◌, ◌*◌}
use lib.IntN.{pos}
use lib.ListN.{drop, replicate}
use Rattle.invariants.proofs.Window.{small_rest}
use Rattle.filter_correlate.proofs.Scatter.{front_holds}
use Rattle.filter_correlate.proofs.kernel.Goals as goal

pub returns : goal.returns
returns c =
    let n = (4 * c.args.radius + 1) * (4 * c.args.radius + 1) in
    front_holds c.args.radius c.args.psf.now (drop n (replicate 169 (pos 0))) c.requires
    c.autocorrelate.ensures (small_rest n 169)
