-- `pfm_samples::times_255` meets its contract: the product is exact.
use Rattle.pfm_samples.proofs.Exact.{times_exact}
use Rattle.pfm_samples.proofs.times_255.Goals as goal

pub returns : goal.returns
returns c =
    let start = c in
    let wide = c in
    times_exact {v = start.args.v} wide.widened.ensures.0 wide.widened.ensures.1 start.requires.0 start.requires.1
