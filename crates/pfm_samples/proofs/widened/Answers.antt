-- `pfm_samples::widened` meets its contract.
use Rattle.std.proofs.Common.{rules}
use mathlib.Core.Bool.{not}
use lib.Ieee.{binary64, fits, is_nan}
use lib.Ieee.Fits.{and_i, fits_widens}
use Rattle.pfm_samples.proofs.Exact.{no_nan}
use Rattle.pfm_samples.proofs.widened.Goals as goal

pub float_to_float-result : goal.float_to_float-result
float_to_float-result c =
    let v = c.args.v in
    and_i (fits binary64 v) (not (is_nan v)) (fits_widens v (search rules)) (no_nan v c.requires)
